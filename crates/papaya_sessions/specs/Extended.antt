-- That a session has put what an iterator gave into its map, one after another.
use Rattle.std.specs.Prelude.{◌≡◌, ◌++◌, ℕ, Bool, List, [], ◌∷◌, Option, Result, MatchResult}
use Rattle.std.specs.Iterator.{Drains, Yields}
use Rattle.papaya_sessions.specs.OneMap.{MapCameToHave, WasRefused}
use Rattle.papaya_sessions.specs.Sessions.{IsOnSameMap}
use Rattle.play_moves.specs.Given.ActsActs.{Insert}
use Rattle.seize_words.specs.declared.refused.Refused.{Refused}
use Rattle.threads_updates.specs.Given.CallersDeclared.caller.MapCaller.{MapCaller}

module _ {K V S X : Type 0} (Puts : X → MapCaller K V S → MapCaller K V S → Type 0) where
  -- each of these, in their order, and nothing else
  abbrev pub PutsAll : List X → MapCaller K V S → MapCaller K V S → Type 0
  PutsAll [] c n = n ≡ c
  PutsAll (x ∷ xs) c n = (u : MapCaller K V S) × Puts x c u × PutsAll xs u n

  -- What the iterator gave was put there: all that it gives; or what it gave before the one that was refused, which comes back, and no further one was asked for.
  pub record Extends {I T E : Type 0} (becomes : I → T → Type 0) (steps : T → Option X → T → Type 0) (back : E → X) (Refuses : E → MapCaller K V S → MapCaller K V S → Type 0) (items : I)
      (result : Result (Unit {0}) E) (c n : MapCaller K V S) : Type 0 where
    pub source : T
    pub begins : becomes items source
    pub given : List X
    pub before : MapCaller K V S
    pub stored : PutsAll given c before
    pub ended : MatchResult result (λ _. Drains steps source given × (n ≡ before)) (λ e. ((rest : T) × Yields steps source (given ++ (back e ∷ [])) rest) × Refuses e before n)

-- the pair that comes back
abbrev pub pair_of : {K V : Type 0} → Refused K V → K × V
pair_of r = (r.key, r.value)

module _ {K V S : Type 0} (same : K → K → Bool) (hash : S → K → ℕ) where
  -- it has made one call more, on the same map, which stores this pair
  abbrev pub PutsPair : K × V → MapCaller K V S → MapCaller K V S → Type 0
  PutsPair pair c n = (replaced : Bool) × IsOnSameMap c n × MapCameToHave same hash pair.0 pair.1 replaced c n

  -- or one that was to store it, and was refused
  abbrev pub RefusesPair : Refused K V → MapCaller K V S → MapCaller K V S → Type 0
  RefusesPair r c n = WasRefused same hash (Insert r.key r.value) r.fault c n
