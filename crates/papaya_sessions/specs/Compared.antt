-- That a session has compared its map with that of another one: what its walk has told was looked up there by a pass.
use Rattle.std.specs.Prelude.{◌≡◌, ◌≢◌, ◌⊎◌, ℕ, Bool, true, false, List, [], ◌∷◌, Option, Some, None}
use Rattle.papaya_sessions.specs.OneMap.{MapCounted, MapWasShown, WasRefused}
use Rattle.papaya_sessions.specs.Under.{HasGotUnder}
use Rattle.play_moves.specs.Given.ViewsDeclared.view.View.{View}
use Rattle.seize_words.specs.declared.fault.Fault.{Fault}
use Rattle.threads_sweeps.specs.Onlookers.{HasTold}
use Rattle.threads_sweeps.specs.Swept.{walks}
use Rattle.threads_updates.specs.Given.CallersDeclared.caller.MapCaller.{MapCaller}

-- whether a value was found that equals this one
abbrev pub is_found : {V : Type 0} → (V → V → Bool) → V → Option V → Bool
is_found equal value None = false
is_found equal value (Some there) = equal value there

-- Under a session of the other map.
module _ {K V T : Type 0} (same : K → K → Bool) (by : T → K → ℕ) (equal : V → V → Bool) (o : MapCaller K V T) where
  -- The key of this pair was looked up, and an equal value was there, or not.
  abbrev pub HasComparedPair : K × V → Bool → View K V T → View K V T → Type 0
  HasComparedPair pair alike v w = (found : Option V) × HasGotUnder same by pair.0 o found v w × (alike ≡ is_found equal pair.1 found)

  -- It was, as long as all were alike that came before; else no more is looked up.
  abbrev pub ComparesOnce : K × V → Bool → View K V T → Bool → View K V T → Type 0
  ComparesOnce pair true v now w = HasComparedPair pair now v w
  ComparesOnce pair false v now w = (now ≡ false) × (w ≡ v)

  -- These were, one after another, up to the first of which no equal value was there: they are alike where there was no such pair.
  abbrev pub HasComparedAll : List (K × V) → Bool → View K V T → View K V T → Type 0
  HasComparedAll [] alike v w = (alike ≡ true) × (w ≡ v)
  HasComparedAll (pair ∷ rest) alike v w =
      (u : View K V T) × ((HasComparedPair pair true v u × HasComparedAll rest alike u w) ⊎ (HasComparedPair pair false v u × (alike ≡ false) × (w ≡ u)))

module _ {K V S T : Type 0} (same : K → K → Bool) (hash : S → K → ℕ) (by : T → K → ℕ) where
  -- The session has gone over its map, and what the walk has told was compared by a pass under that one, which had looked nothing up before.
  pub record HasCompared (equal : V → V → Bool) (alike : Bool) (c n : MapCaller K V S) (o : MapCaller K V T) : Type 0 where
    pub pairs : List (K × V)
    pub told : HasTold same hash pairs c.seat.view n.seat.view
    pub shown : MapWasShown same hash c n
    pub first : View K V T
    pub none : first.calls ≡ []
    pub last : View K V T
    pub compared : HasComparedAll same by equal o pairs alike first last

  -- Both maps were counted,
  pub record WereCounted (c n : MapCaller K V S) (o p : MapCaller K V T) (Equals : ℕ → ℕ → Type 0) : Type 0 where
    pub count : ℕ
    pub counted : MapCounted same hash count c n
    pub others : ℕ
    pub counted_there : MapCounted same by others o p
    pub so : Equals count others

  -- and where the counts differ, that is all; else they were compared.
  abbrev pub HasComparedMaps : (V → V → Bool) → Bool → MapCaller K V S → MapCaller K V S → MapCaller K V T → MapCaller K V T → Type 0
  HasComparedMaps equal alike c n o p =
      (WereCounted c n o p (λ x y. x ≢ y) × (alike ≡ false)) ⊎ ((u : MapCaller K V S) × WereCounted c u o p (λ x y. x ≡ y) × HasCompared equal alike u n p)

  -- Or the walk was refused.
  abbrev pub WasNotCompared : Fault → MapCaller K V S → MapCaller K V S → MapCaller K V T → MapCaller K V T → Type 0
  WasNotCompared fault c n o p = (u : MapCaller K V S) × WereCounted c u o p (λ x y. x ≡ y) × WasRefused same hash walks fault u n
