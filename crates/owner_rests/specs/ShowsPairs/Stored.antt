-- Pairs that were stored in a map for one owner one after another: those that an iterator gave, and those of which a map was made.
use Rattle.std.specs.Prelude.{◌≡◌, Bool, true, List, [], ◌∷◌, Option, None, Some, Result, MatchResult}
use Rattle.std.specs.Iterator.{Drains}
use Rattle.std.specs.List.{AllZip}
use Rattle.std.specs.List.Sorted.{IsPermutation}
use Rattle.seize_words.specs.declared.refused.Refused.{Refused}
use Rattle.owner_rests.specs.Given.{Balanced, found_by}
use Rattle.owner_asks.specs.Pairs.Puts.{Gave, IsCloneOf, last_put, last_taken, put, put_all}
use Rattle.owner_rests.specs.ShowsPairs.Maps.{Keeps, LastTook, Map}

module _ {K V S : Type 0} (same : K → K → Bool) where
  -- A pair was stored in a map, in the place of that of its key, if there was one: this one can be looked at, whichever order the pairs were in, and so can the
  -- new one.
  pub record HasPut (x : K × V) (before after : Map K V S) : Type 0 where
    pub pairs : IsPermutation after.pairs (put same before.pairs x)
    pub held : Keeps (x ∷ []) before after
    pub taken : (xs : List (K × V)) → IsPermutation before.pairs xs → after.taken ≡ found_by (same x.0) xs
    pub met : after.met ≡ Some x

  -- What an iterator gave was stored in a map, one pair after another. All that was held before, and that was stored, is held, or was given back, each as often.
  -- The last one can be looked at, and what it took out; where none came, what could be looked at before; and where one was refused, nothing.
  pub record Extends {I T : Type 0} (becomes : I → T → Type 0) (steps : T → Option (K × V) → T → Type 0) (items : I) (before after : Map K V S) (result : Result (Unit {0}) (Refused K V)) : Type 0 where
    pub given : List (K × V)
    pub gave : Gave becomes steps (λ (r : Refused K V). (r.key, r.value)) items given result
    pub pairs : IsPermutation after.pairs (put_all same before.pairs given)
    pub held : Balanced given before.held after.held
    pub last : MatchResult result (λ _. LastTook after (last_taken same before.taken before.pairs given) (last_put before.met given)) (λ _. LastTook after None None)

  -- A map was made of these pairs, stored one after another. All of them are held, or were given back, each as often. The last one can be looked at, and what it
  -- took out.
  pub record IsMadeOf (given : List (K × V)) (map : Map K V S) : Type 0 where
    pub pairs : IsPermutation map.pairs (put_all same [] given)
    pub held : Balanced given [] map.held
    pub last : LastTook map (last_taken same None [] given) (last_put None given)

  -- A map was made of all that an iterator gives.
  pub record Collects {I T : Type 0} (becomes : I → T → Type 0) (steps : T → Option (K × V) → T → Type 0) (items : I) (map : Map K V S) : Type 0 where
    pub source : T
    pub begins : becomes items source
    pub given : List (K × V)
    pub drains : Drains steps source given
    pub made : IsMadeOf given map

  -- A map was made of clones of these pairs.
  pub record IsMadeOfClones (key_clone : K → K → Type 0) (value_clone : V → V → Type 0) (originals : List (K × V)) (map : Map K V S) : Type 0 where
    pub clones : List (K × V)
    pub each : AllZip (IsCloneOf key_clone value_clone) originals clones
    pub made : IsMadeOf clones map

-- a clone equals its original, by this equality
abbrev pub ClonesAreEqual : {T : Type 0} → (T → T → Bool) → (T → T → Type 0) → Type 0
ClonesAreEqual {T} equal is_clone = (x y : T) → is_clone x y → equal x y ≡ true
