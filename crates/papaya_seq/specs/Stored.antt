-- Elements that were stored in a set for one owner one after another: those that an iterator gave, and those of which a set was made.
use Rattle.std.specs.Prelude.{◌≡◌, Bool, List, [], ◌∷◌, Option, None, Some, Result, MatchResult, find}
use Rattle.std.specs.Iterator.{Drains}
use Rattle.std.specs.List.{AllZip}
use Rattle.std.specs.List.Sorted.{IsPermutation}
use Rattle.owner_map.specs.Given.{Balanced, Gave, RefusedKey, last_put}
use Rattle.papaya_seq.specs.Sets.{KeepsIn, LastTookOut, Set, last_taken_in, put_in, put_all_in}

module _ {K S : Type 0} (same : K → K → Bool) where
  -- An element was stored in a set, in the place of the one that equals it, if there was one: this one can be looked at, whichever order the elements were in, and
  -- so can the new one.
  pub record HasPutIn (x : K) (before after : Set K S) : Type 0 where
    pub elements : IsPermutation after.elements (put_in same before.elements x)
    pub held : KeepsIn (x ∷ []) before after
    pub taken : (xs : List K) → IsPermutation before.elements xs → after.taken ≡ find (same x) xs
    pub met : after.met ≡ Some x

  -- What an iterator gave was stored in a set, one element after another. All that was held before, and that was stored, is held, or was given back, each as
  -- often. The last one can be looked at, and what it took out; where none came, what could be looked at before; and where one was refused, nothing.
  pub record ExtendsSet {I T : Type 0} (becomes : I → T → Type 0) (steps : T → Option K → T → Type 0) (items : I) (before after : Set K S) (result : Result (Unit {0}) (RefusedKey K)) : Type 0 where
    pub given : List K
    pub gave : Gave becomes steps (λ (r : RefusedKey K). r.key) items given result
    pub elements : IsPermutation after.elements (put_all_in same before.elements given)
    pub held : Balanced given before.held after.held
    pub last : MatchResult result (λ _. LastTookOut after (last_taken_in same before.taken before.elements given) (last_put before.met given)) (λ _. LastTookOut after None None)

  -- A set was made of these elements, stored one after another. All of them are held, or were given back, each as often. The last one can be looked at, and what
  -- it took out.
  pub record IsSetMadeOf (given : List K) (set : Set K S) : Type 0 where
    pub elements : IsPermutation set.elements (put_all_in same [] given)
    pub held : Balanced given [] set.held
    pub last : LastTookOut set (last_taken_in same None [] given) (last_put None given)

  -- A set was made of all that an iterator gives.
  pub record CollectsSet {I T : Type 0} (becomes : I → T → Type 0) (steps : T → Option K → T → Type 0) (items : I) (set : Set K S) : Type 0 where
    pub source : T
    pub begins : becomes items source
    pub given : List K
    pub drains : Drains steps source given
    pub made : IsSetMadeOf given set

  -- A set was made of clones of these elements.
  pub record IsSetMadeOfClones (is_clone : K → K → Type 0) (originals : List K) (set : Set K S) : Type 0 where
    pub clones : List K
    pub each : AllZip is_clone originals clones
    pub made : IsSetMadeOf clones set
