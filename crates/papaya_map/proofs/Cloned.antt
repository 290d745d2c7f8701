-- What was stored of all that a walk has told: a clone of each pair, one after another.
use Rattle.std.specs.Prelude.{◌⊎◌, Bool, List, [], ◌∷◌, Option, Some, None, Result, Ok, Err, IfOk, OnOk}
use Rattle.std.specs.List.{AllZip, FoldsTo}
use Rattle.std.proofs.Common.{◌≡◌, ◌∙◌, ℕ, ap, inl, inr, refl, sym, subst}
use Rattle.papaya_map.specs.Builders.{ids_after}
use Rattle.papaya_map.specs.Cloned.{HasClonedInto, IsPairClone, PutsClone}
use Rattle.papaya_sessions.specs.Extended.{PutsAll, PutsPair}
use Rattle.papaya_sessions.specs.Given.CallersDeclared.caller.MapCaller.{MapCaller}
use Rattle.papaya_sessions.specs.Given.Onlookers.{HasBeenShown}
use Rattle.papaya_sessions.specs.OneMap.{MapWasShown}
use Rattle.seize.specs.Ids.{following}
use Rattle.seize_words.specs.declared.fault.Fault.{Fault}

module _ {K V S W : Type 0} (same : K → K → Bool) (hash : S → K → ℕ) (key_clone : K → K → Type 0) (value_clone : V → V → Type 0) (refused : W → Option Fault) (caller : W → MapCaller K V S) where
  abbrev along : W → K → V → W → Type 0
  along w key value n = PutsClone same hash key_clone value_clone (key, value) (refused w) (caller w) (refused n) (caller n)

  all_cloned : (xs : List (K × V)) (w last : W) → FoldsTo (λ u x v. along u x.0 x.1 v) w xs last → refused last ≡ None
      → (refused w ≡ None) × (ys : List (K × V)) × AllZip (IsPairClone key_clone value_clone) xs ys × PutsAll (PutsPair same hash) ys (caller w) (caller last)
  all_cloned [] w last is none = (ap refused is ∙ none, [], tt, sym (ap caller is))
  all_cloned (x ∷ xs) w last (j, one, folds) none =
      let rest = all_cloned xs j last folds none in let here = one rest.0 in (here.0, here.1.0 ∷ rest.1, (here.1.1, rest.2), (caller j, here.1.2, rest.3))

  -- the walk has ended, and nothing was refused to a clone
  pub cloned_into : (c n : MapCaller K V S) (first last : W) → HasBeenShown same hash along first last c.seat.view n.seat.view → (end : Result (Unit {0}) Fault) (done : Unit {0}) → end ≡ Ok done
      → IfOk end (λ _. MapWasShown same hash c n) → (r : Result (Unit {0}) Fault) → OnOk r (refused last ≡ None) → OnOk r (HasClonedInto same hash key_clone value_clone (caller first) c n)
  cloned_into c n first last (pairs, told, folds) end done is shown (Err fault) none = tt
  cloned_into c n first last (pairs, told, folds) end done is shown (Ok it) none =
      let all = all_cloned pairs first last folds none in record {
        pairs = pairs;
        told = told;
        shown = subst (λ (e : Result (Unit {0}) Fault). IfOk e (λ _. MapWasShown same hash c n)) is shown;
        clones = all.1;
        each = all.2;
        last = caller last;
        stored = all.3;
      }

-- the source was asked for a number, or not
pub asked_or_not : (first : Option Fault) (next after : ℕ) → after ≡ ids_after first None next → (after ≡ next) ⊎ (after ≡ following next)
asked_or_not None next after is = inr is
asked_or_not (Some fault) next after is = inl is
