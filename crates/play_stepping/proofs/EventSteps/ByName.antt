-- The call of a name, and its place.
use Rattle.std.specs.Prelude.{◌≡◌, ℕ, true, false, List, is_some, slice_get, MatchOption, Option, Some, None}
use Rattle.std.proofs.Common.{refl, sym, ap, subst, ◌∙◌}
use Rattle.run_executor.specs.Named.Roll.{at_place, called}
use Rattle.run_executor.specs.declared.caller.NamedCaller.{NamedCaller}
use Rattle.play_stepping.specs.EventSteps.Stepping.{HasCaller, IsCaller, IsPlaced}
use Rattle.seize_words.proofs.General.{same_some as the}

-- what is there, and what is not
pub some_there : {X : Type 0} (o : Option X) → is_some o ≡ true → (x : X) × (o ≡ Some x)
some_there None e = absurd (cc e)
some_there (Some x) e = (x, refl)

-- what is so where nothing was told
pub none_told : {A X : Type 0} (P : X → Type 0) (r : Option X) → is_some r ≡ false → MatchOption r A P → A
none_told P None e so = so
none_told P (Some x) e so = absurd (cc e)

module _ {V : Type 0} (own : List ℕ) (calls : List (NamedCaller V)) where
  -- who has the name stands at its place
  pub caller_here : (place : ℕ) → IsPlaced own place calls → (has : HasCaller own calls) → IsCaller own place has.1 calls
  caller_here place placed has = (placed, subst (λ (k : ℕ). slice_get calls k ≡ Some has.1) (the has.0 place (has.2.0 ∙ sym placed)) has.2.1)

  -- and is called by it
  pub called_so : (place : ℕ) (d : NamedCaller V) → IsCaller own place d calls → called own calls ≡ Some d
  called_so place d is = ap (at_place calls) (sym is.0) ∙ is.1

  pub is_called : HasCaller own calls → called own calls ≡ None → ⊥
  is_called has none = let so = sym (called_so has.0 has.1 has.2) ∙ none in cc so
