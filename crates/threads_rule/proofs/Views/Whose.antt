-- Whose a caller's number is: a seat's, in the slot that it holds, or nobody's who has anything under way.
use Rattle.std.specs.Prelude.{◌≢◌, Option, Some, None, ◌/◌}
use Rattle.std.proofs.Common.{◌≡◌, ℕ, ◌%◌, Bool, ◌⊎◌, inl, inr, refl, sym, subst}
use Rattle.std.proofs.lemmas.Bool.{cases_eq}
use Rattle.many_acts.specs.Given.ScenesScene.{Scene}
use Rattle.threads_rule.specs.Views.Rule.{IsSlot, IsIdle, DoesSo, Fits, caller_at, acts_in}
use Rattle.threads_rule.specs.declared.view.View.{View}
use Rattle.threads_rule.proofs.Views.Numbers.{its_caller, its_place}

module _ {K V S : Type 0} (same : K → K → Bool) (hash : S → K → ℕ) (scene : Scene K V) (view : ℕ → Option (View K V S)) (seats : (j : ℕ) (v : View K V S) → view j ≡ Some v → Fits same hash scene j v)
    (unborn : (j t : ℕ) → IsSlot t → view j ≡ None → IsIdle scene (caller_at j t)) where
  -- the caller is this seat
  pub record Seated (a : ℕ) : Type 0 where
    pub seat : ℕ
    pub knows : View K V S
    pub here : view seat ≡ Some knows
    pub caller : a ≡ caller_at seat (acts_in knows.under knows.slot)
    pub does : DoesSo same hash scene a knows.under knows.slot knows.map knows.work

  in_place : (j t : ℕ) → IsSlot t → (o : Option (View K V S)) → view j ≡ o → IsIdle scene (caller_at j t) ⊎ Seated (caller_at j t)
  in_place j t is None e = inl (unborn j t is e)
  in_place j t is (Some v) e = by (cases_eq t (acts_in v.under v.slot))
    where
      by : (t ≡ acts_in v.under v.slot) ⊎ (t ≢ acts_in v.under v.slot) → IsIdle scene (caller_at j t) ⊎ Seated (caller_at j t)
      by (inl own) = inr (subst (λ (a : ℕ). Seated (caller_at j a)) (sym own) (record { seat = j; knows = v; here = e; caller = refl; does = (seats j v e).does }))
      by (inr ne) = inl ((seats j v e).idle t is ne)

  pub whose : (a : ℕ) → IsIdle scene a ⊎ Seated a
  whose a = subst (λ (b : ℕ). IsIdle scene b ⊎ Seated b) (its_caller a) (in_place (a / 65536) (a % 65536) (its_place a) (view (a / 65536)) refl)
