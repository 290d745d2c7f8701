-- Straight code for the settling that somebody has under way: that code may be run, and comes to the settling that he knows then.
use Rattle.std.specs.Prelude.{Option}
use Rattle.std.proofs.Common.{◌≡◌, ◌≤◌, ℕ, Bool, true, false, refl, sym, subst, ap, ◌∙◌, arith}
use Rattle.seize_words.specs.OneMemory.Op.{Op, Out}
use Rattle.seize_words.specs.OneMemory.Plan.{May, Steps}
use Rattle.seize.specs.Settle.{plan_at, retiring, settle_plan}
use Rattle.seize.specs.declared.rows.settle.Settle.{Settle}
use Rattle.seize.specs.declared.rows.settle.Settled.{Settled}
use Rattle.seize.specs.declared.rows.settle.Settled.TheVariants.{Done}
use Rattle.seize.specs.declared.rows.settle.Settling.{Settling}
use Rattle.seize.specs.declared.rows.settle.Settling.TheVariants as at
use Rattle.seize_rule.proofs.Points.Settle.{is_over}
use Rattle.seize_straight.specs.Going.{DropGoes, DropLeads, MayDrop, MaySettle, SettleGoes, SettleReaches}
use Rattle.seize_straight.specs.Retiring.{retired, settle_at}
use Rattle.seize_straight.specs.Runs.{none_taken, one_more, EndsTelling}
use Rattle.seize_straight.specs.declared.retiring.Retired.{Retired}
use Rattle.seize_straight.specs.declared.retiring.Retired.TheVariants as to
use Rattle.seize_straight.proofs.Reclaimings.{leads_once, may_once}
use Rattle.seize_straight.proofs.Running.{by_law}
use Rattle.seize_views.specs.Views.Begun.{IsBegun}
use Rattle.seize_callers.specs.Made.{left_in, IsSettling, Task, task_of}
use Rattle.seize_views.specs.declared.view.Noted.{Noted}
use Rattle.seize_views.specs.declared.view.Becomes.{Becomes}
use Rattle.seize_views.specs.declared.view.Why.TheVariants.{Retiring}
use Rattle.seize_callers.proofs.Drives.{Can, Has, shown, may_step, has_stepped}
use Rattle.seize_callers.proofs.Turns.{settling_row}
use Rattle.seize_rule.proofs.Rows.Leave.{over_is}

not_over : (p : Settling) → is_over p ≡ false → p ≡ at.Over → ⊥
not_over p e is = let over = ap is_over is in cc (e, over)

module _ {T M X Y : Type 0} (defers : T → Option ℕ) (notes : M → Noted T) (beside : M → X) (blocks : M → Y) (else_may : M → Op T → Type 0) (task : Task T) where
  abbrev can : M → Op T → Type 0
  can = Can defers notes beside blocks else_may

  abbrev has : M → Op T → Out T → M → Type 0
  has = Has defers notes beside blocks else_may

  abbrev shows : M → ℕ → Option T
  shows = shown defers notes beside blocks else_may

  -- what was under way has come to this, in no more steps than were left
  abbrev pub Comes : Settle → M → Settle → M → Type 0
  Comes c m d n = IsSettling task d (notes n) × (d.slot ≡ c.slot) × (blocks n ≡ blocks m) × (left_in (notes n) ≤ left_in (notes m)) × (beside n ≡ beside m)

  may_at : (c : Settle) (m : M) → IsSettling task c (notes m) → (over : Bool) → is_over c.stands ≡ over
      → May can has shows m (settle_plan defers c)
  may_at c m is true e = subst (λ (p : Settling). May can has shows m (plan_at defers c p)) (sym (over_is c.stands e)) tt
  may_at c m is false e = may_step defers notes beside blocks else_may m c task is (not_over c.stands e)

  -- it has ended where it is over
  ends : (c d : Settle) (m n : M) (told : Settled T) → Steps has shows m (settle_plan defers c) n (d, told) → is_over c.stands ≡ true
      → (n ≡ m) × (told ≡ Done)
  ends c d m n told st e =
      let h = subst (λ (p : Settling). Steps has shows m (plan_at defers c p) n (d, told)) (over_is c.stands e) st in
      (h.0, ap (λ (x : Settle × Settled T). x.1) h.1)

  steps_to : (c d : Settle) (m n : M) (told : Settled T) → DropGoes told → Steps has shows m (settle_plan defers c) n (d, told)
      → IsSettling task c (notes m) → (over : Bool) → is_over c.stands ≡ over → Comes c m d n
  steps_to c d m n told so st is true e = absurd (subst (λ (t : Settled T). DropGoes t) (ends c d m n told st e).1 so)
  steps_to c d m n told so st is false e =
      let k = has_stepped defers notes beside blocks else_may m c task is (not_over c.stands e) n (d, told) st in (k.0, k.1, k.2, (let falls = k.3 in omega (arith, falls)), k.5)

  -- it may be run, where what it gives back is dropped
  pub may_drop : (c : Settle) (m : M) → IsSettling task c (notes m) → MayDrop defers has shows can c m
  may_drop =
      by_law DropGoes has shows (settle_plan defers) can (λ c m. IsSettling task c (notes m))
      (λ c m is. may_at c m is (is_over c.stands) refl)
      (λ c m is n d told so st. (steps_to c d m n told so st is (is_over c.stands) refl).0)

  -- and as far as it gives nothing back
  pub may_run : (c : Settle) (m : M) → IsSettling task c (notes m) → MaySettle defers has shows can c m
  may_run c m is = may_once defers can has shows c m (may_drop c m is)

  pub led : (c d : Settle) (m n : M) → DropLeads defers has shows c m d n → IsSettling task c (notes m) → Comes c m d n
  led c d m n (none_taken _ _) is = (is, refl, refl, omega arith, refl)
  led c d m n (one_more _ _ x k l told so _ _ st) is =
      let a = led c x m k l is in let b = steps_to x d k n told so st a.0 (is_over x.stands) refl in
      (b.0, b.1 ∙ a.1, b.2 ∙ a.2, (let before = a.3 in let after = b.3 in omega (arith, before, after)), b.4 ∙ a.4)

  -- what has told that it has ended is over
  pub has_ended : (c : Settle) (m n : M) → EndsTelling (SettleGoes {T = T}) has shows (settle_plan defers) c m n Done → IsSettling task c (notes m)
      → (d : Settle) × (d.stands ≡ at.Over) × Comes c m d n
  has_ended c m n (x, k, z, l, st, not) is =
      let a = led c x m k (leads_once defers can has shows c x m k l) is in over a (is_over x.stands) refl
    where
      over : Comes c m x k → (t : Bool) → is_over x.stands ≡ t → (d : Settle) × (d.stands ≡ at.Over) × Comes c m d n
      over a true e = (x, over_is x.stands e, subst (λ (o : M). Comes c m x o) (sym (ends x z k n Done st e).0) a)
      over a false e = absurd ((has_stepped defers notes beside blocks else_may k x task a.0 (not_over x.stands e) n (z, Done) st).4)

  -- a retirement that has stopped is the settling of that point
  pub has_stopped : (slot size block : ℕ) (stop : Retired) (m n : M) → (stop ≡ to.Ended → ⊥)
      → SettleReaches defers has shows (retiring slot size block) m n (retired slot size block stop)
      → IsSettling task (retiring slot size block) (notes m) → Comes (retiring slot size block) m (settle_at slot size block stop) n
  has_stopped slot size block to.Ended m n ne r is = absurd (ne refl)
  has_stopped slot size block stop m n ne r is =
      led (retiring slot size block) (settle_at slot size block stop) m n
      (leads_once defers can has shows (retiring slot size block) (settle_at slot size block stop) m n r) is

-- a retirement that has begun is under way
pub retirement_row : {T : Type 0} (v : Noted T) (slot link fixed size : ℕ) (way : Becomes) → fixed ≡ size → IsBegun way (retiring slot fixed link) v.knows
    → IsSettling (task_of (Retiring way) v) (retiring slot size link) v
retirement_row v slot link fixed size way same is =
    subst (λ (n : ℕ). IsSettling (task_of (Retiring way) v) (retiring slot n link) v) same (settling_row way (retiring slot fixed link) v is)
