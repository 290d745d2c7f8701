-- No two rows settle on one slot, since no two seats have one.
use Rattle.std.specs.Prelude.{Option, Some, None}
use Rattle.std.proofs.Common.{◌≡◌, ℕ, refl, subst, ap}
use Rattle.seize.specs.World.{World, Row, Use}
use Rattle.seize.specs.World as world
use Rattle.seize_acts.specs.Acts.Waits.{SettlesOn}
use Rattle.seize_acts.specs.Bounds.Bounds.{IsAloneOnSlot}
use Rattle.seize_views.specs.Views.Rows.{row_of, use_of, used_for}
use Rattle.seize_views.specs.declared.view.SlotView.{SlotView}
use Rattle.seize_views.specs.declared.view.SlotView.TheVariants.{Rests, Registers, Outside, Owes, Enters, Inside, Settles, Leaves, Left, Frees, Brings, Bears, Watches, Under, Joins, Defers, Busy}
use Rattle.seize_views.specs.declared.view.Deferral.TheVariants.{Takes, Parts, Puts}
use Rattle.seize_views.specs.declared.view.Why.TheVariants.{Retiring, Ending}

-- the slot that the row of a seat settles on is the seat's
pub settles_used : {T : Type 0} (v : SlotView T) (s : ℕ) → SettlesOn s (row_of v) → (a : Use) × (use_of v ≡ Some (s, a))
settles_used Rests s on = absurd on
settles_used (Registers c) s on = absurd on
settles_used (Outside t) s on = absurd on
settles_used (Owes t b) s on = absurd on
settles_used (Enters t) s on = absurd on
settles_used (Inside t has) s on = absurd on
settles_used (Settles c (Retiring way) seen left) s on = (used_for (Retiring way), ap (λ (k : ℕ). Some (k, used_for (Retiring way))) on)
settles_used (Settles c (Ending size way) seen left) s on = (world.Changing, ap (λ (k : ℕ). Some (k, world.Changing)) on)
settles_used (Leaves t size way) s on = (world.Changing, ap (λ (k : ℕ). Some (k, world.Changing)) on)
settles_used (Left t size way) s on = (world.Changing, ap (λ (k : ℕ). Some (k, world.Changing)) on)
settles_used (Frees t) s on = absurd on
settles_used (Brings b x) s on = absurd on
settles_used (Bears b) s on = absurd on
settles_used (Watches t b) s on = absurd on
settles_used (Under n t b) s on = absurd on
settles_used (Joins block) s on = absurd on
settles_used (Defers t (Takes a y made)) s on = absurd on
settles_used (Defers t (Parts a y b x)) s on = absurd on
settles_used (Defers t (Puts a c)) s on = absurd on
settles_used (Busy t) s on = absurd on

module _ {T : Type 0} (w : World T) (view : ℕ → Option (SlotView T)) (rows : (j : ℕ) (v : SlotView T) → view j ≡ Some v → w.row j ≡ row_of v)
    (unborn : (j : ℕ) → view j ≡ None → w.row j ≡ world.Rests)
    (apart : (j k t : ℕ) (a b : Use) (v u : SlotView T) → view j ≡ Some v → view k ≡ Some u → use_of v ≡ Some (t, a) → use_of u ≡ Some (t, b) → j ≡ k) where
  -- whose row settles on a slot has it
  pub has_it : (j s : ℕ) → SettlesOn s (w.row j) → (v : SlotView T) × (a : Use) × (view j ≡ Some v) × (use_of v ≡ Some (s, a))
  has_it j s on = by (view j) refl
    where
      by : (o : Option (SlotView T)) → view j ≡ o → (v : SlotView T) × (a : Use) × (view j ≡ Some v) × (use_of v ≡ Some (s, a))
      by None e = absurd (subst (λ (r : Row). SettlesOn s r) (unborn j e) on)
      by (Some v) e = let k = settles_used v s (subst (λ (r : Row). SettlesOn s r) (rows j v e) on) in (v, k.0, e, k.1)

  pub alone_on_slot : (j : ℕ) → IsAloneOnSlot j w
  alone_on_slot j i s ne mine its =
      let a = has_it j s mine in
      let b = has_it i s its in
      ne (apart i j s b.1 a.1 b.0 a.0 b.2 a.2 b.3 a.3)
