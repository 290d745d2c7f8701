-- What is promised while one seat acts alone: each of its steps may be taken; and where it is over nothing is left that waits, and the rule of all holds again.
use Rattle.std.specs.Prelude.{◌≡◌, ℕ, ◌<◌, ◌^◌, Bool, Option, Some, None, [], ◌∷◌}
use Rattle.seize_words.specs.OneMemory.Op.{Op}
use Rattle.seize_words.specs.OneMemory.Plan.{Turn, Now}
use Rattle.seize.specs.declared.rows.register.Register.{Register}
use Rattle.seize.specs.declared.rows.register.Registering.TheVariants as register_at
use Rattle.seize.specs.declared.rows.reclaim_all.ReclaimAll.{ReclaimAll}
use Rattle.seize.specs.declared.rows.reclaim_all.Reclaiming.TheVariants as at
use Rattle.seize.specs.declared.rows.settle.Settled.{Settled}
use Rattle.seize.specs.Register.{register_plan}
use Rattle.seize.specs.ReclaimAll.{reclaim_all_plan}
use Rattle.seize.specs.World.{World}
use Rattle.seize.specs.World as world
use Rattle.seize_seats.specs.Seats.Lendings.{VisibleTo, IsValueOf}
use Rattle.seize_seats.specs.Seats.State.{State, view_of, Allows, Turns}
use Rattle.seize_acts.specs.Acts.Reclaimed.{HasNothingLeft}
use Rattle.seize_acts.specs.Quiet.Slots.{IsQuiescent}
use Rattle.seize_acts.specs.Quiet.Promises.{IsOnSlots}
use Rattle.seize_views.specs.Views.Begun.{seeker_at}
use Rattle.seize_views.specs.Views.Promises.{op_in}
use Rattle.seize_views.specs.Views.Rows.{row_of, Holds}
use Rattle.seize_views.specs.declared.view.SlotView.{SlotView}
use Rattle.seize_views.specs.declared.view.Fixed.{Fixed}
use Rattle.seize_reclaims.specs.Renews.Rule.{told, HoldsAlone, KeepsNone}
use Rattle.seize_reclaims.specs.declared.alone.Alone.{Alone}
use Rattle.seize_reclaims.specs.declared.alone.Alone.TheVariants.{Registers, Reclaims}

module _ {T : Type 0} (defers : T → Option ℕ) (left_over : T → Bool) where
  -- Where each seat is quiescent, one may act alone: it is the only one then, and begins to take a slot.
  abbrev pub AreIdle : State T (SlotView T) (World T) → Type 0
  AreIdle s = (j : ℕ) (v : SlotView T) → view_of s j ≡ Some v → row_of v ≡ world.Rests

  abbrev pub first_of : Fixed → Alone T
  first_of fixed = Registers (seeker_at 0 register_at.Begin) fixed.batch_size

  abbrev pub IdleRenew : Type 0
  IdleRenew =
      (fixed : Fixed) (s : State T (SlotView T) (World T)) → Holds defers fixed s → AreIdle s
      → (w : World T) × HoldsAlone defers left_over fixed record { memory = s.memory; views = (first_of fixed) ∷ []; world = w }

  -- it may make its next operation
  abbrev pub RegisteringContinues : Type 0
  RegisteringContinues =
      (fixed : Fixed) (id : ℕ) (c : Register) (size : ℕ) (op : Op T) → fixed.batch_size < 2 ^ 64 → op_in (register_plan {T = T} c) ≡ Some op
      → Allows (HoldsAlone defers left_over fixed) KeepsNone id (Registers c size) op (told defers left_over (Registers c size) op)

  -- the next operation on slots may be made
  abbrev pub ReclaimingContinues : Type 0
  ReclaimingContinues =
      (fixed : Fixed) (id : ℕ) (c : ReclaimAll) (seen : Option (ℕ × T)) (left : ℕ) (op : Op T) → fixed.batch_size < 2 ^ 64 → IsOnSlots c.stands
      → op_in (reclaim_all_plan defers left_over c) ≡ Some op
      → Allows (HoldsAlone defers left_over fixed) KeepsNone id (Reclaims c seen left) op (told defers left_over (Reclaims c seen left) op)

  -- and a step that makes none is a turn
  abbrev pub ReclaimingTurns : Type 0
  ReclaimingTurns =
      (fixed : Fixed) (id : ℕ) (c c2 : ReclaimAll) (progress : Settled T) (seen : Option (ℕ × T)) (left : ℕ) → fixed.batch_size < 2 ^ 64 → IsOnSlots c.stands
      → reclaim_all_plan defers left_over c ≡ Turn (Now (c2, progress))
      → Turns (HoldsAlone defers left_over fixed) KeepsNone id (Reclaims c seen left) (λ v. (now : ℕ) × (now < left) × (v ≡ (Reclaims c2 None now)))

  -- what it is about to look at is there, with the value that was told
  abbrev pub LookedIsShown : Type 0
  LookedIsShown =
      (fixed : Fixed) (id : ℕ) (c : ReclaimAll) (b left : ℕ) (x : T) → VisibleTo (HoldsAlone defers left_over fixed) id (Reclaims c (Some (b, x)) left) b
      × ((y : T) → IsValueOf (HoldsAlone defers left_over fixed) id (Reclaims c (Some (b, x)) left) b y → y ≡ x)

  -- Where its machine is over nothing is left: no row is under way, no block is retired, no slot is in use, and none has a batch.
  abbrev pub OverIsQuiescent : Type 0
  OverIsQuiescent =
      (fixed : Fixed) (id : ℕ) (c : ReclaimAll) (seen : Option (ℕ × T)) (left : ℕ) → fixed.batch_size < 2 ^ 64 → c.stands ≡ at.Over
      → (s : State T (Alone T) (World T)) → HoldsAlone defers left_over fixed s → view_of s id ≡ Some (Reclaims c seen left)
      → IsQuiescent s.world × HasNothingLeft defers s.world

  -- and the rule of all holds again, with no seat
  abbrev pub OverRenews : Type 0
  OverRenews =
      (fixed : Fixed) (id : ℕ) (c : ReclaimAll) (seen : Option (ℕ × T)) (left : ℕ) → c.stands ≡ at.Over
      → (s : State T (Alone T) (World T)) → HoldsAlone defers left_over fixed s → view_of s id ≡ Some (Reclaims c seen left)
      → (w : World T) × Holds defers fixed record { memory = s.memory; views = []; world = w }
