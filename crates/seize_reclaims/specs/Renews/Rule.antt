-- The rule by which one seat acts alone: there is a world that came about, of which the memory is that of the state; the seat takes a slot, or reclaims all, and
-- knows where it stands. A root names no block or one that is linked there, and what is linked is named, or stands in its chain.
use Rattle.std.specs.Prelude.{◌≡◌, ◌≢◌, ℕ, ◌<◌, ◌==◌, Bool, false, Option, Some, None, if◌then◌else◌, length}
use Rattle.seize_words.specs.OneMemory.Mem.{Mem, value_at}
use Rattle.seize_words.specs.OneMemory.Op.{Op, Out}
use Rattle.seize.specs.declared.advance.Advance.{Advance}
use Rattle.seize.specs.declared.advance.Advance.TheVariants as progress
use Rattle.seize.specs.declared.rows.register.Register.{Register}
use Rattle.seize.specs.declared.rows.register.Registering.{Registering}
use Rattle.seize.specs.declared.rows.register.Registering.TheVariants as register_at
use Rattle.seize.specs.declared.rows.reclaim_all.ReclaimAll.{ReclaimAll}
use Rattle.seize.specs.declared.rows.reclaim_all.Reclaiming.TheVariants as at
use Rattle.seize.specs.declared.rows.settle.Settled.{Settled}
use Rattle.seize.specs.declared.rows.settle.Settled.TheVariants as settled
use Rattle.seize.specs.Register.{register_plan}
use Rattle.seize.specs.ReclaimAll.{reclaiming_all, standing, reclaim_all_plan}
use Rattle.seize.specs.World.{World}
use Rattle.seize.specs.World as world
use Rattle.seize_seats.specs.Seats.State.{State, view_of}
use Rattle.seize_acts.specs.Quiet.Slots.{Stage}
use Rattle.seize_acts.specs.Quiet.Promises.{DoneWithin}
use Rattle.seize_views.specs.Views.Chains.{all_roots, IsChainRoot, Chain}
use Rattle.seize_views.specs.Views.Rows.{IsSeeking, IsFound, RootsNameLinked, Came}
use Rattle.seize_views.specs.Views.Told.{HasOutcome, FollowsBy, shown_by}
use Rattle.seize_views.specs.declared.view.Fixed.{Fixed}
use Rattle.seize_reclaims.specs.declared.alone.Alone.{Alone}
use Rattle.seize_reclaims.specs.declared.alone.Alone.TheVariants.{Registers, Reclaims}

-- what is so while a slot is sought: it begins at the first one, and from its second step on slots have words
abbrev pub SeeksAt : {T : Type 0} → Mem T → Register → Registering → Type 0
SeeksAt m c register_at.Begin = c.slot ≡ 0
SeeksAt m c (register_at.Widen bucket seen) = (c.slot ≢ 0) × (0 < length m.slots)
SeeksAt m c _ = 0 < length m.slots

-- the block that is looked at is there, with this value
abbrev pub IsShown : {T : Type 0} → Mem T → Option (ℕ × T) → Type 0
IsShown m None = Unit {0}
IsShown m (Some seen) = value_at m seen.0 ≡ Some seen.1

-- a step that reclaims all has been taken, and is not its last
abbrev pub HasGone : {T : Type 0} → Settled T → Type 0
HasGone settled.Goes = Unit {0}
HasGone settled.Waits = ⊥
HasGone (settled.Gave value) = Unit {0}
HasGone settled.Done = ⊥

-- Batches have this size; with what is reclaimed all, once taking a slot has ended. Where slots have no words there is nothing to do for them. Roots are the
-- users' own.
abbrev pub all_of : ℕ → ReclaimAll
all_of size = reclaiming_all size 0

abbrev pub over_of : ℕ → ReclaimAll
over_of size = standing (all_of size) at.Over

-- what is known then
abbrev pub begun_by : {T : Type 0} → ℕ → Register × Advance ℕ → Alone T → Type 0
begun_by size (c, progress.Done t) w = (left : ℕ) × (w ≡ Reclaims (all_of size) None left)
begun_by size (c, progress.Refused fault) w = (left : ℕ) × (w ≡ Reclaims (if c.slot == 0 then over_of size else all_of size) None left)
begun_by size (c, _) w = w ≡ Registers c size

module _ {T : Type 0} (defers : T → Option ℕ) (left_over : T → Bool) where
  -- Reclaiming all goes on: it never waits, and fewer steps are left.
  pub record ReclaimsOn (c : ReclaimAll) (left : ℕ) (out : Out T) (w : Alone T) : Type 0 where
    pub end : ReclaimAll × Settled T
    pub seen : Option (ℕ × T)
    pub now : ℕ
    pub follows : FollowsBy (shown_by seen) (reclaim_all_plan defers left_over c) out end
    pub goes : HasGone end.1
    pub falls : now < left
    pub view : w ≡ Reclaims end.0 seen now

  -- what an operation tells the seat that makes it
  abbrev pub told : Alone T → Op T → Out T → Alone T → Type 0
  told (Registers c size) op out w = (end : Register × Advance ℕ) × HasOutcome (register_plan {T = T} c) out end × begun_by size end w
  told (Reclaims c seen left) op out w = ReclaimsOn c left out w

  module _ (fixed : Fixed) where
    -- where a seat stands
    abbrev pub IsAtPoint : World T → ℕ → Alone T → Type 0
    IsAtPoint w j (Registers c size) =
        (size ≡ fixed.batch_size) × (w.row j ≡ world.Registers c) × ((k : ℕ) → k ≢ j → w.row k ≡ world.Rests)
        × (c.enters ≡ false) × IsSeeking c.stands × SeeksAt w.memory c c.stands
    IsAtPoint w j (Reclaims c seen left) = Stage defers fixed.batch_size j 0 c w × DoneWithin defers left_over left w.memory c × IsShown w.memory seen

    pub record HoldsAlone (s : State T (Alone T) (World T)) : Type 0 where
      pub came : Came defers fixed s.world
      pub memory : s.memory ≡ s.world.memory
      pub seats : (j : ℕ) (v : Alone T) → view_of s j ≡ Some v → IsAtPoint s.world j v
      pub one : (j k : ℕ) (a b : Alone T) → view_of s j ≡ Some a → view_of s k ≡ Some b → j ≡ k
      pub roots : RootsNameLinked s.memory s.world.hand
      pub found : (b : ℕ) → IsFound fixed s.memory b (λ k. Unit {0}) (s.world.hand b)
      pub chains : (r : ℕ) → IsChainRoot fixed r → Chain defers s.memory s.world.hand r
      pub rooted : length s.memory.roots ≡ all_roots fixed

-- nobody looks at what another one may take
abbrev pub KeepsNone : {T : Type 0} → Alone T → Alone T → World T → ℕ → Type 0
KeepsNone u o w b = ⊥
