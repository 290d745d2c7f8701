-- What a seat knows once a row of it has begun, or ended, without an operation.
use Rattle.std.specs.Prelude.{◌≡◌, false, None, ℕ}
use Rattle.seize_words.specs.OneMemory.Word.{link_to}
use Rattle.seize.specs.declared.rows.register.Register.{Register}
use Rattle.seize.specs.declared.rows.register.Registering.{Registering}
use Rattle.seize.specs.declared.rows.register.Registering.TheVariants as at
use Rattle.seize.specs.declared.rows.settle.Settle.{Settle}
use Rattle.seize.specs.Settle.{retiring, flushing}
use Rattle.seize_views.specs.declared.view.SlotView.{SlotView}
use Rattle.seize_views.specs.declared.view.Becomes.{Becomes}
use Rattle.seize_views.specs.declared.view.Becomes.TheVariants.{Idle, Active}
use Rattle.seize_views.specs.declared.view.SlotView.TheVariants.{Rests, Registers, Outside, Owes, Enters, Inside, Settles, Leaves, Left, Frees, Bears}
use Rattle.seize_views.specs.declared.view.Has.TheVariants.{Nothing, Seen, Cut}
use Rattle.seize_views.specs.declared.view.Why.TheVariants.{Retiring, Ending}
use Rattle.seize_views.specs.declared.view.Fixed.{Fixed}

-- it has come to this slot, which it only takes, and stands here
abbrev pub seeker_at : ℕ → Registering → Register
seeker_at slot stands = record { slot = slot; enters = false; stands = stands }

-- a seat that has a slot whose head is so, and knows of no block
abbrev pub left_with : {T : Type 0} → Becomes → ℕ → SlotView T
left_with Idle t = Outside t
left_with Active t = Inside t Nothing

module _ {T : Type 0} (fixed : Fixed) where
  abbrev pub registering : SlotView T → SlotView T
  registering Rests = Registers (seeker_at 0 at.Begin)
  registering v = v

  abbrev pub entering : SlotView T → SlotView T
  entering (Outside t) = Enters t
  entering v = v

  abbrev pub leaving : SlotView T → SlotView T
  leaving (Inside t Nothing) = Leaves t fixed.batch_size Idle
  leaving (Inside t (Seen b)) = Leaves t fixed.batch_size Idle
  leaving v = v

  abbrev pub refreshes : SlotView T → SlotView T
  refreshes (Inside t Nothing) = Leaves t fixed.batch_size Active
  refreshes (Inside t (Seen b)) = Leaves t fixed.batch_size Active
  refreshes v = v

  -- what was seen is let go
  abbrev pub forgetting : SlotView T → SlotView T
  forgetting (Inside t (Seen b)) = Inside t Nothing
  forgetting v = v

  abbrev pub ended : SlotView T → SlotView T
  ended (Settles c (Retiring way) seen left) = left_with way c.slot
  ended (Settles c (Ending size way) seen left) = Left c.slot size way
  ended (Left t size way) = left_with way t
  ended v = v

  abbrev pub freeing : SlotView T → SlotView T
  freeing (Outside t) = Frees t
  freeing v = v

-- a settling begins, within a section or outside of one, which takes so many steps
abbrev pub IsBegun : {T : Type 0} → Becomes → Settle → SlotView T → Type 0
IsBegun way c u = (left : ℕ) × (u ≡ Settles c (Retiring way) None left)

-- a block is retired that was unlinked
abbrev pub Retires : {T : Type 0} → Fixed → SlotView T → SlotView T → Type 0
Retires fixed (Inside t (Cut b)) u = IsBegun Active (retiring t fixed.batch_size (link_to b)) u
Retires fixed (Owes t b) u = IsBegun Idle (retiring t fixed.batch_size (link_to b)) u
Retires fixed v u = u ≡ v

-- the batch is tried, by who has no block in its hand
abbrev pub Flushes : {T : Type 0} → Fixed → SlotView T → SlotView T → Type 0
Flushes fixed (Outside t) u = IsBegun Idle (flushing t fixed.batch_size) u
Flushes fixed (Inside t Nothing) u = IsBegun Active (flushing t fixed.batch_size) u
Flushes fixed (Inside t (Seen b)) u = IsBegun Active (flushing t fixed.batch_size) u
Flushes fixed v u = u ≡ v

-- who has no slot hands on the block that it has unlinked, to who has one, and no block in its hand
abbrev pub Hands : {T : Type 0} → Fixed → SlotView T → SlotView T → SlotView T → SlotView T → Type 0
Hands fixed (Bears b) (Outside t) v u = (v ≡ Rests) × (u ≡ Owes t b)
Hands fixed (Bears b) (Inside t Nothing) v u = (v ≡ Rests) × (u ≡ Inside t (Cut b))
Hands fixed (Bears b) (Inside t (Seen a)) v u = (v ≡ Rests) × (u ≡ Inside t (Cut b))
Hands fixed v u v' u' = (v' ≡ v) × (u' ≡ u)

-- a turn that makes this of a view
abbrev pub Makes : {T : Type 0} → (Fixed → SlotView T → SlotView T) → Fixed → SlotView T → SlotView T → Type 0
Makes f fixed v u = u ≡ f fixed v
