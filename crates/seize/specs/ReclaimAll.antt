-- How everything is reclaimed that waits, while no call, no registration and no living guard is there.
use Rattle.std.specs.Prelude.{ℕ, ◌+◌, ◌-◌, ◌==◌, Bool, false, true, nat_lt, if◌then◌else◌, Option}
use Rattle.seize_words.specs.OneMemory.Word.{block_in}
use Rattle.seize_words.specs.declared.at.At.TheVariants.{Root, Used, Slot, Entry}
use Rattle.seize_words.specs.OneMemory.Op.{Out, Load, Store, Take, Found, Taken}
use Rattle.seize_words.specs.OneMemory.Plan.{Plan, Then, Turn, Do, Now, Seeing, plan_as}
use Rattle.seize.specs.declared.states.TheConstants.{HEAD, BATCH, NEVER, FREE, IDLE, ACTIVE, NEXT, LAST_SLOT}
use Rattle.seize.specs.declared.rows.settle.Settle.{Settle}
use Rattle.seize.specs.declared.rows.settle.Settled.{Settled}
use Rattle.seize.specs.declared.rows.settle.Settled.TheVariants.{Goes, Waits, Gave, Done}
use Rattle.seize.specs.declared.rows.leave.Leave.{Leave}
use Rattle.seize.specs.declared.rows.reclaim_all.ReclaimAll.{ReclaimAll}
use Rattle.seize.specs.declared.rows.reclaim_all.Reclaiming.{Reclaiming}
use Rattle.seize.specs.declared.rows.reclaim_all.Reclaiming.TheVariants as at
use Rattle.seize.specs.Settle.{flushing, settle_plan}
use Rattle.seize.specs.Leave.{leaving, leave_plan}
use Rattle.seize.specs.Enter.{unregister_plan}

-- no value says that something is left over at its root
abbrev pub none_left : {T : Type 0} → T → Bool
none_left value = false

-- all that waits is to be reclaimed, with a batch size and a number of roots
abbrev pub reclaiming_all : ℕ → ℕ → ReclaimAll
reclaiming_all size roots = record { batch_size = size; roots = roots; slots = 0; again = false; stands = at.Heads 0 }

-- standing elsewhere
abbrev pub standing : ReclaimAll → Reclaiming → ReclaimAll
standing c stands = record c { stands = stands }

-- the first root, if there is one
abbrev pub first_root : ReclaimAll → ReclaimAll
first_root c = if c.roots == 0 then standing c at.Over else standing c (at.Roots 0)

-- only what was left over at as many roots is to be reclaimed
abbrev pub clearing : ℕ → ReclaimAll
clearing roots = first_root (reclaiming_all 0 roots)

-- the root behind one, if there is one
abbrev pub next_root : ReclaimAll → ℕ → ReclaimAll
next_root c root = if nat_lt root (c.roots - 1) then standing c (at.Roots (root + 1)) else standing c at.Over

-- each slot that was ever taken is known: their batches come next, if there is one
abbrev pub first_batch : ReclaimAll → ReclaimAll
first_batch c = if c.slots == 0 then first_root c else standing c (at.Batches 0)

-- the head behind one, if a slot is behind it
abbrev pub next_head : ReclaimAll → ℕ → ReclaimAll
next_head c slot = if nat_lt slot LAST_SLOT then standing c (at.Heads (slot + 1)) else first_batch (record c { slots = LAST_SLOT + 1 })

-- the batch behind one; behind the last one all of them anew, if the round has found a batch
abbrev pub next_batch : ReclaimAll → ℕ → ReclaimAll
next_batch c slot =
    if nat_lt slot (c.slots - 1) then standing c (at.Batches (slot + 1)) else
    (if c.again then record c { again = false; stands = at.Batches 0 } else standing c (at.Frees 0))

-- the slot behind one is made free, if there is one
abbrev pub next_free : ReclaimAll → ℕ → ReclaimAll
next_free c slot = if nat_lt slot (c.slots - 1) then standing c (at.Frees (slot + 1)) else first_root c

module _ {T : Type 0} where
  -- further steps are needed
  abbrev pub to : ReclaimAll → Then T (ReclaimAll × Settled T)
  to c = Now (c, Goes)

  -- a step of a row inside, as a step of its own: how it stands while that row goes on, and once it has ended
  abbrev pub within : {R : Type 0} → (R → ReclaimAll) → ReclaimAll → R × Settled T → ReclaimAll × Settled T
  within inside behind (row, Goes) = (inside row, Goes)
  within inside behind (row, Waits) = (inside row, Waits)
  within inside behind (row, Gave value) = (inside row, Gave value)
  within inside behind (row, Done) = (behind, Goes)

  -- The slots ever taken are those before the first one that never was. One that was given up is taken again, so that its batch can be flushed.
  -- One that is active leaves: the guard that kept it active was forgotten.
  abbrev pub head_read : ReclaimAll → ℕ → Out T → Then T (ReclaimAll × Settled T)
  head_read c slot (Found head) =
      if head == NEVER then to (first_batch (record c { slots = slot })) else
      (if head == FREE then to (standing c (at.Retakes slot)) else
      (if nat_lt head ACTIVE then to (next_head c slot) else to (standing c (at.Leaves slot (leaving slot c.batch_size IDLE false)))))
  head_read c slot _ = to c

  -- reads the head of a slot
  abbrev pub heads : ReclaimAll → ℕ → Plan T (ReclaimAll × Settled T)
  heads c slot = Do (Load (Slot slot HEAD)) (head_read c slot)

  -- takes a slot again that was given up
  abbrev pub retakes : ReclaimAll → ℕ → Plan T (ReclaimAll × Settled T)
  retakes c slot = Do (Store (Slot slot HEAD) IDLE) (λ out. to (next_head c slot))

  -- a step of the leaving of a slot
  abbrev pub leaves : (T → Option ℕ) → ReclaimAll → ℕ → Leave → Plan T (ReclaimAll × Settled T)
  leaves defers c slot leave = plan_as (within (λ l. standing c (at.Leaves slot l)) (next_head c slot)) (leave_plan defers leave)

  -- a slot that has an open batch flushes it
  abbrev pub batch_read : ReclaimAll → ℕ → Out T → Then T (ReclaimAll × Settled T)
  batch_read c slot (Found last) = if last == 0 then to (next_batch c slot) else to (standing c (at.Flushes slot (flushing slot c.batch_size)))
  batch_read c slot _ = to c

  -- reads the last block of a slot's open batch
  abbrev pub batches : ReclaimAll → ℕ → Plan T (ReclaimAll × Settled T)
  batches c slot = Do (Load (Slot slot BATCH)) (batch_read c slot)

  -- a step of the flush of a batch: behind it another round is needed
  abbrev pub flushes : (T → Option ℕ) → ReclaimAll → ℕ → Settle → Plan T (ReclaimAll × Settled T)
  flushes defers c slot settle = plan_as (within (λ s. standing c (at.Flushes slot s)) (next_batch (record c { again = true }) slot)) (settle_plan defers settle)

  -- a slot is given up, in one step
  abbrev pub frees : ReclaimAll → ℕ → Plan T (ReclaimAll × Settled T)
  frees c slot = plan_as (λ end. (next_free c slot, Goes)) (unregister_plan (record { slot = slot }))

  -- a root whose block's value says so names what was left over there
  abbrev pub left_there : ReclaimAll → ℕ → ℕ → Bool → Then T (ReclaimAll × Settled T)
  left_there c root block left = if left then to (standing c (at.Nexts root block)) else to (next_root c root)

  -- the link of a root is known: its block is looked at
  abbrev pub root_read : (T → Bool) → ReclaimAll → ℕ → Out T → Then T (ReclaimAll × Settled T)
  root_read left_over c root (Found block) =
      if block == 0 then to (next_root c root) else Seeing (block_in block) (λ value. left_there c root block (left_over value))
  root_read left_over c root _ = to c

  -- reads the link of a root
  abbrev pub roots : (T → Bool) → ReclaimAll → ℕ → Plan T (ReclaimAll × Settled T)
  roots left_over c root = Do (Load (Root root)) (root_read left_over c root)

  -- what comes after a block that was left over is known
  abbrev pub next_read : ReclaimAll → ℕ → ℕ → Out T → Then T (ReclaimAll × Settled T)
  next_read c root block (Found next) = to (standing c (at.Takes root block next))
  next_read c root block _ = to c

  -- reads which block comes after one that was left over
  abbrev pub nexts : ReclaimAll → ℕ → ℕ → Plan T (ReclaimAll × Settled T)
  nexts c root block = Do (Load (Entry (block_in block) NEXT)) (next_read c root block)

  -- a block that was left over was reclaimed; behind the last one the root is empty
  abbrev pub given_back : ReclaimAll → ℕ → ℕ → Out T → Then T (ReclaimAll × Settled T)
  given_back c root next (Taken value) = if next == 0 then Now (standing c (at.Empties root), Gave value) else Now (standing c (at.Nexts root next), Gave value)
  given_back c root next _ = to c

  -- takes a block away that was left over
  abbrev pub takes : ReclaimAll → ℕ → ℕ → ℕ → Plan T (ReclaimAll × Settled T)
  takes c root block next = Do (Take (block_in block)) (given_back c root next)

  -- makes the root name nothing
  abbrev pub empties : ReclaimAll → ℕ → Plan T (ReclaimAll × Settled T)
  empties c root = Do (Store (Root root) 0) (λ out. to (standing c (at.Unuses root)))

  -- makes the root free
  abbrev pub unuses : ReclaimAll → ℕ → Plan T (ReclaimAll × Settled T)
  unuses c root = Do (Store (Used root) 0) (λ out. to (next_root c root))

  -- each point
  abbrev pub plan_at : (T → Option ℕ) → (T → Bool) → ReclaimAll → Reclaiming → Plan T (ReclaimAll × Settled T)
  plan_at defers left_over c (at.Heads slot) = heads c slot
  plan_at defers left_over c (at.Retakes slot) = retakes c slot
  plan_at defers left_over c (at.Leaves slot leave) = leaves defers c slot leave
  plan_at defers left_over c (at.Batches slot) = batches c slot
  plan_at defers left_over c (at.Flushes slot settle) = flushes defers c slot settle
  plan_at defers left_over c (at.Frees slot) = frees c slot
  plan_at defers left_over c (at.Roots root) = roots left_over c root
  plan_at defers left_over c (at.Nexts root block) = nexts c root block
  plan_at defers left_over c (at.Takes root block next) = takes c root block next
  plan_at defers left_over c (at.Empties root) = empties c root
  plan_at defers left_over c (at.Unuses root) = unuses c root
  plan_at defers left_over c at.Over = Turn (Now (c, Done))

  -- what its next step does
  abbrev pub reclaim_all_plan : (T → Option ℕ) → (T → Bool) → ReclaimAll → Plan T (ReclaimAll × Settled T)
  reclaim_all_plan defers left_over c = plan_at defers left_over c c.stands
