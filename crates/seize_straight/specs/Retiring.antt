-- A retirement of one block as straight code: where it stops.
use Rattle.std.specs.Prelude.{ℕ, true, ◌==◌, ◌+◌, ◌%◌, ◌^◌, nat_lt, if◌then◌else◌}
use Rattle.seize.specs.Settle.{resting, retiring}
use Rattle.seize.specs.declared.rows.settle.Settle.{Settle}
use Rattle.seize.specs.declared.rows.settle.Settled.{Settled}
use Rattle.seize.specs.declared.rows.settle.Settled.TheVariants as settled
use Rattle.seize.specs.declared.rows.settle.Settling.{Settling}
use Rattle.seize.specs.declared.rows.settle.Settling.TheVariants as at
use Rattle.seize_straight.specs.Reaches.{Reached, At, Told}
use Rattle.seize_straight.specs.declared.retiring.Retired.{Retired}
use Rattle.seize_straight.specs.declared.retiring.Retired.TheVariants as to

-- the batch is held, with this last block and this first one, and these blocks are still to be retired
abbrev pub holding : ℕ → ℕ → ℕ → ℕ → ℕ → Settling → Settle
holding slot size pending last first stands = record (resting slot size stands) { pending = pending; held = true; last = last; first = first }

-- this block is in the batch now, as its last one, and counted: the batch is tried, gets a further block, or is given up
abbrev pub grown : ℕ → ℕ → ℕ → ℕ → ℕ → ℕ → Settle
grown slot size pending block first count =
    holding slot size pending block first (if nat_lt ((count + 1) % 2 ^ 64) size then (if pending == 0 then at.Gives else at.Pops) else at.Scans 0 first 0)

-- the settling at the point where it stops, or one that has ended
abbrev pub settle_at : ℕ → ℕ → ℕ → Retired → Settle
settle_at slot size block to.Ended = resting slot size at.Over
settle_at slot size block to.Sees = retiring slot size block
settle_at slot size block (to.Pops pending last first) = holding slot size pending last first at.Pops
settle_at slot size block (to.Scans pending last first) = holding slot size pending last first (at.Scans 0 first 0)

-- it has told that the block is retired, or stands at that point
abbrev pub retired : {T : Type 0} → ℕ → ℕ → ℕ → Retired → Reached Settle (Settled T)
retired slot size block to.Ended = Told settled.Done
retired slot size block stop = At (settle_at slot size block stop)
