-- The end of a slot's section as straight code: where it stops.
use Rattle.std.specs.Prelude.{ℕ, Bool}
use Rattle.seize.specs.Leave.{leaving}
use Rattle.seize.specs.Settle.{counting_down}
use Rattle.seize.specs.declared.rows.leave.Leave.{Leave}
use Rattle.seize.specs.declared.rows.leave.Leaving.TheVariants as at
use Rattle.seize.specs.declared.rows.settle.Settled.{Settled}
use Rattle.seize.specs.declared.rows.settle.Settled.TheVariants as settled
use Rattle.seize_straight.specs.Reaches.{Reached, At, Told}
use Rattle.seize_straight.specs.declared.leaving.Left.{Left}
use Rattle.seize_straight.specs.declared.leaving.Left.TheVariants as to

-- it is to count down the list with this head
abbrev pub leave_at : ℕ → ℕ → ℕ → Bool → ℕ → Leave
leave_at slot size becomes frees head = record (leaving slot size becomes frees) { stands = at.Settles (counting_down slot size head) }

-- it has told that it has ended, or stands there
abbrev pub left : {T : Type 0} → ℕ → ℕ → ℕ → Bool → Left → Reached Leave (Settled T)
left slot size becomes frees to.Ended = Told settled.Done
left slot size becomes frees (to.List head) = At (leave_at slot size becomes frees head)
