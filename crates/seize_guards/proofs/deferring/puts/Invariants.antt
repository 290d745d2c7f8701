use Rattle.std.specs.Prelude.{◌≡◌}
use Rattle.seize.specs.declared.rows.defer.Deferring.TheVariants.{Links}
use Rattle.seize_views.specs.Views.Notes.{SameNotes}
use Rattle.seize_guards.specs.Behind.{putting}
use Rattle.seize_guards.proofs.deferring.puts.Given as goal

-- the block is to be linked to this head
abbrev pub invariant-loop : goal.invariant-loop
invariant-loop g l =
    (l.seat.view.knows ≡ putting l.fn._slot l.fn.seen l.fn.field l.fn.block (Links l.head)) × SameNotes l.initial.seat.view l.seat.view
    × ((l.seat.base ≡ l.initial.seat.base) × (l.seat.id ≡ l.initial.seat.id) × (l.seat.away ≡ l.initial.seat.away))
