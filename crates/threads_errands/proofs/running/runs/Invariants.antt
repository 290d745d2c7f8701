use Rattle.std.specs.Prelude.{◌≡◌, Some}
use Rattle.map_tables.specs.declared.node.Node.{Node}
use Rattle.threads_steps.specs.Given.ViewsTold.{pair_in}
use Rattle.threads_steps.specs.Given.ByKey.{by_key}
use Rattle.threads_steps.specs.Given.ErrandsCalling.{IsCalling, sort_of}
use Rattle.threads_steps.specs.Given.ErrandsLooking.{IsOfThem, StaysThere}
use Rattle.threads_steps.specs.Storing.{Since}
use Rattle.threads_errands.proofs.running.runs.Given as goal

-- the call goes on, on the slot and in the map that were there
abbrev pub invariant-loop : goal.invariant-loop
invariant-loop g l =
    IsCalling l.fn.hasher (by_key g.Q.Equivalent.stands_for l.machine) l.seat.view × StaysThere l.initial.seat.view l.seat.view
    × ((l.seat.base ≡ l.initial.seat.base) × (l.seat.id ≡ l.initial.seat.id) × (l.seat.away ≡ l.initial.seat.away)) × IsOfThem l.initial.seat.view l.seat.view
    × ((pair : Node g.row.K.Denot g.row.V.Denot) → Since g.K.PartialEq.eq (g.S.Hashes.hash l.fn.hasher) pair (by_key g.Q.Equivalent.stands_for l.initial.machine) l.fn.handed → pair_in l.initial.seat.view.calls ≡ Some pair
    → Since g.K.PartialEq.eq (g.S.Hashes.hash l.fn.hasher) pair (by_key g.Q.Equivalent.stands_for l.machine) l.unstored)
    × (sort_of (by_key g.Q.Equivalent.stands_for l.machine) ≡ sort_of (by_key g.Q.Equivalent.stands_for l.initial.machine))
