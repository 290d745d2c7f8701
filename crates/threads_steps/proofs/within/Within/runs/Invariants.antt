use Rattle.std.specs.Prelude.{◌≡◌, Some}
use Rattle.map_tables.specs.declared.node.Node.{Node}
use Rattle.threads_rule.specs.Views.Told.{pair_in}
use Rattle.threads_rule.specs.Errands.Calling.{IsCalling, sort_of}
use Rattle.threads_rule.specs.Errands.Looking.{IsOfThem, StaysThere}
use Rattle.threads_steps.specs.Made.{IsSameSeat}
use Rattle.threads_steps.specs.Storing.{Since}
use Rattle.threads_steps.proofs.within.Within.runs.Given as goal

-- the call goes on, on the slot and in the map that were there
abbrev pub invariant-loop : goal.invariant-loop
invariant-loop g l =
    IsCalling l.fn.hasher l.machine l.self.seat.now.view × StaysThere l.initial.self.seat.now.view l.self.seat.now.view × IsSameSeat l.initial.self l.self × IsOfThem l.initial.self.seat.now.view l.self.seat.now.view
    × ((pair : Node g.row.K.Denot g.row.V.Denot) → Since g.K.PartialEq.eq (g.S.Hashes.hash l.fn.hasher) pair l.initial.machine l.fn.handed → pair_in l.initial.self.seat.now.view.calls ≡ Some pair → Since g.K.PartialEq.eq (g.S.Hashes.hash l.fn.hasher) pair l.machine l.unstored)
    × (sort_of l.machine ≡ sort_of l.initial.machine)
