-- The blocks so far have led to the present point.
use Rattle.seize_straight.specs.Going.{DropLeads}
use Rattle.seize_straight.proofs.reclaiming.reclaims.Given as goal

abbrev pub invariant-loop : goal.invariant-loop
invariant-loop g l = record { led : DropLeads g.T.Defers.defers g.M.Look.took g.M.Look.shown l.initial.settle l.initial.memory l.settle l.memory }
