-- The steps so far have led to the present point.
use Rattle.map_straight.specs.Straight.Going.{DisposeLeads}
use Rattle.threads_errands.proofs.helping.try_batch.Given as goal

abbrev pub invariant-loop : goal.invariant-loop
invariant-loop g l = record { led : DisposeLeads g.M.Look.took g.M.Look.shown l.initial.dispose l.initial.memory l.dispose l.memory }
