-- The tries so far have led to the present one.
use Rattle.map_machines.specs.declared.lookup.Looking.TheVariants as at
use Rattle.map_straight.specs.Straight.Going.{LookLeads}
use Rattle.map_straight.specs.Straight.Looking.{looks}
use Rattle.map_straight.proofs.looking.look_on.Given as goal

abbrev pub invariant-loop : goal.invariant-loop
invariant-loop g l = record {
  led : LookLeads (g.Q.Equivalent.equivalent l.asked) g.M.Look.took g.M.Look.shown (looks l.root l.mode l.hash (at.Probes l.fn.first)) l.initial.memory
      (looks l.root l.mode l.hash (at.Probes l.trial)) l.memory;
}
