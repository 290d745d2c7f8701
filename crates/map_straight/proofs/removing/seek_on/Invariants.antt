-- The tries so far have led to the present one.
use Rattle.papaya_raw.specs.declared.machines.call.Calling.TheVariants as at
use Rattle.map_straight.specs.Straight.Going.{CallLeads}
use Rattle.map_straight.specs.Straight.Removing.{seeking}
use Rattle.map_straight.proofs.removing.seek_on.Given as goal

abbrev pub invariant-loop : goal.invariant-loop
invariant-loop g l = record {
  led : CallLeads g.Q.Equivalent.equivalent g.K.PartialEq.eq (g.S.Hashes.hash l.hasher) g.M.Look.took g.M.Look.shown (seeking l.setting l.hash l.asked l.fn.first at.Probes) l.initial.memory
      (seeking l.setting l.hash l.asked l.trial at.Probes) l.memory;
}
