-- The places so far have led to the present one.
use Rattle.map_straight.specs.Straight.Going.{CopyLeads}
use Rattle.map_straight.proofs.copying.copy_places.Given as goal

abbrev pub invariant-loop : goal.invariant-loop
invariant-loop g l = record {
  led : CopyLeads (g.S.Hashes.hash l.hasher) g.M.Look.took g.M.Look.shown l.initial.copier l.initial.memory l.copier l.memory;
}
