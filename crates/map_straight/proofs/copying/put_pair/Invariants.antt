-- The tries so far have led to the present one.
use Rattle.map_machines.specs.CopierMarks.{probing}
use Rattle.map_machines.specs.CopierStates.{standing}
use Rattle.map_machines.specs.declared.copier.Copying.TheVariants as at
use Rattle.map_straight.specs.Straight.Going.{CopyLeads}
use Rattle.map_straight.proofs.copying.put_pair.Given as goal

abbrev pub invariant-loop : goal.invariant-loop
invariant-loop g l = record {
  led : CopyLeads (g.S.Hashes.hash l.hasher) g.M.Look.took g.M.Look.shown (probing l.copier l.word l.hash l.table) l.initial.memory
      (standing l.copier (at.Probes l.word l.hash l.table l.probe)) l.memory;
}
