-- What is promised of the number of a copier.
use Rattle.std.specs.Prelude.{List, ◌∷◌}
use Rattle.std.proofs.Common.{ℕ, Bool, true, false, inl, inr, arith}
use Rattle.map_tables.specs.declared.node.Node.{Node}
use Rattle.map_tables.specs.declared.table.Table.{Table}
use Rattle.map_machines.specs.declared.yielding.Yielding.{Yielding}
use Rattle.map_machines.specs.declared.yielding.Yielding.TheVariants as outcome
use Rattle.map_machines.specs.declared.copier.Copier.{Copier}
use Rattle.map_machines.specs.declared.copier.Copying.{Copying}
use Rattle.many_calls.specs.Given.PointsMeasures.{IsBelow}
use Rattle.map_measures.specs.Falls.Room.{planned_in_copying, tables_to_come}
use Rattle.map_measures.specs.Falls.Copies.{number_of_copier, number_at as incremental_at}
use Rattle.map_measures.specs.Falls.CopiesBlocking.{number_of_copier_blocking, number_at as blocking_at}
use Rattle.map_measures.specs.Falls.FallsWithin.{GoesFurther, CopiersFall, BlockingCopiersFall, SupersededCopiersFall}
use Rattle.map_measures.proofs.Falls.Below.{at_most, no_more, fewer}
use Rattle.map_measures.proofs.Falls.Led.{onward}
use Rattle.map_measures.proofs.Falls.Copiers.CopierOn.{FallsTo, CopierOn}
use Rattle.map_measures.proofs.Falls.Copiers.Incremental.{copied_on}
use Rattle.map_measures.proofs.Falls.Copiers.Blocking.{copied_on_blocking}
use Rattle.map_measures.proofs.Falls.Calls.MachineFacts.{copying_stands, copying_stands_blocking}
use Rattle.map_measures.proofs.Falls.Calls.LateFacts.{late_copying}
use Rattle.map_measures.proofs.Waits.Promised.{mode_of as mode_is}

-- fewer tables can still be linked, or its number is lower
room_below : (past past2 : ℕ) (before : Copying → List ℕ) (after : Copier → List ℕ) (stands : Copying) (q : Copier) → FallsTo past past2 before after stands q
    → IsBelow (tables_to_come past2 (planned_in_copying q.stands) ∷ after q) (tables_to_come past (planned_in_copying stands) ∷ before stands)
room_below past past2 before after stands q (inl h) = inl (fewer past past2 (planned_in_copying stands) (planned_in_copying q.stands) h.1 h.0 h.2)
room_below past past2 before after stands q (inr h) =
    at_most _ _ (no_more past past2 (planned_in_copying stands) (planned_in_copying q.stands) (let same = h.0 in omega (arith, same)) h.1) h.2

further_below : {K : Type 0} (V : Type 0) (past past2 : ℕ) (before : Copying → List ℕ) (after : Copier → List ℕ) (p : Copier) (end : Copier × Yielding (Node K V) Table) → GoesFurther end.1
    → CopierOn past past2 before after p p.stands end
    → IsBelow (tables_to_come past2 (planned_in_copying end.0.stands) ∷ after end.0) (tables_to_come past (planned_in_copying p.stands) ∷ before p.stands)
further_below V past past2 before after p (q, outcome.Goes) goes falls = room_below past past2 before after p.stands q falls
further_below V past past2 before after p (q, outcome.Gave value) goes falls = room_below past past2 before after p.stands q falls
further_below V past past2 before after p (q, outcome.Waits) goes falls = absurd goes
further_below V past past2 before after p (q, outcome.Done table) goes falls = absurd goes
further_below V past past2 before after p (q, outcome.Refused fault) goes falls = absurd goes

module _ {K : Type 0} (V : Type 0) (same : K → K → Bool) (hash : K → ℕ) where
  pub copiers_fall : CopiersFall V same hash
  copiers_fall are setting mode w caller c blocks p map facts none m2 end s goes went =
      further_below V c.past went.c2.past (incremental_at c blocks p) (number_of_copier went.c2 went.blocks2) p end goes
      (copied_on same hash setting w.memory c blocks m2 went.c2 went.blocks2 (onward same hash are.lawful setting w caller c blocks map m2 went) p
      (mode_is p.setting setting true facts.setting_is mode) (copying_stands w caller setting c blocks same hash p p.stands facts.point) none end s)

  pub blocking_copiers_fall : BlockingCopiersFall V same hash
  blocking_copiers_fall are setting mode w caller c blocks p map facts none m2 end s goes went =
      further_below V c.past went.c2.past (blocking_at c blocks p) (number_of_copier_blocking went.c2 went.blocks2) p end goes
      (copied_on_blocking same hash setting w.memory c blocks m2 went.c2 went.blocks2 (onward same hash are.lawful setting w caller c blocks map m2 went) p
      (mode_is p.setting setting false facts.setting_is mode) (copying_stands_blocking w caller setting c blocks same hash p p.stands facts.point) none end s)

  pub late_copiers_fall : SupersededCopiersFall V same hash
  late_copiers_fall are setting mode w caller c blocks began p map facts none m2 end s goes went =
      further_below V c.past went.c2.past (blocking_at c blocks p) (number_of_copier_blocking went.c2 went.blocks2) p end goes
      (copied_on_blocking same hash setting w.memory c blocks m2 went.c2 went.blocks2 (onward same hash are.lawful setting w caller c blocks map m2 went) p
      (mode_is p.setting setting false facts.setting_is mode) (late_copying same hash w caller setting c blocks began p p.stands facts.point) none end s)
