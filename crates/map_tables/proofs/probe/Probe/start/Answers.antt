-- The first try is at the place of the formula.
use Rattle.map_tables.proofs.Places.{place-start}
use Rattle.map_tables.proofs.probe.Probe.start.Goals as goal

pub returns-clause-place : goal.returns-clause-place
returns-clause-place c bits is_mask = place-start c.args.hash c.args.mask bits is_mask
