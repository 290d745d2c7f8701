-- The next try is at the place of the formula.
use Rattle.std.proofs.Common.{arith}
use Rattle.map_tables.proofs.Places.{place-next}
use Rattle.map_tables.proofs.probe.Probe.next.Goals as goal

pub returns-clause-place : goal.returns-clause-place
returns-clause-place c hash bits few is_mask is_place =
    place-next hash c.args.mask bits c.args.self.now.i c.args.self.now.len few (omega arith) is_mask is_place
