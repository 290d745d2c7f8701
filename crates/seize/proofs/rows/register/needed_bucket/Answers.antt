use Rattle.std.proofs.Common.{arith}
use Rattle.seize.proofs.Beginnings.{bucket_needed-last, bucket_needed-other}
use Rattle.seize.proofs.rows.register.needed_bucket.Goals as goal

pub returns-then-index-eq0 : goal.returns-then-index-eq0
returns-then-index-eq0 c =
    bucket_needed-last c.args.slot c.place_of-bucket.result.0 c.place_of-bucket.result.1 (omega (arith, c.if-slot-ge-LAST_SLOT.false))
    c.place_of-bucket.ensures.place c.if-index-eq0.true c.place_of-bucket.ensures.bucket

pub returns-else-index-eq0 : goal.returns-else-index-eq0
returns-else-index-eq0 c =
    bucket_needed-other c.args.slot c.place_of-bucket.result.0 c.place_of-bucket.result.1 (omega (arith, c.if-slot-ge-LAST_SLOT.false))
    c.place_of-bucket.ensures.place c.if-index-eq0.false
