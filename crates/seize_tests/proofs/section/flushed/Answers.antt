-- A flush leaves the section open.
use Rattle.std.proofs.Common.{ℕ, ap, [], ◌∙◌}
use Rattle.seize.specs.World.{Use, Flush}
use Rattle.seize_tests.proofs.Tests.Slots.{inside_taken, still_inside}
use Rattle.seize_tests.proofs.section.flushed.Goals as goal

pub flush-requires : goal.flush-requires
flush-requires c = let r = c.requires in (0, r.1.0, r.1.1, inside_taken c.args.size c.args.memory.now c.args.slot r)

pub ended-requires : goal.ended-requires
ended-requires c =
    let r = c.requires in
    (c.args.size, c.args.memory.now, r.1.0, Flush c.args.slot, [], c.flush.ensures 0 r.1.0 r.1.1 (inside_taken c.args.size c.args.memory.now c.args.slot r))

pub returns : goal.returns
returns c =
    let r = c.requires in
    still_inside c.args.size c.ended.new.memory r.1.0.uses c.args.slot (ap (λ (f : ℕ → Use). f c.args.slot) r.1.2 ∙ r.2) c.ended.result
    (c.ended.ensures c.args.size c.args.memory.now r.1.0 (Flush c.args.slot) []
    (c.flush.ensures 0 r.1.0 r.1.1 (inside_taken c.args.size c.args.memory.now c.args.slot r)))
