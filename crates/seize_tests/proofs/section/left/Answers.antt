-- A section that is open may end.
use Rattle.std.proofs.Common.{ℕ, ap, [], ◌∙◌}
use Rattle.seize.specs.World.{Use, Leave'}
use Rattle.seize_tests.proofs.section.left.Goals as goal

pub leave-requires : goal.leave-requires
leave-requires c = let r = c.requires in (0, r.1.0, r.1.1, ap (λ (f : ℕ → Use). f c.args.slot) r.1.2 ∙ r.2)

pub ended-requires : goal.ended-requires
ended-requires c =
    let r = c.requires in
    (c.args.size, c.args.memory.now, r.1.0, Leave' c.args.slot, [], c.leave.ensures 0 r.1.0 r.1.1 (ap (λ (f : ℕ → Use). f c.args.slot) r.1.2 ∙ r.2))
