-- A block that is made, linked and unlinked is retired.
use Rattle.std.specs.Prelude.{None}
use Rattle.std.proofs.Common.{ℕ, ap, [], ◌∙◌}
use Rattle.seize_tests.specs.declared.leaf.Leaf.{Leaf}
use Rattle.seize.specs.World.{Use, Retire}
use Rattle.seize_model.specs.Alone.Alone.{made, linked, unlinked}
use Rattle.seize_tests.proofs.Tests.Slots.{cut_history, cut_hand, inside_taken, still_inside}
use Rattle.seize_tests.proofs.section.retired.Goals as goal

pub retire-requires-clause-may : goal.retire-requires-clause-may
retire-requires-clause-may c =
    let r = c.requires in
    let b = c.in-Ok.block in (
      0,
      unlinked b (linked b 0 (made b r.1.0)),
      cut_history (λ _. None) c.args.size 0 c.args.memory.now c.make.new.self r.1.0 r.1.1 _ 0 b tt c.in-Ok.ensures.took,
      inside_taken c.args.size c.args.memory.now c.args.slot r,
      cut_hand {T = Leaf} (λ _. None) c.args.size 0 r.1.0 b,
    )

pub ended-requires : goal.ended-requires
ended-requires c =
    let r = c.requires in
    let b = c.in-Ok.block in
    let h = unlinked b (linked b 0 (made b r.1.0)) in
    let had = cut_history (λ _. None) c.args.size 0 c.args.memory.now c.make.new.self r.1.0 r.1.1 _ 0 b tt c.in-Ok.ensures.took in
    let taken = inside_taken c.args.size c.args.memory.now c.args.slot r in
    (c.args.size, c.make.new.self, h, Retire c.args.slot b, [], c.retire.ensures 0 h had taken (cut_hand {T = Leaf} (λ _. None) c.args.size 0 r.1.0 b))

pub returns : goal.returns
returns c =
    let r = c.requires in
    let b = c.in-Ok.block in
    let h = unlinked b (linked b 0 (made b r.1.0)) in
    let had = cut_history (λ _. None) c.args.size 0 c.args.memory.now c.make.new.self r.1.0 r.1.1 _ 0 b tt c.in-Ok.ensures.took in
    let taken = inside_taken c.args.size c.args.memory.now c.args.slot r in
    let mid = c.retire.ensures 0 h had taken (cut_hand {T = Leaf} (λ _. None) c.args.size 0 r.1.0 b) in
    still_inside c.args.size c.ended.new.memory h.uses c.args.slot (ap (λ (f : ℕ → Use). f c.args.slot) r.1.2 ∙ r.2) c.ended.result
    (c.ended.ensures c.args.size c.make.new.self h (Retire c.args.slot b) [] mid)
