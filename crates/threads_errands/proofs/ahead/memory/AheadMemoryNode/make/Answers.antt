use Rattle.std.proofs.Common.{◌∙◌}
use Rattle.seize_words.specs.OneMemory.Op.{Make, Made}
use Rattle.threads_steps.proofs.Given.Keeping.{still_kept}
use Rattle.threads_errands.proofs.Standing.{has_gone, may_make, next_of}
use Rattle.threads_errands.proofs.ahead.memory.AheadMemoryNode.make.Goals as goal

pub catches_up-requires : goal.catches_up-requires
catches_up-requires g c = record { next = next_of g.K.PartialEq.eq g.S.Hashes.hash c.args.self.now (Make c.args.value c.args.words) c.requires }

pub make-made-requires-clause-may : goal.make-made-requires-clause-may
make-made-requires-clause-may g c = let k = c.catches_up.new.self in
    may_make g.K.PartialEq.eq g.S.Hashes.hash c.args.self.now (Make c.args.value c.args.words) k.blocks.now.words.fixed k.seat.now.id k.seat.now.view c.requires c.catches_up.ensures.caught

pub returns : goal.returns
returns g c =
    has_gone g.K.PartialEq.eq g.S.Hashes.hash c.args.self.now (Make c.args.value c.args.words) (Made c.make-made.result) c.catches_up.new.self.seat.now.view _
    (still_kept _ _ c.make-made.ensures.same.1 c.make-made.ensures.errand ∙ c.catches_up.ensures.same) tt c.catches_up.ensures.caught c.make-made.ensures.goes
