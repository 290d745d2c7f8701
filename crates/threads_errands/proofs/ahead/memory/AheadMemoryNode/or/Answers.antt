use Rattle.std.proofs.Common.{◌∙◌}
use Rattle.seize_words.specs.OneMemory.Op.{Or, Found}
use Rattle.threads_steps.proofs.Given.Keeping.{still_kept}
use Rattle.threads_errands.proofs.Standing.{has_gone, may_make, next_of}
use Rattle.threads_errands.proofs.ahead.memory.AheadMemoryNode.or.Goals as goal

pub catches_up-requires : goal.catches_up-requires
catches_up-requires g c = record { next = next_of g.K.PartialEq.eq g.S.Hashes.hash c.args.self.now (Or c.args.at c.args.bits) c.requires }

pub or_by-requires-clause-may : goal.or_by-requires-clause-may
or_by-requires-clause-may g c = let k = c.catches_up.new.self in
    may_make g.K.PartialEq.eq g.S.Hashes.hash c.args.self.now (Or c.args.at c.args.bits) k.blocks.now.words.fixed k.seat.now.id k.seat.now.view c.requires c.catches_up.ensures.caught

pub returns : goal.returns
returns g c =
    has_gone g.K.PartialEq.eq g.S.Hashes.hash c.args.self.now (Or c.args.at c.args.bits) (Found c.or_by.result) c.catches_up.new.self.seat.now.view _
    (still_kept _ _ c.or_by.ensures.same.1 c.or_by.ensures.errand ∙ c.catches_up.ensures.same) tt c.catches_up.ensures.caught c.or_by.ensures.goes
