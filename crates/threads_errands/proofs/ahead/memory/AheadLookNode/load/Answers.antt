use Rattle.std.proofs.Common.{◌∙◌}
use Rattle.seize_words.specs.OneMemory.Op.{Load, Found}
use Rattle.threads_steps.proofs.Given.Keeping.{still_kept}
use Rattle.threads_errands.proofs.Standing.{has_gone, may_make, next_of}
use Rattle.threads_errands.proofs.ahead.memory.AheadLookNode.load.Goals as goal

pub catches_up-requires : goal.catches_up-requires
catches_up-requires g c = record { next = next_of g.K.PartialEq.eq g.S.Hashes.hash c.args.self.now (Load c.args.at) c.requires }

pub load_by-requires-clause-may : goal.load_by-requires-clause-may
load_by-requires-clause-may g c = let k = c.catches_up.new.self in
    may_make g.K.PartialEq.eq g.S.Hashes.hash c.args.self.now (Load c.args.at) k.blocks.now.words.fixed k.seat.now.id k.seat.now.view c.requires c.catches_up.ensures.caught

pub returns : goal.returns
returns g c =
    has_gone g.K.PartialEq.eq g.S.Hashes.hash c.args.self.now (Load c.args.at) (Found c.load_by.result) c.catches_up.new.self.seat.now.view _
    (still_kept _ _ c.load_by.ensures.same.1 c.load_by.ensures.errand ∙ c.catches_up.ensures.same) tt c.catches_up.ensures.caught c.load_by.ensures.goes
