use Rattle.threads_ends.proofs.Ends.{has_stepped, may_step}
use Rattle.threads_ends.proofs.ending.Ender.steps.Goals as goal

pub step-requires : goal.step-requires
step-requires g c = may_step g.K.PartialEq.eq g.S.Hashes.hash c.args.self.now c.args.machine.now c.requires.ends

pub returns-clause-told : goal.returns-clause-told
returns-clause-told g c =
    (has_stepped g.K.PartialEq.eq g.S.Hashes.hash c.args.self.now c.args.machine.now c.requires.ends c.step.new.memory (c.step.new.self, c.step.result) c.step.ensures).0.told

pub returns-clause-left : goal.returns-clause-left
returns-clause-left g c =
    (has_stepped g.K.PartialEq.eq g.S.Hashes.hash c.args.self.now c.args.machine.now c.requires.ends c.step.new.memory (c.step.new.self, c.step.result) c.step.ensures).0.left

pub returns-clause-along : goal.returns-clause-along
returns-clause-along g c =
    (has_stepped g.K.PartialEq.eq g.S.Hashes.hash c.args.self.now c.args.machine.now c.requires.ends c.step.new.memory (c.step.new.self, c.step.result) c.step.ensures).1

pub returns-clause-stays : goal.returns-clause-stays
returns-clause-stays g c =
    (has_stepped g.K.PartialEq.eq g.S.Hashes.hash c.args.self.now c.args.machine.now c.requires.ends c.step.new.memory (c.step.new.self, c.step.result) c.step.ensures).0.stays

pub returns-clause-same : goal.returns-clause-same
returns-clause-same g c =
    (has_stepped g.K.PartialEq.eq g.S.Hashes.hash c.args.self.now c.args.machine.now c.requires.ends c.step.new.memory (c.step.new.self, c.step.result) c.step.ensures).2
