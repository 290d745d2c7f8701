use Rattle.threads_steps.proofs.Makings.{may_make, has_made}
use Rattle.threads_steps.proofs.within.Within.makes.Goals as goal

pub step-requires : goal.step-requires
step-requires g c = may_make g.K.PartialEq.eq g.S.Hashes.hash c.args.self.now c.args._own c.requires.makes.0 c.args.opening.now c.requires.makes.1

pub returns-clause-told : goal.returns-clause-told
returns-clause-told g c = λ hasher is.
    (has_made g.K.PartialEq.eq g.S.Hashes.hash c.args.self.now c.args._own hasher c.args.opening.now is c.step.new.memory (c.step.new.self, c.step.result) c.step.ensures).made

pub returns-clause-knows : goal.returns-clause-knows
returns-clause-knows g c =
    (has_made g.K.PartialEq.eq g.S.Hashes.hash c.args.self.now c.args._own c.requires.makes.0 c.args.opening.now c.requires.makes.1 c.step.new.memory (c.step.new.self, c.step.result) c.step.ensures).knows

pub returns-clause-chosen : goal.returns-clause-chosen
returns-clause-chosen g c =
    (has_made g.K.PartialEq.eq g.S.Hashes.hash c.args.self.now c.args._own c.requires.makes.0 c.args.opening.now c.requires.makes.1 c.step.new.memory (c.step.new.self, c.step.result) c.step.ensures).chosen

pub returns-clause-left : goal.returns-clause-left
returns-clause-left g c =
    (has_made g.K.PartialEq.eq g.S.Hashes.hash c.args.self.now c.args._own c.requires.makes.0 c.args.opening.now c.requires.makes.1 c.step.new.memory (c.step.new.self, c.step.result) c.step.ensures).left

pub returns-clause-slot : goal.returns-clause-slot
returns-clause-slot g c =
    (has_made g.K.PartialEq.eq g.S.Hashes.hash c.args.self.now c.args._own c.requires.makes.0 c.args.opening.now c.requires.makes.1 c.step.new.memory (c.step.new.self, c.step.result) c.step.ensures).slot

pub returns-clause-calls : goal.returns-clause-calls
returns-clause-calls g c =
    (has_made g.K.PartialEq.eq g.S.Hashes.hash c.args.self.now c.args._own c.requires.makes.0 c.args.opening.now c.requires.makes.1 c.step.new.memory (c.step.new.self, c.step.result) c.step.ensures).calls

pub returns-clause-same : goal.returns-clause-same
returns-clause-same g c =
    (has_made g.K.PartialEq.eq g.S.Hashes.hash c.args.self.now c.args._own c.requires.makes.0 c.args.opening.now c.requires.makes.1 c.step.new.memory (c.step.new.self, c.step.result) c.step.ensures).seat
