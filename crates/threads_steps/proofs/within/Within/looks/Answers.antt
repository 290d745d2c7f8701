use Rattle.threads_steps.proofs.Forms.{may_look_by, has_looked_by}
use Rattle.threads_steps.proofs.within.Within.looks.Goals as goal

pub step-requires : goal.step-requires
step-requires g c =
    let q = c.args.key.now in
    may_look_by g.K.PartialEq.eq g.S.Hashes.hash (g.Q.Equivalent.stands_for q) (g.Q.Equivalent.equivalent q) (g.met.Q.Equivalent.stands q) c.args.self.now c.args.lookup.now c.requires.looks

pub returns-clause-told : goal.returns-clause-told
returns-clause-told g c =
    let q = c.args.key.now in
    (has_looked_by g.K.PartialEq.eq g.S.Hashes.hash (g.Q.Equivalent.stands_for q) (g.Q.Equivalent.equivalent q) (g.met.Q.Equivalent.stands q) c.args.self.now c.args.lookup.now c.requires.looks c.step.new.memory (c.step.new.self, c.step.result) c.step.ensures).0

pub returns-clause-calls : goal.returns-clause-calls
returns-clause-calls g c =
    let q = c.args.key.now in
    (has_looked_by g.K.PartialEq.eq g.S.Hashes.hash (g.Q.Equivalent.stands_for q) (g.Q.Equivalent.equivalent q) (g.met.Q.Equivalent.stands q) c.args.self.now c.args.lookup.now c.requires.looks c.step.new.memory (c.step.new.self, c.step.result) c.step.ensures).3

pub returns-clause-stays : goal.returns-clause-stays
returns-clause-stays g c =
    let q = c.args.key.now in
    (has_looked_by g.K.PartialEq.eq g.S.Hashes.hash (g.Q.Equivalent.stands_for q) (g.Q.Equivalent.equivalent q) (g.met.Q.Equivalent.stands q) c.args.self.now c.args.lookup.now c.requires.looks c.step.new.memory (c.step.new.self, c.step.result) c.step.ensures).1

pub returns-clause-same : goal.returns-clause-same
returns-clause-same g c =
    let q = c.args.key.now in
    (has_looked_by g.K.PartialEq.eq g.S.Hashes.hash (g.Q.Equivalent.stands_for q) (g.Q.Equivalent.equivalent q) (g.met.Q.Equivalent.stands q) c.args.self.now c.args.lookup.now c.requires.looks c.step.new.memory (c.step.new.self, c.step.result) c.step.ensures).2
