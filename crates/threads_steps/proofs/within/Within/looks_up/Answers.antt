use Rattle.map_machines.specs.Lookup.{looking}
use Rattle.threads_steps.proofs.Forms.{has_come_by, may_run_by}
use Rattle.threads_steps.proofs.within.Within.looks_up.Goals as goal

pub look_up-requires : goal.look_up-requires
look_up-requires g c =
    let q = c.args.key.now in
    may_run_by g.K.PartialEq.eq g.S.Hashes.hash (g.Q.Equivalent.stands_for q) (g.Q.Equivalent.equivalent q) (g.met.Q.Equivalent.stands q) (looking c.args.root c.args.mode c.args.hash) c.args.self.now c.requires.looks

pub returns-clause-come : goal.returns-clause-come
returns-clause-come g c =
    let q = c.args.key.now in
    (has_come_by g.K.PartialEq.eq g.S.Hashes.hash (g.Q.Equivalent.stands_for q) (g.Q.Equivalent.equivalent q) (g.met.Q.Equivalent.stands q) c.args.root c.args.mode c.args.hash c.look_up.result c.args.self.now c.look_up.new.memory c.look_up.ensures c.requires.looks).0

pub returns-clause-stays : goal.returns-clause-stays
returns-clause-stays g c =
    let q = c.args.key.now in
    (has_come_by g.K.PartialEq.eq g.S.Hashes.hash (g.Q.Equivalent.stands_for q) (g.Q.Equivalent.equivalent q) (g.met.Q.Equivalent.stands q) c.args.root c.args.mode c.args.hash c.look_up.result c.args.self.now c.look_up.new.memory c.look_up.ensures c.requires.looks).1

pub returns-clause-same : goal.returns-clause-same
returns-clause-same g c =
    let q = c.args.key.now in
    (has_come_by g.K.PartialEq.eq g.S.Hashes.hash (g.Q.Equivalent.stands_for q) (g.Q.Equivalent.equivalent q) (g.met.Q.Equivalent.stands q) c.args.root c.args.mode c.args.hash c.look_up.result c.args.self.now c.look_up.new.memory c.look_up.ensures c.requires.looks).2
