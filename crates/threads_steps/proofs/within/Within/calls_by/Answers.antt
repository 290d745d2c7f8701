use Rattle.map_measures.specs.ByKey.ByKey.{by_key}
use Rattle.threads_rule.proofs.Errands.Stepping.{called_like, called_so, may_call}
use Rattle.threads_steps.proofs.within.Within.calls_by.Goals as goal

pub steps_by-requires : goal.steps_by-requires
steps_by-requires g c = record { may = may_call c.args.hasher.now (by_key g.Q.Equivalent.stands_for c.args.machine.now) c.args.self.now.seat.now.view c.requires.calls }

pub returns-clause-told : goal.returns-clause-told
returns-clause-told g c =
    called_so c.args.hasher.now g.K.PartialEq.eq g.S.Hashes.hash (by_key g.Q.Equivalent.stands_for c.args.machine.now) (by_key g.Q.Equivalent.stands_for c.steps_by.new.machine) c.steps_by.result c.args.self.now.seat.now.view c.steps_by.new.self.seat.now.view c.requires.calls
    c.steps_by.ensures.stepped

pub returns-clause-like : goal.returns-clause-like
returns-clause-like g c =
    called_like c.args.hasher.now g.K.PartialEq.eq g.S.Hashes.hash (by_key g.Q.Equivalent.stands_for c.args.machine.now) (by_key g.Q.Equivalent.stands_for c.steps_by.new.machine) c.steps_by.result c.args.self.now.seat.now.view c.steps_by.new.self.seat.now.view c.requires.calls
    c.steps_by.ensures.stepped
