use Rattle.threads_rule.proofs.Errands.Stepping.{called_like, called_so, may_call}
use Rattle.threads_steps.proofs.within.Within.calls.Goals as goal

pub steps-requires : goal.steps-requires
steps-requires g c = record { may = may_call c.args.hasher.now c.args.machine.now c.args.self.now.seat.now.view c.requires.calls }

pub returns-clause-told : goal.returns-clause-told
returns-clause-told g c =
    called_so c.args.hasher.now g.K.PartialEq.eq g.S.Hashes.hash c.args.machine.now c.steps.new.machine c.steps.result c.args.self.now.seat.now.view c.steps.new.self.seat.now.view c.requires.calls
    c.steps.ensures.stepped

pub returns-clause-like : goal.returns-clause-like
returns-clause-like g c =
    called_like c.args.hasher.now g.K.PartialEq.eq g.S.Hashes.hash c.args.machine.now c.steps.new.machine c.steps.result c.args.self.now.seat.now.view c.steps.new.self.seat.now.view c.requires.calls
    c.steps.ensures.stepped
