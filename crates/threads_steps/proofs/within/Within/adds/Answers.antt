use Rattle.threads_rule.proofs.Errands.Counting.{counts_so, may_add}
use Rattle.threads_steps.proofs.within.Within.adds.Goals as goal

pub steps-requires : goal.steps-requires
steps-requires g c = record { may = may_add c.args.hasher.now c.args.machine.now c.args.self.now.seat.now.view c.requires.counts }

pub returns-clause-told : goal.returns-clause-told
returns-clause-told g c =
    counts_so c.args.hasher.now g.K.PartialEq.eq g.S.Hashes.hash c.args.self.now.seat.now.view c.steps.new.self.seat.now.view c.args.machine.now c.steps.new.machine c.steps.result c.requires.counts
    c.steps.ensures.stepped
