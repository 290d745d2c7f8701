use Rattle.papaya_raw.specs.Given.ReservesDeclared.sweep.Purpose.TheVariants.{Walks}
use Rattle.threads_rule.proofs.Errands.Sweeping.{may_sweep, walked_so}
use Rattle.threads_steps.proofs.within.Within.walks.Goals as goal

pub steps-requires : goal.steps-requires
steps-requires g c = record { may = may_sweep c.args.hasher.now Walks c.args.machine.now c.args.self.now.seat.now.view c.requires.walks }

pub returns-clause-told : goal.returns-clause-told
returns-clause-told g c =
    walked_so c.args.hasher.now g.K.PartialEq.eq g.S.Hashes.hash c.args.self.now.seat.now.view c.steps.new.self.seat.now.view c.args.machine.now c.steps.new.machine c.steps.result c.requires.walks
    c.steps.ensures.stepped
