use Rattle.papaya_raw.specs.Given.ReservesDeclared.sweep.Purpose.TheVariants.{Retains}
use Rattle.threads_rule.proofs.Errands.Sweeping.{may_sweep, retained_so}
use Rattle.threads_steps.proofs.within.Within.retains.Goals as goal

pub steps-requires : goal.steps-requires
steps-requires g c = record { may = may_sweep c.args.hasher.now Retains c.args.machine.now c.args.self.now.seat.now.view c.requires.retains }

pub returns-clause-told : goal.returns-clause-told
returns-clause-told g c =
    retained_so c.args.hasher.now g.K.PartialEq.eq g.S.Hashes.hash c.args.self.now.seat.now.view c.steps.new.self.seat.now.view c.args.machine.now c.steps.new.machine c.steps.result
    c.requires.retains c.steps.ensures.stepped
