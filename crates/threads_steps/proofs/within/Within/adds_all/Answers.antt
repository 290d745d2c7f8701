use Rattle.std.proofs.Common.{refl, subst, ◌∙◌}
use Rattle.papaya_raw.specs.declared.machines.progress.Progress.{Progress}
use Rattle.map_tables.specs.declared.node.Node.{Node}
use Rattle.threads_rule.specs.Errands.Counting.{CountedSo}
use Rattle.threads_rule.specs.Errands.Looking.{HasProgressed}
use Rattle.threads_rule.proofs.Errands.Beginnings.{stays_on}
use Rattle.threads_rule.proofs.Errands.Counting.{of_counting}
use Rattle.threads_rule.proofs.Errands.Runs.{of_them, told_last}
use Rattle.threads_steps.proofs.within.Within.adds_all.Goals as goal

pub loop-count-init : goal.loop-count-init
loop-count-init g c = (c.requires.counts, record { slot = refl; map = refl }, refl, λ told. refl)

pub counted-requires : goal.counted-requires
counted-requires g c = record { plain = of_counting c.args.hasher.now c.loop-count.machine c.adds-told.new.machine c.adds-told.result c.adds-told.new.self.seat.now.view c.adds-told.ensures.told }

pub returns-in-Some-clause-ended : goal.returns-in-Some-clause-ended
returns-in-Some-clause-ended g c =
    let u = c.args.self.now.seat.now.view in let v = c.loop-count.self.seat.now.view in let w = c.adds-told.new.self.seat.now.view in record {
      free =
          subst (λ (told : Progress (Node g.row.K.Denot g.row.V.Denot)). CountedSo c.args.hasher.now c.loop-count.machine c.adds-told.new.machine told w) c.in-Some.ensures.ended
          c.adds-told.ensures.told;
      told =
          told_last u v w _ c.loop-count.invariant.3
          (subst (λ (told : Progress (Node g.row.K.Denot g.row.V.Denot)). HasProgressed told v w) c.in-Some.ensures.ended c.adds-told.ensures.stepped.calls);
      shows = λ word none. absurd none;
    }

pub returns-in-Some-clause-stays : goal.returns-in-Some-clause-stays
returns-in-Some-clause-stays g c =
    stays_on c.args.self.now.seat.now.view c.loop-count.self.seat.now.view c.adds-told.new.self.seat.now.view c.loop-count.invariant.1 c.adds-told.ensures.stepped.stays

pub returns-in-Some-clause-same : goal.returns-in-Some-clause-same
returns-in-Some-clause-same g c = c.adds-told.ensures.same ∙ c.loop-count.invariant.2

pub loop-count-preserved : goal.loop-count-preserved
loop-count-preserved g c =
    let u = c.args.self.now.seat.now.view in let v = c.loop-count.self.seat.now.view in let w = c.adds-told.new.self.seat.now.view in
    let so = subst (λ (told : Progress (Node g.row.K.Denot g.row.V.Denot)). CountedSo c.args.hasher.now c.loop-count.machine c.adds-told.new.machine told w) c.in_default.ensures.goes
    c.adds-told.ensures.told in (
      so.0,
      stays_on u v w c.loop-count.invariant.1 c.adds-told.ensures.stepped.stays,
      c.adds-told.ensures.same ∙ c.loop-count.invariant.2,
      of_them u v w c.adds-told.result c.loop-count.invariant.3 c.adds-told.ensures.stepped.calls,
    )

pub loop-count-smaller : goal.loop-count-smaller
loop-count-smaller g c =
    (subst (λ (told : Progress (Node g.row.K.Denot g.row.V.Denot)). CountedSo c.args.hasher.now c.loop-count.machine c.adds-told.new.machine told c.adds-told.new.self.seat.now.view)
    c.in_default.ensures.goes c.adds-told.ensures.told).1
