use Rattle.std.specs.Prelude.{IfOk, Option, Result}
use Rattle.std.proofs.Common.{refl, sym, subst, ◌∙◌}
use Rattle.seize_words.specs.declared.fault.Fault.{Fault}
use Rattle.map_tables.specs.declared.node.Node.{Node}
use Rattle.papaya_raw.specs.declared.machines.progress.Answer.{Answer}
use Rattle.papaya_raw.specs.declared.machines.progress.Progress.{Progress}
use Rattle.threads_rule.specs.Errands.Calling.{CalledSo, IsAnswerBy}
use Rattle.threads_rule.proofs.Errands.Beginnings.{stays_on}
use Rattle.threads_steps.specs.Storing.{Since, further}
use Rattle.threads_steps.proofs.Handing.{back_at_last, handed_at_last}
use Rattle.threads_rule.proofs.Errands.Stepping.{fits_then}
use Rattle.threads_rule.proofs.Errands.Runs.{asks_none, ended_so, goes_on, of_them, same_pair}
use Rattle.threads_steps.proofs.Sinces.{hands_it, since_last}
use Rattle.threads_steps.proofs.within.Within.runs.Goals as goal

pub loop-init : goal.loop-init
loop-init g c = (
  c.requires.calls,
  record { slot = refl; map = refl },
  refl,
  λ told. refl,
  λ pair since its. since,
  refl,
)

pub ended-requires : goal.ended-requires
ended-requires g c = record { plain = asks_none c.args.hasher.now c.calls-told.new.machine c.calls-told.result c.calls-told.new.self.seat.now.view c.calls-told.ensures.told }

pub returns-in-Some-ended-clause-ended : goal.returns-in-Some-ended-clause-ended
returns-in-Some-ended-clause-ended g c =
    ended_so c.args.hasher.now c.calls-told.new.machine c.calls-told.result c.in-Some-ended.answer c.ran.result.told c.args.self.now.seat.now.view c.loop.self.seat.now.view c.calls-told.new.self.seat.now.view
    c.in-Some-ended.ensures.ended c.ran.ensures.told c.calls-told.ensures.told c.loop.invariant.3 c.calls-told.ensures.stepped.calls c.calls-told.ensures.stepped.shows.1

pub returns-in-Some-ended-clause-stays : goal.returns-in-Some-ended-clause-stays
returns-in-Some-ended-clause-stays g c =
    stays_on c.args.self.now.seat.now.view c.loop.self.seat.now.view c.calls-told.new.self.seat.now.view c.loop.invariant.1 c.calls-told.ensures.stepped.stays

pub returns-in-Some-ended-clause-same : goal.returns-in-Some-ended-clause-same
returns-in-Some-ended-clause-same g c = c.calls-told.ensures.same ∙ c.loop.invariant.2

pub returns-in-Some-ended-clause-back : goal.returns-in-Some-ended-clause-back
returns-in-Some-ended-clause-back g c = λ pair since its.
    let u = c.args.self.now.seat.now.view in let v = c.loop.self.seat.now.view in
    let has = since_last g.K.PartialEq.eq (g.S.Hashes.hash c.args.hasher.now) pair c.loop.machine c.calls-told.new.machine c.loop.unstored c.calls-told.result (c.loop.invariant.4 pair since its)
    c.calls-told.ensures.stepped.came (hands_it pair v.calls c.calls-told.result (same_pair u v c.loop.invariant.3 ∙ its) c.calls-told.ensures.stepped.hands) in
    back_at_last pair c.calls-told.new.machine c.loop.unstored c.ran.result.unstored c.calls-told.result c.in-Some-ended.answer c.ran.result.told c.in-Some-ended.ensures.ended has c.ran.ensures.told
    (c.ran.ensures.unstored ∙ c.ended.ensures.unstored ∙ handed_at_last c.in-Some-ended.answer c.calls-told.result c.loop.unstored c.in-Some-ended.ensures.ended)

pub returns-in-Some-ended-clause-fits : goal.returns-in-Some-ended-clause-fits
returns-in-Some-ended-clause-fits g c =
    subst (λ (answer : Result Answer Fault). IfOk answer (IsAnswerBy c.args.machine.now)) (sym c.ran.ensures.told)
    (fits_then c.args.hasher.now c.args.machine.now c.calls-told.new.machine c.in-Some-ended.answer c.calls-told.new.self.seat.now.view (c.calls-told.ensures.like ∙ c.loop.invariant.5)
    (subst (λ (told : Progress (Node g.row.K.Denot g.row.V.Denot)). CalledSo c.args.hasher.now c.calls-told.new.machine told c.calls-told.new.self.seat.now.view) c.in-Some-ended.ensures.ended
    c.calls-told.ensures.told))

pub loop-preserved : goal.loop-preserved
loop-preserved g c =
    let u = c.args.self.now.seat.now.view in let v = c.loop.self.seat.now.view in let w = c.calls-told.new.self.seat.now.view in (
      goes_on c.args.hasher.now c.calls-told.new.machine c.calls-told.result w c.calls-told.ensures.told c.in_default.ensures.goes,
      stays_on u v w c.loop.invariant.1 c.calls-told.ensures.stepped.stays,
      c.calls-told.ensures.same ∙ c.loop.invariant.2,
      of_them u v w c.calls-told.result c.loop.invariant.3 c.calls-told.ensures.stepped.calls,
      λ pair since its.
          subst (λ (back : Option (Node g.row.K.Denot g.row.V.Denot)). Since g.K.PartialEq.eq (g.S.Hashes.hash c.args.hasher.now) pair c.calls-told.new.machine back) (sym c.ended.ensures.unstored)
          (further c.loop.machine c.calls-told.new.machine c.loop.unstored c.calls-told.result (c.loop.invariant.4 pair since its) c.calls-told.ensures.stepped.came
          (hands_it pair v.calls c.calls-told.result (same_pair u v c.loop.invariant.3 ∙ its) c.calls-told.ensures.stepped.hands) c.in_default.ensures.goes),
      c.calls-told.ensures.like ∙ c.loop.invariant.5,
    )
