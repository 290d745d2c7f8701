-- Each step of the retirement is one of the call, which goes on from there or has ended.
use Rattle.std.proofs.Common.{sym, ◌∙◌}
use Rattle.owner_whole.specs.Strides.Ending.{none_taken, one_more}
use Rattle.owner_calls.specs.Owned.Inside.{retiring}
use Rattle.owner_calls.proofs.Owned.Inner.{settle_may, settles_on, settles_over}
use Rattle.owner_whole.proofs.Strides.Runs.Leading.{ends_along, leads_on}
use Rattle.owner_calls.proofs.Owned.Straight.{settles_lead, settles_run}
use Rattle.owner_calls.proofs.inside.retires.Goals as goal

pub reclaims-requires : goal.reclaims-requires
reclaims-requires g c =
    let r = c.requires in settles_run g.Q.Equivalent.equivalent g.K.PartialEq.eq g.S.Hashes.hash r.0.hasher r.0 r.1 r.2 _ _ (ends_along _ _ _ _ _ (c.loop.invariant.leads r.0 r.1 r.2) r.3)

pub loop-init : goal.loop-init
loop-init g c = record { leads = λ u answer dispose. none_taken _ _ }

pub step-told-requires : goal.step-told-requires
step-told-requires g c =
    let r = c.requires in
    settle_may g.Q.Equivalent.equivalent g.K.PartialEq.eq g.S.Hashes.hash _ r.0 r.1 r.2 _ (ends_along _ _ _ _ _ (settles_lead g.Q.Equivalent.equivalent g.K.PartialEq.eq g.S.Hashes.hash r.0.hasher r.0 r.1 r.2 _ _ _ _ c.reclaims.ensures) (ends_along _ _ _ _ _ (c.loop.invariant.leads r.0 r.1 r.2) r.3))

pub loop-preserved : goal.loop-preserved
loop-preserved g c = record {
  leads = λ u answer dispose. one_more _ _ _ _ (leads_on _ _ _ _ _ _ _ (c.loop.invariant.leads u answer dispose) (settles_lead g.Q.Equivalent.equivalent g.K.PartialEq.eq g.S.Hashes.hash u.hasher u answer dispose _ _ _ _ c.reclaims.ensures)) _ tt _ _
      (settles_on g.Q.Equivalent.equivalent g.K.PartialEq.eq g.S.Hashes.hash _ u answer dispose _ _ _ c.step-told.result (sym c.has_ended.ensures ∙ c.if-has_ended.false) c.step-told.ensures);
}

pub returns-then-has_ended-clause-over : goal.returns-then-has_ended-clause-over
returns-then-has_ended-clause-over g c = λ u answer dispose ended. (
  retiring u answer dispose _,
  _,
  leads_on _ _ _ _ _ _ _ (c.loop.invariant.leads u answer dispose) (settles_lead g.Q.Equivalent.equivalent g.K.PartialEq.eq g.S.Hashes.hash u.hasher u answer dispose _ _ _ _ c.reclaims.ensures),
  settles_over g.Q.Equivalent.equivalent g.K.PartialEq.eq g.S.Hashes.hash _ u answer dispose _ _ _ c.step-told.result (sym c.has_ended.ensures ∙ c.if-has_ended.true) c.step-told.ensures,
)

pub step-last-requires : goal.step-last-requires
step-last-requires g c =
    let r = c.requires in
    settle_may g.Q.Equivalent.equivalent g.K.PartialEq.eq g.S.Hashes.hash _ r.0 r.1 r.2 _ (ends_along _ _ _ _ _ (c.loop.invariant.leads r.0 r.1 r.2) r.3)

pub returns-clause-over : goal.returns-clause-over
returns-clause-over g c = λ u answer dispose ended. (
  retiring u answer dispose _,
  _,
  c.loop.invariant.leads u answer dispose,
  settles_over g.Q.Equivalent.equivalent g.K.PartialEq.eq g.S.Hashes.hash _ u answer dispose _ _ _ c.step-last.result (sym c.has_ended-2.ensures ∙ ended) c.step-last.ensures,
)

pub returns-clause-on : goal.returns-clause-on
returns-clause-on g c = λ u answer dispose on. (
  retiring u answer dispose _,
  _,
  c.loop.invariant.leads u answer dispose,
  settles_on g.Q.Equivalent.equivalent g.K.PartialEq.eq g.S.Hashes.hash _ u answer dispose _ _ _ c.step-last.result (sym c.has_ended-2.ensures ∙ on) c.step-last.ensures,
)
