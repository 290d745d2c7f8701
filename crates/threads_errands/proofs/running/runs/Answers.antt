use Rattle.std.specs.Prelude.{Option}
use Rattle.std.proofs.Common.{refl, sym, subst, ◌∙◌}
use Rattle.map_tables.specs.declared.node.Node.{Node}
use Rattle.papaya_raw.specs.declared.machines.progress.Progress.{Progress}
use Rattle.threads_steps.specs.Given.ByKey.{by_key}
use Rattle.threads_steps.specs.Given.ErrandsCalling.{CalledSo}
use Rattle.threads_steps.proofs.Given.ErrandsBeginnings.{stays_on}
use Rattle.threads_steps.proofs.Given.ErrandsRuns.{asks_none, ended_so, goes_on, of_them, same_pair}
use Rattle.threads_steps.proofs.Given.ErrandsStepping.{fits_then}
use Rattle.threads_steps.specs.Storing.{Since, further}
use Rattle.threads_steps.proofs.Handing.{back_at_last, handed_at_last}
use Rattle.threads_steps.proofs.Sinces.{hands_it, since_last}
use Rattle.threads_errands.proofs.running.runs.Goals as goal

pub loop-init : goal.loop-init
loop-init g c = (
  c.requires.calls,
  record { slot = refl; map = refl },
  (refl, refl, refl),
  λ told. refl,
  λ pair since its. since,
  refl,
)

pub helps-requires-clause-own : goal.helps-requires-clause-own
helps-requires-clause-own g c = c.loop.invariant.2.0 ∙ c.requires.own

pub helps-requires-clause-away : goal.helps-requires-clause-away
helps-requires-clause-away g c = λ none. c.requires.away (sym c.loop.invariant.2.2 ∙ none)

pub steps-told-requires-clause-own : goal.steps-told-requires-clause-own
steps-told-requires-clause-own g c = c.helps.ensures.same.0 ∙ c.loop.invariant.2.0 ∙ c.requires.own

pub steps-told-requires-clause-away : goal.steps-told-requires-clause-away
steps-told-requires-clause-away g c = λ none. c.requires.away (sym c.loop.invariant.2.2 ∙ sym c.helps.ensures.same.2 ∙ none)

pub ended-requires : goal.ended-requires
ended-requires g c = record { plain = asks_none c.args.hasher.now (by_key g.Q.Equivalent.stands_for c.steps-told.new.machine) c.steps-told.result.0 c.steps-told.new.seat.view c.steps-told.ensures.told }

pub returns-in-Some-ended-clause-ended : goal.returns-in-Some-ended-clause-ended
returns-in-Some-ended-clause-ended g c =
    let u = c.args.seat.now.view in let k = c.helps.new.seat.view in
    ended_so c.args.hasher.now (by_key g.Q.Equivalent.stands_for c.steps-told.new.machine) c.steps-told.result.0 c.in-Some-ended.answer c.in-Some-ended.answer u k c.steps-told.new.seat.view
    c.in-Some-ended.ensures.ended refl c.steps-told.ensures.told (λ told. c.helps.ensures.them told ∙ c.loop.invariant.3 told) c.steps-told.ensures.stepped.calls c.steps-told.ensures.stepped.shows.1

pub returns-in-Some-ended-clause-stays : goal.returns-in-Some-ended-clause-stays
returns-in-Some-ended-clause-stays g c =
    let u = c.args.seat.now.view in let v = c.loop.seat.view in let k = c.helps.new.seat.view in
    stays_on u k c.steps-told.new.seat.view (stays_on u v k c.loop.invariant.1 c.helps.ensures.stays) c.steps-told.ensures.stepped.stays

pub returns-in-Some-ended-clause-same : goal.returns-in-Some-ended-clause-same
returns-in-Some-ended-clause-same g c =
    let r = c.steps-told.ensures.same in let h = c.helps.ensures.same in let i = c.loop.invariant.2 in (r.0 ∙ h.0 ∙ i.0, r.1 ∙ h.1 ∙ i.1, r.2 ∙ h.2 ∙ i.2)

pub returns-in-Some-ended-clause-back : goal.returns-in-Some-ended-clause-back
returns-in-Some-ended-clause-back g c = λ pair since its.
    let u = c.args.seat.now.view in let k = c.helps.new.seat.view in
    let so = c.helps.ensures.back pair c.loop.unstored (c.loop.invariant.4 pair since its) in
    let has = since_last g.K.PartialEq.eq (g.S.Hashes.hash c.args.hasher.now) pair (by_key g.Q.Equivalent.stands_for c.helps.new.machine) (by_key g.Q.Equivalent.stands_for c.steps-told.new.machine) c.loop.unstored c.steps-told.result.0 so
    c.steps-told.ensures.stepped.came
    (hands_it pair k.calls c.steps-told.result.0 (same_pair u k (λ told. c.helps.ensures.them told ∙ c.loop.invariant.3 told) ∙ its) c.steps-told.ensures.stepped.hands) in
    back_at_last pair (by_key g.Q.Equivalent.stands_for c.steps-told.new.machine) c.loop.unstored c.ended.new.unstored c.steps-told.result.0 c.in-Some-ended.answer c.in-Some-ended.answer c.in-Some-ended.ensures.ended has refl
    (c.ended.ensures.unstored ∙ handed_at_last c.in-Some-ended.answer c.steps-told.result.0 c.loop.unstored c.in-Some-ended.ensures.ended)

pub returns-in-Some-ended-clause-fits : goal.returns-in-Some-ended-clause-fits
returns-in-Some-ended-clause-fits g c =
    fits_then c.args.hasher.now (by_key g.Q.Equivalent.stands_for c.args.machine.now) (by_key g.Q.Equivalent.stands_for c.steps-told.new.machine) c.in-Some-ended.answer c.steps-told.new.seat.view (c.steps-told.ensures.like ∙ c.helps.ensures.like ∙ c.loop.invariant.5)
    (subst (λ (told : Progress (Node g.row.K.Denot g.row.V.Denot)). CalledSo c.args.hasher.now (by_key g.Q.Equivalent.stands_for c.steps-told.new.machine) told c.steps-told.new.seat.view) c.in-Some-ended.ensures.ended
    c.steps-told.ensures.told)

pub loop-preserved : goal.loop-preserved
loop-preserved g c =
    let u = c.args.seat.now.view in let v = c.loop.seat.view in let k = c.helps.new.seat.view in let w = c.steps-told.new.seat.view in
    let r = c.steps-told.ensures.same in let h = c.helps.ensures.same in let i = c.loop.invariant.2 in (
      goes_on c.args.hasher.now (by_key g.Q.Equivalent.stands_for c.steps-told.new.machine) c.steps-told.result.0 w c.steps-told.ensures.told c.in_default.ensures.goes,
      stays_on u k w (stays_on u v k c.loop.invariant.1 c.helps.ensures.stays) c.steps-told.ensures.stepped.stays,
      (r.0 ∙ h.0 ∙ i.0, r.1 ∙ h.1 ∙ i.1, r.2 ∙ h.2 ∙ i.2),
      of_them u k w c.steps-told.result.0 (λ told. c.helps.ensures.them told ∙ c.loop.invariant.3 told) c.steps-told.ensures.stepped.calls,
      λ pair since its.
          subst (λ (back : Option (Node g.row.K.Denot g.row.V.Denot)). Since g.K.PartialEq.eq (g.S.Hashes.hash c.args.hasher.now) pair (by_key g.Q.Equivalent.stands_for c.steps-told.new.machine) back) (sym c.ended.ensures.unstored)
          (further (by_key g.Q.Equivalent.stands_for c.helps.new.machine) (by_key g.Q.Equivalent.stands_for c.steps-told.new.machine) c.loop.unstored c.steps-told.result.0 (c.helps.ensures.back pair c.loop.unstored (c.loop.invariant.4 pair since its))
          c.steps-told.ensures.stepped.came
          (hands_it pair k.calls c.steps-told.result.0 (same_pair u k (λ told. c.helps.ensures.them told ∙ c.loop.invariant.3 told) ∙ its) c.steps-told.ensures.stepped.hands)
          c.in_default.ensures.goes),
      c.steps-told.ensures.like ∙ c.helps.ensures.like ∙ c.loop.invariant.5,
    )
