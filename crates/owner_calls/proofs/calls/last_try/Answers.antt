-- Each try is a step of the call, which goes on from there.
use Rattle.owner_whole.specs.Strides.Ending.{none_taken, one_more}
use Rattle.owner_whole.proofs.Strides.Runs.Leading.{ends_along}
use Rattle.owner_whole.proofs.Strides.Runs.Steps.{may_step}
use Rattle.owner_calls.proofs.calls.last_try.Goals as goal

pub loop-init : goal.loop-init
loop-init g c = record { leads = λ u probing of_hash of_mode. none_taken _ _ }

pub next_try-requires : goal.next_try-requires
next_try-requires g c = let r = c.requires in (r.0, r.1, may_step _ _ _ (ends_along _ _ _ _ _ (c.loop.invariant.leads r.0 r.1 r.2 r.3) r.4))

pub loop-preserved : goal.loop-preserved
loop-preserved g c = record { leads = λ u probing of_hash of_mode. one_more _ _ _ _ (c.loop.invariant.leads u probing of_hash of_mode) _ tt _ _ (c.in-Some.ensures u probing of_hash of_mode) }

pub returns-in-None : goal.returns-in-None
returns-in-None g c = c.loop.invariant.leads

pub returns : goal.returns
returns g c = c.loop.invariant.leads
