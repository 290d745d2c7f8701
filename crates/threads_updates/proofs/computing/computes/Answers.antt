use Rattle.std.specs.Prelude.{suc}
use Rattle.std.proofs.Common.{inr, refl, subst, ◌∙◌}
use Rattle.threads_calls.specs.Given.StepsAsking.{PausedSo}
use Rattle.threads_calls.specs.Given.ThreadsStepsDeclared.within.asking.Halt.{Halt}
use Rattle.threads_calls.proofs.Given.Pausing.{answered, calls_stay_told, ended_on, gone_on, none_said, stays_there_told, them_on}
use Rattle.threads_calls.specs.Given.ErrandsCalling.{wanted_of}
use Rattle.threads_calls.proofs.Given.ErrandsBeginnings.{begun_as, stays_on}
use Rattle.threads_updates.specs.Computing.{Told, computes}
use Rattle.threads_updates.proofs.computing.computes.Goals as goal

pub begins-requires-clause-inside : goal.begins-requires-clause-inside
begins-requires-clause-inside g c = let m = c.requires.begins.2.may in (m.slot, m.inside)

pub begins-requires-clause-knows : goal.begins-requires-clause-knows
begins-requires-clause-knows g c = let m = c.requires.begins.2.may in (m.map, m.knows, m.only)

pub begins-requires-clause-free : goal.begins-requires-clause-free
begins-requires-clause-free g c = c.requires.begins.2.may.free

pub loop-init : goal.loop-init
loop-init g c =
    let m = c.requires.begins in (
      (
        m.0,
        λ none. m.1,
        begun_as g.K.PartialEq.eq g.S.Hashes.hash computes m.0 c.args.hasher.now c.args.machine.now c.args.within.now.seat.now.view c.begins.new.self.seat.now.view m.2 c.begins.ensures.begins,
      ),
      record { slot = refl; map = refl },
      refl,
      λ told. refl,
      (0, refl),
      tt,
    )

pub runs_on-requires : goal.runs_on-requires
runs_on-requires g c = let is = c.loop.invariant.0 in record { calls = (computes, is.0, is.2) }

pub tells-value-requires-clause-may : goal.tells-value-requires-clause-may
tells-value-requires-clause-may g c = c.requires.may

pub tells-value-requires-clause-asks : goal.tells-value-requires-clause-asks
tells-value-requires-clause-asks g c =
    let is = c.loop.invariant.0 in (
      is.0,
      is.1,
      subst (λ (p : Halt). PausedSo computes is.0 c.args.hasher.now c.runs_on.new.machine p c.loop.within.seat.now.view c.runs_on.new.self.seat.now.view) c.in-Asks.is
          (c.runs_on.ensures.paused computes is.0 is.2),
    )

pub tells-value-requires-clause-last : goal.tells-value-requires-clause-last
tells-value-requires-clause-last g c = c.loop.invariant.5

pub returns-in-Ended-clause-came : goal.returns-in-Ended-clause-came
returns-in-Ended-clause-came g c =
    let u = c.args.within.now.seat.now.view in let b = c.begins.new.self.seat.now.view in let v = c.loop.within.seat.now.view in let w = c.runs_on.new.self.seat.now.view in
    let is = c.loop.invariant.0 in let says = Told (g.D.Decides.gives c.args.decider.now) in
    let ended = subst (λ (p : Halt). PausedSo computes is.0 c.args.hasher.now c.runs_on.new.machine p v w) c.in-Ended.is (c.runs_on.ensures.paused computes is.0 is.2) in
    let gone = gone_on g.K.PartialEq.eq g.S.Hashes.hash says c.loop.invariant.4.0 c.runs_on.ensures.gone.0 b v w c.loop.invariant.4.1
    (none_said g.K.PartialEq.eq g.S.Hashes.hash says c.runs_on.ensures.gone.0 v w c.runs_on.ensures.gone.1) in record {
      answered =
          answered g.K.PartialEq.eq g.S.Hashes.hash says (wanted_of c.args.machine.now) c.in-Ended.told u b w gone.0 c.begins.ensures.begins (ended_on c.in-Ended.told b v w c.loop.invariant.3 ended)
          (stays_on b v w c.loop.invariant.1 c.runs_on.ensures.stays) gone.1;
      said = c.loop.invariant.5;
    }

pub returns-in-Ended-clause-same : goal.returns-in-Ended-clause-same
returns-in-Ended-clause-same g c = c.runs_on.ensures.same ∙ c.loop.invariant.2 ∙ c.begins.ensures.same

pub loop-preserved : goal.loop-preserved
loop-preserved g c =
    let b = c.begins.new.self.seat.now.view in let v = c.loop.within.seat.now.view in let w = c.runs_on.new.self.seat.now.view in let x = c.tells-value.new.within.seat.now.view in
    let says = Told (g.D.Decides.gives c.args.decider.now) in
    let gone = gone_on g.K.PartialEq.eq g.S.Hashes.hash says c.loop.invariant.4.0 c.runs_on.ensures.gone.0 b v w c.loop.invariant.4.1
    (none_said g.K.PartialEq.eq g.S.Hashes.hash says c.runs_on.ensures.gone.0 v w c.runs_on.ensures.gone.1) in (
      c.tells-value.ensures.goes,
      stays_on b w x (stays_on b v w c.loop.invariant.1 c.runs_on.ensures.stays) (stays_there_told says w x c.tells-value.ensures.told),
      c.tells-value.ensures.same ∙ c.runs_on.ensures.same ∙ c.loop.invariant.2,
      them_on b w x (them_on b v w c.loop.invariant.3 c.runs_on.ensures.them) (calls_stay_told says w x c.tells-value.ensures.told),
      (suc gone.0, (w, gone.1, inr c.tells-value.ensures.told)),
      c.tells-value.ensures.last,
    )
