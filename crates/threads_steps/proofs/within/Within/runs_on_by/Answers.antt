use Rattle.std.specs.Prelude.{suc}
use Rattle.std.proofs.Common.{inl, refl, ◌∙◌}
use Rattle.map_measures.specs.ByKey.ByKey.{by_key}
use Rattle.threads_rule.proofs.Errands.Beginnings.{stays_on}
use Rattle.threads_rule.proofs.Errands.Telling.{may_go, tells_so}
use Rattle.threads_steps.proofs.Pausing.{goes_still, of_call, paused_so}
use Rattle.threads_rule.proofs.Errands.Runs.{of_them}
use Rattle.threads_steps.proofs.within.Within.runs_on_by.Goals as goal

pub loop-init : goal.loop-init
loop-init g c = (λ k s is. is, record { slot = refl; map = refl }, refl, λ told. refl, (0, refl))

pub steps_by-told-requires : goal.steps_by-told-requires
steps_by-told-requires g c =
    let is = c.requires.calls in record {
      may = may_go g.K.PartialEq.eq is.0 is.1 c.args.hasher.now (by_key g.Q.Equivalent.stands_for c.loop.machine) c.loop.self.seat.now.view (c.loop.invariant.0 is.0 is.1 is.2);
    }

pub paused-requires : goal.paused-requires
paused-requires g c =
    let is = c.requires.calls in record {
      plain =
          of_call is.0 is.1 c.args.hasher.now (by_key g.Q.Equivalent.stands_for c.steps_by-told.new.machine) c.steps_by-told.result c.steps_by-told.new.self.seat.now.view
          (tells_so g.K.PartialEq.eq is.0 is.1 c.args.hasher.now g.S.Hashes.hash (by_key g.Q.Equivalent.stands_for c.loop.machine) (by_key g.Q.Equivalent.stands_for c.steps_by-told.new.machine) c.steps_by-told.result c.loop.self.seat.now.view c.steps_by-told.new.self.seat.now.view
          (c.loop.invariant.0 is.0 is.1 is.2) c.steps_by-told.ensures.stepped);
    }

pub returns-in-Some-paused-clause-paused : goal.returns-in-Some-paused-clause-paused
returns-in-Some-paused-clause-paused g c = λ k s is.
    paused_so k s c.args.hasher.now (by_key g.Q.Equivalent.stands_for c.steps_by-told.new.machine) c.steps_by-told.result c.in-Some-paused.pause c.args.self.now.seat.now.view c.loop.self.seat.now.view c.steps_by-told.new.self.seat.now.view
    c.in-Some-paused.ensures.paused (tells_so g.K.PartialEq.eq k s c.args.hasher.now g.S.Hashes.hash (by_key g.Q.Equivalent.stands_for c.loop.machine) (by_key g.Q.Equivalent.stands_for c.steps_by-told.new.machine) c.steps_by-told.result c.loop.self.seat.now.view c.steps_by-told.new.self.seat.now.view
    (c.loop.invariant.0 k s is) c.steps_by-told.ensures.stepped) c.loop.invariant.3 c.steps_by-told.ensures.stepped.calls c.steps_by-told.ensures.stepped.shows.1

pub returns-in-Some-paused-clause-gone : goal.returns-in-Some-paused-clause-gone
returns-in-Some-paused-clause-gone g c = let gone = c.loop.invariant.4 in (suc gone.0, (c.loop.self.seat.now.view, gone.1, inl c.steps_by-told.ensures.by))

pub returns-in-Some-paused-clause-them : goal.returns-in-Some-paused-clause-them
returns-in-Some-paused-clause-them g c =
    of_them c.args.self.now.seat.now.view c.loop.self.seat.now.view c.steps_by-told.new.self.seat.now.view c.steps_by-told.result c.loop.invariant.3 c.steps_by-told.ensures.stepped.calls

pub returns-in-Some-paused-clause-stays : goal.returns-in-Some-paused-clause-stays
returns-in-Some-paused-clause-stays g c =
    stays_on c.args.self.now.seat.now.view c.loop.self.seat.now.view c.steps_by-told.new.self.seat.now.view c.loop.invariant.1 c.steps_by-told.ensures.stepped.stays

pub returns-in-Some-paused-clause-same : goal.returns-in-Some-paused-clause-same
returns-in-Some-paused-clause-same g c = c.steps_by-told.ensures.same ∙ c.loop.invariant.2

pub loop-preserved : goal.loop-preserved
loop-preserved g c =
    let u = c.args.self.now.seat.now.view in let v = c.loop.self.seat.now.view in let w = c.steps_by-told.new.self.seat.now.view in let goes = c.in_default.ensures.goes in
    let gone = c.loop.invariant.4 in (
      λ k s is.
          goes_still k s c.args.hasher.now (by_key g.Q.Equivalent.stands_for c.steps_by-told.new.machine) c.steps_by-told.result w (tells_so g.K.PartialEq.eq k s c.args.hasher.now g.S.Hashes.hash (by_key g.Q.Equivalent.stands_for c.loop.machine) (by_key g.Q.Equivalent.stands_for c.steps_by-told.new.machine) c.steps_by-told.result c.loop.self.seat.now.view c.steps_by-told.new.self.seat.now.view
          (c.loop.invariant.0 k s is) c.steps_by-told.ensures.stepped) goes.0 goes.1,
      stays_on u v w c.loop.invariant.1 c.steps_by-told.ensures.stepped.stays,
      c.steps_by-told.ensures.same ∙ c.loop.invariant.2,
      of_them u v w c.steps_by-told.result c.loop.invariant.3 c.steps_by-told.ensures.stepped.calls,
      (suc gone.0, (v, gone.1, inl c.steps_by-told.ensures.by)),
    )
