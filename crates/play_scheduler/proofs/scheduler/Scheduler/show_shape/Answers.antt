-- The tables of a map are shown.
use Rattle.std.proofs.Common.{[], refl, sym, ◌∙◌}
use Rattle.seize_words.specs.declared.fault.Fault.TheVariants.{Busy}
use Rattle.run_schedules.specs.declared.event.Event.TheVariants.{ShowShape}
use Rattle.run_schedules.specs.declared.outcome.Outcome.TheVariants.{Refused, Shape}
use Rattle.play_scheduler.proofs.Busy.{none_quiet}
use Rattle.play_scheduler.proofs.ShapesHere.{not_there, shapes_are, shown, stands_there}
use Rattle.play_scheduler.proofs.Rights.{so_played}
use Rattle.play_scheduler.proofs.scheduler.Scheduler.show_shape.Goals as goal

pub returns-in-None-clause-plays : goal.returns-in-None-clause-plays
returns-in-None-clause-plays g c =
    λ same hash terms log due.
    so_played same hash terms log c.args.self.now (ShowShape c.args.map.now) c.busy.result (Refused Busy) 0 [] c.busy.ensures.outcome c.busy.ensures.steps c.busy.ensures.effects
    (not_there same hash terms log c.args.self.now c.args.map.now due (sym c.setting_of.ensures ∙ c.in-None.is))

pub shapes-requires : goal.shapes-requires
shapes-requires g c =
    let r = c.requires in
    let is = sym c.setting_of.ensures ∙ c.in-Some.is in
    (r.0, r.1, _, _, stands_there r.0 r.1 r.2.0 r.2.1 c.args.self.now c.args.map.now r.2.2.played _ c.in-Some.setting is)

pub returns-in_ok-shapes-in-Some-clause-plays : goal.returns-in_ok-shapes-in-Some-clause-plays
returns-in_ok-shapes-in-Some-clause-plays g c =
    λ same hash terms log due.
    let is = sym c.setting_of.ensures ∙ c.in-Some.is in
    let own = c.args.map.now in
    let shaped = c.in_ok-shapes-in-Some.ensures same hash _ _ (stands_there same hash terms log c.args.self.now own due.played _ c.in-Some.setting is)
    ∙ sym (shapes_are same hash terms log c.args.self.now own due.played _ c.in-Some.setting is) in
    so_played same hash terms log c.args.self.now (ShowShape own) c.quietly.result (Shape c.in_ok-shapes-in-Some.shapes) 0 [] c.quietly.ensures.outcome c.quietly.ensures.steps c.quietly.ensures.effects
    (shown same hash terms log c.args.self.now own due _ c.in-Some.setting is (Shape c.in_ok-shapes-in-Some.shapes) shaped)

pub returns-in-None-clause-quiet : goal.returns-in-None-clause-quiet
returns-in-None-clause-quiet g c = none_quiet c.busy.result.outcome c.busy.result.effects.items c.busy.ensures.effects

pub returns-in_ok-shapes-in-Some-clause-quiet : goal.returns-in_ok-shapes-in-Some-clause-quiet
returns-in_ok-shapes-in-Some-clause-quiet g c = none_quiet c.quietly.result.outcome c.quietly.result.effects.items c.quietly.ensures.effects

pub returns-in-None-clause-works : goal.returns-in-None-clause-works
returns-in-None-clause-works g c = (refl, (c.busy.ensures.effects, refl))

pub returns-in_ok-shapes-in-Some-clause-works : goal.returns-in_ok-shapes-in-Some-clause-works
returns-in_ok-shapes-in-Some-clause-works g c = (refl, (c.quietly.ensures.effects, refl))
