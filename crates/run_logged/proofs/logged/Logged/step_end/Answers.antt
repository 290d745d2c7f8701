-- A step of the end of a map.
use Rattle.std.proofs.Common.{◌++◌, sym, ap, subst, ◌∙◌}
use Rattle.run_effects.specs.Effects.Effects.{effects_of, known_after}
use Rattle.run_effects.specs.Effects.Known.{known}
use Rattle.run_effects.specs.declared.acting.Acting.TheVariants.{Ending}
use Rattle.run_executor.specs.declared.executor.Executor.{Executor}
use Rattle.run_logged.proofs.Log.EndSteps.{end_steps}
use Rattle.run_kept.proofs.Sheds.KeptGiven.{given_noted}
use Rattle.run_logged.proofs.logged.Logged.step_end.Goals as goal
use Rattle.run_executor.specs.Executing.Ending.{EndsThere}

pub returns-clause-leads : goal.returns-clause-leads
returns-clause-leads g c =
    end_steps c.args.self.now c.note.new.self c.step_ending-told.new.self c.args.caller c.args.map c.step_ending-told.result c.args.effects.now.items c.note.new.effects.items
    (λ same hash v at. c.step_ending-told.ensures.leads same hash v at) c.in_ok-note.ensures.did c.in_ok-note.ensures.known c.note.ensures.executor c.step_ending-told.ensures.given

pub returns-clause-steps : goal.returns-clause-steps
returns-clause-steps g c = λ same hash s at.
    subst (λ (e : Executor _ _ _). EndsThere same hash c.args.caller c.step_ending-told.result s c.args.self.now.executor e) (sym c.note.ensures.executor)
    (c.step_ending-told.ensures.leads same hash s at)

pub returns-clause-did : goal.returns-clause-did
returns-clause-did g c =
    c.in_ok-note.ensures.did
    ∙ ap (λ (e : Executor _ _ _). c.args.effects.now.items ++ effects_of (Ending c.args.map) (known c.args.self.now.notes) e.memory.changed) (sym c.note.ensures.executor)

pub returns-clause-noted : goal.returns-clause-noted
returns-clause-noted g c =
    c.in_ok-note.ensures.known
    ∙ ap (λ (e : Executor _ _ _). known_after (Ending c.args.map) e.memory.changed (known c.args.self.now.notes)) (sym c.note.ensures.executor)

pub returns-in_err-note-clause-given : goal.returns-in_err-note-clause-given
returns-in_err-note-clause-given g c = given_noted c.args.self.now.executor c.step_ending-told.new.self c.note.new.self.executor c.step_ending-told.ensures.given c.note.ensures.executor

pub returns-clause-given : goal.returns-clause-given
returns-clause-given g c = given_noted c.args.self.now.executor c.step_ending-told.new.self c.note.new.self.executor c.step_ending-told.ensures.given c.note.ensures.executor
