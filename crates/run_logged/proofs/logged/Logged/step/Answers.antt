-- A step of a call.
use Rattle.std.proofs.Common.{◌++◌, ap, subst, sym, ◌∙◌}
use Rattle.run_effects.specs.Effects.Effects.{effects_of, known_after}
use Rattle.run_effects.specs.Effects.Known.{known}
use Rattle.run_effects.specs.declared.acting.Acting.TheVariants as acts
use Rattle.run_kept.proofs.Sheds.KeptGiven.{given_noted}
use Rattle.run_logged.proofs.Log.Steps.{goes_on, makes_no_more}
use Rattle.run_logged.proofs.logged.Logged.step.Goals as goal
use Rattle.run_executor.specs.Executing.Stepping.{StepsThere}
use Rattle.run_executor.specs.declared.executor.Executor.{Executor}

pub returns-clause-leads : goal.returns-clause-leads
returns-clause-leads g c = λ name m s shown. goes_on _ _ c.args.self.now c.note.new.self c.step-progress.new.self c.args.caller c.args.map c.step-progress.result c.args.effects.now.items c.note.new.effects.items c.step-progress.ensures.leads c.in_ok-note.ensures.did c.in_ok-note.ensures.known c.note.ensures.executor c.step-progress.ensures.given name m s shown

pub returns-clause-refused : goal.returns-clause-refused
returns-clause-refused g c = makes_no_more c.args.refuse (acts.Call c.args.caller c.args.map) (known c.args.self.now.notes) c.step-progress.new.self.memory.changed c.args.effects.now.items c.note.new.effects.items c.in_ok-note.ensures.did c.step-progress.ensures.refused

pub returns-in_err-note-clause-given : goal.returns-in_err-note-clause-given
returns-in_err-note-clause-given g c = given_noted c.args.self.now.executor c.step-progress.new.self c.note.new.self.executor c.step-progress.ensures.given c.note.ensures.executor

pub returns-clause-given : goal.returns-clause-given
returns-clause-given g c = given_noted c.args.self.now.executor c.step-progress.new.self c.note.new.self.executor c.step-progress.ensures.given c.note.ensures.executor

pub returns-clause-steps : goal.returns-clause-steps
returns-clause-steps g c = record {
  leads = λ s at.
      subst (λ (e : Executor _ _ _). StepsThere g.K.PartialEq.eq (g.S.Hashes.hash c.args.self.now.executor.hasher) c.args.caller c.step-progress.result s c.args.self.now.executor e) (sym c.note.ensures.executor) (c.step-progress.ensures.leads s at);
  is_noted = record {
    did = c.in_ok-note.ensures.did
        ∙ ap (λ (e : Executor _ _ _). c.args.effects.now.items ++ effects_of (acts.Call c.args.caller c.args.map) (known c.args.self.now.notes) e.memory.changed) (sym c.note.ensures.executor);
    noted = c.in_ok-note.ensures.known ∙ ap (λ (e : Executor _ _ _). known_after (acts.Call c.args.caller c.args.map) e.memory.changed (known c.args.self.now.notes)) (sym c.note.ensures.executor);
    given = given_noted c.args.self.now.executor c.step-progress.new.self c.note.new.self.executor c.step-progress.ensures.given c.note.ensures.executor;
  };
}
