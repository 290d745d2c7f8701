-- A step by which all is reclaimed.
use Rattle.std.proofs.Common.{◌++◌, ap, subst, sym, ◌∙◌}
use Rattle.run_effects.specs.Effects.Effects.{effects_of, known_after}
use Rattle.run_effects.specs.Effects.Known.{known}
use Rattle.run_effects.specs.declared.acting.Acting.TheVariants.{Row}
use Rattle.run_executor.specs.declared.executor.Executor.{Executor}
use Rattle.run_executor.specs.ReclaimsAll.Reclaiming.{ReclaimsThere}
use Rattle.run_kept.proofs.Sheds.KeptGiven.{given_noted}
use Rattle.run_logged.proofs.Log.ReclaimsOn.{reclaiming_steps}
use Rattle.run_logged.proofs.logged.Logged.step_reclaiming.Goals as goal

pub returns-clause-leads : goal.returns-clause-leads
returns-clause-leads g c =
    reclaiming_steps c.args.self.now c.note.new.self c.step-told.new.executor c.args.reclaiming.now.all c.step-told.new.self.all c.step-told.result c.args.effects.now.items c.note.new.effects.items
    (λ same hash s i lists at. c.step-told.ensures.leads same hash s i lists at) c.in_ok-note.ensures.did c.in_ok-note.ensures.known c.note.ensures.executor c.step-told.ensures.given

pub returns-clause-steps : goal.returns-clause-steps
returns-clause-steps g c = λ same hash s i lists at.
    subst (λ (e : Executor _ _ _). ReclaimsThere same hash s i lists c.args.self.now.executor e c.args.reclaiming.now.all c.step-told.new.self.all c.step-told.result) (sym c.note.ensures.executor)
    (c.step-told.ensures.leads same hash s i lists at)

pub returns-clause-did : goal.returns-clause-did
returns-clause-did g c =
    c.in_ok-note.ensures.did
    ∙ ap (λ (e : Executor _ _ _). c.args.effects.now.items ++ effects_of Row (known c.args.self.now.notes) e.memory.changed) (sym c.note.ensures.executor)

pub returns-clause-noted : goal.returns-clause-noted
returns-clause-noted g c =
    c.in_ok-note.ensures.known
    ∙ ap (λ (e : Executor _ _ _). known_after Row e.memory.changed (known c.args.self.now.notes)) (sym c.note.ensures.executor)

pub returns-in_err-note-clause-given : goal.returns-in_err-note-clause-given
returns-in_err-note-clause-given g c = given_noted c.args.self.now.executor c.step-told.new.executor c.note.new.self.executor c.step-told.ensures.given c.note.ensures.executor

pub returns-clause-given : goal.returns-clause-given
returns-clause-given g c = given_noted c.args.self.now.executor c.step-told.new.executor c.note.new.self.executor c.step-told.ensures.given c.note.ensures.executor
