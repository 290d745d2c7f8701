use Rattle.std.proofs.Common.{sym, subst, ◌∙◌, refl, List, Result}
use Rattle.std.specs.Prelude.{OnOk, IfErr}
use Rattle.reclaimed_script.specs.declared.fault.LineFault.{LineFault}
use Rattle.reclaimed_script.specs.Lines.{ScriptEvent}
use Rattle.reclaimed_script.specs.Script.{Adds, AddsNothing}
use Rattle.reclaimed_script.proofs.ParserLemmas.{line_at-many, line_at-event, line_at-empty, Adds-none}
use Rattle.reclaimed_script.proofs.parser.add_line.Goals as goal

pub returns-then-number-gt-LINES-clause-err : goal.returns-then-number-gt-LINES-clause-err
returns-then-number-gt-LINES-clause-err c = (refl, line_at-many c.args.number c.args.line.now c.if-number-gt-LINES.true c.requires)

pub returns-then-is_empty-clause-ok : goal.returns-then-is_empty-clause-ok
returns-then-is_empty-clause-ok c = Adds-none _ _ (line_at-empty c.args.number c.args.line.now c.if-number-gt-LINES.false (sym c.is_empty.ensures ∙ c.if-is_empty.true))

pub returns-clause-ok : goal.returns-clause-ok
returns-clause-ok c =
    subst (λ (said : Result (List ScriptEvent) LineFault). OnOk c.add_event.result (Adds c.args.events.now.items c.add_event.new.events.items said)) (line_at-event c.args.number c.args.line.now c.if-number-gt-LINES.false c.requires (sym c.is_empty.ensures ∙ c.if-is_empty.false)) c.add_event.ensures.ok

pub returns-clause-err : goal.returns-clause-err
returns-clause-err c =
    subst (λ (said : Result (List ScriptEvent) LineFault). IfErr c.add_event.result (AddsNothing c.args.number said)) (line_at-event c.args.number c.args.line.now c.if-number-gt-LINES.false c.requires (sym c.is_empty.ensures ∙ c.if-is_empty.false)) c.add_event.ensures.err
