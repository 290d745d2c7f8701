use Rattle.std.proofs.Common.{subst}
use Rattle.reclaimed_script.specs.Outputs.{Writes, has_failed, writer_of}
use Rattle.reclaimed_engine.proofs.Lines.EngineLemmas.{written}
use Rattle.reclaimed_engine.proofs.engine.Goals as goal

pub returns-in-Ok-printed-clause-ends : goal.returns-in-Ok-printed-clause-ends
returns-in-Ok-printed-clause-ends g c =
    let out = c.args.output.now in
    let after = c.print.new.output in
    let errors = c.args.errors.now in
    let told = c.print.new.errors in
    let writes = subst (λ text. Writes c.print.result text (has_failed after) (g.W.Write.contents (writer_of out)) (g.W.Write.contents (writer_of after))) c.deref.ensures.value c.print.ensures.writes in
    written (g.R.Read.remaining c.args.input.now) (g.R.Read.remaining c.read.new.input) c.in-Ok.script c.print.result c.in-Ok-printed.text.items (has_failed after)
    (g.W.Write.contents (writer_of out)) (g.W.Write.contents (writer_of after)) (g.E.Write.contents (writer_of errors)) (g.E.Write.contents (writer_of told)) (has_failed told)
    c.in-Ok.ensures c.in-Ok-printed.ensures.ok writes c.print.ensures.says
