use Rattle.std.proofs.Common.{◌≡◌, ◌∙◌, sym, length, true, false, eqb}
use Rattle.std.proofs.lemmas.Result.{err_from_is_err_and}
use Rattle.reclaimed_script.proofs.ParserLemmas.{IsWhole-closed, IsWhole-open, stops_open, Answers-stop, same_length}
use Rattle.reclaimed_script.proofs.parser.Parser.finish.Goals as goal

pub returns-then-is_empty : goal.returns-then-is_empty
returns-then-is_empty c = λ read left at.
    let none : eqb (length c.args.self.line.items) 0 ≡ true = same_length _ _ true c.args.self.line.ok.0 (sym c.is_empty.ensures ∙ c.if-is_empty.true) in
    let whole = IsWhole-closed read c.args.self.events.items c.args.self.lines c.args.self.line.items none at in
    rw (c.into_script.ensures.events, c.into_script.ensures.lines) (whole.said, whole.counted)

pub returns-in_err-end_line : goal.returns-in_err-end_line
returns-in_err-end_line c =
    let p = err_from_is_err_and c.from_residual.result c.from_residual.ensures.1 in
    let some : eqb (length c.args.self.line.items) 0 ≡ false = same_length _ _ false c.args.self.line.ok.0 (sym c.is_empty.ensures ∙ c.if-is_empty.false) in
    rw (p.1, p.2) (λ read left at. Answers-stop read left c.in_err-end_line.field-0.0 (stops_open read c.args.self.events.items c.args.self.lines c.args.self.line.items c.in_err-end_line.field-0.0 some c.in_err-end_line.ensures.err at))

pub returns : goal.returns
returns c = λ read left at.
    let some : eqb (length c.args.self.line.items) 0 ≡ false = same_length _ _ false c.args.self.line.ok.0 (sym c.is_empty.ensures ∙ c.if-is_empty.false) in
    let whole = IsWhole-open read c.args.self.events.items c.end_line.new.self.events.items c.args.self.lines c.args.self.line.items some c.in_ok-end_line.ensures.events at in
    rw (c.into_script-2.ensures.events, c.into_script-2.ensures.lines, c.in_ok-end_line.ensures.lines) (whole.said, whole.counted)
