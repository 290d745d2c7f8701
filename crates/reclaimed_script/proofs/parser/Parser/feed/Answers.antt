use Rattle.std.proofs.Common.{◌+◌, ℕ, List, ◌++◌, take, drop, refl, subst}
use Rattle.std.proofs.lemmas.Result.{err_from_is_err_and}
use Rattle.reclaimed_script.specs.Reading.{StopsAt}
use Rattle.reclaimed_script.proofs.ParserLemmas.{append-piece}
use Rattle.reclaimed_script.proofs.parser.Parser.feed.Goals as goal

pub returns-in_err-take_byte-clause-err : goal.returns-in_err-take_byte-clause-err
returns-in_err-take_byte-clause-err c =
    let p = err_from_is_err_and c.from_residual.result c.from_residual.ensures.1 in
    rw (p.1, p.2) (λ (read rest : List ℕ) at.
    subst (λ (text : List ℕ). StopsAt text c.in_err-take_byte.field-0.0) (append-piece read c.args.bytes.now rest c.loop-byte.byte-index _ c.loop-byte-test.true refl)
    (c.in_err-take_byte.ensures.err (read ++ take c.loop-byte.byte-index c.args.bytes.now) (drop (c.loop-byte.byte-index + 1) c.args.bytes.now ++ rest) (c.loop-byte.invariant read at)))
