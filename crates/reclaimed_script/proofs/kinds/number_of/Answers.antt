use Rattle.std.proofs.Common.{◌≡◌, ◌+◌, ◌*◌, arith, sym, ◌∙◌, drop}
use Rattle.reclaimed_script.specs.Words.{value_from}
use Rattle.reclaimed_script.proofs.WordLemmas.{value_from-drop, number_of-large, number_of-small, number_of-not_decimal, value_from-end}
use Rattle.reclaimed_script.proofs.kinds.number_of.Goals as goal

pub returns-then-not-is_decimal : goal.returns-then-not-is_decimal
returns-then-not-is_decimal c = sym (number_of-not_decimal c.args.word.now (sym c.is_decimal.ensures ∙ c.if-not-is_decimal.true))

pub returns-then-next : goal.returns-then-next
returns-then-next c =
    let more = value_from-drop c.loop-byte.number c.args.word.now c.loop-byte.byte-index c.saturating_sub.result c.loop-byte-test.true c.saturating_sub.ensures in
    sym (number_of-large c.args.word.now (drop (c.loop-byte.byte-index + 1) c.args.word.now) (10 * c.loop-byte.number + c.saturating_sub.result) (sym more ∙ c.loop-byte.invariant) (omega arith))

pub loop-byte-preserved : goal.loop-byte-preserved
loop-byte-preserved c =
    let more = value_from-drop c.loop-byte.number c.args.word.now c.loop-byte.byte-index c.saturating_sub.result c.loop-byte-test.true c.saturating_sub.ensures in
    sym more ∙ c.loop-byte.invariant

pub returns : goal.returns
returns c =
    let all : value_from 0 c.args.word.now ≡ c.loop-byte.number = sym c.loop-byte.invariant ∙ value_from-end c.loop-byte.number c.args.word.now c.loop-byte.byte-index (omega arith) in
    sym (number_of-small c.args.word.now c.loop-byte.number (sym c.is_decimal.ensures ∙ c.if-not-is_decimal.false) (sym all) (omega arith))
