-- The new pair is right, and the others were.
use Rattle.std.proofs.Common.{rules}
use Rattle.papaya_seq.specs.Each.{ordered_are_so}
use Rattle.seq_examples.specs.Fibonacci.{IsRight}
use Rattle.seq_examples.proofs.Memos.{err_of, put_right}
use Rattle.seq_examples.proofs.memo_table.keep.Goals as goal

pub returns : goal.returns
returns c = put_right (c.args.n, c.args.number) c.args.memo.now.pairs _ c.requires.number c.requires.memo (search rules)

pub returns-in_err-memo : goal.returns-in_err-memo
returns-in_err-memo c = ordered_are_so IsRight _ _ (err_of _ c.insert.result _ c.in_err-memo.was c.insert.follows.holds-at-none).0.0.0 c.requires.memo
