-- What is found is right, since every pair is.
use Rattle.seq_examples.proofs.Memos.{found_right}
use Rattle.seq_examples.proofs.memo_table.known.Goals as goal

pub returns : goal.returns
returns c = rw (c.copied.ensures, c.get.ensures.value) (found_right c.args.n c.args.memo.now.pairs c.requires)
