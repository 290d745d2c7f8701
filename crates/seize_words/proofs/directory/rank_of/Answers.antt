use Rattle.std.proofs.Common.{◌+◌, sym}
use Rattle.std.proofs.Math.Nat.{zero-mod}
use Rattle.seize_words.proofs.directory.rank_of.Goals as goal

pub returns-then-choice-eq0 : goal.returns-then-choice-eq0
returns-then-choice-eq0 c = rw c.if-choice-eq0.true (sym (zero-mod (c.args.count + 1)))
