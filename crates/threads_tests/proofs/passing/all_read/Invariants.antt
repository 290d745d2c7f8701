use Rattle.std.proofs.Common.{◌≡◌}
use Rattle.threads_tests.proofs.passing.all_read.Given as goal

-- the pass is one of this memory
abbrev pub invariant-loop-key : goal.invariant-loop-key
invariant-loop-key g l = l.pass.seat.base ≡ l.fn.session.caller.blocks.now.words.id.views_name
