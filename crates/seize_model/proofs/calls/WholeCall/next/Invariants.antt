use Rattle.std.proofs.Common.{ℕ, List, ◌≤◌}
use Rattle.seize.specs.Given.SeizeWordsMem.{Mem}
use Rattle.seize.specs.World.{Request}
use Rattle.seize_model.specs.Alone.Alone.{History, IsMidway, row_of, blocks_in}
use Rattle.seize_model.proofs.Alone.Whole.Ends.{call_to_go}
use Rattle.seize_model.proofs.calls.WholeCall.next.Given as goal

-- whatever call is under way, it is so still, and there is no block more
abbrev pub invariant-loop-value : goal.invariant-loop-value
invariant-loop-value g l = record {
  mid :
      (batch_size roots : ℕ) (m : Mem g.row.T.Denot) (h : History) (request : Request) (given : List g.row.T.Denot)
      → IsMidway g.T.Defers.defers batch_size roots m h request (row_of l.fn.self) l.fn.memory given → IsMidway g.T.Defers.defers batch_size roots m h request (row_of l.self) l.memory given;
  fewer : blocks_in l.memory ≤ blocks_in l.fn.memory;
}

abbrev pub decreases-loop-value : goal.decreases-loop-value
decreases-loop-value g l = call_to_go g.T.Defers.defers l.memory l.self
