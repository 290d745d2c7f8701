use Rattle.std.proofs.Common.{◌++◌, ℕ, List}
use Rattle.seize.specs.Given.SeizeWordsMem.{Mem}
use Rattle.seize.specs.World.{Request}
use Rattle.seize_model.specs.Alone.Alone.{History, IsMidway, row_of, blocks_in}
use Rattle.seize_model.proofs.finishing.finish.Given as goal

-- the call is under way still, and has reclaimed more
abbrev pub invariant-loop-value : goal.invariant-loop-value
invariant-loop-value g l =
    (batch_size roots : ℕ) (m : Mem g.row.T.Denot) (h : History) (request : Request) (given : List g.row.T.Denot)
    → IsMidway g.T.Defers.defers batch_size roots m h request (row_of l.fn.call) l.fn.memory given
    → (rest : List g.row.T.Denot) × IsMidway g.T.Defers.defers batch_size roots m h request (row_of l.call) l.memory (given ++ rest)

abbrev pub decreases-loop-value : goal.decreases-loop-value
decreases-loop-value g l = blocks_in l.memory
