-- A call that is under way.
use Rattle.std.specs.Prelude.{None}
use Rattle.std.proofs.Common.{ℕ, List}
use Rattle.seize_words.specs.OneMemory.Mem.{Mem}
use Rattle.seize_tests.specs.declared.leaf.Leaf.{Leaf}
use Rattle.seize.specs.World.{Request}
use Rattle.seize_model.specs.Alone.Alone.{History, IsMidway, row_of, blocks_in}
use Rattle.seize_tests.proofs.section.ended.Given as goal

-- the call is under way still
abbrev pub invariant-loop-value : goal.invariant-loop-value
invariant-loop-value l =
    (size : ℕ) (m : Mem Leaf) (h : History) (request : Request) (given : List Leaf)
    → IsMidway (λ _. None) size 0 m h request (row_of l.fn.call) l.fn.memory given
    → (more : List Leaf) × IsMidway (λ _. None) size 0 m h request (row_of l.call) l.memory more

abbrev pub decreases-loop-value : goal.decreases-loop-value
decreases-loop-value l = blocks_in l.memory
