use Rattle.std.proofs.Common.{ℕ, []}
use Rattle.seize_model.specs.Alone.Alone.{History, IsHistory, Spares, SameLinks}
use Rattle.seize_model.proofs.Alone.Whole.Register.{RegistersStill}
use Rattle.seize_model.proofs.Ends.Rows.Register.{register_to_go}
use Rattle.seize_model.proofs.calls.register.Given as goal

-- whatever has happened before, the row is registering since; and what users have is as it was
abbrev pub invariant-loop-slot : goal.invariant-loop-slot
invariant-loop-slot g l = record {
  still :
      (batch_size roots : ℕ) (h : History) (had : IsHistory g.T.Defers.defers batch_size roots l.fn.memory h)
      → RegistersStill g.T.Defers.defers batch_size roots l.fn.memory h had l.fn.enters l.memory l.row;
  spares : Spares l.fn.memory l.memory [];
  links : SameLinks l.fn.memory l.memory;
}

abbrev pub decreases-loop-slot : goal.decreases-loop-slot
decreases-loop-slot g l = register_to_go l.row
