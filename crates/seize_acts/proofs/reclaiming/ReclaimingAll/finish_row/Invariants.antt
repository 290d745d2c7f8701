use Rattle.std.proofs.Common.{◌≡◌, ℕ, List, [], ◌≤◌, false}
use Rattle.seize_words.specs.OneMemory.Mem.{Mem}
use Rattle.seize.specs.declared.rows.settle.Settle.{Settle}
use Rattle.seize.specs.declared.rows.reclaim_all.Reclaiming.TheVariants.{Flushes}
use Rattle.seize.specs.World.{Flush, Settles}
use Rattle.seize_model.specs.Alone.Alone.{History, IsMidway, blocks_in, given_back}
use Rattle.seize_acts.specs.Reclaims.AllReclaimed.{IsReclaiming, is_flushing, weight_at}
use Rattle.seize_acts.proofs.Reclaims.AllReclaimed.Weights.{row_to_go}
use Rattle.seize_acts.proofs.reclaiming.ReclaimingAll.finish_row.Given as goal

-- Whatever is reclaimed, it is so still, and there is no block more. A row that is no flush leaves no more points before it, and a flush that has
-- reclaimed nothing, and will reclaim something, is under way still.
abbrev pub invariant-steps : goal.invariant-steps
invariant-steps g l = record {
  come :
      (batch_size roots : ℕ) (m : Mem g.row.T.Denot) (h : History) (lists : ℕ → List ℕ) (given : List g.row.T.Denot)
      → IsReclaiming g.T.Defers.defers g.T.LeftOver.left_over batch_size roots m h lists l.fn.self.all l.fn.memory given
      → IsReclaiming g.T.Defers.defers g.T.LeftOver.left_over batch_size roots m h lists l.self.all l.memory given;
  no_more : blocks_in l.memory ≤ blocks_in l.fn.memory;
  less :
      is_flushing l.fn.self.all.stands ≡ false
      → (is_flushing l.self.all.stands ≡ false) × (weight_at l.self.all l.self.all.stands ≤ weight_at l.fn.self.all l.fn.self.all.stands);
  gives :
      (batch_size roots : ℕ) (m : Mem g.row.T.Denot) (h : History) (s : ℕ) (settle : Settle) → l.fn.self.all.stands ≡ Flushes s settle
      → IsMidway g.T.Defers.defers batch_size roots m h (Flush s) (Settles settle) l.fn.memory [] → (given_back batch_size (Flush s) h ≡ [] → ⊥)
      → (now : Settle) × (l.self.all.stands ≡ Flushes s now) × IsMidway g.T.Defers.defers batch_size roots m h (Flush s) (Settles now) l.memory [];
}

abbrev pub decreases-steps : goal.decreases-steps
decreases-steps g l = row_to_go g.T.Defers.defers l.memory l.self.all.stands
