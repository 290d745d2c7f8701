use Rattle.std.proofs.Common.{◌≡◌, ℕ, List, ◌≤◌, false}
use Rattle.seize_words.specs.OneMemory.Mem.{Mem}
use Rattle.seize_model.specs.Alone.Alone.{History, blocks_in}
use Rattle.seize_acts.specs.Reclaims.AllReclaimed.{IsReclaiming, is_within, weight_at}
use Rattle.seize_acts.proofs.reclaiming.ReclaimingAll.next.Given as goal

-- whatever is reclaimed, it is so still, there is no block more, and no row is under way
abbrev pub invariant-points : goal.invariant-points
invariant-points g l = record {
  come :
      (batch_size roots : ℕ) (m : Mem g.row.T.Denot) (h : History) (lists : ℕ → List ℕ) (given : List g.row.T.Denot)
      → IsReclaiming g.T.Defers.defers g.T.LeftOver.left_over batch_size roots m h lists l.fn.self.all l.fn.memory given
      → IsReclaiming g.T.Defers.defers g.T.LeftOver.left_over batch_size roots m h lists l.self.all l.memory given;
  no_more : blocks_in l.memory ≤ blocks_in l.fn.memory;
  rests : is_within l.self.all.stands ≡ false;
}

abbrev pub decreases-points : goal.decreases-points
decreases-points g l = weight_at l.self.all l.self.all.stands
