-- What is promised where all that waits is reclaimed, beside the call itself: that it terminates, what it reclaims, and the lists behind the roots.
use Rattle.std.specs.Prelude.{◌≡◌, ℕ, ◌<◌, Bool, List, ◌++◌, Option}
use Rattle.seize_words.specs.OneMemory.Mem.{Mem}
use Rattle.seize.specs.World.{times}
use Rattle.seize.specs.declared.rows.reclaim_all.ReclaimAll.{ReclaimAll}
use Rattle.seize_model.specs.Alone.Alone.{History, AreValues}
use Rattle.seize_acts.specs.Reclaims.AllReclaimed.{all, MayReclaimAll, IsReclaiming, IsAllReclaimed, OnlyReclaims}
use Rattle.seize_acts.specs.Reclaims.Roots.{LeftAt, all_lists, all_cleared}

module _ (T : Type 0) (defers : T → Option ℕ) (left_over : T → Bool) (batch_size : ℕ) where
  -- wherever it is under way it can come to its end
  abbrev pub ReclaimingEnds : Type 0
  ReclaimingEnds =
      (roots : ℕ) (m : Mem T) (h : History) (lists : ℕ → List ℕ) (c : ReclaimAll) (m2 : Mem T) (given : List T)
      → IsReclaiming defers left_over batch_size roots m h lists c m2 given
      → (more : List T) × (m3 : Mem T) × IsAllReclaimed defers left_over batch_size roots m h lists m3 (given ++ more)

  -- then it has given back the values of what the sets reclaim, and behind them those of what was behind the roots
  abbrev pub ReclaimedInOrder : Type 0
  ReclaimedInOrder =
      (roots : ℕ) (m : Mem T) (h : History) (lists : ℕ → List ℕ) (m3 : Mem T) (given : List T)
      → IsAllReclaimed defers left_over batch_size roots m h lists m3 given
      → AreValues defers batch_size roots m ((all defers left_over batch_size roots m h).reclaimed ++ all_lists lists roots) given

  -- the lists behind the roots stay, while only what waits is reclaimed
  abbrev pub ListsStay : Type 0
  ListsStay =
      (roots : ℕ) (m : Mem T) (h : History) (lists : ℕ → List ℕ) → MayReclaimAll defers left_over batch_size roots m h lists
      → (m1 : Mem T) (h1 : History) (back : List ℕ) → OnlyReclaims m h m1 h1 back → LeftAt left_over m1 h1 roots lists

-- what is behind a root is one list
abbrev pub OneListARoot : (T : Type 0) → (T → Bool) → Type 0
OneListARoot T left_over =
    (m : Mem T) (h : History) (roots : ℕ) (lists lists2 : ℕ → List ℕ) → LeftAt left_over m h roots lists → LeftAt left_over m h roots lists2
    → (r : ℕ) → r < roots → lists r ≡ lists2 r

-- where blocks were taken away from roots, the sets and the slots are as they were, and each other block is whose it was
abbrev pub ClearingLeavesSetsAndSlots : Type 0
ClearingLeavesSetsAndSlots =
    (back : List ℕ) (h : History)
    → ((all_cleared back h).before ≡ h.before) × ((all_cleared back h).uses ≡ h.uses) × ((b : ℕ) → times b back ≡ 0 → (all_cleared back h).hand b ≡ h.hand b)
