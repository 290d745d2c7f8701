-- A caller that reclaims all, alone: its work on slots, by the waiting sets of blocks, and by those of the model.
use Rattle.std.specs.Prelude.{◌≡◌, ℕ, List, ◌++◌, Option}
use Rattle.seize.specs.Sequence.{taken_in}
use Rattle.seize.specs.WaitingSets.{Change, all_reclaimed}
use Rattle.seize.specs.World.{World}
use Rattle.run_executor.specs.Given.SeizeSetsReclaims.{NothingWaits}
use Rattle.run_kept.specs.Models.Turns.{sets_of, CameByTurns}

module _ {T : Type 0} (defers : T → Option ℕ) (batch_size roots : ℕ) where
  -- It has done with slots: the world came about with that, it has reclaimed what the waiting sets say, in that order, and they are as they are then.
  pub record HasReclaimed (v : World T) (before : List Change) (w : World T) : Type 0 where
    pub after : List Change
    pub came : CameByTurns defers batch_size roots w after
    pub taken : taken_in w.log ≡ taken_in v.log ++ (all_reclaimed batch_size (sets_of batch_size before)).reclaimed
    pub sets : sets_of batch_size after ≡ (all_reclaimed batch_size (sets_of batch_size before)).sets
    pub waits : NothingWaits (sets_of batch_size after)
