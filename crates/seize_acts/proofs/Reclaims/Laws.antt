-- What the laws promise, clause by clause: the one file of lemmas that other crates cite.
use Rattle.std.specs.Prelude.{Option}
use Rattle.std.proofs.Common.{ℕ, Bool}
use Rattle.seize_acts.specs.Reclaims.Laws.{ReclaimingEnds, ReclaimedInOrder, ListsStay, OneListARoot, ClearingLeavesSetsAndSlots}
use Rattle.seize_acts.proofs.Reclaims.AllReclaimed.Ends.{left_now}
use Rattle.seize_acts.proofs.Reclaims.AllReclaimed.Rest.{ends_with_all, values_of_all}
use Rattle.seize_acts.proofs.Reclaims.Roots.Given.{cleared_before, cleared_uses}
use Rattle.seize_acts.proofs.Reclaims.Roots.Listed.{cleared_hand}
use Rattle.seize_acts.proofs.Reclaims.Roots.Once.{lists_once}

module _ {T : Type 0} (left_over : T → Bool) where
  pub one_list_a_root : OneListARoot T left_over
  one_list_a_root m h = lists_once left_over m h

module _ {T : Type 0} (defers : T → Option ℕ) (left_over : T → Bool) (batch_size : ℕ) where
  pub reclaiming_ends : ReclaimingEnds T defers left_over batch_size
  reclaiming_ends = ends_with_all defers left_over batch_size

  pub reclaimed_in_order : ReclaimedInOrder T defers left_over batch_size
  reclaimed_in_order = values_of_all defers left_over batch_size

  pub lists_stay : ListsStay T defers left_over batch_size
  lists_stay = left_now defers left_over batch_size

pub clearing_is_quiet : ClearingLeavesSetsAndSlots
clearing_is_quiet back h = (cleared_before back h, cleared_uses back h, λ b none. cleared_hand back b h none)
