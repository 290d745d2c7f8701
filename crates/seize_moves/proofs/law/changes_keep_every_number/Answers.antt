use Rattle.seize_moves.proofs.Waiting.Laws.{tidy_at_start, changes_keep, changes_follow, active_slots_wait}
use Rattle.seize_moves.proofs.law.changes_keep_every_number.Goals as goal
use Rattle.seize_moves.proofs.Waiting.Handed.{deferred_held as deferred_is_held}
use Rattle.seize_moves.proofs.Waiting.Kept.{all_changed_keep as all_changes_keep}

pub returns : goal.returns
returns c = record {
  begins = tidy_at_start;
  keeps = changes_keep;
  all_keep = all_changes_keep;
  follow = changes_follow;
  deferred = deferred_is_held;
  quiet = active_slots_wait;
}
