-- Who copies a pair that is being copied.
use Rattle.map_measures.proofs.Waits.Claimed as claimed
use Rattle.map_measures.proofs.law.waits.pairs_are_copied_by_calls.Goals as goal

pub returns : goal.returns
returns c d = record { copied = claimed.pairs_are_copied_by_calls _ }
