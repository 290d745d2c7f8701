-- By the lemmas on lists.
use Rattle.owner_asks.proofs.Pairs.Laws.{put_is_found, others_stay}
use Rattle.owner_asks.proofs.law.pairs.changes_are_found.Goals as goal

pub returns : goal.returns
returns g c = record { put = put_is_found _ _; others = others_stay _ _ }
