-- What a sweep for one owner leaves of the pairs.
use Rattle.owner_whole.proofs.Whole.Contents.KeptBy.{kept_begins, kept_told, kept_at_end}
use Rattle.owner_whole.proofs.Whole.Contents.Numbered.{numbers_are, numbers_go, pairs_are_in_it}
use Rattle.owner_whole.proofs.Whole.Contents.Shown.{walks_show_all}
use Rattle.owner_whole.proofs.Whole.Contents.Swept.{swept_begins, between, shown, asks_once, refused, sweeps_leave}
use Rattle.owner_whole.proofs.law.whole.sweeps_leave_pairs.Goals as goal

pub returns : goal.returns
returns c d = record { numbers = numbers_are; pairs = numbers_go; in_it = pairs_are_in_it; begins = swept_begins; between = between; shown = shown; asks_once = asks_once; refused = refused; leaves = sweeps_leave; kept_begins = kept_begins; kept_told = kept_told; kept = kept_at_end; shown_all = walks_show_all _ }
