-- What the laws promise, clause by clause, for the crates above.
use Rattle.std.proofs.Common.{ℕ, Bool}
use Rattle.map_facts_late.specs.CoversSweeps.{SweepsCover, SweepsAreRepliedOn}
use Rattle.map_facts_late.specs.LastsSweeps.{SweepsKnowOn}
use Rattle.map_facts_late.specs.RowsSweeps.{SweepsContinue}
use Rattle.map_facts_late.specs.StepsSweeps.{SweepsBegin, SweepsAreReplied, SweepsPreserveTheMap}
use Rattle.map_facts_late.proofs.Swept.Covers.Promised as covers
use Rattle.map_facts_late.proofs.Swept.Covers.Told as covers_told
use Rattle.map_facts_late.proofs.Swept.Lasts.Sweeps as lasts
use Rattle.map_facts_late.proofs.Swept.Rows.Rests as rests
use Rattle.map_facts_late.proofs.Swept.Sweeps.Promised as promised

module _ {K : Type 0} (V : Type 0) (same : K → K → Bool) (hash : K → ℕ) where
  pub sweeps_begin : SweepsBegin V same hash
  sweeps_begin = promised.sweeps_begin V same hash

  pub sweeps_are_told : SweepsAreReplied V same hash
  sweeps_are_told = promised.sweeps_are_told V same hash

  pub sweeps_keep_the_map : SweepsPreserveTheMap V same hash
  sweeps_keep_the_map = promised.sweeps_keep_the_map V same hash

  pub sweeps_know_on : SweepsKnowOn V same hash
  sweeps_know_on = lasts.sweeps_know_on V same hash

  pub sweeps_cover : SweepsCover V same hash
  sweeps_cover = covers.sweeps_cover V same hash

  pub sweeps_are_told_on : SweepsAreRepliedOn V same hash
  sweeps_are_told_on = covers_told.sweeps_are_told_on V same hash

  pub sweeps_go_on : SweepsContinue V same hash
  sweeps_go_on = rests.sweeps_go_on V same hash
