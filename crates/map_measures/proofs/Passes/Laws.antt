-- What the laws promise, clause by clause, for the crates above.
use Rattle.std.proofs.Common.{ℕ, Bool}
use Rattle.map_measures.specs.Passes.FallsSweeps.{SweepsFall, RepliesLowerTheVariant, SweepRowsFall}
use Rattle.map_measures.proofs.Passes.Promised as promised
use Rattle.map_measures.proofs.Passes.Rows as rows
use Rattle.map_measures.proofs.Passes.Telling as telling

module _ {K : Type 0} (V : Type 0) (same : K → K → Bool) (hash : K → ℕ) where
  pub sweeps_fall : SweepsFall V same hash
  sweeps_fall = promised.sweeps_fall V same hash

  pub telling_falls : RepliesLowerTheVariant V same hash
  telling_falls = telling.telling_falls V same hash

  pub sweep_rows_fall : SweepRowsFall V same hash
  sweep_rows_fall = rows.sweep_rows_fall V same hash
