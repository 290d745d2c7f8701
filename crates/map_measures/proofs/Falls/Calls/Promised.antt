-- What is promised of the number of a call.
use Rattle.std.proofs.Common.{ℕ, Bool}
use Rattle.map_measures.specs.Falls.Falls.{CallsFall, SupersededCallsFall, RowsFall}
use Rattle.map_measures.proofs.Falls.Led.{onward}
use Rattle.map_measures.proofs.Falls.Calls.Facts.{call_stands}
use Rattle.map_measures.proofs.Falls.Calls.LateFacts.{late_call_stands}
use Rattle.map_measures.proofs.Falls.Calls.Points.{called_on}
use Rattle.map_measures.proofs.Falls.Calls.Rows.{row_on}

module _ {K Q : Type 0} (V : Type 0) (same : K → K → Bool) (hash : K → ℕ) (asks : Q → K → Bool) where
  pub calls_fall : CallsFall V same hash asks
  calls_fall are setting w caller c blocks keys change p map facts none m2 end s goes went =
      called_on same hash asks are.fits setting w.memory c blocks m2 went.c2 went.blocks2 (onward same hash are.lawful setting w caller c blocks map m2 went) p
      (call_stands same hash asks w caller setting c blocks keys change p facts) none end s goes

  pub late_calls_fall : SupersededCallsFall V same hash asks
  late_calls_fall are setting w caller c blocks keys began p map facts none m2 end s goes went =
      called_on same hash asks are.fits setting w.memory c blocks m2 went.c2 went.blocks2 (onward same hash are.lawful setting w caller c blocks map m2 went) p
      (late_call_stands same hash asks w caller setting c blocks keys began p facts) none end s goes

  pub rows_fall : RowsFall V same hash asks
  rows_fall p row m m2 end s goes c blocks = row_on same hash asks p m m2 c blocks row end s goes
