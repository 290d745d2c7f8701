-- What is promised of the number of a reservation.
use Rattle.std.proofs.Common.{ℕ, Bool}
use Rattle.map_measures.specs.Falls.FallsReserves.{ReservesFall, SupersededReservesFall}
use Rattle.map_measures.proofs.Falls.Led.{onward}
use Rattle.map_measures.proofs.Falls.Reserves.Points.{reserved_on}
use Rattle.map_measures.proofs.Falls.Reserves.Stands.{reserve_stands, late_reserve_stands}

module _ {K : Type 0} (V : Type 0) (same : K → K → Bool) (hash : K → ℕ) where
  pub reserves_fall : ReservesFall V same hash
  reserves_fall are setting w caller c blocks p map facts none m2 end s goes went =
      reserved_on same hash setting w.memory c blocks m2 went.c2 went.blocks2 (onward same hash are.lawful setting w caller c blocks map m2 went) p
      (reserve_stands same hash w caller setting c blocks p facts) none end s goes

  pub late_reserves_fall : SupersededReservesFall V same hash
  late_reserves_fall are setting w caller c blocks began p map facts none m2 end s goes went =
      reserved_on same hash setting w.memory c blocks m2 went.c2 went.blocks2 (onward same hash are.lawful setting w caller c blocks map m2 went) p
      (late_reserve_stands same hash w caller setting c blocks began p facts) none end s goes
