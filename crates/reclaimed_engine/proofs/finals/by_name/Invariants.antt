use Rattle.std.proofs.Common.{◌≡◌, map, take}
use Rattle.reclaimed_engine.proofs.finals.by_name.Given as goal

abbrev pub invariant-loop-living : goal.invariant-loop-living
invariant-loop-living l = map (λ living. living.now) l.sorted.items ≡ take l.living-index l.maps
