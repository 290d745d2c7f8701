-- By the map's pairs.
use Rattle.std.specs.Prelude.{option_map}
use Rattle.std.proofs.Common.{ap}
use Rattle.papaya_seq.proofs.set.making.HashSet+K+S.with_capacity_and_hasher.Goals as goal

pub returns-clause-last : goal.returns-clause-last
returns-clause-last g c =
    let key = option_map (λ (x : g.row.K.Denot × Unit {0}). x.0) in (ap key c.in_ok-map.ensures.last.0, ap key c.in_ok-map.ensures.last.1)
