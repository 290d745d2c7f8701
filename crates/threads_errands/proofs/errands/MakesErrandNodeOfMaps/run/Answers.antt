use Rattle.std.proofs.Common.{rules}
use Rattle.threads_steps.proofs.Given.Keeping.{kept_same}
use Rattle.threads_errands.proofs.errands.MakesErrandNodeOfMaps.run.Goals as goal

-- the map is for good
pub makes_map-requires-clause-yet : goal.makes_map-requires-clause-yet
makes_map-requires-clause-yet g c = λ own. absurd (cc own)

-- the seat is the one that was lent
pub returns : goal.returns
returns g c =
    let s = kept_same _ _ _ _ _ _ _ _ c.makes_map.ensures.same in
    let name = s.1 in let id = s.2 in let away = s.3 in search (rules, name, id, away)
