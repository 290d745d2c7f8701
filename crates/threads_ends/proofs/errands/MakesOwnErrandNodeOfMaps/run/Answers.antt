use Rattle.std.proofs.Common.{rules}
use Rattle.threads_steps.proofs.Given.Keeping.{kept_same}
use Rattle.threads_ends.proofs.errands.MakesOwnErrandNodeOfMaps.run.Goals as goal

-- the seat is the one that was lent
pub returns : goal.returns
returns g c =
    let s = kept_same _ _ _ _ _ _ _ _ c.makes_map.ensures.same in
    let name = s.1 in let id = s.2 in let away = s.3 in search (rules, name, id, away)
