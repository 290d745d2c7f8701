use Rattle.std.proofs.Common.{rules}
use Rattle.seize_callers.proofs.Keeping.{kept_same}
use Rattle.seize_callers.proofs.errands.RegistersErrand.run.Goals as goal

-- the seat is the one that was lent
pub returns : goal.returns
returns g c =
    let s = kept_same _ _ _ _ _ _ _ _ c.register.ensures.same in let name = s.1 in let id = s.2 in let away = s.3 in search (rules, name, id, away)
