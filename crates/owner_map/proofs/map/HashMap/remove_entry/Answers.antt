-- By what the removal took out, which is lent.
use Rattle.std.proofs.Common.{◌∙◌, refl}
use Rattle.owner_map.proofs.map.HashMap.remove_entry.Goals as goal

pub returns-in-Ok : goal.returns-in-Ok
returns-in-Ok g c =
    let e = c.in-Ok.ensures in
    ((refl, λ _. tt, ((e.removed, e.last), e.hasher, e.keeps, e.steady_then)), record { after = tt; pair = c.taken.ensures ∙ e.last.0; fault = tt; steady = λ few. refl })

pub returns-in-Err : goal.returns-in-Err
returns-in-Err g c = let e = c.in-Err.ensures in ((refl, λ _. tt, (((e.refused, e.last), e.capacity), e.hasher, e.keeps, e.steady_then)), record { after = tt; pair = tt; fault = e.fault; steady = e.steady })
