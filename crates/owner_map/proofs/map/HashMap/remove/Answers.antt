-- By what the removal took out, which is lent.
use Rattle.std.specs.Prelude.{option_map}
use Rattle.std.proofs.Common.{◌∙◌, ap, refl}
use Rattle.owner_map.proofs.map.HashMap.remove.Goals as goal

pub returns-in-Some : goal.returns-in-Some
returns-in-Some g c =
    let e = c.in-Ok.ensures in
    ((refl, λ _. tt, ((e.removed, e.last), e.hasher, e.keeps, e.steady_then)), record { after = tt; value = ap (option_map (λ x. x.1)) (c.in-Some.ensures ∙ e.last.0); fault = tt; steady = λ few. refl })

pub returns-in-None : goal.returns-in-None
returns-in-None g c =
    let e = c.in-Ok.ensures in
    ((refl, λ _. tt, ((e.removed, e.last), e.hasher, e.keeps, e.steady_then)), record { after = tt; value = ap (option_map (λ x. x.1)) (c.in-None.ensures ∙ e.last.0); fault = tt; steady = λ few. refl })

pub returns-in-Err : goal.returns-in-Err
returns-in-Err g c = let e = c.in-Err.ensures in ((refl, λ _. tt, (((e.refused, e.last), e.capacity), e.hasher, e.keeps, e.steady_then)), record { after = tt; value = tt; fault = e.fault; steady = e.steady })
