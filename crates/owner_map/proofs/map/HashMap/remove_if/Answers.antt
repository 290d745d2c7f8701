-- By what was done of the pair that was found.
use Rattle.std.proofs.Common.{◌∙◌, refl, sym}
use Rattle.owner_asks.specs.Asks.Closures.{TestsAs}
use Rattle.owner_map.proofs.Did.{stays}
use Rattle.owner_map.proofs.map.HashMap.remove_if.Goals as goal

pub returns-in-Some : goal.returns-in-Some
returns-in-Some g c =
    let at = c.in-Ok-Kept in
    let e = at.ensures in
    let so = stays c.args.self.now c.take_if.new.map (g.Q.Equivalent.equivalent c.args.asked.now) (TestsAs g.F.FnOnce c.args.test) at.field-0 at.field-0-is e.done e.keeps in
    ((refl, λ _. tt, ((so.3, e.hasher), e.steady_then)), record { after = tt; pair = c.in-Some.ensures ∙ so.2 ∙ sym so.1; fault = tt; steady = λ few. refl })
