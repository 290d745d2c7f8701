use Rattle.std.proofs.Common.{◌≡◌, ◌∷◌, ◌∙◌, sym, subst, IfSome}
use Rattle.std.specs.Arc.{arc_value}
use Rattle.shared_stack.specs.Piles.{values}
use Rattle.shared_stack.proofs.Replacing.{done, looks, pops}
use Rattle.shared_stack.proofs.stack.pop.Goals as goal

pub returns-then-is_ok-clause-popped : goal.returns-then-is_ok-clause-popped
returns-then-is_ok-clause-popped g c =
    let put = done c.exchange.result (sym c.is_ok.ensures.value ∙ c.if-is_ok.true) c.exchange.ensures.put in
    pops g.G.Guard.seen g.G.RootGuard.did g.G.RootGuard.lends c.see.new.self c.exchange.new.self c.args.root c.in-Some-2.rest
    (looks c.see.result c.see.ensures.looked c.see.ensures.none) put
    c.in-Some.pile.now (arc_value c.in-Some-2.value) c.in-Some.ensures.lent
    (subst (λ o. IfSome o (λ p. values c.in-Some.pile.now ≡ arc_value p.0 ∷ values p.1)) c.in-Some-2.is c.in_ok-value.ensures.some)
