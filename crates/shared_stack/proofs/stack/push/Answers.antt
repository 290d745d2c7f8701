use Rattle.std.proofs.Common.{◌∙◌, sym}
use Rattle.std.specs.Arc.{arc_value}
use Rattle.shared_stack.proofs.Replacing.{done, looks, pushes}
use Rattle.shared_stack.proofs.stack.push.Goals as goal

pub returns-clause-pushed : goal.returns-clause-pushed
returns-clause-pushed g c told =
    let put = done c.exchange.result (sym c.is_ok.ensures.value ∙ told) c.exchange.ensures.put in
    pushes g.G.Guard.seen g.G.RootGuard.did g.G.RootGuard.lends c.see.new.self c.exchange.new.self c.args.root c.in_ok-pile.pile
    (looks c.see.result c.see.ensures.looked c.see.ensures.none) put
    c.value.result (arc_value c.args.value.now) c.value.ensures.lent c.value.ensures.none c.in_ok-pile.ensures.over c.in_ok-pile.ensures.alone
