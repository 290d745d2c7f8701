use Rattle.std.specs.Prelude.{◌<◌, option_map}
use Rattle.std.specs.Vec.Iter.{into_iter_items, into_iter_len}
use Rattle.papaya.proofs.Elements.{of_pair, where_one}
use Rattle.papaya_map.specs.Given.SessionsWalked.{GoesOn}
use Rattle.papaya.proofs.walk.SetWalk.next.Goals as goal

pub returns-clause-next : goal.returns-clause-next
returns-clause-next g c =
    let x = c.args.self.now.walk in let y = c.next-found in let n = y.new.self in
    of_pair
    (λ pair. GoesOn g.K.PartialEq.eq g.S.Hashes.hash g.Q.Equivalent.stands_for x.pin.session.now.base.caller pair (into_iter_items x.keys) x.pin.pass.base.seat.view (into_iter_items n.keys) n.pin.pass.base.seat.view)
    (λ pair. (pair.0.now, pair.1.now)) y.result (option_map (λ element. element.now) c.element_of.result) c.element_of.ensures y.ensures.next

pub returns-clause-fewer : goal.returns-clause-fewer
returns-clause-fewer g c =
    let y = c.next-found in
    where_one (into_iter_len y.new.self.keys < into_iter_len c.args.self.now.walk.keys) (λ element. element.now) (λ pair. pair.0.now) c.element_of.result y.result c.element_of.ensures y.ensures.fewer
