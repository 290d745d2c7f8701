use Rattle.std.specs.Prelude.{option_map}
use Rattle.papaya.proofs.Elements.{lent}
use Rattle.papaya.proofs.pin.HashSetRef.get.Goals as goal

pub returns-clause-one_set : goal.returns-clause-one_set
returns-clause-one_set g c =
    let x = c.args.self.now.pin in let y = c.get_key_value-found in
    lent g.K.PartialEq.eq g.S.Hashes.hash (g.Q.Equivalent.stands_for c.args.key.now) x.session.now.base.caller x.pass.base.seat.view y.new.self.pass.base.seat.view (λ pair. (pair.0.now, pair.1.now)) y.result
    (option_map (λ element. element.now) c.element_of.result) c.element_of.ensures y.ensures.got
