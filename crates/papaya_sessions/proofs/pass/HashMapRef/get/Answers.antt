use Rattle.std.specs.Prelude.{option_map}
use Rattle.papaya_sessions.proofs.Under.{value_got}
use Rattle.papaya_sessions.proofs.pass.HashMapRef.get.Goals as goal

pub returns-clause-got : goal.returns-clause-got
returns-clause-got g c =
    let x = c.args.self.now in let y = c.get_key_value-found in
    value_got g.K.PartialEq.eq g.S.Hashes.hash (g.Q.Equivalent.stands_for c.args.key.now) x.session.now.base.caller x.pass.base.seat.view y.new.self.pass.base.seat.view (λ pair. (pair.0.now, pair.1.now)) y.result
    (option_map (λ value. value.now) c.value_of.result) c.value_of.ensures y.ensures.got
