use Rattle.papaya_sessions.proofs.Under.{sought}
use Rattle.papaya_sessions.proofs.pass.HashMapRef.contains_key.Goals as goal

pub returns-clause-sought : goal.returns-clause-sought
returns-clause-sought g c =
    let x = c.args.self.now in let y = c.get_key_value-found in
    sought g.K.PartialEq.eq g.S.Hashes.hash (g.Q.Equivalent.stands_for c.args.key.now) x.session.now.base.caller x.pass.base.seat.view y.new.self.pass.base.seat.view (λ pair. (pair.0.now, pair.1.now)) y.result c.is_some.result
    c.is_some.ensures y.ensures.got
