use Rattle.papaya_sessions.proofs.Under.{got_then, sought}
use Rattle.papaya_sessions.proofs.session.Session.contains_key_by.Goals as goal

pub returns-clause-sought : goal.returns-clause-sought
returns-clause-sought g c =
    let x = c.args.self.now in let y = c.get_key_value_by in let v = c.args.pass.now.base.seat.view in let w = y.new.pass.base.seat.view in
    sought g.K.PartialEq.eq g.S.Hashes.hash (g.Q.Equivalent.stands_for c.args.key.now) x.base.caller v w (λ pair. (pair.0.now, pair.1.now)) c.in_ok-found.found c.is_some.result c.is_some.ensures
    (got_then g.K.PartialEq.eq g.S.Hashes.hash (g.Q.Equivalent.stands_for c.args.key.now) x.base.caller v w (λ pair. (pair.0.now, pair.1.now)) y.result c.in_ok-found.found c.in_ok-found.was y.ensures.got)
