use Rattle.std.specs.Prelude.{option_map}
use Rattle.papaya_sessions.proofs.Under.{got_then, value_got}
use Rattle.papaya_sessions.proofs.session.Session.get_by.Goals as goal

pub returns-clause-got : goal.returns-clause-got
returns-clause-got g c =
    let x = c.args.self.now in let y = c.get_key_value_by in let v = c.args.pass.now.base.seat.view in let w = y.new.pass.base.seat.view in
    value_got g.K.PartialEq.eq g.S.Hashes.hash (g.Q.Equivalent.stands_for c.args.key.now) x.base.caller v w (λ pair. (pair.0.now, pair.1.now)) c.in_ok-found.found (option_map (λ value. value.now) c.value_of.result) c.value_of.ensures
    (got_then g.K.PartialEq.eq g.S.Hashes.hash (g.Q.Equivalent.stands_for c.args.key.now) x.base.caller v w (λ pair. (pair.0.now, pair.1.now)) y.result c.in_ok-found.found c.in_ok-found.was y.ensures.got)
