use Rattle.papaya_sessions.proofs.Under.{got}
use Rattle.papaya_sessions.proofs.pass.HashMapRef.get_key_value.Goals as goal

pub returns-clause-got : goal.returns-clause-got
returns-clause-got g c =
    let x = c.args.self.now in let y = c.find_by in
    got g.K.PartialEq.eq g.S.Hashes.hash (g.Q.Equivalent.stands_for c.args.key.now) x.session.now.base.caller x.pass.base.seat.view y.new.pass.seat.view x.session.now.small (λ pair. (pair.0.now, pair.1.now)) y.result y.ensures.found y.ensures.absent
