use Rattle.std.specs.Prelude.{None, Some, option_map}
use Rattle.std.specs.Vec.Iter.{into_iter_items}
use Rattle.std.proofs.Common.{◌∙◌, arith, refl, subst}
use Rattle.papaya_sessions.proofs.Walked.{was_lent, went_on}
use Rattle.papaya_sessions.specs.Under.{HasGotPairUnder}
use Rattle.papaya_sessions.proofs.walk.Walk.next.Goals as goal

pub loop-key-preserved : goal.loop-key-preserved
loop-key-preserved g c =
    let x = c.loop-key.self in let y = c.get_key_value in let stands = g.Q.Equivalent.stands_for c.in-Some.key in
    let missed =
    subst (λ s. HasGotPairUnder g.K.PartialEq.eq g.S.Hashes.hash stands s.now.base.caller None x.pin.pass.base.seat.view y.new.self.pass.base.seat.view) c.loop-key.invariant.session
    (subst (λ r. HasGotPairUnder g.K.PartialEq.eq g.S.Hashes.hash stands x.pin.session.now.base.caller (option_map (λ pair. (pair.0.now, pair.1.now)) r) x.pin.pass.base.seat.view
    y.new.self.pass.base.seat.view) c.in_default-get_key_value.is y.ensures.got) in record {
      session = y.ensures.session ∙ c.loop-key.invariant.session;
      shorter = omega (arith, c.in-Some.ensures.len, c.loop-key.invariant.shorter);
      goes = λ found rest w on. c.loop-key.invariant.goes found rest w
          (went_on g.K.PartialEq.eq g.S.Hashes.hash g.Q.Equivalent.stands_for c.args.self.now.pin.session.now.base.caller (into_iter_items x.keys) (into_iter_items c.next.new.self) c.in-Some.key
          c.in-Some.ensures.items x.pin.pass.base.seat.view y.new.self.pass.base.seat.view w found rest missed on);
    }

pub returns-in-Some-get_key_value-clause-next : goal.returns-in-Some-get_key_value-clause-next
returns-in-Some-get_key_value-clause-next g c =
    let x = c.loop-key.self in let y = c.get_key_value in let stands = g.Q.Equivalent.stands_for c.in-Some.key in let pair = c.in-Some-get_key_value.pair in
    c.loop-key.invariant.goes (Some (pair.0.now, pair.1.now)) (into_iter_items c.next.new.self) y.new.self.pass.base.seat.view
    (was_lent g.K.PartialEq.eq g.S.Hashes.hash g.Q.Equivalent.stands_for c.args.self.now.pin.session.now.base.caller (into_iter_items x.keys) (into_iter_items c.next.new.self) c.in-Some.key
    c.in-Some.ensures.items x.pin.pass.base.seat.view y.new.self.pass.base.seat.view (Some (pair.0.now, pair.1.now)) refl
    (subst (λ s. HasGotPairUnder g.K.PartialEq.eq g.S.Hashes.hash stands s.now.base.caller (Some (pair.0.now, pair.1.now)) x.pin.pass.base.seat.view y.new.self.pass.base.seat.view)
    c.loop-key.invariant.session c.in-Some-get_key_value.ensures.got))
