use Rattle.std.specs.Prelude.{option_map}
use Rattle.std.proofs.Common.{ap, subst}
use Rattle.papaya.proofs.Elements.{lent_then}
use Rattle.papaya.specs.OneSet.{SetLentUnder}
use Rattle.papaya_map.specs.Given.CallersDeclared.caller.MapCaller.{MapCaller}
use Rattle.papaya.proofs.shared.SharedSet.get.Goals as goal

pub returns-clause-one_set : goal.returns-clause-one_set
returns-clause-one_set g c =
    let y = c.get_key_value in let v = c.args.pass.now.base.seat.view in let w = y.new.pass.base.seat.view in let element = option_map (λ e. e.now) c.element_of.result in
    subst (λ (k : MapCaller g.row.K.Denot (Unit {0}) g.row.S.Denot). SetLentUnder g.K.PartialEq.eq g.S.Hashes.hash (g.Q.Equivalent.stands_for c.args.key.now) element k v w) (ap (λ s. s.base.caller) c.session.ensures)
    (lent_then g.K.PartialEq.eq g.S.Hashes.hash (g.Q.Equivalent.stands_for c.args.key.now) c.session.result.now.base.caller v w (λ pair. (pair.0.now, pair.1.now)) y.result c.in_ok-found.found element c.in_ok-found.was
    c.element_of.ensures y.ensures.got)
