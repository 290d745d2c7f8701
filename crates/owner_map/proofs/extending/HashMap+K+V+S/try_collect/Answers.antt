-- By what is stored in a map with no pair.
use Rattle.std.proofs.Common.{sym, subst}
use Rattle.std.specs.Iterator.{Drains, IsFinite}
use Rattle.owner_rests.proofs.ShowsPairs.Stored.{made_by}
use Rattle.owner_map.proofs.extending.HashMap+K+V+S.try_collect.Goals as goal

pub extend-requires : goal.extend-requires
extend-requires g c = λ it is.
    subst (λ s. g.I.IntoIter.Iterator.can_next s × IsFinite (g.I.IntoIter.Iterator.remaining s)) (sym is) (c.requires c.into_iter-rest.result c.into_iter-rest.ensures.into_iter_gives)

pub returns-in-Ok-clause-collected : goal.returns-in-Ok-clause-collected
returns-in-Ok-clause-collected g c =
    let p = c.in-Ok.ensures.put in
    let fresh = c.in_ok-map.ensures in record {
      source = c.into_iter-rest.result;
      begins = c.into_iter-rest.ensures.into_iter_gives;
      given = p.given;
      drains = subst (λ s. Drains g.I.IntoIter.Iterator.next_gives s p.given) p.gave.1 p.gave.2;
      made = made_by g.K.PartialEq.eq c.in_ok-map.map c.extend.new.self p.given fresh.pairs fresh.held fresh.last p.pairs p.held p.last;
    }
