use Rattle.std.proofs.Common.{◌∙◌}
use Rattle.threads_steps.proofs.Given.ErrandsBeginnings.{from_root}
use Rattle.threads_steps.proofs.Straight.{found_then}
use Rattle.threads_errands.proofs.errands.FindsErrandNodeOfMaps.run.Goals as goal

pub sees-requires : goal.sees-requires
sees-requires g c = record {
  own = c.requires.0;
  away = c.requires.1;
  may = from_root g.K.PartialEq.eq g.S.Hashes.hash (g.Q.Equivalent.stands_for c.args.self.key.now) c.args.self.lookup c.args.seat.now.view c.requires.2;
}

-- the steps that were left have ended it
pub returns-in-Stands : goal.returns-in-Stands
returns-in-Stands g c =
    let s = c.in-Stands.ensures in let e = c.goes_on.ensures in let l = c.args.self.lookup in (
      e.same.0 ∙ s.same.0,
      e.same.1 ∙ s.same.1,
      e.same.2 ∙ s.same.2,
      found_then g.K.PartialEq.eq g.S.Hashes.hash (g.Q.Equivalent.stands_for c.args.self.key.now) l.root l.mode l.hash c.in-Stands.stands c.goes_on.result c.args.seat.now.view c.sees.new.seat.view
          c.goes_on.new.seat.view s.seen e.looked e.told e.stays,
    )
