use Rattle.std.proofs.Common.{refl}
use Rattle.papaya_sessions.proofs.OneMap.{had_none, had_value}
use Rattle.papaya_sessions.proofs.session.Session.get.Goals as goal

pub returns-in-Some : goal.returns-in-Some
returns-in-Some g c =
    let y = c.find in let e = c.in-Some.ensures in (
      (
        refl,
        λ _. tt,
        (
          (refl, record { memory = y.ensures.blocks; map = y.ensures.map }),
          had_value g.K.PartialEq.eq g.S.Hashes.hash c.args.self.now y.new.self y.ensures.inside y.ensures.slot y.ensures.map y.ensures.blocks (g.Q.Equivalent.stands_for c.args.key.now) c.value.result.now
              (c.in-Some.found.word, e.found, e.shown, c.value.ensures),
        ),
      ),
      record { got = tt },
    )

pub returns-in-None : goal.returns-in-None
returns-in-None g c =
    let y = c.find in (
      (
        refl,
        λ _. tt,
        (
          (refl, record { memory = y.ensures.blocks; map = y.ensures.map }),
          had_none g.K.PartialEq.eq g.S.Hashes.hash c.args.self.now y.new.self y.ensures.inside y.ensures.slot y.ensures.map y.ensures.blocks (g.Q.Equivalent.stands_for c.args.key.now) c.in-None.ensures.absent,
        ),
      ),
      record { got = tt },
    )
