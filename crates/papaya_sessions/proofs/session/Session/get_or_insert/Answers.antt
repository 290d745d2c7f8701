use Rattle.std.proofs.Common.{refl}
use Rattle.threads_updates.specs.Given.CallsAnswers.{has_stored}
use Rattle.papaya_sessions.proofs.OneMap.{lacked, not_tried, one_there}
use Rattle.papaya_sessions.proofs.session.Session.get_or_insert.Goals as goal

pub returns-in-Ok : goal.returns-in-Ok
returns-in-Ok g c =
    let y = c.try_insert in let e = c.in-Ok.ensures in (
      (
        refl,
        λ _. tt,
        (
          (refl, record { memory = y.ensures.blocks; map = y.ensures.map }),
          (
            (has_stored c.in-Ok.field-0-1, lacked g.K.PartialEq.eq g.S.Hashes.hash c.args.self.now y.new.self y.ensures.inside y.ensures.slot y.ensures.map y.ensures.blocks c.args.key c.args.value _ e.tried),
            one_there g.K.PartialEq.eq g.S.Hashes.hash c.args.self.now y.new.self y.ensures.inside y.ensures.slot y.ensures.map y.ensures.blocks c.args.key c.args.value c.in-Ok.there.word
                c.pair.result.0.now c.pair.result.1.now e.there c.pair.ensures,
            c.in-Ok.there.word,
            e.there,
            c.pair.result.0.now,
            c.pair.ensures,
          ),
          tt,
        ),
      ),
      record { had = tt },
    )

pub returns : goal.returns
returns g c =
    let y = c.try_insert in (
      (
        refl,
        λ _. tt,
        (
          (refl, record { memory = y.ensures.blocks; map = y.ensures.map }),
          tt,
          not_tried g.K.PartialEq.eq g.S.Hashes.hash c.args.self.now y.new.self y.ensures.inside y.ensures.slot y.ensures.map y.ensures.blocks c.args.key c.args.value c.in-Err.refused.fault
              c.in-Err.ensures.refused,
        ),
      ),
      record { had = tt },
    )
