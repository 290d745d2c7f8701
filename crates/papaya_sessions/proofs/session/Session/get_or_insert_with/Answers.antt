use Rattle.std.proofs.Common.{refl}
use Rattle.papaya_sessions.proofs.OneMap.{not_made, one_with}
use Rattle.papaya_sessions.proofs.session.Session.get_or_insert_with.Goals as goal

pub returns-in-Ok : goal.returns-in-Ok
returns-in-Ok g c =
    let y = c.try_insert_with in let t = c.in-Ok.ensures.tried in (
      (
        refl,
        λ _. tt,
        (
          (refl, record { memory = y.ensures.blocks; map = y.ensures.map }),
          y.ensures.asked,
          (
            c.in-Ok.field-0-1,
            c.in-Ok.there.word,
            t,
            c.pair.result.0.now,
            c.pair.ensures,
            one_with g.K.PartialEq.eq g.S.Hashes.hash c.args.self.now y.new.self y.ensures.inside y.ensures.slot y.ensures.map y.ensures.blocks c.args.key c.in-Ok.field-0-1 c.in-Ok.there.word
                c.pair.result.0.now c.pair.result.1.now t c.pair.ensures,
          ),
          tt,
        ),
      ),
      record { had = tt },
    )

pub returns-in-Err : goal.returns-in-Err
returns-in-Err g c =
    let y = c.try_insert_with in (
      (
        refl,
        λ _. tt,
        ((refl, record { memory = y.ensures.blocks; map = y.ensures.map }), y.ensures.asked, tt, not_made g.K.PartialEq.eq g.S.Hashes.hash c.args.self.now y.new.self y.ensures.inside y.ensures.slot y.ensures.map y.ensures.blocks c.args.key c.in-Err.fault c.in-Err.ensures.refused),
      ),
      record { had = tt },
    )
