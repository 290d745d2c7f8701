use Rattle.std.specs.Prelude.{Option, IfSome, true, false, is_some, option_map}
use Rattle.std.proofs.Common.{refl, subst}
use Rattle.threads_updates.specs.Given.CallersDeclared.answers.Found.{Found}
use Rattle.threads_updates.specs.Given.CallsAnswers.{HasRemoved, HasTakenOut}
use Rattle.threads_updates.specs.Given.CallsShown.{Shows}
use Rattle.papaya_sessions.proofs.OneMap.{gave_up, gave_up_pair, not_removed}
use Rattle.papaya_sessions.proofs.session.Session.remove_entry.Goals as goal

pub pair-requires : goal.pair-requires
pair-requires g c =
    record { shown = subst (λ (o : Option Found). IfSome o (λ (f : Found). Shows c.remove.new.self.caller f.word)) c.in-Ok-Some.field-0-is c.in-Ok-Some.ensures.shown }

pub returns-in-Ok-Some : goal.returns-in-Ok-Some
returns-in-Ok-Some g c =
    let y = c.remove in let at = c.in-Ok-Some in let v = c.args.self.now.base.caller.seat.view in let w = y.new.self.caller.seat.view in
    let took = subst (λ (o : Option Found). HasTakenOut g.K.PartialEq.eq g.S.Hashes.hash (g.Q.Equivalent.stands_for c.args.key.now) (option_map (λ (f : Found). f.word) o) v w) at.field-0-is at.ensures.taken in (
      (
        refl,
        λ _. tt,
        (
          (refl, record { memory = y.ensures.blocks; map = y.ensures.map }),
          (
            gave_up g.K.PartialEq.eq g.S.Hashes.hash c.args.self.now y.new.self y.ensures.inside y.ensures.slot y.ensures.map y.ensures.blocks (g.Q.Equivalent.stands_for c.args.key.now) true
                (subst (λ (o : Option Found). HasRemoved g.K.PartialEq.eq g.S.Hashes.hash (g.Q.Equivalent.stands_for c.args.key.now) (is_some o) v w) at.field-0-is at.ensures.removed),
            gave_up_pair g.K.PartialEq.eq g.S.Hashes.hash c.args.self.now y.new.self y.ensures.inside y.ensures.slot y.ensures.map y.ensures.blocks (g.Q.Equivalent.stands_for c.args.key.now) at.taken.word c.pair.result.0.now
                c.pair.result.1.now took c.pair.ensures,
            at.taken.word,
            took,
            c.pair.ensures,
          ),
          tt,
        ),
      ),
      record { removed = tt },
    )

pub returns-in-Ok-None : goal.returns-in-Ok-None
returns-in-Ok-None g c =
    let y = c.remove in let at = c.in-Ok-None in let v = c.args.self.now.base.caller.seat.view in let w = y.new.self.caller.seat.view in (
      (
        refl,
        λ _. tt,
        (
          (refl, record { memory = y.ensures.blocks; map = y.ensures.map }),
          gave_up g.K.PartialEq.eq g.S.Hashes.hash c.args.self.now y.new.self y.ensures.inside y.ensures.slot y.ensures.map y.ensures.blocks (g.Q.Equivalent.stands_for c.args.key.now) false
              (subst (λ (o : Option Found). HasRemoved g.K.PartialEq.eq g.S.Hashes.hash (g.Q.Equivalent.stands_for c.args.key.now) (is_some o) v w) at.field-0-is at.ensures.removed),
          tt,
        ),
      ),
      record { removed = tt },
    )

pub returns-in-Err : goal.returns-in-Err
returns-in-Err g c =
    let y = c.remove in (
      (
        refl,
        λ _. tt,
        (
          (refl, record { memory = y.ensures.blocks; map = y.ensures.map }),
          tt,
          not_removed g.K.PartialEq.eq g.S.Hashes.hash c.args.self.now y.new.self y.ensures.inside y.ensures.slot y.ensures.map y.ensures.blocks (g.Q.Equivalent.stands_for c.args.key.now) c.in-Err.fault
              c.in-Err.ensures.refused,
        ),
      ),
      record { removed = tt },
    )
