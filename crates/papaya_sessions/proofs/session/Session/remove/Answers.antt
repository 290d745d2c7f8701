use Rattle.std.specs.Prelude.{Some, None}
use Rattle.std.proofs.Common.{refl}
use Rattle.papaya_sessions.proofs.OneMap.{refused_then, told_then}
use Rattle.papaya_sessions.proofs.session.Session.remove.Goals as goal

pub returns-in-Ok-Some : goal.returns-in-Ok-Some
returns-in-Ok-Some g c =
    let y = c.remove_entry in let so = y.follows.holds-at-none in let at = c.in-Ok-Some in (
      (
        refl,
        λ _. tt,
        (so.0, (Some (at.field-0-0-0.now, at.value.now), refl, told_then y.result at.field-0 (Some (at.field-0-0-0, at.value)) _ at.is at.field-0-is so.1), tt),
      ),
      record { removed = tt },
    )

pub returns-in-Ok-None : goal.returns-in-Ok-None
returns-in-Ok-None g c =
    let y = c.remove_entry in let so = y.follows.holds-at-none in let at = c.in-Ok-None in (
      (refl, λ _. tt, (so.0, (None, refl, told_then y.result at.field-0 None _ at.is at.field-0-is so.1), tt)),
      record { removed = tt },
    )

pub returns-in-Err : goal.returns-in-Err
returns-in-Err g c =
    let y = c.remove_entry in let so = y.follows.holds-at-none in (
      (refl, λ _. tt, (so.0, tt, refused_then y.result c.in-Err.fault _ c.in-Err.is so.2)),
      record { removed = tt },
    )
