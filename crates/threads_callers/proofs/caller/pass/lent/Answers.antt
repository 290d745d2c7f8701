use Rattle.std.specs.Prelude.{ℕ, Option, IfSome}
use Rattle.std.proofs.Common.{subst}
use Rattle.threads_errands.specs.Given.ErrandsLooking.{HasLookedAt}
use Rattle.threads_callers.proofs.caller.pass.lent.Goals as goal

pub parts_by-requires : goal.parts_by-requires
parts_by-requires g c = record {
  own = c.requires.own;
  under = c.requires.under;
  map = c.requires.map;
  free = c.requires.looked.free;
  shown = (
    (g.Q.Equivalent.stands_for c.args._key.now),
    subst (λ (o : Option ℕ). IfSome o (HasLookedAt g.K.PartialEq.eq (g.Q.Equivalent.stands_for c.args._key.now) c.args.seat.now.view)) c.in_ok-word.was c.requires.looked.shows,
  );
}
