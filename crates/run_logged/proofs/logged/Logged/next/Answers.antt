-- The next pair of a walk.
use Rattle.std.proofs.Common.{refl}
use Rattle.run_logged.proofs.Log.Told.{walk_goes_on}
use Rattle.run_logged.proofs.logged.Logged.next.Goals as goal

pub returns : goal.returns
returns g c = record {
  leads = λ same hash name m s shown.
      walk_goes_on same hash c.args.self.now (record { executor = c.next.new.self; notes = c.args.self.now.notes }) refl c.next.ensures.given c.args.caller c.next.result (λ v at. c.next.ensures.leads same hash v at) name m s shown;
  asked = λ same hash s at. c.next.ensures.leads same hash s at;
  given = c.next.ensures.given;
  notes = refl;
}
