-- The end of a walk.
use Rattle.std.proofs.Common.{refl}
use Rattle.run_logged.proofs.Log.Told.{walk_stops}
use Rattle.run_logged.proofs.logged.Logged.stop.Goals as goal

pub returns : goal.returns
returns g c = record {
  leads = λ same hash name m s shown.
      walk_stops same hash c.args.self.now (record { executor = c.stop.new.self; notes = c.args.self.now.notes }) refl c.stop.ensures.given c.args.caller c.stop.result (λ v at. c.stop.ensures.leads same hash v at) name m s shown;
  stopped = λ same hash s at. c.stop.ensures.leads same hash s at;
  given = c.stop.ensures.given;
  notes = refl;
}
