-- A reply to what a call asks.
use Rattle.std.proofs.Common.{refl}
use Rattle.run_logged.proofs.Log.Told.{call_takes}
use Rattle.run_logged.proofs.logged.Logged.reply.Goals as goal

pub returns : goal.returns
returns g c = record {
  leads = λ same hash name m s shown.
      call_takes same hash c.args.self.now (record { executor = c.reply.new.self; notes = c.args.self.now.notes }) refl c.reply.ensures.given c.args.caller c.args.reply c.reply.result (λ v at. c.reply.ensures.leads same hash v at) name m s shown;
  taken = λ same hash s at. c.reply.ensures.leads same hash s at;
  given = c.reply.ensures.given;
  notes = refl;
}
