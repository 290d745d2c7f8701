-- The beginning of a row on a slot.
use Rattle.std.proofs.Common.{refl}
use Rattle.run_logged.proofs.Log.OnSlots.{on_slot_begins}
use Rattle.run_logged.proofs.logged.Logged.begin_on_slot.Goals as goal

pub returns-clause-leads : goal.returns-clause-leads
returns-clause-leads g c = λ same hash name m s shown.
    on_slot_begins same hash c.args.self.now (record { executor = c.begin_on_slot.new.self; notes = c.args.self.now.notes }) c.args.called _
    (λ v at. c.in_ok-caller.ensures.leads same hash v at) refl c.begin_on_slot.ensures.given name m s shown

-- and in whatever scene the executor is there, it is so
pub returns-clause-begun : goal.returns-clause-begun
returns-clause-begun g c = λ same hash s at. c.in_ok-caller.ensures.leads same hash s at
