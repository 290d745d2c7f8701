-- The beginning of a call.
use Rattle.std.proofs.Common.{refl, sym, subst, ℕ}
use Rattle.run_logged.specs.Log.Calling.{CallBegins}
use Rattle.run_logged.proofs.Log.Begins.{call_begins}
use Rattle.run_logged.proofs.logged.Logged.begin.Goals as goal
use Rattle.run_executor.specs.Executing.Beginning.{BeginsThere}

pub returns-clause-leads : goal.returns-clause-leads
returns-clause-leads g c = λ same hash name m s shown.
    subst (λ (i : ℕ). CallBegins same hash name m s i c.args.map c.args.machine c.args.self.now (record { executor = c.begin.new.self; notes = c.args.self.now.notes })) (sym c.in_ok-caller.ensures.number)
    (call_begins same hash c.args.self.now (record { executor = c.begin.new.self; notes = c.args.self.now.notes }) c.args.slot c.args.map c.args.machine c.requires
    (λ v at. subst (λ (i : ℕ). BeginsThere same hash c.args.map c.args.machine i v c.args.self.now.executor c.begin.new.self) c.in_ok-caller.ensures.number (c.in_ok-caller.ensures.leads same hash v at)) refl c.begin.ensures.given name m s shown)

-- and in whatever scene the executor is there, it is so
pub returns-clause-begun : goal.returns-clause-begun
returns-clause-begun g c = λ same hash s at. c.in_ok-caller.ensures.leads same hash s at
