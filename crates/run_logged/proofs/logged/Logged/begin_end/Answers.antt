-- The beginning of the end of a map.
use Rattle.std.specs.Prelude.{None}
use Rattle.std.proofs.Common.{◌≡◌, ℕ, refl, subst, sym}
use Rattle.run_logged.proofs.Log.EndSteps.{end_is_begun}
use Rattle.run_logged.proofs.logged.Logged.begin_end.Goals as goal
use Rattle.run_executor.proofs.Executing.Fresh.{no_ending_yet}

pub returns-clause-leads : goal.returns-clause-leads
returns-clause-leads g c = λ same hash name m s shown.
    end_is_begun same hash c.args.self.now (record { executor = c.begin_ending.new.self; notes = c.args.self.now.notes }) c.args.map _
    (λ v at. c.in_ok-caller.ensures.leads same hash v at)
    (λ v at. subst (λ (i : ℕ). v.enders i ≡ None) (sym c.in_ok-caller.ensures.number) (no_ending_yet same hash c.args.self.now.executor v at c.args.slot c.requires.slot)) refl c.begin_ending.ensures.given name m s shown

-- and in whatever scene the executor is there, it is so
pub returns-clause-begun : goal.returns-clause-begun
returns-clause-begun g c = λ same hash s at. c.in_ok-caller.ensures.leads same hash s at
