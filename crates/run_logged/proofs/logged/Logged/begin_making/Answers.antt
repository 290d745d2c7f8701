-- The beginning of the making of a map.
use Rattle.std.specs.Prelude.{◌≡◌, ℕ, None}
use Rattle.std.proofs.Common.{refl, sym, subst}
use Rattle.run_logged.proofs.Log.MakingSteps.{making_is_begun, map_is_there}
use Rattle.run_logged.proofs.logged.Logged.begin_making.Goals as goal
use Rattle.run_executor.proofs.Executing.Fresh.{no_making_yet}

pub returns-clause-leads : goal.returns-clause-leads
returns-clause-leads g c = λ same hash name m s shown.
    making_is_begun same hash c.args.self.now (record { executor = c.begin_making.new.self; notes = c.args.self.now.notes }) c.args.given c.args.places _
    (λ v at. c.in_ok-caller.ensures.leads same hash v at)
    (λ v at. subst (λ (i : ℕ). v.makers i ≡ None) (sym c.in_ok-caller.ensures.number) (no_making_yet same hash c.args.self.now.executor v at c.args.slot c.requires)) refl c.begin_making.ensures.given.2 c.in_ok-caller.ensures.numbers name m s shown

pub returns-clause-there : goal.returns-clause-there
returns-clause-there g c = map_is_there _

-- and in whatever scene the executor is there, it is so
pub returns-clause-begun : goal.returns-clause-begun
returns-clause-begun g c = λ same hash s at. c.in_ok-caller.ensures.leads same hash s at
