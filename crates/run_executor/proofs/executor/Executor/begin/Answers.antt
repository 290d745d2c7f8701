-- The beginning of a call.
use Rattle.std.proofs.Common.{rules, ◌≡◌, ◌<◌, ◌^◌, ◌+◌, ◌*◌, ℕ, length, refl, sym, subst, arith}
use Rattle.run_places.specs.Given.ScenesDeclared.callers.TheConstants.{SLOTS}
use Rattle.run_executor.proofs.executor.Executor.begin.Goals as goal
use Rattle.run_executor.proofs.Executing.Begins.{begin_leads}
use Rattle.run_executor.specs.Executing.Beginning.{BeginsThere}

pub returns-clause-leads : goal.returns-clause-leads
returns-clause-leads g c = λ same hash s at.
    let count : c.len-place.result ≡ length c.args.self.now.workers.items = search (rules, c.len-place.ensures) in
    let few : length c.args.self.now.workers.items < 2 ^ 32 = grind (arith, c.if-place-ge-MOST_CALLERS.false, count) in
    let new = record c.args.self.now { workers = c.push.new.self } in
    subst (λ (n : ℕ). BeginsThere same hash c.args.map c.args.machine (n * SLOTS + c.args.slot) s c.args.self.now new) (sym count)
    (begin_leads same hash c.args.self.now s at c.args.slot c.args.map c.args.machine c.requires few new refl c.in_ok-push.ensures.items refl refl refl refl refl)
