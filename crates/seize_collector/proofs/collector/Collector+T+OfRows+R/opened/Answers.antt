use Rattle.std.specs.Prelude.{◌+◌, ℕ}
use Rattle.std.proofs.Common.{◌≡◌, arith, subst}
use Rattle.seize_seats.specs.Seats.State.{Starts}
use Rattle.seize_views.specs.Views.Notes.{NotedHolds}
use Rattle.seize_views.specs.declared.view.Fixed.{Fixed}
use Rattle.seize_views.proofs.Views.Notes.{rules_start}
use Rattle.seize_collector.proofs.collector.Collector+T+OfRows+R.opened.Goals as goal

-- the rule may begin with any size of batches, and any number of roots
pub open-requires-clause-starts : goal.open-requires-clause-starts
open-requires-clause-starts g c =
    let fixed : Fixed = record { batch_size = c.size_of_batches.result; roots = c.roots.result; chains = 0 } in
    let same : c.roots.result + 0 ≡ c.roots.result = omega arith in
    subst (λ (n : ℕ). Starts (NotedHolds g.T.Defers.defers fixed) n) same (rules_start g.row.T.Denot g.T.Defers.defers fixed)
