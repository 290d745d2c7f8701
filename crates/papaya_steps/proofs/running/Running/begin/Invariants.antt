-- Nothing has happened yet, and this is the hasher.
use Rattle.std.specs.Prelude.{◌≡◌}
use Rattle.papaya_steps.specs.WholeRuns.Run.{bounded}
use Rattle.papaya_steps.proofs.WholeRuns.Beginning.{Begins}
use Rattle.papaya_steps.proofs.running.Running.begin.Given as goal

abbrev pub invariant-loop-choice : goal.invariant-loop-choice
invariant-loop-choice g l = Begins {K = g.row.K.Denot} {V = g.row.V.Denot} {S = g.row.S.Denot} (bounded l.fn.setup) l.scheduler × (l.scheduler.logged.executor.hasher ≡ l.fn.hasher)
