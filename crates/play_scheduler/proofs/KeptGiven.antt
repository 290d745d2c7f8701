-- What the executor of a scheduler was given stays, where the scheduler is one of which that is so.
use Rattle.std.proofs.Common.{◌≡◌, refl, sym, subst}
use Rattle.play_scheduler.specs.declared.scheduler.Scheduler.{Scheduler}
use Rattle.run_executor.specs.Executing.IsThere.{PreservesSettings}

module _ {K V S : Type 0} where
  pub given_as : (p q r : Scheduler K V S) → PreservesSettings p.logged.executor q.logged.executor → r ≡ q → PreservesSettings p.logged.executor r.logged.executor
  given_as p q r stays is = subst (λ (x : Scheduler K V S). PreservesSettings p.logged.executor x.logged.executor) (sym is) stays

  pub given_still : (p r : Scheduler K V S) → r ≡ p → PreservesSettings p.logged.executor r.logged.executor
  given_still p r is = given_as p p r (refl, refl, refl, refl) is
