-- What an executor was given stays from step to step.
use Rattle.std.proofs.Common.{◌≡◌, refl, sym, subst, ◌∙◌}
use Rattle.run_executor.specs.declared.executor.Executor.{Executor}
use Rattle.run_executor.specs.Executing.IsThere.{PreservesSettings, StaysGiven}

module _ {K V S : Type 0} where
  -- where nothing was done,
  pub given_none : (e : Executor K V S) → PreservesSettings e e
  given_none e = (refl, refl, refl, refl)

  -- where one thing was done after another,
  pub given_on : (e mid e2 : Executor K V S) → PreservesSettings e mid → PreservesSettings mid e2 → PreservesSettings e e2
  given_on e mid e2 once on = (on.0 ∙ once.0, on.1 ∙ once.1, on.2 ∙ once.2, on.3 ∙ once.3)

  -- and where a step was noted after it
  pub given_noted : (e mid e2 : Executor K V S) → PreservesSettings e mid → e2 ≡ mid → PreservesSettings e e2
  given_noted e mid e2 once noted = subst (λ (x : Executor K V S). PreservesSettings e x) (sym noted) once

  -- so it does where maps get numbers,
  pub stays_on : (e mid e2 : Executor K V S) → StaysGiven e mid → StaysGiven mid e2 → StaysGiven e e2
  stays_on e mid e2 once on = (on.0 ∙ once.0, on.1 ∙ once.1, on.2 ∙ once.2)

  -- and all the more where none does
  pub stays_so : (e e2 : Executor K V S) → PreservesSettings e e2 → StaysGiven e e2
  stays_so e e2 keeps = (keeps.0, keeps.1, keeps.2)
