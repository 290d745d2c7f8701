-- What is promised of a memory that tells, clause by clause.
use Rattle.std.proofs.Common.{rules}
use Rattle.run_effects.specs.ReportingMemory.Tells.{MayWithTeller, RefusesWithTeller, StepsWithTeller}

module _ (K V R : Type 0) where
  pub may_with_teller : MayWithTeller K V R
  may_with_teller = search rules

  pub steps_with_teller : StepsWithTeller K V R
  steps_with_teller = search rules

  pub refuses_with_teller : RefusesWithTeller K V R
  refuses_with_teller = search rules
