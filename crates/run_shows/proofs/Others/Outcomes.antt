-- The step of a plan whose outcome is turned into another one is a step of that plan.
use Rattle.std.specs.Prelude.{◌≡◌}
use Rattle.std.proofs.Common.{refl}
use Rattle.seize_words.specs.OneMemory.Mem.{Mem, value_at}
use Rattle.seize_words.specs.OneMemory.Plan.{Plan, Turn, Do, Then, Now, Seeing, Sure, Ends, plan_as, then_as}
use Rattle.run_effects.specs.Given.TablesDeclared.node.Node.{Node}
use Rattle.run_effects.specs.ReportingMemory.Tells.{StepsObserved}
use Rattle.run_effects.specs.declared.changed.Changed.{Changed}
use Rattle.run_effects.specs.declared.changed.Changed.TheVariants as changed

module _ {K V : Type 0} (m m2 : Mem (Node K V)) (told : Changed) where
  outcome_in : {A B : Type 0} (f : A → B) (rest : Then (Node K V) A) (end : B) → Ends (value_at m2) (then_as f rest) end → (r : A) × (end ≡ f r) × Ends (value_at m2) rest r
  outcome_in f (Now r) end e = (r, e, refl)
  outcome_in f (Seeing block rest) end e = let it = outcome_in f (rest e.0) end e.2 in (it.0, it.1, (e.0, e.1, it.2))
  outcome_in f (Sure fact rest) end e = outcome_in f rest end e

  pub told_in : {A B : Type 0} (f : A → B) (plan : Plan (Node K V) A) (end : B) → StepsObserved K V B m changed.Nothing (plan_as f plan) m2 told end
      → (r : A) × (end ≡ f r) × StepsObserved K V A m changed.Nothing plan m2 told r
  told_in f (Turn rest) end s = let it = outcome_in f rest end s.1 in (it.0, it.1, (s.0, it.2, s.2))
  told_in f (Do op rest) end s = let it = outcome_in f (rest s.0) end s.2 in (it.0, it.1, (s.0, s.1, it.2))
