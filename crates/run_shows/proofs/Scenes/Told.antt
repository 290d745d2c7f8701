-- A step of which is told what its one operation has changed.
use Rattle.seize_words.specs.OneMemory.Mem.{Mem, Took, value_at}
use Rattle.seize_words.specs.OneMemory.Plan.{Plan, Turn, Do, Steps}
use Rattle.run_effects.specs.Given.TablesDeclared.node.Node.{Node}
use Rattle.run_effects.specs.ReportingMemory.Tells.{StepsObserved}
use Rattle.run_effects.specs.declared.changed.Changed.{Changed}

-- what was told of it aside, it was a step of its plan
module _ {K V R : Type 0} (m : Mem (Node K V)) (before : Changed) where
  pub as_step : (plan : Plan (Node K V) R) (n : Mem (Node K V)) (told : Changed) (end : R) → StepsObserved K V R m before plan n told end → Steps Took value_at m plan n end
  as_step (Turn rest) n told end st = (st.0, st.1)
  as_step (Do op rest) n told end st = (st.0, st.1.0, st.2)
