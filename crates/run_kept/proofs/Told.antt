-- What a step tells whose outcome is turned into another, and what an operation tells.
use Rattle.std.specs.Prelude.{◌≡◌}
use Rattle.std.proofs.Common.{refl}
use Rattle.run_schedules.specs.Given.SeizeWordsMem.{Mem, value_at}
use Rattle.run_schedules.specs.Given.SeizeWordsOp.{Op, Out}
use Rattle.run_schedules.specs.Given.SeizeWordsPlan.{Plan, Then, Now, Seeing, Sure, Turn, Do, Ends, then_as, plan_as}
use Rattle.papaya_raw.specs.Given.TablesDeclared.node.Node.{Node}
use Rattle.run_executor.specs.Given.TellsSeen.{seen_of}
use Rattle.run_executor.specs.Given.TellerTells.{observed_of, StepsObserved}
use Rattle.run_executor.specs.Given.EffectsDeclared.changed.Changed.{Changed}

-- what a step whose outcome is turned into another comes to, and tells
module _ {K V A B : Type 0} (f : A → B) where
  ends_back : (m : Mem (Node K V)) (rest : Then (Node K V) A) (end : B) → Ends (value_at m) (then_as f rest) end → (e : A) × Ends (value_at m) rest e × (end ≡ f e)
  ends_back m (Now r) end h = (r, refl, h)
  ends_back m (Seeing block rest) end h = let k = ends_back m (rest h.0) end h.2 in (k.0, (h.0, h.1, k.1), k.2)
  ends_back m (Sure fact rest) end h = ends_back m rest end h

  pub told_back : (m m2 : Mem (Node K V)) (before told : Changed) (plan : Plan (Node K V) A) (end : B) → StepsObserved K V B m before (plan_as f plan) m2 told end
      → (e : A) × StepsObserved K V A m before plan m2 told e × (end ≡ f e)
  told_back m m2 before told (Turn rest) end s = let k = ends_back m2 rest end s.1 in (k.0, (s.0, k.1, s.2), k.2)
  told_back m m2 before told (Do op rest) end s = let k = ends_back m2 (rest s.0) end s.2 in (k.0, (s.0, s.1, k.1), k.2)

module _ {K V : Type 0} where
  abbrev pub told_as : Mem (Node K V) → Op (Node K V) → Out (Node K V) → Changed
  told_as m op out = observed_of op out (seen_of m op out)
