-- What a step of the end of a map tells: that it wrote a word of its root, or the link of a pair that waits, or that it took a block away. One that takes none has no effect.
use Rattle.std.specs.Prelude.{◌≡◌, ℕ, Bool, true, false, List, [], if◌then◌else◌}
use Rattle.std.proofs.Common.{refl, sym, subst}
use Rattle.run_schedules.specs.Given.SeizeWordsDeclared.at.At.{At}
use Rattle.run_schedules.specs.Given.SeizeWordsDeclared.at.At.TheVariants.{Root, Used, Slot, Entry, Word}
use Rattle.run_schedules.specs.Given.SeizeWordsMem.{Mem}
use Rattle.run_schedules.specs.Given.SeizeWordsOp.{Op, Out, Load, Store, Swap, Add, Or, Exchange, Make, Take, Rewrite, Room}
use Rattle.run_schedules.specs.Given.SeizeWordsPlan.{Plan, Turn, Do}
use Rattle.seize.specs.declared.rows.settle.Settled.{Settled}
use Rattle.papaya_raw.specs.Given.TablesDeclared.node.Node.{Node}
use Rattle.papaya_raw.specs.EndMap.{plan_at, end_map_plan}
use Rattle.papaya_raw.specs.declared.machines.end_map.EndMap.{EndMap}
use Rattle.papaya_raw.specs.declared.machines.end_map.Ending.{Ending}
use Rattle.papaya_raw.specs.declared.machines.end_map.Ending.TheVariants as ending
use Rattle.run_schedules.specs.declared.effect.Effect.{Effect}
use Rattle.run_executor.specs.Given.TellsSeen.{seen_of}
use Rattle.run_executor.specs.Given.TellerTells.{observed_of, StepsObserved}
use Rattle.run_executor.specs.Given.EffectsDeclared.changed.Changed.{Changed}
use Rattle.run_executor.specs.Given.EffectsDeclared.changed.Changed.TheVariants as changed
use Rattle.run_executor.specs.Given.EffectsEffects.{led_to, named, names_same, effects_of}
use Rattle.run_executor.specs.Given.EffectsKnown.{Known}
use Rattle.run_executor.specs.Given.EffectsDeclared.acting.Acting.TheVariants as acts
use Rattle.run_executor.specs.Given.EffectsDeclared.role.Role.{Role}
use Rattle.run_executor.specs.Given.EffectsDeclared.role.Role.TheVariants as role
use Rattle.run_executor.specs.Given.FollowsSteps.{TakesNone}
use Rattle.run_executor.proofs.Given.FollowsAlike.{AllCalm}

-- a word that it writes
abbrev IsOfEnd : At → Type 0
IsOfEnd (Root r) = Unit {0}
IsOfEnd (Used r) = Unit {0}
IsOfEnd (Entry b field) = Unit {0}
IsOfEnd (Slot t field) = ⊥
IsOfEnd (Word b field) = ⊥

abbrev pub TellsEnd : Changed → Type 0
TellsEnd changed.Nothing = Unit {0}
TellsEnd (changed.Wrote at old new) = IsOfEnd at
TellsEnd (changed.Made kind b) = ⊥
TellsEnd (changed.Unmade kind) = ⊥
TellsEnd (changed.Took b) = Unit {0}
TellsEnd (changed.Roomed bucket had) = ⊥

module _ {K V : Type 0} where
  abbrev IsEndOp : Op (Node K V) → Type 0
  IsEndOp (Load at) = Unit {0}
  IsEndOp (Store at word) = IsOfEnd at
  IsEndOp (Swap at word) = ⊥
  IsEndOp (Add at by) = ⊥
  IsEndOp (Or at bits) = ⊥
  IsEndOp (Exchange at old new) = ⊥
  IsEndOp (Make value words) = ⊥
  IsEndOp (Take b) = Unit {0}
  IsEndOp (Rewrite b value) = ⊥
  IsEndOp (Room bucket) = ⊥

  op_tells : (m : Mem (Node K V)) (op : Op (Node K V)) (out : Out (Node K V)) → IsEndOp op → TellsEnd (observed_of op out (seen_of m op out))
  op_tells m (Load at) out is = tt
  op_tells m (Store at word) out is = is
  op_tells m (Swap at word) out is = absurd is
  op_tells m (Add at by) out is = absurd is
  op_tells m (Or at bits) out is = absurd is
  op_tells m (Exchange at old new) out is = absurd is
  op_tells m (Make value words) out is = absurd is
  op_tells m (Take b) out is = tt
  op_tells m (Rewrite b value) out is = absurd is
  op_tells m (Room bucket) out is = absurd is

  abbrev IsEndPlan : {R : Type 0} → Plan (Node K V) R → Type 0
  IsEndPlan (Turn rest) = Unit {0}
  IsEndPlan (Do op rest) = IsEndOp op

  plan_tells : {R : Type 0} (m m2 : Mem (Node K V)) (told : Changed) (plan : Plan (Node K V) R) (end : R) → StepsObserved K V R m changed.Nothing plan m2 told end → IsEndPlan plan → TellsEnd told
  plan_tells m m2 told (Turn rest) end steps is = subst TellsEnd (sym steps.2) tt
  plan_tells m m2 told (Do op rest) end steps is = subst TellsEnd (sym steps.1.1) (op_tells m op steps.0 is)

end_plan : (K V : Type 0) (e : EndMap) (spot : Ending) → IsEndPlan (plan_at {K = K} {V = V} e spot)
end_plan K V e ending.Reads = tt
end_plan K V e ending.Words = tt
end_plan K V e (ending.Takes pair) = tt
end_plan K V e ending.Nexts = tt
end_plan K V e ending.Carries = tt
end_plan K V e (ending.Joins pair) = tt
end_plan K V e (ending.Follows pair) = tt
end_plan K V e (ending.Gives pair next) = tt
end_plan K V e ending.Afters = tt
end_plan K V e (ending.Drops next) = tt
end_plan K V e ending.Shards = tt
end_plan K V e ending.Sets = tt
end_plan K V e ending.Frees = tt
end_plan K V e ending.Over = tt

module _ {K V : Type 0} where
  pub end_tells : (e : EndMap) (m m2 : Mem (Node K V)) (told : Changed) (end : EndMap × Settled (Node K V)) → StepsObserved K V (EndMap × Settled (Node K V)) m changed.Nothing (end_map_plan e) m2 told end
      → TellsEnd told
  end_tells e m m2 told end steps = plan_tells m m2 told (end_map_plan e) end steps (end_plan K V e e.stands)

module _ (map : ℕ) where
  -- where its root is written no table comes into a map
  root_none : (q : Bool) (was is : Role) → AllCalm (if q then [] else led_to (acts.Ending map) was is) → (if q then [] else led_to (acts.Ending map) was is) ≡ []
  root_none true was is calm = refl
  root_none false was role.Free calm = refl
  root_none false was (role.OwnPair caller) calm = refl
  root_none false was (role.OwnTable turn shape) calm = absurd (let no = calm.0 in cc no)
  root_none false was (role.Pair n) calm = refl
  root_none false was (role.Counter other) calm = refl
  root_none false role.Free (role.Table t len) calm = refl
  root_none false (role.OwnPair caller) (role.Table t len) calm = refl
  root_none false (role.OwnTable turn shape) (role.Table t len) calm = refl
  root_none false (role.Pair n) (role.Table t len) calm = refl
  root_none false (role.Table u other) (role.Table t len) calm = absurd (let no = calm.0 in cc no)
  root_none false (role.Counter other) (role.Table t len) calm = refl

either_none : (q : Bool) → ◌≡◌ {A = List Effect} (if q then [] else []) []
either_none true = refl
either_none false = refl

module _ (map : ℕ) (known : Known) where
  -- so a step that takes no block away does nothing, if it moves nothing
  pub nothing_done : (x : Changed) → TellsEnd x → TakesNone x → AllCalm (effects_of (acts.Ending map) known x) → effects_of (acts.Ending map) known x ≡ []
  nothing_done changed.Nothing tells none calm = refl
  nothing_done (changed.Wrote (Root r) before after) tells none calm = root_none map (names_same before after) (named known before) (named known after) calm
  nothing_done (changed.Wrote (Used r) before after) tells none calm = refl
  nothing_done (changed.Wrote (Slot t field) before after) tells none calm = absurd tells
  nothing_done (changed.Wrote (Entry b field) before after) tells none calm = either_none (names_same before after)
  nothing_done (changed.Wrote (Word b field) before after) tells none calm = absurd tells
  nothing_done (changed.Made kind b) tells none calm = absurd tells
  nothing_done (changed.Unmade kind) tells none calm = absurd tells
  nothing_done (changed.Took b) tells none calm = absurd none
  nothing_done (changed.Roomed bucket had) tells none calm = absurd tells
