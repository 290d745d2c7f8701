-- What is promised of what calls have to count: what effects find, and that each step of a call leaves it so, and what happens to calls between their steps.
use Rattle.std.specs.Prelude.{◌≡◌, ◌+◌, ℕ, Bool, true, false, List, Some, None}
use Rattle.run_places.specs.Given.TablesDeclared.node.Node.{Node}
use Rattle.run_places.specs.Given.TablesDeclared.setting.Setting.{Setting}
use Rattle.run_places.specs.Given.RawMachine.{machine_replied}
use Rattle.run_places.specs.Given.RawDeclared.machines.asking.MachineReply.{MachineReply}
use Rattle.run_places.specs.Given.RawDeclared.machines.call.KeyCall.{KeyCall}
use Rattle.run_places.specs.Given.RawDeclared.machines.progress.Progress.{Progress}
use Rattle.run_places.specs.Given.RunsDeclared.call.Call.{Call}
use Rattle.run_places.specs.Given.RunsDeclared.call.Reply.{Reply}
use Rattle.run_places.specs.Given.RunsDeclared.outcome.Outcome.{Outcome}
use Rattle.run_places.specs.Given.SchedulesBeginning.{with_call}
use Rattle.run_places.specs.Given.SchedulesEffects.{with_effects}
use Rattle.run_places.specs.Given.SchedulesEntry.{ends_call}
use Rattle.run_places.specs.Given.SchedulesMoment.{UnderWay as CallThere, Moment, start}
use Rattle.run_places.specs.Given.SchedulesViews.{call_of}
use Rattle.owner_facts.specs.Given.CallersPairs.{Given}
use Rattle.owner_facts.specs.Given.CallersTogether.{UnderWay, IsBegun}
use Rattle.run_places.specs.Given.EffectsEffects.{effects_of}
use Rattle.run_places.specs.Given.EffectsKnown.{Known}
use Rattle.run_places.specs.Given.EffectsDeclared.acting.Acting.TheVariants as acts
use Rattle.owner_facts.specs.Given.FinishesMachines.{machine_of}
use Rattle.run_places.specs.Given.FollowsCalling.{NoneNamed, told, come_to}
use Rattle.run_places.specs.Moments.Whole.{RefinesWhole}
use Rattle.run_debts.specs.Counts.{counts_in_calling, is_to_count, RefinesCounts, shard_for, FindCounts}
use Rattle.run_places.specs.Given.ScenesHeld.{Held, IsAt}
use Rattle.run_places.specs.Given.ScenesReplying.{scene_with}
use Rattle.run_places.specs.Given.ScenesScene.{Scene, at_first}
use Rattle.run_places.specs.Given.ScenesStepping.{StepLeads, scene_after}

-- The promises: nobody has anything to count as a run begins,
abbrev pub CountsBegin : Type 0 → Type 0 → Type 0
CountsBegin K V = (roots : ℕ) (name : ℕ → List ℕ) → RefinesCounts {K = K} {V = V} name start (at_first roots)

module _ (K V : Type 0) (same : K → K → Bool) (hash : ℕ → K → ℕ) where
  -- A step of a call that counts finds that it has something to count, and counts in its shard; it is so after the step, whoever takes it, and a call that has
  -- ended by it has nothing left to count.
  abbrev pub CallsPreserveCounts : Type 0
  CallsPreserveCounts =
      (name : ℕ → List ℕ) (m : Moment K V) (known : Known) (s : Scene K V) (old new : Held K V) → IsAt same hash old s → RefinesWhole same name m known s → RefinesCounts name m s
      → (map i : ℕ) (u : UnderWay K V K) (here : s.calls map i ≡ Some u) (said : Progress (Node K V)) (leads : StepLeads same hash i said s old new)
      → (let to = leads map u here in
      let effects = effects_of (acts.Call i map) known new.changed in
      let v = with_effects (Some (name i)) (Some map) effects m in
      FindCounts (shard_for i to.0.setting) (name i) map effects m
      × RefinesCounts name v (scene_after same s old new map i to.0 u to.1 said to.4)
      × (to.4.next ≡ None → (c : CallThere K V) → call_of (name i) v ≡ Some c → c.gained + c.lost ≡ 0))

module _ (K V : Type 0) where
  -- So it is where a call begins that has nothing to count, by a name that no call under way has,
  abbrev pub CallsBeginCounts : Type 0
  CallsBeginCounts =
      (name : ℕ → List ℕ) (m : Moment K V) (s : Scene K V) → RefinesCounts name m s
      → (map i : ℕ) (u : UnderWay K V K) (call : Call K V) (guard : List ℕ) → NoneNamed name (name i) s → is_to_count (machine_of u) ≡ false
      → RefinesCounts name (with_call (name i) guard call (Some map) m) (scene_with map i u s)

  -- as each call on one key begins,
  abbrev pub CallsBeginUncounted : Type 0
  CallsBeginUncounted =
      (same : K → K → Bool) (hash : K → ℕ) (setting : Setting) (slot : ℕ → ℕ) (i : ℕ) (keys : K → Bool) (given : Given K V) (call : KeyCall K V K)
      → IsBegun V same hash same setting slot i keys given call → counts_in_calling call.stands ≡ false

  -- where one that asks goes on by what it is told,
  abbrev pub CallsTakeCounts : Type 0
  CallsTakeCounts =
      (same : K → K → Bool) (name : ℕ → List ℕ) (m : Moment K V) (known : Known) (s : Scene K V) → RefinesWhole same name m known s → RefinesCounts name m s
      → (map i : ℕ) (u : UnderWay K V K) → s.calls map i ≡ Some u → (reply : MachineReply V) (next : UnderWay K V K) → machine_of next ≡ (machine_replied (machine_of u) reply).0
      → (is_told : Reply V) → RefinesCounts name (told (name i) is_told m) (scene_with map i next s)

  -- and where one comes to an outcome: where that is its end, no call under way has its name any more.
  abbrev pub CallsComeToCounts : Type 0
  CallsComeToCounts =
      (same : K → K → Bool) (name : ℕ → List ℕ) (m : Moment K V) (known : Known) (s : Scene K V) → RefinesWhole same name m known s → RefinesCounts name m s
      → (own : List ℕ) (outcome : Outcome V) (steps : ℕ) → (ends_call outcome ≡ true → NoneNamed name own s) → RefinesCounts name (come_to own outcome steps m) s
