-- By a step of an event of a call no class changes twice within the event, and a call that adds shards up reads them as they are.
use Rattle.std.specs.Prelude.{◌≡◌, ℕ, Bool, List, Some}
use Rattle.std.proofs.Common.{◌∙◌}
use Rattle.run_grows.specs.Given.TablesDeclared.node.Node.{Node}
use Rattle.run_grows.specs.Given.RawDeclared.machines.call.KeyCall.{KeyCall}
use Rattle.run_grows.specs.Given.RawDeclared.machines.machine.Machine.TheVariants as kinds
use Rattle.run_grows.specs.Given.RawDeclared.machines.progress.Progress.{Progress}
use Rattle.run_grows.specs.Given.ReservesDeclared.sweep.Sweep.{Sweep}
use Rattle.run_grows.specs.Given.RunsDeclared.effect.Effect.{Effect}
use Rattle.run_grows.specs.Given.SchedulesEffects.{with_effects}
use Rattle.run_grows.specs.Given.SchedulesEntry.{Entry}
use Rattle.run_grows.specs.Given.SchedulesMoment.{UnderWay as CallThere, Moment}
use Rattle.run_grows.specs.Given.CallersTogether.{UnderWay, OnKey, ForRoom, Counting, OverAll}
use Rattle.run_grows.specs.Given.EffectsEffects.{effects_of}
use Rattle.run_grows.specs.Given.EffectsKnown.{Known}
use Rattle.run_grows.specs.Given.EffectsDeclared.acting.Acting.TheVariants as acts
use Rattle.run_grows.specs.Given.FinishesMachines.{machine_of}
use Rattle.run_grows.specs.Given.MomentsWhole.{RefinesWhole}
use Rattle.run_grows.specs.Given.HistoriesInEvent.{InEvent}
use Rattle.run_grows.specs.Given.ChangesKept.{ChangesFirst}
use Rattle.run_grows.proofs.Given.HistoriesOtherMidsts.{first_change as other_changes_first}
use Rattle.run_grows.proofs.Given.HistoriesSeveral.{first_change as key_changes_first}
use Rattle.run_grows.specs.Given.PurposesShards.{NoneCounted, ReadsShards}
use Rattle.run_sweeps.proofs.Purposes.ShardsRead.{steps_read_shards}
use Rattle.run_grows.specs.Given.ShardsShardSteps.{AddsUp}
use Rattle.run_grows.specs.Given.ShardsShardWords.{RefinesCounters}
use Rattle.run_grows.specs.Given.ScenesHeld.{Held, IsAt}
use Rattle.run_grows.specs.Given.ScenesScene.{Scene}
use Rattle.run_grows.specs.Given.ScenesStepping.{StepLeads}
use Rattle.run_grows.specs.Given.SchedulesTransition.{past}
use Rattle.run_grows.proofs.Given.SettlesCalls.{goes_as_one}

-- no class changes twice
module _ {K V : Type 0} (same : K → K → Bool) (hash : ℕ → K → ℕ) (name : ℕ → List ℕ) (log : List (Entry K V)) (beginning : Moment K V) (map i : ℕ) (c : CallThere K V) (done : List Effect) (m : Moment K V)
    (known : Known) (s : Scene K V) (old new : Held K V) (at : IsAt same hash old s) (said : Progress (Node K V)) (leads : StepLeads same hash i said s old new) where
  pub changes_first : (u : UnderWay K V K) → InEvent same name (past log) beginning map i c done m known s u
      → ChangesFirst (past log) m same map (with_effects (Some (name i)) (Some map) (effects_of (acts.Call i map) known new.changed) m)
  changes_first (OnKey x) midst = key_changes_first same hash name (past log) beginning map i midst.0 c midst.1 done m known s x midst.2 old new at said leads
  changes_first (ForRoom r) midst = other_changes_first same hash name (past log) beginning map i c done m known s (ForRoom r) midst old new at said leads
  changes_first (Counting sum) midst = other_changes_first same hash name (past log) beginning map i c done m known s (Counting sum) midst old new at said leads
  changes_first (OverAll o) midst = other_changes_first same hash name (past log) beginning map i c done m known s (OverAll o) midst old new at said leads

-- a call that adds shards up has done so before
module _ {K V : Type 0} where
  of_key : (x : UnderWay K V K) (p : KeyCall K V K) → machine_of x ≡ kinds.Key p → AddsUp x → ⊥
  of_key (OnKey y) p is adds = adds
  of_key (ForRoom r) p is adds = absurd (cc is)
  of_key (Counting sum) p is adds = absurd (cc is)
  of_key (OverAll o) p is adds = adds

  of_sweep : (x : UnderWay K V K) (p : Sweep) → machine_of x ≡ kinds.Sweep p → AddsUp x → ⊥
  of_sweep (OnKey y) p is adds = adds
  of_sweep (ForRoom r) p is adds = absurd (cc is)
  of_sweep (Counting sum) p is adds = absurd (cc is)
  of_sweep (OverAll o) p is adds = adds

module _ {K V : Type 0} (same : K → K → Bool) (hash : ℕ → K → ℕ) (s : Scene K V) (old new : Held K V) (map i : ℕ) (said : Progress (Node K V)) (leads : StepLeads same hash i said s old new) where
  added_before : (u : UnderWay K V K) (here : s.calls map i ≡ Some u) (x : UnderWay K V K) → (leads map u here).4.next ≡ Some x → AddsUp x → AddsUp u
  added_before (OnKey k) here x goes adds =
      let to = leads map (OnKey k) here in absurd (of_key x to.4.did.0 (goes_as_one to.1 said to.4.next to.4.goes_on x goes ∙ to.4.did.2) adds)
  added_before (ForRoom r) here x goes adds = tt
  added_before (Counting sum) here x goes adds = tt
  added_before (OverAll o) here x goes adds =
      let to = leads map (OverAll o) here in absurd (of_sweep x to.4.did.0 (goes_as_one to.1 said to.4.next to.4.goes_on x goes ∙ to.4.did.2) adds)

module _ (K V : Type 0) (same : K → K → Bool) (hash : ℕ → K → ℕ) (name : ℕ → List ℕ) (log : List (Entry K V)) (m : Moment K V) (known : Known) (s : Scene K V) (old new : Held K V)
    (at : IsAt same hash old s) (whole : RefinesWhole same name m known s) (counters : RefinesCounters name m s) (map i : ℕ) (u : UnderWay K V K) (here : s.calls map i ≡ Some u) (said : Progress (Node K V))
    (leads : StepLeads same hash i said s old new) (unadded : AddsUp u → NoneCounted (past log) m map) where
  -- it reads them as they are, if none was counted on before,
  pub reads_shards : ReadsShards (past log) m s map u
  reads_shards adds = (steps_read_shards K V same hash name (past log) m known s old new at whole counters map i u here said leads (unadded adds)).0 adds

  -- and none is by that
  pub unadded_still : (x : UnderWay K V K) → (leads map u here).4.next ≡ Some x → AddsUp x
      → NoneCounted (past log) (with_effects (Some (name i)) (Some map) (effects_of (acts.Call i map) known new.changed) m) map
  unadded_still x goes adds =
      let before = added_before same hash s old new map i said leads u here x goes adds in
      (steps_read_shards K V same hash name (past log) m known s old new at whole counters map i u here said leads (unadded before)).1 before
