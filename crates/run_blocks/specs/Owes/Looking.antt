-- What is promised of calls that only look: their machines look until they are over, and no step of one has an effect.
use Rattle.std.specs.Prelude.{◌≡◌, ℕ, Bool, true, false, List, Some}
use Rattle.run_debts.specs.Given.TablesDeclared.node.Node.{Node}
use Rattle.run_debts.specs.Given.TablesDeclared.setting.Setting.{Setting}
use Rattle.run_debts.specs.Given.RawMachine.{machine_replied}
use Rattle.run_debts.specs.Given.RawDeclared.machines.asking.MachineReply.{MachineReply}
use Rattle.run_debts.specs.Given.RawDeclared.machines.call.KeyCall.{KeyCall}
use Rattle.run_debts.specs.Given.RawDeclared.machines.machine.Machine.{Machine}
use Rattle.run_debts.specs.Given.RawDeclared.machines.machine.Machine.TheVariants as kinds
use Rattle.run_debts.specs.Given.RawDeclared.machines.progress.Progress.{Progress}
use Rattle.run_debts.specs.Given.RunsDeclared.call.Call.{Call}
use Rattle.run_debts.specs.Given.RunsDeclared.call.OneKey.{OneKey}
use Rattle.run_debts.specs.Given.RunsDeclared.call.Reply.{Reply}
use Rattle.run_debts.specs.Given.RunsDeclared.effect.Effect.{Effect}
use Rattle.run_debts.specs.Given.RunsDeclared.outcome.Outcome.{Outcome}
use Rattle.run_debts.specs.Given.SchedulesBeginning.{with_call}
use Rattle.run_debts.specs.Given.SchedulesEffects.{with_effects, AtEachEffect}
use Rattle.run_debts.specs.Given.SchedulesEntry.{ByCall, acting, ends_call}
use Rattle.run_debts.specs.Given.SchedulesGrowing.{only_looks}
use Rattle.run_debts.specs.Given.SchedulesMoment.{UnderWay as CallThere, Moment, start}
use Rattle.run_debts.specs.Given.SchedulesSequential.{is_lookup}
use Rattle.run_debts.specs.Given.SchedulesViews.{call_of}
use Rattle.owner_calls.specs.Given.CallersAsked.{Asked}
use Rattle.owner_calls.specs.Given.CallersTogether.{UnderWay, IsBegun}
use Rattle.run_debts.specs.Given.EffectsEffects.{effects_of}
use Rattle.run_debts.specs.Given.EffectsKnown.{Known}
use Rattle.run_debts.specs.Given.EffectsDeclared.acting.Acting.TheVariants as acts
use Rattle.run_debts.specs.Given.FinishesMachines.{machine_of}
use Rattle.run_debts.specs.Given.FinishesMaps.{with_call as with_in}
use Rattle.run_debts.specs.Given.FollowsCalling.{NoneNamed, told, come_to}
use Rattle.run_debts.specs.Given.HandsAsked.{given_by}
use Rattle.owner_calls.specs.Given.LateKinds.{IsLookup}
use Rattle.run_debts.specs.Given.MomentsWhole.{RefinesWhole}
use Rattle.run_debts.specs.Given.OthersWalks.{given_up}
use Rattle.run_debts.specs.Given.ScenesHeld.{Held, IsAt}
use Rattle.run_debts.specs.Given.ScenesReplying.{AskLeads, StopLeads, scene_with, unless_stopped}
use Rattle.run_debts.specs.Given.ScenesScene.{Scene, at_first}
use Rattle.run_debts.specs.Given.ScenesStepping.{StepLeads, scene_after}

-- The machine is a lookup, or sums up the counter.
abbrev pub IsLooking : {K V Q : Type 0} → Machine K V Q → Type 0
IsLooking (kinds.Key p) = IsLookup p
IsLooking (kinds.Count sum) = Unit {0}
IsLooking (kinds.Reserve r) = ⊥
IsLooking (kinds.Sweep c) = ⊥

-- so is that of each call that only looks, by the moment
abbrev pub RefinesLooking : {K V : Type 0} → (ℕ → List ℕ) → Moment K V → Scene K V → Type 0
RefinesLooking {K} {V} name m s = (map i : ℕ) (u : UnderWay K V K) → s.calls map i ≡ Some u → (c : CallThere K V) → call_of (name i) m ≡ Some c → only_looks c.call ≡ true → IsLooking (machine_of u)

module _ {K V : Type 0} where
  -- each of the effects finds that the call does more than look
  abbrev pub FindAtWork : List ℕ → ℕ → List Effect → Moment K V → Type 0
  FindAtWork own map effects m = AtEachEffect (λ v f. ByCall (λ (c : CallThere K V). only_looks c.call ≡ false) (acting (Some own) v)) (Some own) (Some map) effects m

module _ (K V : Type 0) (same : K → K → Bool) (hash : ℕ → K → ℕ) where
  -- The promises: a step of a call has effects only if the call does more than look; and after it, whoever takes it, those that only look are as they must be.
  abbrev pub CallsPreserveLooking : Type 0
  CallsPreserveLooking =
      (name : ℕ → List ℕ) (m : Moment K V) (known : Known) (s : Scene K V) (old new : Held K V) → IsAt same hash old s → RefinesWhole same name m known s → RefinesLooking name m s
      → (map i : ℕ) (u : UnderWay K V K) (here : s.calls map i ≡ Some u) (said : Progress (Node K V)) (leads : StepLeads same hash i said s old new)
      → (let to = leads map u here in
      let effects = effects_of (acts.Call i map) known new.changed in
      FindAtWork (name i) map effects m
      × RefinesLooking name (with_effects (Some (name i)) (Some map) effects m) (scene_after same s old new map i to.0 u to.1 said to.4))

module _ (K V : Type 0) where
  -- So it is, too, of those that look, as a run begins,
  abbrev pub LookingBegins : Type 0
  LookingBegins = (roots : ℕ) (name : ℕ → List ℕ) → RefinesLooking {K = K} {V = V} name start (at_first roots)

  -- as long as calls are as they were,
  abbrev pub StaysLooking : Type 0
  StaysLooking = (name : ℕ → List ℕ) (m v : Moment K V) (s t : Scene K V) → RefinesLooking name m s → v.calls ≡ m.calls → t.calls ≡ s.calls → RefinesLooking name v t

  -- where a call begins by a name that no call under way has,
  abbrev pub CallsBeginLooking : Type 0
  CallsBeginLooking =
      (name : ℕ → List ℕ) (m : Moment K V) (s : Scene K V) → RefinesLooking name m s
      → (map i : ℕ) (u : UnderWay K V K) (call : Call K V) (guard : List ℕ) → NoneNamed name (name i) s → (only_looks call ≡ true → IsLooking (machine_of u))
      → RefinesLooking name (with_call (name i) guard call (Some map) m) (scene_with map i u s)

  -- as each call on one key that only looks begins,
  abbrev pub LookupsBegin : Type 0
  LookupsBegin =
      (same : K → K → Bool) (hash : K → ℕ) (setting : Setting) (slot : ℕ → ℕ) (i : ℕ) (keys : K → Bool) (one : OneKey K V) (asked : List (Asked V)) (call : KeyCall K V K)
      → IsBegun V same hash same setting slot i keys (given_by one asked) call → is_lookup one ≡ true → IsLookup call

  -- where one that asks goes on by what it is told,
  abbrev pub CallsTakeLooking : Type 0
  CallsTakeLooking =
      (same : K → K → Bool) (name : ℕ → List ℕ) (m : Moment K V) (known : Known) (s : Scene K V) → RefinesWhole same name m known s → RefinesLooking name m s
      → (map i : ℕ) (u : UnderWay K V K) → s.calls map i ≡ Some u → (reply : MachineReply V) (next : UnderWay K V K) → machine_of next ≡ (machine_replied (machine_of u) reply).0
      → (is_told : Reply V) → RefinesLooking name (told (name i) is_told m) (scene_with map i next s)

  -- and where one comes to an outcome.
  abbrev pub CallsComeToLooking : Type 0
  CallsComeToLooking =
      (same : K → K → Bool) (name : ℕ → List ℕ) (m : Moment K V) (known : Known) (s : Scene K V) → RefinesWhole same name m known s → RefinesLooking name m s
      → (own : List ℕ) (outcome : Outcome V) (steps : ℕ) → (ends_call outcome ≡ true → NoneNamed name own s) → RefinesLooking name (come_to own outcome steps m) s

module _ (K V : Type 0) (same : K → K → Bool) (hash : ℕ → K → ℕ) where
  -- So it is where a walk goes on to its next pair,
  abbrev pub WalksPreserveLooking : Type 0
  WalksPreserveLooking =
      (name : ℕ → List ℕ) (m : Moment K V) (s : Scene K V) (old new : Held K V) → RefinesLooking name m s
      → (i : ℕ) (leads : AskLeads same hash i true s old new) (map : ℕ) (u : UnderWay K V K) (here : s.calls map i ≡ Some u) → RefinesLooking name m (scene_with map i (leads map u here).0 s)

  -- and where one is given up.
  abbrev pub WalksStopLooking : Type 0
  WalksStopLooking =
      (name : ℕ → List ℕ) (m : Moment K V) (known : Known) (s : Scene K V) (old new : Held K V) → RefinesWhole same name m known s → RefinesLooking name m s
      → (i : ℕ) (stopped : Bool) → StopLeads same hash i stopped s old new → (map : ℕ) (u : UnderWay K V K) → s.calls map i ≡ Some u
      → (let after = record s { calls = with_in s.calls map i (unless_stopped stopped u) } in
      (stopped ≡ true → NoneNamed name (name i) after) → RefinesLooking name (given_up (name i) stopped m) after)
