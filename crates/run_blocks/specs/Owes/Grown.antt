-- What is promised of a call that is short of no growth: it is to be refused for something else than want of memory, if it is at all.
use Rattle.std.specs.Prelude.{◌≡◌, ℕ, Bool, true, not, List, Some}
use Rattle.run_debts.specs.Given.SeizeWordsDeclared.fault.Fault.{Fault}
use Rattle.run_debts.specs.Given.SeizeWordsDeclared.fault.Fault.TheVariants.{Memory}
use Rattle.run_debts.specs.Given.TablesDeclared.node.Node.{Node}
use Rattle.run_debts.specs.Given.RawMachine.{machine_replied}
use Rattle.run_debts.specs.Given.RawDeclared.machines.asking.MachineReply.{MachineReply}
use Rattle.run_debts.specs.Given.RawDeclared.machines.machine.Machine.{Machine}
use Rattle.run_debts.specs.Given.RawDeclared.machines.machine.Machine.TheVariants as kinds
use Rattle.run_debts.specs.Given.RawDeclared.machines.progress.Progress.{Progress}
use Rattle.run_debts.specs.Given.RawDeclared.machines.progress.Progress.TheVariants as progress
use Rattle.run_debts.specs.Given.RunsDeclared.call.Call.{Call}
use Rattle.run_debts.specs.Given.RunsDeclared.call.Reply.{Reply}
use Rattle.run_debts.specs.Given.RunsDeclared.outcome.Outcome.{Outcome}
use Rattle.run_debts.specs.Given.SchedulesBeginning.{with_call}
use Rattle.run_debts.specs.Given.SchedulesEffects.{with_effects}
use Rattle.run_debts.specs.Given.SchedulesEntry.{ends_call}
use Rattle.run_debts.specs.Given.SchedulesMoment.{UnderWay as CallThere, Moment, start}
use Rattle.run_debts.specs.Given.SchedulesViews.{call_of}
use Rattle.owner_calls.specs.Given.CallersTogether.{UnderWay}
use Rattle.run_debts.specs.Given.EffectsEffects.{effects_of}
use Rattle.run_debts.specs.Given.EffectsKnown.{Known}
use Rattle.run_debts.specs.Given.EffectsDeclared.acting.Acting.TheVariants as acts
use Rattle.run_debts.specs.Given.FinishesMachines.{machine_of}
use Rattle.run_debts.specs.Given.FinishesMaps.{Standing, with_call as with_in}
use Rattle.run_debts.specs.Given.FollowsCalling.{NoneNamed, told, come_to}
use Rattle.owner_calls.specs.Given.LateFaults.{SoInCalling, SoInReserving, SoInSweeping}
use Rattle.run_debts.specs.Given.MomentsWhole.{RefinesWhole}
use Rattle.run_debts.specs.Given.OthersWalks.{given_up}
use Rattle.run_blocks.specs.Owes.Short.{RefinesShort}
use Rattle.run_debts.specs.Given.ScenesBeginning.{Begins}
use Rattle.run_debts.specs.Given.ScenesHeld.{Held, IsAt}
use Rattle.run_debts.specs.Given.ScenesReplying.{AskLeads, StopLeads, scene_with, unless_stopped}
use Rattle.run_debts.specs.Given.ScenesScene.{Scene, at_first}
use Rattle.run_debts.specs.Given.ScenesStepping.{StepLeads, scene_after}

-- each fault that a machine has to tell, where it stands, is such a one
abbrev pub SoInMachine : {K V Q : Type 0} → (Fault → Type 0) → Machine K V Q → Type 0
SoInMachine Is (kinds.Key p) = SoInCalling Is p.stands
SoInMachine Is (kinds.Reserve r) = SoInReserving Is r.stands
SoInMachine Is (kinds.Sweep c) = SoInSweeping Is c.stands
SoInMachine Is (kinds.Count sum) = Unit {0}

-- another fault than want of memory
abbrev pub IsOther : Fault → Type 0
IsOther fault = fault ≡ Memory → ⊥

module _ {K V : Type 0} where
  -- a call that is short of no growth has nothing to tell of memory
  abbrev pub RefinesGrown : (ℕ → List ℕ) → Moment K V → Scene K V → Type 0
  RefinesGrown name m s =
      (map i : ℕ) (u : UnderWay K V K) → s.calls map i ≡ Some u → (c : CallThere K V) → call_of (name i) m ≡ Some c → not c.is_short ≡ true → SoInMachine IsOther (machine_of u)

module _ (K V : Type 0) (same : K → K → Bool) (hash : ℕ → K → ℕ) where
  -- The promise, of a step of a call: so it is after the step, and one that is refused for want of memory is short of a growth.
  abbrev pub CallsPreserveGrown : Type 0
  CallsPreserveGrown =
      (name : ℕ → List ℕ) (m : Moment K V) (known : Known) (s : Scene K V) (old new : Held K V) → IsAt same hash old s
      → RefinesWhole same name m known s → RefinesShort name m s → RefinesGrown name m s
      → (map i : ℕ) (u : UnderWay K V K) (here : s.calls map i ≡ Some u) (said : Progress (Node K V)) (leads : StepLeads same hash i said s old new)
      → (let to = leads map u here in
      let v = with_effects (Some (name i)) (Some map) (effects_of (acts.Call i map) known new.changed) m in
      RefinesGrown name v (scene_after same s old new map i to.0 u to.1 said to.4)
      × (said ≡ progress.Refused Memory → (c : CallThere K V) → call_of (name i) v ≡ Some c → c.is_short ≡ true))

module _ (K V : Type 0) where
  -- So it is as a run begins,
  abbrev pub GrownBegins : Type 0
  GrownBegins = (roots : ℕ) (name : ℕ → List ℕ) → RefinesGrown {K = K} {V = V} name start (at_first roots)

  -- as long as calls are as they were,
  abbrev pub StaysGrown : Type 0
  StaysGrown = (name : ℕ → List ℕ) (m v : Moment K V) (s t : Scene K V) → RefinesGrown name m s → v.calls ≡ m.calls → t.calls ≡ s.calls → RefinesGrown name v t

  -- where a call begins by a name that no call under way has, with nothing to tell of memory,
  abbrev pub CallsBeginGrown : Type 0
  CallsBeginGrown =
      (name : ℕ → List ℕ) (m : Moment K V) (s : Scene K V) → RefinesGrown name m s
      → (map i : ℕ) (u : UnderWay K V K) (call : Call K V) (guard : List ℕ) → NoneNamed name (name i) s → SoInMachine IsOther (machine_of u)
      → RefinesGrown name (with_call (name i) guard call (Some map) m) (scene_with map i u s)

  -- as each call begins,
  abbrev pub MachinesBeginGrown : Type 0
  MachinesBeginGrown = (same : K → K → Bool) (standing : Standing K) (i : ℕ) (u : UnderWay K V K) → Begins same standing i u → SoInMachine IsOther (machine_of u)

  -- where one that asks goes on by what it is told,
  abbrev pub CallsTakeGrown : Type 0
  CallsTakeGrown =
      (same : K → K → Bool) (name : ℕ → List ℕ) (m : Moment K V) (known : Known) (s : Scene K V) → RefinesWhole same name m known s → RefinesGrown name m s
      → (map i : ℕ) (u : UnderWay K V K) → s.calls map i ≡ Some u → (reply : MachineReply V) (next : UnderWay K V K) → machine_of next ≡ (machine_replied (machine_of u) reply).0
      → (is_told : Reply V) → RefinesGrown name (told (name i) is_told m) (scene_with map i next s)

  -- and where one comes to an outcome.
  abbrev pub CallsComeToGrown : Type 0
  CallsComeToGrown =
      (same : K → K → Bool) (name : ℕ → List ℕ) (m : Moment K V) (known : Known) (s : Scene K V) → RefinesWhole same name m known s → RefinesGrown name m s
      → (own : List ℕ) (outcome : Outcome V) (steps : ℕ) → (ends_call outcome ≡ true → NoneNamed name own s) → RefinesGrown name (come_to own outcome steps m) s

module _ (K V : Type 0) (same : K → K → Bool) (hash : ℕ → K → ℕ) where
  -- So it is where a walk goes on to its next pair,
  abbrev pub WalksPreserveGrown : Type 0
  WalksPreserveGrown =
      (name : ℕ → List ℕ) (m : Moment K V) (s : Scene K V) (old new : Held K V) → RefinesGrown name m s
      → (i : ℕ) (leads : AskLeads same hash i true s old new) (map : ℕ) (u : UnderWay K V K) (here : s.calls map i ≡ Some u) → RefinesGrown name m (scene_with map i (leads map u here).0 s)

  -- and where one is given up.
  abbrev pub WalksStopGrown : Type 0
  WalksStopGrown =
      (name : ℕ → List ℕ) (m : Moment K V) (known : Known) (s : Scene K V) (old new : Held K V) → RefinesWhole same name m known s → RefinesGrown name m s
      → (i : ℕ) (stopped : Bool) → StopLeads same hash i stopped s old new → (map : ℕ) (u : UnderWay K V K) → s.calls map i ≡ Some u
      → (let after = record s { calls = with_in s.calls map i (unless_stopped stopped u) } in
      (stopped ≡ true → NoneNamed name (name i) after) → RefinesGrown name (given_up (name i) stopped m) after)
