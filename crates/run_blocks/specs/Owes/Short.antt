-- What is promised of a call that has asked for a growth: where it was refused, its machine is to be refused for want of memory, and asks for nothing more.
use Rattle.std.specs.Prelude.{◌≡◌, ℕ, Bool, true, false, List, Option, Some, None, ◌⊎◌}
use Rattle.run_debts.specs.Given.SeizeWordsDeclared.fault.Fault.{Fault}
use Rattle.run_debts.specs.Given.SeizeWordsDeclared.fault.Fault.TheVariants.{Memory}
use Rattle.run_debts.specs.Given.TablesDeclared.node.Node.{Node}
use Rattle.owner_calls.specs.Given.ResizeDeclared.copier.Copying.{Copying}
use Rattle.owner_calls.specs.Given.ResizeDeclared.copier.Copying.TheVariants as copying
use Rattle.run_debts.specs.Given.ReservesDeclared.reserve.Reserving.{Reserving}
use Rattle.run_debts.specs.Given.ReservesDeclared.reserve.Reserving.TheVariants as reserving
use Rattle.run_debts.specs.Given.ReservesDeclared.sweep.Sweeping.{Sweeping}
use Rattle.run_debts.specs.Given.ReservesDeclared.sweep.Sweeping.TheVariants as sweeping
use Rattle.run_debts.specs.Given.RawDeclared.machines.answer.End.TheVariants as ends
use Rattle.run_debts.specs.Given.RawDeclared.machines.call.Calling.{Calling}
use Rattle.run_debts.specs.Given.RawDeclared.machines.call.Calling.TheVariants as calling
use Rattle.run_debts.specs.Given.RawDeclared.machines.machine.Machine.{Machine}
use Rattle.run_debts.specs.Given.RawDeclared.machines.machine.Machine.TheVariants as kinds
use Rattle.run_debts.specs.Given.RawDeclared.machines.progress.Progress.{Progress}
use Rattle.run_debts.specs.Given.RawDeclared.machines.progress.Progress.TheVariants as progress
use Rattle.run_debts.specs.Given.RawMachine.{machine_replied}
use Rattle.run_debts.specs.Given.RawDeclared.machines.asking.MachineReply.{MachineReply}
use Rattle.run_debts.specs.Given.RunsDeclared.effect.Effect.{Effect}
use Rattle.run_debts.specs.Given.RunsDeclared.effect.Effect.TheVariants.{Asked}
use Rattle.run_debts.specs.Given.SchedulesEffects.{with_effects, AtEachEffect}
use Rattle.run_debts.specs.Given.SchedulesEntry.{ByCall, acting, ends_call}
use Rattle.run_debts.specs.Given.SchedulesMoment.{UnderWay as CallThere, Moment, start}
use Rattle.run_debts.specs.Given.SchedulesViews.{call_of}
use Rattle.run_debts.specs.Given.RunsDeclared.call.Call.{Call}
use Rattle.run_debts.specs.Given.RunsDeclared.call.Reply.{Reply}
use Rattle.run_debts.specs.Given.RunsDeclared.outcome.Outcome.{Outcome}
use Rattle.run_debts.specs.Given.SchedulesBeginning.{with_call}
use Rattle.owner_calls.specs.Given.CallersTogether.{UnderWay}
use Rattle.run_debts.specs.Given.EffectsEffects.{effects_of}
use Rattle.run_debts.specs.Given.EffectsKnown.{Known}
use Rattle.run_debts.specs.Given.EffectsDeclared.acting.Acting.TheVariants as acts
use Rattle.run_debts.specs.Given.FinishesMachines.{machine_of}
use Rattle.run_debts.specs.Given.FinishesMaps.{with_call as with_in}
use Rattle.run_debts.specs.Given.MomentsWhole.{RefinesWhole}
use Rattle.run_debts.specs.Given.FollowsCalling.{NoneNamed, told, come_to}
use Rattle.run_debts.specs.Given.OthersWalks.{given_up}
use Rattle.run_debts.specs.Given.ScenesHeld.{Held, IsAt}
use Rattle.run_debts.specs.Given.ScenesReplying.{AskLeads, StopLeads, scene_with, unless_stopped}
use Rattle.run_debts.specs.Given.ScenesScene.{Scene, at_first}
use Rattle.run_debts.specs.Given.ScenesStepping.{StepLeads, scene_after}

-- The fault for which a machine is to be refused, if it is, by where it stands: a copier gives back first what it has marked and claimed,
abbrev pub fault_in_copying : Copying → Option Fault
fault_in_copying (copying.Tallies word fault) = Some fault
fault_in_copying (copying.Unmarks word fault) = Some fault
fault_in_copying (copying.Unclaims fault) = Some fault
fault_in_copying (copying.Refused fault) = Some fault
fault_in_copying _ = None

-- and a call on one key its own block.
abbrev pub fault_in_calling : Calling → Option Fault
fault_in_calling (calling.Helps copier goal) = fault_in_copying copier.stands
fault_in_calling (calling.Copies copier) = fault_in_copying copier.stands
fault_in_calling (calling.Drops (ends.Refused fault)) = Some fault
fault_in_calling (calling.Over (ends.Refused fault)) = Some fault
fault_in_calling _ = None

abbrev pub fault_in_reserving : Reserving → Option Fault
fault_in_reserving (reserving.Copies copier) = fault_in_copying copier.stands
fault_in_reserving (reserving.Refused fault) = Some fault
fault_in_reserving _ = None

abbrev pub fault_in_sweeping : Sweeping → Option Fault
fault_in_sweeping (sweeping.Copies copier) = fault_in_copying copier.stands
fault_in_sweeping (sweeping.Refused fault) = Some fault
fault_in_sweeping _ = None

abbrev pub fault_of : {K V Q : Type 0} → Machine K V Q → Option Fault
fault_of (kinds.Key p) = fault_in_calling p.stands
fault_of (kinds.Reserve r) = fault_in_reserving r.stands
fault_of (kinds.Sweep c) = fault_in_sweeping c.stands
fault_of (kinds.Count sum) = None

-- a call that has asked for a growth, and had none since, is to be refused for want of memory
abbrev pub RefinesShort : {K V : Type 0} → (ℕ → List ℕ) → Moment K V → Scene K V → Type 0
RefinesShort {K} {V} name m s = (map i : ℕ) (u : UnderWay K V K) → s.calls map i ≡ Some u → (c : CallThere K V) → call_of (name i) m ≡ Some c → c.is_short ≡ true → fault_of (machine_of u) ≡ Some Memory

module _ {K V : Type 0} where
  -- who asks for a growth is not short of one
  abbrev pub FindsGrown : Effect → CallThere K V → Type 0
  FindsGrown (Asked growth) c = c.is_short ≡ false
  FindsGrown _ c = Unit {0}

  abbrev pub FindGrown : List ℕ → ℕ → List Effect → Moment K V → Type 0
  FindGrown own map effects m = AtEachEffect (λ v f. ByCall (FindsGrown f) (acting (Some own) v)) (Some own) (Some map) effects m

module _ (K V : Type 0) (same : K → K → Bool) (hash : ℕ → K → ℕ) where
  -- The promise: a call asks for a growth in a step only if it is not short of one; so it is after the step, and one that has ended is refused for want of memory, or is not short.
  abbrev pub CallsPreserveShort : Type 0
  CallsPreserveShort =
      (name : ℕ → List ℕ) (m : Moment K V) (known : Known) (s : Scene K V) (old new : Held K V) → IsAt same hash old s → RefinesWhole same name m known s → RefinesShort name m s
      → (map i : ℕ) (u : UnderWay K V K) (here : s.calls map i ≡ Some u) (said : Progress (Node K V)) (leads : StepLeads same hash i said s old new)
      → (let to = leads map u here in
      let effects = effects_of (acts.Call i map) known new.changed in
      let v = with_effects (Some (name i)) (Some map) effects m in
      FindGrown (name i) map effects m
      × RefinesShort name v (scene_after same s old new map i to.0 u to.1 said to.4)
      × (to.4.next ≡ None → (c : CallThere K V) → call_of (name i) v ≡ Some c → (said ≡ progress.Refused Memory) ⊎ (c.is_short ≡ false)))

module _ (K V : Type 0) where
  -- So it is as a run begins,
  abbrev pub ShortBegins : Type 0
  ShortBegins = (roots : ℕ) (name : ℕ → List ℕ) → RefinesShort {K = K} {V = V} name start (at_first roots)

  -- as long as calls are as they were,
  abbrev pub StaysShort : Type 0
  StaysShort = (name : ℕ → List ℕ) (m v : Moment K V) (s t : Scene K V) → RefinesShort name m s → v.calls ≡ m.calls → t.calls ≡ s.calls → RefinesShort name v t

  -- where a call begins by a name that no call under way has,
  abbrev pub CallsBeginShort : Type 0
  CallsBeginShort =
      (name : ℕ → List ℕ) (m : Moment K V) (s : Scene K V) → RefinesShort name m s
      → (map i : ℕ) (u : UnderWay K V K) (call : Call K V) (guard : List ℕ) → NoneNamed name (name i) s → RefinesShort name (with_call (name i) guard call (Some map) m) (scene_with map i u s)

  -- where one that asks goes on by what it is told,
  abbrev pub CallsTakeShort : Type 0
  CallsTakeShort =
      (same : K → K → Bool) (name : ℕ → List ℕ) (m : Moment K V) (known : Known) (s : Scene K V) → RefinesWhole same name m known s → RefinesShort name m s
      → (map i : ℕ) (u : UnderWay K V K) → s.calls map i ≡ Some u → (reply : MachineReply V) (next : UnderWay K V K) → machine_of next ≡ (machine_replied (machine_of u) reply).0
      → (is_told : Reply V) → RefinesShort name (told (name i) is_told m) (scene_with map i next s)

  -- and where one comes to an outcome.
  abbrev pub CallsComeToShort : Type 0
  CallsComeToShort =
      (same : K → K → Bool) (name : ℕ → List ℕ) (m : Moment K V) (known : Known) (s : Scene K V) → RefinesWhole same name m known s → RefinesShort name m s
      → (own : List ℕ) (outcome : Outcome V) (steps : ℕ) → (ends_call outcome ≡ true → NoneNamed name own s) → RefinesShort name (come_to own outcome steps m) s

module _ (K V : Type 0) (same : K → K → Bool) (hash : ℕ → K → ℕ) where
  -- So it is where a walk goes on to its next pair,
  abbrev pub WalksPreserveShort : Type 0
  WalksPreserveShort =
      (name : ℕ → List ℕ) (m : Moment K V) (s : Scene K V) (old new : Held K V) → RefinesShort name m s
      → (i : ℕ) (leads : AskLeads same hash i true s old new) (map : ℕ) (u : UnderWay K V K) (here : s.calls map i ≡ Some u) → RefinesShort name m (scene_with map i (leads map u here).0 s)

  -- and where one is given up.
  abbrev pub WalksStopShort : Type 0
  WalksStopShort =
      (name : ℕ → List ℕ) (m : Moment K V) (known : Known) (s : Scene K V) (old new : Held K V) → RefinesWhole same name m known s → RefinesShort name m s
      → (i : ℕ) (stopped : Bool) → StopLeads same hash i stopped s old new → (map : ℕ) (u : UnderWay K V K) → s.calls map i ≡ Some u
      → (let after = record s { calls = with_in s.calls map i (unless_stopped stopped u) } in
      (stopped ≡ true → NoneNamed name (name i) after) → RefinesShort name (given_up (name i) stopped m) after)
