-- What is promised of the block that a call has made for a pair: what effects find, and that each kind of step leaves it so.
use Rattle.std.specs.Prelude.{◌≡◌, ℕ, Bool, true, false, List, Some, None}
use Rattle.run_debts.specs.Given.TablesDeclared.node.Node.{Node}
use Rattle.run_debts.specs.Given.TablesDeclared.setting.Setting.{Setting}
use Rattle.run_debts.specs.Given.RawMachine.{machine_replied}
use Rattle.run_debts.specs.Given.RawDeclared.machines.asking.MachineReply.{MachineReply}
use Rattle.run_debts.specs.Given.RawDeclared.machines.call.KeyCall.{KeyCall}
use Rattle.run_debts.specs.Given.RawDeclared.machines.progress.Progress.{Progress}
use Rattle.run_debts.specs.Given.RunsDeclared.call.Call.{Call}
use Rattle.run_debts.specs.Given.RunsDeclared.call.Reply.{Reply}
use Rattle.run_debts.specs.Given.RunsDeclared.effect.Effect.{Effect}
use Rattle.run_debts.specs.Given.RunsDeclared.effect.Effect.TheVariants.{PairMade, PairGivenUp, Stored}
use Rattle.run_debts.specs.Given.RunsDeclared.outcome.Outcome.{Outcome}
use Rattle.run_debts.specs.Given.SchedulesBeginning.{with_call}
use Rattle.run_debts.specs.Given.SchedulesEffects.{with_effects, AtEachEffect}
use Rattle.run_debts.specs.Given.SchedulesEntry.{ByCall, acting, ends_call}
use Rattle.run_debts.specs.Given.SchedulesGrowing.{has_value_for}
use Rattle.run_debts.specs.Given.SchedulesMoment.{UnderWay as CallThere, Moment, start}
use Rattle.run_debts.specs.Given.SchedulesViews.{call_of}
use Rattle.owner_calls.specs.Given.PointsSteps.{AreLawful}
use Rattle.owner_calls.specs.Given.CallersPairs.{Given}
use Rattle.owner_calls.specs.Given.CallersTogether.{UnderWay, IsBegun}
use Rattle.run_debts.specs.Given.EffectsEffects.{effects_of, known_after}
use Rattle.run_debts.specs.Given.EffectsKnown.{Known, nothing_known}
use Rattle.run_debts.specs.Given.EffectsDeclared.acting.Acting.TheVariants as acts
use Rattle.run_debts.specs.Given.FinishesMachines.{machine_of}
use Rattle.run_debts.specs.Given.FollowsCalling.{NoneNamed, told, come_to}
use Rattle.owner_calls.specs.Holds.Came.{Owns}
use Rattle.run_debts.specs.Given.MomentsWhole.{RefinesWhole}
use Rattle.run_blocks.specs.Owes.Made.{OwnsSo, RefinesMade}
use Rattle.run_debts.specs.Given.ScenesHeld.{Held, IsAt}
use Rattle.run_debts.specs.Given.ScenesReplying.{scene_with}
use Rattle.run_debts.specs.Given.ScenesScene.{Scene, at_first}
use Rattle.run_debts.specs.Given.ScenesStepping.{StepLeads, scene_after}

module _ {K V : Type 0} where
  -- A block for a pair is made on asking for it, by a call that has none, and a value for it; one is given up, and a pair stored, by a call that has one.
  abbrev pub FindsBlock : Effect → CallThere K V → Type 0
  FindsBlock PairMade c = (c.is_short ≡ true) × (c.has_block ≡ false) × (has_value_for c.call c ≡ true)
  FindsBlock PairGivenUp c = c.has_block ≡ true
  FindsBlock (Stored n s) c = c.has_block ≡ true
  FindsBlock _ c = Unit {0}

  -- so it is for each of these effects of the call of this name
  abbrev pub FindBlocks : List ℕ → ℕ → List Effect → Moment K V → Type 0
  FindBlocks own map effects m = AtEachEffect (λ v f. ByCall (FindsBlock f) (acting (Some own) v)) (Some own) (Some map) effects m

-- The promises: nobody has such a block as a run begins,
abbrev pub MadeBegins : Type 0 → Type 0 → Type 0
MadeBegins K V = (roots : ℕ) (name : ℕ → List ℕ) → RefinesMade {K = K} {V = V} name start nothing_known (at_first roots)

module _ (K V : Type 0) (same : K → K → Bool) (hash : ℕ → K → ℕ) where
  -- The effects of a step of a call find the call's block as they must, it is so after the step, whoever takes it, and a call that has ended by it has none.
  abbrev pub CallsPreserveMade : Type 0
  CallsPreserveMade =
      (name : ℕ → List ℕ) (m : Moment K V) (known : Known) (s : Scene K V) (old new : Held K V) → IsAt same hash old s → RefinesWhole same name m known s → RefinesMade name m known s
      → (map i : ℕ) (u : UnderWay K V K) (here : s.calls map i ≡ Some u) (said : Progress (Node K V)) (leads : StepLeads same hash i said s old new)
      → (let to = leads map u here in
      let effects = effects_of (acts.Call i map) known new.changed in
      let v = with_effects (Some (name i)) (Some map) effects m in
      FindBlocks (name i) map effects m
      × RefinesMade name v (known_after (acts.Call i map) new.changed known) (scene_after same s old new map i to.0 u to.1 said to.4)
      × (to.4.next ≡ None → (c : CallThere K V) → call_of (name i) v ≡ Some c → c.has_block ≡ false))

module _ (K V : Type 0) where
  -- So it is where a call begins by a name that no call under way has,
  abbrev pub CallsBeginMade : Type 0
  CallsBeginMade =
      (name : ℕ → List ℕ) (m : Moment K V) (known : Known) (s : Scene K V) → RefinesMade name m known s
      → (map i : ℕ) (u : UnderWay K V K) (call : Call K V) (guard : List ℕ) → NoneNamed name (name i) s → OwnsSo (machine_of u)
      → RefinesMade name (with_call (name i) guard call (Some map) m) known (scene_with map i u s)

  -- as each call on one key begins,
  abbrev pub CallsBeginOwning : Type 0
  CallsBeginOwning =
      (same : K → K → Bool) (hash : K → ℕ) (setting : Setting) (slot : ℕ → ℕ) (i : ℕ) → AreLawful same hash
      → (keys : K → Bool) (given : Given K V) (call : KeyCall K V K) → IsBegun V same hash same setting slot i keys given call → Owns call

  -- where one that asks goes on by what it is told,
  abbrev pub CallsTakeMade : Type 0
  CallsTakeMade =
      (same : K → K → Bool) (name : ℕ → List ℕ) (m : Moment K V) (known : Known) (s : Scene K V) → RefinesWhole same name m known s → RefinesMade name m known s
      → (map i : ℕ) (u : UnderWay K V K) → s.calls map i ≡ Some u → (reply : MachineReply V) (next : UnderWay K V K) → machine_of next ≡ (machine_replied (machine_of u) reply).0
      → (is_told : Reply V) → RefinesMade name (told (name i) is_told m) known (scene_with map i next s)

  -- and where one comes to an outcome: where that is its end, no call under way has its name any more.
  abbrev pub CallsComeToMade : Type 0
  CallsComeToMade =
      (same : K → K → Bool) (name : ℕ → List ℕ) (m : Moment K V) (known : Known) (s : Scene K V) → RefinesWhole same name m known s → RefinesMade name m known s
      → (own : List ℕ) (outcome : Outcome V) (steps : ℕ) → (ends_call outcome ≡ true → NoneNamed name own s) → RefinesMade name (come_to own outcome steps m) known s
