-- For what a call on one key makes a table: it has what it stores where its key is missing, and so it may ask for each block that it makes.
use Rattle.std.specs.Prelude.{◌≡◌, ◌≢◌, ℕ, suc, ◌<◌, ◌≤◌, Bool, false, List, ◌∷◌, Option, Some, ◌⊎◌}
use Rattle.run_blocks.specs.Given.TablesChunks.{is_incremental}
use Rattle.run_blocks.specs.Given.TablesDeclared.node.Node.{Node}
use Rattle.run_executor.specs.Given.RawMachine.{machine_asked, machine_replied}
use Rattle.run_executor.specs.Given.RawDeclared.machines.answer.Missing.TheVariants as missing
use Rattle.run_executor.specs.Given.RawDeclared.machines.asking.Asking.TheVariants as asking
use Rattle.run_executor.specs.Given.RawDeclared.machines.asking.MachineReply.{MachineReply}
use Rattle.run_executor.specs.Given.RawDeclared.machines.asking.Told.TheVariants as tells
use Rattle.run_executor.specs.Given.RawDeclared.machines.call.Calling.{Calling}
use Rattle.run_executor.specs.Given.RawDeclared.machines.call.Calling.TheVariants as at
use Rattle.run_executor.specs.Given.RawDeclared.machines.call.KeyCall.{KeyCall}
use Rattle.run_executor.specs.Given.RawDeclared.machines.progress.Progress.{Progress}
use Rattle.run_executor.specs.Given.RunsDeclared.effect.Effect.{Effect}
use Rattle.run_executor.specs.Given.RunsDeclared.effect.Effect.TheVariants.{Asked}
use Rattle.run_executor.specs.Given.RunsDeclared.effect.Growth.TheVariants.{ABlock}
use Rattle.run_executor.specs.Given.SchedulesEffects.{with_effects, AtEachEffect}
use Rattle.run_executor.specs.Given.SchedulesEntry.{ByCall, acting}
use Rattle.run_executor.specs.Given.SchedulesGrowing.{MayGrow}
use Rattle.run_executor.specs.Given.SchedulesMoment.{UnderWay as CallThere, Moment}
use Rattle.run_executor.specs.Given.SchedulesTerms.{Terms}
use Rattle.run_executor.specs.Given.PointsFactsCalls.{IsCopying}
use Rattle.run_executor.specs.Given.CallersTogether.{CallOnKey, UnderWay, OnKey}
use Rattle.run_executor.specs.Given.EffectsEffects.{effects_of}
use Rattle.run_executor.specs.Given.EffectsKnown.{Known}
use Rattle.run_executor.specs.Given.EffectsDeclared.acting.Acting.TheVariants as acts
use Rattle.run_executor.specs.Given.FinishesMachines.{machine_of}
use Rattle.run_executor.specs.Given.FinishesMaps.{Standing}
use Rattle.run_executor.specs.Given.MomentsWhole.{RefinesWhole}
use Rattle.run_finds.specs.Shaping.{IsFirstMaking, IsNextMaking}
use Rattle.run_finds.specs.Within.{many_of}
use Rattle.run_executor.specs.Given.ScenesBeginning.{Begins}
use Rattle.run_executor.specs.Given.ScenesHeld.{Held, IsAt}
use Rattle.run_executor.specs.Given.ScenesReplying.{scene_with}
use Rattle.run_executor.specs.Given.ScenesScene.{Scene}
use Rattle.run_executor.specs.Given.ScenesStepping.{StepLeads, scene_after}

-- It has what it stores there: it began with that; or it asks what to do there, and was told what to store.
abbrev pub HasForNone : {K V Q : Type 0} → KeyCall K V Q → Type 0
HasForNone p = (p.missing ≡ missing.Puts) ⊎ ((p.missing ≡ missing.Asks) × (p.replies.absent ≢ tells.Nothing))

-- It has that where it makes a table, which is the first, or follows the one that it has tried; and where it looks for a next one in blocking mode, unless that which it has
-- tried is not the last of so many.
abbrev pub GrowsAt : {K V Q : Type 0} → ℕ → KeyCall K V Q → Calling → Type 0
GrowsAt many p (at.Firsts making) = HasForNone p × IsFirstMaking making
GrowsAt many p (at.Allocs making) = HasForNone p × IsNextMaking p.setting p.trial.table p.trial.met making
GrowsAt many p at.Nexts = is_incremental p.setting.mode ≡ false → HasForNone p ⊎ (suc p.trial.table.turn < many)
GrowsAt many p (at.Asks (asking.Absent gap)) = p.missing ≡ missing.Asks
GrowsAt many p _ = Unit {0}

-- so it is of each call on one key that is under way, and of the tables that its map has had
abbrev pub RefinesGrowing : {K V : Type 0} → Moment K V → Scene K V → Type 0
RefinesGrowing {K} {V} m s = (map i : ℕ) (u : CallOnKey K V K) → s.calls map i ≡ Some (OnKey u) → GrowsAt (many_of map m) u.call u.call.stands

-- each call on one key that is under way then was so before, as the same machine
abbrev pub PreservesKeyCalls : {K V : Type 0} → Scene K V → Scene K V → Type 0
PreservesKeyCalls {K} {V} s t = (map i : ℕ) (u : CallOnKey K V K) → t.calls map i ≡ Some (OnKey u) → (x : CallOnKey K V K) × (s.calls map i ≡ Some (OnKey x)) × (x.call ≡ u.call)

module _ {K V : Type 0} (terms : Terms) where
  -- what is left of an effect that asks for a block: it may ask
  abbrev pub FindsAsked : List (Moment K V) → Moment K V → Effect → CallThere K V → Type 0
  FindsAsked moments m (Asked ABlock) c = MayGrow terms c.call c (m ∷ moments)
  FindsAsked moments m _ c = Unit {0}

  abbrev pub FindAsked : List (Moment K V) → List ℕ → ℕ → List Effect → Moment K V → Type 0
  FindAsked moments own map effects m = AtEachEffect (λ v f. ByCall (FindsAsked moments v f) (acting (Some own) v)) (Some own) (Some map) effects m

module _ (K V : Type 0) where
  -- The promises: so it stays as long as calls on one key are as they were, and no map has had fewer tables, as where others take steps, a call comes to an outcome, or an event is over;
  abbrev pub GrowingStays : Type 0
  GrowingStays = (m v : Moment K V) (s t : Scene K V) → RefinesGrowing m s → ((map : ℕ) → many_of map m ≤ many_of map v) → PreservesKeyCalls s t → RefinesGrowing v t

  -- and whatever effects there are, a map has had no fewer tables after them;
  abbrev pub TablesHaveBeen : Type 0
  TablesHaveBeen = (caller : Option (List ℕ)) (acted : Option ℕ) (effects : List Effect) (m : Moment K V) (map : ℕ) → many_of map m ≤ many_of map (with_effects caller acted effects m)

  -- where a call begins,
  abbrev pub CallsBeginGrowing : Type 0
  CallsBeginGrowing =
      (same : K → K → Bool) (m : Moment K V) (s : Scene K V) → RefinesGrowing m s → (standing : Standing K) (map i : ℕ) (u : UnderWay K V K) → Begins same standing i u → RefinesGrowing m (scene_with map i u s)

  -- where one that asks goes on by a reply,
  abbrev pub CallsTakeGrowing : Type 0
  CallsTakeGrowing =
      (m : Moment K V) (s : Scene K V) → RefinesGrowing m s
      → (map i : ℕ) (u : UnderWay K V K) → s.calls map i ≡ Some u → (reply : MachineReply V) (next : UnderWay K V K) → machine_of next ≡ (machine_replied (machine_of u) reply).0
      → RefinesGrowing m (scene_with map i next s)

  -- and where a walk goes on to its next pair.
  abbrev pub WalksPreserveGrowing : Type 0
  WalksPreserveGrowing =
      (m : Moment K V) (s : Scene K V) → RefinesGrowing m s
      → (map i : ℕ) (u : UnderWay K V K) → s.calls map i ≡ Some u → (next : UnderWay K V K) → machine_of next ≡ (machine_asked (machine_of u)).0 → RefinesGrowing m (scene_with map i next s)

module _ (K V : Type 0) (same : K → K → Bool) (hash : ℕ → K → ℕ) where
  -- The promise, of a step of a call, whichever it is, and whether of a row or none: so it is of each call after it.
  abbrev pub CallsPreserveGrowing : Type 0
  CallsPreserveGrowing =
      (name : ℕ → List ℕ) (m : Moment K V) (known : Known) (s : Scene K V) (old new : Held K V) → IsAt same hash old s → RefinesWhole same name m known s → RefinesGrowing m s
      → (map i : ℕ) (u : UnderWay K V K) (here : s.calls map i ≡ Some u) (said : Progress (Node K V)) (leads : StepLeads same hash i said s old new)
      → (let to = leads map u here in
      RefinesGrowing (with_effects (Some (name i)) (Some map) (effects_of (acts.Call i map) known new.changed) m) (scene_after same s old new map i to.0 u to.1 said to.4))

  -- And of a call on one key: for each block for which it asks it may ask, at whatever moments, while it copies no pairs.
  abbrev pub KeyCallsMayAsk : Type 0
  KeyCallsMayAsk =
      (name : ℕ → List ℕ) (m : Moment K V) (known : Known) (s : Scene K V) (old new : Held K V) → IsAt same hash old s → RefinesWhole same name m known s → RefinesGrowing m s
      → (map i : ℕ) (u : CallOnKey K V K) (here : s.calls map i ≡ Some (OnKey u)) (said : Progress (Node K V)) (leads : StepLeads same hash i said s old new)
      → (IsCopying u.call.stands → ⊥) → (terms : Terms) (moments : List (Moment K V))
      → FindAsked terms moments (name i) map (effects_of (acts.Call i map) known new.changed) m
