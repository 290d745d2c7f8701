-- Calls whose rows are under way: the moment says of each that it hands something over.
use Rattle.std.specs.Prelude.{◌≡◌, ℕ, Bool, true, List, Some}
use Rattle.run_places.specs.Given.SeizeWorld.{Rests}
use Rattle.run_places.specs.Given.TablesDeclared.node.Node.{Node}
use Rattle.run_places.specs.Given.RawDeclared.machines.progress.Progress.{Progress}
use Rattle.run_places.specs.Given.RunsDeclared.call.Call.{Call}
use Rattle.run_places.specs.Given.RunsDeclared.call.Reply.{Reply}
use Rattle.run_places.specs.Given.RunsDeclared.outcome.Outcome.{Outcome}
use Rattle.run_places.specs.Given.SchedulesBeginning.{with_call}
use Rattle.run_places.specs.Given.SchedulesEffects.{with_effects}
use Rattle.run_places.specs.Given.SchedulesEntry.{ends_call}
use Rattle.run_places.specs.Given.SchedulesInUse.{is_handing}
use Rattle.run_places.specs.Given.SchedulesMoment.{UnderWay as CallThere, Moment, start}
use Rattle.run_places.specs.Given.SchedulesViews.{call_of}
use Rattle.owner_facts.specs.Given.CallersTogether.{UnderWay}
use Rattle.run_places.specs.Given.EffectsEffects.{effects_of}
use Rattle.run_places.specs.Given.EffectsKnown.{Known}
use Rattle.run_places.specs.Given.EffectsDeclared.acting.Acting.TheVariants.{Call as OfCall}
use Rattle.owner_facts.specs.Given.FinishesMaps.{with_call as with_in}
use Rattle.run_places.specs.Given.FollowsCalling.{NoneNamed, told, come_to}
use Rattle.run_places.specs.Given.FollowsCalls.{RefinesCalls}
use Rattle.run_places.specs.Moments.Whole.{RefinesWhole}
use Rattle.run_places.specs.Given.OthersWalks.{given_up}
use Rattle.run_debts.specs.Hand.{RefinesObligations}
use Rattle.run_places.specs.Given.ScenesHeld.{Held, IsAt}
use Rattle.run_places.specs.Given.ScenesReplying.{AskLeads, StopLeads, scene_with, unless_stopped}
use Rattle.run_places.specs.Given.ScenesScene.{Scene, at_first}
use Rattle.run_places.specs.Given.ScenesStepping.{StepLeads, scene_after}

-- each call whose row is under way hands something over
abbrev pub RowsAreHandingOver : {K V : Type 0} → (ℕ → List ℕ) → Moment K V → Scene K V → Type 0
RowsAreHandingOver {K} {V} name m s =
    (map i : ℕ) (u : UnderWay K V K) → s.calls map i ≡ Some u → (s.world.row i ≡ Rests → ⊥) → (c : CallThere K V) → call_of (name i) m ≡ Some c → is_handing c ≡ true

module _ (K V : Type 0) (same : K → K → Bool) (hash : ℕ → K → ℕ) where
  -- The promise: so it is after each step of a call, whoever's, where calls owed what they had in hand.
  abbrev pub CallsPreserveHanding : Type 0
  CallsPreserveHanding =
      (name : ℕ → List ℕ) (m : Moment K V) (known : Known) (s : Scene K V) (old new : Held K V) → IsAt same hash old s → RefinesWhole same name m known s → RefinesObligations name m known s → RowsAreHandingOver name m s
      → (map i : ℕ) (u : UnderWay K V K) (here : s.calls map i ≡ Some u) (said : Progress (Node K V)) (leads : StepLeads same hash i said s old new)
      → (let to = leads map u here in
      RowsAreHandingOver name (with_effects (Some (name i)) (Some map) (effects_of (OfCall i map) known new.changed) m) (scene_after same s old new map i to.0 u to.1 said to.4))

  -- What is no call leaves it as it was, where calls owe what they have in hand: a row on a slot, the making of a map, and the end of one.
  abbrev pub OthersLeaveHanding : Type 0
  OthersLeaveHanding =
      (name : ℕ → List ℕ) (m v : Moment K V) (known : Known) (s t : Scene K V) (old new : Held K V) → IsAt same hash old s → IsAt same hash new t → RefinesObligations name m known s → RowsAreHandingOver name m s
      → v.calls ≡ m.calls → t.calls ≡ s.calls → RowsAreHandingOver name v t

  -- So does a walk that goes on to its next pair,
  abbrev pub WalksPreserveHanding : Type 0
  WalksPreserveHanding =
      (name : ℕ → List ℕ) (m : Moment K V) (s : Scene K V) (old new : Held K V) → RowsAreHandingOver name m s
      → (i : ℕ) (leads : AskLeads same hash i true s old new) (map : ℕ) (u : UnderWay K V K) (here : s.calls map i ≡ Some u) → RowsAreHandingOver name m (scene_with map i (leads map u here).0 s)

  -- or is given up: no call that is under way then has its name.
  abbrev pub WalksStopHanding : Type 0
  WalksStopHanding =
      (name : ℕ → List ℕ) (m : Moment K V) (s : Scene K V) (old new : Held K V) → RefinesCalls same name m s.calls → RowsAreHandingOver name m s
      → (i : ℕ) (stopped : Bool) → StopLeads same hash i stopped s old new → (map : ℕ) (u : UnderWay K V K) → s.calls map i ≡ Some u
      → (let after = record s { calls = with_in s.calls map i (unless_stopped stopped u) } in
      (stopped ≡ true → NoneNamed name (name i) after) → RowsAreHandingOver name (given_up (name i) stopped m) after)

module _ (K V : Type 0) where
  -- The promises: so it is before all events,
  abbrev pub HandingBegins : Type 0
  HandingBegins = (roots : ℕ) (name : ℕ → List ℕ) → RowsAreHandingOver {K = K} {V = V} name start (at_first roots)

  -- where a call begins by a name that no call under way has, and its row rests,
  abbrev pub CallsBeginHanding : Type 0
  CallsBeginHanding =
      (name : ℕ → List ℕ) (m : Moment K V) (s : Scene K V) → RowsAreHandingOver name m s
      → (map i : ℕ) (u : UnderWay K V K) (call : Call K V) (guard : List ℕ) → NoneNamed name (name i) s → s.world.row i ≡ Rests
      → RowsAreHandingOver name (with_call (name i) guard call (Some map) m) (scene_with map i u s)

  -- where one that asks goes on by what it is told,
  abbrev pub CallsTakeHanding : Type 0
  CallsTakeHanding =
      (same : K → K → Bool) (name : ℕ → List ℕ) (m : Moment K V) (s : Scene K V) → RefinesCalls same name m s.calls → RowsAreHandingOver name m s
      → (map i : ℕ) (u : UnderWay K V K) → s.calls map i ≡ Some u → (next : UnderWay K V K) (is_told : Reply V) → RowsAreHandingOver name (told (name i) is_told m) (scene_with map i next s)

  -- and where one comes to an outcome: where that is its end, no call under way has its name any more.
  abbrev pub CallsComeToHanding : Type 0
  CallsComeToHanding =
      (same : K → K → Bool) (name : ℕ → List ℕ) (m : Moment K V) (s : Scene K V) → RefinesCalls same name m s.calls → RowsAreHandingOver name m s
      → (own : List ℕ) (outcome : Outcome V) (steps : ℕ) → (ends_call outcome ≡ true → NoneNamed name own s) → RowsAreHandingOver name (come_to own outcome steps m) s
