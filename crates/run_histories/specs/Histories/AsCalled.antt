-- Calls on no key at a moment of a run: a sweep is for what was called, was told what the moment says, and stands where it asks, if it asks then.
use Rattle.std.specs.Prelude.{◌≡◌, ℕ, ◌<◌, Bool, true, List, Option, Some, None, Ok}
use Rattle.run_places.specs.Given.TablesDeclared.node.Node.{Node}
use Rattle.run_places.specs.Given.RunsSame.{is_same}
use Rattle.run_places.specs.Given.ReservesDeclared.sweep.Purpose.{Purpose}
use Rattle.run_places.specs.Given.ReservesDeclared.sweep.Purpose.TheVariants.{Walks, Clears, Retains}
use Rattle.run_places.specs.Given.ReservesDeclared.sweep.Sweeping.{Sweeping}
use Rattle.run_places.specs.Given.ReservesDeclared.sweep.Sweeping.TheVariants as at
use Rattle.run_places.specs.Given.RawMachine.{machine_replied}
use Rattle.run_places.specs.Given.RawDeclared.machines.progress.Progress.{Progress}
use Rattle.run_places.specs.Given.RunsDeclared.call.Call.{Call}
use Rattle.run_places.specs.Given.RunsDeclared.call.Call.TheVariants.{Clear, Retain, Walk}
use Rattle.run_places.specs.Given.RunsDeclared.call.Reply.{Reply}
use Rattle.run_places.specs.Given.RunsDeclared.call.Reply.TheVariants.{Decides}
use Rattle.run_places.specs.Given.RunsDeclared.outcome.Outcome.{Outcome}
use Rattle.run_places.specs.Given.RunsDeclared.outcome.Outcome.TheVariants.{Asks}
use Rattle.run_places.specs.Given.SchedulesBeginning.{with_call}
use Rattle.run_places.specs.Given.SchedulesEffects.{with_effects}
use Rattle.run_places.specs.Given.SchedulesEntry.{ends_call}
use Rattle.run_places.specs.Given.SchedulesMoment.{Asking, UnderWay as CallThere, Moment}
use Rattle.run_places.specs.Given.SchedulesViews.{call_of, reply_to}
use Rattle.run_places.specs.Given.CallersOverAll.{Verdict, CallOverAll}
use Rattle.run_places.specs.Given.CallersTogether.{UnderWay, OnKey, OverAll}
use Rattle.run_places.specs.Given.EffectsEffects.{effects_of, known_after}
use Rattle.run_places.specs.Given.EffectsKnown.{Known}
use Rattle.run_places.specs.Given.EffectsDeclared.acting.Acting.TheVariants as acts
use Rattle.run_places.specs.Given.FinishesMachines.{machine_of, RepliedOfKind}
use Rattle.run_places.specs.Given.FinishesMaps.{Standing}
use Rattle.run_places.specs.Given.FollowsCalling.{NoneNamed, told, come_to}
use Rattle.run_places.specs.Given.FollowsCalls.{IsCalled}
use Rattle.run_places.specs.Given.FollowsShows.{Refines}
use Rattle.run_places.specs.Hands.Asked.{reply_to_machine}
use Rattle.run_places.specs.Moments.Whole.{RefinesWhole}
use Rattle.run_histories.specs.Histories.Asking.{IsQuestionAsked}
use Rattle.run_places.specs.Given.ScenesHeld.{Held, IsAt}
use Rattle.run_places.specs.Given.ScenesReplying.{scene_with}
use Rattle.run_places.specs.Given.ScenesScene.{Scene, slot_of}
use Rattle.run_places.specs.Given.ScenesStepping.{StepLeads, scene_after}

-- what a sweep is for that was called so
abbrev pub purpose_of : {K V : Type 0} → Call K V → Option Purpose
purpose_of Walk = Some Walks
purpose_of Clear = Some Clears
purpose_of Retain = Some Retains
purpose_of _ = None

-- a sweep that stands there asks this: about the pair of its word
abbrev pub SweepAsks : Known → Sweeping → Option ℕ → Type 0
SweepAsks known stands question = (word : ℕ) × (stands ≡ at.Asks word) × IsQuestionAsked known (Some word) question

-- Of a map, whose pairs have these numbers of the run, and of which so many were stored.
module _ (number : ℕ → ℕ) (stored : ℕ) where
  -- what a sweep was told last, if anything, is the last reply about that pair
  abbrev pub IsLastReply : {V : Type 0} → Option Verdict → List (Option ℕ × Reply V) → Type 0
  IsLastReply None replies = Unit {0}
  IsLastReply (Some v) replies = (v.about < stored) × (reply_to (Some (number v.about)) replies ≡ Some (Decides v.keeps))

module _ {K V : Type 0} (number : ℕ → ℕ) (stored : ℕ) (known : Known) where
  -- A sweep is for what was called, and was told what the moment says; and where it asks at that moment, it does so there.
  pub record IsSweptAs (o : CallOverAll) (c : CallThere K V) : Type 0 where
    pub purpose : purpose_of c.call ≡ Some o.sweep.purpose
    pub last : IsLastReply number stored o.told c.replies
    pub asks : (question : Option ℕ) → c.stands ≡ Asking question → SweepAsks known o.sweep.stands question

  -- a reservation and a counting ask nothing
  abbrev pub IsAsCalled : UnderWay K V K → CallThere K V → Type 0
  IsAsCalled (OnKey u) c = Unit {0}
  IsAsCalled (OverAll o) c = IsSweptAs o c
  IsAsCalled _ c = (question : Option ℕ) → c.stands ≡ Asking question → ⊥

-- so it is of each call under way
pub record RefinesAsCalled {K V : Type 0} (same : K → K → Bool) (name : ℕ → List ℕ) (m : Moment K V) (known : Known) (s : Scene K V) : Type 0 where
  pub shown : Refines same name m known s
  pub each : (map i : ℕ) (u : UnderWay K V K) → s.calls map i ≡ Some u → (standing : Standing K) → s.maps map ≡ Some standing
      → (c : CallThere K V) → call_of (name i) m ≡ Some c → IsAsCalled (shown.number map) standing.chart.stored known u c

module _ {K V : Type 0} where
  -- a sweep begins for what was called, and was told nothing
  abbrev pub IsBegunAs : UnderWay K V K → Call K V → Type 0
  IsBegunAs (OverAll o) call = (purpose_of call ≡ Some o.sweep.purpose) × (o.told ≡ None)
  IsBegunAs _ call = Unit {0}

  -- a sweep asks just what it is said to ask, and a reservation and a counting ask nothing
  abbrev pub AsksAsCalled : Known → UnderWay K V K → Outcome V → Type 0
  AsksAsCalled known (OnKey u) outcome = Unit {0}
  AsksAsCalled known (OverAll o) (Asks question) = SweepAsks known o.sweep.stands question
  AsksAsCalled known _ (Asks question) = ⊥
  AsksAsCalled known _ _ = Unit {0}

module _ (K V : Type 0) (same : K → K → Bool) where
  -- The promises: so it is where a call begins by a name that no call under way has,
  abbrev pub CallsBeginAsCalled : Type 0
  CallsBeginAsCalled =
      (name : ℕ → List ℕ) (m : Moment K V) (known : Known) (s : Scene K V) → RefinesAsCalled same name m known s
      → (map i : ℕ) (u : UnderWay K V K) (call : Call K V) (guard : List ℕ) → NoneNamed name (name i) s → IsCalled same u call → IsBegunAs u call
      → RefinesAsCalled same name (with_call (name i) guard call (Some map) m) known (scene_with map i u s)

  -- where one comes to an outcome: where it asks, it asks just that, and where it has ended, no call under way has its name any more;
  abbrev pub CallsComeToAsCalled : Type 0
  CallsComeToAsCalled =
      (name : ℕ → List ℕ) (m : Moment K V) (known : Known) (s : Scene K V) → RefinesAsCalled same name m known s
      → (own : List ℕ) (outcome : Outcome V) (steps : ℕ) → (ends_call outcome ≡ true → NoneNamed name own s)
      → ((map i : ℕ) (u : UnderWay K V K) → s.calls map i ≡ Some u → is_same (name i) own ≡ true → AsksAsCalled known u outcome)
      → RefinesAsCalled same name (come_to own outcome steps m) known s

module _ (K V : Type 0) (same : K → K → Bool) (hash : ℕ → K → ℕ) where
  -- after each step of a call, whoever's,
  abbrev pub CallsPreserveAsCalled : Type 0
  CallsPreserveAsCalled =
      (name : ℕ → List ℕ) (m : Moment K V) (known : Known) (s : Scene K V) (old new : Held K V) → IsAt same hash old s → RefinesWhole same name m known s
      → RefinesAsCalled same name m known s
      → (map i : ℕ) (u : UnderWay K V K) (here : s.calls map i ≡ Some u) (said : Progress (Node K V)) (leads : StepLeads same hash i said s old new)
      → (let to = leads map u here in
      RefinesAsCalled same name (with_effects (Some (name i)) (Some map) (effects_of (acts.Call i map) known new.changed) m)
      (known_after (acts.Call i map) new.changed known)
      (scene_after same s old new map i to.0 u to.1 said to.4))

  -- and where one that asks takes what it is told.
  abbrev pub CallsTakeAsCalled : Type 0
  CallsTakeAsCalled =
      (name : ℕ → List ℕ) (m : Moment K V) (known : Known) (s : Scene K V) (e : Held K V) → IsAt same hash e s → RefinesWhole same name m known s
      → RefinesAsCalled same name m known s
      → (map i : ℕ) (u : UnderWay K V K) → s.calls map i ≡ Some u → (c : CallThere K V) → call_of (name i) m ≡ Some c → (question : Option ℕ)
      → c.stands ≡ Asking question
      → (standing : Standing K) → s.maps map ≡ Some standing → (is_told : Reply V) (next : UnderWay K V K)
      → machine_of next ≡ (machine_replied (machine_of u) (reply_to_machine is_told)).0 → (machine_replied (machine_of u) (reply_to_machine is_told)).1 ≡ Ok tt
      → RepliedOfKind V same same e.batch_size e.roots slot_of standing i u (reply_to_machine is_told) next
      → RefinesAsCalled same name (told (name i) is_told m) known (scene_with map i next s)
