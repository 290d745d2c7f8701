-- Where a run goes on, the moment says what calls on whole maps have come to, and what they are for.
use Rattle.std.specs.Prelude.{◌≡◌, ℕ, Bool, true, List, Option, Some, Ok, ◌⊎◌, suc}
use Rattle.run_finds.specs.Given.TablesDeclared.node.Node.{Node}
use Rattle.run_finds.specs.Given.SweepsSweepPoints.{after_next}
use Rattle.run_finds.specs.Given.ReservesDeclared.sweep.Sweeping.TheVariants as at
use Rattle.run_finds.specs.Given.RawMachine.{machine_replied}
use Rattle.run_finds.specs.Given.RawDeclared.machines.progress.Progress.{Progress}
use Rattle.run_finds.specs.Given.RawDeclared.machines.progress.Progress.TheVariants as progress
use Rattle.run_finds.specs.Given.RunsDeclared.call.Call.{Call}
use Rattle.run_finds.specs.Given.RunsDeclared.call.Reply.{Reply}
use Rattle.run_finds.specs.Given.RunsDeclared.outcome.Outcome.{Outcome}
use Rattle.run_finds.specs.Given.RunsDeclared.outcome.Outcome.TheVariants.{Shows}
use Rattle.run_finds.specs.Given.SchedulesBeginning.{with_call}
use Rattle.run_finds.specs.Given.SchedulesEffects.{with_effects}
use Rattle.run_finds.specs.Given.SchedulesEntry.{ends_call}
use Rattle.run_finds.specs.Given.SchedulesMoment.{Asking, UnderWay as CallThere, Moment}
use Rattle.run_finds.specs.Given.SchedulesViews.{call_of, is_in_map}
use Rattle.run_finds.specs.Given.CallersOverAll.{CallOverAll, gone_on}
use Rattle.run_finds.specs.Given.CallersTogether.{UnderWay, OverAll}
use Rattle.run_finds.specs.Given.EffectsEffects.{effects_of, known_after}
use Rattle.run_finds.specs.Given.EffectsKnown.{Known}
use Rattle.run_finds.specs.Given.EffectsDeclared.acting.Acting.TheVariants as acts
use Rattle.run_finds.specs.Given.FinishesMachines.{machine_of, RepliedOfKind}
use Rattle.run_finds.specs.Given.FinishesMaps.{Standing}
use Rattle.run_finds.specs.Given.FollowsCalling.{NoneNamed, told, come_to}
use Rattle.run_finds.specs.Given.FollowsCalls.{IsCalled}
use Rattle.run_finds.specs.Given.HandsAsked.{reply_to_machine}
use Rattle.run_finds.specs.Given.HistoriesAnswers.{NamesPair}
use Rattle.run_finds.specs.Given.ChangesKept.{HasJustBegun, ChangesFirst}
use Rattle.run_finds.specs.Given.MomentsWhole.{RefinesWhole}
use Rattle.run_finds.specs.Purposes.Purposes.{IsFor, RefinesPurposes}
use Rattle.run_finds.specs.Purposes.Shards.{ReadsShards}
use Rattle.run_finds.specs.Given.ScenesBeginning.{Begins}
use Rattle.run_finds.specs.Given.ScenesHeld.{Held, IsAt}
use Rattle.run_finds.specs.Given.ScenesReplying.{scene_with}
use Rattle.run_finds.specs.Given.ScenesScene.{Scene, slot_of}
use Rattle.run_finds.specs.Given.ScenesStepping.{StepLeads, scene_after}
use Rattle.run_finds.specs.Given.SchedulesTransition.{Past, further}

-- the step shows no pair of a walk
abbrev pub ShowsNone : {T : Type 0} → Progress T → Type 0
ShowsNone (progress.Pair word) = ⊥
ShowsNone _ = Unit {0}

-- the outcome tells of no pair of a walk
abbrev pub OutcomeShowsNone : {V : Type 0} → Outcome V → Type 0
OutcomeShowsNone (Shows n) = ⊥
OutcomeShowsNone _ = Unit {0}

module _ {K V : Type 0} where
  -- A pair that comes into this map then, or leaves it, was in it, or not, as at the end of the last event: none changes twice within one event.
  abbrev pub PairsChangeFirst : Past K V → Moment K V → ℕ → Moment K V → Type 0
  PairsChangeFirst log m of v =
      (n : ℕ) → (is_in_map of (v.place n) ≡ is_in_map of (m.place n)) ⊎ (is_in_map of (m.place n) ≡ is_in_map of (log.now.place n))

  -- no pair has come into this map since the last event of the log
  abbrev pub NoneCame : Past K V → Moment K V → ℕ → Type 0
  NoneCame log m of = (n : ℕ) → is_in_map of (m.place n) ≡ true → is_in_map of (log.now.place n) ≡ true

  -- what a retaining asks about, which stands at a word, is the pair that the word names
  abbrev pub AsksAboutIt : Known → UnderWay K V K → Option ℕ → Type 0
  AsksAboutIt known u question = (o : CallOverAll) → u ≡ OverAll o → (word : ℕ) → o.sweep.stands ≡ at.Asks word → (q : ℕ) × (question ≡ Some q) × NamesPair known word q

module _ (K V : Type 0) (same : K → K → Bool) (hash : ℕ → K → ℕ) where
  -- The promises: so it is after each step of a call, whoever's, which shows no pair of a walk, if no pair comes and goes, and no class changes twice, within one event by it; one that counts reads shards as they are,
  abbrev pub CallsPreservePurposes : Type 0
  CallsPreservePurposes =
      (name : ℕ → List ℕ) (log : Past K V) (m : Moment K V) (known : Known) (s : Scene K V) (old new : Held K V) → IsAt same hash old s
      → RefinesWhole same name m known s → RefinesPurposes same name log m known s
      → (of i : ℕ) (u : UnderWay K V K) (here : s.calls of i ≡ Some u) (said : Progress (Node K V)) (leads : StepLeads same hash i said s old new)
      → PairsChangeFirst log m of (with_effects (Some (name i)) (Some of) (effects_of (acts.Call i of) known new.changed) m)
      → ChangesFirst log m same of (with_effects (Some (name i)) (Some of) (effects_of (acts.Call i of) known new.changed) m) → ReadsShards log m s of u → ShowsNone said
      → (let to = leads of u here in
      RefinesPurposes same name log (with_effects (Some (name i)) (Some of) (effects_of (acts.Call i of) known new.changed) m) (known_after (acts.Call i of) new.changed known)
      (scene_after same s old new of i to.0 u to.1 said to.4))

  -- after one that shows a pair of a walk, where the event has come to that,
  abbrev pub WalksShowPurposes : Type 0
  WalksShowPurposes =
      (name : ℕ → List ℕ) (log : Past K V) (m : Moment K V) (known : Known) (s : Scene K V) (old new : Held K V) → IsAt same hash old s
      → RefinesWhole same name m known s → RefinesPurposes same name log m known s
      → (of i : ℕ) (u : UnderWay K V K) (here : s.calls of i ≡ Some u) (word : ℕ) (leads : StepLeads same hash i (progress.Pair word) s old new)
      → PairsChangeFirst log m of (with_effects (Some (name i)) (Some of) (effects_of (acts.Call i of) known new.changed) m)
      → ChangesFirst log m same of (with_effects (Some (name i)) (Some of) (effects_of (acts.Call i of) known new.changed) m)
      → (q steps : ℕ) → NamesPair (known_after (acts.Call i of) new.changed known) word q
      → (let to = leads of u here in
      RefinesPurposes same name log (come_to (name i) (Shows q) steps (with_effects (Some (name i)) (Some of) (effects_of (acts.Call i of) known new.changed) m))
      (known_after (acts.Call i of) new.changed known) (scene_after same s old new of i to.0 u to.1 (progress.Pair word) to.4))

  -- where a call begins, by a name that no call under way has, as the next event begins,
  abbrev pub CallsBeginPurposes : Type 0
  CallsBeginPurposes =
      (name : ℕ → List ℕ) (log : Past K V) (m : Moment K V) (known : Known) (s : Scene K V) (e : Held K V) → IsAt same hash e s → RefinesPurposes same name log m known s
      → (of i : ℕ) (u : UnderWay K V K) (call : Call K V) (guard : List ℕ) (standing : Standing K) → s.maps of ≡ Some standing → Begins same standing i u
      → NoneNamed name (name i) s → IsCalled same u call → IsFor u call → m.events ≡ log.entries → m.maps ≡ log.now.maps
      → RefinesPurposes same name log (with_call (name i) guard call (Some of) m) known (scene_with of i u s)

  -- where one that asks takes what it is told about that,
  abbrev pub CallsTakePurposes : Type 0
  CallsTakePurposes =
      (name : ℕ → List ℕ) (log : Past K V) (m : Moment K V) (known : Known) (s : Scene K V) (e : Held K V) → IsAt same hash e s
      → RefinesWhole same name m known s → RefinesPurposes same name log m known s
      → (of i : ℕ) (u : UnderWay K V K) → s.calls of i ≡ Some u → (c : CallThere K V) → call_of (name i) m ≡ Some c → (question : Option ℕ) → c.stands ≡ Asking question
      → AsksAboutIt known u question
      → (standing : Standing K) → s.maps of ≡ Some standing → (is_told : Reply V) (next : UnderWay K V K)
      → (machine_replied (machine_of u) (reply_to_machine is_told)).1 ≡ Ok tt → RepliedOfKind V same same e.batch_size e.roots slot_of standing i u (reply_to_machine is_told) next
      → RefinesPurposes same name log (told (name i) is_told m) known (scene_with of i next s)

module _ (K V : Type 0) (same : K → K → Bool) where
  -- where a walk that is ready is asked for its next pair,
  abbrev pub WalksPreservePurposes : Type 0
  WalksPreservePurposes =
      (name : ℕ → List ℕ) (log : Past K V) (m : Moment K V) (known : Known) (s : Scene K V) → RefinesPurposes same name log m known s
      → (of i : ℕ) (o : CallOverAll) → s.calls of i ≡ Some (OverAll o) → o.sweep.stands ≡ at.Ready
      → RefinesPurposes same name log m known (scene_with of i (OverAll (gone_on o (after_next o.sweep))) s)

  -- where one comes to an outcome that tells of no pair,
  abbrev pub CallsComeToPurposes : Type 0
  CallsComeToPurposes =
      (name : ℕ → List ℕ) (log : Past K V) (m : Moment K V) (known : Known) (s : Scene K V) → RefinesPurposes same name log m known s
      → (own : List ℕ) (outcome : Outcome V) (steps : ℕ) → OutcomeShowsNone outcome → (ends_call outcome ≡ true → NoneNamed name own s)
      → RefinesPurposes same name log (come_to own outcome steps m) known s

  -- and where an event is over, and its moment is one of the log.
  abbrev pub EventsPreservePurposes : Type 0
  EventsPreservePurposes =
      (name : ℕ → List ℕ) (log : Past K V) (m : Moment K V) (known : Known) (s : Scene K V) → RefinesPurposes same name log m known s → m.events ≡ suc log.entries
      → RefinesPurposes same name (further m log) m known s

-- The first step of an event changes no pair twice.
abbrev pub FirstStepsChangePairsFirst : Type 0 → Type 0 → Type 0
FirstStepsChangePairsFirst K V = (log : Past K V) (m v : Moment K V) (of : ℕ) → HasJustBegun log m → PairsChangeFirst log m of v
