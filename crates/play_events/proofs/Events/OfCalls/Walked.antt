-- An event by which a walk that is ready was asked for its next pair: it keeps its promises, and the run goes on with it.
use Rattle.std.specs.Prelude.{◌≡◌, ℕ, Bool, true, is_some, MatchBool, List, [], ◌∷◌, ◌++◌, position, slice_get, Option, Some, ◌≤◌, false, filter, length}
use Rattle.std.proofs.Common.{refl, ap, sym, subst, ◌∙◌, inl, inr}
use Rattle.std.proofs.lemmas.List.{append-nil}
use Rattle.std.specs.List.{AllByRecursion}
use Rattle.run_schedules.specs.Given.SeizeWordsDeclared.fault.Fault.TheVariants.{Busy}
use Rattle.play_lists.specs.Given.TablesDeclared.node.Node.{Node}
use Rattle.play_stepping.specs.Given.SweepsSweepPoints.{after_next}
use Rattle.play_stepping.specs.Given.ReservesDeclared.sweep.Purpose.TheVariants.{Walks}
use Rattle.play_stepping.specs.Given.RawDeclared.machines.progress.Answer.{Answer}
use Rattle.play_stepping.specs.Given.RawDeclared.machines.progress.Progress.{Progress}
use Rattle.play_stepping.specs.Given.RawDeclared.machines.progress.Progress.TheVariants as progress
use Rattle.run_schedules.specs.declared.call.Call.{Call}
use Rattle.run_schedules.specs.declared.call.Call.TheVariants.{Clear, Retain, Walk}
use Rattle.run_schedules.specs.declared.effect.Effect.{Effect}
use Rattle.run_schedules.specs.declared.effect.Thing.{Thing}
use Rattle.run_schedules.specs.declared.event.Event.{Event}
use Rattle.run_schedules.specs.declared.event.Event.TheVariants.{Next}
use Rattle.run_schedules.specs.declared.outcome.Outcome.{Outcome}
use Rattle.run_schedules.specs.declared.outcome.Outcome.TheVariants.{Answered, Refused}
use Rattle.run_schedules.specs.Schedules.After.{moment, moments_from}
use Rattle.run_schedules.specs.Schedules.Effects.{with_effects}
use Rattle.run_schedules.specs.Schedules.Entry.{Entry}
use Rattle.run_schedules.specs.Schedules.InTurn.{HasRightOutcome, HasOutcome, IsNext}
use Rattle.run_schedules.specs.Schedules.Model.{things_in}
use Rattle.run_schedules.specs.Schedules.Moment.{UnderWay as CallThere, Moment}
use Rattle.run_schedules.specs.Schedules.Terms.{Terms}
use Rattle.run_schedules.specs.Schedules.Views.{call_of, finite_map}
use Rattle.play_stepping.specs.Given.CallersOverAll.{CallOverAll, gone_on}
use Rattle.play_stepping.specs.Given.CallersTogether.{UnderWay, OnKey, ForRoom, Counting, OverAll}
use Rattle.play_lists.specs.Given.EffectsKnown.{Known, known}
use Rattle.play_lists.specs.Given.FinishesMachines.{machine_of}
use Rattle.play_stepping.specs.Given.MomentsWhole.{RefinesWhole}
use Rattle.play_lists.specs.Given.HistoriesAnswers.{NamesPair}
use Rattle.play_lists.specs.Given.HistoriesInEvent.{HasOutcomeSo}
use Rattle.play_lists.specs.Given.HistoriesOtherMidsts.{AsksAsSaid}
use Rattle.run_schedules.specs.Runs.Same.{is_same}
use Rattle.play_lists.proofs.Given.FollowsCalling.{is_same_refl}
use Rattle.play_stepping.proofs.Given.HandsAsking.{which}
use Rattle.play_stepping.specs.Given.PurposesPurposes.{IsFor}
use Rattle.play_stepping.specs.Given.PurposesSwept.{LosesNone, SaysAsWalk}
use Rattle.play_stepping.proofs.Given.PurposesWalkWords.{walks_have_words}
use Rattle.play_lists.specs.Given.FindsParts.{FindAll}
use Rattle.play_lists.specs.Given.KeptKept.{RefinesKept}
use Rattle.run_legal.specs.CallEvents.{InCallEvent}
use Rattle.run_legal.specs.CallRuns.{OutcomeNamesShown}
use Rattle.run_legal.specs.CallSwept.{OutcomeOf}
use Rattle.run_legal.specs.Noted.{HaveCome}
use Rattle.run_legal.proofs.CallBegins.{nexts_begin}
use Rattle.run_legal.proofs.CallReads.{there_still}
use Rattle.play_stepping.specs.Given.LoggedCalling.{WalkContinues}
use Rattle.play_stepping.specs.Given.LoggedShown.{IsCounted, IsShown}
use Rattle.play_stepping.specs.Given.NamedMachines.{IsAsFar}
use Rattle.play_stepping.specs.Given.NamedSeen.{Seen, is_named, is_ready as is_ready_there, kind_of, ready_place}
use Rattle.play_stepping.specs.Given.NamedTelling.{answer_of, number_by}
use Rattle.play_stepping.specs.Given.ExecutorDeclared.caller.NamedCaller.{NamedCaller}
use Rattle.play_stepping.specs.Given.ExecutorDeclared.caller.Stands.{Stands as HowFar}
use Rattle.play_stepping.specs.Given.ExecutorDeclared.caller.Stands.TheVariants as far
use Rattle.play_stepping.specs.Given.ExecutorDeclared.kind.CallKind.TheVariants as kind
use Rattle.play_stepping.specs.Given.SchedulerPlayed.{IsPlayed, entry_of}
use Rattle.play_stepping.specs.Given.SchedulerDeclared.played.Played.{Played}
use Rattle.play_stepping.specs.Given.SchedulerDeclared.scheduler.Scheduler.{Scheduler}
use Rattle.play_stepping.proofs.Given.SchedulerHere.{Here, here_at}
use Rattle.play_stepping.proofs.Given.SchedulerStopped.{asked_ready, ready_parts, shows_by, shows_is}
use Rattle.play_stepping.specs.EventSteps.Stepping.{HasWalked}
use Rattle.play_stepping.specs.Given.Says.{outcome_of}
use Rattle.play_stepping.proofs.Given.QuietSweeps.{walks_at}
use Rattle.play_lists.specs.Given.ValuesValues.{KeepsValue}
use Rattle.play_events.specs.Events.OfCalls.{HaveValues, IsWorth, Runs, RunsOn}
use Rattle.play_stepping.specs.Given.NeedsNeeds.{AreReached}
use Rattle.play_events.proofs.Events.OfCalls.Alone.{only_its_row}
use Rattle.play_stepping.proofs.Given.QuietSaying.{number_is}
use Rattle.play_events.proofs.Events.OfCalls.Asked.{leads_next, next_at}
use Rattle.play_events.proofs.Events.OfCalls.Ends as ends
use Rattle.play_events.proofs.Events.OfCalls.Scenes.{AreNamed, its_named}
use Rattle.play_events.proofs.Events.OfCalls.Steps.{HasCome, IsStep, as_told, did, follows, has_walked_on, its_here, leads}
use Rattle.play_events.proofs.Events.OfCalls.Taken as taken
use Rattle.play_lists.proofs.Given.ScenesMay.{standing_is}
use Rattle.play_stepping.specs.Given.ExecutorReplying.{AsksThere}
use Rattle.play_lists.specs.Given.ScenesReplying.{scene_with}
use Rattle.play_lists.specs.Given.ScenesScene.{Scene}
use Rattle.play_stepping.specs.Given.ExecutorIsThere.{held_by}
use Rattle.run_schedules.specs.Schedules.Transition.{past}
use Rattle.play_stepping.proofs.Given.General.{same_some as the}

-- a word of a pair names the one of its number
named_so : (by : Known) (word : ℕ) → (n : ℕ) × NamesPair by word n → NamesPair by word (number_by by word)
named_so by word named = subst (NamesPair by word) (sym (number_is by word named.0 named.1)) named.1

-- what a walk that was asked says by its last step, in the words of an outcome
module _ {K V : Type 0} (by : Known) (value : Option V) where
  abbrev Told : Progress (Node K V) → Outcome V
  Told said = outcome_of by kind.Walks value said

  walk_asks : (said : Progress (Node K V)) → IsNext (Told said) → AsksAsSaid by said (Told said)
  walk_asks (progress.Pair word) next = tt
  walk_asks (progress.Done answer) next = tt
  walk_asks _ next = absurd next

  walk_shows : (said : Progress (Node K V)) → SaysAsWalk by said → IsNext (Told said) → OutcomeNamesShown {K = K} by said (Told said)
  walk_shows (progress.Pair word) says next = inr (word, number_by by word, refl, refl, named_so by word (says.pairs word refl))
  walk_shows (progress.Done answer) says next = inl (tt, tt)
  walk_shows _ says next = absurd next

  walk_tells : (same : K → K → Bool) (log : List (Entry K V)) (m : Moment K V) (map : ℕ) → LosesNone same (past log) m map → (said : Progress (Node K V)) → SaysAsWalk by said → IsNext (Told said)
      → OutcomeOf same log m map by said (Told said) Walk
  walk_tells same log m map loses (progress.Pair word) says next = inr (inl (number_by by word, refl, named_so by word (says.pairs word refl)))
  walk_tells same log m map loses (progress.Done answer) says next =
      let over = says.over answer refl in
      inr (inr (ap (λ (x : Answer). Answered (answer_of by kind.Walks value x)) over, ap (λ (x : Answer). progress.Done x) over, loses))
  walk_tells same log m map loses _ says next = absurd next

-- a sweep that walks is under way for a walk
for_walk : {K V : Type 0} (o : CallOverAll) (its : Call K V) → IsFor (OverAll o) its → o.sweep.purpose ≡ Walks → its ≡ Walk
for_walk o Walk is walks = refl
for_walk o Clear is walks = absurd (cc (is, walks))
for_walk o Retain is walks = absurd (cc (is, walks))
for_walk o _ is walks = absurd is

none_before : {X : Type 0} (xs ys : List X) → xs ++ ys ≡ [] → xs ≡ []
none_before [] ys is = refl
none_before (x ∷ xs) ys is = absurd (cc is)

module _ {K V S : Type 0} (same : K → K → Bool) (hash : K → ℕ) (terms : Terms) (log : List (Entry K V)) (old : Scheduler K V S) (runs : Runs same hash terms log old)
    (own : List ℕ) (place : ℕ) (found : Some place ≡ ready_place own old.calls) (played : Played V) (new : Scheduler K V S) (walked : HasWalked same hash place played old new) where
  abbrev m : Moment K V
  m = moment log

  abbrev s : Scene K V
  s = runs.stands.scene

  abbrev name : ℕ → List ℕ
  name = runs.stands.name

  abbrev event : Event K V
  event = Next own

  parts : (Some place ≡ position (is_named own) old.calls) × (is_ready_there (slice_get old.calls place) ≡ true)
  parts = ready_parts same hash terms log old own runs.stands place found

  abbrev here : Here same hash terms m old runs.stands own place
  here = here_at same hash terms m old runs.stands own place parts.0

  abbrev d : NamedCaller V
  d = here.caller

  abbrev i : ℕ
  i = d.number

  abbrev map : ℕ
  map = d.map

  abbrev c : CallThere K V
  c = here.call

  abbrev u : UnderWay K V K
  u = here.way.0

  under : s.calls map i ≡ Some u
  under = here.way.1

  c_is : call_of (name i) m ≡ Some c
  c_is = taken.c_is same hash terms log old runs event own refl refl place parts.0

  -- it is a walk that is ready
  as_ready : IsAsFar d.kind far.Ready (machine_of u)
  as_ready = subst (λ (x : HowFar). IsAsFar d.kind x (machine_of u)) (shows_is d.stands (sym (ap is_ready_there here.at) ∙ parts.1)) here.way.4.0

  sweep_is : (o : CallOverAll) × (u ≡ OverAll o)
  sweep_is = by u refl
    where
      by : (v : UnderWay K V K) → u ≡ v → (o : CallOverAll) × (u ≡ OverAll o)
      by (OverAll o) is = (o, is)
      by (OnKey x) is = absurd (subst (λ (v : UnderWay K V K). IsAsFar d.kind far.Ready (machine_of v)) is as_ready)
      by (ForRoom r) is = absurd (subst (λ (v : UnderWay K V K). IsAsFar d.kind far.Ready (machine_of v)) is as_ready)
      by (Counting sum) is = absurd (subst (λ (v : UnderWay K V K). IsAsFar d.kind far.Ready (machine_of v)) is as_ready)

  abbrev o : CallOverAll
  o = sweep_is.0

  here_o : s.calls map i ≡ Some (OverAll o)
  here_o = under ∙ ap Some sweep_is.1

  is_walk : c.call ≡ Walk
  is_walk =
      let st = standing_is same (λ map. hash) (held_by old.logged.executor) s runs.stands.shown.is_at.held map i (OverAll o) here_o in
      let ready = subst (λ (v : UnderWay K V K). IsAsFar d.kind far.Ready (machine_of v)) sweep_is.1 as_ready in
      for_walk o c.call (runs.shows.calls.purposes.is_for map i (OverAll o) here_o c c_is)
      (walks_at same s map i st.0 (runs.stands.shown.is_at.held.together.makings.standing.each map st.0 st.1) o here_o ready.1)

  -- so it was asked, and goes on to its next place
  caller_is : walked.caller ≡ d
  caller_is = the walked.caller d (sym walked.at ∙ here.at)

  asked_so : AsksThere same hash i walked.ready s old.logged.executor walked.asked.executor
  asked_so = subst (λ (x : NamedCaller V). AsksThere same hash x.number walked.ready s old.logged.executor walked.asked.executor) caller_is (walked.leads s runs.stands.shown.is_at)

  is_ready : walked.ready ≡ true
  is_ready = (asked_so.1 map u under).2 ∙ asked_ready d.kind (machine_of u) as_ready

  was_asked : AsksThere same hash i true s old.logged.executor walked.asked.executor
  was_asked = subst (λ (q : Bool). AsksThere same hash i q s old.logged.executor walked.asked.executor) is_ready asked_so

  abbrev next : UnderWay K V K
  next = OverAll (gone_on o (after_next o.sweep))

  abbrev then_at : Scene K V
  then_at = scene_with map i next s

  midst : InCallEvent same name terms log event m map i c 0 [] m (known old.logged.notes) then_at next
  midst =
      subst (λ (x : List ℕ). InCallEvent same name terms log (Next x) m map i c 0 [] m (known old.logged.notes) then_at next)
      (taken.name_is same hash terms log old runs event own refl refl place parts.0)
      (nexts_begin K V same (λ map. hash) name terms log (known old.logged.notes) s (held_by old.logged.executor) (held_by walked.asked.executor) runs.stands.shown.is_at.held runs.shows i
      (leads_next same hash i s old.logged.executor walked.asked.executor runs.stands.shown.is_at walked.given was_asked) map o here_o refl c c_is
      (λ alone j goes. only_its_row same hash terms log old runs.stands (Next (name i)) (name i) refl alone map i u under refl j goes))

  notes_are : known old.logged.notes ≡ known walked.asked.notes
  notes_are = ap known (sym walked.notes)

  -- what is counted speaks of no calls
  counted : IsCounted m walked.asked then_at
  counted =
      let goes = subst (λ (x : NamedCaller V). WalkContinues same hash name m s x.number walked.ready old.logged walked.asked) caller_is (walked.goes name m s runs.stands.shown) in
      let it = ((goes map u under).1 is_ready).2.counted in record {
        numbered = it.numbered;
        remains = record {
          lists = it.remains.lists;
          left = it.remains.left;
          told = it.remains.told;
          pairs = it.remains.pairs;
          ascending = it.remains.ascending;
          once = it.remains.once;
          below = it.remains.below;
          ending = it.remains.ending;
        };
      }

  shown : IsShown same hash name m walked.asked then_at
  shown = record {
    is_at = next_at same hash i s old.logged.executor walked.asked.executor runs.stands.shown.is_at walked.given was_asked map o here_o;
    shows = subst (λ (k : Known). RefinesWhole same name m k then_at) notes_are midst.calls.whole;
    kept = subst (λ (k : Known). RefinesKept name m k then_at) notes_are midst.calls.kept;
    counted = counted;
  }

  -- others keep their values
  others_next : (ds : List (NamedCaller V)) → AreNamed name ds → HaveValues m s ds → AllByRecursion (λ (x : NamedCaller V). is_named (name i) x ≡ false → IsWorth m then_at x) ds
  others_next [] named all = tt
  others_next (x ∷ ds) named all = (
    λ other v there. all.0 v
        (elim (which s.calls map i (Some next) x.map x.number v there) as (λ _. s.calls x.map x.number ≡ Some v) [
          | inl at ↦ absurd (let yes = ap (λ (l : List ℕ). is_same l (name i)) (sym named.0 ∙ ap name at.1) ∙ is_same_refl (name i) in cc (other, yes))
          | inr apart ↦ apart.1
        ]),
    others_next ds named.1 all.1,
  )

  abbrev Come : ℕ → List Effect → Scheduler K V S → Type 0
  Come n fs p = HasCome same hash name terms log event m map i c place n fs p

  start : Come 0 [] (record old { logged = walked.asked })
  start = record {
    caller = d;
    at = here.at;
    number = refl;
    on_map = refl;
    kind = sym (ap (λ (z : Seen). z.kind) here.as_seen);
    named = its_named same hash terms m old runs.stands;
    size = walked.given.1 ∙ runs.size;
    shards = λ n setting is. runs.shards n setting (sym (runs.stands.shown.is_at.maps n) ∙ shown.is_at.maps n ∙ is);
    reached = subst (AreReached m.slots) notes_are runs.reached;
    now = m;
    things = subst (λ (xs : List Thing). HaveCome xs m) (sym (append-nil (things_in log))) runs.come;
    scene = then_at;
    under = next;
    shown = shown;
    slot = taken.slot_is same hash terms log old runs event own refl refl place parts.0;
    c_is = c_is;
    once = subst (λ (x : List ℕ). length (filter (is_named x) old.calls) ≤ 1) (sym (taken.name_is same hash terms log old runs event own refl refl place parts.0)) (runs.stands.calls.once own);
    worth = subst (λ (x : Call K V). KeepsValue x c.replies (machine_of next) d.value) (sym is_walk) tt;
    others = others_next old.calls (its_named same hash terms m old runs.stands) runs.values;
    midst = subst (λ (k : Known). InCallEvent same name terms log event m map i c 0 [] m k then_at next) notes_are midst;
    taken = runs.taken;
    hands = tt;
  }

  come : Come walked.steps walked.mid walked.led
  come = has_walked_on same hash name terms log event m map i c place (record old { logged = walked.asked }) start walked.steps walked.mid walked.led walked.walked

  abbrev step : IsStep same hash place walked.mid played.effects.items walked.led new
  step = as_told same hash walked.last

  abbrev then_known : Known
  then_known = ends.by same hash name terms log event m map i c place c_is (known old.logged.notes) s runs.shows runs.come played walked.steps walked.mid walked.led new come walked.last

  says : SaysAsWalk then_known walked.last.said
  says =
      let there = there_still same name log m map i c walked.mid come.now (known walked.led.logged.notes) come.scene come.under come.midst.event_so in
      walks_have_words K V same (λ map. hash) name (past log) come.now (known walked.led.logged.notes) come.scene (held_by walked.led.logged.executor) (held_by new.logged.executor) come.shown.is_at.held come.midst.calls.whole
      come.midst.calls.purposes map i come.under (its_here same hash name terms log event m map i c place walked.steps walked.mid played.effects.items walked.led new come step) walked.last.said
      (leads same hash name terms log event m map i c place walked.steps walked.mid played.effects.items walked.led new come step) there.0 there.1 (there.2.call ∙ is_walk)

  module _ (right : HasRightOutcome terms log (entry_of event played)) (comes : HasOutcome terms log m (entry_of event played) event played.outcome) (idle : played.effects.items ≡ []) (plays : IsPlayed same hash terms (entry_of event played ∷ log) new) where
    -- it shows a pair, or has shown all
    is_next : IsNext played.outcome
    is_next = subst (λ (q : Bool). MatchBool q (IsNext played.outcome) (played.outcome ≡ Refused Busy)) (shows_by same hash terms log old own runs.stands (Some place) found) comes

    -- and has done nothing before its last step
    now_is : come.now ≡ m
    now_is =
        come.midst.worked
        ∙ ap (λ (fs : List Effect). with_effects (Some (name i)) (Some map) fs m)
        (none_before walked.mid (did same hash name terms log event m map i c place walked.steps walked.mid played.effects.items walked.led new come step)
        (sym (follows same hash name terms log event m map i c place walked.steps walked.mid played.effects.items walked.led new come step) ∙ idle))

    loses : LosesNone same (past log) come.now map
    loses k had = subst (λ (x : Moment K V). is_some (finite_map same map x k) ≡ true) (sym now_is) had

    outcome_is : played.outcome ≡ Told then_known walked.last.caller.value walked.last.said
    outcome_is =
        ends.outcome_so same hash name terms log event m map i c place c_is (known old.logged.notes) s runs.shows runs.come played walked.steps walked.mid walked.led new come walked.last
        ∙ ap (λ (x : Call K V). outcome_of then_known (kind_of x) walked.last.caller.value walked.last.said) is_walk

    told_next : IsNext (Told then_known walked.last.caller.value walked.last.said)
    told_next = subst (λ (x : Outcome V). IsNext x) outcome_is is_next

    tells : ends.Tells same hash name terms log event m map i c place c_is (known old.logged.notes) s runs.shows runs.come played walked.steps walked.mid walked.led new come walked.last
    tells = (
      subst (λ (x : Call K V). HasOutcomeSo then_known x c.replies walked.last.said played.outcome) (sym is_walk)
          (subst (λ (x : Outcome V). AsksAsSaid then_known walked.last.said x) (sym outcome_is) (walk_asks then_known walked.last.caller.value walked.last.said told_next)),
      subst (λ (x : Call K V). OutcomeOf same log come.now map then_known walked.last.said played.outcome x) (sym is_walk)
          (subst (λ (x : Outcome V). OutcomeOf same log come.now map then_known walked.last.said x Walk) (sym outcome_is)
          (walk_tells then_known walked.last.caller.value same log come.now map loses walked.last.said says told_next)),
      subst (λ (x : Outcome V). OutcomeNamesShown {K = K} then_known walked.last.said x) (sym outcome_is) (walk_shows then_known walked.last.caller.value walked.last.said says told_next),
    )

    pub walked_on : RunsOn same hash terms log (entry_of event played) new
    walked_on =
        ends.runs_on same hash name terms log event m map i c place c_is (known old.logged.notes) s runs.shows runs.come played walked.steps walked.mid walked.led new come walked.last tells refl
        (taken.acts_on same hash terms log old runs event own refl refl place parts.0 (λ x. refl) refl played) (inr idle) walked.steps_are tt
        (λ is. subst (λ (x : Outcome V). IsNext x) is is_next) right refl
        (subst (λ (fs : List Effect). FindAll terms (moments_from c.begun log) (name i) map fs m) (sym idle) tt)
        (taken.slot_so same hash terms log old runs event own refl refl place parts.0 (λ x. refl) refl played)
        (taken.active same hash terms log old runs event own refl refl place parts.0) plays
