-- The moment after an event of a call shows what the next event needs.
use Rattle.std.specs.Prelude.{◌≡◌, ◌<◌, ℕ, Bool, true, List, ◌∷◌, Option, Some, find}
use Rattle.std.proofs.Common.{refl, ap, sym, subst, ◌∙◌}
use Rattle.run_grows.specs.Given.RunsDeclared.effect.Effect.{Effect}
use Rattle.run_grows.specs.Given.RunsDeclared.event.Event.{Event}
use Rattle.run_grows.specs.Given.RunsDeclared.event.Event.TheVariants.{OneCall, Step, Go, Next}
use Rattle.run_grows.specs.Given.SchedulesAfter.{moment, after}
use Rattle.run_grows.specs.Given.SchedulesEffects.{with_effects, AtEachEffect, worked}
use Rattle.run_grows.specs.Given.SchedulesEntry.{caller_of, Entry, acted_on, ends_call}
use Rattle.run_grows.specs.Given.SchedulesMoment.{Moment, UnderWay as CallThere}
use Rattle.run_grows.specs.Given.EffectsEffects.{effects_of, known_after}
use Rattle.run_grows.specs.Given.EffectsKnown.{Known}
use Rattle.run_grows.specs.Given.MomentsWhole.{RefinesWhole}
use Rattle.run_grows.proofs.Given.MomentsAfter.{effects_after}
use Rattle.run_grows.proofs.Given.MomentsNewMaps.{effects_keep_pairs}
use Rattle.run_grows.proofs.Given.MomentsNumbers.{numbers_are_below, steps_keep_numbers}
use Rattle.run_grows.specs.Given.KeptKept.{RefinesKept}
use Rattle.run_grows.proofs.Given.KeptCalls.{calls_keep_kept}
use Rattle.run_grows.proofs.Given.ShardsShardCalls.{calls_keep_counters}
use Rattle.run_grows.specs.Given.HistoriesAsCalled.{RefinesAsCalled}
use Rattle.run_grows.specs.Given.HistoriesDue.{RefinesPendingAnswers}
use Rattle.run_grows.specs.Given.HistoriesInEvent.{here_of}
use Rattle.run_grows.proofs.Given.HistoriesQuestions.{events_keep_questions}
use Rattle.run_grows.proofs.Given.HistoriesAnyCall.InEvent.{events_keep_all}
use Rattle.run_grows.specs.Given.FindsLife.{StoresOne}
use Rattle.run_grows.proofs.Given.FindsQuiet.{several_store_one}
use Rattle.run_grows.proofs.Given.FindsSteps.{steps_store_one}
use Rattle.run_grows.specs.Given.PromisesReading.{LookupsStay}
use Rattle.run_sweeps.proofs.Purposes.Tableless.{events_keep_tableless}
use Rattle.run_legal.specs.CallEvents.{CallEventsEnd}
use Rattle.run_grows.specs.Given.RunsDeclared.outcome.Outcome.{Outcome}
use Rattle.run_grows.specs.Given.MomentsNumbers.{NumbersMaps, PairsAreBelow}
use Rattle.run_grows.specs.Given.FollowsCalling.{come_to, NoneNamed}
use Rattle.run_grows.specs.Given.OthersElsewhere.{HasSame}
use Rattle.run_grows.proofs.Given.HistoriesAnyCall.Over.{events_are_over, like_over, none_named}
use Rattle.run_sweeps.proofs.Purposes.Between.{events_keep_purposes}
use Rattle.run_sweeps.proofs.Purposes.Elsewhere.{purposes_stay}
use Rattle.run_grows.proofs.Given.KeptStays.{stays_kept, calls_come_to_kept}
use Rattle.run_grows.proofs.Given.ShardsShardBetween.{counters_stay, calls_come_to_counters}
use Rattle.run_grows.proofs.Given.PromisesBrief.Stays.{events_keep_readings, readings_stay}
use Rattle.run_grows.specs.Given.FindsWithin.{GoesInOrder}
use Rattle.run_grows.proofs.Given.FindsRuns.{events_keep_order}
use Rattle.run_grows.proofs.Given.FindsClosed.{over_stays_back}
use Rattle.run_grows.specs.Given.RunsSame.{is_same}
use Rattle.run_legal.proofs.LeftTold.{events_tell_left}
use Rattle.run_grows.specs.Given.EffectsDeclared.acting.Acting.TheVariants as acts
use Rattle.run_legal.specs.Carried.{NoneCounted}
use Rattle.run_grows.proofs.Sources.Steps.{calls_keep_sources}
use Rattle.run_legal.proofs.Sourced.{sources_so}
use Rattle.run_grows.proofs.Grows.Finding.Alike.{finding_fewer, stood_as}
use Rattle.run_grows.proofs.Grows.Finding.Calls.{calls_keep_finding}
use Rattle.run_grows.proofs.Grows.Finding.Nexts.{calls_come_to_nexts, next_same, nexts_alike, nexts_go_on, nexts_grow}
use Rattle.run_grows.specs.Grows.Limits.{RefinesLimits}
use Rattle.run_grows.specs.Grows.Nexts.{RefinesNexts}
use Rattle.run_grows.proofs.Grows.Limits.Chain.{limit_same}
use Rattle.run_grows.proofs.Grows.Limits.Shows.{calls_come_to_limits, limits_alike, limits_grow}
use Rattle.run_grows.proofs.Grows.Limits.Steps.{limits_go_on}
use Rattle.run_grows.specs.Grows.Tries.{RefinesTries}
use Rattle.run_grows.proofs.Grows.Tries.Shows.{calls_come_to_tries, tries_alike, tries_grow}
use Rattle.run_grows.proofs.Grows.Tries.Steps.{tries_go_on}
use Rattle.run_legal.proofs.Uncounted.{calls_leave_uncounted}
use Rattle.run_grows.specs.Given.ScenesScene.{Scene}
use Rattle.run_grows.specs.Given.ScenesStepping.{scene_after}
use Rattle.run_grows.specs.Given.SchedulesTransition.{past}
use Rattle.run_grows.proofs.Given.ChangesLogs.{events_are}
use Rattle.run_grows.proofs.Given.PromisesBrief.Meanwhile.{stands_so}

-- numbers of maps are those after its effects
module _ {K V : Type 0} (log : List (Entry K V)) (own : List ℕ) (outcome : Outcome V) (steps : ℕ) (effects : List Effect) where
  abbrev entry_as : Event K V → Entry K V
  entry_as event = record { event = event; outcome = outcome; steps = steps; effects = effects }

  abbrev Numbered : Moment K V → Type 0
  Numbered x = NumbersMaps x × PairsAreBelow x

  numbers_over : (event : Event K V) → caller_of event ≡ Some own → Numbered (worked (entry_as event) (moment log)) → Numbered (after (entry_as event) (moment log))
  numbers_over (OneCall guard map call) is numbers = (record { found = numbers.0.found; below = numbers.0.below; tables = numbers.0.tables }, numbers.1)
  numbers_over (Step caller refuse) is numbers = (record { found = numbers.0.found; below = numbers.0.below; tables = numbers.0.tables }, numbers.1)
  numbers_over (Go caller refuse) is numbers = (record { found = numbers.0.found; below = numbers.0.below; tables = numbers.0.tables }, numbers.1)
  numbers_over (Next caller) is numbers = (record { found = numbers.0.found; below = numbers.0.below; tables = numbers.0.tables }, numbers.1)
  numbers_over _ is numbers = absurd (cc is)

  uncounted_over : (event : Event K V) → caller_of event ≡ Some own → NoneCounted (worked (entry_as event) (moment log)) → NoneCounted (after (entry_as event) (moment log))
  uncounted_over (OneCall guard map call) is none = none
  uncounted_over (Step caller refuse) is none = none
  uncounted_over (Go caller refuse) is none = none
  uncounted_over (Next caller) is none = none
  uncounted_over _ is none = absurd (cc is)

pub call_events_end_so : (K V : Type 0) (same : K → K → Bool) (hash : ℕ → K → ℕ) → CallEventsEnd K V same hash
call_events_end_so K V same hash name terms log beginning map i c first before run steps done m known s u e midst old new at said leads begins acted effects_are comes ends right but still reclaims purposes reading sections follows = record {
  calls = record {
    whole = over.0;
    numbers = numbers_over log (name i) e.outcome e.steps e.effects e.event midst.of_call (subst (λ (x : Moment K V). NumbersMaps x × PairsAreBelow x) (sym worked_is) numbers);
    kept = kept_last;
    finding = finding_fewer K V same name v last then_known s2 s2 all.0.all.shown.calls kept_then.owed kept_last.owed (λ n j x is. is) (stood_as s2 s2 refl) alike.tables alike.maps alike.place alike.born
        (ap (λ (x : Moment K V). x.spot) worked_is) alike.stored (calls_keep_finding K V same hash name m known s old new at whole midst.calls.kept midst.calls.finding map i u here said leads);
    sources = sources_so K V same name v last then_known then_known s2 s2 (calls_keep_sources K V same hash name m known s old new at whole midst.calls.sources map i u here said leads) over.0.all.shown
        alike.stored alike.born (ap (λ (x : Moment K V). x.spot) worked_is) (λ n st is. is);
    nexts = nexts_alike name (past (e ∷ log)) come last s2 s2 (nexts_grow name (past log) (moment (e ∷ log)) come s2 purposes.begun come_nexts) alike.calls (next_same come last alike.maps alike.tables) (λ n j x is. is);
    tries = tries_alike name (past (e ∷ log)) come last s2 s2 (tries_grow name (past log) (moment (e ∷ log)) come s2 purposes.begun come_tries) alike.calls
        (record { stored = alike.stored; place = alike.place; born = alike.born; spot = ap (λ (x : Moment K V). x.spot) worked_is }) alike.maps alike.tables (λ n j x is. is);
    limits = limits_alike name (past (e ∷ log)) come last s2 s2 (limits_grow name (past log) (moment (e ∷ log)) come s2 purposes.begun come_limits) alike.calls (limit_same come last alike.maps alike.tables) (λ n j x is. is);
    counters = counters_stay K V name come last s2 s2
        (calls_come_to_counters K V same name v then_known s2 all.0 (calls_keep_counters K V same hash name m known s old new at whole midst.calls.kept.counts midst.calls.counters map i u here said leads) (name i) e.outcome
        e.steps none)
        alike.calls (ap (λ (x : Moment K V). x.shards) worked_is) refl refl refl (λ of j x is removed adds. (x, is, adds));
    uncounted = uncounted_over log (name i) e.outcome e.steps e.effects e.event midst.of_call (subst NoneCounted (sym worked_is)
        (calls_leave_uncounted same hash name m known s old new at whole midst.calls.kept midst.calls.counters midst.calls.uncounted map i u here said leads below));
    dues = over.1;
    as_called = over.2;
    questions = events_keep_questions K V log e run.calls.questions still;
    purposes = events_keep_purposes K V same name (past log) (moment (e ∷ log)) then_known s2 ((purposes_stay K V same hash name (past log)).alike come last then_known s2 purposes alike) (events_are (e ∷ log));
  };
  reading = events_keep_readings K V name (past log) (moment (e ∷ log)) (λ j. 0) last s2 (readings_stay K V name (past log) (λ j. 0) (λ j. 0) come last s2 s2 stay reading) (events_are (e ∷ log));
  sections = sections;
  follows = follows;
  order = events_keep_order K V terms log e goes run.order;
  tableless = events_keep_tableless K V terms log e goes run.order run.tableless;
  over = over_stays_back K V terms log e goes reclaims run.over;
  left = events_tell_left K V terms log e goes reclaims run.order.0 run.left;
}
  where
    whole : RefinesWhole same name m known s
    whole = midst.calls.whole

    here : s.calls map i ≡ Some u
    here = here_of same name (past log) beginning map i c done m known s u midst.event_so

    effects : List Effect
    effects = effects_of (acts.Call i map) known new.changed

    v : Moment K V
    v = with_effects (Some (name i)) (Some map) effects m

    then_known : Known
    then_known = known_after (acts.Call i map) new.changed known

    s2 : Scene K V
    s2 = scene_after same s old new map i (leads map u here).0 u (leads map u here).1 said (leads map u here).4

    come : Moment K V
    come = come_to (name i) e.outcome e.steps v

    last : Moment K V
    last = after e (moment log)

    all : RefinesWhole same name v then_known s2 × RefinesPendingAnswers same name (past log) v then_known s2 × RefinesAsCalled same name v then_known s2
    all = events_keep_all K V same hash name (past log) beginning map i c done m known s u midst.event_so old new at said leads

    over : RefinesWhole same name last then_known s2 × RefinesPendingAnswers same name (past (e ∷ log)) last then_known s2 × RefinesAsCalled same name last then_known s2
    over = events_are_over K V same hash name log beginning map i c done m known s u midst.event_so old new at said leads e midst.of_call begins acted effects_are comes ends

    none : ends_call e.outcome ≡ true → NoneNamed name (name i) s2
    none = none_named same hash name log m known s midst.calls.dues map i u here old new said leads e ends

    worked_so : v ≡ with_effects (Some (name i)) (Some map) e.effects beginning
    worked_so = ap (λ (x : Moment K V). with_effects (Some (name i)) (Some map) effects x) midst.worked ∙ sym (effects_after (Some (name i)) (Some map) done effects beginning)
        ∙ ap (λ (fs : List Effect). with_effects (Some (name i)) (Some map) fs beginning) (sym effects_are)

    worked_is : worked e (moment log) ≡ v
    worked_is = ap (λ (b : Moment K V). with_effects (caller_of e.event) (acted_on e.event b) e.effects b) begins
        ∙ ap (λ (o : Option ℕ). with_effects (caller_of e.event) o e.effects beginning) acted
        ∙ ap (λ (who : Option (List ℕ)). with_effects who (Some map) e.effects beginning) midst.of_call ∙ sym worked_so

    alike : HasSame come last
    alike = like_over log e (name i) v midst.of_call worked_is

    come_nexts : RefinesNexts name (past log) come s2
    come_nexts =
        calls_come_to_nexts same name (past log) v s2
        (nexts_go_on same hash name (past log) m known s old new at whole map i u here said leads midst.others midst.calls.nexts (whole.all.shown.calls map i u here).0 (whole.all.shown.calls map i u here).1)
        all.0.all.shown.calls (name i) e.outcome e.steps none

    come_limits : RefinesLimits name (past log) come s2
    come_limits =
        calls_come_to_limits same name (past log) v s2
        (limits_go_on same hash name (past log) m known s old new at whole map i u here said leads midst.calls.limits midst.calls.finding.capacities (whole.all.shown.calls map i u here).0 (whole.all.shown.calls map i u here).1 midst.other_limits)
        all.0.all.shown.calls (name i) e.outcome e.steps none

    come_tries : RefinesTries name (past log) come s2
    come_tries =
        calls_come_to_tries same name (past log) v s2
        (tries_go_on same hash name (past log) m known s old new at whole map i u here said leads midst.calls.sources midst.calls.tries (whole.all.shown.calls map i u here).0 (whole.all.shown.calls map i u here).1 midst.other_tries)
        all.0.all.shown.calls (name i) e.outcome e.steps none

    kept_then : RefinesKept name v then_known s2
    kept_then = calls_keep_kept K V same hash name m known s old new at whole midst.calls.kept map i u here said leads

    kept_last : RefinesKept name last then_known s2
    kept_last =
        stays_kept K V name come last then_known s2 s2 (calls_come_to_kept K V same name v then_known s2 all.0 kept_then (name i) e.outcome e.steps none) alike.calls alike.tables
        (ap (λ (x : Moment K V). x.deferred) worked_is) alike.place refl refl refl refl refl

    -- the map of the call was made
    below : map < m.made
    below =
        let there = (whole.all.shown.maps map (leads map u here).0 (leads map u here).2).there in numbers_are_below K V m midst.calls.numbers.0 map there.there there.is

    numbers : NumbersMaps v × PairsAreBelow v
    numbers = (
      steps_keep_numbers K V m midst.calls.numbers.0 (Some (name i)) (Some map) (acts.Call i map) known new.changed below,
      effects_keep_pairs K V m midst.calls.numbers.1 (Some (name i)) (Some map) effects (λ n is. let one : map ≡ n = cc is in subst (λ (k : ℕ). k < m.made) one below),
    )

    stay : LookupsStay name (λ j. 0) come s2 (λ j. 0) last s2
    stay = record {
      calls = λ n j x is d d_is d_looks.
          (is, d, ap (λ (calls : List (CallThere K V)). find (λ (y : CallThere K V). is_same y.caller (name j)) calls) (sym alike.calls) ∙ d_is, d_looks, refl, refl);
      maps = λ n j x is st there. stands_so s2.maps n st there;
    }

    stored : AtEachEffect (StoresOne (Some (name i))) (Some (name i)) (Some map) e.effects beginning
    stored = subst (λ (fs : List Effect). AtEachEffect (StoresOne (Some (name i))) (Some (name i)) (Some map) fs beginning) (sym effects_are)
        (several_store_one K V (name i) map done effects beginning midst.stores
        (subst (λ (x : Moment K V). AtEachEffect (StoresOne (Some (name i))) (Some (name i)) (Some map) effects x) midst.worked
        (steps_store_one K V same hash name m known s old new at whole map i u here said leads)))

    goes : GoesInOrder terms log e
    goes = record {
      right = right;
      life = but.life;
      stores = subst (λ (b : Moment K V). AtEachEffect (StoresOne (caller_of e.event)) (caller_of e.event) (acted_on e.event b) e.effects b) (sym begins)
          (subst (λ (o : Option ℕ). AtEachEffect (StoresOne (caller_of e.event)) (caller_of e.event) o e.effects beginning) (sym acted)
          (subst (λ (who : Option (List ℕ)). AtEachEffect (StoresOne who) who (Some map) e.effects beginning) (sym midst.of_call) stored));
    }
