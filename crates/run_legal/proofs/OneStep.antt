-- What a moment shows of calls after a step of a call or of a row, and where a call comes to an outcome, whoever tells of it.
use Rattle.std.specs.Prelude.{◌≡◌, ◌<◌, ℕ, Bool, List, Some, None}
use Rattle.std.proofs.Common.{refl, subst}
use Rattle.run_grows.specs.Given.RunsDeclared.effect.Effect.{Effect}
use Rattle.run_grows.specs.Given.SchedulesEffects.{AtEachEffect, with_effects}
use Rattle.run_grows.specs.Given.SchedulesMoment.{Moment, UnderWay as CallThere}
use Rattle.run_grows.specs.Given.SchedulesViews.{call_of}
use Rattle.run_grows.specs.Given.EffectsEffects.{effects_of, known_after}
use Rattle.run_grows.specs.Given.EffectsKnown.{Known}
use Rattle.run_grows.specs.Given.EffectsDeclared.acting.Acting.TheVariants as acts
use Rattle.run_grows.specs.Given.FollowsCalls.{IsCalled}
use Rattle.run_grows.specs.Given.MomentsWhole.{RefinesWhole}
use Rattle.run_grows.specs.Given.ScenesScene.{Scene, slot_of}
use Rattle.run_grows.specs.Given.ScenesStepping.{StepLeads, scene_after}
use Rattle.run_grows.proofs.Given.HistoriesDue.{calls_keep_due}
use Rattle.run_grows.proofs.Given.HistoriesNoKey.AsCalled.{calls_keep_as_called}
use Rattle.run_grows.proofs.Given.HistoriesQuestions.{effects_keep_questions}
use Rattle.run_grows.proofs.Given.KeptCalls.{calls_keep_kept}
use Rattle.run_grows.proofs.Given.MomentsCalls.{calls_keep_whole}
use Rattle.run_grows.proofs.Given.MomentsNewMaps.{effects_keep_pairs}
use Rattle.run_grows.proofs.Given.MomentsNumbers.{numbers_are_below, rows_keep_numbers, steps_keep_numbers}
use Rattle.run_sweeps.proofs.Purposes.Kept.{calls_keep_purposes}
use Rattle.run_grows.proofs.Given.ShardsShardCalls.{calls_keep_counters}
use Rattle.run_grows.proofs.Sources.Steps.{calls_keep_sources}
use Rattle.run_grows.proofs.Grows.Finding.Calls.{calls_keep_finding}
use Rattle.run_grows.proofs.Grows.Finding.Nexts.{nexts_go_on}
use Rattle.run_grows.proofs.Grows.Limits.Shows.{rows_begin_limits, rows_keep_limits}
use Rattle.run_grows.proofs.Grows.Limits.Steps.{limits_go_on}
use Rattle.run_grows.proofs.Grows.Tries.Steps.{tries_go_on}
use Rattle.run_legal.specs.OneStep.{RowsBegin, RowsStep}
use Rattle.run_legal.proofs.Sourced.{same_maps_aside, sources_same}
use Rattle.run_legal.proofs.Uncounted.{calls_leave_uncounted, none_counted}
use Rattle.run_grows.specs.Given.SeizeWorld.{Begin, Step}
use Rattle.run_grows.specs.Given.TablesDeclared.node.Node.{Node}
use Rattle.run_grows.specs.Given.RawDeclared.machines.progress.Progress.{Progress}
use Rattle.run_grows.specs.Given.CallersTogether.{UnderWay}
use Rattle.run_grows.specs.Given.ChangesKept.{ChangesFirst}
use Rattle.run_grows.specs.Given.MomentsOnSlots.{HadRetired}
use Rattle.run_grows.specs.Given.OthersRows.{scene_then}
use Rattle.run_sweeps.specs.Purposes.Kept.{PairsChangeFirst, ShowsNone}
use Rattle.run_grows.specs.Given.PurposesShards.{ReadsShards}
use Rattle.run_grows.specs.Given.ScenesHeld.{Held, IsAt}
use Rattle.run_grows.specs.Given.ScenesRows.{request_of}
use Rattle.run_grows.specs.Given.SpotsOnSlots.{WaitUnreclaimed}
use Rattle.run_grows.specs.Given.SchedulesTransition.{Past}
use Rattle.run_grows.specs.Grows.Limits.{OthersHadLimit}
use Rattle.run_grows.specs.Grows.Nexts.{OthersHadNext}
use Rattle.run_grows.specs.Grows.Tries.{OthersHadTried}
use Rattle.run_grows.proofs.Given.HistoriesAside.Stays.{as_called_stays, dues_stay}
use Rattle.run_grows.proofs.Given.KeptOthers.{rows_begin_kept, rows_find_kept, rows_keep_kept}
use Rattle.run_grows.proofs.Given.MomentsOnSlots.{rows_begin_whole, rows_keep_whole}
use Rattle.run_sweeps.proofs.Purposes.Elsewhere.{purposes_stay}
use Rattle.run_grows.proofs.Given.ShardsShardKept.{none_shards}
use Rattle.run_grows.proofs.Given.ShardsShardOthers.{rows_begin_counters, rows_keep_counters}
use Rattle.run_grows.proofs.Grows.Finding.Aside.{rows_aside}
use Rattle.run_grows.proofs.Grows.Finding.NextsOthers.{rows_begin_nexts, rows_keep_nexts}
use Rattle.run_grows.proofs.Grows.Finding.Others.{rows_begin_finding, rows_keep_finding}
use Rattle.run_grows.proofs.Grows.Tries.Others.{rows_begin_tries, rows_keep_tries}
use Rattle.run_legal.specs.Carried.{RefinesAllCalls}

-- A step of a call, in whose midst others are as the log says, if no pair comes and goes, and no class changes twice, since the last entry; one that counts reads shards as they are.
module _ {K V : Type 0} (same : K → K → Bool) (hash : ℕ → K → ℕ) (name : ℕ → List ℕ) (log : Past K V) (m : Moment K V) (known : Known) (s : Scene K V) (old new : Held K V) (at : IsAt same hash old s)
    (calls : RefinesAllCalls same name log m known s) (map i : ℕ) (u : UnderWay K V K) (here : s.calls map i ≡ Some u) (said : Progress (Node K V)) (leads : StepLeads same hash i said s old new) where
  abbrev effects : List Effect
  effects = effects_of (acts.Call i map) known new.changed

  abbrev v : Moment K V
  v = with_effects (Some (name i)) (Some map) effects m

  abbrev then_known : Known
  then_known = known_after (acts.Call i map) new.changed known

  -- the map of the call was made
  below : map < m.made
  below =
      let there = (calls.whole.all.shown.maps map (leads map u here).0 (leads map u here).2).there in numbers_are_below K V m calls.numbers.0 map there.there there.is

  pub calls_show_on : OthersHadNext name log i m s → OthersHadTried name log i m s → OthersHadLimit name log i m s → PairsChangeFirst log m map v → ChangesFirst log m same map v
      → ReadsShards log m s map u → ShowsNone said → RefinesAllCalls same name log v then_known (scene_after same s old new map i (leads map u here).0 u (leads map u here).1 said (leads map u here).4)
  calls_show_on others tried limit pairs classes shards none = record {
    whole = calls_keep_whole K V same hash name m known s old new at calls.whole map i u here said leads;
    numbers = (
      steps_keep_numbers K V m calls.numbers.0 (Some (name i)) (Some map) (acts.Call i map) known new.changed below,
      effects_keep_pairs K V m calls.numbers.1 (Some (name i)) (Some map) effects (λ n is. let one : map ≡ n = cc is in subst (λ (k : ℕ). k < m.made) one below),
    );
    kept = calls_keep_kept K V same hash name m known s old new at calls.whole calls.kept map i u here said leads;
    finding = calls_keep_finding K V same hash name m known s old new at calls.whole calls.kept calls.finding map i u here said leads;
    sources = calls_keep_sources K V same hash name m known s old new at calls.whole calls.sources map i u here said leads;
    nexts = nexts_go_on same hash name log m known s old new at calls.whole map i u here said leads others calls.nexts its.0 its.1;
    tries = tries_go_on same hash name log m known s old new at calls.whole map i u here said leads calls.sources calls.tries its.0 its.1 tried;
    limits = limits_go_on same hash name log m known s old new at calls.whole map i u here said leads calls.limits calls.finding.capacities its.0 its.1 limit;
    counters = calls_keep_counters K V same hash name m known s old new at calls.whole calls.kept.counts calls.counters map i u here said leads;
    uncounted = calls_leave_uncounted same hash name m known s old new at calls.whole calls.kept calls.counters calls.uncounted map i u here said leads below;
    dues = calls_keep_due K V same hash name log m known s old new at calls.whole calls.dues map i u here said leads classes;
    as_called = calls_keep_as_called K V same hash name m known s old new at calls.whole calls.as_called map i u here said leads;
    questions = effects_keep_questions K V (Some (name i)) (Some map) effects m calls.questions;
    purposes = calls_keep_purposes K V same hash name log m known s old new at calls.whole calls.purposes map i u here said leads pairs classes shards none;
  }
    where
      its : (c : CallThere K V) × (call_of (name i) m ≡ Some c) × (c.map ≡ map) × IsCalled same u c.call
      its = calls.whole.all.shown.calls map i u here

pub rows_begin : (K V : Type 0) (same : K → K → Bool) (hash : ℕ → K → ℕ) → RowsBegin K V same hash
rows_begin K V same hash name log m known s old new at calls called i leads =
    let whole2 = rows_begin_whole K V same hash name m known s old new at calls.whole called i leads in
    record {
      whole = whole2;
      numbers = calls.numbers;
      kept = rows_begin_kept K V same hash name m known s old new at calls.kept called i leads;
      finding = rows_begin_finding K V same hash name m known s old new calls.finding called i leads whole2;
      sources = sources_same K V same name m m known known s (scene_then same hash (Begin i (request_of (slot_of i) called)) s old new leads.2) calls.sources whole2.all.shown refl refl refl leads.2.3;
      nexts = rows_begin_nexts K V same hash name log m known s old new calls.nexts called i leads;
      tries = rows_begin_tries K V same hash name log m known s old new calls.sources calls.tries called i leads whole2;
      limits = rows_begin_limits K V same hash name log m known s old new calls.limits called i leads;
      counters = rows_begin_counters K V same hash name m s old new at calls.counters called i leads;
      uncounted = calls.uncounted;
      dues = (dues_stay K V same hash name log).rows_begin m known s old new at calls.whole calls.dues called i leads;
      as_called = (as_called_stays K V same hash name).rows_begin m known s old new at calls.whole calls.as_called called i leads;
      questions = calls.questions;
      purposes = (purposes_stay K V same hash name log).rows_begin m known s old new at calls.whole calls.purposes called i leads;
    }

pub rows_step : (K V : Type 0) (same : K → K → Bool) (hash : ℕ → K → ℕ) → RowsStep K V same hash
rows_step K V same hash name log m known s old new at calls i said leads row here = record {
  whole = whole2;
  numbers = (rows_keep_numbers K V same hash m calls.numbers.0 known s old new i said leads row here, effects_keep_pairs K V m calls.numbers.1 None None effects (λ n is. absurd (cc is)));
  kept = rows_keep_kept K V same hash name m known s old new at calls.whole calls.kept i said leads row here;
  finding = rows_keep_finding K V same hash name m known s old new at calls.whole calls.finding i said leads row here whole2;
  sources = same_maps_aside K V same name m known (known_after acts.Row new.changed known) s (scene_then same hash (Step i) s old new (leads row here).2) None None effects
      (rows_aside same hash name m known s old new at i said leads row here) calls.sources whole2.all.shown (leads row here).2.3;
  nexts = rows_keep_nexts K V same hash name log m known s old new calls.nexts at calls.whole i said leads row here;
  tries = rows_keep_tries K V same hash name log m known s old new calls.sources calls.tries at calls.whole i said leads row here whole2;
  limits = rows_keep_limits K V same hash name log m known s old new calls.limits at calls.whole i said leads row here;
  counters = rows_keep_counters K V same hash name m known s old new at calls.whole calls.counters i said leads row here;
  uncounted = none_counted None None effects m calls.uncounted (none_shards None effects m);
  dues = (dues_stay K V same hash name log).rows m known s old new at calls.whole calls.dues i said leads row here found.0;
  as_called = (as_called_stays K V same hash name).rows m known s old new at calls.whole calls.as_called i said leads row here found.0;
  questions = effects_keep_questions K V None None effects m calls.questions;
  purposes = (purposes_stay K V same hash name log).rows m known s old new at calls.whole calls.purposes i said leads row here found.0;
}
  where
    effects : List Effect
    effects = effects_of acts.Row known new.changed

    found : AtEachEffect HadRetired None None effects m × AtEachEffect WaitUnreclaimed None None effects m
    found = rows_find_kept K V same hash name m known s old new at calls.whole calls.kept i said leads row here

    whole2 : RefinesWhole same name (with_effects None None effects m) (known_after acts.Row new.changed known) (scene_then same hash (Step i) s old new (leads row here).2)
    whole2 = rows_keep_whole K V same hash name m known s old new at calls.whole i said leads row here found.0 found.1
