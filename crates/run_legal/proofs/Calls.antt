-- An event of a call, from its beginning on.
use Rattle.std.specs.Prelude.{◌≡◌, ◌≢◌, ◌<◌, ℕ, ◌+◌, ◌≤◌, ◌==◌, Bool, true, false, List, [], ◌++◌, Some, if◌then◌else◌}
use Rattle.std.specs.List.{list_all}
use Rattle.std.proofs.Common.{refl, ap, sym, subst, ◌∙◌, inl, inr, arith}
use Rattle.std.proofs.lemmas.List.{append-nil}
use Rattle.run_grows.specs.Given.SeizeWaitingSets.{Sets}
use Rattle.run_grows.specs.Given.SeizeWorld.{World, Rests}
use Rattle.run_grows.specs.Given.TablesDeclared.node.Node.{Node}
use Rattle.run_grows.specs.Given.TablesChunks.{is_incremental}
use Rattle.run_grows.specs.Given.RunsDeclared.effect.Effect.{Effect}
use Rattle.run_grows.specs.Given.RunsDeclared.event.Event.{Event}
use Rattle.run_grows.specs.Given.RunsDeclared.event.Event.TheVariants.{OneCall, Step, Go, Next}
use Rattle.run_grows.specs.Given.RunsDeclared.effect.Thing.{Thing}
use Rattle.run_grows.specs.Given.SchedulesAfter.{is_by, moment, moments_from}
use Rattle.run_grows.specs.Given.SchedulesEffects.{with_effects, AtEachEffect}
use Rattle.run_grows.specs.Given.SchedulesEntry.{caller_of, speaker}
use Rattle.run_grows.specs.Given.SchedulesModel.{sets_in, things_in}
use Rattle.run_grows.specs.Given.SchedulesMoment.{Moment}
use Rattle.run_grows.specs.Given.EffectsEffects.{effects_of, known_after}
use Rattle.run_grows.specs.Given.EffectsKnown.{Known}
use Rattle.run_grows.specs.Given.EffectsDeclared.acting.Acting.TheVariants as acts
use Rattle.run_grows.specs.Given.MomentsWhole.{RefinesWhole}
use Rattle.run_grows.proofs.Given.MomentsAfter.{effects_after}
use Rattle.run_grows.proofs.Given.MomentsNumbers.{numbers_are_below}
use Rattle.run_grows.specs.Given.HistoriesAsCalled.{RefinesAsCalled}
use Rattle.run_grows.specs.Given.HistoriesDue.{RefinesPendingAnswers}
use Rattle.run_grows.specs.Given.HistoriesInEvent.{here_of}
use Rattle.run_grows.proofs.Given.HistoriesAnyCall.InEvent.{events_begin, events_go_on, events_keep_all}
use Rattle.run_grows.specs.Given.ModelsCallEvents.{FollowsInEvent, IsInItsRow}
use Rattle.run_grows.proofs.Given.ModelsCallEvents.{call_events_begin, call_events_go_on}
use Rattle.run_grows.proofs.Given.ModelsMapEvents.{moments_note_once}
use Rattle.run_grows.specs.Given.FindsLife.{StoresOne}
use Rattle.run_grows.proofs.Given.FindsDoing.{several_do_theirs}
use Rattle.run_grows.proofs.Given.FindsQuiet.{several_store_one}
use Rattle.run_grows.proofs.Given.FindsSteps.{steps_do_theirs, steps_store_one}
use Rattle.run_grows.specs.Given.PromisesProtected.{InMidst, is_of_slots}
use Rattle.run_grows.specs.Given.PromisesReading.{HasLooked, looks}
use Rattle.run_grows.specs.Given.PromisesSheltered.{SectionsHold}
use Rattle.run_grows.proofs.Given.PromisesProtected.{calls_protect}
use Rattle.run_grows.proofs.Given.PromisesWeights.{grants_add_up, operations_are_single, parts_add_up}
use Rattle.run_legal.specs.CallEvents.{CallEventsBegin, CallEventsContinue}
use Rattle.run_sweeps.proofs.Purposes.ShardsRead.{events_begin_uncounted}
use Rattle.run_legal.proofs.CallChanges.{changes_first, reads_shards, unadded_still}
use Rattle.run_grows.proofs.Given.HistoriesSeveral.{stands}
use Rattle.run_legal.proofs.CallPairs.{begun_so, pairs_first}
use Rattle.run_sweeps.proofs.OwnPairs.{each_is_its_own, own_alike}
use Rattle.run_legal.proofs.CallReads.{does_nothing, readings_go_on}
use Rattle.run_grows.proofs.Grows.Limits.Shows.{limits_at_first}
use Rattle.run_grows.proofs.Grows.Limits.Steps.{limits_others}
use Rattle.run_grows.proofs.Grows.Tries.Shows.{tries_at_first}
use Rattle.run_grows.proofs.Grows.Tries.Steps.{tries_others}
use Rattle.run_grows.proofs.Grows.Finding.Alike.{many_same}
use Rattle.run_grows.proofs.Given.FindsGrows.Steps.{tables_have_been}
use Rattle.run_grows.proofs.Grows.Finding.Nexts.{others_at_first, others_go_on}
use Rattle.run_grows.specs.Given.ScenesScene.{Scene, slot_of}
use Rattle.run_grows.specs.Given.ScenesStepping.{scene_after}
use Rattle.run_grows.specs.Given.SchedulesTransition.{past}
use Rattle.run_legal.proofs.OneStep.{calls_show_on}
use Rattle.run_grows.proofs.Given.General.{both_true as and_both}

-- no steps, whoever's
none_made : (q : Bool) → ◌≡◌ {A = ℕ} 0 (if q then 0 else 0)
none_made true = refl
none_made false = refl

-- the sections of guards hold what they shelter where a call's event begins
module _ {K V : Type 0} (own : List ℕ) (m : Moment K V) (known : Known) (w : World (Node K V)) (hold : SectionsHold m known w) where
  begins_protected : (event : Event K V) → caller_of event ≡ Some own → InMidst event [] m known w
  begins_protected (OneCall guard map call) is = record { inside = hold.0; sheltered = hold.1; spared = refl }
  begins_protected (Step caller refuse) is = record { inside = hold.0; sheltered = hold.1; spared = refl }
  begins_protected (Go caller refuse) is = record { inside = hold.0; sheltered = hold.1; spared = refl }
  begins_protected (Next caller) is = record { inside = hold.0; sheltered = hold.1; spared = refl }
  begins_protected _ is = absurd (cc is)

pub call_events_begin_so : (K V : Type 0) (same : K → K → Bool) (hash : ℕ → K → ℕ) → CallEventsBegin K V same hash
call_events_begin_so K V same hash name terms log beginning begins maps tables shards born spot tableless known s x at all reading sections follows event map i caller_is u here c c_is only = record {
  of_call = caller_is;
  event_so = events_begin K V same hash name (past log) beginning begins known s x at all.whole all.dues all.as_called map i u here c c_is;
  calls = all;
  others = others_at_first name (past log) all.purposes.past i beginning s maps tables all.purposes.begun all.nexts;
  other_limits = limits_at_first name (past log) all.purposes.past i beginning s maps tables all.purposes.begun all.limits;
  other_tries = tries_at_first name (past log) all.purposes.past i beginning s (record { stored = sym begins.1; place = sym begins.0; born = sym born; spot = sym spot }) maps tables all.purposes.begun all.tries;
  tables = many_same (moment log) beginning tables;
  worked = refl;
  few = let none : 0 ≤ 0 = omega arith in none;
  granted = refl;
  reading = record {
    past = reading.past;
    begun = reading.begun;
    reads = λ n j v is d found looks_for standing there.
        subst (λ (steps : ℕ). HasLooked (is_incremental standing.setting.mode) n standing.chart (moments_from d.begun log) (d.steps + steps) v) (none_made (j == i))
        (reading.reads n j v is d found looks_for standing there);
  };
  unadded = λ adds. events_begin_uncounted K V (past log) beginning map shards tables tableless;
  its_own = own_alike same map beginning (moment log) begins.0 begins.1
      (each_is_its_own same hash name beginning known s x at all.whole map (stands same hash s x at map i u here).0 (stands same hash s x at map i u here).1);
  quiet = λ looks_for. (maps, tables);
  kinds = refl;
  stores = tt;
  protects = begins_protected (name i) beginning known s.world sections event caller_is;
  follows = λ alone. begun_so (and_both (moment log).is_alone (list_all (is_by (speaker event)) (moment log).calls) alone).0 (only alone);
}
  where
    things : List Thing
    things = things_in log

    sets : Sets
    sets = sets_in terms.batch_size log

    -- no row is under way, or that of the call is
    begun_so : (moment log).is_alone ≡ true → ((j : ℕ) → s.world.row j ≢ Rests → j ≡ i) → FollowsInEvent terms.batch_size terms.roots things sets (slot_of i) i [] known s.world
    begun_so alone its = elim (follows alone) as (λ _. FollowsInEvent terms.batch_size terms.roots things sets (slot_of i) i [] known s.world) [
      | inl model ↦ call_events_begin K V terms.batch_size terms.roots things sets known s.world model (slot_of i) i
      | inr row ↦ record {
        come = tt;
        back = tt;
        so = inr (subst (λ (xs : List Thing). IsInItsRow terms.batch_size terms.roots xs sets (slot_of i) i known s.world) (sym (append-nil things))
            (subst (λ (j : ℕ). IsInItsRow terms.batch_size terms.roots things sets (slot_of j) j known s.world) (its row.0 row.1.goes) row.1));
      }
    ]

-- an event of a call is none of a slot
pub out_of_slots : {K V : Type 0} (own : List ℕ) (event : Event K V) → caller_of event ≡ Some own → is_of_slots event ≡ false
out_of_slots own (OneCall guard map call) is = refl
out_of_slots own (Step caller refuse) is = refl
out_of_slots own (Go caller refuse) is = refl
out_of_slots own (Next caller) is = refl
out_of_slots own _ is = absurd (cc is)

pub call_events_go_on_so : (K V : Type 0) (same : K → K → Bool) (hash : ℕ → K → ℕ) → CallEventsContinue K V same hash
call_events_go_on_so K V same hash name terms log event beginning map i c steps done m known s u midst old new at size said leads none noted next next_is = record {
  of_call = midst.of_call;
  event_so = events_go_on K V same hash name (past log) beginning map i c done m known s u midst.event_so old new at said leads next next_is;
  calls = calls_show_on same hash name (past log) m known s old new at midst.calls map i u here said leads midst.others midst.other_tries midst.other_limits
      (pairs_first same hash name log beginning map i c done m known s whole old new at said leads u midst.event_so (begun_so same name log beginning map i c done m known s u midst.event_so) midst.worked
      midst.its_own)
      (changes_first same hash name log beginning map i c done m known s old new at said leads u midst.event_so)
      (reads_shards K V same hash name log m known s old new at whole midst.calls.counters map i u here said leads midst.unadded) none;
  others = others_go_on same hash name (past log) m known s old new at whole map i u here said leads midst.others;
  other_limits = limits_others same hash name (past log) m known s old new at whole map i u here said leads midst.other_limits;
  other_tries = tries_others same hash name (past log) m known s old new at whole map i u here said leads midst.other_tries;
  tables = λ of. (let had = midst.tables of in let more = tables_have_been K V (Some (name i)) (Some map) effects m of in omega (arith, had, more));
  worked = ap (λ (x : Moment K V). with_effects (Some (name i)) (Some map) effects x) midst.worked ∙ sym (effects_after (Some (name i)) (Some map) done effects beginning);
  few = parts_add_up steps 1 done effects midst.few (operations_are_single (acts.Call i map) known new.changed).0;
  granted = grants_add_up done effects midst.granted (operations_are_single (acts.Call i map) known new.changed).1;
  reading = readings_go_on K V same hash name terms log event beginning map i c steps done m known s u midst old new at said leads;
  unadded = unadded_still K V same hash name log m known s old new at whole midst.calls.counters map i u here said leads midst.unadded next next_is;
  its_own = midst.its_own;
  quiet = λ looks_for. quiet_still looks_for;
  kinds = several_do_theirs done effects midst.kinds (steps_do_theirs K V same hash name m known s old new at whole map i u here said leads);
  stores = several_store_one K V (name i) map done effects beginning midst.stores
      (subst (λ (x : Moment K V). AtEachEffect (StoresOne (Some (name i))) (Some (name i)) (Some map) effects x) midst.worked
      (steps_store_one K V same hash name m known s old new at whole map i u here said leads));
  protects = calls_protect K V same hash name m known s old new at whole map i u here said leads event (out_of_slots (name i) event midst.of_call) done midst.protects;
  follows = λ alone.
      subst (λ (n : ℕ). FollowsInEvent n terms.roots (things_in log) (sets_in terms.batch_size log) (slot_of i) i (done ++ effects) then_known (leads map u here).4.w2) size
      (call_events_go_on K V same hash name m known s old new at whole map i u here said leads (moments_note_once K V same name v then_known s2 all.0) terms.roots (things_in log)
      (sets_in terms.batch_size log) (slot_of i) done
      (subst (λ (n : ℕ). FollowsInEvent n terms.roots (things_in log) (sets_in terms.batch_size log) (slot_of i) i done known s.world) (sym size) (midst.follows alone)) noted);
}
  where
    whole : RefinesWhole same name m known s
    whole = midst.calls.whole

    here : s.calls map i ≡ Some u
    here = here_of same name (past log) beginning map i c done m known s u midst.event_so

    effects : List Effect
    effects = effects_of (acts.Call i map) known new.changed

    v : Moment K V
    v = with_effects (Some (name i)) (Some map) effects m

    then_known : Known
    then_known = known_after (acts.Call i map) new.changed known

    s2 : Scene K V
    s2 = scene_after same s old new map i (leads map u here).0 u (leads map u here).1 said (leads map u here).4

    -- the map of the call was made
    below : map < m.made
    below =
        let there = (whole.all.shown.maps map (leads map u here).0 (leads map u here).2).there in numbers_are_below K V m midst.calls.numbers.0 map there.there there.is

    all : RefinesWhole same name v then_known s2 × RefinesPendingAnswers same name (past log) v then_known s2 × RefinesAsCalled same name v then_known s2
    all = events_keep_all K V same hash name (past log) beginning map i c done m known s u midst.event_so old new at said leads

    -- a lookup does nothing by its steps
    quiet_still : looks c.call ≡ true → (v.maps ≡ (moment log).maps) × (v.tables ≡ (moment log).tables)
    quiet_still looks_for = subst (λ (x : Moment K V). (x.maps ≡ (moment log).maps) × (x.tables ≡ (moment log).tables))
        (sym (does_nothing K V same hash name terms log event beginning map i c steps done m known s u midst old new at said leads looks_for)) (midst.quiet looks_for)
