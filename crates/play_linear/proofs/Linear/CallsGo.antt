-- What a moment shows of calls it shows where one begins, takes a step, comes to something, takes a reply, goes on as a walk, or is given up.
use Rattle.std.specs.Prelude.{◌≡◌, ℕ, Bool, true, false, List, Option, Some, Ok}
use Rattle.std.proofs.Common.{refl, ap, sym, ◌∙◌}
use Rattle.run_schedules.specs.Given.SeizeWordsDeclared.fault.Fault.TheVariants.{Memory}
use Rattle.seize_acts.specs.Given.SeizeWorld.{Rests}
use Rattle.run_logged.specs.Given.SweepsSweepPoints.{after_next}
use Rattle.play_lists.specs.Given.TablesDeclared.node.Node.{Node}
use Rattle.run_logged.specs.Given.RawMachine.{machine_replied}
use Rattle.run_logged.specs.Given.RawDeclared.machines.progress.Progress.{Progress}
use Rattle.run_logged.specs.Given.PointsFactsCalls.{Unchanged}
use Rattle.run_logged.specs.Given.CallersOverAll.{CallOverAll, gone_on}
use Rattle.run_logged.specs.Given.CallersRooms.{CallForRoom}
use Rattle.run_logged.specs.Given.CallersTogether.{CallOnKey, Counting, ForRoom, OnKey, OverAll, UnderWay}
use Rattle.play_lists.specs.Given.FinishesMachines.{RepliedOfKind, machine_of}
use Rattle.play_lists.specs.Given.FinishesMaps.{Standing, with_call as with_call_of}
use Rattle.run_schedules.specs.Runs.Same.{is_same}
use Rattle.run_schedules.specs.declared.call.Call.{Call}
use Rattle.run_schedules.specs.declared.call.Call.TheVariants.{On}
use Rattle.run_schedules.specs.declared.call.OneKey.{OneKey}
use Rattle.run_schedules.specs.declared.call.Reply.{Reply}
use Rattle.run_schedules.specs.declared.outcome.Outcome.{Outcome}
use Rattle.run_schedules.specs.declared.outcome.Outcome.TheVariants.{Refused}
use Rattle.run_schedules.specs.Schedules.Beginning.{with_call}
use Rattle.run_schedules.specs.Schedules.Effects.{with_effects}
use Rattle.run_schedules.specs.Schedules.Entry.{ends_call}
use Rattle.run_schedules.specs.Schedules.Moment.{Asking, Moment, CallState, UnderWay as CallThere}
use Rattle.run_schedules.specs.Schedules.Transition.{Past}
use Rattle.run_schedules.specs.Schedules.Views.{call_of}
use Rattle.play_lists.specs.Given.EffectsEffects.{effects_of, known_after}
use Rattle.play_lists.specs.Given.EffectsKnown.{Known}
use Rattle.play_lists.specs.Given.EffectsDeclared.acting.Acting.TheVariants as acts
use Rattle.play_lists.specs.Given.ScenesBeginning.{Begins}
use Rattle.play_lists.specs.Given.ScenesHeld.{Held, IsAt}
use Rattle.play_lists.specs.Given.ScenesReplying.{AskLeads, StopLeads, scene_with, unless_stopped}
use Rattle.play_lists.specs.Given.ScenesScene.{Scene, slot_of}
use Rattle.play_lists.specs.Given.ScenesStepping.{StepLeads, scene_after}
use Rattle.play_lists.specs.Given.FollowsCalling.{NoneNamed, come_to, told}
use Rattle.play_lists.specs.Given.FollowsCalls.{IsCalled}
use Rattle.run_logged.specs.Given.HandsAsked.{reply_to_machine}
use Rattle.run_logged.specs.Given.HandsCalling.{AsksJust, IsBegunFor}
use Rattle.play_lists.specs.Given.OthersWalks.{given_up}
use Rattle.run_logged.proofs.Given.MomentsCalls.{calls_begin_whole, calls_come_to_whole, calls_keep_whole, calls_take_whole}
use Rattle.run_logged.proofs.Given.MomentsWalks.{walks_go_on_whole, walks_stop_whole}
use Rattle.play_lists.specs.Given.HistoriesAsCalled.{AsksAsCalled, IsBegunAs}
use Rattle.run_logged.specs.Given.ChangesChanges.{IsTaken}
use Rattle.run_logged.specs.Given.ChangesHistories.{began_of}
use Rattle.play_lists.specs.Given.HistoriesQuestions.{AsksStill, AllHaveAskedJust}
use Rattle.play_lists.proofs.Given.HistoriesAside.Stays.{as_called_stays, dues_stay}
use Rattle.play_lists.proofs.Given.HistoriesCalling.{first_steps_change_first}
use Rattle.play_lists.proofs.Given.HistoriesDue.{calls_keep_due}
use Rattle.play_lists.proofs.Given.HistoriesDueOn.{calls_begin_due, calls_come_to_due, calls_take_due}
use Rattle.play_lists.proofs.Given.HistoriesNoKey.AsCalled.{calls_keep_as_called}
use Rattle.play_lists.proofs.Given.HistoriesNoKey.AsCalledOn.{calls_begin_as_called, calls_come_to_as_called, calls_take_as_called}
use Rattle.play_lists.proofs.Given.HistoriesQuestions.{calls_begin_questions, calls_come_to_questions, calls_take_questions, effects_keep_questions}
use Rattle.play_lists.proofs.Given.KeptBetween.{calls_begin_kept, calls_take_kept, walks_go_on_kept, walks_stop_kept}
use Rattle.play_lists.proofs.Given.KeptCalls.{calls_keep_kept}
use Rattle.play_lists.proofs.Given.KeptStays.{calls_come_to_kept}
use Rattle.run_schedules.specs.Deeds.Deeds.{named}
use Rattle.play_linear.specs.Linear.Shown.{RefinesAnswers}

-- A call begins now, and has changed nothing.
module _ {K V : Type 0} (same : K → K → Bool) (standing : Standing K) (i : ℕ) where
  began_now : (u : UnderWay K V K) → Begins same standing i u → (began : ℕ) → began_of u ≡ Some began → began ≡ standing.chart.now
  began_now (OnKey u) begins began is = let now : u.began ≡ standing.chart.now = ap (λ (x : CallOnKey K V K). x.began) begins.1 in let its : u.began ≡ began = cc is in sym its ∙ now
  began_now (ForRoom r) begins began is = let its : r.began ≡ began = cc is in sym its ∙ ap (λ (x : CallForRoom). x.began) begins.1
  began_now (Counting sum) begins began is = absurd (cc is)
  began_now (OverAll o) begins began is = let its : o.began ≡ began = cc is in sym its ∙ ap (λ (x : CallOverAll). x.began) begins.1

  unchanged : (u : UnderWay K V K) → Begins same standing i u → (x : CallOnKey K V K) → u ≡ OnKey x → x.change ≡ Unchanged
  unchanged (OnKey u) begins x is = let one : u ≡ x = cc is in ap (λ (y : CallOnKey K V K). y.change) (sym one) ∙ ap (λ (y : CallOnKey K V K). y.change) begins.1
  unchanged (ForRoom r) begins x is = absurd (cc is)
  unchanged (Counting sum) begins x is = absurd (cc is)
  unchanged (OverAll o) begins x is = absurd (cc is)

-- where one is given up, what others have asked is as it was
module _ {K V : Type 0} (own : List ℕ) (m : Moment K V) where
  asks_still : (st : CallState) → AsksStill {V = V} st (Refused Memory)
  asks_still (Asking question) = λ goes. goes
  asks_still _ = tt

  given_questions : (q : Bool) → AllHaveAskedJust m → AllHaveAskedJust (given_up own q m)
  given_questions true questions = calls_come_to_questions K V own (Refused Memory) 0 m questions (λ c c_is. asks_still c.stands)
  given_questions false questions = questions

module _ (K V : Type 0) (same : K → K → Bool) (hash : ℕ → K → ℕ) (log : Past K V) (known : Known) (s : Scene K V) (old : Held K V) (at : IsAt same hash old s) where
  module _ (all : RefinesAnswers same log log.now known s) (map i : ℕ) where
    pub calls_begin : (new : Held K V) (standing : Standing K) → s.maps map ≡ Some standing → (u : UnderWay K V K) (call : Call K V) (guard : List ℕ) → Begins same standing i u → IsCalled same u call
        → IsBegunFor u call → IsBegunAs u call → NoneNamed named (named i) s → s.world.row i ≡ Rests → IsAt same hash new (scene_with map i u s)
        → RefinesAnswers same log (with_call (named i) guard call (Some map) log.now) known (scene_with map i u s)
    calls_begin new standing there u call guard begins called given swept none rests at2 =
        let whole = calls_begin_whole K V same named log.now known s all.whole map i u call guard none called given rests in
        record {
          whole = whole;
          kept = calls_begin_kept K V same hash named log.now known s old new at all.whole all.kept map i standing there u call guard begins called given none rests at2 whole.all.shown;
          dues = calls_begin_due K V same hash named log log.now known s old at all.dues map i u call guard standing there (began_now same standing i u begins) (unchanged same standing i u begins) none called
              given all.dues.history.past.counted;
          as_called = calls_begin_as_called K V same named log.now known s all.as_called map i u call guard none called swept;
          questions = calls_begin_questions K V (named i) guard call (Some map) log.now all.questions;
        }

    -- after the step of a call, whoever's
    pub calls_step : (new : Held K V) (u : UnderWay K V K) (here : s.calls map i ≡ Some u) (said : Progress (Node K V)) (leads : StepLeads same hash i said s old new)
        → (let to = leads map u here in
        RefinesAnswers same log (with_effects (Some (named i)) (Some map) (effects_of (acts.Call i map) known new.changed) log.now) (known_after (acts.Call i map) new.changed known)
        (scene_after same s old new map i to.0 u to.1 said to.4))
    calls_step new u here said leads = record {
      whole = calls_keep_whole K V same hash named log.now known s old new at all.whole map i u here said leads;
      kept = calls_keep_kept K V same hash named log.now known s old new at all.whole all.kept map i u here said leads;
      dues = calls_keep_due K V same hash named log log.now known s old new at all.whole all.dues map i u here said leads
          (first_steps_change_first K V same log log.now (with_effects (Some (named i)) (Some map) (effects_of (acts.Call i map) known new.changed) log.now) map (refl, refl));
      as_called = calls_keep_as_called K V same hash named log.now known s old new at all.whole all.as_called map i u here said leads;
      questions = effects_keep_questions K V (Some (named i)) (Some map) (effects_of (acts.Call i map) known new.changed) log.now all.questions;
    }

  module _ (m : Moment K V) (all : RefinesAnswers same log m known s) where
    -- where one that asks takes a reply that such a call takes
    pub calls_take : (new : Held K V) (map i : ℕ) (u : UnderWay K V K) → s.calls map i ≡ Some u → (c : CallThere K V) → call_of (named i) m ≡ Some c → (question : Option ℕ) → c.stands ≡ Asking question
        → (standing : Standing K) → s.maps map ≡ Some standing → (is_told : Reply V) (next : UnderWay K V K)
        → machine_of next ≡ (machine_replied (machine_of u) (reply_to_machine is_told)).0 → (machine_replied (machine_of u) (reply_to_machine is_told)).1 ≡ Ok tt
        → RepliedOfKind V same same old.batch_size old.roots slot_of standing i u (reply_to_machine is_told) next → ((one : OneKey K V) → c.call ≡ On one → IsTaken one is_told)
        → IsAt same hash new (scene_with map i next s) → RefinesAnswers same log (told (named i) is_told m) known (scene_with map i next s)
    calls_take new map i u here c c_is question asks standing there is_told next next_is takes told_kind taken at2 =
        let whole = calls_take_whole K V same hash named m known s old at all.whole map i u here c c_is question asks standing there is_told next next_is takes told_kind in
        record {
          whole = whole;
          kept = calls_take_kept K V same hash named m known s old new at all.whole all.kept map i u here (reply_to_machine is_told) next next_is is_told at2 whole.all.shown;
          dues = calls_take_due K V same hash named log m known s old at all.dues map i u here c c_is question asks standing there is_told next next_is takes told_kind taken;
          as_called = calls_take_as_called K V same hash named m known s old at all.whole all.as_called map i u here c c_is question asks standing there is_told next next_is takes told_kind;
          questions = calls_take_questions K V (named i) is_told m all.questions;
        }

    -- where a walk that is ready is asked for its next pair
    pub walks_go_on : (new : Held K V) (i : ℕ) (leads : AskLeads same hash i true s old new) (map : ℕ) (o : CallOverAll) (here : s.calls map i ≡ Some (OverAll o))
        → (leads map (OverAll o) here).0 ≡ OverAll (gone_on o (after_next o.sweep)) → RefinesAnswers same log m known (scene_with map i (leads map (OverAll o) here).0 s)
    walks_go_on new i leads map o here is = record {
      whole = walks_go_on_whole K V same hash named m known s old new all.whole i leads map (OverAll o) here;
      kept = walks_go_on_kept K V same hash named m known s old new all.whole all.kept i leads map (OverAll o) here;
      dues = (dues_stay K V same hash named log).walks m known s old new at all.whole all.dues i leads map o here is;
      as_called = (as_called_stays K V same hash named).walks m known s old new at all.whole all.as_called i leads map o here is;
      questions = all.questions;
    }

    -- or is given up, and no call that is under way then has its name
    pub walks_stop : (new : Held K V) (i : ℕ) (stopped : Bool) → StopLeads same hash i stopped s old new → (map : ℕ) (u : UnderWay K V K) → s.calls map i ≡ Some u
        → (let after = record s { calls = with_call_of s.calls map i (unless_stopped stopped u) } in
        (stopped ≡ true → NoneNamed named (named i) after) → RefinesAnswers same log (given_up (named i) stopped m) known after)
    walks_stop new i stopped leads map u here none = record {
      whole = walks_stop_whole K V same hash named m known s old new all.whole i stopped leads map u here none;
      kept = walks_stop_kept K V same hash named m known s old new at all.whole all.kept i stopped leads map u here none;
      dues = (dues_stay K V same hash named log).walks_stop m known s old new at all.whole all.dues i stopped leads map u here none;
      as_called = (as_called_stays K V same hash named).walks_stop m known s old new at all.whole all.as_called i stopped leads map u here none;
      questions = given_questions (named i) m stopped all.questions;
    }

-- where a call comes to an outcome, if it asks as it was called, and does not go on by itself while it asks
pub calls_come_to : (K V : Type 0) (same : K → K → Bool) (log : Past K V) (m : Moment K V) (known : Known) (s : Scene K V) → RefinesAnswers same log m known s
    → (own : List ℕ) (outcome : Outcome V) (steps : ℕ) → (ends_call outcome ≡ true → NoneNamed named own s)
    → ((map i : ℕ) (u : UnderWay K V K) → s.calls map i ≡ Some u → is_same (named i) own ≡ true → AsksJust known u outcome × AsksAsCalled known u outcome)
    → ((c : CallThere K V) → call_of own m ≡ Some c → AsksStill c.stands outcome)
    → RefinesAnswers same log (come_to own outcome steps m) known s
calls_come_to K V same log m known s all own outcome steps ended asks still = record {
  whole = calls_come_to_whole K V same named m known s all.whole own outcome steps ended (λ map i u is its. (asks map i u is its).0);
  kept = calls_come_to_kept K V same named m known s all.whole all.kept own outcome steps ended;
  dues = calls_come_to_due K V same named log m known s all.dues own outcome steps ended (λ map i u is its. (asks map i u is its).0);
  as_called = calls_come_to_as_called K V same named m known s all.as_called own outcome steps ended (λ map i u is its. (asks map i u is its).1);
  questions = calls_come_to_questions K V own outcome steps m all.questions still;
}
