-- What a moment shows of calls it shows where a row begins on a slot, a map comes or goes, its making or its end begins, after each step of these, and after one by which all is reclaimed.
use Rattle.std.specs.Prelude.{◌≡◌, ℕ, Bool, false, List, [], Some, None}
use Rattle.std.proofs.Common.{refl, sym, ◌∙◌}
use Rattle.seize_acts.specs.Given.SeizeWorld.{Begin, Step}
use Rattle.seize_acts.specs.Given.SeizeDeclared.advance.Advance.{Advance as Making}
use Rattle.seize_acts.specs.Given.SeizeDeclared.advance.Advance.TheVariants as progress
use Rattle.seize_acts.specs.Given.SeizeDeclared.rows.reclaim_all.ReclaimAll.{ReclaimAll}
use Rattle.seize_acts.specs.Given.SeizeDeclared.rows.settle.Settled.{Settled}
use Rattle.seize_acts.specs.Given.SeizeDeclared.rows.settle.Settled.TheVariants as settled
use Rattle.play_lists.specs.Given.TablesDeclared.node.Node.{Node}
use Rattle.play_lists.specs.Given.TablesDeclared.setting.Setting.{Setting}
use Rattle.run_logged.specs.Given.CallersTogether.{OnKey, UnderWay}
use Rattle.play_lists.specs.Given.FinishesEndings.{Finishing}
use Rattle.play_lists.specs.Given.FinishesMakings.{Beginning, HasMade}
use Rattle.play_lists.specs.Given.FinishesMaps.{Standing}
use Rattle.run_schedules.specs.Runs.Same.{is_same}
use Rattle.run_schedules.specs.Schedules.Beginning.{with_map}
use Rattle.run_schedules.specs.Schedules.Effects.{AtEachEffect, with_effects}
use Rattle.run_schedules.specs.Schedules.Moment.{MapThere, Moment, Remains}
use Rattle.run_schedules.specs.Schedules.Transition.{Past}
use Rattle.run_schedules.specs.Schedules.Views.{map_at, tables_of}
use Rattle.play_lists.specs.Given.EffectsEffects.{effects_of, known_after}
use Rattle.play_lists.specs.Given.EffectsKnown.{Known}
use Rattle.play_lists.specs.Given.EffectsDeclared.acting.Acting.TheVariants as acts
use Rattle.play_lists.specs.Given.ScenesEnding.{EndingLeads, ending_begun}
use Rattle.play_lists.specs.Given.ScenesHeld.{Held, IsAt}
use Rattle.play_lists.specs.Given.ScenesMaking.{MakingLeads, scene_making}
use Rattle.play_lists.specs.Given.ScenesOnSlots.{RowBegins, RowLeads}
use Rattle.play_lists.specs.Given.ScenesReclaiming.{IsReclaiming, ReclaimingLeads}
use Rattle.play_lists.specs.Given.ScenesRows.{request_of}
use Rattle.play_lists.specs.Given.ScenesScene.{IsOnSlot, Scene, slot_of}
use Rattle.play_lists.specs.Given.ScenesDeclared.row.RowTold.{RowTold}
use Rattle.play_lists.specs.Given.ScenesDeclared.row.SlotCall.{SlotCall}
use Rattle.play_lists.specs.Given.ScenesDeclared.row.SlotRow.{SlotRow}
use Rattle.play_lists.specs.Given.OthersEndings.{ending_after, without_map}
use Rattle.play_lists.specs.Given.OthersMakings.{WasNew, making_after}
use Rattle.play_lists.specs.Given.OthersRows.{scene_then}
use Rattle.run_logged.specs.Given.MomentsEndings.{IsOfIts}
use Rattle.run_logged.specs.Given.MomentsNumbers.{AreFound}
use Rattle.run_logged.proofs.Given.MomentsEnds.{endings_begin_whole, endings_keep_whole}
use Rattle.run_logged.proofs.Given.MomentsMakingSteps.{makings_keep_whole}
use Rattle.run_logged.proofs.Given.MomentsMapsCome.{makings_begin_whole, maps_come_whole}
use Rattle.run_logged.proofs.Given.MomentsOnSlots.{rows_begin_whole, rows_keep_whole}
use Rattle.run_logged.proofs.Given.MomentsOver.{endings_are_over_whole}
use Rattle.play_lists.proofs.Given.HistoriesAside.Stays.{as_called_stays, dues_stay}
use Rattle.play_lists.proofs.Given.HistoriesQuestions.{effects_keep_questions}
use Rattle.play_lists.proofs.Given.KeptOthers.{endings_begin_kept, endings_find_kept, endings_keep_kept, makings_keep_kept, rows_begin_kept, rows_find_kept, rows_keep_kept}
use Rattle.play_lists.proofs.Given.KeptStays.{makings_begin_kept, stays_kept}
use Rattle.run_logged.proofs.Log.Reclaiming.Rest.{reclaiming_found, reclaiming_keeps}
use Rattle.play_lists.proofs.Given.ShedsReclaiming.Steps.{reclaiming_whole}
use Rattle.run_schedules.specs.Deeds.Deeds.{named}
use Rattle.play_linear.specs.Linear.Shown.{RefinesAnswers}

module _ (K V : Type 0) (same : K → K → Bool) (hash : ℕ → K → ℕ) (log : Past K V) (m : Moment K V) (known : Known) (s : Scene K V) (all : RefinesAnswers same log m known s) (old new : Held K V) where
  module _ (at : IsAt same hash old s) where
    -- where a row begins on a slot, and after each step of it
    pub rows_begin : (called : SlotCall) (i : ℕ) (leads : RowBegins same hash called i s old new)
        → RefinesAnswers same log m known (scene_then same hash (Begin i (request_of (slot_of i) called)) s old new leads.2)
    rows_begin called i leads = record {
      whole = rows_begin_whole K V same hash named m known s old new at all.whole called i leads;
      kept = rows_begin_kept K V same hash named m known s old new at all.kept called i leads;
      dues = (dues_stay K V same hash named log).rows_begin m known s old new at all.whole all.dues called i leads;
      as_called = (as_called_stays K V same hash named).rows_begin m known s old new at all.whole all.as_called called i leads;
      questions = all.questions;
    }

    pub rows_step : (i : ℕ) (said : RowTold (Node K V)) (leads : RowLeads same hash i said s old new) (row : SlotRow) (here : IsOnSlot s i row)
        → RefinesAnswers same log (with_effects None None (effects_of acts.Row known new.changed) m) (known_after acts.Row new.changed known) (scene_then same hash (Step i) s old new (leads row here).2)
    rows_step i said leads row here =
        let found = rows_find_kept K V same hash named m known s old new at all.whole all.kept i said leads row here in
        record {
          whole = rows_keep_whole K V same hash named m known s old new at all.whole i said leads row here found.0 found.1;
          kept = rows_keep_kept K V same hash named m known s old new at all.whole all.kept i said leads row here;
          dues = (dues_stay K V same hash named log).rows m known s old new at all.whole all.dues i said leads row here found.0;
          as_called = (as_called_stays K V same hash named).rows m known s old new at all.whole all.as_called i said leads row here found.0;
          questions = effects_keep_questions K V None None (effects_of acts.Row known new.changed) m all.questions;
        }

    -- where the making of a map begins, by one that makes none
    pub makings_begin : (i : ℕ) (b : Beginning K) → s.makers i ≡ None → (HasMade b.machine.stands → ⊥) → IsAt same hash new (scene_making i b s) → RefinesAnswers same log m known (scene_making i b s)
    makings_begin i b none not_made at2 = record {
      whole = makings_begin_whole K V same named m known s all.whole i b not_made;
      kept = makings_begin_kept K V named m known s all.kept i b none;
      dues = (dues_stay K V same hash named log).makings_begin m known s old new at all.whole all.dues i b at2;
      as_called = (as_called_stays K V same hash named).makings_begin m known s old new at all.whole all.as_called i b at2;
      questions = all.questions;
    }

    -- where its map comes, by a number of which there is no table
    pub maps_come : (there : MapThere) → tables_of there.number m ≡ [] → RefinesAnswers same log (with_map there m) known s
    maps_come there no_tables = record {
      whole = maps_come_whole K V same named m known s all.whole there no_tables;
      kept = stays_kept K V named m (with_map there m) known s s all.kept refl refl refl refl refl refl refl refl refl;
      dues = (dues_stay K V same hash named log).maps_come m known s old old at all.whole all.dues there no_tables;
      as_called = (as_called_stays K V same hash named).maps_come m known s old old at all.whole all.as_called there no_tables;
      questions = all.questions;
    }

    -- and after a step of it, by the last of which its map was there as a new one
    made_at : (i : ℕ) (said : Making Setting) (leads : MakingLeads same hash i said s old new) (b : Beginning K) (here : s.makers i ≡ Some b)
        → (let to = leads b here in IsAt same hash new (making_after same hash s old new i b to.0 to.2.step.w2 said to.3))
    made_at i progress.Goes leads b here = (leads b here).3
    made_at i progress.Waits leads b here = absurd (leads b here).3
    made_at i (progress.Done setting) leads b here = (leads b here).3.2
    made_at i (progress.Refused fault) leads b here = (leads b here).3

    pub makings_step : (i : ℕ) (said : Making Setting) (leads : MakingLeads same hash i said s old new) (b : Beginning K) (here : s.makers i ≡ Some b) → WasNew b.map said m
        → (let to = leads b here in
        RefinesAnswers same log (with_effects None (Some b.map) (effects_of (acts.Making b.map) known new.changed) m) (known_after (acts.Making b.map) new.changed known)
        (making_after same hash s old new i b to.0 to.2.step.w2 said to.3))
    makings_step i said leads b here was_new =
        let whole = makings_keep_whole K V same hash named m known s old new at all.whole i said leads b here (Some b.map) was_new in
        record {
          whole = whole;
          kept = makings_keep_kept K V same hash named m known s old new at all.whole all.kept i said leads b here (Some b.map) was_new (made_at i said leads b here) whole.all.shown;
          dues = (dues_stay K V same hash named log).makings m known s old new at all.whole all.dues i said leads b here (Some b.map) was_new;
          as_called = (as_called_stays K V same hash named).makings m known s old new at all.whole all.as_called i said leads b here (Some b.map) was_new;
          questions = effects_keep_questions K V None (Some b.map) (effects_of (acts.Making b.map) known new.changed) m all.questions;
        }

    -- where the end of one begins, by one that ends none, and after each step of it, which takes tables of its map alone
    pub ends_begin : (map i : ℕ) (standing : Standing K) → s.maps map ≡ Some standing → s.enders i ≡ None → IsAt same hash new (ending_begun map i standing s)
        → RefinesAnswers same log m known (ending_begun map i standing s)
    ends_begin map i standing there idle at2 = record {
      whole = endings_begin_whole K V same hash named m known s new all.whole map i standing there at2;
      kept = endings_begin_kept K V same hash named m known s old new at all.kept map i standing idle at2;
      dues = (dues_stay K V same hash named log).endings_begin m known s old new at all.whole all.dues map i standing there at2;
      as_called = (as_called_stays K V same hash named).endings_begin m known s old new at all.whole all.as_called map i standing there at2;
      questions = all.questions;
    }

    ended_at : (i : ℕ) (said : Settled (Node K V)) (leads : EndingLeads same hash i said s old new) (f : Finishing K V) (here : s.enders i ≡ Some f)
        → (let to = leads f here in IsAt same hash new (ending_after same hash s new i f to.0 to.2.w2 to.2.deed said to.3))
    ended_at i settled.Goes leads f here = (leads f here).3.1
    ended_at i settled.Waits leads f here = absurd (leads f here).3
    ended_at i (settled.Gave value) leads f here = (leads f here).3.3
    ended_at i settled.Done leads f here = (leads f here).3.2

    pub ends_step : (i : ℕ) (said : Settled (Node K V)) (leads : EndingLeads same hash i said s old new) (f : Finishing K V) (here : s.enders i ≡ Some f) (map : ℕ) → s.maps map ≡ None
        → (let to = leads f here in
        let effects = effects_of (acts.Ending map) known new.changed in
        AtEachEffect (IsOfIts map) None (Some map) effects m
        → RefinesAnswers same log (with_effects None (Some map) effects m) (known_after (acts.Ending map) new.changed known) (ending_after same hash s new i f to.0 to.2.w2 to.2.deed said to.3))
    ends_step i said leads f here map not_there its = record {
      whole = endings_keep_whole K V same hash named m known s old new at all.whole i said leads f here map not_there its
          (endings_find_kept K V same hash named m known s old new at all.whole all.kept i said leads f here map not_there);
      kept = endings_keep_kept K V same hash named m known s old new at all.whole all.kept i said leads f here map not_there (ended_at i said leads f here);
      dues = (dues_stay K V same hash named log).endings m known s old new at all.whole all.dues i said leads f here map not_there its;
      as_called = (as_called_stays K V same hash named).endings m known s old new at all.whole all.as_called i said leads f here map not_there its;
      questions = effects_keep_questions K V None (Some map) (effects_of (acts.Ending map) known new.changed) m all.questions;
    }

    -- and where the map is there no more: no map that stands has its name
    pub maps_go : (own : List ℕ) (remains : List Remains) → AreFound m
        → ((map : ℕ) (standing : Standing K) (there : MapThere) → s.maps map ≡ Some standing → map_at map m ≡ Some there → is_same there.name own ≡ false)
        → RefinesAnswers same log (without_map own remains m) known s
    maps_go own remains found apart = record {
      whole = endings_are_over_whole K V same named m known s all.whole own remains found apart;
      kept = stays_kept K V named m (without_map own remains m) known s s all.kept refl refl refl refl refl refl refl refl refl;
      dues = (dues_stay K V same hash named log).endings_over m known s old old at all.whole all.dues own remains apart;
      as_called = (as_called_stays K V same hash named).endings_over m known s old old at all.whole all.as_called own remains apart;
      questions = all.questions;
    }

  -- after a step by which all is reclaimed: no call is under way
  pub all_step : (i : ℕ) (lists : ℕ → List ℕ) (before after : ReclaimAll) (told : Settled (Node K V)) → IsReclaiming same hash old s i lists before
      → (leads : ReclaimingLeads same hash s i lists old new before after told)
      → RefinesAnswers same log (with_effects None None (effects_of acts.Row known new.changed) m) (known_after acts.Row new.changed known) (record s { world = leads.1.w2; maps = leads.1.maps2 })
  all_step i lists before after told under_way leads =
      let found = reclaiming_found same hash named m known s all.whole all.kept old new i lists before after told under_way leads in
      let whole = reclaiming_whole same hash named m known s all.whole old new i lists before after told under_way leads found.0 found.1 in
      record {
        whole = whole;
        kept = reclaiming_keeps same hash named m known s all.whole all.kept old new i lists before after told under_way leads;
        dues = record {
          history = record {
            past = all.dues.history.past;
            shown = whole.all.shown;
            asked = record { apart = λ n j k l y z is is2 names. none n j y is; each = λ n j u is st there c found. none n j u is };
            begun = λ n j u is c found. none n j u is;
            within = λ n j u is st there c found began began_is. none n j u is;
          };
          owes = λ n j u is st there c found one one_is. none n j (OnKey u) is;
          taken = λ n j u is c found one one_is. none n j u is;
        };
        as_called = record { shown = whole.all.shown; each = λ n j u is st there c found. none n j u is };
        questions = effects_keep_questions K V None None (effects_of acts.Row known new.changed) m all.questions;
      }
    where
      none : {X : Type 0} (map j : ℕ) (u : UnderWay K V K) → s.calls map j ≡ Some u → X
      none map j u here = absurd (let both : None ≡ Some u = sym (under_way.under_way.stand.no_calls map j) ∙ here in cc both)
