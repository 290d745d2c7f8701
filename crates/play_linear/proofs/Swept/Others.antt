-- What a moment shows of sweeps and counts it shows where a row begins on a slot, a map comes or goes, its making or its end begins, after each step of these, and after one by which all is reclaimed.
use Rattle.std.specs.Prelude.{◌≡◌, ◌⊎◌, ◌≤◌, ℕ, suc, Bool, true, false, List, [], Option, Some, None}
use Rattle.std.proofs.Common.{refl, ap, sym, subst, ◌∙◌, arith, inl, inr}
use Rattle.run_schedules.specs.Given.SeizeWordsMem.{Mem, word_at}
use Rattle.run_schedules.specs.Given.SeizeWordsDeclared.at.At.TheVariants.{Word}
use Rattle.seize_acts.specs.Given.SeizeReclaimAll.{reclaim_all_plan}
use Rattle.seize_acts.specs.Given.SeizeWorld.{Begin, Step}
use Rattle.seize_acts.specs.Given.SeizeDeclared.advance.Advance.{Advance as Making}
use Rattle.seize_acts.specs.Given.SeizeDeclared.advance.Advance.TheVariants as progress
use Rattle.seize_acts.specs.Given.SeizeDeclared.rows.reclaim_all.ReclaimAll.{ReclaimAll}
use Rattle.seize_acts.specs.Given.SeizeDeclared.rows.settle.Settled.{Settled}
use Rattle.seize_acts.specs.Given.SeizeDeclared.rows.settle.Settled.TheVariants as settled
use Rattle.play_lists.specs.Given.TablesNodes.{deferred_word, was_left}
use Rattle.play_lists.specs.Given.TablesDeclared.node.Node.{Node}
use Rattle.play_lists.specs.Given.TablesDeclared.setting.Setting.{Setting}
use Rattle.play_lists.specs.Given.EffectsDeclared.changed.Changed.{Changed}
use Rattle.run_logged.specs.Given.CallersTogether.{UnderWay}
use Rattle.play_lists.specs.Given.FinishesEndings.{Finishing}
use Rattle.play_lists.specs.Given.FinishesMachines.{machine_of}
use Rattle.play_lists.specs.Given.FinishesMakings.{Beginning, HasMade}
use Rattle.play_lists.specs.Given.FinishesMaps.{Standing}
use Rattle.run_schedules.specs.Runs.Same.{is_same}
use Rattle.run_schedules.specs.declared.effect.Effect.{Effect}
use Rattle.run_schedules.specs.Schedules.Beginning.{with_map}
use Rattle.run_schedules.specs.Schedules.Effects.{AtEachEffect, with_effects}
use Rattle.run_schedules.specs.Schedules.Moment.{MapThere, Moment, Remains}
use Rattle.run_schedules.specs.Schedules.Transition.{Past, further}
use Rattle.run_schedules.specs.Schedules.Views.{map_at, tables_of}
use Rattle.play_lists.specs.Given.EffectsEffects.{effects_of, known_after}
use Rattle.play_lists.specs.Given.EffectsKnown.{Known}
use Rattle.play_lists.specs.Given.EffectsDeclared.acting.Acting.TheVariants as acts
use Rattle.play_lists.specs.Given.ScenesEnding.{EndingLeads, ending_begun}
use Rattle.play_lists.specs.Given.ScenesHeld.{Held, IsAt}
use Rattle.play_lists.specs.Given.ScenesMaking.{MakingLeads, scene_making}
use Rattle.play_lists.specs.Given.ScenesOnSlots.{RowBegins, RowLeads}
use Rattle.play_lists.specs.Given.ScenesReclaiming.{IsReclaiming, ReclaimingLeads}
use Rattle.play_lists.specs.Given.ScenesRows.{request_of}
use Rattle.play_lists.specs.Given.ScenesScene.{IsOnSlot, Scene, slot_of}
use Rattle.play_lists.specs.Given.ScenesDeclared.row.RowTold.{RowTold}
use Rattle.play_lists.specs.Given.ScenesDeclared.row.SlotCall.{SlotCall}
use Rattle.play_lists.specs.Given.ScenesDeclared.row.SlotRow.{SlotRow}
use Rattle.play_lists.specs.Given.OthersEndings.{ending_after, without_map}
use Rattle.play_lists.specs.Given.OthersMakings.{WasNew, making_after}
use Rattle.play_lists.specs.Given.OthersRows.{scene_then}
use Rattle.run_logged.specs.Given.MomentsEndings.{IsOfIts}
use Rattle.play_lists.proofs.Given.FollowsOperations.{Operated, operated}
use Rattle.play_lists.proofs.Given.OthersRowPlans.{TellsRow}
use Rattle.play_lists.proofs.Given.ScenesMay.{may_reclaim}
use Rattle.play_lists.proofs.Given.KeptOthers.{rows_find_kept}
use Rattle.run_logged.proofs.Log.Reclaiming.Rest.{reclaiming_found}
use Rattle.play_lists.proofs.Given.ShedsReclaiming.Rows.{EmptiesRoot, reclaiming_tells}
use Rattle.play_lists.proofs.Given.ShedsReclaiming.Steps.{reclaiming_whole}
use Rattle.play_lists.proofs.Given.FindsGrows.Steps.{tables_have_been}
use Rattle.play_lists.specs.Given.SettlesCounts.{is_to_count}
use Rattle.play_lists.proofs.Given.SettlesUncounted.{CountsNowhere}
use Rattle.play_lists.specs.Given.ShardsShardWords.{IsUncounted, RefinesShards}
use Rattle.play_lists.proofs.Given.ShardsShardBetween.{counters_stay}
use Rattle.play_lists.proofs.Given.ShardsShardKept.{none_shards, same_setting, word_kept}
use Rattle.play_lists.proofs.Given.ShardsShardMakes.{makings_keep_counters}
use Rattle.play_lists.proofs.Given.ShardsShardOthers.{endings_begin_counters, endings_keep_counters, makings_begin_counters, rows_begin_counters, rows_keep_counters}
use Rattle.run_sweeps.proofs.Purposes.Between.{events_keep_purposes}
use Rattle.run_sweeps.proofs.Purposes.Elsewhere.{purposes_stay}
use Rattle.run_sweeps.proofs.Purposes.Stored.{effects_stored, numbers_last}
use Rattle.play_lists.specs.Given.ActsDoings.{scene_chosen}
use Rattle.run_schedules.specs.Deeds.Deeds.{named}
use Rattle.play_linear.specs.Linear.Shown.{RefinesAnswers}
use Rattle.play_linear.proofs.Linear.Chosen.{shown_chosen}
use Rattle.play_linear.proofs.Linear.Like.{IsLike}
use Rattle.play_linear.specs.Swept.Shown.{IsTabled, RefinesSweeps}
use Rattle.play_linear.proofs.Swept.Tabled.{tabled_stays}

-- with the same calls, who is about to count was so
abbrev Were : {K V : Type 0} → Scene K V → Scene K V → Type 0
Were {K} {V} s t = (of i : ℕ) (u : UnderWay K V K) → t.calls of i ≡ Some u → is_to_count (machine_of u) ≡ true → (before : UnderWay K V K) × (s.calls of i ≡ Some before) × (is_to_count (machine_of before) ≡ true)

same_calls : {K V : Type 0} (s t : Scene K V) → t.calls ≡ s.calls → Were s t
same_calls s t same of i u is counts = (u, ap (λ f. f of i) (sym same) ∙ is, counts)

module _ (K V : Type 0) (same : K → K → Bool) (hash : ℕ → K → ℕ) (log : Past K V) (m : Moment K V) (known : Known) (s : Scene K V) (all : RefinesAnswers same log m known s) (sweeps : RefinesSweeps same log m known s)
    (old new : Held K V) where
  -- tables never go, and none but a call counts
  tabled_on : (acted : Option ℕ) (effects : List Effect) (t : Scene K V) → t.calls ≡ s.calls → IsTabled (with_effects None acted effects m) t
  tabled_on acted effects t calls =
      tabled_stays m (with_effects None acted effects m) s t sweeps.tabled (λ of. tables_have_been K V None acted effects m of) (none_shards acted effects m) (same_calls s t calls)

  module _ (at : IsAt same hash old s) where
    pub sweeps_by_row_begun : (called : SlotCall) (i : ℕ) (leads : RowBegins same hash called i s old new) → RefinesSweeps same log m known (scene_then same hash (Begin i (request_of (slot_of i) called)) s old new leads.2)
    sweeps_by_row_begun called i leads = record {
      purposes = (purposes_stay K V same hash named log).rows_begin m known s old new at all.whole sweeps.purposes called i leads;
      counters = rows_begin_counters K V same hash named m s old new at sweeps.counters called i leads;
      tabled = tabled_on None [] (scene_then same hash (Begin i (request_of (slot_of i) called)) s old new leads.2) refl;
    }

    pub sweeps_by_row : (i : ℕ) (said : RowTold (Node K V)) (leads : RowLeads same hash i said s old new) (row : SlotRow) (here : IsOnSlot s i row)
        → RefinesSweeps same log (with_effects None None (effects_of acts.Row known new.changed) m) (known_after acts.Row new.changed known) (scene_then same hash (Step i) s old new (leads row here).2)
    sweeps_by_row i said leads row here =
        let found = rows_find_kept K V same hash named m known s old new at all.whole all.kept i said leads row here in
        record {
          purposes = (purposes_stay K V same hash named log).rows m known s old new at all.whole sweeps.purposes i said leads row here found.0;
          counters = rows_keep_counters K V same hash named m known s old new at all.whole sweeps.counters i said leads row here;
          tabled = tabled_on None (effects_of acts.Row known new.changed) (scene_then same hash (Step i) s old new (leads row here).2) refl;
        }

    pub sweeps_by_making_begun : (i : ℕ) (b : Beginning K) → (HasMade b.machine.stands → ⊥) → IsUncounted b.map m → IsAt same hash new (scene_making i b s) → RefinesSweeps same log m known (scene_making i b s)
    sweeps_by_making_begun i b not_made uncounted at2 = record {
      purposes = (purposes_stay K V same hash named log).makings_begin m known s old new at all.whole sweeps.purposes i b at2;
      counters = makings_begin_counters K V named m s sweeps.counters i b not_made uncounted;
      tabled = tabled_on None [] (scene_making i b s) refl;
    }

    pub sweeps_by_map_come : (there : MapThere) → tables_of there.number m ≡ [] → RefinesSweeps same log (with_map there m) known s
    sweeps_by_map_come there no_tables = record {
      purposes = (purposes_stay K V same hash named log).maps_come m known s old old at all.whole sweeps.purposes there no_tables;
      counters = counters_stay K V named m (with_map there m) s s sweeps.counters refl refl refl refl refl (λ of j x is removed adds. (x, is, adds));
      tabled = tabled_stays m (with_map there m) s s sweeps.tabled (λ of. omega arith) refl (same_calls s s refl);
    }

    made_calls : (i : ℕ) (said : Making Setting) (leads : MakingLeads same hash i said s old new) (b : Beginning K) (here : s.makers i ≡ Some b)
        → (let to = leads b here in (making_after same hash s old new i b to.0 to.2.step.w2 said to.3).calls ≡ s.calls)
    made_calls i progress.Goes leads b here = refl
    made_calls i progress.Waits leads b here = refl
    made_calls i (progress.Done setting) leads b here = refl
    made_calls i (progress.Refused fault) leads b here = refl

    pub sweeps_by_making : (i : ℕ) (said : Making Setting) (leads : MakingLeads same hash i said s old new) (b : Beginning K) (here : s.makers i ≡ Some b) → WasNew b.map said m
        → (let to = leads b here in
        RefinesSweeps same log (with_effects None (Some b.map) (effects_of (acts.Making b.map) known new.changed) m) (known_after (acts.Making b.map) new.changed known)
        (making_after same hash s old new i b to.0 to.2.step.w2 said to.3))
    sweeps_by_making i said leads b here was_new =
        let to = leads b here in
        record {
          purposes = (purposes_stay K V same hash named log).makings m known s old new at all.whole sweeps.purposes i said leads b here (Some b.map) was_new;
          counters = makings_keep_counters K V same hash named m known s old new at all.whole sweeps.counters i said leads b here (Some b.map);
          tabled = tabled_on (Some b.map) (effects_of (acts.Making b.map) known new.changed) (making_after same hash s old new i b to.0 to.2.step.w2 said to.3) (made_calls i said leads b here);
        }

    pub sweeps_by_end_begun : (map i : ℕ) (standing : Standing K) → s.maps map ≡ Some standing → IsAt same hash new (ending_begun map i standing s) → RefinesSweeps same log m known (ending_begun map i standing s)
    sweeps_by_end_begun map i standing there at2 = record {
      purposes = (purposes_stay K V same hash named log).endings_begin m known s old new at all.whole sweeps.purposes map i standing there at2;
      counters = endings_begin_counters K V named m s sweeps.counters map i standing;
      tabled = tabled_on None [] (ending_begun map i standing s) refl;
    }

    ended_calls : (i : ℕ) (said : Settled (Node K V)) (leads : EndingLeads same hash i said s old new) (f : Finishing K V) (here : s.enders i ≡ Some f)
        → (let to = leads f here in (ending_after same hash s new i f to.0 to.2.w2 to.2.deed said to.3).calls ≡ s.calls)
    ended_calls i settled.Goes leads f here = refl
    ended_calls i settled.Waits leads f here = refl
    ended_calls i (settled.Gave value) leads f here = refl
    ended_calls i settled.Done leads f here = refl

    pub sweeps_by_end : (i : ℕ) (said : Settled (Node K V)) (leads : EndingLeads same hash i said s old new) (f : Finishing K V) (here : s.enders i ≡ Some f) (map : ℕ) → s.maps map ≡ None
        → (let to = leads f here in
        let effects = effects_of (acts.Ending map) known new.changed in
        AtEachEffect (IsOfIts map) None (Some map) effects m
        → RefinesSweeps same log (with_effects None (Some map) effects m) (known_after (acts.Ending map) new.changed known) (ending_after same hash s new i f to.0 to.2.w2 to.2.deed said to.3))
    sweeps_by_end i said leads f here map not_there its =
        let to = leads f here in
        record {
          purposes = (purposes_stay K V same hash named log).endings m known s old new at all.whole sweeps.purposes i said leads f here map not_there its;
          counters = endings_keep_counters K V same hash named m known s old new at sweeps.counters i said leads f here map;
          tabled = tabled_on (Some map) (effects_of (acts.Ending map) known new.changed) (ending_after same hash s new i f to.0 to.2.w2 to.2.deed said to.3) (ended_calls i said leads f here);
        }

    pub sweeps_by_map_gone : (own : List ℕ) (remains : List Remains)
        → ((map : ℕ) (standing : Standing K) (there : MapThere) → s.maps map ≡ Some standing → map_at map m ≡ Some there → is_same there.name own ≡ false)
        → RefinesSweeps same log (without_map own remains m) known s
    sweeps_by_map_gone own remains apart = record {
      purposes = (purposes_stay K V same hash named log).endings_over m known s old old at all.whole sweeps.purposes own remains apart;
      counters = counters_stay K V named m (without_map own remains m) s s sweeps.counters refl refl refl refl refl (λ of j x is removed adds. (x, is, adds));
      tabled = tabled_stays m (without_map own remains m) s s sweeps.tabled (λ of. omega arith) refl (same_calls s s refl);
    }

  -- After a step by which all is reclaimed: no call is under way, and what is told is no word of a count.
  module _ (i : ℕ) (lists : ℕ → List ℕ) (before after : ReclaimAll) (told : Settled (Node K V)) (under_way : IsReclaiming same hash old s i lists before) (leads : ReclaimingLeads same hash s i lists old new before after told) where
    abbrev x : Changed
    x = new.changed

    abbrev v : Moment K V
    v = with_effects None None (effects_of acts.Row known x) m

    abbrev t : Scene K V
    t = record s { world = leads.1.w2; maps = leads.1.maps2 }

    none : {X : Type 0} (map j : ℕ) (u : UnderWay K V K) → s.calls map j ≡ Some u → X
    none map j u here = absurd (let both : None ≡ Some u = sym (under_way.under_way.stand.no_calls map j) ∙ here in cc both)

    nowhere : TellsRow x ⊎ EmptiesRoot x → CountsNowhere known x
    nowhere (inl tells) b field was now of is counter = absurd (subst TellsRow is tells)
    nowhere (inr empties) b field was now of is counter = absurd (subst EmptiesRoot is empties)

    made : Operated s.world.memory leads.1.w2.memory x
    made =
        subst (λ (n : Mem (Node K V)). Operated s.world.memory n x) (sym leads.1.memory)
        (subst (λ (n : Mem (Node K V)). Operated n new.memory x) (sym under_way.memory)
        (operated old.memory new.memory x (reclaim_all_plan deferred_word was_left before) (after, told) (may_reclaim same hash old s i lists before under_way) leads.0))

    shards_then : RefinesShards v t
    shards_then n st is shard few =
        let was = same_setting (s.maps n) (leads.1.maps2 n) (leads.1.as_they_were n) st is in
        let counter = (all.whole.all.shown.maps n was.0 was.1).counter in
        let held = sweeps.counters.shards n was.0 was.1 shard (subst (λ (z : Setting). shard ≤ z.mask) was.2 few) in
        let now = (leads.1.next.stand.together.makings.standing.each n st is).ground.map.shards shard few in
        let one = word_kept known s.world.memory leads.1.w2.memory x made
        (nowhere (reclaiming_tells old.memory new.memory x before before.stands (after, told) leads.0))
        st.setting.counter shard (m.shards n shard) now.0 n (ap (λ (z : Setting). known.roles z.counter) was.2 ∙ counter)
        (ap (λ (z : Setting). word_at s.world.memory (Word z.counter shard)) was.2 ∙ held) now.1 in
        now.1 ∙ ap Some one ∙ ap (λ (f : ℕ → ℕ → ℕ). Some (f n shard)) (sym (none_shards None (effects_of acts.Row known x) m))

    pub sweeps_by_reclaiming : RefinesSweeps same log v (known_after acts.Row x known) t
    sweeps_by_reclaiming =
        let found = reclaiming_found same hash named m known s all.whole all.kept old new i lists before after told under_way leads in
        let whole = reclaiming_whole same hash named m known s all.whole old new i lists before after told under_way leads found.0 found.1 in
        record {
          purposes = record {
            past = sweeps.purposes.past;
            lasts = numbers_last log m v (effects_stored None None (effects_of acts.Row known x) m) sweeps.purposes.lasts;
            shown = whole.all.shown;
            begun = λ n j u is c c_is. none n j u is;
            is_for = λ n j u is c c_is. none n j u is;
            come = λ n j u is st there c c_is. none n j u is;
          };
          counters = record {
            shards = shards_then;
            makes = λ j b is. absurd (let idle = under_way.under_way.stand.no_makers j in cc (idle, is));
            adds = λ of j u is removed to_add c c_is. none of j u is;
          };
          tabled = tabled_on None (effects_of acts.Row known x) t refl;
        }

-- So it is at a moment that is like another one, where an entry is over, and where a choice comes.
module _ {K V : Type 0} (same : K → K → Bool) (log : Past K V) (known : Known) (s : Scene K V) where
  pub sweeps_like : (m v : Moment K V) → RefinesSweeps same log m known s → IsLike m v → RefinesSweeps same log v known s
  sweeps_like m v sweeps like = subst (λ (x : Moment K V). RefinesSweeps same log x known s) (sym like) (record {
    purposes = (purposes_stay K V same (λ n k. 0) named log).alike m other known s sweeps.purposes (record { place = refl; born = refl; stored = refl; maps = refl; tables = refl; calls = refl });
    counters = counters_stay K V named m other s s sweeps.counters refl refl refl refl refl (λ of j x is removed adds. (x, is, adds));
    tabled = tabled_stays m other s s sweeps.tabled (λ of. omega arith) refl (same_calls s s refl);
  })
    where
      other : Moment K V
      other = record m {
        events = v.events;
        is_mapped = v.is_mapped;
        is_closed = v.is_closed;
        is_alone = v.is_alone;
        there = v.there;
        slots = v.slots;
        sheltered = v.sheltered;
        remains = v.remains;
        made = v.made;
      }

  pub sweeps_over : (m v : Moment K V) → RefinesSweeps same log m known s → IsLike m v → v.events ≡ suc log.entries → RefinesSweeps same (further v log) v known s
  sweeps_over m v sweeps like counted =
      let now = sweeps_like m v sweeps like in record { purposes = events_keep_purposes K V same named log v known s now.purposes counted; counters = now.counters; tabled = now.tabled }

  -- Where a choice of a number comes it is as before.
  pub sweeps_chosen : (m : Moment K V) → RefinesAnswers same log m known s → RefinesSweeps same log m known s → (choice : ℕ) → RefinesSweeps same log m known (scene_chosen choice s)
  sweeps_chosen m all sweeps choice = record {
    purposes = record {
      past = sweeps.purposes.past;
      lasts = sweeps.purposes.lasts;
      shown = shown_chosen same choice log m known s all sweeps.purposes.shown;
      begun = sweeps.purposes.begun;
      is_for = sweeps.purposes.is_for;
      come = sweeps.purposes.come;
    };
    counters = record { shards = sweeps.counters.shards; makes = sweeps.counters.makes; adds = sweeps.counters.adds };
    tabled = record { maps = sweeps.tabled.maps; counts = sweeps.tabled.counts };
  }
