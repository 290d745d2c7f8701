-- By each kind of step a history stays one whose entries that are steps of calls find what they must.
use Rattle.std.specs.Prelude.{◌≡◌, ◌⊎◌, ◌<◌, ℕ, Bool, true, List, [], ◌∷◌, length, Option, Some, None}
use Rattle.std.proofs.Common.{refl, ap, sym, subst, ◌∙◌, arith, inl, inr}
use Rattle.seize_acts.specs.Given.SeizeWorld.{Step}
use Rattle.seize_acts.specs.Given.SeizeDeclared.advance.Advance.{Advance as Making}
use Rattle.seize_acts.specs.Given.SeizeDeclared.advance.Advance.TheVariants as progress
use Rattle.play_linear.specs.Given.TablesLengths.{entries_of}
use Rattle.run_legal.specs.Given.TablesDeclared.setting.Setting.{Setting}
use Rattle.run_schedules.specs.declared.effect.Effect.{Effect}
use Rattle.run_schedules.specs.declared.outcome.Outcome.{Outcome}
use Rattle.run_schedules.specs.declared.outcome.Outcome.TheVariants as outcome
use Rattle.run_schedules.specs.Schedules.Beginning.{with_call, with_map}
use Rattle.run_schedules.specs.Schedules.Effects.{with_effects}
use Rattle.run_schedules.specs.Schedules.Growing.{Has}
use Rattle.run_schedules.specs.Schedules.Moment.{MapThere, Moment, UnderWay as CallThere}
use Rattle.run_schedules.specs.Schedules.Terms.{Terms}
use Rattle.run_schedules.specs.Schedules.Views.{capacity_or, map_at}
use Rattle.run_legal.specs.Given.CallersTogether.{OverAll}
use Rattle.run_legal.specs.Given.EffectsEffects.{effects_of, known_after}
use Rattle.run_legal.specs.Given.EffectsKnown.{Known}
use Rattle.run_legal.specs.Given.EffectsDeclared.acting.Acting.TheVariants as acts
use Rattle.run_legal.specs.Given.FinishesMakings.{Beginning}
use Rattle.run_legal.specs.Given.FinishesMaps.{with_call as with_call_of}
use Rattle.run_legal.specs.Given.FindsLinking.{IsMadeFor}
use Rattle.run_legal.specs.Given.FindsWithin.{AllIsInOrder, many_of}
use Rattle.run_legal.specs.Given.FollowsCalling.{come_to, told}
use Rattle.run_legal.specs.Given.NamedSeen.{kind_of}
use Rattle.run_legal.specs.Given.OthersEndings.{ending_after, without_map}
use Rattle.run_legal.specs.Given.OthersMakings.{WasNew, making_after}
use Rattle.run_legal.specs.Given.OthersRows.{scene_then}
use Rattle.run_legal.specs.Given.OthersWalks.{given_up}
use Rattle.run_legal.specs.Given.ScenesReplying.{scene_with, unless_stopped}
use Rattle.run_legal.specs.Given.ScenesScene.{Scene, slot_of}
use Rattle.run_legal.specs.Given.ScenesStepping.{scene_after}
use Rattle.run_legal.specs.MapEvents.{HasNotMade}
use Rattle.run_legal.proofs.Sourced.{sources_so}
use Rattle.run_legal.specs.Given.SourcesStays.{NoneBorn}
use Rattle.run_legal.proofs.Given.SourcesSteps.{calls_keep_sources}
use Rattle.threads_rule.specs.Given.ActsActs.{begun}
use Rattle.run_schedules.specs.Deeds.Deeds.{Begins, Deed, Ends, Entry, Leaves, Makes, MapFails, MapGoes, Opens, ReclaimsAll, Registers, Replies, Shuts, Steps, Stops, Tends, acted_on, after, come, map_of_call, moment, named, worked}
use Rattle.run_schedules.specs.Deeds.History.{past}
use Rattle.play_linear.specs.Given.PlayedPlay.{call_for, is_over, is_refusal, making_outcome, outcome_of, row_deed, settled_outcome}
use Rattle.play_linear.proofs.Linear.CallsGo.{calls_step}
use Rattle.play_linear.proofs.Linear.Like.{IsLike, likes_answer}
use Rattle.play_linear.proofs.Linear.OthersGo.{all_step, ends_step, makings_step, maps_come, maps_go, rows_step}
use Rattle.play_linear.proofs.Linear.RowsPlayed.{IsOfRow, is_of_row, rows_like}
use Rattle.play_linear.proofs.Swept.Calls.{sweeps_begin, sweeps_step, sweeps_stop, sweeps_take}
use Rattle.play_linear.proofs.Swept.Instance.{sweeps_are_kept}
use Rattle.play_linear.proofs.Swept.Kept.{IsKept, alone, coming, comes_by}
use Rattle.play_linear.proofs.Swept.Others.{sweeps_by_end, sweeps_by_making, sweeps_by_map_come, sweeps_by_map_gone, sweeps_by_reclaiming, sweeps_by_row, sweeps_like}
use Rattle.play_linear.proofs.Swept.SweptBy.{pair_words}
use Rattle.play_moves.specs.Moves.Steps.{HasFound, InOrderSoFar, OfStep, StepsMay}
use Rattle.play_moves.proofs.Moves.Steps.ByCalls.{steps_begin, steps_go_on, steps_step, steps_stop, steps_take}
use Rattle.play_moves.proofs.Moves.Steps.ByMakings.{steps_by_making, steps_by_making_begun, steps_by_map_come}
use Rattle.play_moves.proofs.Moves.Steps.ByOthers.{steps_by_choice, steps_by_end, steps_by_end_begun, steps_by_map_gone, steps_by_reclaiming, steps_by_row, steps_by_row_begun}
use Rattle.play_moves.proofs.Moves.Steps.Find.{step_finds, step_stores}
use Rattle.play_moves.proofs.Moves.Steps.Over.{steps_come, steps_over}
use Rattle.run_schedules.proofs.Given.General.{same_some}

module _ {K V : Type 0} where
  pub order_now : (history : List (Entry K V)) → InOrderSoFar history → AllIsInOrder (moment history)
  order_now [] order = order
  order_now (e ∷ log) order = order.0

  -- a row's entry is no step of a call
  row_of_none : (So : Type 0) (d : Deed K V) → IsOfRow d → OfStep d So
  row_of_none So (Registers s) is = tt
  row_of_none So (Opens s) is = tt
  row_of_none So (Shuts s) is = tt
  row_of_none So (Leaves s) is = tt
  row_of_none So (Tends s) is = tt
  row_of_none So (ReclaimsAll last) is = tt
  row_of_none So _ is = absurd is

  -- a step of a making has not made its map, or that is there as it was asked for, and no pair was stored in it
  made_or : (b : Beginning K) (m : Moment K V) → ((f : MapThere) → map_at b.map m ≡ Some f → Has (entries_of f.capacity) b.given.initial) → AllIsInOrder m → (said : Making Setting) → WasNew b.map said m
      → HasNotMade said ⊎ (IsMadeFor b.map m b.given × NoneBorn b.map m)
  made_or b m has order progress.Goes new = inl tt
  made_or b m has order progress.Waits new = inl tt
  made_or b m has order (progress.Refused fault) new = inl tt
  made_or b m has order (progress.Done setting) new = inr (
    subst (λ (o : Option MapThere). Has (entries_of (capacity_or o)) b.given.initial) (sym new.is) (has new.there new.is),
    λ k some most is.
        (let none = ap length new.no_tables in
        let lies = subst (λ (of : ℕ). (m.spot k).turn < many_of of m) is (order.within.spots k some most) in
        omega (arith, none, lies)),
  )

module _ {K V : Type 0} (same : K → K → Bool) (hash : ℕ → K → ℕ) (terms : Terms) where
  abbrev pub May : List (Entry K V) → Known → Scene K V → Type 0
  May history known s = StepsMay terms history s

  abbrev pub Found : List (Entry K V) → Known → Scene K V → Type 0
  Found history known s = HasFound same terms history known s

  pub steps_are_kept : IsKept same hash May Found
  steps_are_kept = record {
    calls_begin = λ history known s old new at all may has map i standing there wanted begins none rests at2 shows.
        (let m : Moment K V = moment history in
        let t : Scene K V = scene_with map i (begun same slot_of standing i wanted) s in
        let e : Entry K V = alone (Begins i (slot_of i) map (call_for wanted)) outcome.Goes in
        let v : Moment K V = with_call (named i) (named (slot_of i)) (call_for wanted) (Some map) m in
        let sweeps = sweeps_begin same hash (past history) known s old new at all has.swept.shows map i standing there wanted begins none in
        record {
          swept = (sweeps_are_kept same hash terms).calls_begin history known s old new at all may.shards has.swept map i standing there wanted begins none rests at2 shows;
          shows = λ order.
              (let steps = has.shows order.1 in
              let but =
              steps_begin same hash (past history) known s old new at all has.swept.shows.purposes steps map i standing (begun same slot_of standing i wanted) (call_for wanted) (named (slot_of i)) begins none in
              steps_over same (past history) known t v (after e m) sweeps.purposes.begun but.finding but.nexts but.tries refl
              (sources_so K V same named m (after e m) known known s t steps.sources shows.whole.all.shown refl refl refl (λ n st is. is)));
          each = (tt, has.each);
        });
    calls_step = λ history known s old new at all may has map i u here said leads d d_is called called_is value keeps ended shows.
        (let m : Moment K V = moment history in
        let known2 = known_after (acts.Call i map) new.changed known in
        let effects : List Effect = effects_of (acts.Call i map) known new.changed in
        let t : Scene K V = (let to = leads map u here in scene_after same s old new map i to.0 u to.1 said to.4) in
        let o : Outcome V = outcome_of known2 (kind_of called) value said in
        let e : Entry K V = record { deed = Steps i; outcome = o; effects = effects; refused = is_refusal new.changed } in
        let shown = all.whole.all.shown.calls map i u here in
        let on_map : d.map ≡ map = ap (λ (c : CallThere K V). c.map) (same_some d shown.0 (sym d_is ∙ shown.1)) ∙ shown.2 in
        let acted : acted_on {K = K} {V = V} (Steps i) m ≡ Some map = ap map_of_call d_is ∙ ap Some on_map in
        let v : Moment K V = with_effects (Some (named i)) (Some map) effects m in
        let worked_is : worked e m ≡ v = ap (λ (a : Option ℕ). with_effects (Some (named i)) a effects m) acted in
        let like : IsLike (come_to (named i) o 1 v) (after e m) = subst (λ (x : Moment K V). IsLike (come_to (named i) o 1 x) (after e m)) worked_is refl in
        let sweeps =
        sweeps_step same hash (past history) known s old new at all has.swept.shows map i u here said leads called value
        (pair_words same hash history known s old new at all has.swept.shows.purposes map i u here said leads d d_is) ended in
        record {
          swept = (sweeps_are_kept same hash terms).calls_step history known s old new at all may.shards has.swept map i u here said leads d d_is called called_is value keeps ended shows;
          shows = λ order.
              (let steps = has.shows order.1 in
              let then_all = calls_step K V same hash (past history) known s old at all map i new u here said leads in
              let but = steps_step same hash (past history) known s old new at all has.swept.shows.purposes steps map i u here said leads then_all o ended in
              steps_over same (past history) known2 t (come_to (named i) o 1 v) (after e m) sweeps.purposes.begun but.finding but.nexts but.tries like
              (sources_so K V same named v (after e m) known2 known2 t t (calls_keep_sources K V same hash named m known s old new at all.whole steps.sources map i u here said leads) shows.whole.all.shown
              (ap (λ (x : Moment K V). x.stored) worked_is) (ap (λ (x : Moment K V). x.born) worked_is) (ap (λ (x : Moment K V). x.spot) worked_is) (λ n st is. is)));
          each = (
            (
              λ order. step_finds same hash terms history known s old new at all may map i u here said leads d d_is has.swept.shows.purposes (has.shows order) (order_now history order) o (is_refusal new.changed),
              step_stores same hash terms history known s old new at all may map i u here said leads d d_is o (is_refusal new.changed),
            ),
            has.each,
          );
        });
    calls_take = λ history known s old new at all may has map i u here d d_is question asks standing there reply next next_is takes kind at2 shows.
        (let m : Moment K V = moment history in
        let t : Scene K V = scene_with map i next s in
        let e : Entry K V = alone (Replies i reply) outcome.Goes in
        let sweeps = sweeps_take same hash (past history) known s old new at all has.swept.shows map i u here d d_is question asks standing there reply next next_is takes kind in
        record {
          swept = (sweeps_are_kept same hash terms).calls_take history known s old new at all may.shards has.swept map i u here d d_is question asks standing there reply next next_is takes kind at2 shows;
          shows = λ order.
              (let steps = has.shows order.1 in
              let but =
              steps_take same hash (past history) known s old new at all has.swept.shows.purposes steps map i u here reply next next_is (record { owed = shows.kept.owed.owed; noted = shows.kept.owed.noted }) in
              steps_over same (past history) known t (told (named i) reply m) (after e m) sweeps.purposes.begun but.finding but.nexts but.tries refl
              (sources_so K V same named m (after e m) known known s t steps.sources shows.whole.all.shown refl refl refl (λ n st is. is)));
          each = (tt, has.each);
        });
    walks_go_on = λ history known s old new at all may has map i leads o here is shows. record {
      swept = (sweeps_are_kept same hash terms).walks_go_on history known s old new at all may.shards has.swept map i leads o here is shows;
      shows = λ order.
          (let steps = has.shows order in
          let but = steps_go_on same hash (past history) known s old new at all has.swept.shows.purposes steps map i leads o here shows in
          record {
            finding = but.finding;
            nexts = but.nexts;
            tries = but.tries;
            sources = sources_so K V same named (moment history) (moment history) known known s (scene_with map i (leads map (OverAll o) here).0 s) steps.sources shows.whole.all.shown refl refl refl (λ n st is. is);
          });
      each = has.each;
    };
    walks_stop = λ history known s old new at all may has map i leads u here none shows.
        (let m : Moment K V = moment history in
        let t : Scene K V = record s { calls = with_call_of s.calls map i (unless_stopped true u) } in
        let e : Entry K V = alone (Stops i) outcome.Done in
        let sweeps = sweeps_stop same hash (past history) known s old new at all has.swept.shows map i leads u here none in
        record {
          swept = (sweeps_are_kept same hash terms).walks_stop history known s old new at all may.shards has.swept map i leads u here none shows;
          shows = λ order.
              (let steps = has.shows order.1 in
              let but =
              steps_stop same hash (past history) known s old new at all has.swept.shows.purposes steps map i u here none (record { owed = shows.kept.owed.owed; noted = shows.kept.owed.noted }) in
              steps_over same (past history) known t (given_up (named i) true m) (after e m) sweeps.purposes.begun but.finding but.nexts but.tries refl
              (sources_so K V same named m (after e m) known known s t steps.sources shows.whole.all.shown refl refl refl (λ n st is. is)));
          each = (tt, has.each);
        });
    rows_begin = λ history known s old new at all may has called i leads shows. record {
      swept = (sweeps_are_kept same hash terms).rows_begin history known s old new at all may.shards has.swept called i leads shows;
      shows = λ order. steps_by_row_begun same hash (past history) (moment history) known s all (has.shows order) old new at called i leads shows;
      each = has.each;
    };
    rows_step = λ history known s old new at all may has i said leads row here o shows.
        (let m : Moment K V = moment history in
        let known2 = known_after acts.Row new.changed known in
        let effects : List Effect = effects_of acts.Row known new.changed in
        let t : Scene K V = scene_then same hash (Step i) s old new (leads row here).2 in
        let e : Entry K V = record { deed = row_deed row; outcome = o; effects = effects; refused = is_refusal new.changed } in
        let sweeps = sweeps_by_row K V same hash (past history) m known s all has.swept.shows old new at i said leads row here in
        record {
          swept = (sweeps_are_kept same hash terms).rows_step history known s old new at all may.shards has.swept i said leads row here o shows;
          shows = λ order.
              steps_come same (past history) known2 t (with_effects None None effects m) (after e m) sweeps.purposes.begun
              (steps_by_row same hash (past history) m known s all (has.shows order.1) old new at i said leads row here (rows_step K V same hash (past history) m known s all old new at i said leads row here))
              (rows_like (row_deed row) (is_of_row K V row) o effects (is_refusal new.changed) m) shows.whole.all.shown;
          each = (row_of_none _ (row_deed row) (is_of_row K V row), has.each);
        });
    all_step = λ history known s old new all has i lists before next told at leads shows.
        (let m : Moment K V = moment history in
        let known2 = known_after acts.Row new.changed known in
        let effects : List Effect = effects_of acts.Row known new.changed in
        let t : Scene K V = record s { world = leads.1.w2; maps = leads.1.maps2 } in
        let e : Entry K V = record { deed = ReclaimsAll (is_over told); outcome = settled_outcome told; effects = effects; refused = is_refusal new.changed } in
        let sweeps = sweeps_by_reclaiming K V same hash (past history) m known s all has.swept.shows old new i lists before next told at leads in
        record {
          swept = (sweeps_are_kept same hash terms).all_step history known s old new all has.swept i lists before next told at leads shows;
          shows = λ order.
              steps_come same (past history) known2 t (with_effects None None effects m) (after e m) sweeps.purposes.begun
              (steps_by_reclaiming same hash (past history) m known s all (has.shows order.1) old new i lists before next told at leads
              (all_step K V same hash (past history) m known s all old new i lists before next told at leads))
              (rows_like (ReclaimsAll (is_over told)) tt (settled_outcome told) effects (is_refusal new.changed) m) shows.whole.all.shown;
          each = (tt, has.each);
        });
    makings_begin = λ history known s old new at all may has i b none not_made fresh at2 shows. record {
      swept = (sweeps_are_kept same hash terms).makings_begin history known s old new at all may.shards has.swept i b none not_made fresh at2 shows;
      shows = λ order. steps_by_making_begun same hash (past history) (moment history) known s all (has.shows order) old new i b shows;
      each = has.each;
    };
    makings_step = λ history known s old new at all may has i said leads b here was_new at2 shows.
        (let m : Moment K V = moment history in
        let known2 = known_after (acts.Making b.map) new.changed known in
        let effects : List Effect = effects_of (acts.Making b.map) known new.changed in
        let t : Scene K V = (let to = leads b here in making_after same hash s old new i b to.0 to.2.step.w2 said to.3) in
        let e : Entry K V = record { deed = Makes b.map; outcome = making_outcome said; effects = effects; refused = is_refusal new.changed } in
        let sweeps = sweeps_by_making K V same hash (past history) m known s all has.swept.shows old new at i said leads b here was_new in
        record {
          swept = (sweeps_are_kept same hash terms).makings_step history known s old new at all may.shards has.swept i said leads b here was_new at2 shows;
          shows = λ order.
              steps_come same (past history) known2 t (with_effects None (Some b.map) effects m) (after e m) sweeps.purposes.begun
              (steps_by_making same hash (past history) m known s all (has.shows order.1) old new at i said leads b here was_new at2
              (makings_step K V same hash (past history) m known s all old new at i said leads b here was_new) (made_or b m (may.capacities i b here) (order_now history order.1) said was_new)) refl shows.whole.all.shown;
          each = (tt, has.each);
        });
    maps_come = λ history known s old new at all may has i said leads b here next had on no_tables was_new at2 shows.
        (let known2 = known_after (acts.Making b.map) new.changed known in
        let effects : List Effect = effects_of (acts.Making b.map) known new.changed in
        let t : Scene K V = (let to = leads b here in making_after same hash s old new i b to.0 to.2.step.w2 said to.3) in
        let e : Entry K V = record { deed = comes_by b next; outcome = making_outcome said; effects = effects; refused = is_refusal new.changed } in
        let m : Moment K V = moment history in
        let v : Moment K V = come (coming b next) m in
        let then_all = likes_answer same (past history) known s (with_map (coming b next) m) v (maps_come K V same hash (past history) m known s all old new at (coming b next) no_tables) refl in
        let then_sweeps =
        sweeps_like same (past history) known s (with_map (coming b next) m) v (sweeps_by_map_come K V same hash (past history) m known s all has.swept.shows old new at (coming b next) no_tables) refl in
        let sweeps = sweeps_by_making K V same hash (past history) v known s then_all then_sweeps old new at i said leads b here was_new in
        record {
          swept = (sweeps_are_kept same hash terms).maps_come history known s old new at all may.shards has.swept i said leads b here next had on no_tables was_new at2 shows;
          shows = λ order.
              steps_come same (past history) known2 t (with_effects None (Some b.map) effects v) (after e m) sweeps.purposes.begun
              (steps_by_making same hash (past history) v known s then_all
              (steps_by_map_come same hash (past history) m known s all (has.shows order.1) old new at (coming b next) (at.together.makings.coming i b here) then_all) old new at i said leads b here was_new at2
              (makings_step K V same hash (past history) v known s then_all old new at i said leads b here was_new) (inl (subst HasNotMade (sym on) tt))) refl shows.whole.all.shown;
          each = (tt, has.each);
        });
    maps_fail = λ history known s old new at all may has i said leads b here was_new found apart at2 shows.
        (let m : Moment K V = moment history in
        let known2 = known_after (acts.Making b.map) new.changed known in
        let effects : List Effect = effects_of (acts.Making b.map) known new.changed in
        let t : Scene K V = (let to = leads b here in making_after same hash s old new i b to.0 to.2.step.w2 said to.3) in
        let e : Entry K V = record { deed = MapFails b.map; outcome = making_outcome said; effects = effects; refused = is_refusal new.changed } in
        let v : Moment K V = with_effects None (Some b.map) effects m in
        let then_all = makings_step K V same hash (past history) m known s all old new at i said leads b here was_new in
        let then_sweeps = sweeps_by_making K V same hash (past history) m known s all has.swept.shows old new at i said leads b here was_new in
        let sweeps = sweeps_by_map_gone K V same hash (past history) v known2 t then_all then_sweeps new new at2 (named b.map) v.remains apart in
        record {
          swept = (sweeps_are_kept same hash terms).maps_fail history known s old new at all may.shards has.swept i said leads b here was_new found apart at2 shows;
          shows = λ order.
              steps_come same (past history) known2 t (without_map (named b.map) v.remains v) (after e m) sweeps.purposes.begun
              (steps_by_map_gone same hash (past history) v known2 t then_all
              (steps_by_making same hash (past history) m known s all (has.shows order.1) old new at i said leads b here was_new at2 then_all
              (made_or b m (may.capacities i b here) (order_now history order.1) said was_new)) new new at2 b.map v.remains apart
              (maps_go K V same hash (past history) v known2 t then_all new new at2 (named b.map) v.remains found apart)) refl shows.whole.all.shown;
          each = (tt, has.each);
        });
    ends_begin = λ history known s old new at all may has map i standing there none at2 shows. record {
      swept = (sweeps_are_kept same hash terms).ends_begin history known s old new at all may.shards has.swept map i standing there none at2 shows;
      shows = λ order. steps_by_end_begun same hash (past history) (moment history) known s all (has.shows order) old new at map i standing there shows;
      each = has.each;
    };
    ends_step = λ history known s old new at all may has i said leads f here map not_there its at2 shows.
        (let m : Moment K V = moment history in
        let known2 = known_after (acts.Ending map) new.changed known in
        let effects : List Effect = effects_of (acts.Ending map) known new.changed in
        let t : Scene K V = (let to = leads f here in ending_after same hash s new i f to.0 to.2.w2 to.2.deed said to.3) in
        let e : Entry K V = record { deed = Ends map; outcome = settled_outcome said; effects = effects; refused = is_refusal new.changed } in
        let sweeps = sweeps_by_end K V same hash (past history) m known s all has.swept.shows old new at i said leads f here map not_there its in
        record {
          swept = (sweeps_are_kept same hash terms).ends_step history known s old new at all may.shards has.swept i said leads f here map not_there its at2 shows;
          shows = λ order.
              steps_come same (past history) known2 t (with_effects None (Some map) effects m) (after e m) sweeps.purposes.begun
              (steps_by_end same hash (past history) m known s all (has.shows order.1) old new at i said leads f here map not_there at2
              (ends_step K V same hash (past history) m known s all old new at i said leads f here map not_there its)) refl shows.whole.all.shown;
          each = (tt, has.each);
        });
    maps_go = λ history known s old new at all may has i said leads f here map not_there its found apart at2 shows.
        (let m : Moment K V = moment history in
        let known2 = known_after (acts.Ending map) new.changed known in
        let effects : List Effect = effects_of (acts.Ending map) known new.changed in
        let t : Scene K V = (let to = leads f here in ending_after same hash s new i f to.0 to.2.w2 to.2.deed said to.3) in
        let e : Entry K V = record { deed = MapGoes map; outcome = settled_outcome said; effects = effects; refused = is_refusal new.changed } in
        let v : Moment K V = with_effects None (Some map) effects m in
        let then_all = ends_step K V same hash (past history) m known s all old new at i said leads f here map not_there its in
        let then_sweeps = sweeps_by_end K V same hash (past history) m known s all has.swept.shows old new at i said leads f here map not_there its in
        let sweeps = sweeps_by_map_gone K V same hash (past history) v known2 t then_all then_sweeps new new at2 (named map) v.remains apart in
        record {
          swept = (sweeps_are_kept same hash terms).maps_go history known s old new at all may.shards has.swept i said leads f here map not_there its found apart at2 shows;
          shows = λ order.
              steps_come same (past history) known2 t (without_map (named map) v.remains v) (after e m) sweeps.purposes.begun
              (steps_by_map_gone same hash (past history) v known2 t then_all
              (steps_by_end same hash (past history) m known s all (has.shows order.1) old new at i said leads f here map not_there at2 then_all) new new at2 map v.remains apart
              (maps_go K V same hash (past history) v known2 t then_all new new at2 (named map) v.remains found apart)) refl shows.whole.all.shown;
          each = (tt, has.each);
        });
    choices_come = λ history known s all has choice shows. record {
      swept = (sweeps_are_kept same hash terms).choices_come history known s all has.swept choice shows;
      shows = λ order. steps_by_choice same (past history) (moment history) known s all (has.shows order) choice shows;
      each = has.each;
    };
  }
