-- What a moment shows of steps of calls it shows, too, where rows and ends of maps begin, and take their steps, and where all is reclaimed.
use Rattle.std.specs.Prelude.{◌≡◌, ◌==◌, ℕ, Bool, not, List, Option, Some, None}
use Rattle.std.proofs.Common.{refl, ap, sym, subst, ◌∙◌}
use Rattle.seize_acts.specs.Given.SeizeWorld.{Begin, Step}
use Rattle.seize_acts.specs.Given.SeizeDeclared.rows.reclaim_all.ReclaimAll.{ReclaimAll}
use Rattle.seize_acts.specs.Given.SeizeDeclared.rows.settle.Settled.{Settled}
use Rattle.run_legal.specs.Given.TablesDeclared.node.Node.{Node}
use Rattle.run_schedules.specs.Runs.Same.{is_same}
use Rattle.run_schedules.specs.declared.effect.Effect.{Effect}
use Rattle.run_schedules.specs.Schedules.Effects.{with_effects}
use Rattle.run_schedules.specs.Schedules.Moment.{Moment, Remains}
use Rattle.run_schedules.specs.Schedules.Transition.{Past}
use Rattle.run_schedules.specs.Schedules.Views.{map_at}
use Rattle.run_legal.specs.Given.CallersTogether.{UnderWay}
use Rattle.run_legal.specs.Given.EffectsEffects.{effects_of, known_after}
use Rattle.run_legal.specs.Given.EffectsKnown.{Known}
use Rattle.run_legal.specs.Given.EffectsDeclared.acting.Acting.TheVariants as acts
use Rattle.run_legal.specs.Given.FinishesEndings.{Finishing}
use Rattle.run_legal.specs.Given.FinishesMaps.{Standing}
use Rattle.run_legal.specs.Given.FindsCapacities.{StoodSo}
use Rattle.run_legal.specs.Given.OthersEndings.{ending_after, without_map}
use Rattle.run_legal.specs.Given.OthersRows.{scene_then}
use Rattle.run_legal.specs.Given.ScenesEnding.{EndingLeads, ending_begun}
use Rattle.run_legal.specs.Given.ScenesHeld.{Held, IsAt}
use Rattle.run_legal.specs.Given.ScenesOnSlots.{RowBegins, RowLeads}
use Rattle.run_legal.specs.Given.ScenesReclaiming.{IsReclaiming, ReclaimingLeads}
use Rattle.run_legal.specs.Given.ScenesRows.{request_of}
use Rattle.run_legal.specs.Given.ScenesScene.{IsOnSlot, Scene, slot_of}
use Rattle.run_legal.specs.Given.ScenesDeclared.row.RowTold.{RowTold}
use Rattle.run_legal.specs.Given.ScenesDeclared.row.SlotCall.{SlotCall}
use Rattle.run_legal.specs.Given.ScenesDeclared.row.SlotRow.{SlotRow}
use Rattle.run_legal.proofs.Given.SpotsEffects.{AllAside}
use Rattle.run_legal.proofs.Given.GrowsFinding.Alike.{finding_fewer}
use Rattle.run_legal.proofs.Given.GrowsFinding.Aside.{endings_aside, rows_aside}
use Rattle.run_legal.proofs.Given.GrowsFinding.Between.{finding_where, found_kept}
use Rattle.run_legal.proofs.Given.GrowsFinding.Nexts.{nexts_where}
use Rattle.run_legal.proofs.Given.GrowsFinding.NextsOthers.{endings_keep_nexts, rows_begin_nexts, rows_keep_nexts}
use Rattle.run_legal.proofs.Given.GrowsFinding.Others.{ended_maps, endings_keep_finding, finding_of_none, rows_begin_finding, rows_keep_finding}
use Rattle.run_legal.proofs.Given.GrowsTries.Others.{endings_keep_tries, rows_begin_tries, rows_keep_tries}
use Rattle.run_legal.proofs.Given.GrowsTries.Shows.{tries_where}
use Rattle.run_legal.proofs.OfAll.Tells.{gone_by, it_reclaims}
use Rattle.run_legal.proofs.Sourced.{ends_leave, reclaimed_aside, same_maps_aside, so_aside, sources_same, sources_so}
use Rattle.play_linear.specs.Given.ActsDoings.{scene_chosen}
use Rattle.run_schedules.specs.Deeds.Deeds.{named}
use Rattle.play_linear.specs.Linear.Shown.{RefinesAnswers}
use Rattle.play_linear.proofs.Linear.MapsPlayed.{IsApart}
use Rattle.play_moves.specs.Moves.Steps.{RefinesSteps}

-- where a choice comes
pub steps_by_choice : {K V : Type 0} (same : K → K → Bool) (log : Past K V) (m : Moment K V) (known : Known) (s : Scene K V) → RefinesAnswers same log m known s → RefinesSteps same log m known s → (choice : ℕ)
    → RefinesAnswers same log m known (scene_chosen choice s) → RefinesSteps same log m known (scene_chosen choice s)
steps_by_choice same log m known s all steps choice then_all = record {
  finding = finding_fewer _ _ same named m m known s (scene_chosen choice s) all.whole.all.shown.calls all.kept.owed then_all.kept.owed (λ n j x is. is) (λ n st stands. (st, stands, refl)) refl refl refl refl refl refl steps.finding;
  nexts = steps.nexts;
  tries = steps.tries;
  sources = sources_so _ _ same named m m known known s (scene_chosen choice s) steps.sources then_all.whole.all.shown refl refl refl (λ n st is. is);
}

module _ {K V : Type 0} (same : K → K → Bool) (hash : ℕ → K → ℕ) (log : Past K V) (m : Moment K V) (known : Known) (s : Scene K V) (all : RefinesAnswers same log m known s) (steps : RefinesSteps same log m known s)
    (old new : Held K V) where
  module _ (at : IsAt same hash old s) where
    -- where a row begins, and takes a step
    pub steps_by_row_begun : (called : SlotCall) (i : ℕ) (leads : RowBegins same hash called i s old new)
        → (let t = scene_then same hash (Begin i (request_of (slot_of i) called)) s old new leads.2 in RefinesAnswers same log m known t → RefinesSteps same log m known t)
    steps_by_row_begun called i leads then_all = record {
      finding = rows_begin_finding K V same hash named m known s old new steps.finding called i leads then_all.whole;
      nexts = rows_begin_nexts K V same hash named log m known s old new steps.nexts called i leads;
      tries = rows_begin_tries K V same hash named log m known s old new steps.sources steps.tries called i leads then_all.whole;
      sources = sources_same K V same named m m known known s (scene_then same hash (Begin i (request_of (slot_of i) called)) s old new leads.2) steps.sources then_all.whole.all.shown refl refl refl leads.2.3;
    }

    pub steps_by_row : (i : ℕ) (said : RowTold (Node K V)) (leads : RowLeads same hash i said s old new) (row : SlotRow) (here : IsOnSlot s i row)
        → (let v = with_effects None None (effects_of acts.Row known new.changed) m in
        let known2 = known_after acts.Row new.changed known in
        let t = scene_then same hash (Step i) s old new (leads row here).2 in
        RefinesAnswers same log v known2 t → RefinesSteps same log v known2 t)
    steps_by_row i said leads row here then_all = record {
      finding = rows_keep_finding K V same hash named m known s old new at all.whole steps.finding i said leads row here then_all.whole;
      nexts = rows_keep_nexts K V same hash named log m known s old new steps.nexts at all.whole i said leads row here;
      tries = rows_keep_tries K V same hash named log m known s old new steps.sources steps.tries at all.whole i said leads row here then_all.whole;
      sources = same_maps_aside K V same named m known (known_after acts.Row new.changed known) s (scene_then same hash (Step i) s old new (leads row here).2) None None (effects_of acts.Row known new.changed)
          (rows_aside same hash named m known s old new at i said leads row here) steps.sources then_all.whole.all.shown (leads row here).2.3;
    }

    -- where an end begins, and takes a step
    pub steps_by_end_begun : (map i : ℕ) (standing : Standing K) → s.maps map ≡ Some standing → RefinesAnswers same log m known (ending_begun map i standing s) → RefinesSteps same log m known (ending_begun map i standing s)
    steps_by_end_begun map i standing there then_all = record {
      finding = finding_fewer K V same named m m known s (ending_begun map i standing s) all.whole.all.shown.calls all.kept.owed then_all.kept.owed (λ n j x is. is) stood refl refl refl refl refl refl steps.finding;
      nexts = steps.nexts;
      tries = steps.tries;
      sources = sources_so K V same named m m known known s (ending_begun map i standing s) steps.sources then_all.whole.all.shown refl refl refl (ends_leave s map i standing);
    }
      where
        stood : StoodSo s (ending_begun map i standing s)
        stood n st stands = (st, ends_leave s map i standing n st stands, refl)

    pub steps_by_end : (i : ℕ) (said : Settled (Node K V)) (leads : EndingLeads same hash i said s old new) (f : Finishing K V) (here : s.enders i ≡ Some f) (map : ℕ) → s.maps map ≡ None
        → (let to = leads f here in
        let v = with_effects None (Some map) (effects_of (acts.Ending map) known new.changed) m in
        let known2 = known_after (acts.Ending map) new.changed known in
        let t = ending_after same hash s new i f to.0 to.2.w2 to.2.deed said to.3 in
        IsAt same hash new t → RefinesAnswers same log v known2 t → RefinesSteps same log v known2 t)
    steps_by_end i said leads f here map not_there at2 then_all =
        let to = leads f here in
        let effects : List Effect = effects_of (acts.Ending map) known new.changed in
        record {
          finding = endings_keep_finding K V same hash named m known s old new at all.whole steps.finding i f here said leads map not_there at2 then_all.whole;
          nexts = endings_keep_nexts K V same hash named log m known s old new steps.nexts at all.whole i f here said leads map not_there;
          tries = endings_keep_tries K V same hash named log m known s old new steps.sources steps.tries at all.whole i f here said leads map not_there at2 then_all.whole;
          sources = so_aside K V same named m known (known_after (acts.Ending map) new.changed known) s (ending_after same hash s new i f to.0 to.2.w2 to.2.deed said to.3) None (Some map) effects
              (endings_aside same hash named m known s old new at all.whole i said leads f here map not_there) steps.sources then_all.whole.all.shown
              (λ n st is. ap (λ (maps : ℕ → Option (Standing K)). maps n) (sym (ended_maps same hash s old new i f here said leads)) ∙ is);
        }

  -- where a map is there no more: no map that stands has its name
  pub steps_by_map_gone : IsAt same hash new s → (map : ℕ) (remains : List Remains) → IsApart map m s → RefinesAnswers same log (without_map (named map) remains m) known s
      → RefinesSteps same log (without_map (named map) remains m) known s
  steps_by_map_gone at2 map remains apart then_all =
      let v = without_map (named map) remains m in
      record {
        finding = finding_where same hash named m v known s new at2 still refl refl refl refl refl refl steps.finding;
        nexts = nexts_where same hash named log m v s new at2 steps.nexts still refl refl;
        tries = tries_where same hash named log m v s new at2 steps.tries still (record { stored = refl; place = refl; born = refl; spot = refl }) refl refl;
        sources = sources_so K V same named m v known known s s steps.sources then_all.whole.all.shown refl refl refl (λ n st is. is);
      }
    where
      still : (n : ℕ) (st : Standing K) → s.maps n ≡ Some st → map_at n (without_map (named map) remains m) ≡ map_at n m
      still n st stands =
          let f = (all.whole.all.shown.maps n st stands).there in
          found_kept (λ g. g.number == n) (λ g. not (is_same g.name (named map))) m.maps f.there f.is (ap not (apart n st f.there stands f.is)) ∙ sym f.is

  -- where all is reclaimed: no call is under way
  pub steps_by_reclaiming : (i : ℕ) (lists : ℕ → List ℕ) (before after : ReclaimAll) (told : Settled (Node K V)) → IsReclaiming same hash old s i lists before
      → (leads : ReclaimingLeads same hash s i lists old new before after told)
      → (let v = with_effects None None (effects_of acts.Row known new.changed) m in
      let known2 = known_after acts.Row new.changed known in
      let t = record s { world = leads.1.w2; maps = leads.1.maps2 } in
      RefinesAnswers same log v known2 t → RefinesSteps same log v known2 t)
  steps_by_reclaiming i lists before after told under_way leads then_all =
      let effects : List Effect = effects_of acts.Row known new.changed in
      let known2 = known_after acts.Row new.changed known in
      let t : Scene K V = record s { world = leads.1.w2; maps = leads.1.maps2 } in
      record {
        finding = finding_of_none K V named m known known2 s t (λ n j u is. none n j u is) effects leads.1.as_they_were steps.finding;
        nexts = λ n j u is c found. none n j u is;
        tries = λ n j u is c found. none n j u is;
        sources = same_maps_aside K V same named m known known2 s t None None effects
            (subst AllAside (sym (it_reclaims same hash named m known s all.whole all.kept old new i lists before after told under_way leads)) (reclaimed_aside (gone_by known new.changed))) steps.sources
            then_all.whole.all.shown leads.1.as_they_were;
      }
    where
      none : {X : Type 0} (map j : ℕ) (u : UnderWay K V K) → s.calls map j ≡ Some u → X
      none map j u here = absurd (let both : None ≡ Some u = sym (under_way.under_way.stand.no_calls map j) ∙ here in cc both)
