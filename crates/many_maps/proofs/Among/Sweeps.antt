-- Walks, clearings and retainings among calls, makings and ends of maps.
use Rattle.std.specs.Prelude.{Option, Some, None}
use Rattle.std.proofs.Common.{◌≡◌, ℕ, Bool, ap, sym, ◌∙◌}
use Rattle.many_calls.specs.Given.SeizeWorld.{World, with_at}
use Rattle.many_calls.specs.Given.TablesDeclared.node.Node.{Node}
use Rattle.many_calls.specs.Given.SweepsSweepPoints.{after_next}
use Rattle.many_calls.specs.OverAll.{CallOverAll, come_to, gone_on, with_verdict}
use Rattle.many_calls.specs.Together.{UnderWay, OverAll, next_over_all, Together}
use Rattle.many_maps.specs.Makings.{Beginning}
use Rattle.many_maps.specs.Maps.{Standing, with_call}
use Rattle.many_maps.proofs.Beside.Makings.Beside.{makings_on}
use Rattle.many_maps.proofs.Beside.Makings.CallSteps.{call_leaves, makings_with_call, no_maker, nones, settings, still_alone}
use Rattle.many_maps.proofs.Beside.Makings.RowSteps as makings
use Rattle.many_maps.proofs.Beside.Maps.All.{maps_with_call}
use Rattle.many_maps.proofs.Beside.Maps.Rows.{row_all_together}
use Rattle.many_maps.proofs.Beside.Maps.Steps.{all_together, no_other, others_stand}
use Rattle.many_calls.proofs.Together.SweepStepped.{sweep_rows_stand_together}
use Rattle.many_calls.proofs.Together.Sweeps.{sweeps_begin_together, sweeps_stand_together}
use Rattle.many_calls.proofs.Together.SweepsTold.{sweeps_told_together, walks_stop_together}
use Rattle.many_maps.specs.Endings.{Finishing, EndingsTogether}
use Rattle.many_maps.specs.Sweeps.{SweepsBeginWithEndings, SweepsPreserveWithEndings, SweepsRepliedWithEndings, SweepRowsPreserveWithEndings, WalksStopWithEndings}
use Rattle.many_maps.proofs.Among.Beside.{endings_same}
use Rattle.many_maps.proofs.Among.Calls.{no_ender, ender_alone, endings_with_call, call_spares}
use Rattle.many_maps.proofs.Among.Rows as rows

module _ {K Q : Type 0} (V : Type 0) (same : K → K → Bool) (asks : Q → K → Bool) (batch_size roots : ℕ) (slot : ℕ → ℕ) where
  pub sweeps_begin_among : SweepsBeginWithEndings V same asks batch_size roots slot
  sweeps_begin_among w maps calls makers enders all i free unending alone rests inside m s here purpose few =
      let standing = all.makings.standing in
      endings_with_call V same asks batch_size roots slot w maps calls makers enders all m i _ (λ j f ends e. (let none = ap enders (sym e) ∙ ends in cc (none, unending)))
      (makings_with_call V same asks batch_size roots slot w maps calls makers all.makings m i _ (λ j b makes e. (let none = ap makers (sym e) ∙ makes in cc (none, free)))
      (maps_with_call V same asks batch_size slot w maps calls standing m s here i _ (λ n ne. alone n)
      (sweeps_begin_together same s.hash asks s.setting slot w s.chart s.blocks s.sights (calls m) i (standing.each m s here) (alone m) rests inside purpose few)))

  pub sweeps_stand_among : SweepsPreserveWithEndings V same asks batch_size roots slot
  sweeps_stand_among w maps calls makers enders all m s here i o has none =
      let standing = all.makings.standing in
      let fit = standing.fit m s here in
      let leads = sweeps_stand_together same s.hash asks s.setting slot fit.0 fit.1 w s.chart s.blocks s.sights (calls m) (standing.each m s here) i o has none in (
        leads.0,
        λ m2 p2 end st.
            let step = leads.1 m2 p2 end st in
            record {
              no_row = none;
              step = step;
              together = endings_same V same asks batch_size roots slot w maps calls makers enders all step.went.w2
                  (call_spares V same asks batch_size roots slot w maps calls makers enders all m s here i (OverAll o) has ((standing.each m s here).inside i (OverAll o) has) m2 _ step.went) _ _
                  (makings_on V same asks batch_size roots slot w maps calls makers all.makings step.went.w2
                  (call_leaves V same asks batch_size roots slot w maps calls makers all.makings m s here i (OverAll o) has ((standing.each m s here).inside i (OverAll o) has) m2 _ step.went) _ _
                  (all_together V same asks batch_size slot w maps calls standing m s here i (OverAll o) has step.went.w2 step.went.c2 step.blocks2 step.sights2
                  (next_over_all (come_to o step.entered2 step.done2 p2) end) step.together
                  (others_stand V same asks batch_size slot w maps calls standing m s here i (OverAll o) has ((standing.each m s here).inside i (OverAll o) has) m2 _ step.went))
                  (settings V same asks batch_size roots slot w maps calls makers all.makings m s here i (OverAll o) has step.went.c2 step.blocks2 step.sights2)
                  (nones V same asks batch_size roots slot w maps calls makers all.makings m s here i (OverAll o) has step.went.c2 step.blocks2 step.sights2)
                  (still_alone V same asks batch_size roots slot w maps calls makers all.makings m i _ (no_maker V same asks batch_size roots slot w maps calls makers all.makings m i (OverAll o) has)))
                  (ender_alone V same asks batch_size roots slot w maps calls makers enders all m i _ (no_ender V same asks batch_size roots slot w maps calls makers enders all m i (OverAll o) has))
                  (settings V same asks batch_size roots slot w maps calls makers all.makings m s here i (OverAll o) has step.went.c2 step.blocks2 step.sights2);
            },
      )

  -- nothing has changed but its sweep
  with_it : (w : World (Node K V)) (maps : ℕ → Option (Standing K)) (calls : ℕ → ℕ → Option (UnderWay K V Q)) (makers : ℕ → Option (Beginning K)) (enders : ℕ → Option (Finishing K V))
      (all : EndingsTogether V same asks batch_size roots slot w maps calls makers enders) (m : ℕ) (s : Standing K) (here : maps m ≡ Some s) (i : ℕ) (o : CallOverAll) (has : calls m i ≡ Some (OverAll o))
      (next : Option (UnderWay K V Q)) → Together V same s.hash asks s.setting slot w s.chart s.blocks s.sights (with_at (calls m) i next)
      → EndingsTogether V same asks batch_size roots slot w maps (with_call calls m i next) makers enders
  with_it w maps calls makers enders all m s here i o has next stand =
      endings_with_call V same asks batch_size roots slot w maps calls makers enders all m i next (no_ender V same asks batch_size roots slot w maps calls makers enders all m i (OverAll o) has)
      (makings_with_call V same asks batch_size roots slot w maps calls makers all.makings m i next (no_maker V same asks batch_size roots slot w maps calls makers all.makings m i (OverAll o) has)
      (maps_with_call V same asks batch_size slot w maps calls all.makings.standing m s here i next (no_other V same asks batch_size slot w maps calls all.makings.standing m s here i (OverAll o) has) stand))

  pub sweeps_told_among : SweepsRepliedWithEndings V same asks batch_size roots slot
  sweeps_told_among w maps calls makers enders all m s here i o has =
      let standing = all.makings.standing in
      let taken = sweeps_told_together same s.hash asks s.setting slot (standing.fit m s here).0 w s.chart s.blocks s.sights (calls m) (standing.each m s here) i o has in
      record {
        next = with_it w maps calls makers enders all m s here i o has (Some (OverAll (gone_on o (after_next o.sweep)))) taken.next;
        asks_about = taken.asks_about;
        replied = λ word n is named keeps. with_it w maps calls makers enders all m s here i o has (Some (OverAll (with_verdict o n keeps))) (taken.replied word n is named keeps);
      }

  pub walks_stop_among : WalksStopWithEndings V same asks batch_size roots slot
  walks_stop_among w maps calls makers enders all m s here i o has ready =
      let stops = walks_stop_together same s.hash asks s.setting slot w s.chart s.blocks s.sights (calls m) (all.makings.standing.each m s here) i o has ready in
      (with_it w maps calls makers enders all m s here i o has None stops.0, stops.1)

  pub sweep_rows_stand_among : SweepRowsPreserveWithEndings V same asks batch_size roots slot
  sweep_rows_stand_among w maps calls makers enders all m s here i o has is_row =
      let standing = all.makings.standing in
      let leads = sweep_rows_stand_together same s.hash asks s.setting slot (standing.fit m s here).0 w s.chart s.blocks s.sights (calls m) (standing.each m s here) i o has is_row in (
        leads.0,
        λ m2 p2 end st.
            let step = leads.1 m2 p2 end st in
            let other = no_maker V same asks batch_size roots slot w maps calls makers all.makings m i (OverAll o) has in
            record {
              is_row = is_row;
              step = step;
              together = rows.all_on V same asks batch_size roots slot w maps calls makers enders all step.w2
                  (rows.within_spares V same asks batch_size roots slot w maps calls makers enders all m s here i step.w2 step.happened) _
                  (ender_alone V same asks batch_size roots slot w maps calls makers enders all m i _ (no_ender V same asks batch_size roots slot w maps calls makers enders all m i (OverAll o) has))
                  (makings.all_on V same asks batch_size roots slot w maps calls makers all.makings step.w2
                  (makings.one_step_leaves V same asks batch_size roots slot maps makers s.setting (standing.fit m s here).2 w standing.came i step.w2 step.happened other) _
                  (still_alone V same asks batch_size roots slot w maps calls makers all.makings m i _ other)
                  (row_all_together V same asks batch_size slot w maps calls standing m s here i (OverAll o) has step.w2 _ step.happened step.together));
            },
      )
