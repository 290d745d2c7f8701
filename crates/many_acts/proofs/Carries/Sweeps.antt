-- A step of a sweep that is none of a row leaves each block somebody's behind which something may be put.
use Rattle.std.specs.Prelude.{Option, Some}
use Rattle.std.proofs.Common.{◌≡◌, ℕ, Bool, inl, inr, ap, subst}
use Rattle.run_shows.specs.Given.SeizeWorld.{World, Rests}
use Rattle.run_shows.specs.Given.TablesDeclared.node.Node.{Node}
use Rattle.run_shows.specs.Given.TablesDeclared.resize_mode.ResizeMode.{ResizeMode}
use Rattle.run_shows.specs.Given.ResizeDeclared.copier.Copier.{Copier}
use Rattle.run_shows.specs.Given.ReservesDeclared.sweep.Sweeping.{Sweeping}
use Rattle.run_shows.specs.Given.ReservesDeclared.sweep.Sweeping.TheVariants as sweeping
use Rattle.run_shows.specs.Given.RuleChart.{Chart}
use Rattle.owner_facts.specs.Given.LateFactsSweeps.{CopiesTable, SweepingFacts}
use Rattle.owner_facts.specs.Given.LateToldSweeps.{OnlyRemoves}
use Rattle.owner_facts.specs.Given.CallersOverAll.{CallOverAll, come_to}
use Rattle.owner_facts.specs.Given.CallersSights.{seen_by}
use Rattle.owner_facts.specs.Given.CallersTogether.{UnderWay, OverAll, KnowsSweep, IsAtPoint, in_slot, next_over_all}
use Rattle.owner_facts.specs.Given.FinishesEndings.{Finishing}
use Rattle.owner_facts.specs.Given.FinishesMakings.{Beginning}
use Rattle.owner_facts.specs.Given.FinishesMaps.{Standing}
use Rattle.many_acts.specs.Carries.Promises.{SweepsPreserveTheirs}
use Rattle.many_acts.specs.Carries.Theirs.{copier_of_sweep}
use Rattle.many_acts.proofs.Carries.Inside.{it_is, sweep_copies, sweep_row, sweep_without}
use Rattle.many_acts.proofs.Carries.Known.{CopierKnows, whole_knows, left_knows}
use Rattle.many_acts.proofs.Carries.Steps.{StepsBy, step_theirs}

same_first : {K : Type 0} (hash : K → ℕ) (mode : ResizeMode) (c c2 : Chart K) → OnlyRemoves hash mode c c2 → c2.first ≡ c.first
same_first {K} hash mode c c2 (inl e) = ap (λ (x : Chart K). x.first) e
same_first {K} hash mode c c2 (inr (t, i, e)) = ap (λ (x : Chart K). x.first) e

module _ {K Q : Type 0} (V : Type 0) (same : K → K → Bool) (asks : Q → K → Bool) (batch_size roots : ℕ) (slot : ℕ → ℕ)
    (w : World (Node K V)) (maps : ℕ → Option (Standing K)) (calls : ℕ → ℕ → Option (UnderWay K V Q)) (makers : ℕ → Option (Beginning K)) (enders : ℕ → Option (Finishing K V)) where
  pub sweeps_keep_theirs : SweepsPreserveTheirs V same asks batch_size roots slot w maps calls makers enders
  sweeps_keep_theirs all theirs m s here i o has row m2 p2 end steps st =
      step_theirs V same asks batch_size slot w maps calls enders all.makings.standing m s here i (OverAll o) has ((all.makings.standing.each m s here).inside i (OverAll o) has) m2 _ st.step.went st.step.blocks2 st.step.grown st.step.sights2 next
      knows.0 (λ none. same_first s.hash s.setting.mode s.chart st.step.went.c2 (st.step.went.told.beside (sweep_without o.sweep.stands none))) within theirs
    where
      then : CallOverAll
      then = come_to o st.step.entered2 st.step.done2 p2

      next : Option (UnderWay K V Q)
      next = next_over_all then end

      at_none : IsAtPoint V same s.hash asks s.setting slot w s.chart (seen_by s.blocks (s.sights (slot i))) i (OverAll o)
          → (w.row i ≡ Rests) × KnowsSweep V same s.hash asks s.setting slot w s.chart (seen_by s.blocks (s.sights (slot i))) i o o.sweep
      at_none (inl k) = k
      at_none (inr k) = absurd (row k.1)

      knows : (w.row i ≡ Rests) × KnowsSweep V same s.hash asks s.setting slot w s.chart (seen_by s.blocks (s.sights (slot i))) i o o.sweep
      knows = at_none ((all.makings.standing.each m s here).stand i (OverAll o) has)

      -- what its copier knows
      either : (copier : Copier) → CopiesTable same s.hash w i (in_slot s.setting (slot i)) s.chart (seen_by s.blocks (s.sights (slot i))) o.began copier
          → CopierKnows same s.hash w i (in_slot s.setting (slot i)) s.chart (seen_by s.blocks (s.sights (slot i))) copier
      either copier (inl whole) = whole_knows same s.hash w i (in_slot s.setting (slot i)) s.chart (seen_by s.blocks (s.sights (slot i))) copier whole
      either copier (inr late) = left_knows same s.hash w i (in_slot s.setting (slot i)) s.chart (seen_by s.blocks (s.sights (slot i))) o.began copier late.1

      tables : (stands : Sweeping) (x : Copier) → copier_of_sweep stands ≡ Some x
          → SweepingFacts same s.hash w i (in_slot s.setting (slot i)) s.chart (seen_by s.blocks (s.sights (slot i))) o.began o.sweep stands
          → CopierKnows same s.hash w i (in_slot s.setting (slot i)) s.chart (seen_by s.blocks (s.sights (slot i))) x
      tables (sweeping.Copies copier) x is point =
          subst (CopierKnows same s.hash w i (in_slot s.setting (slot i)) s.chart (seen_by s.blocks (s.sights (slot i)))) (it_is copier x is) (either copier point)
      tables _ x is point = absurd (cc is)

      within : (x : Copier) → copier_of_sweep o.sweep.stands ≡ Some x
          → StepsBy V same asks batch_size slot w maps calls enders all.makings.standing m s here i (OverAll o) has ((all.makings.standing.each m s here).inside i (OverAll o) has) m2 _ st.step.went st.step.blocks2 st.step.grown st.step.sights2 next x
      within x is =
          let k = sweep_copies Q s.hash o.sweep w.memory m2 (p2, end) o.sweep.stands x is steps in record {
            no_row = λ at_row. row ((sweep_row o.sweep.stands x is).1 at_row);
            knows = tables o.sweep.stands x is knows.1.facts.point;
            end = k.0;
            steps = k.1;
            goes = λ on. let g = k.2 on in (OverAll then, g.1 then, g.0);
          }
