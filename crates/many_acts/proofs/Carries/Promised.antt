-- A step of a call on one key that is none of a row leaves each block somebody's behind which something may be put.
use Rattle.std.specs.Prelude.{Option, Some, None}
use Rattle.std.proofs.Common.{◌≡◌, ℕ, Bool, inl, inr, ◌⊎◌, sym, subst}
use Rattle.run_shows.specs.Given.SeizeWordsMem.{Mem}
use Rattle.run_shows.specs.Given.SeizeWorld.{World, Rests}
use Rattle.run_shows.specs.Given.TablesDeclared.node.Node.{Node}
use Rattle.run_shows.specs.Given.ResizeDeclared.copier.Copier.{Copier}
use Rattle.run_shows.specs.Given.RawDeclared.machines.call.Calling.{Calling}
use Rattle.run_shows.specs.Given.RawDeclared.machines.call.Calling.TheVariants as at
use Rattle.owner_facts.specs.Given.PointsFactsCalls.{Unchanged, CallFacts, CallingFacts}
use Rattle.owner_facts.proofs.Given.PointsSteps.RootSteps.{root_stays}
use Rattle.owner_facts.specs.Given.LateLateCalls.{SupersededCallFacts, SupersededCalling}
use Rattle.run_shows.proofs.Given.RuleWorld.RootSpared.{RootStays}
use Rattle.owner_facts.proofs.Alone.Handed.RootTurns.{first_kept}
use Rattle.owner_facts.specs.Given.CallersSights.{seen_by}
use Rattle.owner_facts.specs.Given.CallersTogether.{UnderWay, OnKey, CallOnKey, Knows, IsAtPoint, in_slot, next_of, change_observed}
use Rattle.owner_facts.specs.Given.FinishesEndings.{Finishing}
use Rattle.owner_facts.specs.Given.FinishesMakings.{Beginning}
use Rattle.owner_facts.specs.Given.FinishesMaps.{Standing}
use Rattle.many_acts.specs.Carries.Promises.{CallsPreserveTheirs}
use Rattle.many_acts.specs.Carries.Theirs.{copier_of_call}
use Rattle.many_acts.proofs.Carries.Inside.{it_is, call_copies, call_row, none_promotes}
use Rattle.many_acts.proofs.Carries.Known.{CopierKnows, incremental_knows, blocking_knows, left_knows}
use Rattle.many_acts.proofs.Carries.Steps.{StepsBy, map_here, step_theirs}

module _ {K Q : Type 0} (V : Type 0) (same : K → K → Bool) (asks : Q → K → Bool) (batch_size roots : ℕ) (slot : ℕ → ℕ)
    (w : World (Node K V)) (maps : ℕ → Option (Standing K)) (calls : ℕ → ℕ → Option (UnderWay K V Q)) (makers : ℕ → Option (Beginning K)) (enders : ℕ → Option (Finishing K V)) where
  pub calls_keep_theirs : CallsPreserveTheirs V same asks batch_size roots slot w maps calls makers enders
  calls_keep_theirs all theirs m s here i u has row m2 p2 progress steps st =
      step_theirs V same asks batch_size slot w maps calls enders all.makings.standing m s here i (OnKey u) has ((all.makings.standing.each m s here).inside i (OnKey u) has) m2 _ st.step.went st.step.blocks2 st.step.grown st.step.sights2 next
      knows.0 without within theirs
    where
      then : CallOnKey K V Q
      then = record { keys = u.keys; pair = u.pair; began = u.began; change = change_observed V same s.hash asks s.setting slot st.step.went.told; call = p2 }

      next : Option (UnderWay K V Q)
      next = next_of then progress

      -- it stands at none of a row
      at_none : IsAtPoint V same s.hash asks s.setting slot w s.chart (seen_by s.blocks (s.sights (slot i))) i (OnKey u) → (w.row i ≡ Rests) × Knows V same s.hash asks s.setting slot w s.chart (seen_by s.blocks (s.sights (slot i))) i u u.call
      at_none (inl k) = k
      at_none (inr k) = absurd (row k.1)

      knows : (w.row i ≡ Rests) × Knows V same s.hash asks s.setting slot w s.chart (seen_by s.blocks (s.sights (slot i))) i u u.call
      knows = at_none ((all.makings.standing.each m s here).stand i (OnKey u) has)

      -- what its copier knows
      fresh : (stands : Calling) (x : Copier) → copier_of_call stands ≡ Some x
          → CallingFacts same s.hash asks w i (in_slot s.setting (slot i)) s.chart (seen_by s.blocks (s.sights (slot i))) u.keys u.change u.call stands
          → CopierKnows same s.hash w i (in_slot s.setting (slot i)) s.chart (seen_by s.blocks (s.sights (slot i))) x
      fresh (at.Helps copier goal) x is point =
          subst (CopierKnows same s.hash w i (in_slot s.setting (slot i)) s.chart (seen_by s.blocks (s.sights (slot i)))) (it_is copier x is)
          (incremental_knows same s.hash w i (in_slot s.setting (slot i)) s.chart (seen_by s.blocks (s.sights (slot i))) copier point.1 point.6.setting_is)
      fresh (at.Copies copier) x is point =
          subst (CopierKnows same s.hash w i (in_slot s.setting (slot i)) s.chart (seen_by s.blocks (s.sights (slot i)))) (it_is copier x is)
          (blocking_knows same s.hash w i (in_slot s.setting (slot i)) s.chart (seen_by s.blocks (s.sights (slot i))) copier point.2)
      fresh _ x is point = absurd (cc is)

      left : (stands : Calling) (x : Copier) → copier_of_call stands ≡ Some x
          → SupersededCalling same s.hash asks w i (in_slot s.setting (slot i)) s.chart (seen_by s.blocks (s.sights (slot i))) u.keys u.began u.call stands
          → CopierKnows same s.hash w i (in_slot s.setting (slot i)) s.chart (seen_by s.blocks (s.sights (slot i))) x
      left (at.Helps copier goal) x is point = absurd point
      left (at.Copies copier) x is point =
          subst (CopierKnows same s.hash w i (in_slot s.setting (slot i)) s.chart (seen_by s.blocks (s.sights (slot i)))) (it_is copier x is)
          (left_knows same s.hash w i (in_slot s.setting (slot i)) s.chart (seen_by s.blocks (s.sights (slot i))) u.began copier point.1)
      left _ x is point = absurd (cc is)

      either : (x : Copier) → copier_of_call u.call.stands ≡ Some x
          → CallFacts same s.hash asks w i (in_slot s.setting (slot i)) s.chart (seen_by s.blocks (s.sights (slot i))) u.keys u.change u.call
          ⊎ ((u.change ≡ Unchanged) × SupersededCallFacts same s.hash asks w i (in_slot s.setting (slot i)) s.chart (seen_by s.blocks (s.sights (slot i))) u.keys u.began u.call)
          → CopierKnows same s.hash w i (in_slot s.setting (slot i)) s.chart (seen_by s.blocks (s.sights (slot i))) x
      either x is (inl facts) = fresh u.call.stands x is facts.point
      either x is (inr late) = left u.call.stands x is late.1.point

      within : (x : Copier) → copier_of_call u.call.stands ≡ Some x
          → StepsBy V same asks batch_size slot w maps calls enders all.makings.standing m s here i (OnKey u) has ((all.makings.standing.each m s here).inside i (OnKey u) has) m2 _ st.step.went st.step.blocks2 st.step.grown st.step.sights2 next x
      within x is =
          let k = call_copies same s.hash asks u.call w.memory m2 (p2, progress) u.call.stands x is steps in record {
            no_row = λ at_row. row ((call_row u.call.stands x is).1 at_row);
            knows = either x is knows.1.facts;
            end = k.0;
            steps = k.1;
            goes = λ on. let g = k.2 on in (OnKey then, g.1 then, g.0);
          }

      -- without one the root stays
      root : copier_of_call u.call.stands ≡ None → RootStays s.setting.root w.memory m2
      root none = root_stays asks same s.hash u.call u.call.stands (none_promotes u.call.stands none) row w.memory m2 (p2, progress) steps s.setting.root

      without : copier_of_call u.call.stands ≡ None → st.step.went.c2.first ≡ s.chart.first
      without none =
          first_kept same s.hash (in_slot s.setting (slot i)) w st.step.went.w2 s.chart st.step.went.c2 (seen_by s.blocks (s.sights (slot i))) st.step.went.blocks2
          (map_here V same asks batch_size slot w maps calls enders all.makings.standing m s here i (OnKey u) has ((all.makings.standing.each m s here).inside i (OnKey u) has)) st.step.went.map st.step.went.blocks_same st.step.went.moved
          (subst (λ (n : Mem (Node K V)). RootStays s.setting.root w.memory n) (sym st.step.went.memory) (root none))
