-- A step of a reservation that is none of a row leaves each block somebody's behind which something may be put.
use Rattle.std.specs.Prelude.{Option, Some}
use Rattle.std.proofs.Common.{◌≡◌, ℕ, Bool, inl, inr, ◌⊎◌, ap, subst}
use Rattle.run_shows.specs.Given.SeizeWorld.{World, Rests}
use Rattle.run_shows.specs.Given.TablesDeclared.node.Node.{Node}
use Rattle.run_shows.specs.Given.TablesDeclared.resize_mode.ResizeMode.{ResizeMode}
use Rattle.run_shows.specs.Given.ResizeDeclared.copier.Copier.{Copier}
use Rattle.run_shows.specs.Given.ReservesDeclared.reserve.Reserving.{Reserving}
use Rattle.run_shows.specs.Given.ReservesDeclared.reserve.Reserving.TheVariants as reserving
use Rattle.run_shows.specs.Given.RuleChart.{Chart}
use Rattle.owner_facts.specs.Given.PointsTold.{OnlyLinks}
use Rattle.owner_facts.specs.Given.LateFactsReserves.{CopiesPairs, ReserveFacts, ReservingFacts}
use Rattle.owner_facts.specs.Given.LateLateReserves.{SupersededReserveFacts, SupersededReserving}
use Rattle.owner_facts.specs.Given.CallersRooms.{CallForRoom}
use Rattle.owner_facts.specs.Given.CallersSights.{seen_by}
use Rattle.owner_facts.specs.Given.CallersTogether.{UnderWay, ForRoom, KnowsRoom, IsAtPoint, FreshRoom, LateRoom, RoomOutcome, in_slot, next_for_room}
use Rattle.owner_facts.specs.Given.FinishesEndings.{Finishing}
use Rattle.owner_facts.specs.Given.FinishesMakings.{Beginning}
use Rattle.owner_facts.specs.Given.FinishesMaps.{Standing}
use Rattle.many_acts.specs.Carries.Promises.{RoomsPreserveTheirs}
use Rattle.many_acts.specs.Carries.Theirs.{copier_of_room}
use Rattle.many_acts.proofs.Carries.Inside.{it_is, room_copies, room_row, room_without}
use Rattle.many_acts.proofs.Carries.Known.{CopierKnows, whole_knows, left_knows}
use Rattle.many_acts.proofs.Carries.Steps.{StepsBy, step_theirs}

same_first : {K : Type 0} (hash : K → ℕ) (mode : ResizeMode) (c c2 : Chart K) → OnlyLinks hash mode c c2 → c2.first ≡ c.first
same_first {K} hash mode c c2 (inl e) = ap (λ (x : Chart K). x.first) e
same_first {K} hash mode c c2 (inr (len, limit, e)) = ap (λ (x : Chart K). x.first) e

module _ {K Q : Type 0} (V : Type 0) (same : K → K → Bool) (asks : Q → K → Bool) (batch_size roots : ℕ) (slot : ℕ → ℕ)
    (w : World (Node K V)) (maps : ℕ → Option (Standing K)) (calls : ℕ → ℕ → Option (UnderWay K V Q)) (makers : ℕ → Option (Beginning K)) (enders : ℕ → Option (Finishing K V)) where
  pub rooms_keep_theirs : RoomsPreserveTheirs V same asks batch_size roots slot w maps calls makers enders
  rooms_keep_theirs all theirs m s here i r has row m2 p2 end steps st =
      step_theirs V same asks batch_size slot w maps calls enders all.makings.standing m s here i (ForRoom r) has ((all.makings.standing.each m s here).inside i (ForRoom r) has) m2 _ st.step.went st.step.blocks2 st.step.grown st.step.sights2 next
      knows.0 (λ none. same_first s.hash s.setting.mode s.chart st.step.went.c2 (beside st.step.went.told (room_without r.reserve.stands none))) within theirs
    where
      then : CallForRoom
      then = record { began = r.began; reserve = p2 }

      next : Option (UnderWay K V Q)
      next = next_for_room then end

      at_none : IsAtPoint V same s.hash asks s.setting slot w s.chart (seen_by s.blocks (s.sights (slot i))) i (ForRoom r)
          → (w.row i ≡ Rests) × KnowsRoom V same s.hash asks s.setting slot w s.chart (seen_by s.blocks (s.sights (slot i))) i r.began r.reserve
      at_none (inl k) = k
      at_none (inr k) = absurd (row k.1)

      knows : (w.row i ≡ Rests) × KnowsRoom V same s.hash asks s.setting slot w s.chart (seen_by s.blocks (s.sights (slot i))) i r.began r.reserve
      knows = at_none ((all.makings.standing.each m s here).stand i (ForRoom r) has)

      -- without a copier it links a table at most
      beside : RoomOutcome V same s.hash asks s.setting slot s.chart i r p2 end st.step.went.w2 st.step.went.c2 st.step.went.blocks2
          → (CopiesPairs r.reserve.stands → ⊥) → OnlyLinks s.hash s.setting.mode s.chart st.step.went.c2
      beside (FreshRoom told) = told.beside
      beside (LateRoom blocking told) = told.beside

      -- what its copier knows
      fresh : (stands : Reserving) (x : Copier) → copier_of_room stands ≡ Some x
          → ReservingFacts same s.hash w i (in_slot s.setting (slot i)) s.chart (seen_by s.blocks (s.sights (slot i))) stands
          → CopierKnows same s.hash w i (in_slot s.setting (slot i)) s.chart (seen_by s.blocks (s.sights (slot i))) x
      fresh (reserving.Copies copier) x is point =
          subst (CopierKnows same s.hash w i (in_slot s.setting (slot i)) s.chart (seen_by s.blocks (s.sights (slot i)))) (it_is copier x is)
          (whole_knows same s.hash w i (in_slot s.setting (slot i)) s.chart (seen_by s.blocks (s.sights (slot i))) copier point)
      fresh _ x is point = absurd (cc is)

      left : (stands : Reserving) (x : Copier) → copier_of_room stands ≡ Some x
          → SupersededReserving same s.hash w i (in_slot s.setting (slot i)) s.chart (seen_by s.blocks (s.sights (slot i))) r.began stands
          → CopierKnows same s.hash w i (in_slot s.setting (slot i)) s.chart (seen_by s.blocks (s.sights (slot i))) x
      left (reserving.Copies copier) x is point =
          subst (CopierKnows same s.hash w i (in_slot s.setting (slot i)) s.chart (seen_by s.blocks (s.sights (slot i)))) (it_is copier x is)
          (left_knows same s.hash w i (in_slot s.setting (slot i)) s.chart (seen_by s.blocks (s.sights (slot i))) r.began copier point)
      left _ x is point = absurd (cc is)

      either : (x : Copier) → copier_of_room r.reserve.stands ≡ Some x
          → ReserveFacts same s.hash w i (in_slot s.setting (slot i)) s.chart (seen_by s.blocks (s.sights (slot i))) r.reserve
          ⊎ SupersededReserveFacts same s.hash w i (in_slot s.setting (slot i)) s.chart (seen_by s.blocks (s.sights (slot i))) r.began r.reserve
          → CopierKnows same s.hash w i (in_slot s.setting (slot i)) s.chart (seen_by s.blocks (s.sights (slot i))) x
      either x is (inl facts) = fresh r.reserve.stands x is facts.point
      either x is (inr late) = left r.reserve.stands x is late.point

      within : (x : Copier) → copier_of_room r.reserve.stands ≡ Some x
          → StepsBy V same asks batch_size slot w maps calls enders all.makings.standing m s here i (ForRoom r) has ((all.makings.standing.each m s here).inside i (ForRoom r) has) m2 _ st.step.went st.step.blocks2 st.step.grown st.step.sights2 next x
      within x is =
          let k = room_copies Q s.hash r.reserve w.memory m2 (p2, end) r.reserve.stands x is steps in record {
            no_row = λ at_row. row ((room_row r.reserve.stands x is).1 at_row);
            knows = either x is knows.1.facts;
            end = k.0;
            steps = k.1;
            goes = λ on. let g = k.2 on in (ForRoom then, g.1 then, g.0);
          }
