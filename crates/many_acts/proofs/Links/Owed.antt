-- What a call, a reservation or a sweep that is under way is to hand over it has unlinked: it is not linked any more.
use Rattle.std.specs.Prelude.{Option, Some, None}
use Rattle.std.proofs.Common.{◌≡◌, ℕ, ◌⊎◌, Bool, false, inl, inr, refl, ap, sym, subst, ◌∙◌}
use Rattle.run_shows.specs.Given.SeizeWorld.{World, Rests, Cutting}
use Rattle.run_shows.specs.Given.TablesChunks.{is_incremental}
use Rattle.run_shows.specs.Given.TablesDeclared.node.Node.{Node}
use Rattle.run_shows.specs.Given.ResizeDeclared.copier.Copier.{Copier}
use Rattle.run_shows.specs.Given.ResizeDeclared.copier.Copying.{Copying}
use Rattle.run_shows.specs.Given.ResizeDeclared.copier.Copying.TheVariants as copies
use Rattle.run_shows.specs.Given.ReservesDeclared.reserve.Reserve.{Reserve}
use Rattle.run_shows.specs.Given.ReservesDeclared.reserve.Reserving.{Reserving}
use Rattle.run_shows.specs.Given.ReservesDeclared.reserve.Reserving.TheVariants as reserving
use Rattle.run_shows.specs.Given.ReservesDeclared.sweep.Sweep.{Sweep}
use Rattle.run_shows.specs.Given.ReservesDeclared.sweep.Sweeping.{Sweeping}
use Rattle.run_shows.specs.Given.ReservesDeclared.sweep.Sweeping.TheVariants as sweeping
use Rattle.run_shows.specs.Given.RawDeclared.machines.call.Calling.{Calling}
use Rattle.run_shows.specs.Given.RawDeclared.machines.call.Calling.TheVariants as at
use Rattle.run_shows.specs.Given.RawDeclared.machines.call.KeyCall.{KeyCall}
use Rattle.owner_facts.specs.Given.PointsFactsCalls.{Change, Unchanged, CallFacts, CallingFacts}
use Rattle.owner_facts.specs.Given.PointsTold.{IsRowOfCopier}
use Rattle.owner_facts.specs.Given.LateFactsReserves.{ReserveFacts, ReservingFacts}
use Rattle.owner_facts.specs.Given.LateFactsSweeps.{CopiesTable, SweepFacts, SweepingFacts}
use Rattle.owner_facts.specs.Given.LateLateCalls.{SupersededCallFacts, SupersededCalling}
use Rattle.owner_facts.specs.Given.LateLateReserves.{SupersededReserveFacts, SupersededReserving}
use Rattle.owner_facts.specs.Given.CallersOverAll.{past_sweeping, sweep_once_over}
use Rattle.owner_facts.specs.Given.CallersRooms.{past_room, room_once_over}
use Rattle.owner_facts.specs.Given.CallersRows.{past_copying, past_row, once_over, row_of_copier}
use Rattle.owner_facts.specs.Given.CallersSights.{seen_by}
use Rattle.owner_facts.specs.Given.CallersTogether.{UnderWay, OnKey, ForRoom, Counting, OverAll, IsAtPoint, in_slot}
use Rattle.owner_facts.specs.Given.FinishesEndings.{Finishing}
use Rattle.owner_facts.specs.Given.FinishesMaps.{Standing, MapsTogether}
use Rattle.many_acts.specs.Carries.Theirs.{IsAhead, next_of_them, copier_of_call, copier_of_room, copier_of_sweep, copier_of, IsToHandOver, IsObligation}
use Rattle.many_acts.proofs.Carries.Inside.{it_is, call_row, call_row_is, room_row, room_row_is, sweep_row, sweep_row_is}
use Rattle.many_acts.proofs.Carries.Owed.{one_some}
use Rattle.many_acts.proofs.Links.Cut.{OwesWhatItCut, incremental_owes, blocking_owes, late_owes, whole_owes, row_ahead}

-- the copier that is within once a row is over
past_call : (stands : Calling) (x : Copier) → copier_of_call stands ≡ Some x → copier_of_call (past_row stands) ≡ Some (past_copying x x.stands)
past_call (at.Helps copier goal) x is = ap (λ (y : Copier). Some (past_copying y y.stands)) (it_is copier x is)
past_call (at.Copies copier) x is = ap (λ (y : Copier). Some (past_copying y y.stands)) (it_is copier x is)
past_call _ x is = absurd (cc is)

past_reserving : (stands : Reserving) (x : Copier) → copier_of_room stands ≡ Some x → copier_of_room (past_room stands) ≡ Some (past_copying x x.stands)
past_reserving (reserving.Copies copier) x is = ap (λ (y : Copier). Some (past_copying y y.stands)) (it_is copier x is)
past_reserving _ x is = absurd (cc is)

past_sweep : (stands : Sweeping) (x : Copier) → copier_of_sweep stands ≡ Some x → copier_of_sweep (past_sweeping stands) ≡ Some (past_copying x x.stands)
past_sweep (sweeping.Copies copier) x is = ap (λ (y : Copier). Some (past_copying y y.stands)) (it_is copier x is)
past_sweep _ x is = absurd (cc is)

-- a row that a copier is at is under way
row_goes : (stands : Copying) → IsRowOfCopier stands → row_of_copier stands ≡ Rests → ⊥
row_goes (copies.Retires settle rest) row rests = cc rests
row_goes _ row rests = row

module _ {K Q : Type 0} (V : Type 0) (same : K → K → Bool) (asks : Q → K → Bool) (size : ℕ) (slot : ℕ → ℕ)
    (w : World (Node K V)) (maps : ℕ → Option (Standing K)) (calls : ℕ → ℕ → Option (UnderWay K V Q)) (all : MapsTogether V same asks size slot w maps calls) where
  module _ (m : ℕ) (s : Standing K) (here : maps m ≡ Some s) (i : ℕ) where
    abbrev Cut : Copier → Type 0
    Cut x = OwesWhatItCut same s.hash w i (in_slot s.setting (slot i)) s.chart (seen_by s.blocks (s.sights (slot i))) x

    -- it stands at no row, and owes what it has cut, or it does once its row is over
    abbrev OwesSo : Copier → Type 0
    OwesSo x = ((w.row i ≡ Rests) × Cut x) ⊎ ((w.row i ≡ row_of_copier x.stands) × IsRowOfCopier x.stands × Cut (past_copying x x.stands))

    abbrev Later : Copier → ℕ → Standing K → Type 0
    Later x b y = (is_incremental y.setting.mode ≡ false) × IsAhead y.chart.past y.blocks.table (next_of_them x x.stands) x.target.turn b

    hands_cut : (x : Copier) → OwesSo x → (b : ℕ) → IsToHandOver w maps m i x b → w.hand b ≡ Cutting i
    hands_cut x (inl (rests, cut)) b (inl (row, due)) = cut.due b due
    hands_cut x (inl (rests, cut)) b (inr (r, is, blocking, ahead)) = let k = subst (Later x b) (one_some (maps m) r s is here) (blocking, ahead) in cut.ahead k.0 b k.1
    hands_cut x (inr (at_row, row, cut)) b (inl (rests, due)) = absurd (row_goes x.stands row (sym at_row ∙ rests))
    hands_cut x (inr (at_row, row, cut)) b (inr (r, is, blocking, ahead)) =
        let k = subst (Later x b) (one_some (maps m) r s is here) (blocking, ahead) in
        row_ahead same s.hash w i (in_slot s.setting (slot i)) s.chart (seen_by s.blocks (s.sights (slot i))) x x.stands row cut k.0 b k.1

    -- what is known of the copier within a call
    module _ (keys : K → Bool) (change : Change) (began : ℕ) (p : KeyCall K V Q) where
      fresh : (stands : Calling) (x : Copier) → copier_of_call stands ≡ Some x
          → CallingFacts same s.hash asks w i (in_slot s.setting (slot i)) s.chart (seen_by s.blocks (s.sights (slot i))) keys change p stands → Cut x
      fresh (at.Helps copier goal) x is point =
          subst Cut (it_is copier x is)
          (incremental_owes same s.hash w i (in_slot s.setting (slot i)) s.chart (seen_by s.blocks (s.sights (slot i))) copier point.1 point.6)
      fresh (at.Copies copier) x is point =
          subst Cut (it_is copier x is) (blocking_owes same s.hash w i (in_slot s.setting (slot i)) s.chart (seen_by s.blocks (s.sights (slot i))) copier point.2)
      fresh _ x is point = absurd (cc is)

      left : (stands : Calling) (x : Copier) → copier_of_call stands ≡ Some x
          → SupersededCalling same s.hash asks w i (in_slot s.setting (slot i)) s.chart (seen_by s.blocks (s.sights (slot i))) keys began p stands → Cut x
      left (at.Helps copier goal) x is point = absurd point
      left (at.Copies copier) x is point =
          subst Cut (it_is copier x is) (late_owes same s.hash w i (in_slot s.setting (slot i)) s.chart (seen_by s.blocks (s.sights (slot i))) began copier point.1)
      left _ x is point = absurd (cc is)

      of_call : (x : Copier) → copier_of_call p.stands ≡ Some x
          → CallFacts same s.hash asks w i (in_slot s.setting (slot i)) s.chart (seen_by s.blocks (s.sights (slot i))) keys change p
          ⊎ ((change ≡ Unchanged) × SupersededCallFacts same s.hash asks w i (in_slot s.setting (slot i)) s.chart (seen_by s.blocks (s.sights (slot i))) keys began p)
          → Cut x
      of_call x is (inl facts) = fresh p.stands x is facts.point
      of_call x is (inr late) = left p.stands x is late.1.point

    -- within a reservation
    module _ (began : ℕ) (p : Reserve) where
      fresh_room : (stands : Reserving) (x : Copier) → copier_of_room stands ≡ Some x
          → ReservingFacts same s.hash w i (in_slot s.setting (slot i)) s.chart (seen_by s.blocks (s.sights (slot i))) stands → Cut x
      fresh_room (reserving.Copies copier) x is point =
          subst Cut (it_is copier x is) (whole_owes same s.hash w i (in_slot s.setting (slot i)) s.chart (seen_by s.blocks (s.sights (slot i))) copier point)
      fresh_room _ x is point = absurd (cc is)

      left_room : (stands : Reserving) (x : Copier) → copier_of_room stands ≡ Some x
          → SupersededReserving same s.hash w i (in_slot s.setting (slot i)) s.chart (seen_by s.blocks (s.sights (slot i))) began stands → Cut x
      left_room (reserving.Copies copier) x is point =
          subst Cut (it_is copier x is) (late_owes same s.hash w i (in_slot s.setting (slot i)) s.chart (seen_by s.blocks (s.sights (slot i))) began copier point)
      left_room _ x is point = absurd (cc is)

      of_room : (x : Copier) → copier_of_room p.stands ≡ Some x
          → ReserveFacts same s.hash w i (in_slot s.setting (slot i)) s.chart (seen_by s.blocks (s.sights (slot i))) p
          ⊎ SupersededReserveFacts same s.hash w i (in_slot s.setting (slot i)) s.chart (seen_by s.blocks (s.sights (slot i))) began p
          → Cut x
      of_room x is (inl facts) = fresh_room p.stands x is facts.point
      of_room x is (inr late) = left_room p.stands x is late.point

    -- and within a sweep
    module _ (began : ℕ) (p : Sweep) where
      either : (copier : Copier) → CopiesTable same s.hash w i (in_slot s.setting (slot i)) s.chart (seen_by s.blocks (s.sights (slot i))) began copier → Cut copier
      either copier (inl whole) = whole_owes same s.hash w i (in_slot s.setting (slot i)) s.chart (seen_by s.blocks (s.sights (slot i))) copier whole
      either copier (inr late) = late_owes same s.hash w i (in_slot s.setting (slot i)) s.chart (seen_by s.blocks (s.sights (slot i))) began copier late.1

      copies_table : (stands : Sweeping) (x : Copier) → copier_of_sweep stands ≡ Some x
          → SweepingFacts same s.hash w i (in_slot s.setting (slot i)) s.chart (seen_by s.blocks (s.sights (slot i))) began p stands → Cut x
      copies_table (sweeping.Copies copier) x is point = subst Cut (it_is copier x is) (either copier point)
      copies_table _ x is point = absurd (cc is)

      of_sweep : (x : Copier) → copier_of_sweep p.stands ≡ Some x
          → SweepFacts same s.hash w i (in_slot s.setting (slot i)) s.chart (seen_by s.blocks (s.sights (slot i))) began p → Cut x
      of_sweep x is facts = copies_table p.stands x is facts.point

    -- whatever is under way
    owes_so : (u : UnderWay K V Q) (x : Copier) → copier_of u ≡ Some x
        → IsAtPoint V same s.hash asks s.setting slot w s.chart (seen_by s.blocks (s.sights (slot i))) i u → OwesSo x
    owes_so (OnKey u) x is (inl (rests, k)) = inl (rests, of_call u.keys u.change u.began u.call x is k.facts)
    owes_so (OnKey u) x is (inr (row, is_row, k)) =
        inr (
          row ∙ call_row_is (slot i) u.call.stands x is,
          (call_row u.call.stands x is).0 is_row,
          of_call u.keys u.change u.began (once_over u.call) (past_copying x x.stands) (past_call u.call.stands x is) k.facts,
        )
    owes_so (ForRoom r) x is (inl (rests, k)) = inl (rests, of_room r.began r.reserve x is k.facts)
    owes_so (ForRoom r) x is (inr (row, is_row, k)) =
        inr (
          row ∙ room_row_is r.reserve.stands x is,
          (room_row r.reserve.stands x is).0 is_row,
          of_room r.began (room_once_over r.reserve) (past_copying x x.stands) (past_reserving r.reserve.stands x is) k.facts,
        )
    owes_so (Counting sum) x is k = absurd (cc is)
    owes_so (OverAll o) x is (inl (rests, k)) = inl (rests, of_sweep o.began o.sweep x is k.facts)
    owes_so (OverAll o) x is (inr (row, is_row, k)) =
        inr (
          row ∙ sweep_row_is (slot i) o.sweep.stands x is,
          (sweep_row o.sweep.stands x is).0 is_row,
          of_sweep o.began (sweep_once_over o.sweep) (past_copying x x.stands) (past_sweep o.sweep.stands x is) k.facts,
        )

  -- a map on which somebody has a call stands
  stands_there : (m i : ℕ) (u : UnderWay K V Q) → calls m i ≡ Some u → (o : Option (Standing K)) → maps m ≡ o → (s : Standing K) × (maps m ≡ Some s)
  stands_there m i u has None is = absurd (let none = all.only m i is in cc (none, has))
  stands_there m i u has (Some s) is = (s, is)

  -- So what a call is to hand over some caller has unlinked, and has still.
  pub owed_cut : (enders : ℕ → Option (Finishing K V)) (b : ℕ) → IsObligation w maps calls enders b → (i : ℕ) × (w.hand b ≡ Cutting i)
  owed_cut enders b (m, i, u, has, (x, within, hands)) =
      let there = stands_there m i u has (maps m) refl in
      (i, hands_cut m there.0 there.1 i x (owes_so m there.0 there.1 i u x within ((all.each m there.0 there.1).stand i u has)) b hands)
