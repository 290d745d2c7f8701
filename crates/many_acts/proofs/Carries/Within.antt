-- Whose a block is that users have, and behind which something may be put, over a step of a row within a call, a reservation or a sweep.
use Rattle.std.specs.Prelude.{◌≢◌, ◌*◌, Option, Some}
use Rattle.std.proofs.Common.{◌≡◌, ℕ, Bool, ◌⊎◌, inl, inr, refl, arith, ap, sym, subst, ◌∙◌}
use Rattle.std.proofs.lemmas.Bool.{cases_eq}
use Rattle.run_shows.specs.Given.SeizeWordsMem.{Mem, Took, value_at}
use Rattle.run_shows.specs.Given.SeizeWordsPlan.{Steps}
use Rattle.run_shows.specs.Given.SeizeWordsWord.{link_to}
use Rattle.run_shows.specs.Given.SeizeDefer.{deferring}
use Rattle.run_shows.specs.Given.SeizeSettle.{retiring}
use Rattle.run_shows.specs.Given.SeizeWorld.{World, Row, Rests, Settles, Defers, Hand, Handed, Request, Register', Enter', Leave', LeaveOwned, Refresh, Unregister', Retire, Flush, Defer', Begin, Step, Steps', Happens, with_at}
use Rattle.run_shows.specs.Given.SeizeDeclared.rows.defer.Defer.{Defer}
use Rattle.run_shows.specs.Given.SeizeDeclared.rows.settle.Settle.{Settle}
use Rattle.seize_acts.specs.Acts.Reclaimed.{IsStillHad}
use Rattle.seize_acts.proofs.Given.SeizeRuleRows.Others.{with_here, begins_others, steps_others}
use Rattle.seize_acts.proofs.Given.SeizeEndsBatches.Rows.{begins_memory}
use Rattle.seize_acts.proofs.Given.SeizeAloneHistories.Reached.{Reached, happens_reached}
use Rattle.run_shows.specs.Given.TablesNodes.{deferred_word}
use Rattle.run_shows.specs.Given.TablesDeclared.node.Node.{Node}
use Rattle.run_shows.specs.Given.TablesDeclared.setting.Setting.{Setting}
use Rattle.run_shows.specs.Given.TablesDeclared.table.Table.{Table}
use Rattle.run_shows.specs.Given.ResizeCopier.{copier_plan}
use Rattle.run_shows.specs.Given.ResizeDeclared.copier.Copier.{Copier}
use Rattle.run_shows.specs.Given.ResizeDeclared.yielding.Yielding.{Yielding}
use Rattle.owner_facts.specs.Given.PointsTold.{IsRowOfCopier}
use Rattle.run_shows.proofs.Given.RuleWorld.Hands.{at_cases}
use Rattle.owner_facts.specs.Given.CallersOverAll.{gone_on, row_of_sweep}
use Rattle.owner_facts.specs.Given.CallersRooms.{CallForRoom, row_of_room}
use Rattle.owner_facts.specs.Given.CallersRows.{row_of, row_of_copier}
use Rattle.owner_facts.specs.Given.CallersSights.{seen_by}
use Rattle.owner_facts.specs.Given.CallersTogether.{UnderWay, OnKey, ForRoom, OverAll, CallOnKey, HandsOver, IsOneStep, IsAtPoint, next_of, next_for_room, next_over_all}
use Rattle.owner_facts.proofs.Given.CallersRows.Beside.{users_value}
use Rattle.owner_facts.proofs.Given.CallersTogether.At.{at_same}
use Rattle.owner_facts.proofs.Given.CallersTogether.Came.{came_reached}
use Rattle.owner_facts.specs.Given.FinishesEndings.{Finishing, EndingsTogether}
use Rattle.owner_facts.specs.Given.FinishesMakings.{Beginning}
use Rattle.owner_facts.specs.Given.FinishesMaps.{Standing, IsSameMap, with_call}
use Rattle.owner_facts.proofs.Given.FinishesBeside.Maps.Steps.{no_other}
use Rattle.many_acts.specs.Carries.Promises.{RowsPreserveTheirs, RoomRowsPreserveTheirs, SweepRowsPreserveTheirs}
use Rattle.many_acts.specs.Carries.Theirs.{IsObligedAt, copier_of_call, copier_of_room, copier_of_sweep, copier_of, IsToHandOver, AllAreTheirs}
use Rattle.many_acts.proofs.Carries.FirstSteps.{row_retires, row_defers}
use Rattle.many_acts.proofs.Carries.Guards.{users_own, theirs_by, can_back, same_on}
use Rattle.many_acts.proofs.Carries.Hands.{still_row}
use Rattle.many_acts.proofs.Carries.Inside.{call_copies, call_row, call_row_is, room_copies, room_row, room_row_is, sweep_copies, sweep_row, sweep_row_is}
use Rattle.many_acts.proofs.Carries.Owed.{one_some, comes_on, OwesThen, owed_with}
use Rattle.many_acts.proofs.Carries.Rows.{row_within, row_goes, ahead_next}
use Rattle.owner_facts.specs.Maps.EndingsReserves.{HasMore as IsOn}

module _ {K V : Type 0} (setting : Setting) (i : ℕ) (w w2 : World (Node K V)) (r : Reached deferred_word setting.batch_size w) where
  -- a block changes no hand but to the collector, and keeps its value
  abbrev pub Kept : ℕ → Type 0
  Kept b = IsStillHad (w2.hand b) → (w2.hand b ≡ w.hand b) × (value_at w2.memory b ≡ value_at w.memory b)

  step_kept : (b : ℕ) → Happens deferred_word setting.batch_size (Step i) w w2 → Kept b
  step_kept b h still =
      let hand = still_row deferred_word setting.batch_size w r i w2 h b still in
      (hand, users_value setting.batch_size w r i w2 h b (users_own (w.hand b) (subst IsStillHad hand still)))

  still_at : (b c : ℕ) → IsStillHad (with_at w.hand c Handed b) → with_at w.hand c Handed b ≡ w.hand b
  still_at b c = at_cases (λ (h : Hand). IsStillHad h → h ≡ w.hand b) w.hand c Handed b (λ e none. absurd none) (λ ne _. refl)

  module _ (begun : World (Node K V)) where
    begun_hand : (b : ℕ) (request : Request) → HandsOver setting i w request → Happens deferred_word setting.batch_size (Begin i request) w begun → IsStillHad (begun.hand b) → begun.hand b ≡ w.hand b
    begun_hand b (Retire s c) over h still =
        let e : begun.hand b ≡ with_at w.hand c Handed b = ap (λ (x : World (Node K V)). x.hand b) h.1.2 in e ∙ still_at b c (subst IsStillHad e still)
    begun_hand b (Defer' s c t) over h still =
        let e : begun.hand b ≡ with_at w.hand c Handed b = ap (λ (x : World (Node K V)). x.hand b) h.1.7 in e ∙ still_at b c (subst IsStillHad e still)
    begun_hand b (Register' enters) over h still = absurd over
    begun_hand b (Enter' s) over h still = absurd over
    begun_hand b (Leave' s) over h still = absurd over
    begun_hand b (LeaveOwned s) over h still = absurd over
    begun_hand b (Refresh s) over h still = absurd over
    begun_hand b (Unregister' s) over h still = absurd over
    begun_hand b (Flush s) over h still = absurd over

    -- its row is the retirement of a block that it has handed over, or it puts one behind another one
    begun_row : (request : Request) → HandsOver setting i w request → Happens deferred_word setting.batch_size (Begin i request) w begun → Happens deferred_word setting.batch_size (Step i) begun w2
        → ((c : ℕ) × (begun.hand c ≡ Handed) × (e : Settle) × (w2.row i ≡ Settles e) × (e.pending ≡ c * 2048)) ⊎ ((s : ℕ) × (e : Defer) × (w2.row i ≡ Defers s e))
    begun_row (Retire s c) over h step =
        let row : begun.row i ≡ Settles (retiring s setting.batch_size (link_to c)) = ap (λ (x : World (Node K V)). x.row i) h.1.2 ∙ with_here w.row i _ in
        let hand : begun.hand c ≡ Handed = ap (λ (x : World (Node K V)). x.hand c) h.1.2 ∙ with_here w.hand c Handed in
        let k = row_retires deferred_word s setting.batch_size (link_to c) begun w2 i (subst (λ (x : Row). Steps' deferred_word i x begun w2) row step) in
        inl (c, hand, k.0, k.1, k.2)
    begun_row (Defer' s c t) over h step =
        let row : begun.row i ≡ Defers s (deferring (link_to c) _) = ap (λ (x : World (Node K V)). x.row i) h.1.7 ∙ with_here w.row i _ in
        let k = row_defers deferred_word begun w2 i s (link_to c) _ (subst (λ (x : Row). Steps' deferred_word i x begun w2) row step) in
        inr (s, k.0, k.1)
    begun_row (Register' enters) over h step = absurd over
    begun_row (Enter' s) over h step = absurd over
    begun_row (Leave' s) over h step = absurd over
    begun_row (LeaveOwned s) over h step = absurd over
    begun_row (Refresh s) over h step = absurd over
    begun_row (Unregister' s) over h step = absurd over
    begun_row (Flush s) over h step = absurd over

  -- so it is over one step of the call's row
  pub one_kept : IsOneStep setting i w w2 → (b : ℕ) → Kept b
  one_kept (inl h) b still = step_kept b h still
  one_kept (inr (request, begun, over, h, step)) b still =
      let r1 = happens_reached deferred_word setting.batch_size (Begin i request) w begun r h in
      let hand = still_row deferred_word setting.batch_size begun r1 i w2 step b still in
      let first = subst IsStillHad hand still in
      let memory = begins_memory deferred_word setting.batch_size i request w begun h.1 in (
        hand ∙ begun_hand begun b request over h first,
        users_value setting.batch_size begun r1 i w2 step b (users_own (begun.hand b) first) ∙ ap (λ (x : Mem (Node K V)). value_at x b) memory,
      )

  pub one_others : IsOneStep setting i w w2 → (j : ℕ) → j ≢ i → w2.row j ≡ w.row j
  one_others (inl h) j ne = steps_others deferred_word setting.batch_size w w2 i j ne (w.row i) h
  one_others (inr (request, begun, over, h, step)) j ne =
      steps_others deferred_word setting.batch_size begun w2 i j ne (begun.row i) step ∙ begins_others deferred_word setting.batch_size w begun i j ne request h.1

  -- what a call that rests has begun to retire by it, users have not any more
  pub begun_gone : IsOneStep setting i w w2 → w.row i ≡ Rests → (b : ℕ) (d : Settle) → d.pending ≡ b * 2048 → (w2.row i ≡ Rests) ⊎ (w2.row i ≡ Settles d) → IsStillHad (w2.hand b) → ⊥
  begun_gone (inl h) rests b d is row still = subst (λ (x : Row). Steps' deferred_word i x w w2) rests h
  begun_gone (inr (request, begun, over, h, step)) rests b d is row still = by (begun_row begun request over h step) row
    where
      gone : (c : ℕ) → begun.hand c ≡ Handed → c ≡ b → ⊥
      gone c handed e =
          let r1 = happens_reached deferred_word setting.batch_size (Begin i request) w begun r h in
          let hand = still_row deferred_word setting.batch_size begun r1 i w2 step b still in
          subst IsStillHad (hand ∙ ap begun.hand (sym e) ∙ handed) still

      same_settle : (x y : Settle) → Settles x ≡ Settles y → x ≡ y
      same_settle x y e = cc e

      by : ((c : ℕ) × (begun.hand c ≡ Handed) × (e : Settle) × (w2.row i ≡ Settles e) × (e.pending ≡ c * 2048)) ⊎ ((s : ℕ) × (e : Defer) × (w2.row i ≡ Defers s e))
          → (w2.row i ≡ Rests) ⊎ (w2.row i ≡ Settles d) → ⊥
      by (inl (c, handed, e, at, pending)) (inl none) = cc (at, none)
      by (inl (c, handed, e, at, pending)) (inr it) =
          let same_row = same_settle e d (sym at ∙ it) in
          let both : c * 2048 ≡ b * 2048 = sym pending ∙ ap (λ (x : Settle). x.pending) same_row ∙ is in
          gone c handed (omega (arith, both))
      by (inr (s, e, at)) (inl none) = cc (at, none)
      by (inr (s, e, at)) (inr it) = cc (at, it)

module _ {K Q : Type 0} (V : Type 0) (same : K → K → Bool) (asks : Q → K → Bool) (batch_size roots : ℕ) (slot : ℕ → ℕ)
    (w : World (Node K V)) (maps : ℕ → Option (Standing K)) (calls : ℕ → ℕ → Option (UnderWay K V Q)) (makers : ℕ → Option (Beginning K)) (enders : ℕ → Option (Finishing K V)) where
  module _ (all : EndingsTogether V same asks batch_size roots slot w maps calls makers enders) (theirs : AllAreTheirs w maps calls enders)
      (m : ℕ) (s : Standing K) (here : maps m ≡ Some s) (i : ℕ) (u : UnderWay K V Q) (has : calls m i ≡ Some u)
      (w2 : World (Node K V)) (one : IsOneStep s.setting i w w2) (maps2 : ℕ → Option (Standing K)) (same_maps : (n : ℕ) → IsSameMap (maps n) (maps2 n)) (next : Option (UnderWay K V Q)) where
    reached : Reached deferred_word s.setting.batch_size w
    reached = came_reached s.setting.batch_size w (all.makings.standing.each m s here).ground.came

    others : (n j : ℕ) (v : UnderWay K V Q) → calls n j ≡ Some v → (n ≡ m → j ≡ i → ⊥) → w.row j ≡ Rests → w2.row j ≡ Rests
    others n j v under ne rests = one_others s.setting i w w2 reached one j (λ e. by (cases_eq n m) e) ∙ rests
      where
        by : (n ≡ m) ⊎ (n ≢ m) → j ≡ i → ⊥
        by (inl same_map) e = ne same_map e
        by (inr other) e =
            let none = no_other V same asks batch_size slot w maps calls all.makings.standing m s here i u has n other in
            let it : calls n i ≡ Some v = ap (calls n) (sym e) ∙ under in cc (none, it)

    -- it is a step of this copier, at a row; what is under way goes on with it, within that row, or with none
    pub record RowsBy (x : Copier) : Type 0 where
      pub row : IsRowOfCopier x.stands
      pub m2 : Mem (Node K V)
      pub end : Copier × Yielding (Node K V) Table
      pub steps : Steps Took value_at w.memory (copier_plan s.hash x) m2 end
      pub goes : IsOn end.1 → (u2 : UnderWay K V Q) × (next ≡ Some u2) × (copier_of u2 ≡ Some end.0) × ((w2.row i ≡ Rests) ⊎ (w2.row i ≡ row_of_copier end.0.stands))

    module _ (b : ℕ) (still : IsStillHad (w2.hand b)) (x : Copier) (st : RowsBy x) where
      -- what it was to hand over next it has begun to retire: so users have it not
      due_gone : w.row i ≡ Rests → IsObligedAt x x.stands b → ⊥
      due_gone rests due =
          let it = row_within s.hash x w.memory st.m2 st.end b x.stands st.row due st.steps in
          let on = st.goes (row_goes s.hash x w.memory st.m2 st.end x.stands st.row st.steps).0 in
          begun_gone s.setting i w w2 reached one rests b it.0 it.2 (by it.0 it.1 on.3) still
        where
          by : (d : Settle) → row_of_copier st.end.0.stands ≡ Settles d → (w2.row i ≡ Rests) ⊎ (w2.row i ≡ row_of_copier st.end.0.stands) → (w2.row i ≡ Rests) ⊎ (w2.row i ≡ Settles d)
          by d is (inl rests) = inl rests
          by d is (inr at) = inr (at ∙ is)

      hands_by : IsToHandOver w maps m i x b → OwesThen w w2 maps maps2 calls enders enders m i next b
      hands_by (inl (rests, due)) = absurd (due_gone rests due)
      hands_by (inr (r, is, blocking, ahead)) =
          let g = row_goes s.hash x w.memory st.m2 st.end x.stands st.row st.steps in
          let on = st.goes g.0 in (
            on.0,
            on.1,
            (
              st.end.0,
              on.2,
              inr (comes_on maps maps2 m st.end.0 b (same_on w w2 maps maps2 calls enders m (same_maps m))
                  (r, is, blocking, ahead_next r.chart.past r.blocks.table x st.end.0 g.1 g.2 b ahead)),
            ),
          )

    -- So all are somebody's then.
    row_theirs : ((x : Copier) → copier_of u ≡ Some x → RowsBy x) → AllAreTheirs w2 maps2 (with_call calls m i next) enders
    row_theirs within b can =
        theirs_by w w2 maps maps2 calls enders (with_call calls m i next) same_maps b
        (owed_with w w2 maps maps2 calls enders enders m i next b (λ n j v under ne. (others n j v under ne, same_on w w2 maps maps2 calls enders n (same_maps n)))
        (λ v under owes.
        hands_by b can.0 owes.0 (within owes.0 (subst (λ (y : UnderWay K V Q). copier_of y ≡ Some owes.0) (one_some (calls m i) v u under has) owes.1)) owes.2))
        (theirs b (can_back w w2 maps maps2 calls enders b (one_kept s.setting i w w2 reached one b) can))

  -- where it stands, by what it knows
  on_row : (i : ℕ) (w2 : World (Node K V)) (at copiers : Row) → at ≡ copiers → (w2.row i ≡ Rests) ⊎ (w2.row i ≡ at) → (w2.row i ≡ Rests) ⊎ (w2.row i ≡ copiers)
  on_row i w2 at copiers is (inl rests) = inl rests
  on_row i w2 at copiers is (inr here) = inr (here ∙ is)

  pub rows_keep_theirs : RowsPreserveTheirs V same asks batch_size roots slot w maps calls makers enders
  rows_keep_theirs all theirs m s here i u has row m2 p2 progress steps st =
      row_theirs all theirs m s here i (OnKey u) has st.step.w2 st.step.happened st.together.0 st.together.1 (next_of then progress)
      (λ x is. let k = call_copies same s.hash asks u.call w.memory m2 (p2, progress) u.call.stands x is steps in record {
        row = (call_row u.call.stands x is).0 row;
        m2 = m2;
        end = k.0;
        steps = k.1;
        goes = λ on. let g = k.2 on in (OnKey then, g.1 then, g.0, stands k.0.0 g.0 (g.1 then));
      })
    where
      then : CallOnKey K V Q
      then = record { keys = u.keys; pair = u.pair; began = u.began; change = u.change; call = p2 }

      by : IsAtPoint V same s.hash asks s.setting slot st.step.w2 s.chart (seen_by s.blocks (s.sights (slot i))) i (OnKey then) → (st.step.w2.row i ≡ Rests) ⊎ (st.step.w2.row i ≡ row_of (slot i) p2.stands)
      by (inl k) = inl k.0
      by (inr k) = inr k.0

      stands : (q : Copier) → copier_of_call p2.stands ≡ Some q → next_of then progress ≡ Some (OnKey then) → (st.step.w2.row i ≡ Rests) ⊎ (st.step.w2.row i ≡ row_of_copier q.stands)
      stands q is on =
          on_row i st.step.w2 (row_of (slot i) p2.stands) (row_of_copier q.stands) (call_row_is (slot i) p2.stands q is)
          (by (st.step.together.stand i (OnKey then) (at_same (calls m) i (next_of then progress) i refl ∙ on)))

  pub room_rows_keep_theirs : RoomRowsPreserveTheirs V same asks batch_size roots slot w maps calls makers enders
  room_rows_keep_theirs all theirs m s here i r has row m2 p2 end steps st =
      row_theirs all theirs m s here i (ForRoom r) has st.step.w2 st.step.happened st.together.0 st.together.1 (next_for_room then end)
      (λ x is. let k = room_copies Q s.hash r.reserve w.memory m2 (p2, end) r.reserve.stands x is steps in record {
        row = (room_row r.reserve.stands x is).0 row;
        m2 = m2;
        end = k.0;
        steps = k.1;
        goes = λ on. let g = k.2 on in (ForRoom then, g.1 then, g.0, stands k.0.0 g.0 (g.1 then));
      })
    where
      then : CallForRoom
      then = record { began = r.began; reserve = p2 }

      by : IsAtPoint V same s.hash asks s.setting slot st.step.w2 s.chart (seen_by s.blocks (s.sights (slot i))) i (ForRoom then) → (st.step.w2.row i ≡ Rests) ⊎ (st.step.w2.row i ≡ row_of_room p2.stands)
      by (inl k) = inl k.0
      by (inr k) = inr k.0

      stands : (q : Copier) → copier_of_room p2.stands ≡ Some q → next_for_room {K = K} {V = V} {Q = Q} then end ≡ Some (ForRoom then)
          → (st.step.w2.row i ≡ Rests) ⊎ (st.step.w2.row i ≡ row_of_copier q.stands)
      stands q is on =
          on_row i st.step.w2 (row_of_room p2.stands) (row_of_copier q.stands) (room_row_is p2.stands q is)
          (by (st.step.together.stand i (ForRoom then) (at_same (calls m) i (next_for_room then end) i refl ∙ on)))

  pub sweep_rows_keep_theirs : SweepRowsPreserveTheirs V same asks batch_size roots slot w maps calls makers enders
  sweep_rows_keep_theirs all theirs m s here i o has row m2 p2 end steps st =
      row_theirs all theirs m s here i (OverAll o) has st.step.w2 st.step.happened st.together.0 st.together.1 (next_over_all (gone_on o p2) end)
      (λ x is. let k = sweep_copies Q s.hash o.sweep w.memory m2 (p2, end) o.sweep.stands x is steps in record {
        row = (sweep_row o.sweep.stands x is).0 row;
        m2 = m2;
        end = k.0;
        steps = k.1;
        goes = λ on. let g = k.2 on in (OverAll (gone_on o p2), g.1 (gone_on o p2), g.0, stands k.0.0 g.0 (g.1 (gone_on o p2)));
      })
    where
      by : IsAtPoint V same s.hash asks s.setting slot st.step.w2 s.chart (seen_by s.blocks (s.sights (slot i))) i (OverAll (gone_on o p2))
          → (st.step.w2.row i ≡ Rests) ⊎ (st.step.w2.row i ≡ row_of_sweep (slot i) p2.stands)
      by (inl k) = inl k.0
      by (inr k) = inr k.0

      stands : (q : Copier) → copier_of_sweep p2.stands ≡ Some q → next_over_all {K = K} {V = V} {Q = Q} (gone_on o p2) end ≡ Some (OverAll (gone_on o p2))
          → (st.step.w2.row i ≡ Rests) ⊎ (st.step.w2.row i ≡ row_of_copier q.stands)
      stands q is on =
          on_row i st.step.w2 (row_of_sweep (slot i) p2.stands) (row_of_copier q.stands) (sweep_row_is (slot i) p2.stands q is)
          (by (st.step.together.stand i (OverAll (gone_on o p2)) (at_same (calls m) i (next_over_all (gone_on o p2) end) i refl ∙ on)))
