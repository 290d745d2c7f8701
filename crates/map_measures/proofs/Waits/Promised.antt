-- What is promised of each step that answers that its call waits for a copying.
use Rattle.std.specs.Prelude.{Option}
use Rattle.std.proofs.Common.{◌≡◌, ℕ, ◌<◌, Bool, true, false, cond, ◌⊎◌, inl, inr, refl, ap, sym, subst, ◌∙◌, arith}
use Rattle.seize_words.specs.OneMemory.Mem.{Took, value_at}
use Rattle.seize_words.specs.OneMemory.Plan.{Steps}
use Rattle.seize.specs.World.{World, Rests, IsInside}
use Rattle.map_tables.specs.Chunks.{is_incremental}
use Rattle.map_tables.specs.declared.node.Node.{Node}
use Rattle.map_tables.specs.declared.setting.Setting.{Setting}
use Rattle.map_tables.specs.declared.table.Table.{Table}
use Rattle.map_machines.specs.declared.copier.Copier.{Copier}
use Rattle.map_machines.specs.declared.copier.Copying.{Copying as Point}
use Rattle.map_machines.specs.declared.copier.Copying.TheVariants as copies
use Rattle.many_calls.specs.Given.RawCall.{plan_at}
use Rattle.many_calls.specs.Given.RawDeclared.machines.answer.Called.{Called}
use Rattle.many_calls.specs.Given.RawDeclared.machines.call.KeyCall.{KeyCall}
use Rattle.many_calls.specs.Given.RawDeclared.machines.call.Calling.{Calling}
use Rattle.many_calls.specs.Given.RawDeclared.machines.call.Calling.TheVariants as at
use Rattle.map_sweeps.specs.declared.reserve.Reserving.{Reserving}
use Rattle.map_sweeps.specs.declared.reserve.Reserving.TheVariants as reserves
use Rattle.map_sweeps.specs.declared.sweep.Sweep.{Sweep}
use Rattle.map_sweeps.specs.declared.sweep.Sweeping.{Sweeping}
use Rattle.map_sweeps.specs.declared.sweep.Sweeping.TheVariants as sweeps
use Rattle.many_calls.specs.Given.RuleChart.{Chart}
use Rattle.many_calls.specs.Given.RuleWords.{Blocks, place_word}
use Rattle.many_calls.specs.Given.RuleMaps.{IsTrial}
use Rattle.many_calls.specs.Given.RuleInWorld.{IsMapIn}
use Rattle.many_calls.proofs.Given.RuleKeys.TriesSeen.{spot_inside}
use Rattle.many_calls.proofs.Given.RuleWords.TablesSeen.{place_there}
use Rattle.many_calls.specs.Given.PointsFactsCalls.{Change, Unchanged, CallingFacts, CallFacts}
use Rattle.many_calls.specs.Given.PointsFactsCopies.{CopyingFacts, CopierFacts}
use Rattle.many_calls.specs.Given.PointsFactsCopiesBlocking.{CopierFactsBlocking}
use Rattle.many_calls.specs.Given.PointsTold.{IsRowOfCall}
use Rattle.many_calls.specs.Given.LateLateCalls.{SupersededCalling, SupersededCallFacts}
use Rattle.many_calls.specs.Given.LateLateCopies.{SupersededCopierFacts}
use Rattle.many_calls.specs.Given.LateFactsReserves.{IsEnding, CopiesWhole, ReservingFacts, ReserveFacts}
use Rattle.many_calls.specs.Given.LateLateReserves.{SupersededReserving, SupersededReserveFacts}
use Rattle.many_calls.specs.Given.LateToldReserves.{IsRowOfReserve}
use Rattle.many_calls.specs.Given.LateFactsSweeps.{SweepingFacts}
use Rattle.many_calls.specs.Rooms.{row_of_room, room_once_over}
use Rattle.many_calls.specs.Rows.{row_of, once_over}
use Rattle.many_calls.specs.Sights.{Visible, seen_by}
use Rattle.many_calls.specs.Together.{CallOnKey, UnderWay, OnKey, ForRoom, Knows, KnowsRoom, Together, in_slot}
use Rattle.many_calls.proofs.Sights.Seen.{map_seen}
use Rattle.many_calls.proofs.Together.Fits.{map_in_slot}
use Rattle.map_measures.specs.Waits.Promises.{CallsWaitForACopying, RoomsWaitForACopying, SweepsWaitForACopying, LookupsNeverWait}
use Rattle.map_measures.specs.Waits.Waits.{IsBeingCopied, CopierAwaits, CallAwaits, RoomAwaits, SweepAwaits}
use Rattle.map_measures.proofs.Waits.CallPlans.{Continues, looks_goes}
use Rattle.map_measures.proofs.Waits.Calls.{SeesPair, CallSees, call_waits}
use Rattle.map_measures.proofs.Waits.Copiers.{Sees}
use Rattle.map_measures.proofs.Waits.Copyings.{RoomSees, room_waits, SweepSees, sweep_waits}
use Rattle.map_measures.proofs.Waits.Shown.{copying_shown, copier_shown, copier_shown_blocking, copier_shown_late}
use Rattle.many_calls.proofs.Given.RuleKeys.Always.{always_steps}

pub mode_of : (s setting : Setting) (b : Bool) → s ≡ setting → is_incremental setting.mode ≡ b → is_incremental s.mode ≡ b
mode_of s setting b is mode = ap (λ (x : Setting). is_incremental x.mode) is ∙ mode

module _ {K V : Type 0} (same : K → K → Bool) (hash : K → ℕ) (w : World (Node K V)) (caller : ℕ) (setting : Setting) (c : Chart K) (blocks : Blocks)
    (map : IsMapIn same hash setting w c blocks) where
  abbrev incremental : Bool
  incremental = is_incremental setting.mode

  -- a copier of a whole table
  whole_awaits : (copier : Copier) → CopiesWhole same hash w caller setting c blocks copier → Sees copier w.memory copier.stands
      → CopierAwaits c incremental copier copier.stands
  whole_awaits copier whole sees = by incremental refl whole
    where
      by : (b : Bool) → incremental ≡ b
          → cond b ((copier.whole ≡ true) × CopierFacts same hash w caller setting c blocks copier × IsEnding same hash w caller setting c blocks copier copier.stands)
          (CopierFactsBlocking same hash w caller setting c blocks copier)
          → CopierAwaits c b copier copier.stands
      by true mode f = copier_shown same hash w caller setting c blocks map copier mode f.1 sees
      by false mode f = copier_shown_blocking same hash w caller setting c blocks map copier (mode_of copier.setting setting false f.setting_is mode) f sees

  -- and of one that the root has left
  late_awaits : (began : ℕ) (copier : Copier) → incremental ≡ false → SupersededCopierFacts same hash w caller setting c blocks began copier
      → Sees copier w.memory copier.stands
      → CopierAwaits c incremental copier copier.stands
  late_awaits began copier blocking late sees =
      subst (λ (b : Bool). CopierAwaits c b copier copier.stands) (sym blocking)
      (copier_shown_late same hash w caller setting c blocks map copier (mode_of copier.setting setting false late.setting_is blocking) began late sees)

  -- a reservation
  room_at : (stands : Reserving) → ReservingFacts same hash w caller setting c blocks stands → RoomSees w.memory stands → RoomAwaits c incremental stands
  room_at (reserves.Copies copier) f sees = whole_awaits copier f sees
  room_at _ f sees = absurd sees

  late_room_at : (began : ℕ) → incremental ≡ false → (stands : Reserving) → SupersededReserving same hash w caller setting c blocks began stands
      → RoomSees w.memory stands → RoomAwaits c incremental stands
  late_room_at began blocking (reserves.Copies copier) f sees = late_awaits began copier blocking f sees
  late_room_at began blocking _ f sees = absurd sees

  -- a sweep
  sweep_at : (began : ℕ) (p : Sweep) (stands : Sweeping) → SweepingFacts same hash w caller setting c blocks began p stands → SweepSees w.memory stands
      → SweepAwaits c incremental stands
  sweep_at began p (sweeps.Copies copier) (inl whole) sees = whole_awaits copier whole sees
  sweep_at began p (sweeps.Copies copier) (inr (blocking, late)) sees = late_awaits began copier blocking late sees
  sweep_at began p _ f sees = absurd sees

  -- a call on one key
  module _ {Q : Type 0} (asks : Q → K → Bool) (keys : K → Bool) (p : KeyCall K V Q) (setting_is : p.setting ≡ setting) where
    -- at its try
    pair_awaited : (t j : ℕ) → IsTrial c blocks p.trial p.hash t j → SeesPair p w.memory → (incremental ≡ true)
        × IsBeingCopied c p.trial.table.turn p.trial.probe.i
    pair_awaited t j trial (word, read, mode, some, copying, copied) =
        let inside : p.trial.probe.i < c.len t =
        (let l = spot_inside (c.len t) p.hash j (map.map.rule.common.lens t trial.table.made).0 in let is = trial.place in omega (arith, l, is)) in
        let there = place_there hash w.memory c blocks setting.root map.map.shows p.trial.table t trial.table p.trial.probe.i inside in
        let is : word ≡ place_word hash c blocks (c.place t p.trial.probe.i) = cc (read, there) in
        let turn : p.trial.table.turn ≡ t = ap (λ (x : Table). x.turn) trial.table.is in (
          mode_of setting p.setting true (sym setting_is) mode,
          copying_shown hash c blocks (c.place p.trial.table.turn p.trial.probe.i) word
              (is ∙ ap (λ (x : ℕ). place_word hash c blocks (c.place x p.trial.probe.i)) (sym turn)) some copying copied,
        )

    -- a helper never waits: it copies no whole table
    helps_not : (copier : Copier) (stands : Point) → copier.whole ≡ false → CopyingFacts same hash w caller setting c blocks copier stands
        → Sees copier w.memory stands → ⊥
    helps_not copier copies.Marks part f (whole, sees) = cc (part, whole)
    helps_not copier copies.Asks part f sees = let whole = f.6 in cc (part, whole)
    helps_not copier _ part f sees = sees

    call_at : (change : Change) (stands : Calling) → CallingFacts same hash asks w caller setting c blocks keys change p stands → CallSees p w.memory stands
        → CallAwaits c incremental p stands
    call_at change at.Probes f sees = let at_try = f.1 in pair_awaited at_try.0 at_try.1 at_try.2 sees
    call_at change (at.Helps copier goal) f sees = absurd (helps_not copier copier.stands f.2 f.6.point sees)
    call_at change (at.Copies copier) f sees =
        let blocking : incremental ≡ false = f.1 in (
          blocking,
          subst (λ (b : Bool). CopierAwaits c b copier copier.stands) (sym blocking)
              (copier_shown_blocking same hash w caller setting c blocks map copier (mode_of copier.setting setting false f.2.setting_is blocking) f.2 sees),
        )
    call_at change _ f sees = absurd sees

    late_call_at : (began : ℕ) → incremental ≡ false → (stands : Calling) → SupersededCalling same hash asks w caller setting c blocks keys began p stands
        → CallSees p w.memory stands
        → CallAwaits c incremental p stands
    late_call_at began blocking at.Probes f sees = absurd (let bits = mode_of setting p.setting true (sym setting_is) sees.2 in cc (bits, blocking))
    late_call_at began blocking (at.Copies copier) f sees = (blocking, late_awaits began copier blocking f.1 sees)
    late_call_at began blocking (at.Helps copier goal) f sees = absurd f
    late_call_at began blocking _ f sees = absurd sees

module _ {K Q : Type 0} (V : Type 0) (same : K → K → Bool) (hash : K → ℕ) (asks : Q → K → Bool) (setting : Setting) (slot : ℕ → ℕ) where
  -- of one that knows what its point knows
  call_awaits : (w : World (Node K V)) (c : Chart K) (seen : Blocks) (i : ℕ) (u : CallOnKey K V Q) → IsMapIn same hash (in_slot setting (slot i)) w c seen
      → Knows V same hash asks setting slot w c seen i u u.call → CallSees u.call w.memory u.call.stands
      → CallAwaits c (is_incremental setting.mode) u.call u.call.stands
  call_awaits w c seen i u map knows sees = by knows.facts
    where
      by : CallFacts same hash asks w i (in_slot setting (slot i)) c seen u.keys u.change u.call
          ⊎ ((u.change ≡ Unchanged) × SupersededCallFacts same hash asks w i (in_slot setting (slot i)) c seen u.keys u.began u.call)
          → CallAwaits c (is_incremental setting.mode) u.call u.call.stands
      by (inl fresh) = call_at same hash w i (in_slot setting (slot i)) c seen map asks u.keys u.call fresh.setting_is u.change u.call.stands fresh.point sees
      by (inr (none, late)) =
          late_call_at same hash w i
          (in_slot setting (slot i)) c seen map asks u.keys u.call late.setting_is u.began late.blocking u.call.stands late.point sees

  -- what a caller sees of the map within its section
  pub map_of : (w : World (Node K V)) (c : Chart K) (blocks : Blocks) (sights : ℕ → Visible) (calls : ℕ → Option (UnderWay K V Q))
      → Together V same hash asks setting slot w c blocks sights calls
      → (i : ℕ) → IsInside (w.uses (slot i)) → IsMapIn same hash (in_slot setting (slot i)) w c (seen_by blocks (sights (slot i)))
  map_of w c blocks sights calls s i inside =
      map_seen same hash (in_slot setting (slot i)) w c blocks (sights (slot i)) (map_in_slot same hash setting w c blocks (slot i) s.ground.map)
      (s.ground.sight (slot i) inside).0

  pub calls_wait_for_a_copying : CallsWaitForACopying V same hash asks setting slot
  calls_wait_for_a_copying are w c blocks sights calls s i u has none m2 p2 st =
      let h = call_waits u.call w.memory same hash asks m2 p2 none st in (h.0, by (s.stand i (OnKey u) has) h.1)
    where
      by : ((w.row i ≡ Rests) × Knows V same hash asks setting slot w c (seen_by blocks (sights (slot i))) i u u.call)
          ⊎ ((w.row i ≡ row_of (slot i) u.call.stands) × IsRowOfCall u.call.stands × Knows V same hash asks setting slot w c (seen_by blocks (sights (slot i))) i u (once_over u.call))
          → CallSees u.call w.memory u.call.stands → CallAwaits c (is_incremental setting.mode) u.call u.call.stands
      by (inl rests) sees = call_awaits w c (seen_by blocks (sights (slot i))) i u (map_of w c blocks sights calls s i (s.inside i (OnKey u) has)) rests.1 sees
      by (inr within) sees = absurd (none within.1)

  pub rooms_wait_for_a_copying : RoomsWaitForACopying V same hash asks setting slot
  rooms_wait_for_a_copying are w c blocks sights calls s i r has none m2 p2 st =
      let h = room_waits K V r.reserve hash w.memory m2 p2 none st in (h.0, by (s.stand i (ForRoom r) has) h.1)
    where
      map : IsMapIn same hash (in_slot setting (slot i)) w c (seen_by blocks (sights (slot i)))
      map = map_of w c blocks sights calls s i (s.inside i (ForRoom r) has)

      knows : ReserveFacts same hash w i (in_slot setting (slot i)) c (seen_by blocks (sights (slot i))) r.reserve
          ⊎ SupersededReserveFacts same hash w i (in_slot setting (slot i)) c (seen_by blocks (sights (slot i))) r.began r.reserve
          → RoomSees w.memory r.reserve.stands → RoomAwaits c (is_incremental setting.mode) r.reserve.stands
      knows (inl fresh) sees = room_at same hash w i (in_slot setting (slot i)) c (seen_by blocks (sights (slot i))) map r.reserve.stands fresh.point sees
      knows (inr late) sees =
          late_room_at same hash w i (in_slot setting (slot i)) c (seen_by blocks (sights (slot i))) map r.began late.blocking r.reserve.stands late.point sees

      by : ((w.row i ≡ Rests) × KnowsRoom V same hash asks setting slot w c (seen_by blocks (sights (slot i))) i r.began r.reserve)
          ⊎ ((w.row i ≡ row_of_room r.reserve.stands) × IsRowOfReserve r.reserve.stands
          × KnowsRoom V same hash asks setting slot w c (seen_by blocks (sights (slot i))) i r.began (room_once_over r.reserve))
          → RoomSees w.memory r.reserve.stands → RoomAwaits c (is_incremental setting.mode) r.reserve.stands
      by (inl rests) sees = knows rests.1.facts sees
      by (inr within) sees = absurd (none within.1)

pub sweeps_wait_for_a_copying : {K : Type 0} (V : Type 0) (same : K → K → Bool) (hash : K → ℕ) → SweepsWaitForACopying V same hash
sweeps_wait_for_a_copying {K} V same hash are setting w caller c blocks began p map f none m2 p2 st =
    let h = sweep_waits K V p hash w.memory m2 p2 none st in (h.0, sweep_at same hash w caller setting c blocks map began p p.stands f.point h.1)

pub lookups_never_wait : {K Q : Type 0} (V : Type 0) (same : K → K → Bool) (hash : K → ℕ) (asks : Q → K → Bool) → LookupsNeverWait V same hash asks
lookups_never_wait {K} {Q} V same hash asks p lookup at_lookup m m2 p2 progress st e =
    subst (λ (x : Called (Node K V)). Continues (p2, x)) e
    (always_steps Continues m m2 (plan_at asks same hash p (at.Looks lookup)) (p2, progress) (looks_goes p asks lookup p.asked)
    (subst (λ (stands : Calling). Steps Took value_at m (plan_at asks same hash p stands) m2 (p2, progress)) at_lookup st))
