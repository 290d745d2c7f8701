-- A call that stands at a row of the collector is within it, in a world with the same memory: the row is begun there, if it is not yet.
use Rattle.std.specs.Prelude.{◌≡◌, ℕ, ◌==◌, Bool, true, false, Option, Some, if◌then◌else◌}
use Rattle.std.proofs.Common.{inl, inr, refl, sym, subst, arith}
use Rattle.seize_words.specs.OneMemory.Mem.{Mem}
use Rattle.seize.specs.World.{World, IsInside}
use Rattle.map_tables.specs.Chunks.{is_incremental}
use Rattle.map_tables.specs.declared.node.Node.{Node}
use Rattle.map_tables.specs.declared.setting.Setting.{Setting}
use Rattle.map_measures.specs.Given.ResizeCopierStates as copiers
use Rattle.map_measures.specs.Given.ResizeDeclared.copier.Copier.{Copier}
use Rattle.map_measures.specs.Given.ResizeDeclared.copier.Copying.{Copying}
use Rattle.map_measures.specs.Given.ResizeDeclared.copier.Copying.TheVariants as copies
use Rattle.map_measures.specs.Given.ResizeDeclared.dispose.Disposing.{Disposing}
use Rattle.map_measures.specs.Given.ResizeDeclared.dispose.Disposing.TheVariants as disposes
use Rattle.papaya_raw.specs.declared.machines.call.KeyCall.{KeyCall}
use Rattle.papaya_raw.specs.declared.machines.call.Calling.{Calling}
use Rattle.papaya_raw.specs.declared.machines.call.Calling.TheVariants as at
use Rattle.papaya_raw.specs.Given.ReservesDeclared.reserve.Reserving.{Reserving}
use Rattle.papaya_raw.specs.Given.ReservesDeclared.sweep.Sweeping.{Sweeping}
use Rattle.papaya_raw.specs.Given.ReservesDeclared.sweep.Sweeping.TheVariants as sweeps
use Rattle.map_measures.specs.Given.RuleChart.{Chart}
use Rattle.map_measures.specs.Given.RuleWords.{Blocks}
use Rattle.owner_facts.specs.Given.PointsSteps.{AreLawful}
use Rattle.owner_facts.specs.Given.PointsTold.{IsRowOf, IsRowOfCopier, IsRowOfCall}
use Rattle.owner_facts.specs.Given.LateFactsSweeps.{CopiesTable, SweepingFacts}
use Rattle.owner_facts.specs.Given.LateToldReserves.{IsRowOfReserve}
use Rattle.owner_facts.specs.Given.LateToldSweeps.{IsRowOfSweep}
use Rattle.owner_facts.specs.Given.CallersOverAll.{CallOverAll, row_of_sweep, past_sweeping, sweep_once_over}
use Rattle.owner_facts.specs.Given.CallersRooms.{CallForRoom, row_of_room, past_room, room_once_over}
use Rattle.map_measures.specs.Given.CallersRows.{row_of, past_copying, past_row, once_over}
use Rattle.owner_facts.specs.Given.CallersSights.{Visible, seen_by, IsVisibility}
use Rattle.owner_facts.specs.Given.CallersTogether.{UnderWay, CallOnKey, OnKey, ForRoom, OverAll, CameAbout, in_slot, Ground, Knows, KnowsRoom, KnowsSweep, IsAtPoint, Together}
use Rattle.owner_facts.proofs.Given.CallersTogether.BeginsRows.{begun_row}
use Rattle.owner_facts.proofs.Given.CallersTogether.RoomRows as rooms
use Rattle.owner_facts.proofs.Given.CallersTogether.RowsOfCopiers.{at_retirement}
use Rattle.owner_facts.proofs.Given.CallersTogether.SweepRows.{at_row}
use Rattle.owner_facts.proofs.Given.CallersTogether.SweepStepped as swept
use Rattle.map_measures.proofs.Falls.Calls.Facts.{call_stands}
use Rattle.map_measures.proofs.Falls.Calls.LateFacts.{late_call_stands}
use Rattle.map_measures.proofs.Falls.Reserves.Stands.{WholeStands, ReservingStands, reserve_stands, late_reserve_stands}
use Rattle.map_measures.proofs.Falls.Stands.{AtOld, CopyingStands, CopyingStandsBlocking, CallingStands, CallStands}
use Rattle.map_measures.proofs.Passes.Within.{copier_stands}
use Rattle.owner_whole.proofs.Lowers.Kept.{DisposeLinks, IsKnownLink, Links, KeyLinks, RoomLinks, SweepLinks}
use Rattle.owner_whole.proofs.Lowers.Own as own
use Rattle.owner_whole.proofs.Lowers.Widened as wide
use Rattle.owner_facts.proofs.Given.CallersTogether.RoomRows.{at_copying as at_room_row}

row_links : (x : Disposing) → IsRowOf x → DisposeLinks x
row_links (disposes.Settles settle) row = tt
row_links (disposes.Defers defer) row = tt
row_links disposes.Reads row = absurd row
row_links (disposes.Walks link) row = absurd row
row_links disposes.Over row = absurd row

-- What is needed of a copier behind its row says which links it goes on by, at the row, too.
module _ {K V : Type 0} (setting : Setting) (m : Mem (Node K V)) (c : Chart K) (blocks : Blocks) where
  old_link : (p : Copier) (link : ℕ) → AtOld setting m c blocks p link → IsKnownLink c blocks link
  old_link p link (s, t, l, entered, known, is) = (s, (let made = entered.made in omega (arith, l, made)), known, is)

  abbrev Both : Copier → Copying → Type 0
  Both p x = Links c blocks (past_copying p x).stands × Links c blocks x

  chunk_links : (p : Copier) (x : Copying) → IsRowOfCopier x → CopyingStands setting m c blocks (past_copying p x) (past_copying p x).stands → Both p x
  chunk_links p = at_retirement (λ x. CopyingStands setting m c blocks (past_copying p x) (past_copying p x).stands → Both p x) (λ settle rest. by rest (rest == 0))
    where
      by : (rest : ℕ) (q : Bool) → (let past : Copier = if q then copiers.standing p copies.Over else copiers.standing p (copies.Succeeds rest) in
          CopyingStands setting m c blocks past past.stands → Links c blocks past.stands × (q ≡ false → IsKnownLink c blocks rest))
      by rest true f = (tt, λ e. absurd (cc e))
      by rest false f = let l = old_link (copiers.standing p (copies.Succeeds rest)) rest f in (l, λ e. l)

  whole_links : (p : Copier) (x : Copying) → IsRowOfCopier x → CopyingStandsBlocking setting m c blocks (past_copying p x) (past_copying p x).stands → Both p x
  whole_links p = at_retirement (λ x. CopyingStandsBlocking setting m c blocks (past_copying p x) (past_copying p x).stands → Both p x) (λ settle rest. by rest (rest == 0))
    where
      by : (rest : ℕ) (q : Bool) → (let past : Copier = if q then copiers.standing p copies.Over else copiers.standing p (copies.Succeeds rest) in
          CopyingStandsBlocking setting m c blocks past past.stands → Links c blocks past.stands × (q ≡ false → IsKnownLink c blocks rest))
      by rest true f = (tt, λ e. absurd (cc e))
      by rest false f = let l = old_link (copiers.standing p (copies.Succeeds rest)) rest f in (l, λ e. l)

  either_links : (b : Bool) (p : Copier) → IsRowOfCopier p.stands → WholeStands setting m c blocks b (past_copying p p.stands) → Both p p.stands
  either_links true p row f = chunk_links p p.stands row f.2
  either_links false p row f = whole_links p p.stands row f.1

  pub key_links : {Q : Type 0} (q : KeyCall K V Q) (x : Calling) → IsRowOfCall x → CallingStands setting m c blocks q (past_row x) → KeyLinks c blocks (past_row x) × KeyLinks c blocks x
  key_links q (at.Disposes d answer) row f = (tt, row_links d.stands row)
  key_links q (at.Helps copier goal) row f = chunk_links copier copier.stands row f.1
  key_links q (at.Copies copier) row f = whole_links copier copier.stands row f.1
  key_links q _ row f = absurd row

  pub room_links : (b : Bool) (x : Reserving) → IsRowOfReserve x → ReservingStands setting m c blocks b (past_room x) → RoomLinks c blocks (past_room x) × RoomLinks c blocks x
  room_links b = at_room_row (λ x. ReservingStands setting m c blocks b (past_room x) → RoomLinks c blocks (past_room x) × RoomLinks c blocks x)
      (λ copier row f. either_links b copier row f)

module _ {K V Q : Type 0} (same : K → K → Bool) (hash : K → ℕ) (asks : Q → K → Bool) (setting : Setting) (slot : ℕ → ℕ) (lawful : AreLawful same hash)
    (w : World (Node K V)) (c : Chart K) (blocks : Blocks) (sights : ℕ → Visible) (calls : ℕ → Option (UnderWay K V Q)) (s : Together V same hash asks setting slot w c blocks sights calls)
    (i : ℕ) (inside : IsInside (w.uses (slot i))) where
  abbrev here : Setting
  here = in_slot setting (slot i)

  abbrev seen : Blocks
  seen = seen_by blocks (sights (slot i))

  sight : IsVisibility c blocks (sights (slot i))
  sight = own.sight same hash asks setting slot lawful w c blocks sights calls s i inside

  -- a call on one key
  pub record KeyWithin (u : CallOnKey K V Q) : Type 0 where
    pub v : World (Node K V)
    pub memory : v.memory ≡ w.memory
    pub row_is : v.row i ≡ row_of (slot i) u.call.stands
    pub came : CameAbout setting.batch_size v
    pub knows : Knows V same hash asks setting slot v c seen i u (once_over u.call)

  pub key_within : (u : CallOnKey K V Q) → calls i ≡ Some (OnKey u) → IsRowOfCall u.call.stands → KeyWithin u
  key_within u has is_row = by (s.stand i (OnKey u) has)
    where
      by : IsAtPoint V same hash asks setting slot w c seen i (OnKey u) → KeyWithin u
      by (inr (row, at_row_now, knows)) = record { v = w; memory = refl; row_is = row; came = s.ground.came; knows = knows }
      by (inl (rests, knows)) =
          let b = begun_row same hash asks setting slot lawful w c blocks sights calls s i u inside rests has is_row knows in
          record { v = b.row.v; memory = b.row.memory; row_is = b.row.row_is; came = b.row.ground.came; knows = b.knows }

  -- it goes on by links to tables that can be looked at, at the row and behind it
  pub key_at_row : (u : CallOnKey K V Q) → calls i ≡ Some (OnKey u) → IsRowOfCall u.call.stands → KeyLinks c blocks u.call.stands
  key_at_row u has is_row = (key_links here in_row.v.memory c blocks (once_over u.call) u.call.stands is_row stands.point).1
    where
      in_row : KeyWithin u
      in_row = key_within u has is_row

      stands : CallStands here in_row.v.memory c blocks (once_over u.call)
      stands = wide.call here in_row.v.memory c blocks (sights (slot i)) sight (once_over u.call) (elim in_row.knows.facts as (λ _. CallStands here in_row.v.memory c seen (once_over u.call)) [
        | inl fresh ↦ call_stands same hash asks in_row.v i here c seen u.keys u.change (once_over u.call) fresh
        | inr late ↦ late_call_stands same hash asks in_row.v i here c seen u.keys u.began (once_over u.call) late.1
      ])

  pub key_behind : (u : CallOnKey K V Q) → calls i ≡ Some (OnKey u) → (IsRowOfCall u.call.stands → ⊥) → (x : Calling) → IsRowOfCall x → u.call.stands ≡ past_row x → KeyLinks c blocks u.call.stands
  key_behind u has none x is_row is =
      subst (KeyLinks c blocks) (sym is)
      (key_links here w.memory c blocks u.call x is_row (subst (CallingStands here w.memory c blocks u.call) is (own.key_stands same hash asks setting slot lawful w c blocks sights calls s i inside u has none).point)).0

  -- a reservation
  pub record RoomWithin (r : CallForRoom) : Type 0 where
    pub v : World (Node K V)
    pub memory : v.memory ≡ w.memory
    pub row_is : v.row i ≡ row_of_room r.reserve.stands
    pub came : CameAbout setting.batch_size v
    pub knows : KnowsRoom V same hash asks setting slot v c seen i r.began (room_once_over r.reserve)

  pub room_within : (r : CallForRoom) → calls i ≡ Some (ForRoom r) → IsRowOfReserve r.reserve.stands → RoomWithin r
  room_within r has is_row = by (s.stand i (ForRoom r) has)
    where
      by : IsAtPoint V same hash asks setting slot w c seen i (ForRoom r) → RoomWithin r
      by (inr (row, at_row_now, knows)) = record { v = w; memory = refl; row_is = row; came = s.ground.came; knows = knows }
      by (inl (rests, knows)) =
          let b = rooms.begins_at same hash asks setting slot lawful w c blocks sights calls s i r inside rests r.reserve.stands is_row knows in
          record { v = b.row.v; memory = b.row.memory; row_is = b.row.row_is; came = b.row.ground.came; knows = record { facts = b.knows.facts; began_before = b.knows.began_before } }

  pub room_at_row : (r : CallForRoom) → calls i ≡ Some (ForRoom r) → IsRowOfReserve r.reserve.stands → RoomLinks c blocks r.reserve.stands
  room_at_row r has is_row =
      (room_links here in_row.v.memory c blocks (is_incremental r.reserve.setting.mode) r.reserve.stands is_row
      (wide.reserve here in_row.v.memory c blocks (sights (slot i)) sight (room_once_over r.reserve)
      (elim in_row.knows.facts as (λ _. ReservingStands here in_row.v.memory c seen (is_incremental r.reserve.setting.mode) (past_room r.reserve.stands)) [
        | inl fresh ↦ reserve_stands same hash in_row.v i here c seen (room_once_over r.reserve) fresh
        | inr late ↦ late_reserve_stands same hash in_row.v i here c seen r.began (room_once_over r.reserve) late
      ]))).1
    where
      in_row : RoomWithin r
      in_row = room_within r has is_row

  pub room_behind : (r : CallForRoom) → calls i ≡ Some (ForRoom r) → (IsRowOfReserve r.reserve.stands → ⊥) → (x : Reserving) → IsRowOfReserve x → r.reserve.stands ≡ past_room x
      → RoomLinks c blocks r.reserve.stands
  room_behind r has none x is_row is =
      subst (RoomLinks c blocks) (sym is)
      (room_links here w.memory c blocks (is_incremental r.reserve.setting.mode) x is_row
      (subst (ReservingStands here w.memory c blocks (is_incremental r.reserve.setting.mode)) is (own.room_stands same hash asks setting slot lawful w c blocks sights calls s i inside r has none))).0

  -- a sweep
  pub record SweepWithin (o : CallOverAll) : Type 0 where
    pub v : World (Node K V)
    pub memory : v.memory ≡ w.memory
    pub row_is : v.row i ≡ row_of_sweep (slot i) o.sweep.stands
    pub ground : Ground V same hash asks setting slot v c blocks sights
    pub inside_then : IsInside (v.uses (slot i))
    pub knows : KnowsSweep V same hash asks setting slot v c seen i o (sweep_once_over o.sweep)

  pub sweep_within : (o : CallOverAll) → calls i ≡ Some (OverAll o) → IsRowOfSweep o.sweep.stands → SweepWithin o
  sweep_within o has is_row = by (s.stand i (OverAll o) has)
    where
      by : IsAtPoint V same hash asks setting slot w c seen i (OverAll o) → SweepWithin o
      by (inr (row, at_row_now, knows)) = record { v = w; memory = refl; row_is = row; ground = s.ground; inside_then = inside; knows = knows }
      by (inl (rests, knows)) =
          let b = swept.begins_at same hash asks setting slot lawful w c blocks sights calls s i o inside rests o.sweep.stands is_row knows in
          record { v = b.row.v; memory = b.row.memory; row_is = b.row.row_is; ground = b.row.ground; inside_then = b.row.now_inside; knows = b.knows }

  -- the copying of a table within it, once a row is over
  module _ (v : World (Node K V)) (began : ℕ) (own_setting : Setting) (own_is : own_setting ≡ here) where
    copied_links : (p : Copier) → IsRowOfCopier p.stands → CopiesTable same hash v i here c seen began (past_copying p p.stands) → Both here v.memory c blocks p p.stands
    copied_links p row f =
        either_links here v.memory c blocks (is_incremental own_setting.mode) p row
        (wide.whole here v.memory c blocks (sights (slot i)) sight (is_incremental own_setting.mode) (past_copying p p.stands)
        (copier_stands same hash v i here c seen began own_setting own_is (past_copying p p.stands) f))

  pub sweep_at_row : (o : CallOverAll) → calls i ≡ Some (OverAll o) → IsRowOfSweep o.sweep.stands → SweepLinks c blocks o.sweep.stands
  sweep_at_row o has is_row = by o.sweep.stands is_row in_row.knows.facts.point
    where
      in_row : SweepWithin o
      in_row = sweep_within o has is_row

      by : (x : Sweeping) → IsRowOfSweep x → SweepingFacts same hash in_row.v i here c seen o.began (sweep_once_over o.sweep) (past_sweeping x) → SweepLinks c blocks x
      by = at_row (λ x. SweepingFacts same hash in_row.v i here c seen o.began (sweep_once_over o.sweep) (past_sweeping x) → SweepLinks c blocks x)
          (λ p row f. (copied_links in_row.v o.began o.sweep.setting in_row.knows.facts.setting_is p row f).1) (λ d row f. row_links d.stands row)

  pub sweep_behind : (o : CallOverAll) → calls i ≡ Some (OverAll o) → (IsRowOfSweep o.sweep.stands → ⊥) → (p : Copier) → IsRowOfCopier p.stands
      → o.sweep.stands ≡ sweeps.Copies (past_copying p p.stands) → SweepLinks c blocks o.sweep.stands
  sweep_behind o has none p row is = by (s.stand i (OverAll o) has)
    where
      by : IsAtPoint V same hash asks setting slot w c seen i (OverAll o) → SweepLinks c blocks o.sweep.stands
      by (inr (at_row_now, is_row, knows)) = absurd (none is_row)
      by (inl (rests, knows)) =
          subst (SweepLinks c blocks) (sym is)
          (copied_links w o.began o.sweep.setting knows.facts.setting_is p row (subst (SweepingFacts same hash w i here c seen o.began o.sweep) is knows.facts.point)).0
