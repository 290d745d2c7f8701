-- A call that is within a row of the collector hands something over: one whose row is under way does, and one that is about to begin its row owes what that is to hand over.
use Rattle.std.specs.Prelude.{◌≡◌, ◌*◌, ◌++◌, ◌||◌, ℕ, Bool, true, false, not, List, [], ◌∷◌, Option, Some, None}
use Rattle.std.proofs.Common.{refl, ap, sym, subst, ◌∙◌, inl, inr}
use Rattle.run_places.specs.Given.SeizeWordsDeclared.at.At.{At}
use Rattle.run_places.specs.Given.SeizeWorld.{World, Row, Rests}
use Rattle.run_places.specs.Given.SeizeDeclared.rows.defer.Defer.{Defer}
use Rattle.run_places.specs.Given.SeizeDeclared.rows.settle.Settle.{Settle}
use Rattle.run_places.specs.Given.SeizeWordsWord.{block_in}
use Rattle.run_places.specs.Given.ResizeDeclared.copier.Copier.{Copier}
use Rattle.run_places.specs.Given.ResizeDeclared.copier.Copying.{Copying}
use Rattle.run_places.specs.Given.ResizeDeclared.copier.Copying.TheVariants as copying
use Rattle.run_places.specs.Given.ResizeDeclared.dispose.Dispose.{Dispose}
use Rattle.run_places.specs.Given.ResizeDeclared.dispose.Disposing.{Disposing}
use Rattle.run_places.specs.Given.ResizeDeclared.dispose.Disposing.TheVariants as disposing
use Rattle.run_places.specs.Given.ReservesDeclared.reserve.Reserving.{Reserving}
use Rattle.run_places.specs.Given.ReservesDeclared.reserve.Reserving.TheVariants as reserving
use Rattle.run_places.specs.Given.ReservesDeclared.sweep.Sweeping.{Sweeping}
use Rattle.run_places.specs.Given.ReservesDeclared.sweep.Sweeping.TheVariants as sweeping
use Rattle.run_places.specs.Given.RawDeclared.machines.call.Calling.{Calling}
use Rattle.run_places.specs.Given.RawDeclared.machines.call.Calling.TheVariants as calling
use Rattle.run_places.specs.Given.RunsDeclared.effect.Thing.{Thing}
use Rattle.run_places.specs.Given.SchedulesInUse.{is_handing}
use Rattle.run_places.specs.Given.SchedulesLists.{is_empty}
use Rattle.run_places.specs.Given.SchedulesMoment.{UnderWay as CallThere, Moment}
use Rattle.run_places.specs.Given.SchedulesViews.{call_of}
use Rattle.owner_facts.specs.Given.PointsTold.{IsRowOf, IsRowOfCopier, IsRowOfCall}
use Rattle.owner_facts.specs.Given.LateToldReserves.{IsRowOfReserve}
use Rattle.owner_facts.specs.Given.LateToldSweeps.{IsRowOfSweep}
use Rattle.owner_facts.specs.Given.CallersOverAll.{row_of_sweep}
use Rattle.owner_facts.specs.Given.CallersRooms.{row_of_room}
use Rattle.owner_facts.specs.Given.CallersRows.{row_of_disposal, row_of_copier, row_of}
use Rattle.owner_facts.specs.Given.CallersSights.{seen_by}
use Rattle.owner_facts.specs.Given.CallersTogether.{IsAtPoint, UnderWay, OnKey, ForRoom, Counting, OverAll, in_slot}
use Rattle.run_places.specs.Given.EffectsKnown.{Known}
use Rattle.run_places.specs.Given.EffectsDeclared.role.Role.{Role}
use Rattle.run_places.specs.Given.EffectsDeclared.role.Role.TheVariants as role
use Rattle.owner_facts.specs.Given.FinishesMachines.{machine_of}
use Rattle.owner_facts.specs.Given.FinishesMaps.{Standing}
use Rattle.run_debts.specs.Due.{ToRetire, ToPut, due_in_defer, due_in_settle, word_due}
use Rattle.run_debts.specs.Hand.{in_hand, in_hand_of_call, in_hand_of_room, in_hand_of_sweep, tables_in_hand, thing_as, things_at, IsPairRole, IsTableRole, NotesDue, NotesPending, NotesOfCall, NotesOfRoom, NotesOfSweep, NotesPair, NotesTables, RefinesObligations}
use Rattle.run_debts.specs.Handing.{RowsAreHandingOver}
use Rattle.run_debts.specs.InHand.{pair_in_disposing}
use Rattle.run_debts.proofs.DueCalls.{CallingIs, ReservingIs, SweepingIs, calling_new, late_calling_new, late_reserving_new, reserving_new, sweeping_new}
use Rattle.run_debts.proofs.DueRows.{IsPutting, IsSettling, IsToPut, IsToSettle, CopyingIs, DeferIs, DisposingIs, SettleIs}
use Rattle.run_places.specs.Given.ScenesHeld.{Held, IsAt}
use Rattle.run_places.specs.Given.ScenesScene.{Scene, slot_of}

-- the call is within a row, or about to begin one
abbrev pub IsInRow : {K V : Type 0} → UnderWay K V K → Type 0
IsInRow (OnKey x) = IsRowOfCall x.call.stands
IsInRow (ForRoom x) = IsRowOfReserve x.reserve.stands
IsInRow (Counting sum) = ⊥
IsInRow (OverAll x) = IsRowOfSweep x.sweep.stands

-- such a row does not rest

disposal_moves : (slot : ℕ) (p : Disposing) → IsRowOf p → row_of_disposal slot p ≡ Rests → ⊥
disposal_moves slot (disposing.Settles settle) is e = cc e
disposal_moves slot (disposing.Defers defer) is e = cc e
disposal_moves slot disposing.Reads is e = absurd is
disposal_moves slot (disposing.Walks table) is e = absurd is
disposal_moves slot disposing.Over is e = absurd is

copier_moves : (p : Copying) → IsRowOfCopier p → row_of_copier p ≡ Rests → ⊥
copier_moves (copying.Retires settle rest) is e = cc e
copier_moves _ is e = absurd is

call_moves : (slot : ℕ) (p : Calling) → IsRowOfCall p → row_of slot p ≡ Rests → ⊥
call_moves slot (calling.Disposes dispose answer) is e = disposal_moves slot dispose.stands is e
call_moves slot (calling.Helps copier goal) is e = copier_moves copier.stands is e
call_moves slot (calling.Copies copier) is e = copier_moves copier.stands is e
call_moves slot _ is e = absurd is

room_moves : (p : Reserving) → IsRowOfReserve p → row_of_room p ≡ Rests → ⊥
room_moves (reserving.Copies copier) is e = copier_moves copier.stands is e
room_moves _ is e = absurd is

sweep_moves : (slot : ℕ) (p : Sweeping) → IsRowOfSweep p → row_of_sweep slot p ≡ Rests → ⊥
sweep_moves slot (sweeping.Copies copier) is e = copier_moves copier.stands is e
sweep_moves slot (sweeping.Disposes dispose) is e = disposal_moves slot dispose.stands is e
sweep_moves slot _ is e = absurd is

-- what is noted as a pair, or as a table, is something

pair_some : (known : Known) (word : ℕ) → NotesPair known (Some word) → is_empty (things_at known (Some word)) ≡ false
pair_some known word notes = by (known.roles (block_in word)) notes
  where
    by : (r : Role) → IsPairRole r → is_empty (thing_as r) ≡ false
    by (role.Pair n) is = refl
    by _ is = absurd is

table_some : (known : Known) (word : ℕ) → NotesDue known (Some word) → is_empty (things_at known (Some word)) ≡ false
table_some known word notes = by (known.roles (block_in word)) notes
  where
    by : (r : Role) → IsTableRole r → is_empty (thing_as r) ≡ false
    by (role.Table t len) is = refl
    by _ is = absurd is

more_some : (xs ys : List Thing) → is_empty xs ≡ false → is_empty (xs ++ ys) ≡ false
more_some [] ys e = absurd (cc e)
more_some (x ∷ xs) ys e = refl

-- who owes something hands it over
owing_hands : {K V : Type 0} (c : CallThere K V) (things : List Thing) → c.owes ≡ things → is_empty things ≡ false → is_handing c ≡ true
owing_hands c things owes some = ap (λ (l : List Thing). not (is_empty l) || c.has_handed) owes ∙ ap (λ (b : Bool). not b || c.has_handed) some

-- Where a row is about to begin, its call has in hand what the row is to hand over.
module _ {T : Type 0} (w : World T) (i : ℕ) (rests : w.row i ≡ Rests) (known : Known) where
  settle_due : (settle : Settle) → SettleIs w i settle → (word : ℕ) × (due_in_settle settle settle.stands ≡ Some (ToRetire word))
  settle_due settle (IsSettling is) = absurd (let no = sym rests ∙ is in cc no)
  settle_due settle (IsToSettle slot batch block is cut) = (block * 2048, ap (λ (x : Settle). due_in_settle x x.stands) is)

  defer_due : (defer : Defer) → DeferIs w i defer → (word : ℕ) × (place : At) × (due_in_defer defer defer.stands ≡ Some (ToPut word place))
  defer_due defer (IsPutting slot is) = absurd (let no = sym rests ∙ is in cc no)
  defer_due defer (IsToPut block at is) = (block, at, ap (λ (x : Defer). due_in_defer x x.stands) is)

  its_pair : (o : Option ℕ) (word : ℕ) → o ≡ Some word → NotesPair known o → is_empty (things_at known o) ≡ false
  its_pair o word is notes = ap (λ (x : Option ℕ). is_empty (things_at known x)) is ∙ pair_some known word (subst (NotesPair known) is notes)

  its_table : (o : Option ℕ) (word : ℕ) → o ≡ Some word → NotesDue known o → is_empty (things_at known o) ≡ false
  its_table o word is notes = ap (λ (x : Option ℕ). is_empty (things_at known x)) is ∙ table_some known word (subst (NotesDue known) is notes)

  disposal_some : (d : Dispose) (p : Disposing) → DisposingIs w i p → NotesPair known (pair_in_disposing d p) → is_empty (things_at known (pair_in_disposing d p)) ≡ false
  disposal_some d (disposing.Settles settle) is notes = let due = settle_due settle is in its_pair (word_due (due_in_settle settle settle.stands)) due.0 (ap word_due due.1) notes
  disposal_some d (disposing.Defers defer) is notes = let due = defer_due defer is in its_pair (word_due (due_in_defer defer defer.stands)) due.0 (ap word_due due.2) notes
  disposal_some d disposing.Reads is notes = absurd is
  disposal_some d (disposing.Walks table) is notes = absurd is
  disposal_some d disposing.Over is notes = absurd is

  copier_some : (c : Copier) (p : Copying) → CopyingIs w i p → NotesTables known c p → is_empty (tables_in_hand known c p) ≡ false
  copier_some c (copying.Retires settle rest) is notes =
      let due = settle_due settle is in
      more_some (things_at known (word_due (due_in_settle settle settle.stands))) _ (its_table (word_due (due_in_settle settle settle.stands)) due.0 (ap word_due due.1) notes.0)
  copier_some c _ is notes = absurd is

  call_some : (p : Calling) → CallingIs w i p → NotesOfCall known p → is_empty (in_hand_of_call known p) ≡ false
  call_some (calling.Disposes dispose answer) is notes = disposal_some dispose dispose.stands is notes
  call_some (calling.Helps copier goal) is notes = copier_some copier copier.stands is notes
  call_some (calling.Copies copier) is notes = copier_some copier copier.stands is notes
  call_some _ is notes = absurd is

  room_some : (p : Reserving) → ReservingIs w i p → NotesOfRoom known p → is_empty (in_hand_of_room known p) ≡ false
  room_some (reserving.Copies copier) is notes = copier_some copier copier.stands is notes
  room_some _ is notes = absurd is

  sweep_some : (p : Sweeping) → SweepingIs w i p → NotesOfSweep known p → is_empty (in_hand_of_sweep known p) ≡ false
  sweep_some (sweeping.Copies copier) is notes = copier_some copier copier.stands is notes
  sweep_some (sweeping.Disposes dispose) is notes = disposal_some dispose dispose.stands is notes
  sweep_some _ is notes = absurd is

-- A call under way, of a scene of what is held.
module _ {K V : Type 0} (same : K → K → Bool) (hash : ℕ → K → ℕ) (name : ℕ → List ℕ) (m : Moment K V) (known : Known) (s : Scene K V) (e : Held K V) (at : IsAt same hash e s)
    (map i : ℕ) (u : UnderWay K V K) (here : s.calls map i ≡ Some u) where
  its_map : (st : Standing K) × (s.maps map ≡ Some st)
  its_map = by (s.maps map) refl
    where
      by : (o : Option (Standing K)) → s.maps map ≡ o → (st : Standing K) × (s.maps map ≡ Some st)
      by None none = absurd (let no = at.together.makings.standing.only map i none in cc (no, here))
      by (Some st) is = (st, is)

  abbrev st : Standing K
  st = its_map.0

  abbrev StandsSo : UnderWay K V K → Type 0
  StandsSo x = IsAtPoint V same st.hash same st.setting slot_of s.world st.chart (seen_by st.blocks (st.sights (slot_of i))) i x

  stands : StandsSo u
  stands = (at.together.makings.standing.each map st its_map.1).stand i u here

  -- where its row is under way, it is within one
  pub is_in_row : (s.world.row i ≡ Rests → ⊥) → IsInRow u
  is_in_row moves = by u stands
    where
      by : (x : UnderWay K V K) → StandsSo x → IsInRow x
      by (OnKey x) (inl there) = absurd (moves there.0)
      by (OnKey x) (inr there) = there.1
      by (ForRoom x) (inl there) = absurd (moves there.0)
      by (ForRoom x) (inr there) = there.1
      by (Counting x) there = absurd (moves there.0)
      by (OverAll x) (inl there) = absurd (moves there.0)
      by (OverAll x) (inr there) = there.1

  module _ (owed : RefinesObligations name m known s) (hands : RowsAreHandingOver name m s) (c : CallThere K V) (c_is : call_of (name i) m ≡ Some c) where
    -- about to begin its row
    begins : (x : UnderWay K V K) → u ≡ x → is_empty (in_hand known (machine_of x)) ≡ false → is_handing c ≡ true
    begins x is some = owing_hands c (in_hand known (machine_of x)) (owed.owed map i u here c c_is ∙ ap (λ (y : UnderWay K V K). in_hand known (machine_of y)) is) some

    notes : (x : UnderWay K V K) → u ≡ x → NotesPending known (machine_of x)
    notes x is = subst (λ (y : UnderWay K V K). NotesPending known (machine_of y)) is (owed.noted map i u here)

    -- within it
    under_way : (row : Row) → s.world.row i ≡ row → (row ≡ Rests → ⊥) → is_handing c ≡ true
    under_way row is moves = hands map i u here (λ rests. moves (sym is ∙ rests)) c c_is

    -- one that is within a row hands something over
    pub row_hands : IsInRow u → is_handing c ≡ true
    row_hands in_row = by u refl in_row stands
      where
        by : (x : UnderWay K V K) → u ≡ x → IsInRow x → StandsSo x → is_handing c ≡ true
        by (OnKey x) is row (inl (rests, knows)) =
            begins (OnKey x) is (call_some s.world i rests known x.call.stands (elim (knows.facts) as (λ _. CallingIs s.world i x.call.stands) [
              | inl facts ↦ calling_new same st.hash s.world i (in_slot st.setting (slot_of i)) st.chart (seen_by st.blocks (st.sights (slot_of i))) x.keys x.change x.call x.call.stands facts.point row
              | inr late ↦ late_calling_new same st.hash s.world i (in_slot st.setting (slot_of i)) st.chart (seen_by st.blocks (st.sights (slot_of i))) x.keys x.began x.call x.call.stands late.1.point row
            ]) (notes (OnKey x) is))
        by (OnKey x) is row (inr there) = under_way (row_of (slot_of i) x.call.stands) there.0 (call_moves (slot_of i) x.call.stands row)
        by (ForRoom x) is row (inl (rests, knows)) =
            begins (ForRoom x) is (room_some s.world i rests known x.reserve.stands (elim (knows.facts) as (λ _. ReservingIs s.world i x.reserve.stands) [
              | inl facts ↦ reserving_new same st.hash s.world i (in_slot st.setting (slot_of i)) st.chart (seen_by st.blocks (st.sights (slot_of i))) x.reserve.stands facts.point row
              | inr late ↦ late_reserving_new same st.hash s.world i (in_slot st.setting (slot_of i)) st.chart (seen_by st.blocks (st.sights (slot_of i))) x.began x.reserve.stands late.point row
            ]) (notes (ForRoom x) is))
        by (ForRoom x) is row (inr there) = under_way (row_of_room x.reserve.stands) there.0 (room_moves x.reserve.stands row)
        by (Counting x) is row there = absurd row
        by (OverAll x) is row (inl (rests, knows)) =
            begins (OverAll x) is (sweep_some s.world i rests known x.sweep.stands
            (sweeping_new same st.hash s.world i (in_slot st.setting (slot_of i)) st.chart (seen_by st.blocks (st.sights (slot_of i))) x.began x.sweep x.sweep.stands knows.facts.point row) (notes (OverAll x) is))
        by (OverAll x) is row (inr there) = under_way (row_of_sweep (slot_of i) x.sweep.stands) there.0 (sweep_moves (slot_of i) x.sweep.stands row)
