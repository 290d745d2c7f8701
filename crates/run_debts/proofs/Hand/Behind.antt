-- A step of a row within a call leaves what the call has in hand behind the row's own: nothing behind a pair, and behind a table those that come after it.
use Rattle.std.specs.Prelude.{◌≡◌, ℕ, Bool, true, false, [], ◌++◌, Option, Some, None, ◌⊎◌, if◌then◌else◌}
use Rattle.std.proofs.Common.{refl, ap, sym, subst, ◌∙◌, inl, inr}
use Rattle.std.proofs.lemmas.List.{append-nil}
use Rattle.run_places.specs.Given.SeizeWordsDeclared.at.At.{At}
use Rattle.run_places.specs.Given.SeizeDefer.{defer_plan}
use Rattle.run_places.specs.Given.SeizeSettle.{settle_plan}
use Rattle.run_places.specs.Given.SeizeDeclared.advance.Advance.{Advance}
use Rattle.run_places.specs.Given.SeizeDeclared.advance.Advance.TheVariants as progress
use Rattle.run_places.specs.Given.SeizeDeclared.rows.defer.Defer.{Defer}
use Rattle.run_places.specs.Given.SeizeDeclared.rows.settle.Settle.{Settle}
use Rattle.run_places.specs.Given.SeizeDeclared.rows.settle.Settled.{Settled}
use Rattle.run_places.specs.Given.SeizeDeclared.rows.settle.Settled.TheVariants as settled
use Rattle.run_places.specs.Given.SeizeDeclared.rows.settle.Settling.{Settling}
use Rattle.run_places.specs.Given.SeizeDeclared.rows.settle.Settling.TheVariants as settling
use Rattle.run_places.specs.Given.TablesNodes.{deferred_word}
use Rattle.run_places.specs.Given.TablesDeclared.node.Node.{Node}
use Rattle.run_places.specs.Given.TablesDeclared.table.Table.{Table}
use Rattle.run_places.specs.Given.ResizeCopier.{copier_plan}
use Rattle.run_places.specs.Given.ResizeCopier as copiers
use Rattle.run_places.specs.Given.ResizeCopierPromotes.{retired}
use Rattle.run_places.specs.Given.ResizeDispose.{dispose_plan}
use Rattle.run_places.specs.Given.ResizeDispose as disposes
use Rattle.run_places.specs.Given.ResizeDeclared.copier.Copier.{Copier}
use Rattle.run_places.specs.Given.ResizeDeclared.copier.Copying.{Copying}
use Rattle.run_places.specs.Given.ResizeDeclared.copier.Copying.TheVariants as copying
use Rattle.run_places.specs.Given.ResizeDeclared.dispose.Dispose.{Dispose}
use Rattle.run_places.specs.Given.ResizeDeclared.dispose.Disposing.{Disposing}
use Rattle.run_places.specs.Given.ResizeDeclared.dispose.Disposing.TheVariants as disposing
use Rattle.run_places.specs.Given.ResizeDeclared.yielding.Yielding.{Yielding}
use Rattle.run_places.specs.Given.ResizeDeclared.yielding.Yielding.TheVariants as outcome
use Rattle.run_places.specs.Given.ReservesReserve as reserves
use Rattle.run_places.specs.Given.ReservesDeclared.reserve.Reserve.{Reserve}
use Rattle.run_places.specs.Given.ReservesDeclared.reserve.Reserving.{Reserving}
use Rattle.run_places.specs.Given.ReservesDeclared.reserve.Reserving.TheVariants as reserving
use Rattle.run_places.specs.Given.SweepsSweep as sweeps
use Rattle.run_places.specs.Given.SweepsSweepPoints as points
use Rattle.run_places.specs.Given.ReservesDeclared.sweep.Sweep.{Sweep}
use Rattle.run_places.specs.Given.ReservesDeclared.sweep.Sweeping.{Sweeping}
use Rattle.run_places.specs.Given.ReservesDeclared.sweep.Sweeping.TheVariants as sweeping
use Rattle.run_places.specs.Given.ReservesDeclared.sweep.Swept.{Swept}
use Rattle.run_places.specs.Given.RawCall.{disposed, helped, copied, plan_at}
use Rattle.run_places.specs.Given.RawProgress.{of_called, of_outcome, of_swept}
use Rattle.run_places.specs.Given.RawDeclared.machines.answer.Called.{Called}
use Rattle.run_places.specs.Given.RawDeclared.machines.answer.KeyAnswer.{KeyAnswer}
use Rattle.run_places.specs.Given.RawDeclared.machines.call.Calling.{Calling}
use Rattle.run_places.specs.Given.RawDeclared.machines.call.Calling.TheVariants as calling
use Rattle.run_places.specs.Given.RawDeclared.machines.call.KeyCall.{KeyCall}
use Rattle.run_places.specs.Given.EffectsEffects.{named}
use Rattle.run_places.specs.Given.EffectsKnown.{Known}
use Rattle.run_places.proofs.Given.RuleKeys.Always.{AlwaysOf, always_plan_as}
use Rattle.owner_facts.specs.Given.PointsTold.{IsRowOf, IsRowOfCopier, IsRowOfCall}
use Rattle.owner_facts.specs.Given.LateToldReserves.{IsRowOfReserve}
use Rattle.owner_facts.specs.Given.LateToldSweeps.{IsRowOfSweep}
use Rattle.run_debts.specs.Due.{RowObligation, ToPut, word_due, due_in_settle, due_in_disposing, due_in_copying, due_in_calling, due_in_reserving, due_in_sweeping}
use Rattle.run_debts.specs.Hand.{things_at, tables_from, tables_in_hand, in_hand_of_call, in_hand_of_room, in_hand_of_sweep, IsPairRole, NotesPair, NotesDue, NotesTable, NotesTables, NotesOfCall, NotesOfRoom, NotesOfSweep}
use Rattle.run_debts.specs.InHand.{pair_in_disposing}
use Rattle.run_debts.proofs.DueRows.{GoesOn}
use Rattle.run_debts.proofs.Hand.Rows.{KeepsBehind, Behind}
use Rattle.run_debts.proofs.Held.{always_turned}
use Rattle.run_debts.proofs.Passed.{GoesBehind, retired_behind}
use Rattle.run_places.specs.Given.ScenesStepping.{has_ended}

-- what a row is to hand over it has still, or has none of any more
abbrev pub GoesDue : Option RowObligation → Option RowObligation → Type 0
GoesDue before after = (after ≡ before) ⊎ (after ≡ None)

-- a row that retires a block puts none behind another
pub settle_puts : (c : Settle) (p : Settling) (word : ℕ) (place : At) → due_in_settle c p ≡ Some (ToPut word place) → ⊥
settle_puts c settling.Sees word place e = absurd (cc e)
settle_puts c settling.Holds word place e = absurd (cc e)
settle_puts c settling.Pops word place e = absurd (cc e)
settle_puts c (settling.Firsts block) word place e = absurd (cc e)
settle_puts c (settling.Batches block) word place e = absurd (cc e)
settle_puts c _ word place e = absurd (cc e)

pub copying_puts : (p : Copying) (word : ℕ) (place : At) → due_in_copying p ≡ Some (ToPut word place) → ⊥
copying_puts (copying.Retires settle rest) word place e = settle_puts settle settle.stands word place e
copying_puts _ word place e = absurd (cc e)

-- once its row is under way, the pair of a disposal is what the row is to hand over
abbrev pub IsDueAlone : Dispose → Disposing → Type 0
IsDueAlone d p = pair_in_disposing d p ≡ word_due (due_in_disposing p)

row_alone : (d : Dispose) (p : Disposing) → IsRowOf p → IsDueAlone d p
row_alone d (disposing.Settles settle) row = refl
row_alone d (disposing.Defers defer) row = refl
row_alone d disposing.Reads row = absurd row
row_alone d (disposing.Walks table) row = absurd row
row_alone d disposing.Over row = absurd row

module _ (K V : Type 0) where
  abbrev AloneThen : Dispose × Settled (Node K V) → Type 0
  AloneThen q = IsDueAlone q.0 q.0.stands

  settled_alone : (d : Dispose) (q : Settle × Settled (Node K V)) → AloneThen (disposes.settled d q)
  settled_alone d (s, settled.Goes) = refl
  settled_alone d (s, settled.Waits) = refl
  settled_alone d (s, settled.Gave value) = refl
  settled_alone d (s, settled.Done) = refl

  deferred_alone : (d : Dispose) (q : Defer × Advance Unit) → AloneThen (disposes.deferred d q)
  deferred_alone d (c, progress.Goes) = refl
  deferred_alone d (c, progress.Waits) = refl
  deferred_alone d (c, progress.Done end) = refl
  deferred_alone d (c, progress.Refused fault) = refl

  stays_alone : (d : Dispose) (p : Disposing) → IsRowOf p → AlwaysOf AloneThen (disposes.plan_at {K = K} {V = V} d p)
  stays_alone d (disposing.Settles settle) row = always_plan_as AloneThen (disposes.settled d) (settled_alone d) (settle_plan deferred_word settle)
  stays_alone d (disposing.Defers defer) row = always_plan_as AloneThen (disposes.deferred d) (deferred_alone d) (defer_plan defer)
  stays_alone d disposing.Reads row = absurd row
  stays_alone d (disposing.Walks table) row = absurd row
  stays_alone d disposing.Over row = absurd row

module _ (known : Known) where
  -- what is so of a pair alone
  alone_behind : (o : Option ℕ) (due : Option RowObligation) → o ≡ word_due due → things_at known o ≡ things_at known (word_due due) ++ []
  alone_behind o due is = ap (things_at known) is ∙ sym (append-nil (things_at known (word_due due)))

  pair_noted : (o o2 : Option ℕ) (due due2 : Option RowObligation) → o ≡ word_due due → o2 ≡ word_due due2 → NotesPair known o → GoesDue due due2 → NotesPair known o2
  pair_noted o o2 due due2 is is2 noted (inl same) = subst (NotesPair known) (sym (is2 ∙ ap word_due same ∙ sym is)) noted
  pair_noted o o2 due due2 is is2 noted (inr none) = subst (NotesPair known) (sym (is2 ∙ ap word_due none)) tt

  due_noted : (due due2 : Option RowObligation) → NotesDue known (word_due due) → GoesDue due due2 → NotesDue known (word_due due2)
  due_noted due due2 noted (inl same) = subst (λ (d : Option RowObligation). NotesDue known (word_due d)) (sym same) noted
  due_noted due due2 noted (inr none) = subst (λ (d : Option RowObligation). NotesDue known (word_due d)) (sym none) tt

  -- what is put behind another block is a pair
  disposal_puts : (d : Dispose) (p : Disposing) → NotesPair known (pair_in_disposing d p) → (word : ℕ) (place : At) → due_in_disposing p ≡ Some (ToPut word place) → IsPairRole (named known word)
  disposal_puts d (disposing.Settles settle) notes word place e = absurd (settle_puts settle settle.stands word place e)
  disposal_puts d (disposing.Defers defer) notes word place e = subst (λ (due : Option RowObligation). NotesPair known (word_due due)) e notes
  disposal_puts d disposing.Reads notes word place e = absurd (cc e)
  disposal_puts d (disposing.Walks table) notes word place e = absurd (cc e)
  disposal_puts d disposing.Over notes word place e = absurd (cc e)

  -- a disposal whose row is under way, or is to begin
  module _ (d : Dispose) (row : IsRowOf d.stands) (noted : NotesPair known (pair_in_disposing d d.stands)) where
    alone_before : things_at known (pair_in_disposing d d.stands) ≡ things_at known (word_due (due_in_disposing d.stands)) ++ []
    alone_before = alone_behind (pair_in_disposing d d.stands) (due_in_disposing d.stands) (row_alone d d.stands row)

    abbrev DisposeKeeps : Dispose → Type 0
    DisposeKeeps d2 =
        KeepsBehind known (things_at known (pair_in_disposing d d.stands)) (things_at known (pair_in_disposing d2 d2.stands)) (due_in_disposing d.stands) (due_in_disposing d2.stands)
        × (GoesDue (due_in_disposing d.stands) (due_in_disposing d2.stands) → NotesPair known (pair_in_disposing d2 d2.stands))

    dispose_keeps : (d2 : Dispose) → IsDueAlone d2 d2.stands → DisposeKeeps d2
    dispose_keeps d2 alone = (
      Behind [] alone_before (alone_behind (pair_in_disposing d2 d2.stands) (due_in_disposing d2.stands) alone),
      pair_noted (pair_in_disposing d d.stands) (pair_in_disposing d2 d2.stands) (due_in_disposing d.stands) (due_in_disposing d2.stands) (row_alone d d.stands row) alone noted,
    )

    -- once that is over, nothing is in hand
    over_keeps : KeepsBehind known (things_at known (pair_in_disposing d d.stands)) [] (due_in_disposing d.stands) None
    over_keeps = Behind [] alone_before refl

  -- a copier whose row is under way, or is to begin
  module _ (K V : Type 0) (hash : K → ℕ) (c : Copier) where
    abbrev CopiesOn : ℕ → Copier × Yielding (Node K V) Table → Type 0
    CopiesOn rest q = GoesBehind known c rest q.0 × GoesOn q.1

    -- it retires a table, and has those in hand that come behind
    abbrev IsRetiring : Copying → Type 0
    IsRetiring p =
        (rest : ℕ) × AlwaysOf (CopiesOn rest) (copiers.plan_at {V = V} hash c p)
        × (tables_in_hand known c p ≡ things_at known (word_due (due_in_copying p)) ++ tables_from known c rest)
        × NotesDue known (word_due (due_in_copying p)) × NotesTable known rest

    goes_on : (rest : ℕ) (q : Settle × Settled (Node K V)) → GoesOn (retired c rest q).1
    goes_on rest (s, settled.Goes) = tt
    goes_on rest (s, settled.Waits) = tt
    goes_on rest (s, settled.Gave value) = tt
    goes_on rest (s, settled.Done) = tt

    retiring : (p : Copying) → IsRowOfCopier p → NotesTables known c p → IsRetiring p
    retiring (copying.Retires settle rest) row notes = (
      rest,
      always_plan_as (CopiesOn rest) (retired c rest) (λ end. (retired_behind known c rest end, goes_on rest end)) (settle_plan deferred_word settle),
      refl,
      notes.0,
      notes.1,
    )
    retiring _ row notes = absurd row

    module _ (row : IsRowOfCopier c.stands) (notes : NotesTables known c c.stands) where
      its : IsRetiring c.stands
      its = retiring c.stands row notes

      abbrev CopierKeeps : Copier → Type 0
      CopierKeeps q =
          KeepsBehind known (tables_in_hand known c c.stands) (tables_in_hand known q q.stands) (due_in_copying c.stands) (due_in_copying q.stands)
          × (GoesDue (due_in_copying c.stands) (due_in_copying q.stands) → NotesTables known q q.stands)

      copier_keeps : (q : Copier × Yielding (Node K V) Table) → CopiesOn its.0 q → CopierKeeps q.0
      copier_keeps q on = (
        Behind (tables_from known c its.0) its.2 on.0.0,
        λ goes. on.0.1 (due_noted (due_in_copying c.stands) (due_in_copying q.0.stands) its.3 goes) its.4,
      )

-- a call on one key
module _ {K V : Type 0} (known : Known) (asks eq : K → K → Bool) (hash : K → ℕ) (x : KeyCall K V K) where
  abbrev pub KeyKeeps : Calling → KeyCall K V K × Called (Node K V) → Type 0
  KeyKeeps before e =
      KeepsBehind known (in_hand_of_call known before) (in_hand_of_call known e.0.stands) (due_in_calling before) (due_in_calling e.0.stands)
      × (GoesDue (due_in_calling before) (due_in_calling e.0.stands) → NotesOfCall known e.0.stands)
      × (has_ended (of_called e.1) ≡ true → in_hand_of_call known e.0.stands ≡ [])

  key_disposed : (d : Dispose) (answer : KeyAnswer) (row : IsRowOf d.stands) (noted : NotesPair known (pair_in_disposing d d.stands)) (q : Dispose × Settled (Node K V)) → IsDueAlone q.0 q.0.stands
      → KeyKeeps (calling.Disposes d answer) (disposed x answer q)
  key_disposed d answer row noted (d2, settled.Goes) alone = let it = dispose_keeps known d row noted d2 alone in (it.0, it.1, λ e. absurd (cc e))
  key_disposed d answer row noted (d2, settled.Waits) alone = let it = dispose_keeps known d row noted d2 alone in (it.0, it.1, λ e. absurd (cc e))
  key_disposed d answer row noted (d2, settled.Gave value) alone = let it = dispose_keeps known d row noted d2 alone in (it.0, it.1, λ e. absurd (cc e))
  key_disposed d answer row noted (d2, settled.Done) alone = (over_keeps known d row noted, λ goes. tt, λ e. refl)

  key_helped : (c : Copier) (goal : Table) (row : IsRowOfCopier c.stands) (notes : NotesTables known c c.stands) (q : Copier × Yielding (Node K V) Table)
      → CopiesOn known K V hash c (its known K V hash c row notes).0 q → KeyKeeps (calling.Helps c goal) (helped x goal q)
  key_helped c goal row notes (d, outcome.Goes) on = let it = copier_keeps known K V hash c row notes (d, outcome.Goes) on in (it.0, it.1, λ e. absurd (cc e))
  key_helped c goal row notes (d, outcome.Waits) on = let it = copier_keeps known K V hash c row notes (d, outcome.Waits) on in (it.0, it.1, λ e. absurd (cc e))
  key_helped c goal row notes (d, outcome.Gave value) on = let it = copier_keeps known K V hash c row notes (d, outcome.Gave value) on in (it.0, it.1, λ e. absurd (cc e))
  key_helped c goal row notes (d, outcome.Done table) on = absurd on.1
  key_helped c goal row notes (d, outcome.Refused fault) on = absurd on.1

  key_copied : (c : Copier) (row : IsRowOfCopier c.stands) (notes : NotesTables known c c.stands) (q : Copier × Yielding (Node K V) Table)
      → CopiesOn known K V hash c (its known K V hash c row notes).0 q → KeyKeeps (calling.Copies c) (copied x q)
  key_copied c row notes (d, outcome.Goes) on = let it = copier_keeps known K V hash c row notes (d, outcome.Goes) on in (it.0, it.1, λ e. absurd (cc e))
  key_copied c row notes (d, outcome.Waits) on = let it = copier_keeps known K V hash c row notes (d, outcome.Waits) on in (it.0, it.1, λ e. absurd (cc e))
  key_copied c row notes (d, outcome.Gave value) on = let it = copier_keeps known K V hash c row notes (d, outcome.Gave value) on in (it.0, it.1, λ e. absurd (cc e))
  key_copied c row notes (d, outcome.Done table) on = absurd on.1
  key_copied c row notes (d, outcome.Refused fault) on = absurd on.1

  pub key_keeps : (p : Calling) → IsRowOfCall p → NotesOfCall known p → AlwaysOf (KeyKeeps p) (plan_at asks eq hash x p)
  key_keeps (calling.Disposes d answer) row notes =
      always_turned (AloneThen K V) (KeyKeeps (calling.Disposes d answer)) (disposed x answer) (key_disposed d answer row notes) (dispose_plan d) (stays_alone K V d d.stands row)
  key_keeps (calling.Helps c goal) row notes =
      let it = its known K V hash c row notes in
      always_turned (CopiesOn known K V hash c it.0) (KeyKeeps (calling.Helps c goal)) (helped x goal) (key_helped c goal row notes) (copier_plan hash c) it.1
  key_keeps (calling.Copies c) row notes =
      let it = its known K V hash c row notes in
      always_turned (CopiesOn known K V hash c it.0) (KeyKeeps (calling.Copies c)) (copied x) (key_copied c row notes) (copier_plan hash c) it.1
  key_keeps _ row notes = absurd row

pub key_puts : (known : Known) (p : Calling) → NotesOfCall known p → (word : ℕ) (place : At) → due_in_calling p ≡ Some (ToPut word place) → IsPairRole (named known word)
key_puts known (calling.Disposes d answer) notes word place e = disposal_puts known d d.stands notes word place e
key_puts known (calling.Helps c goal) notes word place e = absurd (copying_puts c.stands word place e)
key_puts known (calling.Copies c) notes word place e = absurd (copying_puts c.stands word place e)
key_puts known _ notes word place e = absurd (cc e)

-- a reservation
module _ {K : Type 0} (V : Type 0) (known : Known) (hash : K → ℕ) (x : Reserve) where
  abbrev pub RoomKeeps : Reserving → Reserve × Yielding (Node K V) Unit → Type 0
  RoomKeeps before e =
      KeepsBehind known (in_hand_of_room known before) (in_hand_of_room known e.0.stands) (due_in_reserving before) (due_in_reserving e.0.stands)
      × (GoesDue (due_in_reserving before) (due_in_reserving e.0.stands) → NotesOfRoom known e.0.stands)
      × (has_ended (of_outcome e.1) ≡ true → in_hand_of_room known e.0.stands ≡ [])

  room_copied : (c : Copier) (row : IsRowOfCopier c.stands) (notes : NotesTables known c c.stands) (q : Copier × Yielding (Node K V) Table)
      → CopiesOn known K V hash c (its known K V hash c row notes).0 q → RoomKeeps (reserving.Copies c) (reserves.copied x q)
  room_copied c row notes (d, outcome.Goes) on = let it = copier_keeps known K V hash c row notes (d, outcome.Goes) on in (it.0, it.1, λ e. absurd (cc e))
  room_copied c row notes (d, outcome.Waits) on = let it = copier_keeps known K V hash c row notes (d, outcome.Waits) on in (it.0, it.1, λ e. absurd (cc e))
  room_copied c row notes (d, outcome.Gave value) on = let it = copier_keeps known K V hash c row notes (d, outcome.Gave value) on in (it.0, it.1, λ e. absurd (cc e))
  room_copied c row notes (d, outcome.Done table) on = absurd on.1
  room_copied c row notes (d, outcome.Refused fault) on = absurd on.1

  pub room_keeps : (p : Reserving) → IsRowOfReserve p → NotesOfRoom known p → AlwaysOf (RoomKeeps p) (reserves.plan_at {V = V} hash x p)
  room_keeps (reserving.Copies c) row notes =
      let it = its known K V hash c row notes in
      always_turned (CopiesOn known K V hash c it.0) (RoomKeeps (reserving.Copies c)) (reserves.copied x) (room_copied c row notes) (copier_plan hash c) it.1
  room_keeps _ row notes = absurd row

pub room_puts : (p : Reserving) (word : ℕ) (place : At) → due_in_reserving p ≡ Some (ToPut word place) → ⊥
room_puts (reserving.Copies c) word place e = copying_puts c.stands word place e
room_puts _ word place e = absurd (cc e)

-- a sweep
module _ (known : Known) where
  -- it has nothing in hand
  abbrev HasNone : Sweeping → Type 0
  HasNone p = (in_hand_of_sweep known p ≡ []) × (due_in_sweeping p ≡ None) × NotesOfSweep known p

  either : (b : Bool) (p q : Sweeping) → HasNone p → HasNone q → HasNone (if b then p else q)
  either true p q f g = f
  either false p q f g = g

  further_none : (x : Sweep) → HasNone (points.further x).stands
  further_none x = either _ sweeping.Words (points.at_end x) (refl, refl, tt) (either _ sweeping.Follows sweeping.Over (refl, refl, tt) (refl, refl, tt))

module _ {K : Type 0} (V : Type 0) (known : Known) (hash : K → ℕ) (x : Sweep) where
  abbrev pub SweepKeeps : Sweeping → Sweep × Swept (Node K V) → Type 0
  SweepKeeps before e =
      KeepsBehind known (in_hand_of_sweep known before) (in_hand_of_sweep known e.0.stands) (due_in_sweeping before) (due_in_sweeping e.0.stands)
      × (GoesDue (due_in_sweeping before) (due_in_sweeping e.0.stands) → NotesOfSweep known e.0.stands)
      × (has_ended (of_swept e.1) ≡ true → in_hand_of_sweep known e.0.stands ≡ [])

  sweep_disposed : (d : Dispose) (row : IsRowOf d.stands) (noted : NotesPair known (pair_in_disposing d d.stands)) (q : Dispose × Settled (Node K V)) → IsDueAlone q.0 q.0.stands
      → SweepKeeps (sweeping.Disposes d) (sweeps.disposed x q)
  sweep_disposed d row noted (d2, settled.Goes) alone = let it = dispose_keeps known d row noted d2 alone in (it.0, it.1, λ e. absurd (cc e))
  sweep_disposed d row noted (d2, settled.Waits) alone = let it = dispose_keeps known d row noted d2 alone in (it.0, it.1, λ e. absurd (cc e))
  sweep_disposed d row noted (d2, settled.Gave value) alone = let it = dispose_keeps known d row noted d2 alone in (it.0, it.1, λ e. absurd (cc e))
  sweep_disposed d row noted (d2, settled.Done) alone = (
    Behind [] (alone_before known d row noted) ((further_none known x).0 ∙ sym (ap (λ (due : Option RowObligation). things_at known (word_due due) ++ []) (further_none known x).1)),
    λ goes. (further_none known x).2,
    λ e. (further_none known x).0,
  )

  sweep_copied : (c : Copier) (row : IsRowOfCopier c.stands) (notes : NotesTables known c c.stands) (q : Copier × Yielding (Node K V) Table)
      → CopiesOn known K V hash c (its known K V hash c row notes).0 q → SweepKeeps (sweeping.Copies c) (sweeps.copied x q)
  sweep_copied c row notes (d, outcome.Goes) on = let it = copier_keeps known K V hash c row notes (d, outcome.Goes) on in (it.0, it.1, λ e. absurd (cc e))
  sweep_copied c row notes (d, outcome.Waits) on = let it = copier_keeps known K V hash c row notes (d, outcome.Waits) on in (it.0, it.1, λ e. absurd (cc e))
  sweep_copied c row notes (d, outcome.Gave value) on = let it = copier_keeps known K V hash c row notes (d, outcome.Gave value) on in (it.0, it.1, λ e. absurd (cc e))
  sweep_copied c row notes (d, outcome.Done table) on = absurd on.1
  sweep_copied c row notes (d, outcome.Refused fault) on = absurd on.1

  pub sweep_keeps : (p : Sweeping) → IsRowOfSweep p → NotesOfSweep known p → AlwaysOf (SweepKeeps p) (sweeps.plan_at {V = V} hash x p)
  sweep_keeps (sweeping.Copies c) row notes =
      let it = its known K V hash c row notes in
      always_turned (CopiesOn known K V hash c it.0) (SweepKeeps (sweeping.Copies c)) (sweeps.copied x) (sweep_copied c row notes) (copier_plan hash c) it.1
  sweep_keeps (sweeping.Disposes d) row notes =
      always_turned (AloneThen K V) (SweepKeeps (sweeping.Disposes d)) (sweeps.disposed x) (sweep_disposed d row notes) (dispose_plan d) (stays_alone K V d d.stands row)
  sweep_keeps _ row notes = absurd row

pub sweep_puts : (known : Known) (p : Sweeping) → NotesOfSweep known p → (word : ℕ) (place : At) → due_in_sweeping p ≡ Some (ToPut word place) → IsPairRole (named known word)
sweep_puts known (sweeping.Disposes d) notes word place e = disposal_puts known d d.stands notes word place e
sweep_puts known (sweeping.Copies c) notes word place e = absurd (copying_puts c.stands word place e)
sweep_puts known _ notes word place e = absurd (cc e)
