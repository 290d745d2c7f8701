-- What a call has in hand somebody has taken out of what it was in, or the row of the call is to hand it over: by where its machine stands.
use Rattle.std.specs.Prelude.{◌≡◌, ℕ, suc, ◌<◌, ◌≤◌, ◌*◌, ◌==◌, Bool, true, false, cond, Option, Some, None, if◌then◌else◌}
use Rattle.std.proofs.Common.{refl, ap, sym, subst, ◌∙◌, inl, inr, arith, eqb-true}
use Rattle.std.proofs.lemmas.Bool.{cases_lt}
use Rattle.run_places.specs.Given.SeizeWordsWord.{block_in}
use Rattle.run_places.specs.Given.SeizeSettle.{retiring}
use Rattle.run_places.specs.Given.SeizeDeclared.rows.defer.Defer.{Defer}
use Rattle.run_places.specs.Given.SeizeDeclared.rows.settle.Settle.{Settle}
use Rattle.run_places.specs.Given.SeizeWorld.{World, Hand, Parting, Cutting, Row, Settles, Defers}
use Rattle.run_places.specs.Given.TablesChunks.{is_incremental}
use Rattle.run_places.specs.Given.TablesDeclared.node.Node.{Node}
use Rattle.run_places.specs.Given.TablesDeclared.setting.Setting.{Setting}
use Rattle.run_places.specs.Given.TablesDeclared.table.Table.{Table}
use Rattle.run_places.specs.Given.ResizeCopierPromotes.{table_retired}
use Rattle.run_places.specs.Given.ResizeCopierStates.{standing}
use Rattle.run_places.specs.Given.ResizeDeclared.copier.Copier.{Copier}
use Rattle.run_places.specs.Given.ResizeDeclared.copier.Copying.{Copying}
use Rattle.run_places.specs.Given.ResizeDeclared.copier.Copying.TheVariants as copying
use Rattle.run_places.specs.Given.ResizeDeclared.dispose.Dispose.{Dispose}
use Rattle.run_places.specs.Given.ResizeDeclared.dispose.Disposing.{Disposing}
use Rattle.run_places.specs.Given.ResizeDeclared.dispose.Disposing.TheVariants as disposing
use Rattle.run_places.specs.Given.ReservesDeclared.reserve.Reserving.{Reserving}
use Rattle.run_places.specs.Given.ReservesDeclared.reserve.Reserving.TheVariants as reserving
use Rattle.run_places.specs.Given.ReservesDeclared.sweep.Sweep.{Sweep}
use Rattle.run_places.specs.Given.ReservesDeclared.sweep.Sweeping.{Sweeping}
use Rattle.run_places.specs.Given.ReservesDeclared.sweep.Sweeping.TheVariants as sweeping
use Rattle.run_places.specs.Given.RawDeclared.machines.call.Calling.{Calling}
use Rattle.run_places.specs.Given.RawDeclared.machines.call.Calling.TheVariants as calling
use Rattle.run_places.specs.Given.RawDeclared.machines.call.KeyCall.{KeyCall}
use Rattle.run_places.specs.Given.RuleChart.{Chart, Phase, Still, Holds}
use Rattle.run_places.specs.Given.RuleWords.{Blocks, place_word}
use Rattle.run_places.proofs.Given.RuleWords.TablesSeen.{block_of_link}
use Rattle.owner_facts.specs.Given.PointsFactsCalls.{Change, CallingFacts}
use Rattle.owner_facts.specs.Given.PointsFactsCopies.{CopierFacts, CopyingFacts}
use Rattle.owner_facts.specs.Given.PointsFactsCopiesBlocking.{CopierFactsBlocking, CopyingFactsBlocking}
use Rattle.owner_facts.specs.Given.PointsFactsDisposes.{DisposeFacts, DisposingFacts}
use Rattle.owner_facts.specs.Given.PointsTold.{IsRowOf, IsRowOfCopier, IsRowOfCall}
use Rattle.owner_facts.specs.Given.LateLateCalls.{SupersededCalling}
use Rattle.owner_facts.specs.Given.LateLateCopies.{SupersededCopierFacts, SupersededCopying}
use Rattle.owner_facts.specs.Given.LateLateReserves.{SupersededReserving}
use Rattle.owner_facts.specs.Given.LateFactsReserves.{CopiesWhole, IsEnding, ReservingFacts}
use Rattle.owner_facts.specs.Given.LateFactsSweeps.{CopiesTable, SweepingFacts}
use Rattle.owner_facts.specs.Given.LateToldReserves.{IsRowOfReserve}
use Rattle.owner_facts.specs.Given.LateToldSweeps.{IsRowOfSweep}
use Rattle.owner_facts.specs.Given.CallersOverAll.{row_of_sweep, past_sweeping, sweep_once_over}
use Rattle.owner_facts.specs.Given.CallersRooms.{row_of_room, past_room}
use Rattle.owner_facts.specs.Given.CallersRows.{row_of_disposal, row_of_copier, row_of, past_copying, past_row, once_over}
use Rattle.owner_facts.specs.Given.CallersTogether.{UnderWay, OnKey, ForRoom, Counting, OverAll, IsAtPoint, in_slot}
use Rattle.owner_facts.specs.Given.FinishesMachines.{machine_of}
use Rattle.run_debts.specs.Due.{RowObligation, ToRetire, ToPut, word_due, due_in_settle, due_in_defer}
use Rattle.run_debts.specs.Hand.{HoldsAt, HoldsOf, HoldsTables, HoldsOfCall, HoldsOfRoom, HoldsOfSweep, HoldsOfPending}
use Rattle.run_debts.specs.InHand.{pair_in_calling, pair_in_disposing}
use Rattle.run_places.specs.Given.ScenesScene.{slot_of}

-- somebody has taken it out of what it was in
abbrev pub IsTakenOut : Hand → Type 0
IsTakenOut (Parting h) = Unit {0}
IsTakenOut (Cutting h) = Unit {0}
IsTakenOut _ = ⊥

-- what a row is to hand over
abbrev pub due_of_row : Row → Option RowObligation
due_of_row (Settles c) = due_in_settle c c.stands
due_of_row (Defers s c) = due_in_defer c c.stands
due_of_row _ = None

-- it is this block
abbrev pub IsDueBlock : ℕ → Option RowObligation → Type 0
IsDueBlock b None = ⊥
IsDueBlock b (Some (ToRetire word)) = block_in word ≡ b
IsDueBlock b (Some (ToPut word place)) = block_in word ≡ b

-- the block is taken out, or the caller's row is to hand it over
pub data IsHeld {T : Type 0} (w : World T) (i b : ℕ) : Type 0 where
  HeldOut : IsTakenOut (w.hand b) → IsHeld w i b
  HeldByRow : IsDueBlock b (due_of_row (w.row i)) → IsHeld w i b

module _ (P : ℕ → Type 0) where
  at_due : (due : Option RowObligation) → ((b : ℕ) → IsDueBlock b due → P b) → HoldsAt P (word_due due)
  at_due None each = tt
  at_due (Some (ToRetire word)) each = each (block_in word) refl
  at_due (Some (ToPut word place)) each = each (block_in word) refl

  at_word : (o : Option ℕ) (word : ℕ) → o ≡ Some word → P (block_in word) → HoldsAt P o
  at_word o word is so = subst (HoldsAt P) (sym is) so

module _ {K V : Type 0} (w : World (Node K V)) (i : ℕ) where
  abbrev pub Held : ℕ → Type 0
  Held b = IsHeld w i b

  -- by its row
  by_row : (row : Row) → w.row i ≡ row → HoldsAt Held (word_due (due_of_row row))
  by_row row is = at_due Held (due_of_row row) (λ b due. HeldByRow (subst (λ (r : Row). IsDueBlock b (due_of_row r)) (sym is) due))

  disposal_row : (slot : ℕ) (d : Dispose) (p : Disposing) → IsRowOf p → w.row i ≡ row_of_disposal slot p → HoldsAt Held (pair_in_disposing d p)
  disposal_row slot d (disposing.Settles settle) row is = by_row (Settles settle) is
  disposal_row slot d (disposing.Defers defer) row is = by_row (Defers slot defer) is
  disposal_row slot d disposing.Reads row is = absurd row
  disposal_row slot d (disposing.Walks table) row is = absurd row
  disposal_row slot d disposing.Over row is = absurd row

  -- of a copier, of which this is known: what it retires next it has in hand, too
  module _ (Knows : Copier → Type 0) (reads : (p : Copier) → Knows p → HoldsTables Held p p.stands) (copier : Copier) where
    next_held : (rest : ℕ) → Knows (table_retired copier rest) → HoldsOf Held rest
    next_held rest knows = by (rest == 0) refl knows
      where
        by : (q : Bool) → (rest == 0) ≡ q → Knows (if q then standing copier copying.Over else standing copier (copying.Succeeds rest)) → HoldsOf Held rest
        by true e k = λ some. absurd (some (eqb-true rest 0 e))
        by false e k = reads (standing copier (copying.Succeeds rest)) k

    copier_row : (p : Copying) → IsRowOfCopier p → w.row i ≡ row_of_copier p → Knows (past_copying copier p) → HoldsTables Held copier p
    copier_row (copying.Retires settle rest) row is knows = (by_row (Settles settle) is, next_held rest knows)
    copier_row _ row is knows = absurd row

  -- by its hand
  held_link : (b : ℕ) → IsTakenOut (w.hand b) → Held (block_in (b * 2048))
  held_link b out = HeldOut (subst IsTakenOut (ap w.hand (sym (block_of_link b))) out)

  held_cut : (b word : ℕ) → w.hand b ≡ Cutting i → word ≡ b * 2048 → Held (block_in word)
  held_cut b word cut is = subst (λ (x : ℕ). Held (block_in x)) (sym is) (held_link b (subst IsTakenOut (sym cut) tt))

  settle_held : (settle : Settle) (slot batch block : ℕ) → settle ≡ retiring slot batch (block * 2048) → w.hand block ≡ Cutting i → HoldsAt Held (word_due (due_in_settle settle settle.stands))
  settle_held settle slot batch block is cut = subst (λ (x : Settle). HoldsAt Held (word_due (due_in_settle x x.stands))) (sym is) (held_cut block (block * 2048) cut refl)

  module _ (same : K → K → Bool) (hash : K → ℕ) (setting : Setting) (c : Chart K) (blocks : Blocks)
      (few : (n : ℕ) (phase : Phase) (borrowed : Bool) → block_in (place_word hash c blocks (Holds n phase borrowed)) ≡ blocks.pair n) where
    -- copiers

    fresh_held : (p : Copier) (stands : Copying) → CopyingFacts same hash w i setting c blocks p stands → HoldsTables Held p stands
    fresh_held p copying.Announces ((s, before, source, target, cut), done, none) = λ some. held_cut (blocks.table s) p.source.link cut (ap (λ (x : Table). x.link) source.is)
    fresh_held p (copying.Succeeds table) ((s, before, source, target, cut), done, none, is) = λ some. held_cut (blocks.table s) table cut (is ∙ ap (λ (x : Table). x.link) source.is)
    fresh_held p (copying.Retires settle rest) (s, before, (is, cut), none, has_done, claims, there) =
        (settle_held settle setting.slot setting.batch_size (blocks.table s) is cut, λ some. absurd (some none))
    fresh_held p _ facts = tt

    -- of several tables that it has unlinked, the one behind that which it retires, if there is one
    rest_held : (s t rest : ℕ) → s < t → ((u : ℕ) → s ≤ u → u < t → (blocks.table_known u ≡ true) × (w.hand (blocks.table u) ≡ Cutting i)) → (suc s < t → rest ≡ blocks.table (suc s) * 2048)
        → (suc s ≡ t → rest ≡ 0) → HoldsOf Held rest
    rest_held s t rest before cuts next last = λ some. elim (cases_lt (suc s) t) as (λ _. Held (block_in rest)) [
      | inl lt ↦ held_cut (blocks.table (suc s)) rest (cuts (suc s) (omega arith) lt).1 (next lt)
      | inr ge ↦ absurd (some (last (omega (arith, ge, before))))
    ]

    blocking_held : (p : Copier) (stands : Copying) → CopyingFactsBlocking same hash w i setting c blocks p stands → HoldsTables Held p stands
    blocking_held p copying.Announces (s, source, (before, target, none, cuts)) = λ some. held_cut (blocks.table s) p.source.link (cuts s (omega arith) before).1 (ap (λ (x : Table). x.link) source.is)
    blocking_held p (copying.Succeeds table) (s, (before, target, none, cuts), is) = λ some. held_cut (blocks.table s) table (cuts s (omega arith) before).1 is
    blocking_held p (copying.Retires settle rest) (s, (before, target, none, cuts), (is, cut), (next, last)) =
        (settle_held settle setting.slot setting.batch_size (blocks.table s) is cut, rest_held s c.first rest before cuts next last)
    blocking_held p _ facts = tt

    late_held : (began : ℕ) (p : Copier) (stands : Copying) → SupersededCopying same hash w i setting c blocks began p stands → HoldsTables Held p stands
    late_held began p copying.Announces (s, t, source, (before, target, left, none, cuts)) = λ some. held_cut (blocks.table s) p.source.link (cuts s (omega arith) before).1 (ap (λ (x : Table). x.link) source.is)
    late_held began p (copying.Succeeds table) (s, t, (before, target, left, none, cuts), is) = λ some. held_cut (blocks.table s) table (cuts s (omega arith) before).1 is
    late_held began p (copying.Retires settle rest) (s, t, (before, target, left, none, cuts), (is, cut), (next, last)) =
        (settle_held settle setting.slot setting.batch_size (blocks.table s) is cut, rest_held s t rest before cuts next last)
    late_held began p _ facts = tt

    abbrev Fresh : Copier → Type 0
    Fresh p = CopierFacts same hash w i setting c blocks p

    abbrev Blocking : Copier → Type 0
    Blocking p = CopierFactsBlocking same hash w i setting c blocks p

    abbrev Late : ℕ → Copier → Type 0
    Late began p = SupersededCopierFacts same hash w i setting c blocks began p

    fresh_reads : (p : Copier) → Fresh p → HoldsTables Held p p.stands
    fresh_reads p facts = fresh_held p p.stands facts.point

    blocking_reads : (p : Copier) → Blocking p → HoldsTables Held p p.stands
    blocking_reads p facts = blocking_held p p.stands facts.point

    late_reads : (began : ℕ) (p : Copier) → Late began p → HoldsTables Held p p.stands
    late_reads began p facts = late_held began p p.stands facts.point

    whole_reads : (p : Copier) → CopiesWhole same hash w i setting c blocks p → HoldsTables Held p p.stands
    whole_reads p facts = by (is_incremental setting.mode) facts
      where
        by : (q : Bool) → cond q ((p.whole ≡ true) × Fresh p × IsEnding same hash w i setting c blocks p p.stands) (Blocking p) → HoldsTables Held p p.stands
        by true k = fresh_reads p k.1
        by false k = blocking_reads p k

    any_reads : (began : ℕ) (p : Copier) → CopiesTable same hash w i setting c blocks began p → HoldsTables Held p p.stands
    any_reads began p facts = elim facts as (λ _. HoldsTables Held p p.stands) [
      | inl whole ↦ whole_reads p whole
      | inr late ↦ late_reads began p late.1
    ]

    -- a pair that was taken out
    out_of : (q : Bool) (n : ℕ) (A B : Type 0) → cond q ((w.hand (blocks.pair n) ≡ Parting i) × A) ((w.hand (blocks.pair n) ≡ Cutting i) × B) → IsTakenOut (w.hand (blocks.pair n))
    out_of true n A B so = subst IsTakenOut (sym so.0) tt
    out_of false n A B so = subst IsTakenOut (sym so.0) tt

    held_pair : (n word : ℕ) → IsTakenOut (w.hand (blocks.pair n)) → block_in word ≡ blocks.pair n → Held (block_in word)
    held_pair n word out is = HeldOut (subst IsTakenOut (ap w.hand (sym is)) out)

    disposed_held : (d : Dispose) → DisposeFacts w i setting c blocks d → HoldsAt Held (pair_in_disposing d d.stands)
    disposed_held d facts = by d.stands facts.point
      where
        its : block_in d.pair ≡ blocks.pair facts.n
        its = ap block_in facts.pair_is ∙ block_of_link (blocks.pair facts.n)

        by : (p : Disposing) → DisposingFacts w i setting c blocks facts.n facts.t p → HoldsAt Held (pair_in_disposing d p)
        by disposing.Reads f = held_pair facts.n d.pair (subst IsTakenOut (sym f.1) tt) its
        by (disposing.Walks table) f = held_pair facts.n d.pair (subst IsTakenOut (sym f.1) tt) its
        by (disposing.Settles settle) f = settle_held settle setting.slot setting.batch_size (blocks.pair facts.n) f.0.0 f.0.1
        by (disposing.Defers defer) f =
            at_word Held (word_due (due_in_defer defer defer.stands)) (blocks.pair facts.n * 2048) (ap (λ (x : Defer). word_due (due_in_defer x x.stands)) f.5)
            (held_link (blocks.pair facts.n) (subst IsTakenOut (sym f.0) tt))
        by disposing.Over f = tt

    -- calls on one key

    counted : (removed : ℕ) → Held (block_in removed) → HoldsAt Held (pair_in_calling (calling.Counts removed))
    counted removed held = by (removed == 0)
      where
        by : (q : Bool) → HoldsAt Held (if q then None else Some removed)
        by true = tt
        by false = held

    key_held : (keys : K → Bool) (change : Change) (x : KeyCall K V K) (p : Calling) → CallingFacts same hash same w i setting c blocks keys change x p → HoldsOfCall Held Held p
    key_held keys change x (calling.Counts removed) (inl facts) = subst (λ (n : ℕ). HoldsAt Held (pair_in_calling (calling.Counts n))) (sym facts.0) tt
    key_held keys change x (calling.Counts removed) (inr (n, t, borrowed, changed, left, is, table, hand)) =
        counted removed (held_pair n removed (out_of (cond (is_incremental setting.mode) borrowed false) n _ _ hand) (ap block_in is ∙ few n Still borrowed))
    key_held keys change x (calling.Disposes dispose answer) facts = disposed_held dispose facts.0
    key_held keys change x (calling.Helps copier goal) facts = fresh_reads copier facts.6
    key_held keys change x (calling.Copies copier) facts = blocking_reads copier facts.2
    key_held keys change x _ facts = tt

    late_key_held : (keys : K → Bool) (began : ℕ) (x : KeyCall K V K) (p : Calling) → SupersededCalling same hash same w i setting c blocks keys began x p → HoldsOfCall Held Held p
    late_key_held keys began x (calling.Counts removed) facts = absurd facts
    late_key_held keys began x (calling.Disposes dispose answer) facts = absurd facts
    late_key_held keys began x (calling.Helps copier goal) facts = absurd facts
    late_key_held keys began x (calling.Copies copier) facts = late_reads began copier facts.1
    late_key_held keys began x _ facts = tt

    key_row : (slot : ℕ) (keys : K → Bool) (change : Change) (x : KeyCall K V K) (p : Calling) → IsRowOfCall p → w.row i ≡ row_of slot p
        → CallingFacts same hash same w i setting c blocks keys change x (past_row p) → HoldsOfCall Held Held p
    key_row slot keys change x (calling.Disposes dispose answer) row is facts = disposal_row slot dispose dispose.stands row is
    key_row slot keys change x (calling.Helps copier goal) row is facts = copier_row Fresh fresh_reads copier copier.stands row is facts.6
    key_row slot keys change x (calling.Copies copier) row is facts = copier_row Blocking blocking_reads copier copier.stands row is facts.2
    key_row slot keys change x _ row is facts = absurd row

    late_key_row : (slot : ℕ) (keys : K → Bool) (began : ℕ) (x : KeyCall K V K) (p : Calling) → IsRowOfCall p → w.row i ≡ row_of slot p
        → SupersededCalling same hash same w i setting c blocks keys began x (past_row p) → HoldsOfCall Held Held p
    late_key_row slot keys began x (calling.Disposes dispose answer) row is facts = absurd facts
    late_key_row slot keys began x (calling.Helps copier goal) row is facts = absurd facts
    late_key_row slot keys began x (calling.Copies copier) row is facts = copier_row (Late began) (late_reads began) copier copier.stands row is facts.1
    late_key_row slot keys began x _ row is facts = absurd row

    -- reservations

    room_held : (p : Reserving) → ReservingFacts same hash w i setting c blocks p → HoldsOfRoom Held Held p
    room_held (reserving.Copies copier) facts = whole_reads copier facts
    room_held _ facts = tt

    late_room_held : (began : ℕ) (p : Reserving) → SupersededReserving same hash w i setting c blocks began p → HoldsOfRoom Held Held p
    late_room_held began (reserving.Copies copier) facts = late_reads began copier facts
    late_room_held began _ facts = tt

    room_row : (p : Reserving) → IsRowOfReserve p → w.row i ≡ row_of_room p → ReservingFacts same hash w i setting c blocks (past_room p) → HoldsOfRoom Held Held p
    room_row (reserving.Copies copier) row is facts = copier_row (CopiesWhole same hash w i setting c blocks) whole_reads copier copier.stands row is facts
    room_row _ row is facts = absurd row

    late_room_row : (began : ℕ) (p : Reserving) → IsRowOfReserve p → w.row i ≡ row_of_room p → SupersededReserving same hash w i setting c blocks began (past_room p) → HoldsOfRoom Held Held p
    late_room_row began (reserving.Copies copier) row is facts = copier_row (Late began) (late_reads began) copier copier.stands row is facts
    late_room_row began _ row is facts = absurd row

    -- sweeps

    sweep_held : (began : ℕ) (x : Sweep) (p : Sweeping) → SweepingFacts same hash w i setting c blocks began x p → HoldsOfSweep Held Held p
    sweep_held began x (sweeping.Copies copier) facts = any_reads began copier facts
    sweep_held began x (sweeping.Counts removed) (removes, t, here, (n, borrowed, left, is, hand)) =
        held_pair n removed (out_of (cond (is_incremental setting.mode) borrowed false) n _ _ hand) (ap block_in is ∙ few n Still borrowed)
    sweep_held began x (sweeping.Disposes dispose) facts = disposed_held dispose facts.3
    sweep_held began x _ facts = tt

    sweep_row : (slot began : ℕ) (x : Sweep) (p : Sweeping) → IsRowOfSweep p → w.row i ≡ row_of_sweep slot p → SweepingFacts same hash w i setting c blocks began x (past_sweeping p) → HoldsOfSweep Held Held p
    sweep_row slot began x (sweeping.Copies copier) row is facts = copier_row (CopiesTable same hash w i setting c blocks began) (any_reads began) copier copier.stands row is facts
    sweep_row slot began x (sweeping.Disposes dispose) row is facts = disposal_row slot dispose dispose.stands row is
    sweep_row slot began x _ row is facts = absurd row

-- whichever call it is
module _ {K V : Type 0} (same : K → K → Bool) (hash : K → ℕ) (setting : Setting) (w : World (Node K V)) (i : ℕ) (c : Chart K) (blocks : Blocks)
    (few : (n : ℕ) (phase : Phase) (borrowed : Bool) → block_in (place_word hash c blocks (Holds n phase borrowed)) ≡ blocks.pair n) where
  abbrev its : Setting
  its = in_slot setting (slot_of i)

  pub held_in_hand : (u : UnderWay K V K) → IsAtPoint V same hash same setting slot_of w c blocks i u → HoldsOfPending (Held w i) (Held w i) (machine_of u)
  held_in_hand (OnKey x) (inl (rests, knows)) = elim knows.facts as (λ _. HoldsOfCall (Held w i) (Held w i) x.call.stands) [
    | inl facts ↦ key_held w i same hash its c blocks few x.keys x.change x.call x.call.stands facts.point
    | inr late ↦ late_key_held w i same hash its c blocks few x.keys x.began x.call x.call.stands late.1.point
  ]
  held_in_hand (OnKey x) (inr (row, is_row, knows)) = elim knows.facts as (λ _. HoldsOfCall (Held w i) (Held w i) x.call.stands) [
    | inl facts ↦ key_row w i same hash its c blocks few (slot_of i) x.keys x.change (once_over x.call) x.call.stands is_row row facts.point
    | inr late ↦ late_key_row w i same hash its c blocks few (slot_of i) x.keys x.began (once_over x.call) x.call.stands is_row row late.1.point
  ]
  held_in_hand (ForRoom r) (inl (rests, knows)) = elim knows.facts as (λ _. HoldsOfRoom (Held w i) (Held w i) r.reserve.stands) [
    | inl facts ↦ room_held w i same hash its c blocks few r.reserve.stands facts.point
    | inr late ↦ late_room_held w i same hash its c blocks few r.began r.reserve.stands late.point
  ]
  held_in_hand (ForRoom r) (inr (row, is_row, knows)) = elim knows.facts as (λ _. HoldsOfRoom (Held w i) (Held w i) r.reserve.stands) [
    | inl facts ↦ room_row w i same hash its c blocks few r.reserve.stands is_row row facts.point
    | inr late ↦ late_room_row w i same hash its c blocks few r.began r.reserve.stands is_row row late.point
  ]
  held_in_hand (Counting sum) stands = tt
  held_in_hand (OverAll o) (inl (rests, knows)) = sweep_held w i same hash its c blocks few o.began o.sweep o.sweep.stands knows.facts.point
  held_in_hand (OverAll o) (inr (row, is_row, knows)) = sweep_row w i same hash its c blocks few (slot_of i) o.began (sweep_once_over o.sweep) o.sweep.stands is_row row knows.facts.point
