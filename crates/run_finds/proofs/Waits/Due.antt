-- What a row within a call is to hand over, where that is a pair, is the pair that the call has in hand: it waits if it is to be put behind a table.
use Rattle.std.specs.Prelude.{◌≡◌, ℕ, Option, Some, None}
use Rattle.std.proofs.Common.{refl, ap, sym, subst, ◌∙◌}
use Rattle.run_executor.specs.Given.SeizeWordsWord.{block_in}
use Rattle.run_executor.specs.Given.SeizeDeclared.rows.defer.Defer.{Defer}
use Rattle.run_executor.specs.Given.SeizeDeclared.rows.defer.Deferring.{Deferring}
use Rattle.run_executor.specs.Given.SeizeDeclared.rows.defer.Deferring.TheVariants as deferring
use Rattle.run_blocks.specs.Given.ResizeDeclared.copier.Copier.{Copier}
use Rattle.run_blocks.specs.Given.ResizeDeclared.copier.Copying.{Copying}
use Rattle.run_blocks.specs.Given.ResizeDeclared.copier.Copying.TheVariants as copying
use Rattle.run_blocks.specs.Given.ResizeDeclared.dispose.Dispose.{Dispose}
use Rattle.run_blocks.specs.Given.ResizeDeclared.dispose.Disposing.{Disposing}
use Rattle.run_blocks.specs.Given.ResizeDeclared.dispose.Disposing.TheVariants as disposing
use Rattle.run_executor.specs.Given.ReservesDeclared.reserve.Reserving.{Reserving}
use Rattle.run_executor.specs.Given.ReservesDeclared.reserve.Reserving.TheVariants as reserving
use Rattle.run_executor.specs.Given.ReservesDeclared.sweep.Sweep.{Sweep}
use Rattle.run_executor.specs.Given.ReservesDeclared.sweep.Sweeping.{Sweeping}
use Rattle.run_executor.specs.Given.ReservesDeclared.sweep.Sweeping.TheVariants as sweeping
use Rattle.run_executor.specs.Given.RawDeclared.machines.call.Calling.{Calling}
use Rattle.run_executor.specs.Given.RawDeclared.machines.call.Calling.TheVariants as calling
use Rattle.run_executor.specs.Given.RawDeclared.machines.call.KeyCall.{KeyCall}
use Rattle.run_executor.specs.Given.RawDeclared.machines.machine.Machine.{Machine}
use Rattle.run_executor.specs.Given.RawDeclared.machines.machine.Machine.TheVariants as kinds
use Rattle.run_executor.specs.Given.EffectsKnown.{Known}
use Rattle.run_executor.specs.Given.EffectsDeclared.role.Role.TheVariants as role
use Rattle.run_blocks.specs.Given.SettlesDue.{RowObligation, ToRetire, ToPut, word_due, due_in_defer, due_in_disposing, due_in_copying, due_in_calling, due_in_reserving, due_in_sweeping, due_in_row}
use Rattle.run_blocks.specs.Given.SettlesHand.{things_at, in_hand_of_call, in_hand_of_sweep, in_hand, IsTableRole, HoldsAt, IsTableAt, NotesTables, NotesOfCall, NotesOfRoom, NotesOfSweep, NotesPending}
use Rattle.run_blocks.specs.Given.SettlesInHand.{pair_in_disposing, pair_in_calling, pair_in_sweeping}
use Rattle.run_finds.specs.Waits.{waits_in_disposing, waits_in_calling, waits_in_sweeping, waits_in, pair_in}
use Rattle.run_blocks.proofs.Given.SettlesHand.Behind.{settle_puts as never_put}

abbrev pub word_of : RowObligation → ℕ
word_of (ToRetire word) = word
word_of (ToPut word place) = word

-- it waits just if it is to be put behind a table
abbrev pub WaitsBy : RowObligation → Option ℕ → Type 0
WaitsBy (ToRetire word) waits = waits ≡ None
WaitsBy (ToPut word place) waits = (turn : ℕ) × (waits ≡ Some turn)

never_retired : (c : Defer) (p : Deferring) (word : ℕ) → due_in_defer c p ≡ Some (ToRetire word) → ⊥
never_retired c deferring.Over word e = cc e
never_retired c _ word e = cc e

pub dispose_due : (d : Dispose) (q : Disposing) (due : RowObligation) → due_in_disposing q ≡ Some due → (pair_in_disposing d q ≡ Some (word_of due)) × WaitsBy due (waits_in_disposing d q)
dispose_due d (disposing.Settles settle) (ToRetire word) e = (ap word_due e, refl)
dispose_due d (disposing.Settles settle) (ToPut word place) e = absurd (never_put settle settle.stands word place e)
dispose_due d (disposing.Defers defer) (ToRetire word) e = absurd (never_retired defer defer.stands word e)
dispose_due d (disposing.Defers defer) (ToPut word place) e = (ap word_due e, (d.table.turn, refl))
dispose_due d disposing.Reads due e = absurd (cc e)
dispose_due d (disposing.Walks table) due e = absurd (cc e)
dispose_due d disposing.Over due e = absurd (cc e)

-- of what the call has in hand
abbrev pub DueHas : {K V Q : Type 0} → Known → RowObligation → Machine K V Q → Type 0
DueHas known due machine = (in_hand known machine ≡ things_at known (Some (word_of due))) × (pair_in machine ≡ Some (word_of due)) × WaitsBy due (waits_in machine)

module _ (known : Known) (due : RowObligation) (n : ℕ) (is_pair : known.roles (block_in (word_of due)) ≡ role.Pair n) where
  -- a copier hands tables over
  noted_table : (x : RowObligation) → known.roles (block_in (word_of x)) ≡ role.Pair n → HoldsAt (IsTableAt known) (word_due (Some x)) → ⊥
  noted_table (ToRetire word) is noted = subst IsTableRole is noted
  noted_table (ToPut word place) is noted = subst IsTableRole is noted

  copy_due : (p : Copier) (q : Copying) → NotesTables known p q → due_in_copying q ≡ Some due → ⊥
  copy_due p (copying.Retires settle rest) notes e = noted_table due is_pair (subst (λ (o : Option RowObligation). HoldsAt (IsTableAt known) (word_due o)) e notes.0)
  copy_due p _ notes e = cc e

  room_due : (q : Reserving) → NotesOfRoom known q → due_in_reserving q ≡ Some due → ⊥
  room_due (reserving.Copies copier) notes e = copy_due copier copier.stands notes e
  room_due _ notes e = cc e

  module _ {K V Q : Type 0} where
    call_due : (p : KeyCall K V Q) (q : Calling) → p.stands ≡ q → NotesOfCall known q → due_in_calling q ≡ Some due → DueHas known due (kinds.Key p)
    call_due p (calling.Disposes dispose answer) is notes e =
        let it = dispose_due dispose dispose.stands due e in
        let pair : pair_in_calling p.stands ≡ Some (word_of due) = ap pair_in_calling is ∙ it.0 in (
          subst (λ (z : Calling). in_hand_of_call known z ≡ things_at known (Some (word_of due))) (sym is) (ap (things_at known) it.0),
          pair,
          subst (λ (z : Calling). WaitsBy due (waits_in_calling p z)) (sym is) it.1,
        )
    call_due p (calling.Helps copier goal) is notes e = absurd (copy_due copier copier.stands notes e)
    call_due p (calling.Copies copier) is notes e = absurd (copy_due copier copier.stands notes e)
    call_due p _ is notes e = absurd (cc e)

  module _ (K V Q : Type 0) where
    sweep_due : (c : Sweep) (q : Sweeping) → c.stands ≡ q → NotesOfSweep known q → due_in_sweeping q ≡ Some due → DueHas {K = K} {V = V} {Q = Q} known due (kinds.Sweep c)
    sweep_due c (sweeping.Disposes dispose) is notes e =
        let it = dispose_due dispose dispose.stands due e in
        let pair : pair_in_sweeping c.stands ≡ Some (word_of due) = ap pair_in_sweeping is ∙ it.0 in (
          subst (λ (z : Sweeping). in_hand_of_sweep known z ≡ things_at known (Some (word_of due))) (sym is) (ap (things_at known) it.0),
          pair,
          subst (λ (z : Sweeping). WaitsBy due (waits_in_sweeping c z)) (sym is) it.1,
        )
    sweep_due c (sweeping.Copies copier) is notes e = absurd (copy_due copier copier.stands notes e)
    sweep_due c _ is notes e = absurd (cc e)

  module _ {K V Q : Type 0} where
    pub row_due : (machine : Machine K V Q) → NotesPending known machine → due_in_row machine ≡ Some due → DueHas known due machine
    row_due (kinds.Key p) notes e = call_due p p.stands refl notes e
    row_due (kinds.Reserve r) notes e = absurd (room_due r.stands notes e)
    row_due (kinds.Sweep c) notes e = sweep_due K V Q c c.stands refl notes e
    row_due (kinds.Count sum) notes e = absurd (cc e)
