-- What a call knows of the table behind which its row, which has not begun, is to put a pair: it comes just before the one in which that lies.
use Rattle.std.specs.Prelude.{◌≡◌, ℕ, ◌+◌, ◌<◌, Bool, true, Option, Some}
use Rattle.std.proofs.Common.{refl, ap, sym, subst, ◌∙◌, inl, inr, arith}
use Rattle.run_finds.specs.Given.SeizeWordsDeclared.at.At.{At}
use Rattle.run_finds.specs.Given.SeizeWordsDeclared.at.At.TheVariants.{Word}
use Rattle.run_finds.specs.Given.SeizeFurther.{IsWordOf}
use Rattle.run_finds.specs.Given.SeizeWorld.{World, Rests}
use Rattle.run_finds.specs.Given.SeizeDeclared.rows.defer.Defer.{Defer}
use Rattle.run_finds.specs.Given.SeizeDeclared.rows.defer.Deferring.{Deferring}
use Rattle.run_finds.specs.Given.SeizeDeclared.rows.defer.Deferring.TheVariants as deferring
use Rattle.run_finds.specs.Given.TablesDeclared.node.Node.{Node}
use Rattle.run_finds.specs.Given.TablesDeclared.setting.Setting.{Setting}
use Rattle.run_finds.specs.Given.TablesDeclared.table.Table.{Table}
use Rattle.run_finds.specs.Given.TablesDeclared.table_words.TheConstants.{DEFERRED}
use Rattle.run_finds.specs.Given.ResizeDeclared.copier.Copying.{Copying}
use Rattle.run_finds.specs.Given.ResizeDeclared.copier.Copying.TheVariants as copying
use Rattle.run_finds.specs.Given.ResizeDeclared.dispose.Dispose.{Dispose}
use Rattle.run_finds.specs.Given.ResizeDeclared.dispose.Disposing.{Disposing}
use Rattle.run_finds.specs.Given.ResizeDeclared.dispose.Disposing.TheVariants as disposing
use Rattle.run_finds.specs.Given.ReservesDeclared.reserve.Reserving.{Reserving}
use Rattle.run_finds.specs.Given.ReservesDeclared.reserve.Reserving.TheVariants as reserving
use Rattle.run_finds.specs.Given.ReservesDeclared.sweep.Sweep.{Sweep}
use Rattle.run_finds.specs.Given.ReservesDeclared.sweep.Sweeping.{Sweeping}
use Rattle.run_finds.specs.Given.ReservesDeclared.sweep.Sweeping.TheVariants as sweeping
use Rattle.papaya_raw.specs.declared.machines.call.Calling.{Calling}
use Rattle.papaya_raw.specs.declared.machines.call.Calling.TheVariants as calling
use Rattle.papaya_raw.specs.declared.machines.call.KeyCall.{KeyCall}
use Rattle.run_finds.specs.Given.RuleChart.{Chart}
use Rattle.run_finds.specs.Given.RuleWords.{Blocks}
use Rattle.run_finds.specs.Given.PointsFactsCalls.{CallingFacts}
use Rattle.run_finds.specs.Given.PointsFactsDisposes.{DisposingFacts, DisposeFacts}
use Rattle.run_finds.specs.Given.LateFactsSweeps.{SweepingFacts}
use Rattle.run_finds.specs.Given.LateLateCalls.{SupersededCalling}
use Rattle.run_finds.specs.Given.CallersOverAll.{CallOverAll, row_of_sweep}
use Rattle.run_finds.specs.Given.CallersRows.{row_of_disposal, row_of}
use Rattle.run_finds.specs.Given.CallersTogether.{CallOnKey, OnKey, OverAll, IsAtPoint, in_slot}
use Rattle.run_finds.specs.Given.SettlesDue.{ToPut, due_in_defer, due_in_disposing, due_in_copying, due_in_calling, due_in_reserving, due_in_sweeping}
use Rattle.run_finds.specs.Given.SettlesInHand.{pair_in_calling, pair_in_sweeping}
use Rattle.run_finds.specs.Waits.{waits_in_disposing, waits_in_calling, waits_in_sweeping}
use Rattle.run_finds.proofs.Waits.Due.{dispose_due}
use Rattle.run_finds.proofs.Given.SettlesHand.Behind.{settle_puts as never_put}

module _ (word : ℕ) (place : At) where
  put_place : (c : Defer) (q : Deferring) → due_in_defer c q ≡ Some (ToPut word place) → c.table_word ≡ place
  put_place c deferring.Over e = absurd (cc e)
  put_place c _ e = (let both = e in cc both)

  -- a disposal that is to put its pair goes by its table
  put_waits : (d : Dispose) (q : Disposing) → due_in_disposing q ≡ Some (ToPut word place) → waits_in_disposing d q ≡ Some d.table.turn
  put_waits d (disposing.Defers defer) e = refl
  put_waits d (disposing.Settles settle) e = absurd (never_put settle settle.stands word place e)
  put_waits d disposing.Reads e = absurd (cc e)
  put_waits d (disposing.Walks table) e = absurd (cc e)
  put_waits d disposing.Over e = absurd (cc e)

  put_row : (slot : ℕ) (q : Disposing) → due_in_disposing q ≡ Some (ToPut word place) → Rests ≡ row_of_disposal slot q → ⊥
  put_row slot (disposing.Defers defer) e rests = cc rests
  put_row slot (disposing.Settles settle) e rests = never_put settle settle.stands word place e
  put_row slot disposing.Reads e rests = cc e
  put_row slot (disposing.Walks table) e rests = cc e
  put_row slot disposing.Over e rests = cc e

  copy_never : (q : Copying) → due_in_copying q ≡ Some (ToPut word place) → ⊥
  copy_never (copying.Retires settle rest) e = never_put settle settle.stands word place e
  copy_never _ e = cc e

  pub room_never : (q : Reserving) → due_in_reserving q ≡ Some (ToPut word place) → ⊥
  room_never (reserving.Copies copier) e = copy_never copier.stands e
  room_never _ e = cc e

  -- the pair in hand is that, and has a table to go by
  module _ {K V Q : Type 0} where
    pub call_put : (p : KeyCall K V Q) (q : Calling) → p.stands ≡ q → due_in_calling q ≡ Some (ToPut word place)
        → (pair_in_calling p.stands ≡ Some word) × (turn : ℕ) × (waits_in_calling p p.stands ≡ Some turn)
    call_put p (calling.Disposes d answer) is e = let it = dispose_due d d.stands (ToPut word place) e in (ap pair_in_calling is ∙ it.0, it.1.0, ap (waits_in_calling p) is ∙ it.1.1)
    call_put p (calling.Helps copier goal) is e = absurd (copy_never copier.stands e)
    call_put p (calling.Copies copier) is e = absurd (copy_never copier.stands e)
    call_put p _ is e = absurd (cc e)

  pub sweep_put : (c : Sweep) (q : Sweeping) → c.stands ≡ q → due_in_sweeping q ≡ Some (ToPut word place)
      → (pair_in_sweeping c.stands ≡ Some word) × (turn : ℕ) × (waits_in_sweeping c c.stands ≡ Some turn)
  sweep_put c (sweeping.Disposes d) is e = let it = dispose_due d d.stands (ToPut word place) e in (ap pair_in_sweeping is ∙ it.0, it.1.0, ap (waits_in_sweeping c) is ∙ it.1.1)
  sweep_put c (sweeping.Copies copier) is e = absurd (copy_never copier.stands e)
  sweep_put c _ is e = absurd (cc e)

  module _ {K V : Type 0} (w : World (Node K V)) (c : Chart K) (blocks : Blocks) where
    abbrev pub IsBehind : Option ℕ → Type 0
    IsBehind waits = (u : ℕ) × (u < c.past) × (blocks.table_known u ≡ true) × IsWordOf (blocks.table u) place × (waits ≡ Some (u + 1))

    dispose_behind : (caller : ℕ) (setting : Setting) (d : Dispose) (f : DisposeFacts w caller setting c blocks d) (q : Disposing) → d.stands ≡ q → due_in_disposing q ≡ Some (ToPut word place) → IsBehind (Some d.table.turn)
    dispose_behind caller setting d f (disposing.Defers defer) is e =
        let p : DisposingFacts w caller setting c blocks f.n f.t (disposing.Defers defer) = subst (DisposingFacts w caller setting c blocks f.n f.t) is f.point in
        let turn : d.table.turn ≡ f.t = ap (λ (x : Table). x.turn) f.table.is in
        let its_word : ◌≡◌ {A = At} (Word (blocks.table p.2) DEFERRED) place = sym (ap (λ (x : Defer). x.table_word) p.5) ∙ put_place defer defer.stands e in
        let made = f.table.made in
        let next = p.3 in
        let by_one : d.table.turn ≡ p.2 + 1 = omega (arith, turn, next) in
        (p.2, omega (arith, made, next), p.4, subst (IsWordOf (blocks.table p.2)) its_word refl, ap Some by_one)
    dispose_behind caller setting d f (disposing.Settles settle) is e = absurd (never_put settle settle.stands word place e)
    dispose_behind caller setting d f disposing.Reads is e = absurd (cc e)
    dispose_behind caller setting d f (disposing.Walks table) is e = absurd (cc e)
    dispose_behind caller setting d f disposing.Over is e = absurd (cc e)

    module _ (same : K → K → Bool) (hash : K → ℕ) (setting : Setting) (slot : ℕ → ℕ) (i : ℕ) (rests : w.row i ≡ Rests) where
      abbrev own : Setting
      own = in_slot setting (slot i)

      pub key_behind : (x : CallOnKey K V K) → IsAtPoint V same hash same setting slot w c blocks i (OnKey x) → (q : Calling) → x.call.stands ≡ q → due_in_calling q ≡ Some (ToPut word place)
          → IsBehind (waits_in_calling x.call x.call.stands)
      key_behind x stands (calling.Disposes d answer) is e = elim stands as (λ _. IsBehind (waits_in_calling x.call x.call.stands)) [
        | inl k ↦ elim (k.1.facts) as (λ _. IsBehind (waits_in_calling x.call x.call.stands)) [
          | inl facts ↦
              let p : CallingFacts same hash same w i own c blocks x.keys x.change x.call (calling.Disposes d answer) = subst (λ (z : Calling). CallingFacts same hash same w i own c blocks x.keys x.change x.call z) is facts.point in
              subst IsBehind (sym (ap (waits_in_calling x.call) is ∙ put_waits d d.stands e)) (dispose_behind i own d p.0 d.stands refl e)
          | inr late ↦ absurd (let p : SupersededCalling same hash same w i own c blocks x.keys x.began x.call (calling.Disposes d answer) = subst (λ (z : Calling). SupersededCalling same hash same w i own c blocks x.keys x.began x.call z) is late.1.point in p)
        ]
        | inr k ↦ absurd (put_row (slot i) d.stands e (sym rests ∙ k.0 ∙ ap (row_of (slot i)) is))
      ]
      key_behind x stands (calling.Helps copier goal) is e = absurd (copy_never copier.stands e)
      key_behind x stands (calling.Copies copier) is e = absurd (copy_never copier.stands e)
      key_behind x stands _ is e = absurd (cc e)

      pub sweep_behind : (x : CallOverAll) → IsAtPoint V same hash same setting slot w c blocks i (OverAll x) → (q : Sweeping) → x.sweep.stands ≡ q → due_in_sweeping q ≡ Some (ToPut word place)
          → IsBehind (waits_in_sweeping x.sweep x.sweep.stands)
      sweep_behind x stands (sweeping.Disposes d) is e = elim stands as (λ _. IsBehind (waits_in_sweeping x.sweep x.sweep.stands)) [
        | inl k ↦
            let p : SweepingFacts same hash w i own c blocks x.began x.sweep (sweeping.Disposes d) = subst (λ (z : Sweeping). SweepingFacts same hash w i own c blocks x.began x.sweep z) is k.1.facts.point in
            subst IsBehind (sym (ap (waits_in_sweeping x.sweep) is ∙ put_waits d d.stands e)) (dispose_behind i own d p.3 d.stands refl e)
        | inr k ↦ absurd (put_row (slot i) d.stands e (sym rests ∙ k.0 ∙ ap (row_of_sweep (slot i)) is))
      ]
      sweep_behind x stands (sweeping.Copies copier) is e = absurd (copy_never copier.stands e)
      sweep_behind x stands _ is e = absurd (cc e)
