-- A flush of a slot within a section, step by step in a world: it takes nothing away.
use Rattle.std.specs.Prelude.{Option, length, ◌⊎◌}
use Rattle.std.proofs.Common.{◌≡◌, ℕ, ◌+◌, ◌<◌, Bool, true, [], inl, inr, refl, ap, sym, subst, ◌∙◌, arith}
use Rattle.std.proofs.lemmas.Bool.{cases_lt}
use Rattle.papaya_raw.specs.Given.SeizeDeclared.rows.settle.Settle.{Settle}
use Rattle.papaya_raw.specs.Given.SeizeDeclared.states.TheConstants.{LAST_SLOT}
use Rattle.papaya_raw.specs.Given.SeizeLaw.{is_open}
use Rattle.papaya_raw.specs.Given.SeizeSettle.{flushing}
use Rattle.papaya_raw.specs.Given.SeizeWorld.{World, Row, Rests, Settles, Use, Vacant, Outside, Inside, Changing, Flush, Begin, Step, Begins, IsInside, Steps'}
use Rattle.run_finds.proofs.Given.SeizeMovesState.Ghost.{Head, Never, State, emptied, is_active}
use Rattle.run_finds.proofs.Given.SeizeRulePoints.Told.{Told, part}
use Rattle.run_finds.proofs.Given.SeizeRuleRows.Known.{FitsRow}
use Rattle.run_finds.proofs.Given.SeizeRuleRows.Others.{with_here}
use Rattle.run_finds.proofs.Given.SeizeRuleRows.Sizes.{AllSized}
use Rattle.run_finds.proofs.Given.SeizeRuleRows.SizesKept.{happens_sized}
use Rattle.run_finds.proofs.Given.SeizeRuleRows.Teams.{UseFits}
use Rattle.run_finds.proofs.Given.SeizeRuleRows.Told as told
use Rattle.run_finds.proofs.Given.SeizeRuleRows.Told.{RowTold}
use Rattle.run_finds.proofs.Given.SeizeMemoryWords.View.{view}
use Rattle.run_finds.proofs.Given.SeizeRuleWorld.Begins.{begins_next}
use Rattle.run_finds.proofs.Given.SeizeRuleWorld.Good.{Good, Next}
use Rattle.run_finds.proofs.Given.SeizeRuleWorld.Kept.{steps_next}
use Rattle.run_sweeps.proofs.Needs.Flushes.Moves.{FlushesOn, flush_moves}
use Rattle.run_finds.proofs.Given.SeizeRuleRows.Leaving.{active_head_of as active_by}

abbrev pub slots : ℕ
slots = LAST_SLOT + 1

inside_active : (u : Use) (h : Head) (k : ℕ) (o : Bool) → IsInside u → UseFits u (emptied h) k o → is_active h ≡ true
inside_active Vacant h k o inside fits = absurd inside
inside_active (Outside j) h k o inside fits = absurd inside
inside_active (Inside j) h k o inside fits = active_by h fits.0
inside_active Changing h k o inside fits = absurd inside

-- one that is active is one of all
never_active : (h : Head) → h ≡ Never → is_active h ≡ true → ⊥
never_active h is active = (let none = ap is_active is in cc (none, active))

-- what a row has under way is one thing
settle_is : (c d : Settle) (row : Row) → row ≡ Settles c → row ≡ Settles d → d ≡ c
settle_is c d row is other = (let both : Settles d ≡ Settles c = sym other ∙ is in cc both)

module _ {T : Type 0} (defers : T → Option ℕ) (size i s : ℕ) where
  -- Row i flushes slot s, which is active, or has ended.
  pub record Flushing (w : World T) (c : Settle) : Type 0 where
    pub good : Good defers slots size w
    pub sized : AllSized size w.row
    pub row : w.row i ≡ Settles c
    pub slot_is : c.slot ≡ s
    pub on : FlushesOn i c.slot (part c) good.state

  -- So it begins,
  pub flush_begins : (w w2 : World T) → Good defers slots size w → AllSized size w.row → w.row i ≡ Rests → IsInside (w.uses s) → Begins defers size i (Flush s) w w2 → Flushing w2 (flushing s size)
  flush_begins w w2 good sized rests inside begins = record {
    good = next.0;
    sized = happens_sized defers size w w2 sized (Begin i (Flush s)) (rests, begins);
    row = ap (λ (v : World T). v.row i) begins.1 ∙ with_here w.row i (Settles (flushing s size));
    slot_is = refl;
    on = subst (λ (m : State). FlushesOn i s (part (flushing s size)) m) (sym next.1) (record {
      none = record { loose = idles.empty.loose; left = idles.empty.left; pending = idles.empty.pending; puts = idles.empty.puts };
      active = inside_active (w.uses s) (good.state.head s) _ (is_open s good.state.log) inside (good.used.fits s);
      knows = idles.empty.closing;
    });
  }
    where
      next : (g : Good defers slots size w2) × (g.state ≡ good.state)
      next = begins_next defers slots size refl w w2 good i rests (Flush s) begins

      idles : FitsRow slots i (view defers w.memory) good.state good.extra (length w.memory.slots) Rests
      idles = subst (λ (r : Row). FitsRow slots i (view defers w.memory) good.state good.extra (length w.memory.slots) r) rests (good.rows i)

  -- and goes on by each step, until it has ended.
  pub flush_steps : (w w2 : World T) (c : Settle) → Flushing w c → Steps' defers i (w.row i) w w2 → ((c2 : Settle) × Flushing w2 c2) ⊎ (w2.row i ≡ Rests)
  flush_steps w w2 c on steps = by next.told
    where
      next : Next defers slots size w on.good.state i w2
      next = steps_next defers slots size refl w w2 on.good on.sized i (w.row i) refl steps

      slot_lt : c.slot < slots
      slot_lt = elim (cases_lt c.slot slots) as (λ _. c.slot < slots) [
        | inl lt ↦ lt
        | inr past ↦ absurd (never_active (on.good.state.head c.slot) (on.good.inv.slots.outside c.slot past) on.on.active)
      ]

      goes : (c1 c2 : Settle) → w.row i ≡ Settles c1 → w2.row i ≡ Settles c2 → c2.slot ≡ c1.slot → Told slots i c1 (part c1) on.good.state c2 next.good.state → Flushing w2 c2
      goes c1 c2 is is2 same_slot went =
          let one = settle_is c c1 (w.row i) on.row is in
          let its : Told slots i c (part c) on.good.state c2 next.good.state = subst (λ (z : Settle). Told slots i z (part z) on.good.state c2 next.good.state) one went in
          let slot2 : c2.slot ≡ c.slot = same_slot ∙ ap (λ (z : Settle). z.slot) one in
          record {
            good = next.good;
            sized = happens_sized defers size w w2 on.sized (Step i) steps;
            row = is2;
            slot_is = slot2 ∙ on.slot_is;
            on = subst (λ (t : ℕ). FlushesOn i t (part c2) next.good.state) (sym slot2)
                (flush_moves slots i (omega arith) c c2 on.good.state next.good.state on.good.inv slot_lt on.on its);
          }

      other : {X : Type 0} → ((d : Settle) → w.row i ≡ Settles d → ⊥) → X
      other never = absurd (never c on.row)

      by : RowTold slots i (w.row i) on.good.state w.uses (w2.row i) next.good.state w2.uses → ((c2 : Settle) × Flushing w2 c2) ⊎ (w2.row i ≡ Rests)
      by (told.SettleGoes c1 c2 is is2 same_slot went) = inl (c2, goes c1 c2 is is2 same_slot went)
      by (told.SettleEnds c1 is is2 over same) = inr is2
      by (told.LeaveSwaps c1 again es p is is2 a b d e f g) = other (λ d is3. cc (is, is3))
      by (told.LeaveGoes c1 settle settle2 is is2 a b d) = other (λ d is3. cc (is, is3))
      by (told.LeaveSettled c1 settle is a b d e) = other (λ d is3. cc (is, is3))
      by (told.LeaveEnds c1 is a b d) = other (λ d is3. cc (is, is3))
      by (told.RegisterLooks c1 c2 is is2 a b d e f) = other (λ d is3. cc (is, is3))
      by (told.RegisterRefused c1 is is2 a b d) = other (λ d is3. cc (is, is3))
      by (told.RegisterTakes c1 is a b d e) = other (λ d is3. cc (is, is3))
      by (told.RegisterEnters c1 is is2 a b d e f) = other (λ d is3. cc (is, is3))
      by (told.EntersSlot c1 is is2 a b d) = other (λ d is3. cc (is, is3))
      by (told.FreesSlot c1 is is2 a) = other (λ d is3. cc (is, is3))
      by (told.DeferGoes t c1 p is is2 a b d) = other (λ d is3. cc (is, is3))
      by (told.DeferPushes t b u d c1 is is2 e f g h) = other (λ d is3. cc (is, is3))
      by (told.DeferEnds t c1 is is2 a b) = other (λ d is3. cc (is, is3))
