-- A step of a row leaves an entry as blank as it is, of a block that the row is not to retire or to put behind another one, and that is in no batch.
use Rattle.std.specs.Prelude.{Option, ◌⊎◌}
use Rattle.std.proofs.Common.{◌≡◌, ℕ, ◌+◌, ◌/◌, ◌<◌, List, length, refl, arith, inl, inr, ap, sym, subst, ◌∙◌}
use Rattle.run_places.specs.Given.SeizeWordsMem.{Mem}
use Rattle.run_places.specs.Given.SeizeDeclared.states.TheConstants.{NEXT, FIRST, COUNT, LINK, LAST_SLOT}
use Rattle.run_places.specs.Given.SeizeDeclared.advance.Advance.{Advance}
use Rattle.run_places.specs.Given.SeizeDeclared.advance.Advance.TheVariants as progress
use Rattle.run_places.specs.Given.SeizeDeclared.rows.defer.Defer.{Defer}
use Rattle.run_places.specs.Given.SeizeDeclared.rows.defer.Deferring.{Deferring}
use Rattle.run_places.specs.Given.SeizeDeclared.rows.defer.Deferring.TheVariants as deferring
use Rattle.run_places.specs.Given.SeizeDeclared.rows.leave.Leave.{Leave}
use Rattle.run_places.specs.Given.SeizeDeclared.rows.leave.Leaving.{Leaving}
use Rattle.run_places.specs.Given.SeizeDeclared.rows.leave.Leaving.TheVariants as leaving
use Rattle.run_places.specs.Given.SeizeDeclared.rows.register.Register.{Register}
use Rattle.run_places.specs.Given.SeizeDeclared.rows.register.Registering.{Registering}
use Rattle.run_places.specs.Given.SeizeDeclared.rows.register.Registering.TheVariants as registering
use Rattle.run_places.specs.Given.SeizeDeclared.rows.settle.Settle.{Settle}
use Rattle.run_places.specs.Given.SeizeDeclared.rows.settle.Settled.{Settled}
use Rattle.run_places.specs.Given.SeizeDeclared.rows.settle.Settled.TheVariants.{Goes, Waits, Gave, Done}
use Rattle.run_places.specs.Given.SeizeDeclared.rows.settle.Settling.{Settling}
use Rattle.run_places.specs.Given.SeizeDeclared.rows.settle.Settling.TheVariants as at
use Rattle.run_places.specs.Given.SeizeDefer as defer
use Rattle.run_places.specs.Given.SeizeEnter.{enter_plan, unregister_plan}
use Rattle.run_places.specs.Given.SeizeLeave as leave
use Rattle.run_places.specs.Given.SeizeRegister as register
use Rattle.run_places.specs.Given.SeizeSettle.{settle_plan, plan_at}
use Rattle.run_places.specs.Given.SeizeWorld.{World, Row, Rests, Registers, Enters, Settles, Leaves, Defers, Frees, Steps', settles_on, registers_on, defers_on}
use Rattle.owner_facts.specs.Given.SeizeWaitingHeld.{count}
use Rattle.owner_facts.proofs.Given.SeizeMovesMoves.Tries.{first_pending}
use Rattle.owner_facts.proofs.Given.SeizeMovesState.Ghost.{Life, IsDeferring, IsPending, IsIn, State}
use Rattle.owner_facts.proofs.Given.SeizeRulePoints.Deferred.{puts_some}
use Rattle.owner_facts.proofs.Given.SeizeRulePoints.Known.{FitsAt, Appends, bare, open_blocks}
use Rattle.owner_facts.proofs.Given.SeizeRulePoints.Retire.{open_stage, some_last, of_link as named}
use Rattle.owner_facts.proofs.Given.SeizeRuleRows.Known.{FitsLeave, FitsDefer, FitsRow}
use Rattle.owner_facts.proofs.Given.SeizeMemoryWords.Apart.{is_pending_put}
use Rattle.owner_facts.proofs.Given.SeizeMemoryWords.Chains.{last_of, last_from, count_last}
use Rattle.owner_facts.proofs.Given.SeizeMemoryWords.Named.{link}
use Rattle.owner_facts.proofs.Given.SeizeMemoryWords.View.{view}
use Rattle.owner_facts.proofs.Given.SeizeRuleWorld.Kept.{row_may}
use Rattle.owner_facts.proofs.Given.SeizeMemoryWritten.Retire.{in_batch}
use Rattle.owner_facts.proofs.Given.SeizeAloneHistories.Reached.{Reached}
use Rattle.run_debts.proofs.EntryOps.{IsApart, IsPlanApart, apart_as, Zero, plan_zero}

-- a row of this caller leaves it alone
abbrev pub IsSpared : ℕ → Life → Type 0
IsSpared i (IsDeferring j s t) = ⊥
IsSpared i (IsPending j) = j ≡ i → ⊥
IsSpared i (IsIn y) = ⊥
IsSpared i _ = Unit {0}

module _ {T : Type 0} (defers : T → Option ℕ) {size : ℕ} (w : World T) (r : Reached defers size w) (i x f : ℕ) (only : (f ≡ NEXT) ⊎ (f ≡ FIRST)) (spared : IsSpared i (r.good.state.life x)) where
  abbrev n : ℕ
  n = LAST_SLOT + 1

  abbrev m : State
  m = r.good.state

  -- a block that is not spared is another one
  other : (d : ℕ) (l : Life) → m.life d ≡ l → (IsSpared i l → ⊥) → (v : ℕ) → v / 2048 ≡ d → x ≡ v / 2048 → ⊥
  other d l there ne v at e = ne (subst (IsSpared i) (ap m.life (e ∙ at) ∙ there) spared)

  pending_other : (d : ℕ) → m.life d ≡ IsPending i → (v : ℕ) → v / 2048 ≡ d → x ≡ v / 2048 → ⊥
  pending_other d there v at e = other d (IsPending i) there (λ s. s refl) v at e

  -- the other words of entries are not meant
  no : (g : ℕ) → (g ≡ NEXT → ⊥) → (g ≡ FIRST → ⊥) → g ≡ f → ⊥
  no g a b e = by only
    where
      by : (f ≡ NEXT) ⊎ (f ≡ FIRST) → ⊥
      by (inl k) = a (e ∙ k)
      by (inr k) = b (e ∙ k)

  no_count : COUNT ≡ f → ⊥
  no_count e = no COUNT (λ k. absurd (omega (arith, k))) (λ k. absurd (omega (arith, k))) e

  no_link : LINK ≡ f → ⊥
  no_link e = no LINK (λ k. absurd (omega (arith, k))) (λ k. absurd (omega (arith, k))) e

  put_apart : (c : Settle) → r.good.extra.put_first i ≡ c.put_first → c.put_last ≡ link (last_of (m.puts i)) → (c.put_first ≡ 0 → ⊥) → x ≡ c.put_last / 2048 → ⊥
  put_apart c first last some e =
      let h = puts_some n i (view defers w.memory) m r.good.extra c.put_first r.good.shows first some in
      let d = last_from h.0 h.1 in
      let there = is_pending_put m.stage m.blocks m.left m.pending m.puts m.deferred m.carrier m.life r.good.extra.popped i d r.good.inv.places
      (subst (λ (l : List ℕ). 0 < count d l) (sym h.2) (count_last h.0 h.1)) in
      pending_other d there c.put_last (named c.put_last d (last ∙ ap (λ (l : List ℕ). link (last_of l)) h.2)) e

  appends_apart : (c : Settle) (block : ℕ) → Appends n i (view defers w.memory) m r.good.extra (bare c) block → x ≡ c.last / 2048 → ⊥
  appends_apart c block fits e =
      let p = fits.ends.batches.putting in
      let y = m.open_batch c.slot in
      let k = some_last c.last (open_blocks m c) p.batch.last fits.some in
      let there = (in_batch n c.slot y k.0 k.1 m r.good.inv (open_stage n i (view defers w.memory) m r.good.extra c r.good.inv r.good.shows p.common.slot_lt) k.2).0 in
      other (last_from k.0 k.1) (IsIn y) there (λ s. s) c.last (named c.last (last_from k.0 k.1) k.3) e

  settle_apart : (c : Settle) (p : Settling) → FitsAt n i (view defers w.memory) m r.good.extra (bare c) p → IsPlanApart x f (plan_at defers c p)
  settle_apart c (at.Batches block) fits =
      λ e k. pending_other fits.b (first_pending n i m fits.b fits.bs r.good.inv fits.putting.pending) block (named block fits.b fits.putting.block_is) e
  settle_apart c (at.Ends block) fits =
      λ e k. pending_other fits.batches.b (first_pending n i m fits.batches.b fits.batches.bs r.good.inv fits.batches.putting.pending) block (named block fits.batches.b fits.batches.putting.block_is) e
  settle_apart c (at.Appends block) fits = λ e k. appends_apart c block fits e
  settle_apart c (at.Counts block) fits = λ e k. no_count k
  settle_apart c (at.Marks slot block marks) fits = λ e k. no_link k
  settle_apart c (at.Closes marks) fits = λ e k. no_count k
  settle_apart c (at.Links block left pushed slot head) fits = λ e k. no_link k
  settle_apart c (at.Sums pushed) fits = λ e k. no_count k
  settle_apart c (at.Joins next more) fits = λ e k. put_apart c fits.drains.backs.common.put_first fits.drains.put_last fits.some e
  settle_apart c at.Puts fits = λ e k. put_apart c fits.common.put_first fits.put_last fits.some e
  settle_apart c (at.Downs next batch) fits = λ e k. no_count k
  settle_apart c _ fits = tt

  leave_apart : (c : Leave) (p : Leaving) → FitsLeave n i (view defers w.memory) m r.good.extra c.slot c.becomes c.frees p → IsPlanApart x f (leave.plan_at defers c p)
  leave_apart c (leaving.Settles settle) fits = apart_as x f (leave.settled c) (settle_plan defers settle) (settle_apart settle settle.stands fits.settles)
  leave_apart c _ fits = tt

  defer_apart : (s : ℕ) (c : Defer) (p : Deferring) → FitsDefer n i (view defers w.memory) m r.good.extra s c.block c.table_word p → IsPlanApart x f (defer.plan_at {T = T} c p)
  defer_apart s c (deferring.Links head) fits = λ e k. other fits.b (IsDeferring i s fits.t) fits.life (λ q. q) c.block (named c.block fits.b fits.block_is) e
  defer_apart s c (deferring.Pushes head) fits = subst (IsApart x f) (sym fits.on.at_is) tt
  defer_apart s c _ fits = tt

  register_apart : (c : Register) (p : Registering) → IsPlanApart x f (register.plan_at {T = T} c p)
  register_apart c registering.Begin = tt
  register_apart c registering.Look = tt
  register_apart c (registering.Widen bucket seen) = tt
  register_apart c (registering.Take seen) = tt
  register_apart c registering.Enter = tt
  register_apart c registering.Registered = tt
  register_apart c (registering.Refused fault) = tt

  fits_row : (row : Row) → w.row i ≡ row → FitsRow n i (view defers w.memory) m r.good.extra (length w.memory.slots) row
  fits_row row here = subst (λ (q : Row). FitsRow n i (view defers w.memory) m r.good.extra (length w.memory.slots) q) here (r.good.rows i)

  module _ (w2 : World T) (zero : Zero x f w.memory) where
    -- the memory that it came to
    settles_memory : (c d : Settle) (m2 : Mem T) (p : Settled T) → (settles_on w i c m2 (d, p)).memory ≡ m2
    settles_memory c d m2 Goes = refl
    settles_memory c d m2 Waits = refl
    settles_memory c d m2 (Gave value) = refl
    settles_memory c d m2 Done = refl

    registers_memory : (c d : Register) (m2 : Mem T) (p : Advance ℕ) → (registers_on w i c m2 (d, p)).memory ≡ m2
    registers_memory c d m2 progress.Goes = refl
    registers_memory c d m2 progress.Waits = refl
    registers_memory c d m2 (progress.Done s) = refl
    registers_memory c d m2 (progress.Refused fault) = refl

    defers_memory : (s : ℕ) (d : Defer) (m2 : Mem T) (p : Advance Unit) → (defers_on w i s m2 (d, p)).memory ≡ m2
    defers_memory s d m2 progress.Goes = refl
    defers_memory s d m2 progress.Waits = refl
    defers_memory s d m2 (progress.Done u) = refl
    defers_memory s d m2 (progress.Refused fault) = refl

    at_memory : (v : World T) (m2 : Mem T) → w2 ≡ v → v.memory ≡ m2 → Zero x f m2 → Zero x f w2.memory
    at_memory v m2 e there same = subst (Zero x f) (sym (ap (λ (u : World T). u.memory) e ∙ there)) same

    by_row : (row : Row) → w.row i ≡ row → Steps' defers i row w w2 → Zero x f w2.memory
    by_row Rests here h = absurd h
    by_row (Registers c) here h =
        at_memory _ h.0 h.3 (registers_memory c h.1.0 h.0 h.1.1)
        (plan_zero x f w.memory (register.register_plan c) h.0 h.1 (register_apart c c.stands) (row_may defers n size refl w r.good i (Registers c) here) h.2 zero)
    by_row (Enters c) here h = at_memory _ h.0 h.3 refl (plan_zero x f w.memory (enter_plan c) h.0 h.1 tt (row_may defers n size refl w r.good i (Enters c) here) h.2 zero)
    by_row (Settles c) here h =
        at_memory _ h.0 h.3 (settles_memory c h.1.0 h.0 h.1.1)
        (plan_zero x f w.memory (settle_plan defers c) h.0 h.1 (settle_apart c c.stands (fits_row (Settles c) here)) (row_may defers n size refl w r.good i (Settles c) here) h.2 zero)
    by_row (Leaves c) here h =
        at_memory _ h.0 h.3 refl
        (plan_zero x f w.memory (leave.leave_plan defers c) h.0 h.1 (leave_apart c c.stands (fits_row (Leaves c) here)) (row_may defers n size refl w r.good i (Leaves c) here) h.2 zero)
    by_row (Defers s c) here h =
        at_memory _ h.0 h.3 (defers_memory s h.1.0 h.0 h.1.1)
        (plan_zero x f w.memory (defer.defer_plan c) h.0 h.1 (defer_apart s c c.stands (fits_row (Defers s c) here)) (row_may defers n size refl w r.good i (Defers s c) here) h.2 zero)
    by_row (Frees c) here h = at_memory _ h.0 h.3 refl (plan_zero x f w.memory (unregister_plan c) h.0 h.1 tt (row_may defers n size refl w r.good i (Frees c) here) h.2 zero)

    -- a step of a row
    pub row_keeps_zero : Steps' defers i (w.row i) w w2 → Zero x f w2.memory
    row_keeps_zero step = by_row (w.row i) refl step
