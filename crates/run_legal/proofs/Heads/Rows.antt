-- Each step of a row but of one that registers leaves the slots taken that were, and takes none.
use Rattle.std.specs.Prelude.{Option, Some, None, IsSome, ◌&&◌, not, nat_lt, eqb}
use Rattle.std.proofs.Common.{◌≡◌, ℕ, zero, suc, ◌+◌, ◌<◌, ◌≤◌, Bool, true, false, List, [], ◌∷◌, eqb-true, length, inl, inr, refl, arith, ap, sym, subst, ◌∙◌}
use Rattle.run_grows.specs.Given.SeizeWordsDeclared.at.At.TheVariants.{Slot}
use Rattle.run_grows.specs.Given.SeizeWordsMem.{Mem, Can, Took, value_at, word_at, with_word}
use Rattle.run_grows.specs.Given.SeizeWordsPlan.{Plan, Steps, May, Now}
use Rattle.run_grows.proofs.Given.SeizeWordsOneOwner.Operations.{stored, swapped, exchanged}
use Rattle.run_grows.specs.Given.SeizeDeclared.states.TheConstants.{HEAD, FREE, ACTIVE, LAST_SLOT}
use Rattle.run_grows.specs.Given.SeizeDeclared.advance.Advance.{Advance}
use Rattle.run_grows.specs.Given.SeizeDeclared.advance.Advance.TheVariants.{Done}
use Rattle.run_grows.specs.Given.SeizeDeclared.rows.settle.Settle.{Settle}
use Rattle.run_grows.specs.Given.SeizeDeclared.rows.settle.Settling.{Settling}
use Rattle.run_grows.specs.Given.SeizeDeclared.rows.settle.Settling.TheVariants as settling
use Rattle.run_grows.specs.Given.SeizeDeclared.rows.settle.Settled.{Settled}
use Rattle.run_grows.specs.Given.SeizeDeclared.rows.settle.Settled.TheVariants as settled
use Rattle.run_grows.specs.Given.SeizeDeclared.rows.leave.Leave.{Leave}
use Rattle.run_grows.specs.Given.SeizeDeclared.rows.leave.Leaving.{Leaving}
use Rattle.run_grows.specs.Given.SeizeDeclared.rows.leave.Leaving.TheVariants as leaving
use Rattle.run_grows.specs.Given.SeizeDeclared.rows.enter.Enter.{Enter}
use Rattle.run_grows.specs.Given.SeizeDeclared.rows.enter.Unregister.{Unregister}
use Rattle.run_grows.specs.Given.SeizeDeclared.rows.defer.Defer.{Defer}
use Rattle.run_grows.specs.Given.SeizeDeclared.rows.defer.Deferring.{Deferring}
use Rattle.run_grows.specs.Given.SeizeDeclared.rows.defer.Deferring.TheVariants as deferring
use Rattle.run_grows.specs.Given.SeizeSettle as settles
use Rattle.run_grows.specs.Given.SeizeSettle.{settle_plan}
use Rattle.run_grows.specs.Given.SeizeLeave as leaves
use Rattle.run_grows.specs.Given.SeizeLeave.{list_taken, standing}
use Rattle.run_grows.specs.Given.SeizeDefer as defer
use Rattle.run_grows.specs.Given.SeizeWorld.{World, Row, Rests, Registers, Enters, Settles, Leaves, Defers, Frees, Steps', SlotsTaken}
use Rattle.run_grows.proofs.Given.SeizeMovesState.Ghost.{Head, Idle, Active, emptied, is_never}
use Rattle.run_grows.proofs.Given.SeizeMemoryWords.Chains.{Chain, chain_behind, first_or}
use Rattle.run_grows.proofs.Given.SeizeMemoryWords.Named.{words_of, wrote, word_found, write_here, write_apart}
use Rattle.run_grows.proofs.Given.SeizeMemoryWords.View.{view}
use Rattle.run_grows.proofs.Given.SeizeMemoryWords.Shows.{HeadIs}
use Rattle.run_grows.proofs.Given.SeizeRuleWords.Kept.{IsQuietPlan, settle_quiet}
use Rattle.run_grows.proofs.Given.SeizeRulePoints.Known.{FitsAt, Fits, Pushes, bare}
use Rattle.run_grows.proofs.Given.SeizeRulePoints.May.{may_at}
use Rattle.run_grows.proofs.Given.SeizeRulePoints.Try.{never_word}
use Rattle.run_grows.proofs.Given.SeizeRuleRows.Known.{OnSlot, FitsRow, FitsLeave, FitsDefer}
use Rattle.run_grows.proofs.Given.SeizeRuleRows.Leave.{leaves_may}
use Rattle.run_grows.proofs.Given.SeizeRuleRows.Leaving.{steps_back}
use Rattle.run_grows.proofs.Given.SeizeRuleRows.Slots.{idle_head, enters_may, frees_may}
use Rattle.run_grows.proofs.Given.SeizeRuleRows.Deferring.{defers_may}
use Rattle.run_grows.proofs.Given.SeizeRuleWorld.Good.{Good}
use Rattle.run_grows.proofs.Given.SeizeRuleWorld.Start.{words_good}
use Rattle.run_grows.proofs.Given.SeizeEndsBatches.Free.{is_field, spares_plan, plan_same}
use Rattle.run_grows.proofs.Given.SeizeEndsBatches.Rows.{settles_memory, defers_memory}
use Rattle.run_grows.proofs.Given.SeizeAloneSpared.Steps.{word_some as becomes_some}

module _ {T : Type 0} where
  -- the slot was taken at some time
  abbrev pub is_taken : Mem T → ℕ → Bool
  is_taken m s = nat_lt 0 (words_of m (Slot s HEAD))

  abbrev pub KeepsTaken : Mem T → Mem T → Type 0
  KeepsTaken m m2 = (s : ℕ) → is_taken m2 s ≡ is_taken m s

  pub same_taken : (m m2 : Mem T) → ((s : ℕ) → words_of m2 (Slot s HEAD) ≡ words_of m (Slot s HEAD)) → KeepsTaken m m2
  same_taken m m2 same s = ap (nat_lt 0) (same s)

  pub by_memory : (m m2 m3 : Mem T) → m3 ≡ m2 → KeepsTaken m m2 → KeepsTaken m m3
  by_memory m m2 m3 is h = subst (λ (k : Mem T). KeepsTaken m k) (sym is) h

  pub no_change : (m m2 : Mem T) → m2 ≡ m → KeepsTaken m m2
  no_change m m2 is = by_memory m m m2 is (λ s. refl)

  pub taken_then : (m m2 m3 : Mem T) → KeepsTaken m m2 → KeepsTaken m2 m3 → KeepsTaken m m3
  taken_then m m2 m3 first then s = then s ∙ first s

  -- a head is written
  module _ (m : Mem T) (t v : ℕ) (some : IsSome (word_at m (Slot t HEAD))) where
    abbrev m2 : Mem T
    m2 = with_word m (Slot t HEAD) v

    pub now : words_of m2 (Slot t HEAD) ≡ v
    now = ap (λ w. w (Slot t HEAD)) (wrote m (Slot t HEAD) v some).words ∙ write_here (words_of m) (Slot t HEAD) v

    off : (y : Bool) → y ≡ false → (y && true) ≡ false
    off true e = absurd (cc e)
    off false e = refl

    pub elsewhere : (s : ℕ) → eqb s t ≡ false → words_of m2 (Slot s HEAD) ≡ words_of m (Slot s HEAD)
    elsewhere s e = ap (λ w. w (Slot s HEAD)) (wrote m (Slot t HEAD) v some).words ∙ write_apart (words_of m) (Slot t HEAD) v (Slot s HEAD) (off (eqb s t) e)

    -- it was taken, and is so still
    pub written : 0 < v → 0 < words_of m (Slot t HEAD) → KeepsTaken m m2
    written more had s = by (eqb s t) refl
      where
        there : is_taken m2 t ≡ is_taken m t
        there = let is = now in let x : nat_lt 0 v ≡ true = grind (arith, more) in let y : nat_lt 0 (words_of m (Slot t HEAD)) ≡ true = grind (arith, had) in ap (nat_lt 0) is ∙ x ∙ sym y

        by : (y : Bool) → eqb s t ≡ y → is_taken m2 s ≡ is_taken m s
        by true e = subst (λ (k : ℕ). is_taken m2 k ≡ is_taken m k) (sym (eqb-true s t e)) there
        by false e = ap (nat_lt 0) (elsewhere s e)

pub positive : (n : ℕ) → (n ≡ 0 → ⊥) → 0 < n
positive zero ne = absurd (ne refl)
positive (suc n) ne = omega arith

active_ever : (h : Head) → emptied h ≡ Active [] → is_never h ≡ false
active_ever h e = grind arith

-- a row that does not register
abbrev pub Off : Row → Type 0
Off (Registers c) = ⊥
Off _ = Unit {0}

module _ {T : Type 0} {size : ℕ} (defers : T → Option ℕ) (w : World T) (good : Good defers (LAST_SLOT + 1) size w) (i : ℕ) where
  spared : {R : Type 0} (plan : Plan T R) (m2 : Mem T) (end : R) → IsQuietPlan plan → spares_plan HEAD plan ≡ true → May Can Took value_at w.memory plan
      → Steps Took value_at w.memory plan m2 end → KeepsTaken w.memory m2
  spared plan m2 end q h may st = same_taken w.memory m2 (λ s. plan_same w.memory s HEAD plan m2 end q h may st)

  head_here : (s : ℕ) (h : Head) → good.state.head s ≡ h → HeadIs (view defers w.memory).links (words_of w.memory (Slot s HEAD)) h
  head_here s h is = subst (λ (x : Head). HeadIs (view defers w.memory).links (words_of w.memory (Slot s HEAD)) x) is (good.shows.entries.headed s)

  -- a slot that is idle was taken
  pub idle_some : (s : ℕ) → OnSlot (LAST_SLOT + 1) i good.state good.extra s Idle → 0 < words_of w.memory (Slot s HEAD)
  idle_some s r = (let two : words_of w.memory (Slot s HEAD) ≡ 2 = head_here s Idle (idle_head (good.state.head s) r.head) in omega (arith, two))

  -- a block that is pushed has a number
  pushed_some : (c : Settle) (block left pushed slot head : ℕ) → Pushes (LAST_SLOT + 1) i (view defers w.memory) good.state good.extra (bare c) block left pushed slot head → 0 < block
  pushed_some c block left pushed slot head r =
      let q = r.links.reads in
      let p = q.shuts in
      let chain : Chain 0 (view defers w.memory).nexts (first_or 0 (good.state.blocks q.y)) (good.state.blocks q.y) = rw p.stage at (good.shows.linkage.linked q.y) in
      let pos =
      chain_behind 0 (view defers w.memory).nexts (first_or 0 (good.state.blocks q.y)) q.before (q.d ∷ q.rs)
      (subst (λ (bs : List ℕ). Chain 0 (view defers w.memory).nexts (first_or 0 (good.state.blocks q.y)) bs) q.blocks chain) in
      let is = q.block_is in
      let more : 0 < q.d = pos.0 in
      omega (arith, is, more)

  settle_at : (c : Settle) (p : Settling) → FitsAt (LAST_SLOT + 1) i (view defers w.memory) good.state good.extra (bare c) p → May Can Took value_at w.memory (settles.plan_at defers c p)
      → (m2 : Mem T) (end : Settle × Settled T) → Steps Took value_at w.memory (settles.plan_at defers c p) m2 end → KeepsTaken w.memory m2
  settle_at c (settling.Pushes block left pushed slot head) r may m2 end st =
      elim (exchanged w.memory (settles.after_push c block left pushed slot) (Slot slot HEAD) head block m2 end st) as (λ _. KeepsTaken w.memory m2) [
        | inl d ↦ by_memory w.memory (with_word w.memory (Slot slot HEAD) block) m2 d.2
            (written w.memory slot block may.0 (pushed_some c block left pushed slot head r)
            (let is : words_of w.memory (Slot slot HEAD) ≡ head = word_found w.memory (Slot slot HEAD) d.0 d.1.0 ∙ d.1.1 in let high = r.links.active in omega (arith, is, high)))
        | inr d ↦ no_change w.memory m2 d.2
      ]
  settle_at c p r may m2 end st = spared (settles.plan_at defers c p) m2 end (settle_quiet defers c p) refl may st

  settle_taken : (c : Settle) → Fits (LAST_SLOT + 1) i (view defers w.memory) good.state good.extra c → (m2 : Mem T) (end : Settle × Settled T)
      → Steps Took value_at w.memory (settle_plan defers c) m2 end → KeepsTaken w.memory m2
  settle_taken c r m2 end st =
      settle_at c c.stands r (may_at defers (LAST_SLOT + 1) i w.memory good.state good.extra c good.inv good.shows (words_good defers (LAST_SLOT + 1) w good) c.stands r) m2 end st

  -- so was one that is active
  active_some : (s : ℕ) → OnSlot (LAST_SLOT + 1) i good.state good.extra s (Active []) → 0 < words_of w.memory (Slot s HEAD)
  active_some s r = positive (words_of w.memory (Slot s HEAD)) (λ none.
      (let never = never_word (view defers w.memory).links (words_of w.memory (Slot s HEAD)) (good.state.head s) (head_here s (good.state.head s) refl) none in
      let was = active_ever (good.state.head s) r.head in cc (never, was)))

  leave_taken : (c : Leave) (p : Leaving) → FitsLeave (LAST_SLOT + 1) i (view defers w.memory) good.state good.extra c.slot c.becomes c.frees p → May Can Took value_at w.memory (leaves.plan_at defers c p)
      → (m2 : Mem T) (end : Leave × Settled T) → Steps Took value_at w.memory (leaves.plan_at defers c p) m2 end → KeepsTaken w.memory m2
  leave_taken c leaving.Swaps r may m2 end st =
      let d = swapped w.memory (list_taken c) (Slot c.slot HEAD) c.becomes m2 end st in
      by_memory w.memory (with_word w.memory (Slot c.slot HEAD) c.becomes) m2 d.2
      (written w.memory c.slot c.becomes may.0 (let is = r.ends.word in let more = becomes_some r.again in omega (arith, is, more)) (active_some c.slot r.on))
  leave_taken c (leaving.Settles settle) r may m2 end st = let b = steps_back (leaves.settled c) w.memory m2 (settle_plan defers settle) end st in settle_taken settle r.settles m2 b.0 b.1
  leave_taken c leaving.Frees r may m2 end st =
      let d = stored {R = Leave × Settled T} w.memory (λ out. Now (standing c leaving.Over, settled.Goes)) (Slot c.slot HEAD) FREE m2 end st in
      by_memory w.memory (with_word w.memory (Slot c.slot HEAD) FREE) m2 d.0 (written w.memory c.slot FREE may.0 (omega arith) (idle_some c.slot r.on))
  leave_taken c leaving.Over r may m2 end st = no_change w.memory m2 st.0

  defer_taken : (s : ℕ) (c : Defer) (p : Deferring) → FitsDefer (LAST_SLOT + 1) i (view defers w.memory) good.state good.extra s c.block c.table_word p → May Can Took value_at w.memory (defer.plan_at c p)
      → (m2 : Mem T) (end : Defer × Advance Unit) → Steps Took value_at w.memory (defer.plan_at c p) m2 end → KeepsTaken w.memory m2
  defer_taken s c deferring.Reads r may m2 end st = spared (defer.plan_at c deferring.Reads) m2 end tt refl may st
  defer_taken s c (deferring.Links head) r may m2 end st = spared (defer.plan_at c (deferring.Links head)) m2 end tt refl may st
  defer_taken s c (deferring.Pushes head) r may m2 end st =
      spared (defer.plan_at c (deferring.Pushes head)) m2 end tt (ap (λ at. not (is_field HEAD at)) r.on.at_is) may st
  defer_taken s c deferring.Over r may m2 end st = no_change w.memory m2 st.0

  pub fits_at : (row : Row) → w.row i ≡ row → FitsRow (LAST_SLOT + 1) i (view defers w.memory) good.state good.extra (length w.memory.slots) row
  fits_at row is = subst (λ (r : Row). FitsRow (LAST_SLOT + 1) i (view defers w.memory) good.state good.extra (length w.memory.slots) r) is (good.rows i)

  pub step_taken : (row : Row) → Off row → (v : World T) → w.row i ≡ row → Steps' defers i row w v → KeepsTaken w.memory v.memory
  step_taken Rests off v is st = absurd st
  step_taken (Registers c) off v is st = absurd off
  step_taken (Enters c) off v is st =
      let may = enters_may defers (LAST_SLOT + 1) w good i c is in
      let d = stored {R = Enter × Advance Unit} w.memory (λ out. Now (c, Done tt)) (Slot c.slot HEAD) ACTIVE st.0 st.1 st.2 in
      by_memory w.memory (with_word w.memory (Slot c.slot HEAD) ACTIVE) v.memory (ap (λ (x : World T). x.memory) st.3 ∙ d.0)
      (written w.memory c.slot ACTIVE may.0 (omega arith) (idle_some c.slot (fits_at (Enters c) is)))
  step_taken (Settles c) off v is st =
      by_memory w.memory st.0 v.memory (ap (λ (x : World T). x.memory) st.3 ∙ settles_memory w i st.0 c st.1.0 st.1.1) (settle_taken c (fits_at (Settles c) is) st.0 st.1 st.2)
  step_taken (Leaves c) off v is st =
      by_memory w.memory st.0 v.memory (ap (λ (x : World T). x.memory) st.3)
      (leave_taken c c.stands (fits_at (Leaves c) is) (leaves_may defers (LAST_SLOT + 1) refl w good i c is) st.0 st.1 st.2)
  step_taken (Defers s c) off v is st =
      by_memory w.memory st.0 v.memory (ap (λ (x : World T). x.memory) st.3 ∙ defers_memory w i st.0 s st.1.0 st.1.1)
      (defer_taken s c c.stands (fits_at (Defers s c) is) (defers_may defers (LAST_SLOT + 1) w good i s c is) st.0 st.1 st.2)
  step_taken (Frees c) off v is st =
      let may = frees_may defers (LAST_SLOT + 1) w good i c is in
      let d = stored {R = Unregister × Advance Unit} w.memory (λ out. Now (c, Done tt)) (Slot c.slot HEAD) FREE st.0 st.1 st.2 in
      by_memory w.memory (with_word w.memory (Slot c.slot HEAD) FREE) v.memory (ap (λ (x : World T). x.memory) st.3 ∙ d.0)
      (written w.memory c.slot FREE may.0 (omega arith) (idle_some c.slot (fits_at (Frees c) is)))

-- So many slots were taken still.
module _ {T : Type 0} where
  pub taken_word_of : (m : Mem T) (s : ℕ) → is_taken m s ≡ true → (head : ℕ) × (word_at m (Slot s HEAD) ≡ Some head) × (0 < head)
  taken_word_of m s is = by (word_at m (Slot s HEAD)) refl
    where
      by : (o : Option ℕ) → word_at m (Slot s HEAD) ≡ o → (head : ℕ) × (word_at m (Slot s HEAD) ≡ Some head) × (0 < head)
      by None e = absurd (let none : words_of m (Slot s HEAD) ≡ 0 = grind (arith, e) in let no : nat_lt 0 (words_of m (Slot s HEAD)) ≡ false = ap (nat_lt 0) none in cc (is, no))
      by (Some a) e = (a, e, (let found = word_found m (Slot s HEAD) a e in let more : nat_lt 0 a ≡ true = sym (ap (nat_lt 0) found) ∙ is in grind (arith, more)))

  pub was_taken : (m : Mem T) (s head : ℕ) → word_at m (Slot s HEAD) ≡ Some head → 0 < head → is_taken m s ≡ true
  was_taken m s head is more = ap (nat_lt 0) (word_found m (Slot s HEAD) head is) ∙ (let x : nat_lt 0 head ≡ true = grind (arith, more) in x)

  never_taken : (m : Mem T) (s : ℕ) → ((head : ℕ) → word_at m (Slot s HEAD) ≡ Some head → head ≡ 0) → is_taken m s ≡ false
  never_taken m s none = by (word_at m (Slot s HEAD)) refl
    where
      by : (o : Option ℕ) → word_at m (Slot s HEAD) ≡ o → is_taken m s ≡ false
      by None e = (let z : words_of m (Slot s HEAD) ≡ 0 = grind (arith, e) in ap (nat_lt 0) z)
      by (Some a) e = ap (nat_lt 0) (word_found m (Slot s HEAD) a e ∙ none a e)

  not_taken_word : (m : Mem T) (s head : ℕ) → is_taken m s ≡ false → word_at m (Slot s HEAD) ≡ Some head → head ≡ 0
  not_taken_word m s head not is = (let no : nat_lt 0 head ≡ false = sym (ap (nat_lt 0) (word_found m (Slot s HEAD) head is)) ∙ not in grind (arith, no))

  -- slots are taken below a number, and not from there on
  abbrev pub TakenUpTo : Mem T → ℕ → Type 0
  TakenUpTo m k = ((s : ℕ) → s < k → is_taken m s ≡ true) × ((s : ℕ) → k ≤ s → is_taken m s ≡ false)

  pub up_to : (m : Mem T) (k : ℕ) → SlotsTaken m k → TakenUpTo m k
  up_to m k taken = (λ s l. (let t = taken.0 s l in was_taken m s t.0 t.1 t.2), λ s le. never_taken m s (λ head is. taken.1 s head le is))

  pub from_up_to : (m : Mem T) (k : ℕ) → TakenUpTo m k → SlotsTaken m k
  from_up_to m k up = (λ s l. taken_word_of m s (up.0 s l), λ s head le is. not_taken_word m s head (up.1 s le) is)

  pub slots_stay : (m m2 : Mem T) (k : ℕ) → KeepsTaken m m2 → SlotsTaken m k → SlotsTaken m2 k
  slots_stay m m2 k keeps taken = let up = up_to m k taken in from_up_to m2 k (λ s l. keeps s ∙ up.0 s l, λ s le. keeps s ∙ up.1 s le)
