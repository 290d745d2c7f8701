-- A slot that can be taken stays as it is with each step of a row, or is taken by it.
use Rattle.std.specs.Prelude.{Option, IsSome, Ok, ◌&&◌, not}
use Rattle.std.proofs.Common.{◌≡◌, ℕ, ◌+◌, ◌<◌, Bool, true, false, eqb, eqb-true, length, ◌⊎◌, inl, inr, refl, arith, ap, sym, subst, ◌∙◌}
use Rattle.seize_words.specs.declared.at.At.TheVariants.{Slot}
use Rattle.seize_words.specs.OneMemory.Mem.{Mem, Can, Took, after, value_at, word_at, with_word}
use Rattle.seize_words.specs.OneMemory.Op.{Out, Room, Roomed}
use Rattle.seize_words.specs.OneMemory.Plan.{Plan, Steps, May, Now}
use Rattle.seize_words.proofs.OneMemory.OneOwner.Operations.{stored, swapped, exchanged}
use Rattle.seize.specs.declared.states.TheConstants.{HEAD, FREE, IDLE, ACTIVE, LAST_SLOT}
use Rattle.seize.specs.declared.advance.Advance.{Advance}
use Rattle.seize.specs.declared.advance.Advance.TheVariants.{Done}
use Rattle.seize.specs.declared.rows.settle.Settle.{Settle}
use Rattle.seize.specs.declared.rows.settle.Settling.{Settling}
use Rattle.seize.specs.declared.rows.settle.Settling.TheVariants as settling
use Rattle.seize.specs.declared.rows.settle.Settled.{Settled}
use Rattle.seize.specs.declared.rows.settle.Settled.TheVariants as settled
use Rattle.seize.specs.declared.rows.leave.Leave.{Leave}
use Rattle.seize.specs.declared.rows.leave.Leaving.{Leaving}
use Rattle.seize.specs.declared.rows.leave.Leaving.TheVariants as leaving
use Rattle.seize.specs.declared.rows.register.Register.{Register}
use Rattle.seize.specs.declared.rows.register.Registering.{Registering}
use Rattle.seize.specs.declared.rows.register.Registering.TheVariants as registering
use Rattle.seize.specs.declared.rows.enter.Enter.{Enter}
use Rattle.seize.specs.declared.rows.enter.Unregister.{Unregister}
use Rattle.seize.specs.declared.rows.defer.Defer.{Defer}
use Rattle.seize.specs.declared.rows.defer.Deferring.{Deferring}
use Rattle.seize.specs.declared.rows.defer.Deferring.TheVariants as deferring
use Rattle.seize.specs.Settle as settles
use Rattle.seize.specs.Settle.{settle_plan}
use Rattle.seize.specs.Leave as leaves
use Rattle.seize.specs.Leave.{list_taken, standing}
use Rattle.seize.specs.Register as registers
use Rattle.seize.specs.Register.{can_be_taken}
use Rattle.seize.specs.Defer as defer
use Rattle.seize.specs.World.{World, Row, Rests, Registers, Enters, Settles, Leaves, Defers, Frees, Steps'}
use Rattle.seize_model.proofs.Given.SeizeMovesState.Ghost.{Head, Idle}
use Rattle.seize_model.proofs.Given.SeizeMemoryWords.Named.{words_of, wrote, word_found, write_here, write_apart}
use Rattle.seize_model.proofs.Given.SeizeMemoryWords.View.{View, view}
use Rattle.seize_model.proofs.Given.SeizeMemoryWords.Shows.{HeadIs}
use Rattle.seize_model.proofs.Given.SeizeRuleWords.Kept.{IsQuietPlan, settle_quiet}
use Rattle.seize_model.proofs.Given.SeizeRulePoints.Known.{FitsAt, Fits, bare}
use Rattle.seize_model.proofs.Given.SeizeRulePoints.May.{may_at}
use Rattle.seize_model.proofs.Given.SeizeRuleRows.Known.{OnSlot, FitsRow, FitsLeave, FitsDefer, word_of}
use Rattle.seize_model.proofs.Given.SeizeRuleRows.Leave.{leaves_may}
use Rattle.seize_model.proofs.Given.SeizeRuleRows.Leaving.{steps_back}
use Rattle.seize_model.proofs.Given.SeizeRuleRows.Register.{room_view, registers_may}
use Rattle.seize_model.proofs.Given.SeizeRuleRows.Slots.{idle_head, enters_may, frees_may}
use Rattle.seize_model.proofs.Given.SeizeRuleRows.Deferring.{defers_may}
use Rattle.seize_model.proofs.Given.SeizeRuleWorld.Good.{Good}
use Rattle.seize_model.proofs.Given.SeizeRuleWorld.Start.{words_good}
use Rattle.seize_model.proofs.Ends.Batches.Free.{is_field, spares_plan, plan_same}
use Rattle.seize_model.proofs.Ends.Batches.Rows.{registers_memory, settles_memory, defers_memory}

module _ {T : Type 0} where
  -- each slot that can be taken is as it was, or it is taken
  abbrev pub TakenOrSame : Mem T → Mem T → Type 0
  TakenOrSame m m2 =
      (s : ℕ) → can_be_taken (words_of m (Slot s HEAD)) ≡ true
      → (words_of m2 (Slot s HEAD) ≡ words_of m (Slot s HEAD)) ⊎ (can_be_taken (words_of m2 (Slot s HEAD)) ≡ false)

  pub same_heads : (m m2 : Mem T) → ((s : ℕ) → words_of m2 (Slot s HEAD) ≡ words_of m (Slot s HEAD)) → TakenOrSame m m2
  same_heads m m2 same s free = inl (same s)

  pub by_memory : (m m2 m3 : Mem T) → m3 ≡ m2 → TakenOrSame m m2 → TakenOrSame m m3
  by_memory m m2 m3 is h = subst (λ (k : Mem T). TakenOrSame m k) (sym is) h

  pub no_change : (m m2 : Mem T) → m2 ≡ m → TakenOrSame m m2
  no_change m m2 is = by_memory m m m2 is (same_heads m m (λ s. refl))

  -- a head is written: the new one can't be taken, or the old one couldn't
  module _ (m : Mem T) (t v : ℕ) (some : IsSome (word_at m (Slot t HEAD))) where
    abbrev m2 : Mem T
    m2 = with_word m (Slot t HEAD) v

    now : words_of m2 (Slot t HEAD) ≡ v
    now = ap (λ w. w (Slot t HEAD)) (wrote m (Slot t HEAD) v some).words ∙ write_here (words_of m) (Slot t HEAD) v

    off : (y : Bool) → y ≡ false → (y && true) ≡ false
    off true e = absurd (cc e)
    off false e = refl

    abbrev At : ℕ → Type 0
    At s = (words_of m2 (Slot s HEAD) ≡ words_of m (Slot s HEAD)) ⊎ (can_be_taken (words_of m2 (Slot s HEAD)) ≡ false)

    here : (s : ℕ) → can_be_taken (words_of m (Slot s HEAD)) ≡ true → s ≡ t
        → (can_be_taken v ≡ false) ⊎ (can_be_taken (words_of m (Slot t HEAD)) ≡ false) → At s
    here s free is (inl taken) = inr (ap (λ k. can_be_taken (words_of m2 (Slot k HEAD))) is ∙ ap can_be_taken now ∙ taken)
    here s free is (inr had) = absurd (let f = sym free ∙ ap (λ k. can_be_taken (words_of m (Slot k HEAD))) is ∙ had in cc f)

    written : (can_be_taken v ≡ false) ⊎ (can_be_taken (words_of m (Slot t HEAD)) ≡ false) → TakenOrSame m m2
    written why s free = by (eqb s t) refl
      where
        by : (y : Bool) → eqb s t ≡ y → At s
        by true e = here s free (eqb-true s t e) why
        by false e =
            inl (ap (λ w. w (Slot s HEAD)) (wrote m (Slot t HEAD) v some).words ∙ write_apart (words_of m) (Slot t HEAD) v (Slot s HEAD) (off (eqb s t) e))

high_taken : (v : ℕ) → 2 < v → can_be_taken v ≡ false
high_taken v l = grind (arith, l)

becomes_taken : (again : Bool) → can_be_taken (word_of again) ≡ false
becomes_taken true = refl
becomes_taken false = refl

module _ {T : Type 0} {size : ℕ} (defers : T → Option ℕ) (w : World T) (good : Good defers (LAST_SLOT + 1) size w) (i : ℕ) where
  spared : {R : Type 0} (plan : Plan T R) (m2 : Mem T) (end : R) → IsQuietPlan plan → spares_plan HEAD plan ≡ true → May Can Took value_at w.memory plan
      → Steps Took value_at w.memory plan m2 end → TakenOrSame w.memory m2
  spared plan m2 end q h may st = same_heads w.memory m2 (λ s. plan_same w.memory s HEAD plan m2 end q h may st)

  -- a slot that is idle can't be taken
  idle_had : (s : ℕ) → OnSlot (LAST_SLOT + 1) i good.state good.extra s Idle → can_be_taken (words_of w.memory (Slot s HEAD)) ≡ false
  idle_had s r = ap can_be_taken two
    where
      two : words_of w.memory (Slot s HEAD) ≡ 2
      two =
          subst (λ (h : Head). HeadIs (view defers w.memory).links ((view defers w.memory).heads s) h) (idle_head (good.state.head s) r.head)
          (good.shows.entries.headed s)

  room_heads : (bucket : ℕ) (out : Out T) → TakenOrSame w.memory (after w.memory (Room bucket) out)
  room_heads bucket (Roomed (Ok made)) =
      same_heads w.memory (after w.memory (Room bucket) (Roomed (Ok made))) (λ s. ap (λ (g : View). g.heads s) (room_view defers w.memory bucket))
  room_heads bucket _ = same_heads w.memory w.memory (λ s. refl)

  register_heads : (c : Register) (p : Registering) → May Can Took value_at w.memory (registers.plan_at c p) → (m2 : Mem T) (end : Register × Advance ℕ)
      → Steps Took value_at w.memory (registers.plan_at c p) m2 end → TakenOrSame w.memory m2
  register_heads c registering.Begin may m2 end st = by_memory w.memory (after w.memory (Room 0) st.0) m2 st.1.1 (room_heads 0 st.0)
  register_heads c registering.Look may m2 end st = spared (registers.plan_at c registering.Look) m2 end tt refl may st
  register_heads c (registering.Widen bucket seen) may m2 end st = by_memory w.memory (after w.memory (Room bucket) st.0) m2 st.1.1 (room_heads bucket st.0)
  register_heads c (registering.Take seen) may m2 end st =
      elim (exchanged w.memory (registers.taken c) (Slot c.slot HEAD) seen IDLE m2 end st) as (λ _. TakenOrSame w.memory m2) [
        | inl d ↦ by_memory w.memory (with_word w.memory (Slot c.slot HEAD) IDLE) m2 d.2 (written w.memory c.slot IDLE may.0 (inl refl))
        | inr d ↦ no_change w.memory m2 d.2
      ]
  register_heads c registering.Enter may m2 end st =
      let d = stored {R = Register × Advance ℕ} w.memory (λ out. Now (registers.registered c)) (Slot c.slot HEAD) ACTIVE m2 end st in
      by_memory w.memory (with_word w.memory (Slot c.slot HEAD) ACTIVE) m2 d.0 (written w.memory c.slot ACTIVE may.0 (inl refl))
  register_heads c registering.Registered may m2 end st = no_change w.memory m2 st.0
  register_heads c (registering.Refused fault) may m2 end st = no_change w.memory m2 st.0

  settle_at : (c : Settle) (p : Settling) → FitsAt (LAST_SLOT + 1) i (view defers w.memory) good.state good.extra (bare c) p
      → May Can Took value_at w.memory (settles.plan_at defers c p)
      → (m2 : Mem T) (end : Settle × Settled T) → Steps Took value_at w.memory (settles.plan_at defers c p) m2 end → TakenOrSame w.memory m2
  settle_at c (settling.Pushes block left pushed slot head) r may m2 end st =
      elim (exchanged w.memory (settles.after_push c block left pushed slot) (Slot slot HEAD) head block m2 end st) as (λ _. TakenOrSame w.memory m2) [
        | inl d ↦ by_memory w.memory (with_word w.memory (Slot slot HEAD) block) m2 d.2
            (written w.memory slot block may.0
            (inr (ap can_be_taken (word_found w.memory (Slot slot HEAD) d.0 d.1.0 ∙ d.1.1) ∙ high_taken head r.links.active)))
        | inr d ↦ no_change w.memory m2 d.2
      ]
  settle_at c p r may m2 end st = spared (settles.plan_at defers c p) m2 end (settle_quiet defers c p) refl may st

  settle_heads : (c : Settle) → Fits (LAST_SLOT + 1) i (view defers w.memory) good.state good.extra c → (m2 : Mem T) (end : Settle × Settled T)
      → Steps Took value_at w.memory (settle_plan defers c) m2 end → TakenOrSame w.memory m2
  settle_heads c r m2 end st =
      settle_at c c.stands r
      (may_at defers (LAST_SLOT + 1) i w.memory good.state good.extra c good.inv good.shows (words_good defers (LAST_SLOT + 1) w good) c.stands r) m2 end st

  leave_heads : (c : Leave) (p : Leaving) → FitsLeave (LAST_SLOT + 1) i (view defers w.memory) good.state good.extra c.slot c.becomes c.frees p
      → May Can Took value_at w.memory (leaves.plan_at defers c p) → (m2 : Mem T) (end : Leave × Settled T)
      → Steps Took value_at w.memory (leaves.plan_at defers c p) m2 end
      → TakenOrSame w.memory m2
  leave_heads c leaving.Swaps r may m2 end st =
      let d = swapped w.memory (list_taken c) (Slot c.slot HEAD) c.becomes m2 end st in
      by_memory w.memory (with_word w.memory (Slot c.slot HEAD) c.becomes) m2 d.2
      (written w.memory c.slot c.becomes may.0 (inl (ap can_be_taken r.ends.word ∙ becomes_taken r.again)))
  leave_heads c (leaving.Settles settle) r may m2 end st =
      let b = steps_back (leaves.settled c) w.memory m2 (settle_plan defers settle) end st in settle_heads settle r.settles m2 b.0 b.1
  leave_heads c leaving.Frees r may m2 end st =
      let d = stored {R = Leave × Settled T} w.memory (λ out. Now (standing c leaving.Over, settled.Goes)) (Slot c.slot HEAD) FREE m2 end st in
      by_memory w.memory (with_word w.memory (Slot c.slot HEAD) FREE) m2 d.0 (written w.memory c.slot FREE may.0 (inr (idle_had c.slot r.on)))
  leave_heads c leaving.Over r may m2 end st = no_change w.memory m2 st.0

  defer_heads : (s : ℕ) (c : Defer) (p : Deferring) → FitsDefer (LAST_SLOT + 1) i (view defers w.memory) good.state good.extra s c.block c.table_word p
      → May Can Took value_at w.memory (defer.plan_at c p) → (m2 : Mem T) (end : Defer × Advance Unit)
      → Steps Took value_at w.memory (defer.plan_at c p) m2 end
      → TakenOrSame w.memory m2
  defer_heads s c deferring.Reads r may m2 end st = spared (defer.plan_at c deferring.Reads) m2 end tt refl may st
  defer_heads s c (deferring.Links head) r may m2 end st = spared (defer.plan_at c (deferring.Links head)) m2 end tt refl may st
  defer_heads s c (deferring.Pushes head) r may m2 end st =
      spared (defer.plan_at c (deferring.Pushes head)) m2 end tt (ap (λ at. not (is_field HEAD at)) r.on.at_is) may st
  defer_heads s c deferring.Over r may m2 end st = no_change w.memory m2 st.0

  fits_at : (row : Row) → w.row i ≡ row → FitsRow (LAST_SLOT + 1) i (view defers w.memory) good.state good.extra (length w.memory.slots) row
  fits_at row is = subst (λ (r : Row). FitsRow (LAST_SLOT + 1) i (view defers w.memory) good.state good.extra (length w.memory.slots) r) is (good.rows i)

  pub step_heads : (row : Row) (v : World T) → w.row i ≡ row → Steps' defers i row w v → TakenOrSame w.memory v.memory
  step_heads Rests v is st = absurd st
  step_heads (Registers c) v is st =
      by_memory w.memory st.0 v.memory (ap (λ (x : World T). x.memory) st.3 ∙ registers_memory w i st.0 c st.1.0 st.1.1)
      (register_heads c c.stands (registers_may defers (LAST_SLOT + 1) refl w good i c is) st.0 st.1 st.2)
  step_heads (Enters c) v is st =
      let may = enters_may defers (LAST_SLOT + 1) w good i c is in
      let d = stored {R = Enter × Advance Unit} w.memory (λ out. Now (c, Done tt)) (Slot c.slot HEAD) ACTIVE st.0 st.1 st.2 in
      by_memory w.memory (with_word w.memory (Slot c.slot HEAD) ACTIVE) v.memory (ap (λ (x : World T). x.memory) st.3 ∙ d.0)
      (written w.memory c.slot ACTIVE may.0 (inl refl))
  step_heads (Settles c) v is st =
      by_memory w.memory st.0 v.memory (ap (λ (x : World T). x.memory) st.3 ∙ settles_memory w i st.0 c st.1.0 st.1.1)
      (settle_heads c (fits_at (Settles c) is) st.0 st.1 st.2)
  step_heads (Leaves c) v is st =
      by_memory w.memory st.0 v.memory (ap (λ (x : World T). x.memory) st.3)
      (leave_heads c c.stands (fits_at (Leaves c) is) (leaves_may defers (LAST_SLOT + 1) refl w good i c is) st.0 st.1 st.2)
  step_heads (Defers s c) v is st =
      by_memory w.memory st.0 v.memory (ap (λ (x : World T). x.memory) st.3 ∙ defers_memory w i st.0 s st.1.0 st.1.1)
      (defer_heads s c c.stands (fits_at (Defers s c) is) (defers_may defers (LAST_SLOT + 1) w good i s c is) st.0 st.1 st.2)
  step_heads (Frees c) v is st =
      let may = frees_may defers (LAST_SLOT + 1) w good i c is in
      let d = stored {R = Unregister × Advance Unit} w.memory (λ out. Now (c, Done tt)) (Slot c.slot HEAD) FREE st.0 st.1 st.2 in
      by_memory w.memory (with_word w.memory (Slot c.slot HEAD) FREE) v.memory (ap (λ (x : World T). x.memory) st.3 ∙ d.0)
      (written w.memory c.slot FREE may.0 (inr (idle_had c.slot (fits_at (Frees c) is))))
