-- The word that says of which batch a block is: no step of a row writes it, unless the row is to retire the block, or to take it.
use Rattle.std.specs.Prelude.{Option, Some, None, IsSome, Ok, if◌then◌else◌, ◌==◌, bit_or}
use Rattle.std.proofs.Common.{◌≡◌, ℕ, ◌+◌, ◌/◌, ◌%◌, ◌^◌, Bool, true, false, length, refl, arith, ap, sym, subst, ◌∙◌}
use Rattle.run_shows.specs.Given.SeizeWordsDeclared.at.At.{At}
use Rattle.run_shows.specs.Given.SeizeWordsDeclared.at.At.TheVariants as name
use Rattle.run_shows.specs.Given.SeizeWordsDeclared.block.Block.{Block}
use Rattle.run_shows.specs.Given.SeizeWordsOp.{Op, Out, Load, Store, Swap, Add, Or, Exchange, Make, Take, Rewrite, Room, Found, Exchanged, Roomed}
use Rattle.run_shows.specs.Given.SeizeWordsMem.{Mem, same_at, value_at, entry_in, word_at, block_of, with_word, with_block, Can, Took, after}
use Rattle.run_shows.specs.Given.SeizeWordsPlan.{Plan, Turn, Do, May, Steps, plan_as}
use Rattle.run_shows.proofs.Given.SeizeWordsOneOwner.AfterWrites.{word_at-with_word, word_at-with_value, block_of-with_block}
use Rattle.run_shows.specs.Given.SeizeDeclared.states.TheConstants.{FIRST, LAST_SLOT}
use Rattle.run_shows.specs.Given.SeizeDeclared.advance.Advance.{Advance}
use Rattle.run_shows.specs.Given.SeizeDeclared.advance.Advance.TheVariants as progress
use Rattle.run_shows.specs.Given.SeizeDeclared.rows.defer.Defer.{Defer}
use Rattle.run_shows.specs.Given.SeizeDeclared.rows.defer.Deferring.{Deferring}
use Rattle.run_shows.specs.Given.SeizeDeclared.rows.defer.Deferring.TheVariants as deferring
use Rattle.run_shows.specs.Given.SeizeDeclared.rows.leave.Leave.{Leave}
use Rattle.run_shows.specs.Given.SeizeDeclared.rows.leave.Leaving.{Leaving}
use Rattle.run_shows.specs.Given.SeizeDeclared.rows.leave.Leaving.TheVariants as leaving
use Rattle.run_shows.specs.Given.SeizeDeclared.rows.register.Register.{Register}
use Rattle.run_shows.specs.Given.SeizeDeclared.rows.register.Registering.{Registering}
use Rattle.run_shows.specs.Given.SeizeDeclared.rows.register.Registering.TheVariants as registering
use Rattle.run_shows.specs.Given.SeizeDeclared.rows.settle.Settle.{Settle}
use Rattle.run_shows.specs.Given.SeizeDeclared.rows.settle.Settled.{Settled}
use Rattle.run_shows.specs.Given.SeizeDeclared.rows.settle.Settled.TheVariants.{Goes, Waits, Gave, Done}
use Rattle.run_shows.specs.Given.SeizeDeclared.rows.settle.Settling.{Settling}
use Rattle.run_shows.specs.Given.SeizeDeclared.rows.settle.Settling.TheVariants as at
use Rattle.run_shows.specs.Given.SeizeDefer as defer
use Rattle.run_shows.specs.Given.SeizeEnter.{enter_plan, unregister_plan}
use Rattle.run_shows.specs.Given.SeizeLeave as leave
use Rattle.run_shows.specs.Given.SeizeRegister as register
use Rattle.run_shows.specs.Given.SeizeSettle.{settle_plan, plan_at}
use Rattle.run_shows.specs.Given.SeizeWorld.{World, Row, Rests, Registers, Enters, Settles, Leaves, Defers, Frees, Steps', settles_on, registers_on, defers_on}
use Rattle.run_shows.proofs.Given.SeizeMovesState.Ghost.{Life, IsPending, IsDoomed, State}
use Rattle.run_shows.proofs.Given.SeizeMovesMoves.Takes.{first_doomed}
use Rattle.run_shows.proofs.Given.SeizeMovesMoves.Tries.{first_pending}
use Rattle.run_shows.proofs.Given.SeizeRulePoints.Deferred.{next_left}
use Rattle.run_shows.proofs.Given.SeizeRulePoints.Known.{FitsAt, bare}
use Rattle.run_shows.proofs.Given.SeizeRuleRows.Known.{FitsLeave, FitsDefer, FitsRow}
use Rattle.run_shows.proofs.Given.SeizeMemoryWords.Named.{block_there}
use Rattle.run_shows.proofs.Given.SeizeMemoryWords.View.{view}
use Rattle.run_shows.proofs.Given.SeizeRuleWorld.Kept.{row_may}
use Rattle.run_shows.proofs.Given.SeizeAloneHistories.Reached.{Reached}
use Rattle.run_shows.proofs.Given.SeizeRulePoints.Retire.{of_link as named}

-- a name of no such word of this block
abbrev pub IsApart : ℕ → At → Type 0
IsApart b (name.Entry c i) = b ≡ c → i ≡ FIRST → ⊥
IsApart b _ = Unit {0}

module _ {T : Type 0} (b : ℕ) where
  -- the operation does not write it, and doesn't take the block
  abbrev pub IsOpApart : Op T → Type 0
  IsOpApart (Load at) = Unit {0}
  IsOpApart (Store at w) = IsApart b at
  IsOpApart (Swap at w) = IsApart b at
  IsOpApart (Add at w) = IsApart b at
  IsOpApart (Or at w) = IsApart b at
  IsOpApart (Exchange at old new) = IsApart b at
  IsOpApart (Make value words) = ⊥
  IsOpApart (Take c) = b ≡ c → ⊥
  IsOpApart (Rewrite c new) = Unit {0}
  IsOpApart (Room bucket) = Unit {0}

  abbrev pub IsPlanApart : {R : Type 0} → Plan T R → Type 0
  IsPlanApart (Turn rest) = Unit {0}
  IsPlanApart (Do op rest) = IsOpApart op

  apart_as : {A B : Type 0} (f : A → B) (plan : Plan T A) → IsPlanApart plan → IsPlanApart (plan_as f plan)
  apart_as f (Turn rest) q = tt
  apart_as f (Do op rest) q = q

  -- the word is as it was
  abbrev pub SameFirst : Mem T → Mem T → Type 0
  SameFirst m m2 = word_at m2 (name.Entry b FIRST) ≡ word_at m (name.Entry b FIRST)

  pub written : (m : Mem T) (at : At) (w : ℕ) → IsSome (word_at m at) → IsApart b at → SameFirst m (with_word m at w)
  written m (name.Root r) w some q = refl
  written m (name.Used r) w some q = refl
  written m (name.Slot s field) w some q = refl
  written m (name.Word c i) w some q = word_at-with_word m (name.Word c i) w (name.Entry b FIRST) some
  written m (name.Entry c i) w some q = by (same_at (name.Entry b FIRST) (name.Entry c i)) refl (word_at-with_word m (name.Entry c i) w (name.Entry b FIRST) some)
    where
      by : (z : Bool) → same_at (name.Entry b FIRST) (name.Entry c i) ≡ z
          → word_at (with_word m (name.Entry c i) w) (name.Entry b FIRST) ≡ (if z then Some w else word_at m (name.Entry b FIRST)) → SameFirst m (with_word m (name.Entry c i) w)
      by true z k = absurd (q (grind (arith, z)) (grind (arith, z)))
      by false z k = k

  taken : (m : Mem T) (c : ℕ) → IsSome (value_at m c) → (b ≡ c → ⊥) → SameFirst m (with_block m c None)
  taken m c some q = let x = block_there m c some in by (b == c) refl (block_of-with_block m c b x.0 None x.1)
    where
      by : (z : Bool) → (b == c) ≡ z → block_of (with_block m c None) b ≡ (if z then None else block_of m b) → SameFirst m (with_block m c None)
      by true z k = absurd (q (grind (arith, z)))
      by false z k = ap (λ (o : Option (Block T)). entry_in o FIRST) k

  pub op_apart : (m : Mem T) (op : Op T) (out : Out T) → IsOpApart op → Can m op → SameFirst m (after m op out)
  op_apart m (Load at) out q can = refl
  op_apart m (Store at w) out q can = written m at w can q
  op_apart m (Swap at w) out q can = written m at w can q
  op_apart m (Add at w) (Found a) q can = written m at ((a + w) % 2 ^ 64) can q
  op_apart m (Add at w) _ q can = refl
  op_apart m (Or at w) (Found a) q can = written m at (bit_or a w) can q
  op_apart m (Or at w) _ q can = refl
  op_apart m (Exchange at old new) (Exchanged (Ok a)) q can = written m at new can q
  op_apart m (Exchange at old new) _ q can = refl
  op_apart m (Make value words) out q can = absurd q
  op_apart m (Take c) out q can = taken m c can q
  op_apart m (Rewrite c new) out q can = word_at-with_value m c new (name.Entry b FIRST) can
  op_apart m (Room bucket) (Roomed (Ok a)) q can = refl
  op_apart m (Room bucket) _ q can = refl

  pub plan_apart : {R : Type 0} (m : Mem T) (plan : Plan T R) (m2 : Mem T) (end : R) → IsPlanApart plan → May Can Took value_at m plan → Steps Took value_at m plan m2 end → SameFirst m m2
  plan_apart m (Turn rest) m2 end q may s = ap (λ (k : Mem T). word_at k (name.Entry b FIRST)) s.0
  plan_apart m (Do op rest) m2 end q may s = ap (λ (k : Mem T). word_at k (name.Entry b FIRST)) s.1.1 ∙ op_apart m op s.0 q may.0

module _ {T : Type 0} (defers : T → Option ℕ) {size : ℕ} (w : World T) (r : Reached defers size w) (i : ℕ) (b : ℕ) (not_pending : r.good.state.life b ≡ IsPending i → ⊥)
    (not_doomed : r.good.state.life b ≡ IsDoomed i → ⊥) where
  abbrev n : ℕ
  n = LAST_SLOT + 1

  abbrev m : State
  m = r.good.state

  -- what is to be retired, or taken, is another block
  other : (d : ℕ) (l : Life) → m.life d ≡ l → (m.life b ≡ l → ⊥) → (v : ℕ) → v / 2048 ≡ d → b ≡ v / 2048 → ⊥
  other d l there ne v at e = ne (ap m.life (e ∙ at) ∙ there)

  settle_apart : (c : Settle) (p : Settling) → FitsAt n i (view defers w.memory) m r.good.extra (bare c) p → IsPlanApart b (plan_at defers c p)
  settle_apart c (at.Batches block) f =
      λ e k. other f.b (IsPending i) (first_pending n i m f.b f.bs r.good.inv f.putting.pending) not_pending block (named block f.b f.putting.block_is) e
  settle_apart c (at.Ends block) f = λ e k. absurd (omega (arith, k))
  settle_apart c (at.Appends block) f = λ e k. absurd (omega (arith, k))
  settle_apart c (at.Counts block) f = λ e k. absurd (omega (arith, k))
  settle_apart c (at.Marks slot block marks) f = λ e k. absurd (omega (arith, k))
  settle_apart c (at.Closes marks) f = λ e k. absurd (omega (arith, k))
  settle_apart c (at.Links block left pushed slot head) f = λ e k. absurd (omega (arith, k))
  settle_apart c (at.Sums pushed) f = λ e k. absurd (omega (arith, k))
  settle_apart c (at.Joins next more) f = λ e k. absurd (omega (arith, k))
  settle_apart c at.Puts f = λ e k. absurd (omega (arith, k))
  settle_apart c (at.Downs next batch) f = λ e k. absurd (omega (arith, k))
  settle_apart c (at.Takes next) f =
      other f.b (IsDoomed i) (first_doomed n i m f.b f.bs r.good.inv f.backs.left) not_doomed c.reclaiming
      (named c.reclaiming f.b (sym f.backs.common.lefts ∙ (next_left n i (view defers w.memory) m r.good.extra f.b f.bs r.good.shows f.backs.left).0))
  settle_apart c _ f = tt

  leave_apart : (c : Leave) (p : Leaving) → FitsLeave n i (view defers w.memory) m r.good.extra c.slot c.becomes c.frees p → IsPlanApart b (leave.plan_at defers c p)
  leave_apart c (leaving.Settles settle) f = apart_as b (leave.settled c) (settle_plan defers settle) (settle_apart settle settle.stands f.settles)
  leave_apart c _ f = tt

  defer_apart : (s : ℕ) (c : Defer) (p : Deferring) → FitsDefer n i (view defers w.memory) m r.good.extra s c.block c.table_word p → IsPlanApart b (defer.plan_at {T = T} c p)
  defer_apart s c (deferring.Links head) f = λ e k. absurd (omega (arith, k))
  defer_apart s c (deferring.Pushes head) f = subst (IsApart b) (sym f.on.at_is) tt
  defer_apart s c _ f = tt

  register_apart : (c : Register) (p : Registering) → IsPlanApart b (register.plan_at {T = T} c p)
  register_apart c registering.Begin = tt
  register_apart c registering.Look = tt
  register_apart c (registering.Widen bucket seen) = tt
  register_apart c (registering.Take seen) = tt
  register_apart c registering.Enter = tt
  register_apart c registering.Registered = tt
  register_apart c (registering.Refused fault) = tt

  fits : (row : Row) → w.row i ≡ row → FitsRow n i (view defers w.memory) m r.good.extra (length w.memory.slots) row
  fits row here = subst (λ (q : Row). FitsRow n i (view defers w.memory) m r.good.extra (length w.memory.slots) q) here (r.good.rows i)

  module _ (w2 : World T) where
    -- the memory that it came to
    settles_memory : (c d : Settle) (m2 : Mem T) (p : Settled T) → (settles_on w i c m2 (d, p)).memory ≡ m2
    settles_memory c d m2 Goes = refl
    settles_memory c d m2 Waits = refl
    settles_memory c d m2 (Gave value) = refl
    settles_memory c d m2 Done = refl

    registers_memory : (c d : Register) (m2 : Mem T) (p : Advance ℕ) → (registers_on w i c m2 (d, p)).memory ≡ m2
    registers_memory c d m2 progress.Goes = refl
    registers_memory c d m2 progress.Waits = refl
    registers_memory c d m2 (progress.Done s) = refl
    registers_memory c d m2 (progress.Refused fault) = refl

    defers_memory : (s : ℕ) (d : Defer) (m2 : Mem T) (p : Advance Unit) → (defers_on w i s m2 (d, p)).memory ≡ m2
    defers_memory s d m2 progress.Goes = refl
    defers_memory s d m2 progress.Waits = refl
    defers_memory s d m2 (progress.Done u) = refl
    defers_memory s d m2 (progress.Refused fault) = refl

    at_memory : (v : World T) (m2 : Mem T) → w2 ≡ v → v.memory ≡ m2 → SameFirst b w.memory m2 → SameFirst b w.memory w2.memory
    at_memory v m2 e there same = ap (λ (k : Mem T). word_at k (name.Entry b FIRST)) (ap (λ (u : World T). u.memory) e ∙ there) ∙ same

    by_row : (row : Row) → w.row i ≡ row → Steps' defers i row w w2 → SameFirst b w.memory w2.memory
    by_row Rests here h = absurd h
    by_row (Registers c) here h =
        at_memory _ h.0 h.3 (registers_memory c h.1.0 h.0 h.1.1)
        (plan_apart b w.memory (register.register_plan c) h.0 h.1 (register_apart c c.stands) (row_may defers n size refl w r.good i (Registers c) here) h.2)
    by_row (Enters c) here h = at_memory _ h.0 h.3 refl (plan_apart b w.memory (enter_plan c) h.0 h.1 tt (row_may defers n size refl w r.good i (Enters c) here) h.2)
    by_row (Settles c) here h =
        at_memory _ h.0 h.3 (settles_memory c h.1.0 h.0 h.1.1)
        (plan_apart b w.memory (settle_plan defers c) h.0 h.1 (settle_apart c c.stands (fits (Settles c) here)) (row_may defers n size refl w r.good i (Settles c) here) h.2)
    by_row (Leaves c) here h =
        at_memory _ h.0 h.3 refl
        (plan_apart b w.memory (leave.leave_plan defers c) h.0 h.1 (leave_apart c c.stands (fits (Leaves c) here)) (row_may defers n size refl w r.good i (Leaves c) here) h.2)
    by_row (Defers s c) here h =
        at_memory _ h.0 h.3 (defers_memory s h.1.0 h.0 h.1.1)
        (plan_apart b w.memory (defer.defer_plan c) h.0 h.1 (defer_apart s c c.stands (fits (Defers s c) here)) (row_may defers n size refl w r.good i (Defers s c) here) h.2)
    by_row (Frees c) here h = at_memory _ h.0 h.3 refl (plan_apart b w.memory (unregister_plan c) h.0 h.1 tt (row_may defers n size refl w r.good i (Frees c) here) h.2)

    -- a step of a row
    pub row_keeps_first : Steps' defers i (w.row i) w w2 → SameFirst b w.memory w2.memory
    row_keeps_first step = by_row (w.row i) refl step
