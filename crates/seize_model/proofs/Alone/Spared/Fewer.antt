-- A row makes no block, and with each block that it takes there is one less.
use Rattle.std.specs.Prelude.{Option, Some, None, IsSome, Ok, Err, if◌then◌else◌, ◌==◌, slice_index_or, slice_set, bit_or}
use Rattle.std.proofs.Common.{◌≡◌, ℕ, zero, suc, ◌+◌, ◌-◌, ◌%◌, ◌^◌, ◌<◌, ◌≤◌, Bool, true, false, List, [], ◌∷◌, refl, arith, ap, sym, subst}
use Rattle.seize.specs.Given.SeizeWordsDeclared.at.At.{At}
use Rattle.seize.specs.Given.SeizeWordsDeclared.at.At.TheVariants as name
use Rattle.seize.specs.Given.SeizeWordsDeclared.block.Block.{Block}
use Rattle.seize.specs.Given.SeizeWordsOp.{Op, Out, Load, Store, Swap, Add, Or, Exchange, Make, Take, Rewrite, Room, Found, Stored, Exchanged, Made, Taken, Roomed}
use Rattle.seize.specs.Given.SeizeWordsMem.{Mem, value_at, value_in, entry_in, word_in, word_at, with_word, with_entry, with_word_in, with_block, Can, Took, Gives, after}
use Rattle.seize.specs.Given.SeizeWordsPlan.{Plan, Turn, Do, May, Steps}
use Rattle.seize_model.specs.Alone.Alone.{number_of, blocks_in}
use Rattle.seize_rule.proofs.Words.Kept.{IsQuiet, IsQuietPlan}

module _ {X : Type 0} where
  set_some : (l : List (Option X)) (i : ℕ) (x y : X) → slice_index_or l i None ≡ Some x → number_of (slice_set l i (Some y)) ≡ number_of l
  set_some [] i x y e = absurd (cc e)
  set_some (None ∷ l) zero x y e = absurd (cc e)
  set_some (Some z ∷ l) zero x y e = refl
  set_some (None ∷ l) (suc i) x y e = set_some l i x y e
  set_some (Some z ∷ l) (suc i) x y e = ap suc (set_some l i x y e)

  set_none : (l : List (Option X)) (i : ℕ) (x : X) → slice_index_or l i None ≡ Some x → suc (number_of (slice_set l i None)) ≡ number_of l
  set_none [] i x e = absurd (cc e)
  set_none (None ∷ l) zero x e = absurd (cc e)
  set_none (Some z ∷ l) zero x e = refl
  set_none (None ∷ l) (suc i) x e = set_none l i x e
  set_none (Some z ∷ l) (suc i) x e = ap suc (set_none l i x e)

module _ {T : Type 0} (mem : Mem T) where
  entry_same : (b i w : ℕ) (t : Bool) (o : Option (Block T)) → slice_index_or mem.blocks (b - 1) None ≡ o → IsSome (entry_in (if t then None else o) i)
      → number_of (slice_set mem.blocks (b - 1) (with_entry (if t then None else o) i w)) ≡ number_of mem.blocks
  entry_same b i w true o e some = absurd (cc some)
  entry_same b i w false None e some = absurd (cc some)
  entry_same b i w false (Some x) e some = set_some mem.blocks (b - 1) x _ e

  word_same : (b i w : ℕ) (t : Bool) (o : Option (Block T)) → slice_index_or mem.blocks (b - 1) None ≡ o → IsSome (word_in (if t then None else o) i)
      → number_of (slice_set mem.blocks (b - 1) (with_word_in (if t then None else o) i w)) ≡ number_of mem.blocks
  word_same b i w true o e some = absurd (cc some)
  word_same b i w false None e some = absurd (cc some)
  word_same b i w false (Some x) e some = set_some mem.blocks (b - 1) x _ e

  pub take_fewer : (b : ℕ) → IsSome (value_at mem b) → blocks_in (with_block mem b None) < blocks_in mem
  take_fewer b some = by (b == 0) (slice_index_or mem.blocks (b - 1) None) refl some
    where
      by : (t : Bool) (o : Option (Block T)) → slice_index_or mem.blocks (b - 1) None ≡ o → IsSome (value_in (if t then None else o)) → number_of (slice_set mem.blocks (b - 1) None) < number_of mem.blocks
      by true o e h = absurd (cc h)
      by false None e h = absurd (cc h)
      by false (Some x) e h = let k = set_none mem.blocks (b - 1) x e in omega (arith, k)

  -- no more blocks
  abbrev NoMore : Mem T → Type 0
  NoMore mem2 = blocks_in mem2 ≤ blocks_in mem

  equal : (a : ℕ) → a ≡ blocks_in mem → a ≤ blocks_in mem
  equal a e = omega (arith, e)

  written : (at : At) (w : ℕ) → IsSome (word_at mem at) → NoMore (with_word mem at w)
  written (name.Root r) w some = omega arith
  written (name.Used r) w some = omega arith
  written (name.Slot s i) w some = omega arith
  written (name.Entry b i) w some = equal (blocks_in (with_word mem (name.Entry b i) w)) (entry_same b i w (b == 0) (slice_index_or mem.blocks (b - 1) None) refl some)
  written (name.Word b i) w some = equal (blocks_in (with_word mem (name.Word b i) w)) (word_same b i w (b == 0) (slice_index_or mem.blocks (b - 1) None) refl some)

  op_fewer : (op : Op T) (out : Out T) → IsQuiet op → Can mem op → Gives mem op out → NoMore (after mem op out)
  op_fewer (Load at) out q can g = omega arith
  op_fewer (Store at w) out q can g = written at w can
  op_fewer (Swap at w) out q can g = written at w can
  op_fewer (Add at w) (Found a) q can g = written at ((a + w) % 2 ^ 64) can
  op_fewer (Add at w) Stored q can g = absurd g
  op_fewer (Add at w) (Exchanged (Ok a)) q can g = absurd g
  op_fewer (Add at w) (Exchanged (Err a)) q can g = absurd g
  op_fewer (Add at w) (Made (Ok a)) q can g = absurd g
  op_fewer (Add at w) (Made (Err a)) q can g = absurd g
  op_fewer (Add at w) (Taken a) q can g = absurd g
  op_fewer (Add at w) (Roomed (Ok a)) q can g = absurd g
  op_fewer (Add at w) (Roomed (Err a)) q can g = absurd g
  op_fewer (Or at w) (Found a) q can g = written at (bit_or a w) can
  op_fewer (Or at w) Stored q can g = absurd g
  op_fewer (Or at w) (Exchanged (Ok a)) q can g = absurd g
  op_fewer (Or at w) (Exchanged (Err a)) q can g = absurd g
  op_fewer (Or at w) (Made (Ok a)) q can g = absurd g
  op_fewer (Or at w) (Made (Err a)) q can g = absurd g
  op_fewer (Or at w) (Taken a) q can g = absurd g
  op_fewer (Or at w) (Roomed (Ok a)) q can g = absurd g
  op_fewer (Or at w) (Roomed (Err a)) q can g = absurd g
  op_fewer (Exchange at old new) (Exchanged (Ok a)) q can g = written at new can
  op_fewer (Exchange at old new) (Exchanged (Err a)) q can g = omega arith
  op_fewer (Exchange at old new) (Found a) q can g = absurd g
  op_fewer (Exchange at old new) Stored q can g = absurd g
  op_fewer (Exchange at old new) (Made (Ok a)) q can g = absurd g
  op_fewer (Exchange at old new) (Made (Err a)) q can g = absurd g
  op_fewer (Exchange at old new) (Taken a) q can g = absurd g
  op_fewer (Exchange at old new) (Roomed (Ok a)) q can g = absurd g
  op_fewer (Exchange at old new) (Roomed (Err a)) q can g = absurd g
  op_fewer (Take b) out q can g = let k = take_fewer b can in omega (arith, k)
  op_fewer (Make value words) out q can g = absurd q
  op_fewer (Rewrite b new) out q can g = absurd q
  op_fewer (Room bucket) out q can g = absurd q

  pub plan_fewer : {R : Type 0} (plan : Plan T R) (mem2 : Mem T) (end : R) → IsQuietPlan plan → May Can Took value_at mem plan → Steps Took value_at mem plan mem2 end → blocks_in mem2 ≤ blocks_in mem
  plan_fewer (Turn rest) mem2 end q may s = subst (λ (k : Mem T). NoMore k) (sym s.0) (omega arith)
  plan_fewer (Do op rest) mem2 end q may s = subst (λ (k : Mem T). NoMore k) (sym s.1.1) (op_fewer op s.0 q may.0 s.1.0)
