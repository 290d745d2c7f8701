-- The value of a block stays the same until the block is reclaimed, whatever a row does.
use Rattle.std.specs.Prelude.{Option, Some, None, IsSome, Ok, Err, bit_or}
use Rattle.std.proofs.Common.{◌≡◌, ℕ, ◌+◌, ◌%◌, ◌^◌, Bool, true, false, cond, eqb, ap, sym, subst, ◌∙◌}
use Rattle.seize.specs.Given.SeizeWordsDeclared.at.At.{At}
use Rattle.seize.specs.Given.SeizeWordsOp.{Op, Out, Load, Store, Swap, Add, Or, Exchange, Make, Take, Rewrite, Room, Found, Stored, Exchanged, Made, Taken, Roomed}
use Rattle.seize.specs.Given.SeizeWordsMem.{Mem, value_at, word_at, with_word, with_block, Can, Took, Gives, after}
use Rattle.seize.specs.Given.SeizeWordsPlan.{Plan, Turn, Do, May, Steps}
use Rattle.seize_rule.proofs.Given.SeizeMemoryWords.Named.{wrote, taken_one}
use Rattle.seize_rule.proofs.Words.Kept.{IsQuiet, IsQuietPlan}

module _ {T : Type 0} where
  -- the blocks that are there have the values that they had
  abbrev pub Keeps : Mem T → Mem T → Type 0
  Keeps mem mem2 = (b : ℕ) (v : T) → value_at mem2 b ≡ Some v → value_at mem b ≡ Some v

  pub keeps_twice : (mem mem2 mem3 : Mem T) → Keeps mem mem2 → Keeps mem2 mem3 → Keeps mem mem3
  keeps_twice mem mem2 mem3 h k = λ b v e. h b v (k b v e)

module _ {T : Type 0} (mem : Mem T) where
  keeps_written : (name : At) (w : ℕ) → IsSome (word_at mem name) → Keeps mem (with_word mem name w)
  keeps_written name w some = λ b v e. ap (λ (values : ℕ → Option T). values b) (sym (wrote mem name w some).values) ∙ e

  keeps_taken : (c : ℕ) → IsSome (value_at mem c) → Keeps mem (with_block mem c None)
  keeps_taken c some = λ b v e. one b v (eqb b c) (ap (λ (values : ℕ → Option T). values b) (sym (taken_one mem c some).values) ∙ e)
    where
      one : (b : ℕ) (v : T) (z : Bool) → cond z None (value_at mem b) ≡ Some v → value_at mem b ≡ Some v
      one b v true e = absurd (cc e)
      one b v false e = e

  op_keeps : (op : Op T) (out : Out T) → IsQuiet op → Can mem op → Gives mem op out → Keeps mem (after mem op out)
  op_keeps (Load name) out q can g = λ b v e. e
  op_keeps (Store name w) out q can g = keeps_written name w can
  op_keeps (Swap name w) out q can g = keeps_written name w can
  op_keeps (Add name w) (Found a) q can g = keeps_written name ((a + w) % 2 ^ 64) can
  op_keeps (Add name w) Stored q can g = absurd g
  op_keeps (Add name w) (Exchanged (Ok a)) q can g = absurd g
  op_keeps (Add name w) (Exchanged (Err a)) q can g = absurd g
  op_keeps (Add name w) (Made (Ok a)) q can g = absurd g
  op_keeps (Add name w) (Made (Err a)) q can g = absurd g
  op_keeps (Add name w) (Taken a) q can g = absurd g
  op_keeps (Add name w) (Roomed (Ok a)) q can g = absurd g
  op_keeps (Add name w) (Roomed (Err a)) q can g = absurd g
  op_keeps (Or name w) (Found a) q can g = keeps_written name (bit_or a w) can
  op_keeps (Or name w) Stored q can g = absurd g
  op_keeps (Or name w) (Exchanged (Ok a)) q can g = absurd g
  op_keeps (Or name w) (Exchanged (Err a)) q can g = absurd g
  op_keeps (Or name w) (Made (Ok a)) q can g = absurd g
  op_keeps (Or name w) (Made (Err a)) q can g = absurd g
  op_keeps (Or name w) (Taken a) q can g = absurd g
  op_keeps (Or name w) (Roomed (Ok a)) q can g = absurd g
  op_keeps (Or name w) (Roomed (Err a)) q can g = absurd g
  op_keeps (Exchange name old new) (Exchanged (Ok a)) q can g = keeps_written name new can
  op_keeps (Exchange name old new) (Exchanged (Err a)) q can g = λ b v e. e
  op_keeps (Exchange name old new) (Found a) q can g = absurd g
  op_keeps (Exchange name old new) Stored q can g = absurd g
  op_keeps (Exchange name old new) (Made (Ok a)) q can g = absurd g
  op_keeps (Exchange name old new) (Made (Err a)) q can g = absurd g
  op_keeps (Exchange name old new) (Taken a) q can g = absurd g
  op_keeps (Exchange name old new) (Roomed (Ok a)) q can g = absurd g
  op_keeps (Exchange name old new) (Roomed (Err a)) q can g = absurd g
  op_keeps (Take b) out q can g = keeps_taken b can
  op_keeps (Make value words) out q can g = absurd q
  op_keeps (Rewrite b new) out q can g = absurd q
  op_keeps (Room bucket) out q can g = absurd q

  pub plan_keeps : {R : Type 0} (plan : Plan T R) (mem2 : Mem T) (end : R) → IsQuietPlan plan → May Can Took value_at mem plan → Steps Took value_at mem plan mem2 end → Keeps mem mem2
  plan_keeps (Turn rest) mem2 end q may s = subst (λ (k : Mem T). Keeps mem k) (sym s.0) (λ b v e. e)
  plan_keeps (Do op rest) mem2 end q may s = subst (λ (k : Mem T). Keeps mem k) (sym s.1.1) (op_keeps op s.0 q may.0 s.1.0)
