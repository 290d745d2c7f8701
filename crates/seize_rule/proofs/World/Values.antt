-- What an operation of a user leaves of a block's value.
use Rattle.std.specs.Prelude.{Option, Some, None, IsSome, Ok, Err, bit_or, if◌then◌else◌}
use Rattle.std.proofs.Common.{◌≡◌, ℕ, ◌+◌, ◌%◌, ◌^◌, cond, eqb, refl, ap, ◌∙◌}
use Rattle.std.proofs.lemmas.Bool.{ne_eqb}
use Rattle.seize_moves.specs.Given.SeizeWordsDeclared.at.At.{At}
use Rattle.seize_moves.specs.Given.SeizeWordsOp.{Op, Out, Load, Store, Swap, Add, Or, Exchange, Make, Take, Rewrite, Room, Found, Stored, Exchanged, Made, Taken, Roomed}
use Rattle.seize_moves.specs.Given.SeizeWordsMem.{Mem, Took, after, value_at, word_at, with_word}
use Rattle.seize_moves.proofs.Given.SeizeWordsOneOwner.AfterWrites.{value_at-with_word, value_at-with_value}
use Rattle.seize_moves.specs.Given.SeizeWorld.{IsOwn, IsOwnOp}
use Rattle.seize_moves.proofs.Memory.Words.Named.{made_one, taken_one}
use Rattle.seize_rule.proofs.World.Events.{missing}

module _ {T : Type 0} (defers : T → Option ℕ) (m : Mem T) (b : ℕ) where
  own_value : (at : At) (v : ℕ) → IsOwn defers m at → value_at (with_word m at v) b ≡ value_at m b
  own_value at v own = go (word_at m at) refl
    where
      go : (o : Option ℕ) → word_at m at ≡ o → value_at (with_word m at v) b ≡ value_at m b
      go None h = ap (λ (k : Mem T). value_at k b) (missing defers m at v own h)
      go (Some x) h = value_at-with_word m at v b (rw h refl)

  pub own_op_value : (op : Op T) (out : Out T) → IsOwnOp defers m op → value_at (after m op out) b ≡ value_at m b
  own_op_value (Load at) out own = refl
  own_op_value (Store at v) out own = own_value at v own
  own_op_value (Swap at v) out own = own_value at v own
  own_op_value (Add at v) (Found x) own = own_value at ((x + v) % 2 ^ 64) own
  own_op_value (Add at v) Stored own = refl
  own_op_value (Add at v) (Exchanged r) own = refl
  own_op_value (Add at v) (Made r) own = refl
  own_op_value (Add at v) (Taken x) own = refl
  own_op_value (Add at v) (Roomed r) own = refl
  own_op_value (Or at v) (Found x) own = own_value at (bit_or x v) own
  own_op_value (Or at v) Stored own = refl
  own_op_value (Or at v) (Exchanged r) own = refl
  own_op_value (Or at v) (Made r) own = refl
  own_op_value (Or at v) (Taken x) own = refl
  own_op_value (Or at v) (Roomed r) own = refl
  own_op_value (Exchange at old new) (Exchanged (Ok x)) own = own_value at new own
  own_op_value (Exchange at old new) (Exchanged (Err x)) own = refl
  own_op_value (Exchange at old new) (Found x) own = refl
  own_op_value (Exchange at old new) Stored own = refl
  own_op_value (Exchange at old new) (Made r) own = refl
  own_op_value (Exchange at old new) (Taken x) own = refl
  own_op_value (Exchange at old new) (Roomed r) own = refl
  own_op_value (Make value words) out own = absurd own
  own_op_value (Take c) out own = absurd own
  own_op_value (Rewrite c value) out own = absurd own
  own_op_value (Room bucket) out own = absurd own

  beside : (c : ℕ) (o : Option T) (m2 : Mem T) → (b ≡ c → ⊥) → value_at m2 b ≡ cond (eqb b c) o (value_at m b) → value_at m2 b ≡ value_at m b
  beside c o m2 other is = is ∙ ap (λ t. cond t o (value_at m b)) (ne_eqb b c other)

  -- where another block is taken away
  pub taken_value : (c : ℕ) (out : Out T) (m2 : Mem T) → Took m (Take c) out m2 → (b ≡ c → ⊥) → value_at m2 b ≡ value_at m b
  taken_value c (Taken x) m2 took other = beside c None m2 other (ap (λ (k : Mem T). value_at k b) took.1 ∙ ap (λ (f : ℕ → Option T). f b) (taken_one m c (rw took.0 refl)).values)
  taken_value c (Found x) m2 took other = absurd took.0
  taken_value c Stored m2 took other = absurd took.0
  taken_value c (Exchanged r) m2 took other = absurd took.0
  taken_value c (Made r) m2 took other = absurd took.0
  taken_value c (Roomed r) m2 took other = absurd took.0

  -- where a block is made, which is there no less
  pub made_value : (value : T) (words : ℕ) (out : Out T) (m2 : Mem T) → IsSome (value_at m b) → Took m (Make value words) out m2 → value_at m2 b ≡ value_at m b
  made_value value words (Made (Ok c)) m2 there took =
      let one = made_one m value words c took.0.0 in
      beside c (Some value) m2 (λ e. cc (there, ap (value_at m) e, one.was_free)) (ap (λ (k : Mem T). value_at k b) took.1 ∙ ap (λ (f : ℕ → Option T). f b) one.values)
  made_value value words (Made (Err back)) m2 there took = ap (λ (k : Mem T). value_at k b) took.1
  made_value value words (Found x) m2 there took = absurd took.0
  made_value value words Stored m2 there took = absurd took.0
  made_value value words (Exchanged r) m2 there took = absurd took.0
  made_value value words (Taken x) m2 there took = absurd took.0
  made_value value words (Roomed r) m2 there took = absurd took.0

  -- where another one's value is replaced
  pub rewritten_value : (c : ℕ) (value before : T) (m2 : Mem T) → Took m (Rewrite c value) (Taken before) m2 → (b ≡ c → ⊥) → value_at m2 b ≡ value_at m b
  rewritten_value c value before m2 took other =
      ap (λ (k : Mem T). value_at k b) took.1 ∙ value_at-with_value m c value b (rw took.0 refl) ∙ ap (λ t. if t then Some value else value_at m b) (ne_eqb b c other)
