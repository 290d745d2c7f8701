-- What one operation leaves of a word of a block's own that is there after it: it is what it was, and 0 if it was not there, unless it is told as written.
use Rattle.std.specs.Prelude.{◌≡◌, ◌==◌, ℕ, Bool, true, false, Option, Some, None, Ok, Err, IsSome, if◌then◌else◌, ◌⊎◌}
use Rattle.std.proofs.Common.{refl, ap, sym, subst, ◌∙◌, inl, inr}
use Rattle.run_debts.specs.Given.SeizeWordsDeclared.at.At.{At}
use Rattle.run_debts.specs.Given.SeizeWordsDeclared.at.At.TheVariants.{Word}
use Rattle.run_debts.specs.Given.SeizeWordsDeclared.block.Block.{Block}
use Rattle.run_debts.specs.Given.SeizeWordsMem.{Mem, same_at, block_of, value_in, word_in, value_at, word_at, with_word, Can, Took}
use Rattle.run_debts.specs.Given.SeizeWordsOp.{Op, Out, Load, Store, Swap, Add, Or, Exchange, Make, Take, Rewrite, Room, Found, Stored, Exchanged, Made, Taken, Roomed}
use Rattle.run_debts.proofs.Given.SeizeWordsOneOwner.AfterWrites.{word_at-with_word, word_at-with_value, block_of-with_block}
use Rattle.run_debts.proofs.Given.SeizeMemoryWords.Named.{or_zero, words_of, same_at-true, block_there, made_one}
use Rattle.run_debts.specs.Given.TablesDeclared.node.Node.{Node}
use Rattle.run_debts.specs.Given.TellsSeen.{seen_of}
use Rattle.run_debts.specs.Given.TellerTells.{observed_of}
use Rattle.run_debts.specs.Given.EffectsDeclared.changed.Changed.{Changed}
use Rattle.run_debts.specs.Given.EffectsDeclared.changed.Changed.TheVariants as changed
use Rattle.run_debts.proofs.Given.FollowsOperations.{Operated}

module _ {K V : Type 0} (m m2 : Mem (Node K V)) (c f y : ℕ) (is : word_at m2 (Word c f) ≡ Some y) where
  -- it is what it was, or is told as written
  abbrev pub Lasts : Changed → Type 0
  Lasts told = (y ≡ words_of m (Word c f)) ⊎ ((old : ℕ) × (new : ℕ) × (told ≡ changed.Wrote (Word c f) old new))

  same_word : word_at m2 (Word c f) ≡ word_at m (Word c f) → y ≡ words_of m (Word c f)
  same_word e = sym (ap or_zero is) ∙ ap or_zero e

  same_memory : m2 ≡ m → y ≡ words_of m (Word c f)
  same_memory e = same_word (ap (λ (n : Mem (Node K V)). word_at n (Word c f)) e)

  wrote : (at : At) (old word : ℕ) → IsSome (word_at m at) → m2 ≡ with_word m at word → Lasts (changed.Wrote at old word)
  wrote at old word some e = by (same_at (Word c f) at) refl (word_at-with_word m at word (Word c f) some)
    where
      by : (q : Bool) → same_at (Word c f) at ≡ q → word_at (with_word m at word) (Word c f) ≡ (if q then Some word else word_at m (Word c f)) → Lasts (changed.Wrote at old word)
      by true k r = inr (old, word, ap (λ (a : At). changed.Wrote a old word) (sym (same_at-true (Word c f) at k)))
      by false k r = inl (same_word (ap (λ (n : Mem (Node K V)). word_at n (Word c f)) e ∙ r))

  -- the block of the word is another one than that which was taken away
  taken_not : (q : Bool) → word_at m2 (Word c f) ≡ word_in (if q then None else block_of m c) f → y ≡ words_of m (Word c f)
  taken_not true e = absurd (cc (is, e))
  taken_not false e = same_word e

  op_lasts : (op : Op (Node K V)) (out : Out (Node K V)) → Can m op → Took m op out m2 → Lasts (observed_of op out (seen_of m op out))
  op_lasts (Load at) out can took = inl (same_memory took.1)
  op_lasts (Store at word) out can took = wrote at _ word can took.1
  op_lasts (Swap at word) (Found before) can took = wrote at before word can took.1
  op_lasts (Add at by) (Found before) can took = wrote at before _ can took.1
  op_lasts (Or at bits) (Found before) can took = wrote at before _ can took.1
  op_lasts (Exchange at expected word) (Exchanged (Ok found)) can took = wrote at found word can took.1
  op_lasts (Exchange at expected word) (Exchanged (Err found)) can took = inl (same_memory took.1)
  op_lasts (Make value words) (Made (Ok b)) can took =
      let new = ap (λ (n : Mem (Node K V)). words_of n (Word c f)) took.1 ∙ ap (λ (h : At → ℕ). h (Word c f)) (made_one m value words b took.0.0).words in
      inl (sym (ap or_zero is) ∙ new)
  op_lasts (Make value words) (Made (Err back)) can took = inl (same_memory took.1)
  op_lasts (Take b) out can took =
      let there = block_there m b can in
      inl (taken_not (c == b) (ap (λ (n : Mem (Node K V)). word_at n (Word c f)) took.1 ∙ ap (λ o. word_in o f) (block_of-with_block m b c there.0 None there.1)))
  op_lasts (Rewrite b value) out can took = inl (same_word (ap (λ (n : Mem (Node K V)). word_at n (Word c f)) took.1 ∙ word_at-with_value m b value (Word c f) can))
  op_lasts (Room bucket) (Roomed (Ok made)) can took = inl (same_word (ap (λ (n : Mem (Node K V)). word_at n (Word c f)) took.1))
  op_lasts (Room bucket) (Roomed (Err fault)) can took = inl (same_memory took.1)
  op_lasts (Swap at word) Stored can took = absurd took.0
  op_lasts (Swap at word) (Exchanged got) can took = absurd took.0
  op_lasts (Swap at word) (Made got) can took = absurd took.0
  op_lasts (Swap at word) (Taken got) can took = absurd took.0
  op_lasts (Swap at word) (Roomed got) can took = absurd took.0
  op_lasts (Add at by) Stored can took = absurd took.0
  op_lasts (Add at by) (Exchanged got) can took = absurd took.0
  op_lasts (Add at by) (Made got) can took = absurd took.0
  op_lasts (Add at by) (Taken got) can took = absurd took.0
  op_lasts (Add at by) (Roomed got) can took = absurd took.0
  op_lasts (Or at bits) Stored can took = absurd took.0
  op_lasts (Or at bits) (Exchanged got) can took = absurd took.0
  op_lasts (Or at bits) (Made got) can took = absurd took.0
  op_lasts (Or at bits) (Taken got) can took = absurd took.0
  op_lasts (Or at bits) (Roomed got) can took = absurd took.0
  op_lasts (Exchange at expected word) (Found got) can took = absurd took.0
  op_lasts (Exchange at expected word) Stored can took = absurd took.0
  op_lasts (Exchange at expected word) (Made got) can took = absurd took.0
  op_lasts (Exchange at expected word) (Taken got) can took = absurd took.0
  op_lasts (Exchange at expected word) (Roomed got) can took = absurd took.0
  op_lasts (Make value words) (Found got) can took = absurd took.0
  op_lasts (Make value words) Stored can took = absurd took.0
  op_lasts (Make value words) (Exchanged got) can took = absurd took.0
  op_lasts (Make value words) (Taken got) can took = absurd took.0
  op_lasts (Make value words) (Roomed got) can took = absurd took.0
  op_lasts (Room bucket) (Found got) can took = absurd took.0
  op_lasts (Room bucket) Stored can took = absurd took.0
  op_lasts (Room bucket) (Exchanged got) can took = absurd took.0
  op_lasts (Room bucket) (Made got) can took = absurd took.0
  op_lasts (Room bucket) (Taken got) can took = absurd took.0

  -- so it is of a step
  pub word_lasts : (told : Changed) → Operated m m2 told → Lasts told
  word_lasts told (inl (still, nothing)) = inl (same_memory still)
  word_lasts told (inr made) = subst Lasts (sym made.is) (op_lasts made.op made.out made.can made.took)

-- a word of a block that is not there is none
module _ {T : Type 0} (m : Mem T) (c f : ℕ) where
  pub none_there : value_at m c ≡ None → words_of m (Word c f) ≡ 0
  none_there none = by (block_of m c) none
    where
      by : (o : Option (Block T)) → value_in o ≡ None → or_zero (word_in o f) ≡ 0
      by None e = refl
      by (Some x) e = absurd (cc e)

  pub gone_there : value_at m c ≡ None → (y : ℕ) → word_at m (Word c f) ≡ Some y → ⊥
  gone_there none y is = by (block_of m c) none is
    where
      by : (o : Option (Block T)) → value_in o ≡ None → word_in o f ≡ Some y → ⊥
      by None e word = cc word
      by (Some x) e word = cc e
