-- One word that an operation has changed, and what is seen of it.
use Rattle.std.specs.Prelude.{◌≡◌, ◌≢◌, ℕ, ◌==◌, Bool, true, false, Option, Some, None, Ok, Err, IsSome, if◌then◌else◌}
use Rattle.std.proofs.Common.{refl, ap, sym, subst, ◌∙◌, arith}
use Rattle.run_schedules.specs.Given.SeizeWordsDeclared.at.At.{At}
use Rattle.run_schedules.specs.Given.SeizeWordsDeclared.at.At.TheVariants.{Root, Used, Slot, Entry, Word}
use Rattle.run_schedules.specs.Given.SeizeWordsDeclared.block.Block.{Block}
use Rattle.run_schedules.specs.Given.SeizeWordsMem.{Mem, same_at, block_of, word_in, word_at, value_in, value_at, with_word, with_block, fresh, IsFreeNumber, Can, after, Took}
use Rattle.run_schedules.specs.Given.SeizeWordsOp.{Op, Out, Load, Store, Swap, Add, Or, Exchange, Make, Take, Rewrite, Room, Found, Stored, Exchanged, Made, Taken, Roomed}
use Rattle.run_schedules.proofs.Given.SeizeWordsOneOwner.AfterWrites.{word_at-with_word, word_at-with_value, block_of-with_block, block_of-made}
use Rattle.run_effects.specs.Tells.Seen.{Seen, Wrote, word_or, seen_of}
use Rattle.map_rule.proofs.Given.SeizeMemoryWords.Named.{same_at-true as same_is, same_at-refl as is_same}

-- a word that a map's users write: of a root, or of a block
abbrev pub IsUsersWord : At → Type 0
IsUsersWord (Root r) = Unit {0}
IsUsersWord (Word b field) = Unit {0}
IsUsersWord _ = ⊥

module _ {T : Type 0} (m : Mem T) where
  abbrev AreSame : Seen T → Seen T → Type 0
  AreSame x y = x ≡ y

  abbrev wrote_at : At → ℕ → ℕ → Seen T
  wrote_at at old new = Wrote at old new

  -- the word that was written is the one that has changed
  written : (at : At) (word : ℕ) → IsSome (word_at m at) → (x : At) (old new : ℕ) → word_at m x ≡ Some old → word_at (with_word m at word) x ≡ Some new → old ≢ new
      → (at ≡ x) × (word ≡ new)
  written at word some x old new was is other = by (same_at x at) refl
    where
      by : (b : Bool) → same_at x at ≡ b → (at ≡ x) × (word ≡ new)
      by true e =
          let there : Some word ≡ Some new = ap (λ t. if t then Some word else word_at m x) (sym e) ∙ sym (word_at-with_word m at word x some) ∙ is in
          (sym (same_is x at e), cc)
      by false e =
          let there : word_at m x ≡ Some new = ap (λ t. if t then Some word else word_at m x) (sym e) ∙ sym (word_at-with_word m at word x some) ∙ is in
          absurd (other cc)

  -- what was written is there
  pub is_written : (at : At) (word : ℕ) → IsSome (word_at m at) → word_at (with_word m at word) at ≡ Some word
  is_written at word some = word_at-with_word m at word at some ∙ ap (λ t. if t then Some word else word_at m at) (is_same at)

  -- what is taken away, or made, changes no word that stays
  took_kept : (b : ℕ) → IsSome (value_at m b) → (x : At) (old new : ℕ) → IsUsersWord x → word_at m x ≡ Some old → word_at (with_block m b None) x ≡ Some new → old ≡ new
  took_kept b some (Root r) old new users was is = grind (arith, was, is)
  took_kept b some (Used r) old new users was is = absurd users
  took_kept b some (Slot s field) old new users was is = absurd users
  took_kept b some (Entry k field) old new users was is = absurd users
  took_kept b some (Word k field) old new users was is = go (block_of m b) refl
    where
      at_none : (o : Option (Block T)) → (t : Bool) → (k == b) ≡ t → word_in (if t then None else block_of m k) field ≡ Some new → old ≡ new
      at_none o true e there = absurd (cc)
      at_none o false e there = grind (arith, was, there)

      go : (o : Option (Block T)) → block_of m b ≡ o → old ≡ new
      go None e = absurd (let none : IsSome {T = T} None = subst (λ (o : Option (Block T)). IsSome {T = T} (value_in o)) e some in cc)
      go (Some x) e = at_none (Some x) (k == b) refl (ap (λ (o : Option (Block T)). word_in o field) (sym (block_of-with_block m b k x None e)) ∙ is)

  made_kept : (value : T) (words b : ℕ) → IsFreeNumber m b → (x : At) (old new : ℕ) → IsUsersWord x → word_at m x ≡ Some old
      → word_at (after m (Make value words) (Made (Ok b))) x ≡ Some new → old ≡ new
  made_kept value words b free (Root r) old new users was is = grind (arith, was, is)
  made_kept value words b free (Used r) old new users was is = absurd users
  made_kept value words b free (Slot s field) old new users was is = absurd users
  made_kept value words b free (Entry k field) old new users was is = absurd users
  made_kept value words b free (Word k field) old new users was is = by (k == b) refl
    where
      there : word_in (if k == b then Some (fresh value words) else block_of m k) field ≡ Some new
      there = ap (λ (o : Option (Block T)). word_in o field) (sym (block_of-made m value words b k free)) ∙ is

      by : (t : Bool) → (k == b) ≡ t → old ≡ new
      by true e =
          let here : k ≡ b = grind (arith, e) in
          let none : word_in (block_of m k) field ≡ None = ap (λ (o : Option (Block T)). word_in o field) (ap (block_of m) here ∙ free.0) in
          absurd (cc)
      by false e = let other : word_in (block_of m k) field ≡ Some new = subst (λ (t : Bool). word_in (if t then Some (fresh value words) else block_of m k) field ≡ Some new) e there in grind (arith, was, other)

  module _ (m2 : Mem T) (x : At) (users : IsUsersWord x) (old new : ℕ) (was : word_at m x ≡ Some old) (is : word_at m2 x ≡ Some new) (other : old ≢ new) where
    same_not : m2 ≡ m → ⊥
    same_not e = other (let there : word_at m x ≡ Some new = subst (λ (n : Mem T). word_at n x ≡ Some new) e is in cc)

    -- a word that was there has been written
    wrote : (at : At) (before word : ℕ) → word_at m at ≡ Some before → m2 ≡ with_word m at word → AreSame (Wrote at before word) (Wrote x old new)
    wrote at before word there e =
        let some : IsSome (word_at m at) = subst IsSome (sym there) refl in
        let w = written at word some x old new was (subst (λ (n : Mem T). word_at n x ≡ Some new) e is) other in
        let before_is : before ≡ old = (let here : word_at m x ≡ Some before = subst (λ (a : At). word_at m a ≡ Some before) w.0 there in cc) in
        rw (w.0, w.1, before_is)

    -- a store tells the word before, as it stands there
    stored : (at : At) (word : ℕ) → IsSome (word_at m at) → m2 ≡ with_word m at word → AreSame (Wrote at (word_or (word_at m at)) word) (Wrote x old new)
    stored at word some e = by (word_at m at) refl some
      where
        by : (o : Option ℕ) → word_at m at ≡ o → IsSome o → AreSame (Wrote at (word_or (word_at m at)) word) (Wrote x old new)
        by None is_before some = absurd (cc)
        by (Some before) is_before some = ap (λ (o : Option ℕ). wrote_at at (word_or o) word) is_before ∙ wrote at before word is_before e

    -- Where one of the users' words is another one after an operation, the operation is seen to have written it so.
    pub changed_seen : (op : Op T) (out : Out T) → Can m op → Took m op out m2 → seen_of m op out ≡ Wrote x old new
    changed_seen (Load at) out can took = absurd (same_not took.1)
    changed_seen (Store at word) out can took = stored at word can took.1
    changed_seen (Swap at word) (Found before) can took = wrote at before word took.0 took.1
    changed_seen (Add at by) (Found before) can took = wrote at before _ took.0 took.1
    changed_seen (Or at bits) (Found before) can took = wrote at before _ took.0 took.1
    changed_seen (Exchange at expected word) (Exchanged (Ok found)) can took = wrote at found word took.0.0 took.1
    changed_seen (Exchange at expected word) (Exchanged (Err found)) can took = absurd (same_not took.1)
    changed_seen (Make value words) (Made (Ok b)) can took =
        absurd (other (made_kept value words b took.0.0 x old new users was (subst (λ (n : Mem T). word_at n x ≡ Some new) took.1 is)))
    changed_seen (Make value words) (Made (Err back)) can took = absurd (same_not took.1)
    changed_seen (Take b) out can took = absurd (other (took_kept b can x old new users was (subst (λ (n : Mem T). word_at n x ≡ Some new) took.1 is)))
    changed_seen (Rewrite b value) out can took =
        absurd (other (let there : word_at m x ≡ Some new = sym (word_at-with_value m b value x can) ∙ subst (λ (n : Mem T). word_at n x ≡ Some new) took.1 is in cc))
    changed_seen (Room bucket) (Roomed (Ok made)) can took = absurd (other (roomed x users was (subst (λ (n : Mem T). word_at n x ≡ Some new) took.1 is)))
      where
        roomed : (y : At) → IsUsersWord y → word_at m y ≡ Some old → word_at (after m (Room bucket) (Roomed (Ok made))) y ≡ Some new → old ≡ new
        roomed (Root r) users was is = grind (arith, was, is)
        roomed (Word b field) users was is = grind (arith, was, is)
        roomed (Used r) users was is = absurd users
        roomed (Slot s field) users was is = absurd users
        roomed (Entry b field) users was is = absurd users
    changed_seen (Room bucket) (Roomed (Err fault)) can took = absurd (same_not took.1)
    changed_seen (Swap at word) Stored can took = absurd took.0
    changed_seen (Swap at word) (Exchanged got) can took = absurd took.0
    changed_seen (Swap at word) (Made got) can took = absurd took.0
    changed_seen (Swap at word) (Taken got) can took = absurd took.0
    changed_seen (Swap at word) (Roomed got) can took = absurd took.0
    changed_seen (Add at by) Stored can took = absurd took.0
    changed_seen (Add at by) (Exchanged got) can took = absurd took.0
    changed_seen (Add at by) (Made got) can took = absurd took.0
    changed_seen (Add at by) (Taken got) can took = absurd took.0
    changed_seen (Add at by) (Roomed got) can took = absurd took.0
    changed_seen (Or at bits) Stored can took = absurd took.0
    changed_seen (Or at bits) (Exchanged got) can took = absurd took.0
    changed_seen (Or at bits) (Made got) can took = absurd took.0
    changed_seen (Or at bits) (Taken got) can took = absurd took.0
    changed_seen (Or at bits) (Roomed got) can took = absurd took.0
    changed_seen (Exchange at expected word) (Found word2) can took = absurd took.0
    changed_seen (Exchange at expected word) Stored can took = absurd took.0
    changed_seen (Exchange at expected word) (Made got) can took = absurd took.0
    changed_seen (Exchange at expected word) (Taken got) can took = absurd took.0
    changed_seen (Exchange at expected word) (Roomed got) can took = absurd took.0
    changed_seen (Make value words) (Found word2) can took = absurd took.0
    changed_seen (Make value words) Stored can took = absurd took.0
    changed_seen (Make value words) (Exchanged got) can took = absurd took.0
    changed_seen (Make value words) (Taken got) can took = absurd took.0
    changed_seen (Make value words) (Roomed got) can took = absurd took.0
    changed_seen (Room bucket) (Found word2) can took = absurd took.0
    changed_seen (Room bucket) Stored can took = absurd took.0
    changed_seen (Room bucket) (Exchanged got) can took = absurd took.0
    changed_seen (Room bucket) (Made got) can took = absurd took.0
    changed_seen (Room bucket) (Taken got) can took = absurd took.0
