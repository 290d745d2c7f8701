-- What is seen as written stood there before, and stands there after it.
use Rattle.std.specs.Prelude.{◌≡◌, ℕ, Option, Some, None, Ok, Err, IsSome}
use Rattle.std.proofs.Common.{refl, ap, sym, subst, ◌∙◌}
use Rattle.run_schedules.specs.Given.SeizeWordsDeclared.at.At.{At}
use Rattle.run_schedules.specs.Given.SeizeWordsMem.{Mem, word_at, with_word, Can, Took}
use Rattle.run_schedules.specs.Given.SeizeWordsOp.{Op, Out, Load, Store, Swap, Add, Or, Exchange, Make, Take, Rewrite, Room, Found, Stored, Exchanged, Made, Taken, Roomed}
use Rattle.run_effects.specs.Tells.Seen.{Seen, Wrote, word_or, seen_of}
use Rattle.run_effects.proofs.Tells.Changed.{is_written}

module _ {T : Type 0} (m m2 : Mem T) (x : At) (old new : ℕ) where
  abbrev AreSame : Seen T → Seen T → Type 0
  AreSame a b = a ≡ b

  abbrev wrote_at : At → ℕ → ℕ → Seen T
  wrote_at at before word = Wrote at before word

  -- the word before, and the word after
  abbrev pub IsWritten : Type 0
  IsWritten = (word_at m x ≡ Some old) × (word_at m2 x ≡ Some new)

  wrote : (at : At) (before word : ℕ) → word_at m at ≡ Some before → m2 ≡ with_word m at word → AreSame (Wrote at before word) (Wrote x old new) → IsWritten
  wrote at before word there e seen =
      let at_is : at ≡ x = cc in let before_is : before ≡ old = cc in let word_is : word ≡ new = cc in
      let some : IsSome (word_at m at) = subst IsSome (sym there) refl in (
        subst (λ (a : At). word_at m a ≡ Some old) at_is (there ∙ ap Some before_is),
        subst (λ (a : At). word_at m2 a ≡ Some new) at_is (ap (λ (n : Mem T). word_at n at) e ∙ is_written m at word some ∙ ap Some word_is),
      )

  stored : (at : At) (word : ℕ) → IsSome (word_at m at) → m2 ≡ with_word m at word → AreSame (Wrote at (word_or (word_at m at)) word) (Wrote x old new) → IsWritten
  stored at word some e seen = by (word_at m at) refl some
    where
      by : (o : Option ℕ) → word_at m at ≡ o → IsSome o → IsWritten
      by None is some = absurd (cc)
      by (Some before) is some = wrote at before word is e (ap (λ (o : Option ℕ). wrote_at at (word_or o) word) (sym is) ∙ seen)

  pub seen_kept : (op : Op T) (out : Out T) → Can m op → Took m op out m2 → seen_of m op out ≡ Wrote x old new → IsWritten
  seen_kept (Load at) out can took seen = absurd (cc)
  seen_kept (Store at word) out can took seen = stored at word can took.1 seen
  seen_kept (Swap at word) (Found before) can took seen = wrote at before word took.0 took.1 seen
  seen_kept (Add at by) (Found before) can took seen = wrote at before _ took.0 took.1 seen
  seen_kept (Or at bits) (Found before) can took seen = wrote at before _ took.0 took.1 seen
  seen_kept (Exchange at expected word) (Exchanged (Ok found)) can took seen = wrote at found word took.0.0 took.1 seen
  seen_kept (Exchange at expected word) (Exchanged (Err found)) can took seen = absurd (cc)
  seen_kept (Make value words) (Made (Ok b)) can took seen = absurd (cc)
  seen_kept (Make value words) (Made (Err back)) can took seen = absurd (cc)
  seen_kept (Take b) out can took seen = absurd (cc)
  seen_kept (Rewrite b value) out can took seen = absurd (cc)
  seen_kept (Room bucket) (Roomed got) can took seen = absurd (cc)
  seen_kept (Swap at word) Stored can took seen = absurd took.0
  seen_kept (Swap at word) (Exchanged got) can took seen = absurd took.0
  seen_kept (Swap at word) (Made got) can took seen = absurd took.0
  seen_kept (Swap at word) (Taken got) can took seen = absurd took.0
  seen_kept (Swap at word) (Roomed got) can took seen = absurd took.0
  seen_kept (Add at by) Stored can took seen = absurd took.0
  seen_kept (Add at by) (Exchanged got) can took seen = absurd took.0
  seen_kept (Add at by) (Made got) can took seen = absurd took.0
  seen_kept (Add at by) (Taken got) can took seen = absurd took.0
  seen_kept (Add at by) (Roomed got) can took seen = absurd took.0
  seen_kept (Or at bits) Stored can took seen = absurd took.0
  seen_kept (Or at bits) (Exchanged got) can took seen = absurd took.0
  seen_kept (Or at bits) (Made got) can took seen = absurd took.0
  seen_kept (Or at bits) (Taken got) can took seen = absurd took.0
  seen_kept (Or at bits) (Roomed got) can took seen = absurd took.0
  seen_kept (Exchange at expected word) (Found word2) can took seen = absurd took.0
  seen_kept (Exchange at expected word) Stored can took seen = absurd took.0
  seen_kept (Exchange at expected word) (Made got) can took seen = absurd took.0
  seen_kept (Exchange at expected word) (Taken got) can took seen = absurd took.0
  seen_kept (Exchange at expected word) (Roomed got) can took seen = absurd took.0
  seen_kept (Make value words) (Found word2) can took seen = absurd took.0
  seen_kept (Make value words) Stored can took seen = absurd took.0
  seen_kept (Make value words) (Exchanged got) can took seen = absurd took.0
  seen_kept (Make value words) (Taken got) can took seen = absurd took.0
  seen_kept (Make value words) (Roomed got) can took seen = absurd took.0
  seen_kept (Room bucket) (Found word2) can took seen = absurd took.0
  seen_kept (Room bucket) Stored can took seen = absurd took.0
  seen_kept (Room bucket) (Exchanged got) can took seen = absurd took.0
  seen_kept (Room bucket) (Made got) can took seen = absurd took.0
  seen_kept (Room bucket) (Taken got) can took seen = absurd took.0
