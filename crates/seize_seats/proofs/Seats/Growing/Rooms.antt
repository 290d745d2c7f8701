-- Buckets of slots come to have their words: those of the first without a step on a word, and those of a further one with words of their own.
use Rattle.std.specs.Prelude.{◌≡◌, ◌≢◌, ℕ, zero, suc, ◌+◌, ◌-◌, ◌*◌, ◌^◌, ◌<◌, ◌≤◌, Bool, List, [], ◌∷◌, ◌++◌, length, Result, Ok, Err, slice_index, replicate, if◌then◌else◌}
use Rattle.std.proofs.Common.{refl, sym, ap, ◌∙◌, subst, arith, inl, inr, ◌⊎◌, length-append}
use Rattle.std.proofs.lemmas.Bool.{ne_eqb}
use Rattle.std.proofs.lemmas.List.{length-replicate, get_or-append_right, get_or_append_left}
use native.Mathlib.Numerals.{unary_clauses}
use Rattle.seize_words.specs.OneMemory.Mem.{Mem, Can, Took, with_room}
use Rattle.seize_words.specs.OneMemory.Op.{Room, Roomed}
use Rattle.seize_words.specs.OneMemory.Place.{capacity}
use Rattle.seize_words.specs.OneMemory.SlotWords.{with_bucket}
use Rattle.seize_words.specs.declared.fault.Fault.TheVariants.{Memory}
use Rattle.seize_words.proofs.OneMemory.Places.Words.{capacity-more, capacity_le_capacity, with_bucket_next, with_bucket_there}
use Rattle.seize_seats.specs.Seats.Lines.{Parts, column, long, slots_from, memory_of, AreSlots, AreLaid}
use Rattle.seize_seats.specs.Seats.Steps.{roomed}

pub slots_long : (k : ℕ) (ws : List ℕ) (o : ℕ) → length (slots_from k ws o) ≡ k
slots_long zero ws o = refl
slots_long (suc k) ws o = ap suc (slots_long k ws (o + 16))

slots_zeros : (k : ℕ) (ws : List ℕ) (o : ℕ) → ((i : ℕ) → o ≤ i → slice_index ws i ≡ 0) → slots_from k ws o ≡ replicate k (replicate 2 0)
slots_zeros zero ws o none = refl
slots_zeros (suc k) ws o none =
    let first = none o (omega arith) in let second = none (o + 1) (omega arith) in
    let rest = slots_zeros k ws (o + 16) (λ i le. none i (omega (arith, le))) in cc (first, second, rest)

-- only the first bucket has so few slots
power : (b : ℕ) → 1 ≤ 2 ^ b
power zero = omega arith
power (suc b) = let r = power b in let e : 2 ^ suc b ≡ 2 * 2 ^ b = simp unary_clauses (omega arith) in omega (arith, r, e)

pub wide : (bucket : ℕ) → bucket ≢ 0 → 64 ≤ capacity bucket
wide zero ne = absurd (ne refl)
wide (suc b) ne = let r = power b in let e : 2 ^ suc b ≡ 2 * 2 ^ b = simp unary_clauses (omega arith) in omega (arith, r, e)

-- more words behind them change none of the first
abbrev Zeros : ℕ → List ℕ
Zeros n = replicate n 0

zeros_at : (n k : ℕ) → slice_index (Zeros n) k ≡ 0
zeros_at zero k = refl
zeros_at (suc n) zero = refl
zeros_at (suc n) (suc k) = zeros_at n k

column_more : (k : ℕ) (ws zs : List ℕ) (o : ℕ) → k * 16 + o ≤ length ws → column k (ws ++ zs) o ≡ column k ws o
column_more zero ws zs o le = refl
column_more (suc k) ws zs o le =
    let first : slice_index (ws ++ zs) o ≡ slice_index ws o = get_or_append_left ws zs 0 o (omega (arith, le)) in
    let rest = column_more k ws zs (o + 16) (omega (arith, le)) in cc (first, rest)

slots_more : (k : ℕ) (ws zs : List ℕ) (o : ℕ) → k * 16 + o ≤ length ws → slots_from k (ws ++ zs) o ≡ slots_from k ws o
slots_more zero ws zs o le = refl
slots_more (suc k) ws zs o le =
    let first : slice_index (ws ++ zs) o ≡ slice_index ws o = get_or_append_left ws zs 0 o (omega (arith, le)) in
    let second : slice_index (ws ++ zs) (o + 1) ≡ slice_index ws (o + 1) = get_or_append_left ws zs 0 (o + 1) (omega (arith, le)) in
    let rest = slots_more k ws zs (o + 16) (omega (arith, le)) in cc (first, second, rest)

slots_apart : (k n : ℕ) (ws : List ℕ) (o e : ℕ) → e ≡ k * 16 + o → slots_from (k + n) ws o ≡ slots_from k ws o ++ slots_from n ws e
slots_apart zero n ws o e at = let none : zero + n ≡ n = omega arith in let q : o ≡ e = omega (arith, at) in
    ap (λ (k : ℕ). slots_from k ws o) none ∙ ap (slots_from n ws) q
slots_apart (suc k) n ws o e at =
    let on : suc k + n ≡ suc (k + n) = omega arith in let rest = slots_apart k n ws (o + 16) e (omega (arith, at)) in
    ap (λ (m : ℕ). slots_from m ws o) on ∙ ap (λ l. (slice_index ws o ∷ slice_index ws (o + 1) ∷ []) ∷ l) rest

beyond : (ws : List ℕ) (n i : ℕ) → length ws ≤ i → slice_index (ws ++ Zeros n) i ≡ 0
beyond ws n i le = get_or-append_right ws (Zeros n) (length ws) i 0 refl le ∙ zeros_at n (i - length ws)

module _ {T : Type 0} (roots count : ℕ) (s : Parts T) (bucket : ℕ) where
  abbrev pub with_slots : ℕ → Parts T
  with_slots n = record { words = s.words; slots = n; cells = s.cells; given = s.given }

  abbrev Mo : ℕ → Mem T
  Mo n = memory_of roots (with_slots n)

  abbrev Roomy : ℕ → Type 0
  Roomy n = (new : ℕ) × AreLaid roots count (with_slots new) × Took (Mo n) (Room bucket) (Roomed (roomed bucket)) (Mo new)

  pub long_is : (n : ℕ) → length (Mo n).slots ≡ n
  long_is n = slots_long n s.words ((roots + roots) * 16)

  -- how many slots have their words, where those of the first bucket have
  first_there : (n : ℕ) → long roots ≤ length s.words → (length s.words ≡ (roots + roots + n) * 16) × (n + 32 ≤ 2 ^ 38) → 32 ≤ n
  first_there n all is = let l = is.0 in omega (arith, all, l)

  -- the first bucket, or one that has no door
  pub rooms : AreLaid roots count s → (bucket ≡ 0) ⊎ (32 < bucket) → Can (memory_of roots s) (Room bucket) → Roomy s.slots
  rooms laid which can = by s.slots laid can which laid.slots_are
    where
      -- where the first bucket is there, it stays as it is
      same : (n : ℕ) → 32 ≤ n → (slots_are : List (List ℕ)) → length slots_are ≡ n → with_bucket slots_are 0 ≡ slots_are
      same n le l is = with_bucket_there l 0 (λ q. let c : capacity 0 ≡ 32 = refl in omega (arith, q, c, is, le))

      made : (n : ℕ) → n ≡ 0 → ((k : ℕ) → (roots + roots) * 16 ≤ k → slice_index s.words k ≡ 0) → Mo 32 ≡ with_room (Mo n) 0
      made n e none =
          let there : slots_from 32 s.words ((roots + roots) * 16) ≡ replicate 32 (replicate 2 0) = slots_zeros 32 s.words ((roots + roots) * 16) none in
          subst (λ (k : ℕ). Mo 32 ≡ with_room (Mo k) 0) (sym e) (ap (λ (l : List (List ℕ)). record (Mo 0) { slots = l }) there)

      as_laid : (n : ℕ) → AreSlots roots s.words n → AreLaid roots count (with_slots n)
      as_laid n are = record { all = laid.all; slots_are = are; counted = laid.counted; within = laid.within; rest = laid.rest; fours = laid.fours }

      far_off : 32 < bucket → 2 ^ 38 ≤ capacity bucket
      far_off lt = let c = capacity_le_capacity 33 bucket (omega (arith, lt)) in let e : capacity 33 ≡ 2 ^ 38 = refl in omega (arith, c, e)

      by : (n : ℕ) → AreLaid roots count s → Can (Mo n) (Room bucket) → (bucket ≡ 0) ⊎ (32 < bucket) → AreSlots roots s.words n → Roomy n
      by n laid can (inl e) (inl none) = (
        32,
        as_laid 32 (inr (none.1, omega arith)),
        subst (λ (k : ℕ). Took (Mo n) (Room k) (Roomed (roomed k)) (Mo 32)) (sym e) (tt, made n none.0 none.2),
      )
      by n laid can (inl e) (inr all) = (
        n,
        as_laid n (inr all),
        subst (λ (k : ℕ). Took (Mo n) (Room k) (Roomed (roomed k)) (Mo n)) (sym e)
            (tt, sym (ap (λ (l : List (List ℕ)). record (Mo n) { slots = l }) (same n (first_there n laid.all all) (Mo n).slots (long_is n)))),
      )
      by n laid can (inr lt) (inl none) =
          let f = far_off lt in let c = can.1 in let z = none.0 in let l = long_is n in absurd (omega (arith, f, c, l, z))
      by n laid can (inr lt) (inr all) =
          let f = far_off lt in let c = can.1 in let l = long_is n in let m = all.1 in let ne : bucket ≢ 0 = λ e. omega (arith, e, lt) in (
            n,
            as_laid n (inr all),
            subst (λ (r : Result Unit _). Took (Mo n) (Room bucket) (Roomed r) (Mo n)) (sym (ap (λ (y : Bool). if y then Ok tt else Err Memory)
                (ne_eqb bucket 0 ne)))
                ((refl, omega (arith, f, c, l, m)), refl),
          )

  -- a bucket that is there, and room for it is made once more
  pub rooms_there : (m : Mem T) → length m.slots + 32 ≢ capacity bucket → Took m (Room bucket) (Roomed (Ok tt)) m
  rooms_there m other = (tt, sym (ap (λ (l : List (List ℕ)). record m { slots = l }) (with_bucket_there m.slots bucket other)))

  -- one that isn't, and there is no memory for it
  pub rooms_refused : (m : Mem T) → length m.slots + 32 ≡ capacity bucket → Took m (Room bucket) (Roomed (Err Memory)) m
  rooms_refused m next = ((refl, next), refl)

  -- THE NEXT BUCKET JOINS, whose words are 0
  abbrev pub with_bucket_of : Parts T
  with_bucket_of = record { words = s.words ++ Zeros (capacity bucket * 16); slots = s.slots + capacity bucket; cells = s.cells; given = s.given }

  pub rooms_made : AreLaid roots count s → bucket ≢ 0 → bucket ≤ 32 → s.slots + 32 ≡ capacity bucket
      → AreLaid roots count with_bucket_of × Took (memory_of roots s) (Room bucket) (Roomed (Ok tt)) (memory_of roots with_bucket_of)
  rooms_made laid ne le next = (
    record {
      all = let a = laid.all in omega (arith, a, long_then);
      slots_are = inr (omega (arith, long_then, words_are), most);
      counted = laid.counted;
      within = laid.within;
      rest = laid.rest;
      fours = laid.fours;
    },
    (tt, cc (links, used, slots_then)),
  )
    where
      ws : List ℕ
      ws = s.words

      zs : List ℕ
      zs = Zeros (capacity bucket * 16)

      long_then : length (ws ++ zs) ≡ length ws + capacity bucket * 16
      long_then = let l = length-append ws zs in let r = length-replicate {A = ℕ} (capacity bucket * 16) 0 in omega (arith, l, r)

      most : s.slots + capacity bucket + 32 ≤ 2 ^ 38
      most = let m = capacity-more bucket in let c = capacity_le_capacity (bucket + 1) 33 (omega (arith, le)) in let e : capacity 33 ≡ 2 ^ 38 = refl in
          omega (arith, next, m, c, e)

      words_are : length ws ≡ (roots + roots + s.slots) * 16
      words_are = by laid.slots_are
        where
          by : AreSlots roots ws s.slots → length ws ≡ (roots + roots + s.slots) * 16
          by (inl none) = let z = none.0 in let w = wide bucket ne in absurd (omega (arith, z, w, next))
          by (inr all) = all.0

      links : column roots (ws ++ zs) 0 ≡ column roots ws 0
      links = column_more roots ws zs 0 (omega (arith, words_are))

      used : column roots (ws ++ zs) (roots * 16) ≡ column roots ws (roots * 16)
      used = column_more roots ws zs (roots * 16) (omega (arith, words_are))

      first : ℕ
      first = (roots + roots) * 16

      slots_then : slots_from (s.slots + capacity bucket) (ws ++ zs) first ≡ with_bucket (slots_from s.slots ws first) bucket
      slots_then =
          let e : ℕ = s.slots * 16 + first in let here : length ws ≡ e = omega (arith, words_are) in
          let l = slots_long s.slots ws first in
          slots_apart s.slots (capacity bucket) (ws ++ zs) first e refl
          ∙ (let a = slots_more s.slots ws zs first (omega (arith, words_are)) in
          let b = slots_zeros (capacity bucket) (ws ++ zs) e (λ i low. beyond ws (capacity bucket * 16) i (omega (arith, low, here))) in cc (a, b))
          ∙ sym (with_bucket_next (slots_from s.slots ws first) bucket (omega (arith, l, next)))
