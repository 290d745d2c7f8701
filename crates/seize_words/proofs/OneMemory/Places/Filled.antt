-- Entries in buckets that are full, but for the last: where an entry lies, and what a change of one does.
use Rattle.std.proofs.Common.{◌≡◌, ℕ, ◌+◌, ◌-◌, ◌^◌, ◌<◌, ◌≤◌, List, [], ◌∷◌, ◌++◌, length, ap, sym, ◌∙◌, arith, zero, suc, add-zero, inl, inr, length-append, append_assoc}
use Rattle.std.specs.Prelude.{slice_index_or, slice_set}
use Rattle.std.proofs.lemmas.Bool.{cases_lt}
use Rattle.std.proofs.lemmas.Nat.{pow_pos}
use Rattle.std.proofs.lemmas.Grind.{pow_more}
use Rattle.std.proofs.lemmas.List.{get_or-append_right, get_or_append_left, set-append_left, set-append_right, append-nil, length-set}
use Rattle.std.proofs.Math.Pow.{pow_mono}
use Rattle.seize_words.specs.OneMemory.Place.{capacity}
use Rattle.seize_words.specs.OneMemory.Buckets.{all_in, AreFull, AreFilled}

pub capacity-more : (number : ℕ) → capacity (number + 1) ≡ capacity number + capacity number
capacity-more number = omega (arith, pow_more 2 number)

pub capacity_le_capacity : (low high : ℕ) → low ≤ high → capacity low ≤ capacity high
capacity_le_capacity low high h = let p : 2 ^ low ≤ 2 ^ high = pow_mono h in omega (arith, p)

pub capacity_pos : (number : ℕ) → 0 < capacity number
capacity_pos number = omega (arith, pow_pos number)

module _ {X : Type 0} where
  pub AreFilled-full : (number : ℕ) (buckets : List (List X)) → AreFull number buckets → AreFilled number buckets
  AreFilled-full number [] h = tt
  AreFilled-full number (first ∷ rest) h = (omega (arith, h.0), ((λ more. h.0), AreFilled-full (number + 1) rest h.1))

  nonempty : (buckets : List (List X)) → 0 < length (all_in buckets) → 0 < length buckets
  nonempty [] h = h
  nonempty (first ∷ rest) h = omega arith

  -- the first of them is full, where an entry lies behind it
  first_full : (number : ℕ) (first : List X) (rest : List (List X)) (place : ℕ) → AreFilled number (first ∷ rest) → capacity number ≤ place
      → place ≤ length (all_in (first ∷ rest)) → length first ≡ capacity number
  first_full number first rest place h behind inside =
      elim (cases_lt 0 (length (all_in rest))) as (λ _. length first ≡ capacity number) [
        | inl more ↦ h.1.0 (nonempty rest more)
        | inr none ↦ omega (arith, h.0, none, behind, inside, length-append first (all_in rest))
      ]

  in_first : (number : ℕ) (first : List X) (rest : List (List X)) (place : ℕ) → AreFilled number (first ∷ rest) → place < capacity number
      → place < length (all_in (first ∷ rest)) → place < length first
  in_first number first rest place h before inside =
      elim (cases_lt 0 (length (all_in rest))) as (λ _. place < length first) [
        | inl more ↦ omega (arith, h.1.0 (nonempty rest more), before)
        | inr none ↦ omega (arith, none, inside, length-append first (all_in rest))
      ]

  pub bucket_lt : (number : ℕ) (buckets : List (List X)) → AreFilled number buckets → (place bucket index : ℕ) → index < capacity (number + bucket)
      → place + capacity number ≡ capacity (number + bucket) + index → place < length (all_in buckets) → bucket < length buckets
  bucket_lt number [] h place bucket index within at inside = absurd (omega (arith, inside))
  bucket_lt number (first ∷ rest) h place zero index within at inside = omega arith
  bucket_lt number (first ∷ rest) h place (suc bucket) index within at inside =
      let shift : capacity (number + suc bucket) ≡ capacity (number + 1 + bucket) = ap capacity (omega arith) in
      let least = capacity_le_capacity (number + 1) (number + 1 + bucket) (omega arith) in
      let full = first_full number first rest place h (omega (arith, shift, least, at, capacity-more number)) (omega (arith, inside)) in
      let later = bucket_lt (number + 1) rest h.1.1 (place - capacity number) bucket index (omega (arith, shift, within))
      (omega (arith, shift, least, at, capacity-more number))
      (omega (arith, full, inside, shift, least, at, capacity-more number, length-append first (all_in rest))) in
      omega (arith, later)

  pub index_lt : (number : ℕ) (buckets : List (List X)) → AreFilled number buckets → (place bucket index : ℕ) → index < capacity (number + bucket)
      → place + capacity number ≡ capacity (number + bucket) + index → place < length (all_in buckets)
      → index < length (slice_index_or buckets bucket [])
  index_lt number [] h place bucket index within at inside = absurd (omega (arith, inside))
  index_lt number (first ∷ rest) h place zero index within at inside =
      let first_bucket : capacity (number + zero) ≡ capacity number = ap capacity (add-zero number) in
      let there = in_first number first rest place h (omega (arith, first_bucket, at, within)) inside in
      omega (arith, first_bucket, at, there)
  index_lt number (first ∷ rest) h place (suc bucket) index within at inside =
      let shift : capacity (number + suc bucket) ≡ capacity (number + 1 + bucket) = ap capacity (omega arith) in
      let least = capacity_le_capacity (number + 1) (number + 1 + bucket) (omega arith) in
      let full = first_full number first rest place h (omega (arith, shift, least, at, capacity-more number)) (omega (arith, inside)) in
      index_lt (number + 1) rest h.1.1 (place - capacity number) bucket index (omega (arith, shift, within))
      (omega (arith, shift, least, at, capacity-more number))
      (omega (arith, full, inside, shift, least, at, capacity-more number, length-append first (all_in rest)))

  pub all_in-at : (number : ℕ) (buckets : List (List X)) (none : X) → AreFilled number buckets → (place bucket index : ℕ) → index < capacity (number + bucket)
      → place + capacity number ≡ capacity (number + bucket) + index → place < length (all_in buckets)
      → slice_index_or (all_in buckets) place none ≡ slice_index_or (slice_index_or buckets bucket []) index none
  all_in-at number [] none h place bucket index within at inside = absurd (omega (arith, inside))
  all_in-at number (first ∷ rest) none h place zero index within at inside =
      let first_bucket : capacity (number + zero) ≡ capacity number = ap capacity (add-zero number) in
      let same : place ≡ index = omega (arith, first_bucket, at) in
      get_or_append_left first (all_in rest) none place (in_first number first rest place h (omega (arith, first_bucket, at, within)) inside)
      ∙ ap (λ k. slice_index_or first k none) same
  all_in-at number (first ∷ rest) none h place (suc bucket) index within at inside =
      let shift : capacity (number + suc bucket) ≡ capacity (number + 1 + bucket) = ap capacity (omega arith) in
      let least = capacity_le_capacity (number + 1) (number + 1 + bucket) (omega arith) in
      let full = first_full number first rest place h (omega (arith, shift, least, at, capacity-more number)) (omega (arith, inside)) in
      get_or-append_right first (all_in rest) (capacity number) place none full (omega (arith, shift, least, at, capacity-more number))
      ∙ all_in-at (number + 1) rest none h.1.1 (place - capacity number) bucket index (omega (arith, shift, within))
      (omega (arith, shift, least, at, capacity-more number))
      (omega (arith, full, inside, shift, least, at, capacity-more number, length-append first (all_in rest)))

  pub all_in-set : (number : ℕ) (buckets : List (List X)) → AreFilled number buckets → (place bucket index : ℕ) (x : X) → index < capacity (number + bucket)
      → place + capacity number ≡ capacity (number + bucket) + index → place < length (all_in buckets)
      → all_in (slice_set buckets bucket (slice_set (slice_index_or buckets bucket []) index x)) ≡ slice_set (all_in buckets) place x
  all_in-set number [] h place bucket index x within at inside = absurd (omega (arith, inside))
  all_in-set number (first ∷ rest) h place zero index x within at inside =
      let first_bucket : capacity (number + zero) ≡ capacity number = ap capacity (add-zero number) in
      let same : place ≡ index = omega (arith, first_bucket, at) in
      sym (set-append_left first (all_in rest) place x (in_first number first rest place h (omega (arith, first_bucket, at, within)) inside)
      ∙ ap (λ k. slice_set first k x ++ all_in rest) same)
  all_in-set number (first ∷ rest) h place (suc bucket) index x within at inside =
      let shift : capacity (number + suc bucket) ≡ capacity (number + 1 + bucket) = ap capacity (omega arith) in
      let least = capacity_le_capacity (number + 1) (number + 1 + bucket) (omega arith) in
      let full = first_full number first rest place h (omega (arith, shift, least, at, capacity-more number)) (omega (arith, inside)) in
      ap (λ r. first ++ r) (all_in-set (number + 1) rest h.1.1 (place - capacity number) bucket index x (omega (arith, shift, within))
      (omega (arith, shift, least, at, capacity-more number))
      (omega (arith, full, inside, shift, least, at, capacity-more number, length-append first (all_in rest))))
      ∙ sym (set-append_right first (all_in rest) (capacity number) place x full (omega (arith, shift, least, at, capacity-more number)))

  pub AreFilled-set : (number : ℕ) (buckets : List (List X)) (bucket : ℕ) (x : List X) → AreFilled number buckets
      → length x ≡ length (slice_index_or buckets bucket []) → AreFilled number (slice_set buckets bucket x)
  AreFilled-set number [] bucket x h same = h
  AreFilled-set number (first ∷ rest) zero x h same = (omega (arith, same, h.0), ((λ more. same ∙ h.1.0 more), h.1.1))
  AreFilled-set number (first ∷ rest) (suc bucket) x h same =
      (h.0, ((λ more. h.1.0 (omega (arith, more, length-set rest bucket x))), AreFilled-set (number + 1) rest bucket x h.1.1 same))

  pub AreFull-set : (number : ℕ) (buckets : List (List X)) (bucket : ℕ) (x : List X) → AreFull number buckets
      → length x ≡ length (slice_index_or buckets bucket []) → AreFull number (slice_set buckets bucket x)
  AreFull-set number [] bucket x h same = h
  AreFull-set number (first ∷ rest) zero x h same = (same ∙ h.0, h.1)
  AreFull-set number (first ∷ rest) (suc bucket) x h same = (h.0, AreFull-set (number + 1) rest bucket x h.1 same)

  pub AreFull-push : (number : ℕ) (buckets : List (List X)) (x : List X) → AreFull number buckets
      → length x ≡ capacity (number + length buckets) → AreFull number (buckets ++ x ∷ [])
  AreFull-push number [] x h same = (same ∙ ap capacity (add-zero number), tt)
  AreFull-push number (first ∷ rest) x h same = (h.0, AreFull-push (number + 1) rest x h.1 (same ∙ ap capacity (omega arith)))

  pub all_in-push : (buckets : List (List X)) (x : List X) → all_in (buckets ++ x ∷ []) ≡ all_in buckets ++ x
  all_in-push [] x = append-nil x
  all_in-push (first ∷ rest) x = ap (λ r. first ++ r) (all_in-push rest x) ∙ sym (append_assoc first (all_in rest) x)
