-- The place behind all entries of buckets: it lies in the last bucket, or begins the next.
use Rattle.std.proofs.Common.{◌≡◌, ℕ, ◌+◌, ◌-◌, ◌<◌, ◌≤◌, List, [], ◌∷◌, ◌++◌, length, ap, sym, ◌∙◌, refl, arith, zero, suc, add-zero, inl, inr, length-append, append_assoc}
use Rattle.std.specs.Prelude.{slice_index_or, slice_set}
use Rattle.std.proofs.lemmas.Bool.{cases_lt}
use Rattle.std.proofs.lemmas.List.{append-nil}
use Rattle.seize_words.specs.OneMemory.Place.{capacity}
use Rattle.seize_words.specs.OneMemory.Buckets.{all_in, AreFilled}
use Rattle.seize_words.proofs.OneMemory.Places.Filled.{capacity-more, capacity_le_capacity, capacity_pos, all_in-push}

-- The bucket of the place behind all entries is the next one, which it begins, or the last, whose entries all lie before it.
pub record IsNext {X : Type 0} (buckets : List (List X)) (bucket index : ℕ) : Type 0 where
  pub most : bucket ≤ length buckets
  pub begins : bucket ≡ length buckets → index ≡ 0
  pub last : bucket < length buckets → (bucket + 1 ≡ length buckets) × (length (slice_index_or buckets bucket []) ≡ index)

module _ {X : Type 0} where
  empty_all : (buckets : List (List X)) → length buckets ≤ 0 → length (all_in buckets) ≡ 0
  empty_all [] h = refl
  empty_all (first ∷ rest) h = absurd (omega (arith, h))

  is_next-none : (number place bucket index : ℕ) → place + capacity number ≡ capacity (number + bucket) + index → place ≡ 0 → IsNext {X = X} [] bucket index
  is_next-none number place zero index at is =
      let first_bucket : capacity (number + zero) ≡ capacity number = ap capacity (add-zero number) in
      record { most = omega arith; begins = λ _. omega (arith, first_bucket, at, is); last = λ less. absurd (omega (arith, less)) }
  is_next-none number place (suc bucket) index at is =
      let shift : capacity (number + suc bucket) ≡ capacity (number + 1 + bucket) = ap capacity (omega arith) in
      let least = capacity_le_capacity (number + 1) (number + 1 + bucket) (omega arith) in
      absurd (omega (arith, shift, least, at, is, capacity-more number, capacity_pos number))

  pub is_next : (number : ℕ) (buckets : List (List X)) → AreFilled number buckets → (place bucket index : ℕ) → index < capacity (number + bucket)
      → place + capacity number ≡ capacity (number + bucket) + index → place ≡ length (all_in buckets) → IsNext buckets bucket index
  is_next number [] h place bucket index within at is = is_next-none number place bucket index at is
  is_next number (first ∷ rest) h place zero index within at is =
      let first_bucket : capacity (number + zero) ≡ capacity number = ap capacity (add-zero number) in
      let whole = length-append first (all_in rest) in
      record {
        most = omega arith;
        begins = λ same. absurd (omega (arith, same));
        last = λ _. elim (cases_lt 0 (length rest)) as (λ _. (zero + 1 ≡ length (first ∷ rest)) × (length first ≡ index)) [
          | inl more ↦ absurd (omega (arith, h.1.0 more, first_bucket, at, is, within, whole))
          | inr none ↦ (omega (arith, none), omega (arith, empty_all rest none, first_bucket, at, is, whole))
        ];
      }
  is_next number (first ∷ rest) h place (suc bucket) index within at is =
      let shift : capacity (number + suc bucket) ≡ capacity (number + 1 + bucket) = ap capacity (omega arith) in
      let least = capacity_le_capacity (number + 1) (number + 1 + bucket) (omega arith) in
      let whole = length-append first (all_in rest) in
      let full : length first ≡ capacity number = elim (cases_lt 0 (length rest)) as (λ _. length first ≡ capacity number) [
        | inl more ↦ h.1.0 more
        | inr none ↦ omega (arith, h.0, empty_all rest none, shift, least, at, is, whole, capacity-more number)
      ] in
      let later = is_next (number + 1) rest h.1.1 (place - capacity number) bucket index (omega (arith, shift, within))
      (omega (arith, shift, least, at, capacity-more number)) (omega (arith, full, is, whole)) in
      record {
        most = omega (arith, later.most);
        begins = λ same. later.begins (omega (arith, same));
        last = λ less. (let l = later.last (omega (arith, less)) in (omega (arith, l.0), l.1));
      }

  -- an empty bucket behind full ones
  pub AreFilled-more : (number : ℕ) (buckets : List (List X)) → AreFilled number buckets → length (all_in buckets) + capacity number ≡ capacity (number + length buckets)
      → AreFilled number (buckets ++ [] ∷ [])
  AreFilled-more number [] h all = (omega arith, ((λ more. absurd (omega (arith, more))), tt))
  AreFilled-more number (first ∷ rest) h all =
      let whole = length-append first (all_in rest) in
      let shift : capacity (number + length (first ∷ rest)) ≡ capacity (number + 1 + length rest) = ap capacity (omega arith) in
      let full : length first ≡ capacity number = elim (cases_lt 0 (length rest)) as (λ _. length first ≡ capacity number) [
        | inl more ↦ h.1.0 more
        | inr none ↦ (let least = capacity_le_capacity (number + 1) (number + 1 + length rest) (omega arith) in
            omega (arith, h.0, empty_all rest none, shift, least, all, whole, capacity-more number))
      ] in
      (h.0, ((λ more. full), AreFilled-more (number + 1) rest h.1.1 (omega (arith, shift, full, all, whole, capacity-more number))))

  pub all_in-more : (buckets : List (List X)) → all_in (buckets ++ [] ∷ []) ≡ all_in buckets
  all_in-more buckets = all_in-push buckets [] ∙ append-nil (all_in buckets)

  -- an entry behind those of the last bucket
  pub AreFilled-entry : (number : ℕ) (buckets : List (List X)) (bucket : ℕ) (x : X) → AreFilled number buckets → bucket + 1 ≡ length buckets
      → length (slice_index_or buckets bucket []) < capacity (number + bucket) → AreFilled number (slice_set buckets bucket (slice_index_or buckets bucket [] ++ x ∷ []))
  AreFilled-entry number [] bucket x h last few = absurd (omega (arith, last))
  AreFilled-entry number (first ∷ []) zero x h last few =
      let first_bucket : capacity (number + zero) ≡ capacity number = ap capacity (add-zero number) in
      (omega (arith, first_bucket, few, length-append first (x ∷ [])), ((λ more. absurd (omega (arith, more))), tt))
  AreFilled-entry number (first ∷ []) (suc bucket) x h last few = absurd (omega (arith, last))
  AreFilled-entry number (first ∷ second ∷ rest) zero x h last few = absurd (omega (arith, last))
  AreFilled-entry number (first ∷ second ∷ rest) (suc bucket) x h last few =
      let shift : capacity (number + suc bucket) ≡ capacity (number + 1 + bucket) = ap capacity (omega arith) in
      (h.0, ((λ more. h.1.0 (omega arith)), AreFilled-entry (number + 1) (second ∷ rest) bucket x h.1.1 (omega (arith, last)) (omega (arith, shift, few))))

  pub all_in-entry : (buckets : List (List X)) (bucket : ℕ) (x : X) → bucket + 1 ≡ length buckets
      → all_in (slice_set buckets bucket (slice_index_or buckets bucket [] ++ x ∷ [])) ≡ all_in buckets ++ x ∷ []
  all_in-entry [] bucket x last = absurd (omega (arith, last))
  all_in-entry (first ∷ []) zero x last = append-nil (first ++ x ∷ []) ∙ ap (λ r. r ++ x ∷ []) (sym (append-nil first))
  all_in-entry (first ∷ []) (suc bucket) x last = absurd (omega (arith, last))
  all_in-entry (first ∷ second ∷ rest) zero x last = absurd (omega (arith, last))
  all_in-entry (first ∷ second ∷ rest) (suc bucket) x last =
      ap (λ r. first ++ r) (all_in-entry (second ∷ rest) bucket x (omega (arith, last))) ∙ sym (append_assoc first (all_in (second ∷ rest)) (x ∷ []))
