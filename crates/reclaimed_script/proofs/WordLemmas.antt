-- Cutting a line at its first space, and the number that digits stand for.
use Rattle.std.proofs.Common.{◌≡◌, ℕ, ◌+◌, ◌-◌, ◌*◌, ◌<◌, ◌≤◌, ◌^◌, Bool, true, false, ◌&&◌, cond, ltb, List, [], ◌∷◌, length, get_or, take, drop, Some, None, Ok, Err, refl, subst, add-one, drop-cons, arith}
use Rattle.std.specs.Prelude.{position}
use Rattle.std.specs.List.{slice_split, position_or_len}
use Rattle.std.proofs.lemmas.List.{drop_all}
use Rattle.std.proofs.lemmas.List.Splits.{slice_split_none, slice_split_first}
use Rattle.std.proofs.lemmas.List.Sums.{fails_before_first}
use Rattle.std.proofs.lemmas.Bool.{ltb-true, ltb-false, le-ltb, lt-ltb}
use Rattle.std.proofs.lemmas.Option.{cond_some}
use Rattle.reclaimed_script.specs.declared.fault.LineFault.TheVariants.{BadWord}
use Rattle.reclaimed_script.specs.Words.{value_from, number_of, is_decimal}
use Rattle.run_schedules.proofs.Given.General.{and_true, and_false}

cond_none : (b : Bool) (n : ℕ) → cond b (Some n) None ≡ None → b ≡ false
cond_none true n e = absurd cc
cond_none false n e = refl

-- where no element passes, the list is its one part
pub slice_split-position_none : (p : ℕ → Bool) (xs : List ℕ) → position p xs ≡ None → slice_split p xs ≡ xs ∷ []
slice_split-position_none p xs e =
    let past : length xs ≤ position_or_len p xs = ltb-false _ _ (cond_none _ _ e) in
    slice_split_none p xs (λ k d lt. fails_before_first p xs k d (omega arith))

-- the first part ends at the first element that passes
pub slice_split-position_some : (p : ℕ → Bool) (xs : List ℕ) (i : ℕ) → position p xs ≡ Some i → (i < length xs) × (slice_split p xs ≡ take i xs ∷ slice_split p (drop (i + 1) xs))
slice_split-position_some p xs i e =
    let found = cond_some _ _ _ e in
    let within : position_or_len p xs < length xs = ltb-true _ _ found.0 in
    subst (λ (n : ℕ). (n < length xs) × (slice_split p xs ≡ take n xs ∷ slice_split p (drop (n + 1) xs))) found.1 (within, slice_split_first p xs 0 within)

-- one digit more
pub value_from-drop : (n : ℕ) (word : List ℕ) (i digit : ℕ) → i < length word → digit ≡ get_or word i 0 - 48 → value_from n (drop i word) ≡ value_from (10 * n + digit) (drop (i + 1) word)
unfolding value_from
value_from-drop n word i digit lt e = rw (e, add-one, drop-cons word i 0) refl

pub value_from-ge : (n : ℕ) (digits : List ℕ) → n ≤ value_from n digits
unfolding value_from
value_from-ge n [] = omega arith
value_from-ge n (d ∷ ds) = omega (arith, value_from-ge (10 * n + (d - 48)) ds)

-- a word that is not decimal is no number
pub number_of-not_decimal : (word : List ℕ) → is_decimal word ≡ false → number_of word ≡ Err BadWord
unfolding number_of
number_of-not_decimal word e = rw e refl

-- nor is one whose first digits stand for too much
pub number_of-large : (word digits : List ℕ) (n : ℕ) → value_from n digits ≡ value_from 0 word → 2 ^ 64 ≤ n → number_of word ≡ Err BadWord
unfolding number_of
number_of-large word digits n e large =
    let past : ltb (value_from 0 word) (2 ^ 64) ≡ false = le-ltb _ _ (omega (arith, value_from-ge n digits)) in
    let test : (is_decimal word && ltb (value_from 0 word) (2 ^ 64)) ≡ false = and_false _ _ past in
    rw test refl

pub number_of-small : (word : List ℕ) (n : ℕ) → is_decimal word ≡ true → n ≡ value_from 0 word → n < 2 ^ 64 → number_of word ≡ Ok n
unfolding number_of
number_of-small word n decimal e small =
    let within : ltb (value_from 0 word) (2 ^ 64) ≡ true = lt-ltb _ _ (omega arith) in
    let test : (is_decimal word && ltb (value_from 0 word) (2 ^ 64)) ≡ true = and_true _ _ decimal within in
    rw (test, e) refl

-- behind the last digit nothing is added
pub value_from-end : (n : ℕ) (word : List ℕ) (i : ℕ) → length word ≤ i → value_from n (drop i word) ≡ n
unfolding value_from
value_from-end n word i le = rw (drop_all i word le) refl
