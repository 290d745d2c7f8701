-- Flags of numbers, and the ascending list of the numbers whose flags are set.
use Rattle.std.proofs.Common.{◌≡◌, ℕ, zero, suc, ◌+◌, ◌<◌, ◌≤◌, List, [], ◌∷◌, length, get_or, set, refl, sym, ap, ◌∙◌, arith, add-zero, inl, inr}
use Rattle.std.specs.Prelude.{◌≢◌, ◌⊎◌, remove}
use Rattle.std.proofs.lemmas.Bool.{cases_eq}
use Rattle.std.proofs.lemmas.Grind.{get_or-set_at}
use Rattle.std.proofs.lemmas.List.{get_or-set_other}
use Rattle.seize_words.specs.OneMemory.FreeNumbers.{flagged_from, with_number}

-- flags are 0 or 1
abbrev pub AreBits : List ℕ → Type 0
AreBits flags = (k : ℕ) → get_or flags k 0 ≤ 1

-- trailing zeros do not count
pub flagged-same : (n : ℕ) (xs ys : List ℕ) → ((k : ℕ) → get_or xs k 0 ≡ get_or ys k 0) → flagged_from n xs ≡ flagged_from n ys
flagged-same n [] [] same = refl
flagged-same n [] (y ∷ ys) same =
    let e : y ≡ 0 = sym (same 0) in
    rw e (flagged-same (n + 1) [] ys (λ k. same (suc k)))
flagged-same n (x ∷ xs) [] same =
    let e : x ≡ 0 = same 0 in
    rw e (flagged-same (n + 1) xs [] (λ k. same (suc k)))
flagged-same n (zero ∷ xs) (zero ∷ ys) same = flagged-same (n + 1) xs ys (λ k. same (suc k))
flagged-same n (zero ∷ xs) (suc y ∷ ys) same = absurd (omega (arith, same 0))
flagged-same n (suc x ∷ xs) (zero ∷ ys) same = absurd (omega (arith, same 0))
flagged-same n (suc x ∷ xs) (suc y ∷ ys) same = ap (λ ns. n ∷ ns) (flagged-same (n + 1) xs ys (λ k. same (suc k)))

-- a number among greater ones, at its place, and among ones of which the first is less
with_number-past : (b n : ℕ) (ns : List ℕ) → n < b → with_number b (n ∷ ns) ≡ n ∷ with_number b ns
with_number-past b n ns h = grind arith

with_number-there : (b n : ℕ) (ns : List ℕ) → b ≡ n → with_number b (n ∷ ns) ≡ n ∷ ns
with_number-there b n ns h = grind arith

with_number-here : (b n : ℕ) (ns : List ℕ) → b < n → with_number b (n ∷ ns) ≡ b ∷ n ∷ ns
with_number-here b n ns h = grind arith

with_number-first : (b m : ℕ) (flags : List ℕ) → b < m → with_number b (flagged_from m flags) ≡ b ∷ flagged_from m flags
with_number-first b m [] h = refl
with_number-first b m (zero ∷ flags) h = with_number-first b (m + 1) flags (omega arith)
with_number-first b m (suc x ∷ flags) h = with_number-here b m (flagged_from (m + 1) flags) h

-- a flag is set
pub flagged-given : (n j : ℕ) (flags : List ℕ) → j < length flags → flagged_from n (set flags j 1) ≡ with_number (n + j) (flagged_from n flags)
flagged-given n j [] h = absurd (omega arith)
flagged-given n zero (zero ∷ flags) h =
    sym (ap (λ b. with_number b (flagged_from (n + 1) flags)) (add-zero n) ∙ with_number-first n (n + 1) flags (omega arith))
flagged-given n zero (suc x ∷ flags) h = sym (with_number-there (n + zero) n (flagged_from (n + 1) flags) (add-zero n))
flagged-given n (suc j) (zero ∷ flags) h =
    let e : n + 1 + j ≡ n + suc j = omega arith in
    flagged-given (n + 1) j flags (omega arith) ∙ ap (λ b. with_number b (flagged_from (n + 1) flags)) e
flagged-given n (suc j) (suc x ∷ flags) h =
    let e : n + 1 + j ≡ n + suc j = omega arith in
    ap (λ ns. n ∷ ns) (flagged-given (n + 1) j flags (omega arith) ∙ ap (λ b. with_number b (flagged_from (n + 1) flags)) e)
    ∙ sym (with_number-past (n + suc j) n (flagged_from (n + 1) flags) (omega arith))

-- one that was set already
pub flagged-there : (n j : ℕ) (flags : List ℕ) → j < length flags → get_or flags j 0 ≡ 1 → flagged_from n flags ≡ with_number (n + j) (flagged_from n flags)
flagged-there n j flags h one = flagged-same n flags (set flags j 1) (λ k. at k (cases_eq k j)) ∙ flagged-given n j flags h
  where
    at : (k : ℕ) → (k ≡ j) ⊎ (k ≢ j) → get_or flags k 0 ≡ get_or (set flags j 1) k 0
    at k (inl e) = ap (λ i. get_or flags i 0) e ∙ one ∙ sym (get_or-set_at flags j k 1 0 e h)
    at k (inr other) = sym (get_or-set_other flags j k 1 0 other)

-- one that was not makes a number more
pub flagged-more : (n j : ℕ) (flags : List ℕ) → j < length flags → get_or flags j 0 ≡ 0
    → length (flagged_from n (set flags j 1)) ≡ length (flagged_from n flags) + 1
flagged-more n j [] h none = absurd (omega arith)
flagged-more n zero (zero ∷ flags) h none = omega arith
flagged-more n zero (suc x ∷ flags) h none = absurd (cc)
flagged-more n (suc j) (zero ∷ flags) h none = flagged-more (n + 1) j flags (omega arith) none
flagged-more n (suc j) (suc x ∷ flags) h none = omega (arith, flagged-more (n + 1) j flags (omega arith) none)

pub length-flagged_le : (n : ℕ) (flags : List ℕ) → length (flagged_from n flags) ≤ length flags
length-flagged_le n [] = omega arith
length-flagged_le n (zero ∷ flags) = omega (arith, length-flagged_le (n + 1) flags)
length-flagged_le n (suc x ∷ flags) = omega (arith, length-flagged_le (n + 1) flags)

-- the sum of so many of the first flags
abbrev pub sum_before : List ℕ → ℕ → ℕ
sum_before [] j = 0
sum_before (x ∷ flags) zero = 0
sum_before (x ∷ flags) (suc j) = x + sum_before flags j

pub sum_before-more : (flags : List ℕ) (j : ℕ) → sum_before flags (suc j) ≡ sum_before flags j + get_or flags j 0
sum_before-more [] j = refl
sum_before-more (x ∷ []) zero = omega arith
sum_before-more (x ∷ y ∷ flags) zero = omega arith
sum_before-more (x ∷ flags) (suc j) = omega (arith, sum_before-more flags j)

-- the number of a flag that is set stands behind those of the set flags before it
pub flagged-at : (n j d : ℕ) (flags : List ℕ) → AreBits flags → get_or flags j 0 ≡ 1 → get_or (flagged_from n flags) (sum_before flags j) d ≡ n + j
flagged-at n j d [] are one = absurd (cc)
flagged-at n zero d (zero ∷ flags) are one = absurd (cc)
flagged-at n zero d (suc x ∷ flags) are one = sym (add-zero n)
flagged-at n (suc j) d (zero ∷ flags) are one =
    let e : 0 + sum_before flags j ≡ sum_before flags j = omega arith in
    let m : n + 1 + j ≡ n + suc j = omega arith in
    ap (λ c. get_or (flagged_from (n + 1) flags) c d) e ∙ flagged-at (n + 1) j d flags (λ k. are (suc k)) one ∙ m
flagged-at n (suc j) d (suc zero ∷ flags) are one =
    let e : 1 + sum_before flags j ≡ suc (sum_before flags j) = omega arith in
    let m : n + 1 + j ≡ n + suc j = omega arith in
    ap (λ c. get_or (n ∷ flagged_from (n + 1) flags) c d) e ∙ flagged-at (n + 1) j d flags (λ k. are (suc k)) one ∙ m
flagged-at n (suc j) d (suc (suc x) ∷ flags) are one = absurd (omega (arith, are 0))

-- and it goes from there where the flag is taken away
pub flagged-taken : (n j : ℕ) (flags : List ℕ) → AreBits flags → get_or flags j 0 ≡ 1
    → flagged_from n (set flags j 0) ≡ remove (flagged_from n flags) (sum_before flags j)
flagged-taken n j [] are one = absurd (cc)
flagged-taken n zero (zero ∷ flags) are one = absurd (cc)
flagged-taken n zero (suc x ∷ flags) are one = refl
flagged-taken n (suc j) (zero ∷ flags) are one =
    let e : 0 + sum_before flags j ≡ sum_before flags j = omega arith in
    flagged-taken (n + 1) j flags (λ k. are (suc k)) one ∙ ap (remove (flagged_from (n + 1) flags)) (sym e)
flagged-taken n (suc j) (suc zero ∷ flags) are one =
    let e : 1 + sum_before flags j ≡ suc (sum_before flags j) = omega arith in
    ap (λ ns. n ∷ ns) (flagged-taken (n + 1) j flags (λ k. are (suc k)) one) ∙ ap (remove (n ∷ flagged_from (n + 1) flags)) (sym e)
flagged-taken n (suc j) (suc (suc x) ∷ flags) are one = absurd (omega (arith, are 0))

-- as many numbers as flags are set
pub length-flagged : (n : ℕ) (flags : List ℕ) → AreBits flags → length (flagged_from n flags) ≡ sum_before flags (length flags)
length-flagged n [] are = refl
length-flagged n (zero ∷ flags) are = omega (arith, length-flagged (n + 1) flags (λ k. are (suc k)))
length-flagged n (suc zero ∷ flags) are = omega (arith, length-flagged (n + 1) flags (λ k. are (suc k)))
length-flagged n (suc (suc x) ∷ flags) are = absurd (omega (arith, are 0))
