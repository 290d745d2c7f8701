-- What a plain text of a number is read as, and that other texts are none.
use Rattle.std.proofs.Common.{◌≡◌, ◌≢◌, ◌<◌, ◌^◌, ℕ, zero, suc, ℤ, pos, negsuc, neg_ℤ, List, [], ◌∷◌, ◌⊎◌, inl, inr, length, get_or, MatchOption, Result, Ok, Err, FitsSigned, decimal, sym, ap, subst, refl, ◌∙◌, arith, ◌≤ℤ◌}
use Rattle.std.specs.Fmt.{signed_decimal}
use Rattle.std.specs.Int.{w64}
use Rattle.std.specs.Int.Signed.{mag}
use Rattle.std.proofs.lemmas.Bool.{cases_eq, false≢true}
use Rattle.std.specs.Result.{result_ok, is_ok}
use Rattle.std.specs.Str.Parse.{AllDigits, digits_value, ParsesUnsigned, ParsesSigned}
use Rattle.std.proofs.lemmas.Int.{ints}
use Rattle.std.proofs.lemmas.Fmt.{decimal_is_IsNumeral, decimal_digit, first_decimal, decimal-digits_value, parse-signed_decimal, decimal_injective, signed_decimal_injective}
use Rattle.std.proofs.lemmas.Str.Parse.{IsNumeralModel, numerals_by_value, tells_digits, digit_at, parse_plain, parse_digits, parse_signed_minus, parse_signed_plain}
use Rattle.map_forms.specs.Decimals.{IsPlain, IsOther}
use Rattle.map_forms.specs.Forms.{IsNone}

digits : IsNumeralModel (AllDigits 10) (digits_value 10)
digits = numerals_by_value (AllDigits 10) tells_digits

-- the text of 0 has one byte, and that of another number begins with none
length-zero : (number : ℕ) → number < 2 ^ 64 → get_or (decimal number) 0 0 ≡ 48 → length (decimal number) ≡ 1
length-zero zero small none = ap length (decimal_digit 0 (omega arith))
length-zero (suc number) small none = absurd (omega (arith, first_decimal (suc number) (omega arith) small))

pub other_unsigned : (number : ℕ) → number < 2 ^ 64 → IsOther (decimal number) → ⊥
other_unsigned number small other =
    let is = decimal_is_IsNumeral number small in
    let first = digit_at (decimal number) 0 is.0.1 is.0.0 in
    elim other [
      | inl plus ↦ omega (arith, first)
      | inr (inl many) ↦ omega (arith, length-zero number small many.0)
      | inr (inr minus) ↦ omega (arith, first)
    ]

pub other_signed : (number : ℤ) → FitsSigned w64 number → IsOther (signed_decimal number) → ⊥
other_signed (pos number) fits other = other_unsigned number (omega (arith, fits.sfits)) other
other_signed (negsuc number) fits other =
    let first = first_decimal (suc number) (omega arith) (omega (arith, fits.sfits)) in
    elim other [
      | inl plus ↦ omega arith
      | inr (inl many) ↦ omega arith
      | inr (inr minus) ↦ omega (arith, first)
    ]

pub read_unsigned : {E : Type 0} (text : List ℕ) (read : Result ℕ E) → IsPlain text → ParsesUnsigned 64 10 text read
    → MatchOption (result_ok read) ((number : ℕ) → number < 2 ^ 64 → decimal number ≢ text) (λ number. decimal number ≡ text)
read_unsigned {E} text (Ok number) plain parses =
    let is = parse_plain digits {E = E} 64 text (Ok number) parses plain.0 in
    ap decimal is.1 ∙ decimal-digits_value digits text is.0.0 is.0.1 plain.1 is.0.2
read_unsigned text (Err why) plain parses = λ number small same.
    let is = decimal_is_IsNumeral number small in
    parse_digits digits 64 (decimal number) (Err why) (subst (λ bytes. ParsesUnsigned 64 10 bytes (Err why)) (sym same) parses) is.0.1
    (is.0.0, omega (arith, is.1, small))

-- behind a minus stands the text of a number above 0
behind_minus : (number : ℕ) (text : List ℕ) → decimal number ≡ text → get_or text 0 0 ≢ 48 → signed_decimal (neg_ℤ (pos number)) ≡ 45 ∷ text
behind_minus zero text same some = absurd (some (ap (λ bytes. get_or bytes 0 0) (sym same ∙ decimal_digit 0 (omega arith))))
behind_minus (suc number) text same some = ap (λ bytes. 45 ∷ bytes) same

read_minus : (E : Type 0) (text : List ℕ) (number : ℤ) → IsPlain (45 ∷ text) → ParsesSigned {E = E} w64 10 (45 ∷ text) (Ok number) → signed_decimal number ≡ 45 ∷ text
read_minus E text number plain parses =
    let is = parse_signed_minus digits {E = E} w64 (45 ∷ text) (Ok number) parses refl in
    let some = plain.2 refl in
    ap signed_decimal is.1
    ∙ behind_minus (digits_value 10 text) text (decimal-digits_value digits text is.0.0 is.0.1 (λ none. absurd (some none)) (omega (arith, is.0.2))) some

read_positive : (E : Type 0) (text : List ℕ) (number : ℤ) → IsPlain text → get_or text 0 0 ≢ 45 → ParsesSigned {E = E} w64 10 text (Ok number) → signed_decimal number ≡ text
read_positive E text number plain positive parses =
    let is = parse_signed_plain digits {E = E} w64 text (Ok number) parses plain.0 positive in
    ap signed_decimal is.1 ∙ decimal-digits_value digits text is.0.0 is.0.1 plain.1 (omega (arith, is.0.2))

read_number : (E : Type 0) (text : List ℕ) (number : ℤ) → IsPlain text → ParsesSigned {E = E} w64 10 text (Ok number) → (get_or text 0 0 ≡ 45) ⊎ (get_or text 0 0 ≢ 45) → signed_decimal number ≡ text
read_number E [] number plain parses (inl minus) = absurd (omega arith)
read_number E (byte ∷ text) number plain parses (inl minus) =
    let whole : 45 ∷ text ≡ byte ∷ text = ap (λ first. first ∷ text) (sym minus) in
    subst (λ bytes. signed_decimal number ≡ bytes) whole
    (read_minus E text number (subst IsPlain (sym whole) plain) (subst (λ bytes. ParsesSigned {E = E} w64 10 bytes (Ok number)) (sym whole) parses))
read_number E text number plain parses (inr positive) = read_positive E text number plain positive parses

small : (number : ℤ) → FitsSigned w64 number → mag number < 2 ^ 63
small (pos number) fits = omega (arith, fits.sfits)
small (negsuc number) fits = omega (arith, fits.sfits)

pub read_signed : {E : Type 0} (text : List ℕ) (read : Result ℤ E) → IsPlain text → ParsesSigned w64 10 text read
    → MatchOption (result_ok read) ((number : ℤ) → FitsSigned w64 number → signed_decimal number ≢ text) (λ number. signed_decimal number ≡ text)
read_signed {E} text (Ok number) plain parses = read_number E text number plain parses (cases_eq (get_or text 0 0) 45)
read_signed text (Err why) plain parses = λ number fits same.
    false≢true (ap is_ok (parse-signed_decimal w64 number text (Err why) fits (small number fits) (sym same) parses))

-- two numbers have two texts
pub no_other_unsigned : (text : List ℕ) (number other : ℕ) → decimal number ≡ text → number < 2 ^ 64 → other < 2 ^ 64 → decimal other ≡ text → other ≡ number
no_other_unsigned text number other same small other_small alike = decimal_injective other number other_small small (alike ∙ sym same)

between : (least most value : ℤ) → FitsSigned w64 least → FitsSigned w64 most → least ≤ℤ value → value ≤ℤ most → mag value < 2 ^ 63
between (pos least) (pos most) (pos value) least_fits most_fits above below = omega (arith, ints, most_fits.sfits, below)
between (pos least) (pos most) (negsuc value) least_fits most_fits above below = absurd (omega (arith, ints, above))
between (pos least) (negsuc most) (pos value) least_fits most_fits above below = absurd (omega (arith, ints, below))
between (pos least) (negsuc most) (negsuc value) least_fits most_fits above below = absurd (omega (arith, ints, above))
between (negsuc least) (pos most) (pos value) least_fits most_fits above below = omega (arith, ints, most_fits.sfits, below)
between (negsuc least) (pos most) (negsuc value) least_fits most_fits above below = omega (arith, ints, least_fits.sfits, above)
between (negsuc least) (negsuc most) (pos value) least_fits most_fits above below = absurd (omega (arith, ints, below))
between (negsuc least) (negsuc most) (negsuc value) least_fits most_fits above below = omega (arith, ints, least_fits.sfits, above)

-- where a number is not within the bounds, no other of its text is
pub none_within : (least most number : ℤ) (text : List ℕ) → FitsSigned w64 least → FitsSigned w64 most → FitsSigned w64 number → signed_decimal number ≡ text
    → ((least ≤ℤ number) × (number ≤ℤ most) → ⊥) → IsNone (λ value. (least ≤ℤ value) × (value ≤ℤ most)) signed_decimal text
none_within least most number text least_fits most_fits fits same out value within alike =
    let is = signed_decimal_injective value number (between least most value least_fits most_fits within.0 within.1) (small number fits) (alike ∙ sym same) in
    out (subst (λ n. (least ≤ℤ n) × (n ≤ℤ most)) is within)
