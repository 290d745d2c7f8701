-- That just equal numbers have the same text, and the same value.
use Rattle.std.specs.Prelude.{◌≡◌, ◌↔◌, ℕ, ◌<◌, ◌≤◌, ◌^◌, ℤ, pos, negsuc, ◌≤ℤ◌, IsTrue, nat_eq, decimal, Bool, true, false, List, [], length, ◌==◌}
use Rattle.std.specs.Cmp.{unsigned_Decides, signed_Decides, booleans_Decides}
use Rattle.std.proofs.Math.Bool.{beq}
use Rattle.std.specs.Fmt.{signed_decimal}
use Rattle.std.specs.Int.Signed.{mag}
use Rattle.std.specs.Ordering.{int_eq}
use Rattle.std.specs.Str.{bytes_eq}
use Rattle.std.proofs.lemmas.Slice.Eq.{bytes_eq-Decides}
use Rattle.std.proofs.Common.{ap, sym, ◌∙◌, refl, arith, pow_mono}
use Rattle.std.proofs.lemmas.Int.{ints}
use Rattle.std.proofs.lemmas.Fmt.{decimal_injective, signed_decimal_injective}
use Rattle.serde_json.specs.Data.{Data, number, unsigned, negative, boolean, string}
use Rattle.serde_json.specs.Written.{has_float}
use Rattle.map_forms.specs.Forms.{IsUnsigned, unsigned_value, signed_value, bool_text}

unsigned_small : (bits value : ℕ) → bits ≤ 64 → IsUnsigned bits value → value < 2 ^ 64
unsigned_small bits value few in_range = omega (arith, in_range, pow_mono few)

pub unsigned_texts_tell : (bits : ℕ) → bits ≤ 64 → (x y : ℕ) → IsUnsigned bits x → IsUnsigned bits y → IsTrue (nat_eq x y) ↔ (decimal x ≡ decimal y)
unsigned_texts_tell bits few x y x_in y_in = (
  λ same. ap decimal ((unsigned_Decides x y).0 same),
  λ same. (unsigned_Decides x y).1 (decimal_injective x y (unsigned_small bits x few x_in) (unsigned_small bits y few y_in) same),
)

-- the number in a value that is one
number_in : Data → ℕ
number_in (number (unsigned value)) = value
number_in _ = 0

pub unsigned_values_tell : (x y : ℕ) → IsTrue (nat_eq x y) ↔ (unsigned_value x ≡ unsigned_value y)
unfolding number_in
unsigned_values_tell x y = (λ same. ap unsigned_value ((unsigned_Decides x y).0 same), λ same. (unsigned_Decides x y).1 (ap number_in same))

pub signed_small : (most : ℕ) (value : ℤ) → most < 2 ^ 63 → negsuc most ≤ℤ value → value ≤ℤ pos most → mag value < 2 ^ 63
signed_small most (pos value) few least_le le_most = omega (arith, ints, least_le, le_most)
signed_small most (negsuc value) few least_le le_most = omega (arith, ints, least_le, le_most)

pub signed_texts_tell : (most : ℕ) → most < 2 ^ 63 → (x y : ℤ) → (negsuc most ≤ℤ x) × (x ≤ℤ pos most) → (negsuc most ≤ℤ y) × (y ≤ℤ pos most)
    → IsTrue (int_eq x y) ↔ (signed_decimal x ≡ signed_decimal y)
signed_texts_tell most few x y x_in y_in = (
  λ same. ap signed_decimal ((signed_Decides x y).0 same),
  λ same. (signed_Decides x y).1 (signed_decimal_injective x y (signed_small most x few x_in.0 x_in.1) (signed_small most y few y_in.0 y_in.1) same),
)

signed_in : Data → ℤ
signed_in (number (unsigned value)) = pos value
signed_in (number (negative value)) = value
signed_in _ = pos 0

signed_in_value : (x : ℤ) → signed_in (signed_value x) ≡ x
unfolding signed_in
signed_in_value (pos x) = refl
signed_in_value (negsuc x) = refl

pub signed_values_tell : (x y : ℤ) → IsTrue (int_eq x y) ↔ (signed_value x ≡ signed_value y)
signed_values_tell x y = (
  λ same. ap signed_value ((signed_Decides x y).0 same),
  λ same. (signed_Decides x y).1 (sym (signed_in_value x) ∙ ap signed_in same ∙ signed_in_value y),
)

pub signed_has_no_float : (x : ℤ) → has_float (signed_value x) ≡ false
signed_has_no_float (pos x) = refl
signed_has_no_float (negsuc x) = refl

bool_in : Data → Bool
bool_in (boolean value) = value
bool_in _ = false

pub bool_values_tell : (x y : Bool) → IsTrue (beq x y) ↔ (boolean x ≡ boolean y)
unfolding bool_in
bool_values_tell x y = (λ same. ap boolean ((booleans_Decides x y).0 same), λ same. (booleans_Decides x y).1 (ap bool_in same))

-- whether a text has the length of `true`
bool_of : List ℕ → Bool
bool_of text = length text == 4

bool_of_text : (x : Bool) → bool_of (bool_text x) ≡ x
unfolding bool_of
bool_of_text true = refl
bool_of_text false = refl

pub bool_texts_tell : (x y : Bool) → IsTrue (beq x y) ↔ (bool_text x ≡ bool_text y)
bool_texts_tell x y =
    (λ same. ap bool_text ((booleans_Decides x y).0 same), λ same. (booleans_Decides x y).1 (sym (bool_of_text x) ∙ ap bool_of same ∙ bool_of_text y))

bytes_in : Data → List ℕ
bytes_in (string bytes) = bytes
bytes_in _ = []

pub text_values_tell : (x y : List ℕ) → IsTrue (bytes_eq x y) ↔ (string x ≡ string y)
unfolding bytes_in
text_values_tell x y = (λ same. ap string ((bytes_eq-Decides x y).0 same), λ same. (bytes_eq-Decides x y).1 (ap bytes_in same))
