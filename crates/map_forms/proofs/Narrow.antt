-- Numbers of fewer bits: one that is read within their bounds is the same with so few bits.
use Rattle.std.proofs.Common.{◌≡◌, ℤ, pos, negsuc, FitsSigned, w8, w16, w32, w64, ◌≤ℤ◌, sym, subst, ap, ◌∙◌, arith}
use Rattle.std.proofs.lemmas.Int.{ints, to_z-of_z}
use mir.Syntax.{Width}
use mir.Val.{to_z, of_z}

module _ (w : Width) (low high : ℤ) (fits : (n : ℤ) → low ≤ℤ n → n ≤ℤ high → FitsSigned w n × FitsSigned w64 n) (fits_low : FitsSigned w64 low)
    (fits_high : FitsSigned w64 high) (least most n : ℤ) (is_least : least ≡ low) (is_most : most ≡ high)
    (within : (to_z w64 (of_z w64 least) ≤ℤ n) × (n ≤ℤ to_z w64 (of_z w64 most))) where
  above : low ≤ℤ n
  above = subst (λ (k : ℤ). k ≤ℤ n) (ap (λ (k : ℤ). to_z w64 (of_z w64 k)) is_least ∙ to_z-of_z w64 low fits_low) within.0

  below : n ≤ℤ high
  below = subst (λ (k : ℤ). n ≤ℤ k) (ap (λ (k : ℤ). to_z w64 (of_z w64 k)) is_most ∙ to_z-of_z w64 high fits_high) within.1

  same_word : to_z w64 (of_z w64 n) ≡ n
  same_word = to_z-of_z w64 n (fits n above below).1

  pub fits_so : FitsSigned w (to_z w64 (of_z w64 n))
  fits_so = subst (λ (k : ℤ). FitsSigned w k) (sym same_word) (fits n above below).0

  same : to_z w (of_z w (to_z w64 (of_z w64 n))) ≡ n
  same = to_z-of_z w (to_z w64 (of_z w64 n)) fits_so ∙ same_word

  pub reads_so : {F : Type 0} (form : ℤ → F) (written : F) → form n ≡ written
      → ((low ≤ℤ to_z w (of_z w (to_z w64 (of_z w64 n)))) × (to_z w (of_z w (to_z w64 (of_z w64 n))) ≤ℤ high))
      × (form (to_z w (of_z w (to_z w64 (of_z w64 n)))) ≡ written)
  reads_so form written is = subst (λ (k : ℤ). ((low ≤ℤ k) × (k ≤ℤ high)) × (form k ≡ written)) (sym same) ((above, below), is)

-- the bounds of 8, 16 and 32 bits
pub fits_8 : (n : ℤ) → negsuc 127 ≤ℤ n → n ≤ℤ pos 127 → FitsSigned w8 n × FitsSigned w64 n
fits_8 n low high = (grind (arith, ints), grind (arith, ints))

pub fits_16 : (n : ℤ) → negsuc 32767 ≤ℤ n → n ≤ℤ pos 32767 → FitsSigned w16 n × FitsSigned w64 n
fits_16 n low high = (grind (arith, ints), grind (arith, ints))

pub fits_32 : (n : ℤ) → negsuc 2147483647 ≤ℤ n → n ≤ℤ pos 2147483647 → FitsSigned w32 n × FitsSigned w64 n
fits_32 n low high = (grind (arith, ints), grind (arith, ints))

pub low_8 : FitsSigned w64 (negsuc 127)
low_8 = grind (arith, ints)

pub high_8 : FitsSigned w64 (pos 127)
high_8 = grind (arith, ints)

pub low_16 : FitsSigned w64 (negsuc 32767)
low_16 = grind (arith, ints)

pub high_16 : FitsSigned w64 (pos 32767)
high_16 = grind (arith, ints)

pub low_32 : FitsSigned w64 (negsuc 2147483647)
low_32 = grind (arith, ints)

pub high_32 : FitsSigned w64 (pos 2147483647)
high_32 = grind (arith, ints)
