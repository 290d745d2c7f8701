-- A block in its piece: how long the piece is, and what its value and words are.
use Rattle.std.proofs.Common.{◌≡◌, ℕ, suc, ◌+◌, ◌*◌, ◌^◌, ◌<◌, List, [], ◌∷◌, length, refl, sym, ap, ◌∙◌, subst, arith}
use Rattle.std.specs.Prelude.{drop, max, slice_set, take}
use Rattle.std.specs.Int.{next_multiple_of}
use mir.Syntax.{Ty}
use mir.Raw.{raw}
use prog.Capped.{capped_is}
use prog.Memory.{align, capped, size, up}
use prog.RawLaws.{align-raw, size-raw}
use denote.Struct.CellSteps.{first_at}
use Rattle.core.specs.Align.{IsLayout}
use Rattle.seize_words.specs.OneMemory.Piece.{block_of, only_of}
use Rattle.seize_words.specs.OneMemory.Room.{IsShort}

module _ (τ : Ty) (n bytes alignment words word_alignment : ℕ) (is_bytes : bytes ≡ size τ) (is_alignment : alignment ≡ align τ) (is_words : words ≡ 8 * n)
    (by_eight : word_alignment ≡ 8) where
  pub short_is : 1 * size τ < 2 ^ 63 → 8 * n < 2 ^ 63 → IsLayout (next_multiple_of bytes word_alignment + words) (max alignment word_alignment)
      → IsShort (size (raw τ)) (align (raw τ)) 8 8 n
  short_is value_fits words_fit both_fit =
      let b : bytes ≡ size (raw τ) = is_bytes ∙ sym (size-raw τ) in let a : alignment ≡ align (raw τ) = is_alignment ∙ sym (align-raw τ) in
      record {
        value_fits = omega (arith, value_fits, size-raw τ);
        words_fit = words_fit;
        both_fit = subst (λ (u : ℕ × ℕ). IsLayout u.0 u.1) (λ i. (next_multiple_of (b i) (by_eight i) + is_words i, max (a i) (by_eight i))) both_fit;
      }

  pub layout_is : IsShort (size (raw τ)) (align (raw τ)) 8 8 n → IsLayout (next_multiple_of bytes word_alignment + words) (max alignment word_alignment)
  layout_is short =
      let b : size (raw τ) ≡ bytes = size-raw τ ∙ sym is_bytes in let a : align (raw τ) ≡ alignment = align-raw τ ∙ sym is_alignment in
      subst (λ (u : ℕ × ℕ). IsLayout u.0 u.1) (λ i. (next_multiple_of (b i) (sym by_eight i) + sym is_words i, max (a i) (sym by_eight i))) short.both_fit

  begin : up (align (raw τ)) 0 + size (raw τ) ≡ bytes
  begin = omega (arith, first_at (align (raw τ)) 0, size-raw τ, is_bytes)

  pub from_is : (from : ℕ) → from ≡ next_multiple_of bytes word_alignment → from ≡ up 8 (up (align (raw τ)) 0 + size (raw τ))
  from_is from is = is ∙ (λ i. next_multiple_of (sym begin i) (by_eight i))

  module _ (from both both_alignment whole : ℕ) (is_from : from ≡ next_multiple_of bytes word_alignment) (is_both : both ≡ from + words)
      (is_both_alignment : both_alignment ≡ max alignment word_alignment) (is_whole : whole ≡ next_multiple_of both both_alignment) (small : whole < 2 ^ 63) where
    ends : up 8 (up (align (raw τ)) 0 + size (raw τ)) + n * 8 ≡ both
    ends = omega (arith, sym (from_is from is_from), is_words, is_both)

    pub alignment_is : max (align (raw τ)) 8 ≡ both_alignment
    alignment_is = (λ i. max ((align-raw τ ∙ sym is_alignment) i) (sym by_eight i)) ∙ sym is_both_alignment

    pub size_is : capped (up (max (align (raw τ)) 8) (up 8 (up (align (raw τ)) 0 + size (raw τ)) + n * 8)) ≡ whole
    size_is = ap capped ((λ i. up (alignment_is i) (ends i)) ∙ sym is_whole) ∙ capped_is whole (omega (arith, small))

module _ {T : Type 0} where
  pub only_same : (xs : List T) (h h' : length xs ≡ 1) → only_of xs h ≡ only_of xs h'
  only_same [] h h' = absurd (omega (arith, h))
  only_same (x ∷ xs) h h' = refl

  -- a word of the block's own is written
  pub word_put : (xs : List T) (h h' : length xs ≡ 1) (ws : List ℕ) (i w : ℕ)
      → block_of (only_of xs h) (slice_set ws (i + 4) w) ≡ record { value = only_of xs h'; entry = take 4 ws; words = slice_set (drop 4 ws) i w }
  word_put xs h h' ws i w =
      ap (λ x. block_of x (slice_set ws (i + 4) w)) (only_same xs h h') ∙ at ws (only_of xs h')
    where
      far : i + 4 ≡ suc (suc (suc (suc i)))
      far = omega arith

      at : (ws : List ℕ) (x : T) → block_of x (slice_set ws (i + 4) w) ≡ record { value = x; entry = take 4 ws; words = slice_set (drop 4 ws) i w }
      at [] x = refl
      at (a ∷ []) x = ap (λ k. block_of x (slice_set (a ∷ []) k w)) far
      at (a ∷ b ∷ []) x = ap (λ k. block_of x (slice_set (a ∷ b ∷ []) k w)) far
      at (a ∷ b ∷ c ∷ []) x = ap (λ k. block_of x (slice_set (a ∷ b ∷ c ∷ []) k w)) far
      at (a ∷ b ∷ c ∷ d ∷ ws) x = ap (λ k. block_of x (slice_set (a ∷ b ∷ c ∷ d ∷ ws) k w)) far
