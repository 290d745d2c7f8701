-- The memory of a block: one piece, with a place for its value and after it one for each of its words.
use Rattle.std.specs.Prelude.{◌≡◌, ℕ, ◌+◌, ◌*◌, ◌^◌, ◌<◌, [], max}
use Rattle.std.specs.Int.{next_multiple_of}
use mir.Syntax.{Ty, ty_array, ty_struct, tcons, tnil}
use mir.Raw.{raw}
use prog.Memory.{up, size, align}
use base.Fml.{Fml, ftrue, fsep, fex, fwand, froom}
use denote.RattleType.{RattleType}
use denote.Memory.{lone}
use denote.RawPtr.{Ptr, block_of, count_of, in_block, ◌+ₚ◌}
use Rattle.core.specs.Align.{IsLayout}

-- so many words of that size and alignment behind a value of this one are no longer than a piece of memory can be
pub record IsShort (bytes alignment word_bytes word_alignment n : ℕ) : Type 0 where
  pub value_fits : bytes < 2 ^ 63
  pub words_fit : word_bytes * n < 2 ^ 63
  pub both_fit : IsLayout (next_multiple_of bytes word_alignment + word_bytes * n) (max alignment word_alignment)

module _ (R W : RattleType) where
  -- what a piece with so many words is allocated for
  abbrev pub piece_of : ℕ → Ty
  piece_of n = ty_struct [] (tcons (raw (lone R.mir)) (tcons (raw (ty_array (lone W.mir) n)) tnil))

  -- where the value's place begins, and the first word's
  abbrev pub value_from : ℕ
  value_from = up (align (raw (lone R.mir))) 0

  abbrev pub words_from : ℕ
  words_from = up (align (raw (lone W.mir))) (value_from + size (raw (lone R.mir)))

  -- the places, each empty
  abbrev pub places : ℕ → ℕ → ℕ → Fml
  places n b o = fsep (froom (raw (lone R.mir)) b (o + value_from)) (fsep (froom (raw (ty_array (lone W.mir) n)) b (o + words_from)) ftrue)

  abbrev pub ShortPiece : ℕ → Type 0
  ShortPiece n = IsShort (size (raw (lone R.mir))) (align (raw (lone R.mir))) (size (raw (lone W.mir))) (align (raw (lone W.mir))) n

  -- what is left of a piece at p without its places, the first word's at w: what makes it whole with them, and the right to free it
  abbrev pub frame : (Ty → Ptr → Fml) → ℕ → Ptr → Ptr → Fml
  frame token n p w = in_block p (fsep (fex (ShortPiece n × (w ≡ p +ₚ words_from)) (λ _. ftrue))
      (fsep (fwand (places n (block_of p) (count_of p)) (froom (piece_of n) (block_of p) (count_of p))) (token (piece_of n) p)))
