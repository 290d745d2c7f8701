-- Words of a block's own, and the right to give their memory back.
use Rattle.std.specs.Prelude.{◌≡◌, ℕ, ◌-◌, ◌*◌, ◌^◌, ◌<◌, List, [], ◌∷◌, Option, Some, None, length, map, drop}
use mir.Syntax.{Ty, w64, ty_int, ty_array}
use base.Fml.{Fml, ftrue, fsep, fex}
use denote.RawPtr.{Ptr, null_ptr, block_of, count_of, InBlock}
use Rattle.seize_seats.specs.Seats.Strips.{Strip}
use Rattle.seize_seats.specs.Seats.Doors.{AreBehind}
use Rattle.seize_seats.specs.Seats.Buckets.{IsBucket}
use Rattle.seize_seats.specs.Seats.Owned.{Pieces, fact, row, words_right}
use Rattle.seize_seats.specs.declared.kept.Kept.{Kept}

-- the right to free the memory of so many words, which lie there; holds: the right to free a block of a type
abbrev pub words_held : (Ty → Ptr → Fml) → ℕ → Ptr → Fml
words_held holds n p = holds (ty_array (ty_int w64) n) p

abbrev pub AreAt : Ptr → ℕ → List ℕ → Type 0
AreAt p n ws = (length ws ≡ n) × (0 < n → InBlock p × (n * 8 < 2 ^ 63))

-- so many words there, with the right to free their memory, if they are any
abbrev pub piece_at : Ptr → ℕ → List ℕ → Fml
piece_at p n ws = fsep (fact (AreAt p n ws)) (fsep (row (block_of p) (count_of p) ws) (words_right n p))

-- words that lie there
abbrev pub some_piece : Ptr × ℕ → Fml
some_piece s = fex (List ℕ) (λ ws. piece_at s.0 s.1 ws)

-- and so in each of these spots
abbrev pub all_pieces : List (Ptr × ℕ) → Fml
all_pieces [] = ftrue
all_pieces (s ∷ ss) = fsep (some_piece s) (all_pieces ss)

abbrev pub first_spot : List (Ptr × ℕ) → Ptr × ℕ
first_spot [] = (null_ptr, 0)
first_spot (s ∷ ss) = s

abbrev pub other_spots : List (Ptr × ℕ) → List (Ptr × ℕ)
other_spots [] = []
other_spots (s ∷ ss) = ss

module _ {T : Type 0} where
  abbrev pub value_of : Kept T → T
  value_of x = x.value

  abbrev pub lies_at : Kept T → Ptr
  lies_at x = x.at

  abbrev pub kept_words : Pieces (Kept T)
  kept_words = record { at = lies_at; count = λ x. x.count }

  -- where the own words of a block lie, and how many they are
  abbrev pub lies : Kept T → Ptr × ℕ
  lies x = (x.at, x.count)

  -- and so of the block whose value is in a place
  abbrev pub spot_of : Option (Kept T) → Ptr × ℕ
  spot_of None = (null_ptr, 0)
  spot_of (Some x) = lies x

-- where the words of a bucket of slots lie, and how many they are
abbrev pub bucket_spot : Strip → Ptr × ℕ
bucket_spot s = (s.words, s.size * 16)

-- The doors from the one of this index on have the addresses of the buckets whose words lie in these spots; the first of the 32 is that of index 32.
abbrev pub AreBucketsBehind : ℕ → List (Ptr × ℕ) → List Ptr → Type 0
AreBucketsBehind door spots doors =
    (ss : List Strip) × (spots ≡ map bucket_spot ss) × AreBehind IsBucket (door - 32) ss (drop door doors)
