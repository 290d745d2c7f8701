-- The words in the first of some spots, and in the others; and those of blocks whose values places hold. Assumes `Logic`.
use Rattle.std.specs.Prelude.{map, slice_index_or, ◌+◌, ◌<◌, zero, suc, length, drop as rest_from}
use Rattle.std.proofs.Common.{◌≡◌, ℕ, List, [], ◌∷◌, Option, Some, None, refl, sym, ap, ◌∙◌, arith}
use seplogic.Ra.Ura.{Ura}
use base.Logic.{ent, sep, emp, id⊢}
use base.Fml.{ftrue}
use types.Logic.{Logic, sem}
use types.Kit.{‵, ◌$◌, ◌∵◌, !, qed, move, drop, fsplit, fjoin, fpack, use0, use1, done}
use denote.RawPtr.{Ptr, null_ptr}
use denote.Steps.{nothing}
use Rattle.seize_seats.specs.Seats.Strips.{Strip}
use Rattle.seize_seats.specs.Seats.Owned.{bucket_pieces, pieces}
use Rattle.seize_seats.specs.Plots.Pieces.{AreAt, piece_at, some_piece, all_pieces, first_spot, other_spots, kept_words, spot_of, bucket_spot}
use Rattle.seize_seats.specs.declared.kept.Kept.{Kept}

module _ {M : Type 1} {𝓤 : Ura M} (𝓛 : Logic 𝓤) where
  -- there are none at null
  pub no_words : ent 𝓤 (emp 𝓤) (sem 𝓛 (some_piece (null_ptr, 0)))
  no_words = qed 𝓛 [] ∵ nothing ! $ nothing ! $ fjoin ! $ nothing ! $
      fpack ! (AreAt null_ptr 0 []) (λ _. ftrue) (refl, λ low. absurd (omega (arith, low))) $ fjoin ! $
      fpack ! (List ℕ) (λ ws. piece_at null_ptr 0 ws) [] $ done !

  pub first : (ss : List (Ptr × ℕ)) → ent 𝓤 (sem 𝓛 (all_pieces ss)) (sep 𝓤 (sem 𝓛 (some_piece (first_spot ss))) (sem 𝓛 (all_pieces (other_spots ss))))
  first [] = qed 𝓛 (‵ ftrue ∷ []) ∵ use0 𝓛 (‵ (some_piece (null_ptr, 0))) no_words $ done !
  first (s ∷ ss) = id⊢ 𝓤 _

  pub spots : {T : Type 0} (xs : List (Option (Kept T))) → ent 𝓤 (sem 𝓛 (pieces kept_words xs)) (sem 𝓛 (all_pieces (map spot_of xs)))
  spots [] = id⊢ 𝓤 _
  spots (None ∷ xs) = qed 𝓛 (‵ (pieces kept_words (None ∷ xs)) ∷ []) ∵ fsplit ! $ drop ! $
      use1 𝓛 (‵ (all_pieces (map spot_of xs))) (spots xs) $ use0 𝓛 (‵ (some_piece (null_ptr, 0))) no_words $ fjoin ! $ done !
  spots (Some x ∷ xs) = qed 𝓛 (‵ (pieces kept_words (Some x ∷ xs)) ∷ []) ∵ fsplit ! $ move ! (1 ∷ []) $
      use1 𝓛 (‵ (all_pieces (map spot_of xs))) (spots xs) $ move ! (1 ∷ []) $
      use1 𝓛 (‵ (some_piece (x.at, x.count))) (id⊢ 𝓤 _) $ fjoin ! $ done !

  -- and those of buckets of slots
  pub bucket_spots : (ss : List Strip) → ent 𝓤 (sem 𝓛 (pieces bucket_pieces (map Some ss))) (sem 𝓛 (all_pieces (map bucket_spot ss)))
  bucket_spots [] = id⊢ 𝓤 _
  bucket_spots (s ∷ ss) = qed 𝓛 (‵ (pieces bucket_pieces (map Some (s ∷ ss))) ∷ []) ∵ fsplit ! $ move ! (1 ∷ []) $
      use1 𝓛 (‵ (all_pieces (map bucket_spot ss))) (bucket_spots ss) $ move ! (1 ∷ []) $
      use1 𝓛 (‵ (some_piece (bucket_spot s))) (id⊢ 𝓤 _) $ fjoin ! $ done !

-- the spots from a place on
pub spot_here : {T : Type 0} (xs : List (Option (Kept T))) (i : ℕ) (x : Option (Kept T)) → i < length xs → x ≡ slice_index_or xs i x
    → first_spot (rest_from i (map spot_of xs)) ≡ spot_of x
spot_here [] i x lt is = absurd (omega (arith, lt))
spot_here (y ∷ ys) zero x lt is = ap spot_of (sym is)
spot_here (y ∷ ys) (suc i) x lt is = spot_here ys i x (omega (arith, lt)) is

spots_on : (ss : List (Ptr × ℕ)) (i : ℕ) → other_spots (rest_from i ss) ≡ rest_from (suc i) ss
spots_on [] zero = refl
spots_on [] (suc i) = refl
spots_on (s ∷ ss) zero = refl
spots_on (s ∷ ss) (suc i) = spots_on ss i

pub spots_after : (ss : List (Ptr × ℕ)) (i : ℕ) → other_spots (rest_from i ss) ≡ rest_from (i + 1) ss
spots_after ss i = let next : suc i ≡ i + 1 = omega arith in spots_on ss i ∙ ap (λ (k : ℕ). rest_from k ss) next
