-- The first of some strips that are alone, and what a new block is made of. Assumes `Logic`.
use Rattle.std.proofs.Common.{◌≡◌, ℕ, ◌+◌, ◌*◌, ◌^◌, ◌<◌, Bool, false, List, [], ◌∷◌, length, replicate, refl, sym, subst, arith, Option, None}
use Rattle.std.proofs.lemmas.List.{length-replicate}
use seplogic.Ra.Ura.{Ura}
use mir.Raw.{raw as bare}
use mir.Syntax.{Ty}
use base.Logic.{ent, sep}
use base.Fml.{Fml, froom}
use types.Logic.{Logic, sem}
use types.Kit.{‵, ◌⊛◌, given, learn, ◌$◌, ◌∵◌, !, qed, move, drop, split, fsplit, fjoin, frame, flt_i, use1, use3, rewrite, done}
use denote.RattleType.{RattleType}
use denote.Builtin.{u64}
use denote.RawPtr.{Ptr, block_ptr, InBlock}
use Rattle.core.specs.contracts.option.Option.{the_row as OptionOf}
use Rattle.core.specs.Mem.Slots.Ownership.{owned, slots}
use Rattle.seize_seats.specs.Seats.Strips.{Strip, further}
use Rattle.seize_seats.specs.Seats.Doors.{places_type, words_type, block_type, before, block_bytes, words_from, fits_again, deed}
use Rattle.seize_seats.specs.Seats.Owned.{stride, row}
use Rattle.seize_seats.proofs.Seats.Places.Plots.{fits, spreads, gathers}
use Rattle.seize_seats.specs.Seats.Plots.{HasFirst, AreEmpty}
use Rattle.seize_seats.proofs.Seats.Places.Holes.{holes_out, holes_in, words_room}
use Rattle.seize_seats.proofs.Seats.Places.Slotted.{Whole, Fits, whole_out}

module _ (R : RattleType) where
  abbrev pub plot : Ptr → ℕ → ℕ → Strip
  plot p n f = record { words = p; skip = before R n; values = p; first = f; size = n }

  pub first_is : (p : Ptr) (n : ℕ) (l : List Strip) → HasFirst R p n l → (f : ℕ) × (ss : List Strip) × (l ≡ plot p n f ∷ ss) × (further l ≡ ss) × InBlock p
  first_is p n [] has = absurd has
  first_is p n (s ∷ ss) has = (
    s.first,
    ss,
    (λ i. record { words = has.0 i; skip = has.3 i; values = has.2 i; first = s.first; size = has.4 i } ∷ ss),
    refl,
    has.1,
  )

module _ {M : Type 1} {𝓤 : Ura M} (𝓛 : Logic 𝓤) (R : RattleType) (holds : Ty → Ptr → Fml) (n b o : ℕ) (small : block_bytes R n < 2 ^ 63) where
  open 𝓛 use {H}

  abbrev p : Ptr
  p = block_ptr b o

  abbrev O : RattleType
  O = OptionOf R

  -- none and 0, as what empty places held last
  abbrev pub nones : List (Option R.Denot)
  nones = replicate n None

  abbrev pub naughts : List ℕ
  naughts = replicate (n * 5) 0

  abbrev pub Places : Fml
  Places = owned O p (length nones) nones (replicate (length nones) false)

  abbrev pub Words : Fml
  Words = owned u64 (words_from R n p) (length naughts) naughts (replicate (length naughts) false)

  pub parts : ent 𝓤 (sep 𝓤 (H.room (block_type R n) b o) (sem 𝓛 (holds (block_type R n) p)))
      (sep 𝓤 (sem 𝓛 Places) (sep 𝓤 (sem 𝓛 Words) (sem 𝓛 (deed R holds n p))))
  parts = let e : ℕ = before R n * 8 + o in let many = length-replicate {A = Option R.Denot} n None in let more = length-replicate {A = ℕ} (n * 5) 0 in
      let fit = fits R n small in let words = fit.0 in
      let fit₁ : length nones * stride R < 2 ^ 63 = subst (λ (k : ℕ). k * stride R < 2 ^ 63) (sym many) fit.1 in
      let fit₂ : length naughts * 8 < 2 ^ 63 = omega (arith, more, words) in
      qed 𝓛 (‵ (froom (block_type R n) b o) ∷ ‵ (holds (block_type R n) p) ∷ []) ∵
      use1 𝓛 (‵ (froom (bare (places_type R n)) b o) ⊛ (‵ (froom (words_type R (n * 5)) b e) ⊛ ‵ (fits_again R n p))) (spreads R n 𝓛 b o) $ split ! $ move ! (1 ∷ []) $ split ! $
      -- [the words; the way back; the places; the right]
      rewrite ! 0 (λ (k : ℕ). ‵ (froom (words_type R k) b e)) (sym more) refl $
      use1 𝓛 (‵ (slots u64 (block_ptr b e) naughts (replicate (length naughts) false))) (holes_out 𝓛 u64 b naughts e) $ flt_i ! (length naughts * 8) (2 ^ 63) fit₂ $ fjoin ! $
      move ! (2 ∷ []) $ use1 𝓛 (‵ (froom (places_type R n) b o)) (𝓛.laws.raw-room (places_type R n) b o) $
      rewrite ! 0 (λ (k : ℕ). ‵ (froom (places_type R k) b o)) (sym many) refl $
      use1 𝓛 (‵ (slots O p nones (replicate (length nones) false))) (holes_out 𝓛 O b nones o) $ flt_i ! (length nones * stride R) (2 ^ 63) fit₁ $ fjoin ! $
      frame ! $ frame ! $ move ! (1 ∷ 0 ∷ []) $ fjoin ! $ done !

module _ {M : Type 1} {𝓤 : Ura M} (𝓛 : Logic 𝓤) (R : RattleType) (holds : Ty → Ptr → Fml) (n b o : ℕ) (xs : List (Option R.Denot)) (fs : List Bool) (ws : List ℕ) where
  open 𝓛 use {H}

  pub whole : length xs ≡ n → length fs ≡ length xs → AreEmpty fs (length xs) → length ws ≡ n * 5
      → ent 𝓤 (sep 𝓤 (sem 𝓛 (owned (OptionOf R) (block_ptr b o) (length xs) xs fs)) (sep 𝓤 (sem 𝓛 (Whole 𝓛 (words_from R n (block_ptr b o)) ws))
      (sem 𝓛 (deed R holds n (block_ptr b o)))))
      (sep 𝓤 (H.room (block_type R n) b o) (sem 𝓛 (holds (block_type R n) (block_ptr b o))))
  whole many even none more = let p : Ptr = block_ptr b o in let e : ℕ = before R n * 8 + o in
      qed 𝓛 (‵ (owned (OptionOf R) p (length xs) xs fs) ∷ ‵ (Whole 𝓛 (words_from R n p) ws) ∷ ‵ (deed R holds n p) ∷ []) ∵
      fsplit ! $ drop ! $ use1 𝓛 (‵ (froom (places_type R (length xs)) b o)) (holes_in 𝓛 (OptionOf R) b xs fs o even none) $
      rewrite ! 0 (λ (k : ℕ). ‵ (froom (places_type R k) b o)) many refl $
      use1 𝓛 (‵ (froom (bare (places_type R n)) b o)) (𝓛.laws.room-raw (places_type R n) b o) $ move ! (1 ∷ []) $
      use1 𝓛 (given (Fits 𝓛 (words_from R n p) ws) (‵ (row b e ws))) (whole_out 𝓛 (words_from R n p) ws) $ learn ! (λ _.
      use1 𝓛 (‵ (froom (words_type R (length ws)) b e)) (words_room 𝓛 u64 b ws e) $
      rewrite ! 0 (λ (k : ℕ). ‵ (froom (words_type R k) b e)) more refl $ move ! (2 ∷ []) $ fsplit ! $
      -- [the right; the way back; the words; the places]
      move ! (3 ∷ 2 ∷ 1 ∷ []) $ use3 𝓛 (‵ (froom (block_type R n) b o)) (gathers R n 𝓛 b o) $ frame ! $ done !)
