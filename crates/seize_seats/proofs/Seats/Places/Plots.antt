-- The block of a further strip: how it is laid out, and that its room is room for places and for words, which given back make it again. Assumes `Logic`.
use Rattle.std.proofs.Common.{◌≡◌, ℕ, zero, suc, ◌+◌, ◌*◌, ◌/◌, ◌^◌, ◌<◌, max, [], ◌∷◌, refl, sym, ap, ◌∙◌, subst, arith, lit<, w8, w16, w32, w64}
use seplogic.Ra.Ura.{Ura}
use mir.Syntax.{Ty, Width, w128, ty_int, ty_array, ty_struct, tcons, tnil}
use mir.Raw.{raw as bare}
use mir.Val.{bytes}
use prog.Memory.{size, align, capped, up}
use prog.Capped.{capped_is}
use prog.RawLaws.{size-raw, align-raw}
use prog.Align.{align_w, align-bytes}
use base.Logic.{ent, sep, wand, guard, guard_i, apply∗}
use base.Fml.{Fml, ftrue, fsep, froom}
use types.Logic.{Logic, sem}
use types.Kit.{‵, raw, ◌⊛◌, given, learn, check, ◌$◌, ◌∵◌, !, qed, by, split, fsplit, fsplit3, fjoin, fjoin3, frame, assume, use1, use2, rewrite, done}
use denote.RattleType.{RattleType}
use denote.Memory.{lone}
use denote.RawPtr.{Ptr, block_ptr, count_of, Testable}
use contract.Monad.{fact_use}
use Rattle.std.proofs.GlobalToken.{dealloc_token_start}
use Rattle.core.specs.contracts.option.Option.{the_row as OptionOf}
use Rattle.core.specs.Allocator.{HasLayout}
use Rattle.seize_seats.specs.Seats.Doors.{places_type, words_type, block_type, before, block_bytes, fits_again, deed, frees, heap}
use Rattle.seize_seats.specs.Seats.Owned.{stride, words_right}

-- ---- rounded up
up_8 : (v : ℕ) → up 8 v ≡ (v + 7) / 8 * 8
up_8 v = omega arith

up_16 : (m : ℕ) → up 16 (m * 8) ≡ (m + 1) / 2 * 16
up_16 m = omega arith

up_again : (m : ℕ) → up 16 (m * 16 + 0 * 16) ≡ m * 16
up_again m = omega arith

-- from nothing on, at any alignment
up_0 : (w : Width) → up (bytes w) 0 ≡ 0
up_0 w8 = refl
up_0 w16 = refl
up_0 w32 = refl
up_0 w64 = refl
up_0 w128 = refl

most : (w : Width) → max (bytes w) 16 ≡ 16
most w8 = refl
most w16 = refl
most w32 = refl
most w64 = refl
most w128 = refl

module _ (R : RattleType) (n : ℕ) where
  abbrev τ : Ty
  τ = lone (OptionOf R).mir

  abbrev a : ℕ
  a = align τ

  -- where the places and the words begin
  abbrev places_at : ℕ
  places_at = up a 0

  abbrev words_at : ℕ
  words_at = up 8 (places_at + n * stride R)

  abbrev end_at : ℕ
  end_at = up 16 (words_at + n * 5 * 8) + 0 * 16

  first : places_at ≡ 0
  first = ap (λ (k : ℕ). up k 0) (align-bytes τ) ∙ up_0 (align_w τ)

  behind : words_at ≡ before R n * 8
  behind = ap (λ (k : ℕ). up 8 (k + n * stride R)) first ∙ ap (up 8) (let e : 0 + n * stride R ≡ n * stride R = omega arith in e) ∙ up_8 (n * stride R)

  ends : up 16 end_at ≡ block_bytes R n
  ends = let m : ℕ = before R n + n * 5 in
      let here : words_at + n * 5 * 8 ≡ m * 8 = let e = behind in omega (arith, e) in
      ap (λ (k : ℕ). up 16 (up 16 k + 0 * 16)) here ∙ ap (λ (k : ℕ). up 16 (k + 0 * 16)) (up_16 m) ∙ up_again ((m + 1) / 2)

  widest : max a 16 ≡ 16
  widest = ap (λ (k : ℕ). max k 16) (align-bytes τ) ∙ most (align_w τ)

  pub aligned : align (block_type R n) ≡ 16
  aligned = align-raw (ty_struct [] (tcons (places_type R n) (tcons (words_type R (n * 5)) (tcons (ty_array (ty_int w128) 0) tnil)))) ∙ widest

  pub sized : size (block_type R n) ≡ block_bytes R n
  sized = size-raw (ty_struct [] (tcons (places_type R n) (tcons (words_type R (n * 5)) (tcons (ty_array (ty_int w128) 0) tnil))))
      ∙ ap (λ (k : ℕ). up k end_at) widest ∙ ends

  -- how it is asked for, and given back
  pub laid_out : block_bytes R n < 2 ^ 63 → HasLayout (block_type R n) (block_bytes R n) 16
  laid_out small = (capped_is (size (block_type R n)) (let e = sized in omega (arith, e, small)) ∙ sized, ap capped aligned)

  -- what it has fits
  pub fits : block_bytes R n < 2 ^ 63 → ((before R n + n * 5) * 8 < 2 ^ 63) × (n * stride R < 2 ^ 63)
  fits small = (omega (arith, small), omega (arith, small))

  module _ {M : Type 1} {𝓤 : Ura M} (𝓛 : Logic 𝓤) (b o : ℕ) where
    open 𝓛 use {H}

    abbrev Places : ℕ → Fml
    Places k = froom (bare (places_type R n)) b k

    abbrev Words : ℕ → Fml
    Words k = froom (words_type R (n * 5)) b k

    abbrev End : Fml
    End = froom (ty_array (ty_int w128) 0) b (o + up 16 (words_at + n * 5 * 8))

    abbrev Rooms : Fml
    Rooms = fsep (froom (places_type R n) b (o + places_at)) (fsep (Words (o + words_at)) (fsep End ftrue))

    abbrev Whole : Fml
    Whole = froom (ty_struct [] (tcons (places_type R n) (tcons (words_type R (n * 5)) (tcons (ty_array (ty_int w128) 0) tnil)))) b o

    pub spreads : ent 𝓤 (H.room (block_type R n) b o)
        (sep 𝓤 (sem 𝓛 (Places o)) (sep 𝓤 (sem 𝓛 (Words (before R n * 8 + o))) (sem 𝓛 (fits_again R n (block_ptr b o)))))
    spreads =
        let here : o + places_at ≡ o = let e = first in omega (arith, e) in let there : o + words_at ≡ before R n * 8 + o = let e = behind in omega (arith, e) in
        qed 𝓛 (‵ (froom (block_type R n) b o) ∷ []) ∵
        use1 𝓛 (‵ Whole) (𝓛.laws.raw-room (ty_struct [] (tcons (places_type R n) (tcons (words_type R (n * 5)) (tcons (ty_array (ty_int w128) 0) tnil)))) b o) $
        use1 𝓛 (‵ Rooms ⊛ raw (wand 𝓤 (sem 𝓛 Rooms) (sem 𝓛 Whole)))
        (𝓛.laws.room_fields [] (tcons (places_type R n) (tcons (words_type R (n * 5)) (tcons (ty_array (ty_int w128) 0) tnil))) b o) $ split ! $ fsplit3 ! $
        -- [the places; the words; the end; the way back]
        use1 𝓛 (‵ (Places (o + places_at))) (𝓛.laws.room-raw (places_type R n) b (o + places_at)) $
        rewrite ! 0 (λ (k : ℕ). ‵ (Places k)) here refl $ rewrite ! 1 (λ (k : ℕ). ‵ (Words k)) there refl $ frame ! $ frame ! $
        assume ! (‵ (fsep (Places o) (Words (before R n * 8 + o)))) $ fsplit ! $
        rewrite ! 0 (λ (k : ℕ). ‵ (Places k)) (sym here) refl $
        use1 𝓛 (‵ (froom (places_type R n) b (o + places_at))) (𝓛.laws.raw-room (places_type R n) b (o + places_at)) $ rewrite ! 1 (λ (k : ℕ). ‵ (Words k)) (sym there) refl $ fjoin3 ! $
        use2 𝓛 (‵ Whole) (apply∗ 𝓤 (sem 𝓛 Rooms) (sem 𝓛 Whole)) $ by ! (𝓛.laws.room-raw (ty_struct [] (tcons (places_type R n) (tcons (words_type R (n * 5)) (tcons (ty_array (ty_int w128) 0) tnil)))) b o)

    -- the block is whole again
    pub gathers : ent 𝓤 (sep 𝓤 (sem 𝓛 (Places o)) (sep 𝓤 (sem 𝓛 (Words (before R n * 8 + o))) (sem 𝓛 (fits_again R n (block_ptr b o))))) (H.room (block_type R n) b o)
    gathers = qed 𝓛 (‵ (Places o) ∷ ‵ (Words (before R n * 8 + o)) ∷ ‵ (fits_again R n (block_ptr b o)) ∷ []) ∵ fjoin ! $
        by ! (apply∗ 𝓤 (sem 𝓛 (fsep (Places o) (Words (before R n * 8 + o)))) (H.room (block_type R n) b o))

-- whoever may give a block back can compare its address with null
pub tested : {M : Type 1} {𝓤 : Ura M} (𝓛 : Logic 𝓤) (R : RattleType) (n : ℕ) (p : Ptr)
    → ent 𝓤 (sem 𝓛 (deed R frees n p)) (guard 𝓤 (Testable p) (sem 𝓛 (deed R frees n p)))
tested {𝓤 = 𝓤} 𝓛 R n p = let D : Fml = frees (block_type R n) p in
    qed 𝓛 (‵ (deed R frees n p) ∷ []) ∵ fsplit ! $
    use1 𝓛 (given (count_of p ≡ 0) (‵ D)) (fact_use 𝓤 (count_of p ≡ 0) (dealloc_token_start 𝓛 heap (block_type R n) p) (guard_i 𝓤 (count_of p ≡ 0) (sem 𝓛 D))) $
    learn ! (λ at. check ! (subst (λ (k : ℕ). k < 2 ^ 63) (sym at) (lit< tt)) $ fjoin ! $ done !)

-- and so whoever may give words back
pub words_tested : {M : Type 1} {𝓤 : Ura M} (𝓛 : Logic 𝓤) (n : ℕ) (p : Ptr) → 0 < n → ent 𝓤 (sem 𝓛 (words_right n p)) (guard 𝓤 (Testable p) (sem 𝓛 (words_right n p)))
words_tested 𝓛 zero p lt = absurd (omega (arith, lt))
words_tested {𝓤 = 𝓤} 𝓛 (suc n) p lt = let T : Ty = ty_array (ty_int w64) (suc n) in let D : Fml = frees T p in
    qed 𝓛 (‵ D ∷ []) ∵ use1 𝓛 (given (count_of p ≡ 0) (‵ D)) (fact_use 𝓤 (count_of p ≡ 0) (dealloc_token_start 𝓛 heap T p) (guard_i 𝓤 (count_of p ≡ 0) (sem 𝓛 D))) $
    learn ! (λ at. check ! (subst (λ (k : ℕ). k < 2 ^ 63) (sym at) (lit< tt)) $ done !)
