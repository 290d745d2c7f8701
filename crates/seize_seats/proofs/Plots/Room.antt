-- Memory for words, as it is had and given back. Assumes `Logic`.
use Rattle.std.proofs.Common.{◌≡◌, ℕ, ◌*◌, ◌^◌, ◌<◌, false, List, [], ◌∷◌, length, replicate, refl, sym, arith, w64}
use Rattle.std.proofs.lemmas.List.{length-replicate}
use seplogic.Ra.Ura.{Ura}
use mir.Syntax.{ty_int, ty_array}
use prog.Capped.{capped_is}
use base.Logic.{ent}
use base.Fml.{Fml, froom}
use types.Logic.{Logic, sem}
use types.Kit.{‵, given, learn, ◌$◌, ◌∵◌, !, qed, fjoin, flt_i, use1, rewrite, done}
use denote.Builtin.{u64}
use denote.RawPtr.{block_ptr}
use Rattle.core.specs.Allocator.{HasLayout}
use Rattle.core.specs.Mem.Slots.Ownership.{owned, slots}
use Rattle.seize_seats.specs.Seats.Owned.{row}
use Rattle.seize_seats.proofs.Seats.Places.Holes.{holes_out, words_room}
use Rattle.seize_seats.proofs.Seats.Places.Slotted.{Whole, Fits, whole_out}

-- how memory for so many words is asked for, and given back
pub laid_out : (n : ℕ) → n * 8 < 2 ^ 63 → HasLayout (ty_array (ty_int w64) n) (n * 8) 8
laid_out n small = (capped_is (n * 8) (omega (arith, small)), refl)

module _ {M : Type 1} {𝓤 : Ura M} (𝓛 : Logic 𝓤) (n b o : ℕ) where
  open 𝓛 use {H}

  -- as what empty places held last
  abbrev pub naughts : List ℕ
  naughts = replicate n 0

  abbrev pub Empty : Fml
  Empty = owned u64 (block_ptr b o) (length naughts) naughts (replicate (length naughts) false)

  pub laid : n * 8 < 2 ^ 63 → ent 𝓤 (H.room (ty_array (ty_int w64) n) b o) (sem 𝓛 Empty)
  laid small = let more = length-replicate {A = ℕ} n 0 in qed 𝓛 (‵ (froom (ty_array (ty_int w64) n) b o) ∷ []) ∵
      rewrite ! 0 (λ (k : ℕ). ‵ (froom (ty_array (ty_int w64) k) b o)) (sym more) refl $
      use1 𝓛 (‵ (slots u64 (block_ptr b o) naughts (replicate (length naughts) false))) (holes_out 𝓛 u64 b naughts o) $
      flt_i ! (length naughts * 8) (2 ^ 63) (omega (arith, more, small)) $ fjoin ! $ done !

  pub given_up : (ws : List ℕ) → length ws ≡ n → ent 𝓤 (sem 𝓛 (Whole 𝓛 (block_ptr b o) ws)) (H.room (ty_array (ty_int w64) n) b o)
  given_up ws more = qed 𝓛 (‵ (Whole 𝓛 (block_ptr b o) ws) ∷ []) ∵
      use1 𝓛 (given (Fits 𝓛 (block_ptr b o) ws) (‵ (row b o ws))) (whole_out 𝓛 (block_ptr b o) ws) $ learn ! (λ _.
      use1 𝓛 (‵ (froom (ty_array (ty_int w64) (length ws)) b o)) (words_room 𝓛 u64 b ws o) $
      rewrite ! 0 (λ (k : ℕ). ‵ (froom (ty_array (ty_int w64) k) b o)) more refl $ done !)
