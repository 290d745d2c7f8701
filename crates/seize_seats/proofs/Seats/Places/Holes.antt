-- Places that hold nothing are room, and words that are given up are. Assumes `Logic`.
use Rattle.std.proofs.Common.{◌≡◌, ℕ, suc, ◌+◌, Bool, false, List, [], ◌∷◌, length, replicate, refl, arith, w64}
use seplogic.Ra.Ura.{Ura}
use mir.Syntax.{Ty, ty_int, ty_array}
use mir.Val.{vint}
use base.Logic.{ent}
use base.Fml.{Fml, ftrue, froom}
use types.Logic.{Logic, sem}
use types.Kit.{‵, ◌⊛◌, ◌$◌, ◌∵◌, !, qed, by, move, drop, split, fjoin, use0, use1, rewrite, done}
use denote.RattleType.{RattleType}
use denote.Memory.{lone}
use denote.RawPtr.{block_ptr}
use denote.Steps.{nothing}
use Rattle.core.specs.Mem.Slots.Ownership.{bytes_of, slot, slots}
use Rattle.core.specs.Sync.RawAtomic.{word}
use Rattle.seize_seats.specs.Seats.Owned.{row}
use Rattle.seize_seats.specs.Seats.Plots.{AreEmpty}

module _ {M : Type 1} {𝓤 : Ura M} (𝓛 : Logic 𝓤) (Y : RattleType) (b : ℕ) where
  open 𝓛 use {H}

  abbrev τ : Ty
  τ = lone Y.mir

  abbrev Holes : ℕ → List Y.Denot → List Bool → Fml
  Holes o xs fs = slots Y (block_ptr b o) xs fs

  abbrev Room : ℕ → ℕ → Fml
  Room n o = froom (ty_array τ n) b o

  pub holes_out : (xs : List Y.Denot) (o : ℕ) → ent 𝓤 (sem 𝓛 (Room (length xs) o)) (sem 𝓛 (Holes o xs (replicate (length xs) false)))
  holes_out [] o = qed 𝓛 (‵ (Room 0 o) ∷ []) ∵ drop ! $ nothing ! $ done !
  holes_out (x ∷ xs) o = qed 𝓛 (‵ (Room (suc (length xs)) o) ∷ []) ∵
      use1 𝓛 (‵ (froom τ b o) ⊛ ‵ (Room (length xs) (o + bytes_of Y))) (𝓛.laws.room_uncons τ (length xs) b o) $ split ! $
      use1 𝓛 (‵ (slot Y false (block_ptr b o) x)) (𝓛.laws.room-raw τ b o) $ move ! (1 ∷ []) $
      use1 𝓛 (‵ (Holes (o + bytes_of Y) xs (replicate (length xs) false))) (holes_out xs (o + bytes_of Y)) $ move ! (1 ∷ 0 ∷ []) $ fjoin ! $ done !

  pub holes_in : (xs : List Y.Denot) (fs : List Bool) (o : ℕ) → length fs ≡ length xs → AreEmpty fs (length xs)
      → ent 𝓤 (sem 𝓛 (Holes o xs fs)) (sem 𝓛 (Room (length xs) o))
  holes_in [] fs o even none = qed 𝓛 (‵ ftrue ∷ []) ∵ drop ! $ use0 𝓛 (‵ (Room 0 o)) (𝓛.laws.room_nil τ b o) $ done !
  holes_in (x ∷ xs) [] o even none = absurd (omega (arith, even))
  holes_in (x ∷ xs) (f ∷ fs) o even none = let first : f ≡ false = none 0 (omega arith) in
      qed 𝓛 (‵ (slot Y f (block_ptr b o) x) ∷ ‵ (Holes (o + bytes_of Y) xs fs) ∷ []) ∵
      rewrite ! 0 (λ (g : Bool). ‵ (slot Y g (block_ptr b o) x)) first refl $ use1 𝓛 (‵ (froom τ b o)) (𝓛.laws.raw-room τ b o) $ move ! (1 ∷ []) $
      use1 𝓛 (‵ (Room (length xs) (o + bytes_of Y))) (holes_in xs fs (o + bytes_of Y) (omega (arith, even)) (λ k lt. none (suc k) (omega (arith, lt)))) $
      move ! (1 ∷ 0 ∷ []) $ by ! (𝓛.laws.room_cons τ (length xs) b o)

  -- words, given up
  pub words_room : (ns : List ℕ) (o : ℕ) → ent 𝓤 (sem 𝓛 (row b o ns)) (sem 𝓛 (froom (ty_array (ty_int w64) (length ns)) b o))
  words_room [] o = qed 𝓛 (‵ ftrue ∷ []) ∵ drop ! $ use0 𝓛 (‵ (froom (ty_array (ty_int w64) 0) b o)) (𝓛.laws.room_nil (ty_int w64) b o) $ done !
  words_room (n ∷ ns) o = qed 𝓛 (‵ (word b o n) ∷ ‵ (row b (o + 8) ns) ∷ []) ∵
      use1 𝓛 (‵ (froom (ty_int w64) b o)) (𝓛.laws.at_room (ty_int w64) b o (vint w64 n)) $ move ! (1 ∷ []) $
      use1 𝓛 (‵ (froom (ty_array (ty_int w64) (length ns)) b (o + 8))) (words_room ns (o + 8)) $ move ! (1 ∷ 0 ∷ []) $
      by ! (𝓛.laws.room_cons (ty_int w64) (length ns) b o)
