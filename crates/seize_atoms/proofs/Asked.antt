-- How a seat goes on that has asked for the words of a bucket of slots, whatever its door had. Assumes `Logic`.
use Rattle.std.specs.Prelude.{Ok, Err}
use Rattle.std.proofs.Common.{◌≡◌, ℕ, suc, ◌+◌, ◌*◌, ◌<◌, Bool, true, false, [], ◌∷◌, refl, lit<}
use seplogic.Ra.Ura.{Ura}
use base.Logic.{ent}
use base.Fml.{Share, Fml, ftrue}
use types.Logic.{Logic, sem}
use types.Kit.{‵, ◌$◌, ◌∵◌, !, qed, drop, fsplit, fjoin, fpick, fpack, done}
use denote.RattleType.{RattleType}
use denote.RawPtr.{Ptr, null_ptr, block_ptr, InBlock, Testable, count_of}
use denote.Steps.{nothing}
use Rattle.seize_words.specs.OneMemory.Op.{Out, Room, Roomed}
use Rattle.seize_words.specs.declared.fault.Fault.TheVariants.{Memory}
use Rattle.seize_seats.specs.Seats.Errands.{ViewCode, StayAllSo}
use Rattle.seize_seats.specs.Seats.State.{State, Allows}
use Rattle.seize_seats.specs.Seats.Owned.{Pieces, BaseId}
use Rattle.seize_seats.proofs.Seats.Stepping.Moves.{gone_on, next}
use Rattle.seize_seats.proofs.Seats.Growing.RoomSteps.{answered}

module _ {M : Type 1} {𝓤 : Ura M} (𝓛 : Logic 𝓤) (R : RattleType) (own : Pieces R.Denot) {V W : Type 0} (cv : ViewCode V) (holds : State R.Denot V W → Type 0) (keeps : V → V → W → ℕ
    → Type 0) (p : Ptr) (z : BaseId) (id : ℕ) (v : V) (j e : ℕ) (few : j < 32) (at : e ≡ j * 8 + (256 + count_of z.doors)) (so : Out R.Denot → V → Type 0)
    (same : StayAllSo cv.away v so) (law : Allows holds keeps id v (Room (suc j)) so) (q : Share) where
  abbrev pub Answered : Bool → Ptr → V → Type 0
  Answered last w u =
      Testable w × (cv.away u ≡ cv.away v) × (InBlock w → so (Roomed (Ok tt)) u) × (w ≡ null_ptr → last ≡ true → so (Roomed (Err Memory)) u)
      × (w ≡ null_ptr → last ≡ false → u ≡ v)

  abbrev Told : Bool → Ptr → Fml
  Told last w = answered 𝓛 R own cv holds keeps p z id v j e few at so same law q last w

  abbrev Then : (V → Type 0) → Fml
  Then such = gone_on 𝓛 R own cv holds keeps p z id such

  abbrev Next : (V → Type 0) → V → Fml
  Next such u = next 𝓛 R own cv holds keeps p z id such u

  pub answers : (last : Bool) (w : Ptr) → ent 𝓤 (sem 𝓛 (Told last w)) (sem 𝓛 (Then (Answered last w)))
  answers last (block_ptr c o) = let w : Ptr = block_ptr c o in let is : V → Type 0 = Answered last w in
      qed 𝓛 (‵ (Told last w) ∷ []) ∵ fsplit ! $ fpick ! (λ test. drop ! $ fpick ! (λ u. fsplit ! $ fpick ! (λ goes. drop ! $
      nothing ! $ fpack ! (is u) (λ _. ftrue) (test, same (Roomed (Ok tt)) u goes, λ _. goes, λ none. absurd (cc none), λ none. absurd (cc none)) $ fjoin ! $
      fpack ! V (Next is) u $ done !)))
  answers true null_ptr = let is : V → Type 0 = Answered true null_ptr in
      qed 𝓛 (‵ (Told true null_ptr) ∷ []) ∵ fpick ! (λ u. fsplit ! $ fpick ! (λ goes. drop ! $
      nothing ! $ fpack ! (is u) (λ _. ftrue) (lit< tt, same (Roomed (Err Memory)) u goes, λ there. absurd there, λ _ _. goes, λ _ no. absurd (cc no)) $ fjoin ! $
      fpack ! V (Next is) u $ done !))
  answers false null_ptr = let is : V → Type 0 = Answered false null_ptr in
      qed 𝓛 (‵ (Told false null_ptr) ∷ []) ∵
      nothing ! $ fpack ! (is v) (λ _. ftrue) (lit< tt, refl, λ there. absurd there, λ _ no. absurd (cc no), λ _ _. refl) $ fjoin ! $ fpack ! V (Next is) v $ done !
