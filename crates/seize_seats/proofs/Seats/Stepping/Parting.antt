-- A seat steps that is lent to nobody: who is on an errand that is lent a seat has left a part of what that one knows, and the seat that steps has all of it.
-- Assumes `Logic`.
use Rattle.std.proofs.Common.{◌≡◌, [], ◌∷◌, ℕ, Some}
use seplogic.Ra.Ura.{Ura}
use base.Logic.{SProp, ent, sep, upd}
use base.Fml.{Lft, Share, Fml}
use types.Logic.{Logic, sem}
use types.Kit.{‵, ◌⊛◌, given, ◌$◌, ◌∵◌, !, qed, by, move, split, split3, pick, learn, use2}
use denote.RattleType.{RattleType}
use denote.RawPtr.{Ptr}
use Rattle.seize_seats.specs.Seats.State.{State, view_of, Goes}
use Rattle.seize_seats.specs.Seats.Errands.{ViewCode, StaysSo, AreUnlent}
use Rattle.seize_seats.specs.Seats.Owned.{Pieces, sitting, age, BaseId, Inside, state_of, inner, words_share}
use Rattle.seize_seats.proofs.Seats.Views.Sitters as Sitters
use Rattle.seize_seats.proofs.Seats.Stepping.Moves as Moves

module _ {M : Type 1} {𝓤 : Ura M} (𝓛 : Logic 𝓤) (R : RattleType) (own : Pieces R.Denot) {V W : Type 0} (cv : ViewCode V) (holds : State R.Denot V W → Type 0) (keeps : V → V → W → ℕ
    → Type 0) (p : Ptr) (z : BaseId) (id : ℕ) (v : V) (so : V → Type 0) (same : StaysSo cv.away v so) (law : (s : State R.Denot V W) → holds s → view_of s id ≡ Some v
    → AreUnlent cv.away id s.views → Goes holds keeps s s.memory id so) where
  open 𝓛 use {H, A}

  abbrev Pr : Type 2
  Pr = SProp 𝓤

  abbrev ◌⊢◌ : Pr → Pr → Type 1
  P ⊢ Q = ent 𝓤 P Q

  abbrev ◌∗◌ : Pr → Pr → Pr
  P ∗ Q = sep 𝓤 P Q

  abbrev ⟦◌⟧ : Fml → Pr
  ⟦ P ⟧ = sem 𝓛 P

  infix 26 ◌⊢◌
  infixr 35 ◌∗◌
  abbrev I : Fml
  I = inner R own cv holds p z

  abbrev seat : Fml
  seat = Moves.seat 𝓛 R own cv holds keeps p z id v

  abbrev gone : Fml
  gone = Moves.gone_on 𝓛 R own cv holds keeps p z id so

  abbrev Led : Inside R.Denot V W → Fml
  Led t = sitting (age z) cv z.views_name t.blank t.views

  moves : ⟦ I ⟧ ∗ ⟦ seat ⟧ ⊢ upd 𝓤 (⟦ I ⟧ ∗ ⟦ gone ⟧)
  moves = qed 𝓛 (‵ I ∷ ‵ seat ∷ []) ∵ use2 𝓛 (Moves.opening 𝓛 R own cv holds keeps p z id v) (Moves.opened 𝓛 R own cv holds keeps p z id v) $
      pick ! (λ t. learn ! (λ g. split3 ! $ move ! (1 ∷ 2 ∷ []) $
      -- [the views; the seat; the memory]
      use2 𝓛 (given (AreUnlent cv.away id t.views) (‵ (Led t) ⊛ ‵ seat)) (Sitters.unlent 𝓛 (age z) cv z.views_name id v t.blank t.views g.2) $
      learn ! (λ none. split ! $ move ! (2 ∷ 0 ∷ 1 ∷ []) $
      by ! (Moves.back 𝓛 R own cv holds keeps p z id v t t.parts so same g.1 g.2 (law (state_of z t) g.0 g.2 none)))))

  pub parts : (κ : Lft) (q : Share) → ⟦ words_share R own cv holds p z κ ⟧ ∗ A.lft κ q ∗ ⟦ seat ⟧ ⊢ H.⇛ (⟦ gone ⟧ ∗ A.lft κ q)
  parts κ q = Moves.reaches 𝓛 R own cv holds keeps p z κ q ⟦ seat ⟧ ⟦ gone ⟧ moves
