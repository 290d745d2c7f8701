-- A seat comes to know something else by what another one knows: one opening, and no step of the machine. Assumes `Logic`.
use Rattle.std.specs.Prelude.{slice_get}
use Rattle.std.proofs.Common.{◌≡◌, ◌≢◌, ◌⊎◌, inl, inr, ℕ, [], ◌∷◌, refl, sym, Some}
use Rattle.std.proofs.lemmas.Bool.{cases_eq}
use seplogic.Ra.Ura.{Ura}
use base.Logic.{SProp, ent, sep, upd, upd_i}
use base.Fml.{Lft, Share, Fml}
use types.Logic.{Logic, sem}
use types.Kit.{‵, raw, ◌⊛◌, given, ◌$◌, ◌∵◌, !, qed, by, move, keep, split, split3, pick, learn, suffices, settle, use2, use3, rewrite, done}
use denote.RattleType.{RattleType}
use denote.RawPtr.{Ptr}
use Rattle.seize_seats.specs.Seats.State.{State, Learns}
use Rattle.seize_seats.specs.Seats.Errands.{ViewCode, StaysSo}
use Rattle.seize_seats.specs.Seats.Owned.{Pieces, sitting, age, BaseId, Inside, state_of, inner, words_share, seen}
use Rattle.seize_seats.proofs.Seats.Views.Sitters as Sitters
use Rattle.seize_seats.proofs.Seats.Stepping.Moves as Moves

module _ {M : Type 1} {𝓤 : Ura M} (𝓛 : Logic 𝓤) (R : RattleType) (own : Pieces R.Denot) {V W : Type 0} (cv : ViewCode V) (holds : State R.Denot V W → Type 0) (keeps : V → V → W → ℕ
    → Type 0) (p : Ptr) (z : BaseId) (i : ℕ) (v : V) (j : ℕ) (u : V) (so : V → Type 0) (same : StaysSo cv.away v so) (law : Learns holds keeps i v j u so) where
  open 𝓛 use {H, A}

  abbrev Pr : Type 2
  Pr = SProp 𝓤

  abbrev ◌⊢◌ : Pr → Pr → Type 1
  P ⊢ Q = ent 𝓤 P Q

  abbrev ◌∗◌ : Pr → Pr → Pr
  P ∗ Q = sep 𝓤 P Q

  abbrev ⟦◌⟧ : Fml → Pr
  ⟦ P ⟧ = sem 𝓛 P

  infix 26 ◌⊢◌
  infixr 35 ◌∗◌
  abbrev I : Fml
  I = inner R own cv holds p z

  abbrev In : Type 0
  In = Inside R.Denot V W

  abbrev seat : Fml
  seat = Moves.seat 𝓛 R own cv holds keeps p z i v

  -- a share of the view of the other one
  abbrev pub other : Share → Fml
  other q = seen cv.code z.views_name q j u

  abbrev gone : Fml
  gone = Moves.gone_on 𝓛 R own cv holds keeps p z i so

  abbrev Ws : In → Fml
  Ws t = Moves.Ws 𝓛 R own cv holds keeps p z t.parts

  abbrev Led : In → Fml
  Led t = sitting (age z) cv z.views_name t.blank t.views

  abbrev Learnt : Share → Pr
  Learnt q = ⟦ I ⟧ ∗ ⟦ gone ⟧ ∗ ⟦ other q ⟧

  -- they are two seats
  apart : (q : Share) (t : In) → Moves.Stands 𝓛 R own cv holds keeps p z i v t → (i ≡ j) ⊎ (i ≢ j)
      → ⟦ Ws t ⟧ ∗ ⟦ Led t ⟧ ∗ ⟦ seat ⟧ ∗ ⟦ other q ⟧ ⊢ upd 𝓤 (Learnt q)
  apart q t g (inl one) = qed 𝓛 (‵ (Ws t) ∷ ‵ (Led t) ∷ ‵ seat ∷ ‵ (other q) ∷ []) ∵
      rewrite ! 3 (λ (k : ℕ). ‵ (seen cv.code z.views_name q k u)) (sym one) refl $ keep ! (1 ∷ 2 ∷ 3 ∷ []) $
      by ! (Sitters.crowded 𝓛 (age z) cv z.views_name t.blank t.views i q v u (upd 𝓤 (Learnt q)))
  apart q t g (inr ne) = qed 𝓛 (‵ (Ws t) ∷ ‵ (Led t) ∷ ‵ seat ∷ ‵ (other q) ∷ []) ∵ move ! (1 ∷ 3 ∷ []) $
      use2 𝓛 (given (slice_get t.views j ≡ Some u) (‵ (Led t) ⊛ ‵ (other q))) (Sitters.sits 𝓛 (age z) cv z.views_name t.blank t.views j q u) $
      learn ! (λ at. split ! $
      -- [the views; the other; the memory; the seat]
      move ! (2 ∷ 0 ∷ 3 ∷ []) $
      use3 𝓛 (raw (upd 𝓤 (⟦ I ⟧ ∗ ⟦ gone ⟧))) (Moves.back 𝓛 R own cv holds keeps p z i v t t.parts so same g.1 g.2 (law (state_of z t) g.0 g.2 at ne)) $
      settle 𝓛 (Learnt q) (‵ I ⊛ ‵ gone) $ split ! $ suffices ! _ (upd_i 𝓤 (Learnt q)) $ done !)

  learnt : (q : Share) → ⟦ I ⟧ ∗ ⟦ seat ⟧ ∗ ⟦ other q ⟧ ⊢ upd 𝓤 (Learnt q)
  learnt q = qed 𝓛 (‵ I ∷ (‵ seat ⊛ ‵ (other q)) ∷ []) ∵ move ! (1 ∷ []) $ split ! $ move ! (2 ∷ 0 ∷ []) $
      use2 𝓛 (Moves.opening 𝓛 R own cv holds keeps p z i v) (Moves.opened 𝓛 R own cv holds keeps p z i v) $ pick ! (λ t. learn ! (λ g. split3 ! $
      by ! (apart q t g (cases_eq i j))))

  pub learns : (κ : Lft) (q r : Share) → ⟦ words_share R own cv holds p z κ ⟧ ∗ A.lft κ q ∗ ⟦ seat ⟧ ∗ ⟦ other r ⟧ ⊢ H.⇛ ((⟦ gone ⟧ ∗ ⟦ other r ⟧) ∗ A.lft κ q)
  learns κ q r = Moves.reaches 𝓛 R own cv holds keeps p z κ q (⟦ seat ⟧ ∗ ⟦ other r ⟧) (⟦ gone ⟧ ∗ ⟦ other r ⟧) (learnt r)
