-- Two seats come to know something else at once, by what both knew: one opening, and no step of the machine. Assumes `Logic`.
use Rattle.std.specs.Prelude.{slice_get, slice_set}
use Rattle.std.proofs.Common.{◌≡◌, ◌≢◌, ◌⊎◌, inl, inr, ℕ, List, [], ◌∷◌, refl, sym, ◌∙◌, Some}
use Rattle.std.proofs.lemmas.Bool.{cases_eq}
use seplogic.Ra.Ura.{Ura}
use base.Share.{three_quarters}
use base.Logic.{SProp, ent, sep, upd, upd_i}
use base.Fml.{Lft, Share, Fml, ftrue, fsep, fex}
use types.Logic.{Logic, sem}
use types.Kit.{‵, raw, ◌⊛◌, given, ◌$◌, ◌∵◌, !, qed, move, split, split3, fjoin, fjoin3, fpack, pick, learn, frame, suffices, settle, use2, rewrite, done}
use denote.RattleType.{RattleType}
use denote.RawPtr.{Ptr}
use denote.Steps.{nothing}
use Rattle.seize_seats.specs.Seats.State.{State, Meets}
use Rattle.seize_seats.specs.Seats.Lines.{AreLaid}
use Rattle.seize_seats.specs.Seats.Errands.{ViewCode, coded_of}
use Rattle.seize_seats.specs.Seats.Owned.{Pieces, fact, sitting, age, BaseId, Inside, state_of, standing, inner, words_share}
use Rattle.seize_seats.proofs.Seats.Views.Ledgers as Ledgers
use Rattle.seize_seats.proofs.Seats.Views.Sitters as Sitters
use Rattle.seize_seats.proofs.Seats.Stepping.Moves as Moves

module _ {M : Type 1} {𝓤 : Ura M} (𝓛 : Logic 𝓤) (R : RattleType) (own : Pieces R.Denot) {V W : Type 0} (cv : ViewCode V) (holds : State R.Denot V W → Type 0) (keeps : V → V → W → ℕ
    → Type 0) (p : Ptr) (z : BaseId) (i : ℕ) (v : V) (j : ℕ) (u : V) (so : V → V → Type 0)
    (same : (w x : V) → so w x → (cv.away w ≡ cv.away v) × (cv.away x ≡ cv.away u)) (law : Meets holds i v j u so) where
  open 𝓛 use {H, A}

  abbrev Pr : Type 2
  Pr = SProp 𝓤

  abbrev ◌⊢◌ : Pr → Pr → Type 1
  P ⊢ Q = ent 𝓤 P Q

  abbrev ◌∗◌ : Pr → Pr → Pr
  P ∗ Q = sep 𝓤 P Q

  abbrev ⟦◌⟧ : Fml → Pr
  ⟦ P ⟧ = sem 𝓛 P

  infix 26 ◌⊢◌
  infixr 35 ◌∗◌
  abbrev I : Fml
  I = inner R own cv holds p z

  abbrev In : Type 0
  In = Inside R.Denot V W

  abbrev seat : ℕ → V → Fml
  seat = Moves.seat 𝓛 R own cv holds keeps p z

  abbrev Led : V → List V → Fml
  Led = sitting (age z) cv z.views_name

  -- both seats, at views of which this is so
  abbrev pub both : V × V → Fml
  both w = fsep (fact (so w.0 w.1)) (fsep (seat i w.0) (seat j w.1))

  abbrev pub met : Fml
  met = fex (V × V) both

  abbrev Two : Pr
  Two = ⟦ seat i v ⟧ ∗ ⟦ seat j u ⟧

  abbrev Met : Pr
  Met = ⟦ I ⟧ ∗ ⟦ met ⟧

  -- they are two seats
  apart : (i ≡ j) ⊎ (i ≢ j) → ⟦ I ⟧ ∗ Two ⊢ upd 𝓤 Met
  apart (inl one) = qed 𝓛 (‵ I ∷ (‵ (seat i v) ⊛ ‵ (seat j u)) ∷ []) ∵ move ! (1 ∷ []) $ split ! $ rewrite ! 1 (λ (k : ℕ). ‵ (seat k u)) (sym one) refl $
      use2 𝓛 (given ⊥ (‵ (seat i v) ⊛ ‵ (seat i u))) (Ledgers.once 𝓛 (coded_of cv) z.views_name i v u) $ learn ! (λ no. absurd no)
  apart (inr ne) = qed 𝓛 (‵ I ∷ (‵ (seat i v) ⊛ ‵ (seat j u)) ∷ []) ∵ move ! (1 ∷ []) $ split ! $ move ! (2 ∷ 0 ∷ []) $
      use2 𝓛 (Moves.opening 𝓛 R own cv holds keeps p z i v) (Moves.opened 𝓛 R own cv holds keeps p z i v) $ pick ! (λ t. learn ! (λ g. split3 ! $ move ! (1 ∷ 3 ∷ []) $
      use2 𝓛 (given (slice_get t.views j ≡ Some u) (‵ (Led t.blank t.views) ⊛ ‵ (seat j u)))
      (Sitters.sits 𝓛 (age z) cv z.views_name t.blank t.views j three_quarters u) $
      learn ! (λ at. split ! $
      -- [the views; the other; the memory; the one]
      let l = law (state_of z t) g.0 g.2 at ne in let v' : V = l.0 in let u' : V = l.1 in
      let us : List V = slice_set t.views i v' in let ws : List V = slice_set us j u' in
      let there : slice_get us j ≡ Some u = Ledgers.other_view t.views i j v' (λ e. ne (sym e)) ∙ at in
      let n : In = record { parts = t.parts; blank = t.blank; views = ws; world = t.world } in
      move ! (0 ∷ 3 ∷ []) $ use2 𝓛 (raw (upd 𝓤 (⟦ Led t.blank us ⟧ ∗ ⟦ seat i v' ⟧))) (Sitters.turns 𝓛 (age z) cv z.views_name t.blank t.views i v v' g.2 (same v' u' l.3).0) $
      settle 𝓛 Met (‵ (Led t.blank us) ⊛ ‵ (seat i v')) $ split ! $ move ! (0 ∷ 2 ∷ []) $
      use2 𝓛 (raw (upd 𝓤 (⟦ Led t.blank ws ⟧ ∗ ⟦ seat j u' ⟧))) (Sitters.turns 𝓛 (age z) cv z.views_name t.blank us j u u' there (same v' u' l.3).1) $
      settle 𝓛 Met (‵ (Led t.blank ws) ⊛ ‵ (seat j u')) $ split ! $ suffices ! _ (upd_i 𝓤 Met) $
      -- [the views; the other; the one; the memory]
      nothing ! $ fpack ! (holds (state_of z n) × AreLaid z.roots z.count n.parts) (λ _. ftrue) (l.2, g.1) $ move ! (4 ∷ 1 ∷ 0 ∷ []) $ fjoin3 ! $
      fpack ! In (standing R own cv holds p z) n $ frame ! $
      move ! (1 ∷ 0 ∷ []) $ fjoin ! $ nothing ! $ fpack ! (so v' u') (λ _. ftrue) l.3 $ fjoin ! $ fpack ! (V × V) both (v', u') $ done !)))

  pub meets : (κ : Lft) (q : Share) → ⟦ words_share R own cv holds p z κ ⟧ ∗ A.lft κ q ∗ Two ⊢ H.⇛ (⟦ met ⟧ ∗ A.lft κ q)
  meets κ q = Moves.reaches 𝓛 R own cv holds keeps p z κ q Two ⟦ met ⟧ (apart (cases_eq i j))
