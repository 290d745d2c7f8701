-- A seat goes on an errand, and comes back: as long as it is on it a part of the token of the memory's lifetime stands in the invariant. Assumes `Logic`.
use Rattle.std.proofs.Common.{◌≡◌, ℕ, List, [], ◌∷◌, set, sym, refl, Some, None}
use seplogic.Ra.Ura.{Ura}
use base.Share
use base.Logic.{SProp, ent, sep, ex, upd, upd_i}
use base.Fml.{Lft, Share, Fml, ftrue, fsep, flft, fobor}
use types.Logic.{Logic, sem}
use types.Kit.{‵, raw, ◌⊛◌, later, ◌$◌, ◌∵◌, !, qed, move, drop, split, split3, join, fsplit, fjoin, fjoin3, fpack, pick, learn, show, frame, suffices, settle, use1, use2, use3, updating, await, rewrite, now, done}
use types.Tokens.{shr_bor-open, obor_close}
use types.Within.{tokens_halve}
use denote.RattleType.{RattleType}
use denote.RawPtr.{Ptr}
use denote.Steps.{nothing}
use Rattle.seize_seats.specs.Seats.State.{State, view_of}
use Rattle.seize_seats.specs.Seats.State as State
use Rattle.seize_seats.specs.Seats.Lines.{AreLaid}
use Rattle.seize_seats.specs.Seats.Errands.{Away, Aided, ViewCode, aide_stake, stake}
use Rattle.seize_seats.specs.Seats.Owned.{Pieces, BaseId, age, sitting, Inside, state_of, standing, inner, words_share}
use Rattle.seize_seats.proofs.Seats.Views.Sitters as Sitters
use Rattle.seize_seats.proofs.Seats.Stepping.Moves as Moves

module _ {M : Type 1} {𝓤 : Ura M} (𝓛 : Logic 𝓤) (R : RattleType) (own : Pieces R.Denot) {V W : Type 0} (cv : ViewCode V) (holds : State R.Denot V W → Type 0) (keeps : V → V → W → ℕ
    → Type 0) (p : Ptr) (z : BaseId) (id : ℕ) where
  open 𝓛 use {H, A}

  abbrev Pr : Type 2
  Pr = SProp 𝓤

  abbrev ◌⊢◌ : Pr → Pr → Type 1
  P ⊢ Q = ent 𝓤 P Q

  abbrev ◌∗◌ : Pr → Pr → Pr
  P ∗ Q = sep 𝓤 P Q

  abbrev ⟦◌⟧ : Fml → Pr
  ⟦ P ⟧ = sem 𝓛 P

  infix 26 ◌⊢◌
  infixr 35 ◌∗◌
  abbrev α : Lft
  α = age z

  abbrev I : Fml
  I = inner R own cv holds p z

  abbrev seat : V → Fml
  seat = Moves.seat 𝓛 R own cv holds keeps p z id

  abbrev Of : V → Fml
  Of v = stake α z.views_name (cv.away v)

  abbrev Shared : Lft → Fml
  Shared = words_share R own cv holds p z

  -- The rule holds with this view in place of that one, and all else as it is.
  abbrev MayBe : V → V → Type 0
  MayBe v u = (s : State R.Denot V W) → holds s → view_of s id ≡ Some v → holds (State.after s s.memory id u s.world)

  module _ (v u : V) (law : MayBe v u) where
    abbrev Before : Pr
    Before = ⟦ seat v ⟧ ∗ ⟦ Of u ⟧

    abbrev After : Pr
    After = ⟦ seat u ⟧ ∗ ⟦ Of v ⟧

    -- another view, for what it has left
    changes : ⟦ I ⟧ ∗ Before ⊢ upd 𝓤 (⟦ I ⟧ ∗ After)
    changes = let Z : Pr = ⟦ I ⟧ ∗ After in let Led : V → List V → Fml = sitting α cv z.views_name in
        qed 𝓛 (‵ I ∷ (‵ (seat v) ⊛ ‵ (Of u)) ∷ []) ∵ move ! (1 ∷ []) $ split ! $ move ! (2 ∷ 0 ∷ []) $
        use2 𝓛 (Moves.opening 𝓛 R own cv holds keeps p z id v) (Moves.opened 𝓛 R own cv holds keeps p z id v) $ pick ! (λ t. learn ! (λ g. split3 ! $
        -- [the memory; the views; the seat; what it leaves]
        let us : List V = set t.views id u in let n : Inside R.Denot V W = record { parts = t.parts; blank = t.blank; views = us; world = t.world } in
        move ! (1 ∷ 2 ∷ 3 ∷ []) $ use3 𝓛 (raw (upd 𝓤 (⟦ Led t.blank us ⟧ ∗ ⟦ seat u ⟧ ∗ ⟦ Of v ⟧)))
        (Sitters.goes 𝓛 α cv z.views_name t.blank t.views id v u g.2) $
        settle 𝓛 Z (‵ (Led t.blank us) ⊛ ‵ (seat u) ⊛ ‵ (Of v)) $ split3 ! $ suffices ! _ (upd_i 𝓤 Z) $
        nothing ! $ fpack ! (holds (state_of z n) × AreLaid z.roots z.count t.parts) (λ _. ftrue) (law (state_of z t) g.0 g.2, g.1) $
        move ! (4 ∷ 1 ∷ 0 ∷ []) $ fjoin3 ! $ fpack ! (Inside R.Denot V W) (standing R own cv holds p z) n $ frame ! $ done !))

    pub changed : (l : Share) → ⟦ Moves.Inv 𝓛 R own cv holds keeps p z ⟧ ∗ A.lft α l ∗ Before ⊢ H.⇛ (After ∗ A.lft α l)
    changed l = Moves.reach 𝓛 R own cv holds keeps p z l Before After changes

  -- what whoever has sent the seat has: of the part of the token that it has for a while the half that is not left
  abbrev pub pledge : Lft → Share → Share → Fml
  pledge κ q s = fsep (fobor κ q (flft α s)) (flft α (Share.left s))

  module _ (κ : Lft) (q : Share) where
    -- it is on no errand, and goes on one for which these seats are lent, or none
    module _ (v : V) (home : cv.away v ≡ None) (a : Aided) (out : Share → V) (is : (r : Share) → cv.away (out r) ≡ Some record { part = r; aided = a })
        (law : (r : Share) → MayBe v (out r)) where
      abbrev pub Sent : Share → Pr
      Sent s = ⟦ seat (out (Share.right s)) ⟧ ∗ ⟦ pledge κ q s ⟧

      -- A SEAT GOES ON AN ERRAND
      pub goes : ⟦ Shared κ ⟧ ∗ A.lft κ q ∗ ⟦ seat v ⟧ ∗ ⟦ aide_stake z.views_name a ⟧ ⊢ H.⇛ (ex 𝓤 Sent)
      goes = qed 𝓛 (‵ (Shared κ) ∷ ‵ (flft κ q) ∷ ‵ (seat v) ∷ ‵ (aide_stake z.views_name a) ∷ []) ∵ updating ! $ fsplit ! $ move ! (1 ∷ []) $ fsplit ! $ drop ! $
          -- [the invariant; its lifetime lasts; the token; the seat]
          move ! (1 ∷ 2 ∷ []) $ shr_bor-open ! tt (tokens_halve 𝓛 α) (λ s. let l : Share = Share.left s in let r : Share = Share.right s in let u : V = out r in
          move ! (1 ∷ []) $ use1 𝓛 (‵ (flft α l) ⊛ ‵ (flft α r)) (𝓛.lfts.lft_split α s) $ split ! $
          -- [the one half; the other; what is open; the invariant; the seat; the aides']
          move ! (1 ∷ 5 ∷ []) $ fjoin ! $ move ! (1 ∷ 0 ∷ []) $
          rewrite ! 1 (λ (e : Away). ‵ (stake α z.views_name e)) (sym (is r)) refl $ move ! (4 ∷ 1 ∷ []) $ join ! $ move ! (3 ∷ 1 ∷ 0 ∷ []) $
          use3 𝓛 (later ((‵ (seat u) ⊛ ‵ (Of v)) ⊛ ‵ (flft α l))) (changed v u (law r) l) $ await ! tt $ split ! $ split ! $
          -- [the seat; nothing; the one half; what is open]
          move ! (1 ∷ []) $ drop ! $ move ! (2 ∷ 1 ∷ []) $ fjoin ! $ now ! $ show ! Sent s $ move ! (1 ∷ 0 ∷ []) $ done !)

    module _ (s : Share) (a : Aided) (w u : V) (is : cv.away w ≡ Some record { part = Share.right s; aided = a }) (home : cv.away u ≡ None) (law : MayBe w u) where
      -- AND COMES BACK
      pub returns : ⟦ Shared κ ⟧ ∗ ⟦ pledge κ q s ⟧ ∗ ⟦ seat w ⟧ ⊢ H.⇛ (⟦ seat u ⟧ ∗ A.lft κ q ∗ ⟦ aide_stake z.views_name a ⟧)
      returns = let l : Share = Share.left s in let r : Share = Share.right s in
          qed 𝓛 (‵ (Shared κ) ∷ ‵ (pledge κ q s) ∷ ‵ (seat w) ∷ []) ∵ updating ! $ fsplit ! $ drop ! $ fsplit ! $ drop ! $ move ! (1 ∷ []) $ fsplit ! $
          -- [what is open; the one half; the invariant; the seat]
          nothing ! $ rewrite ! 0 (λ (e : Away). ‵ (stake α z.views_name e)) (sym home) refl $ move ! (4 ∷ 0 ∷ []) $ join ! $ move ! (3 ∷ 2 ∷ 0 ∷ []) $
          use3 𝓛 (later ((‵ (seat u) ⊛ ‵ (Of w)) ⊛ ‵ (flft α l))) (changed w u law l) $ await ! tt $ split ! $ split ! $
          -- [the seat; what it had left; the one half; what is open]
          rewrite ! 1 (λ (e : Away). ‵ (stake α z.views_name e)) is refl $ move ! (1 ∷ []) $ fsplit ! $
          -- [the other half; the aides'; the seat; the one half; what is open]
          move ! (3 ∷ 0 ∷ []) $ use2 𝓛 (‵ (flft α s)) (𝓛.lfts.lft_join α s) $
          move ! (3 ∷ 0 ∷ []) $ obor_close ! tt $ drop ! $ now ! $ move ! (2 ∷ 0 ∷ []) $ done !
