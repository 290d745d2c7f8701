-- A call has the value of a block in its hand: no other seats have views that show the block. And what a share of a view shows, or shares of two. Assumes
-- `Logic`.
use Rattle.std.specs.Prelude.{Some, None, slice_get}
use Rattle.std.proofs.Common.{◌≡◌, ◌≢◌, ◌⊎◌, inl, inr, ℕ, suc, [], ◌∷◌, ap, sym, ◌∙◌, refl}
use Rattle.std.proofs.lemmas.Bool.{cases_eq}
use seplogic.Ra.Ura.{Ura}
use base.Share.{three_quarters}
use base.Logic.{SProp, ent, sep, guard}
use base.Fml.{Share, Fml, ftrue, fsep}
use types.Logic.{Logic, sem}
use types.Kit.{‵, ◌⊛◌, given, ◌$◌, ◌∵◌, !, qed, by, move, keep, drop, split, fsplit, fsplit3, fjoin, fpick, learn, check, use2, rewrite, done}
use denote.RattleType.{RattleType}
use denote.RawPtr.{Ptr}
use Rattle.seize_seats.specs.Seats.State.{State}
use Rattle.seize_seats.specs.Seats.Seen.{seen}
use Rattle.seize_seats.specs.Seats.Lines.{AreLaid}
use Rattle.seize_seats.specs.Seats.Lendings.{Witness, Bears, IsAside, VisibleByWitness, Alone, witnessed}
use Rattle.seize_seats.specs.Seats.Errands.{ViewCode}
use Rattle.seize_seats.specs.Seats.Owned.{Pieces, sitting, age, had_here, BaseId, Inside, state_of}
use Rattle.seize_seats.proofs.Seats.Views.Sitters as Sitters
use Rattle.seize_seats.specs.Seats.Cells.{Body}

module _ {M : Type 1} {𝓤 : Ura M} (𝓛 : Logic 𝓤) (R : RattleType) (own : Pieces R.Denot) {V W : Type 0} (cv : ViewCode V) (holds : State R.Denot V W → Type 0) (p : Ptr) (z : BaseId) where
  abbrev Pr : Type 2
  Pr = SProp 𝓤

  abbrev ◌⊢◌ : Pr → Pr → Type 1
  P ⊢ Q = ent 𝓤 P Q

  abbrev ◌∗◌ : Pr → Pr → Pr
  P ∗ Q = sep 𝓤 P Q

  abbrev ⟦◌⟧ : Fml → Pr
  ⟦ P ⟧ = sem 𝓛 P

  infix 26 ◌⊢◌
  infixr 35 ◌∗◌
  abbrev In : Type 0
  In = Inside R.Denot V W

  abbrev Sn : Share → ℕ → V → Fml
  Sn q j u = seen cv.code z.views_name q j u

  abbrev Led : In → Fml
  Led t = sitting (age z) cv z.views_name t.blank t.views

  -- ---- what a witness has of its view
  abbrev Wd : Witness V → Fml
  Wd = witnessed R (age z) cv.code z.views_name holds

  pub bears : (x : Witness V) (t : In) → ⟦ Led t ⟧ ∗ ⟦ Wd x ⟧ ⊢ guard 𝓤 (Bears t.views x) (⟦ Led t ⟧ ∗ ⟦ Wd x ⟧)
  bears None t = qed 𝓛 (‵ (Led t) ∷ ‵ ftrue ∷ []) ∵ check ! tt $ done !
  bears (Some w) t = Sitters.sits 𝓛 (age z) cv z.views_name t.blank t.views w.0 three_quarters w.1

  -- it is one of a number
  abbrev pub IsOne : ℕ → Witness V → Type 0
  IsOne id None = ⊥
  IsOne id (Some w) = w.0 ≡ id

  one_or_aside : (id : ℕ) (x : Witness V) → IsOne id x ⊎ IsAside id x
  one_or_aside id None = inr tt
  one_or_aside id (Some w) = cases_eq w.0 id

  -- and is not there where somebody else has three quarters of its view
  pub apart : (x : Witness V) (t : In) (w : ℕ × V) (Z : Pr) → IsOne w.0 x → ⟦ Led t ⟧ ∗ ⟦ Sn three_quarters w.0 w.1 ⟧ ∗ ⟦ Wd x ⟧ ⊢ Z
  apart None t w Z none = absurd none
  apart (Some y) t w Z same = qed 𝓛 (‵ (Led t) ∷ ‵ (Sn three_quarters w.0 w.1) ∷ ‵ (Sn three_quarters y.0 y.1) ∷ []) ∵
      rewrite ! 2 (λ (n : ℕ). ‵ (Sn three_quarters n y.1)) same refl $
      by ! (Sitters.crowded 𝓛 (age z) cv z.views_name t.blank t.views w.0 three_quarters w.1 y.1 Z)

  module _ (j : ℕ) (v : V) (k : ℕ) (u : V) where
    -- the one seat has this view and the other one that
    abbrev pub AreBoth : In → Type 0
    AreBoth t = (slice_get t.views j ≡ Some v) × (slice_get t.views k ≡ Some u)

    -- shares of both
    abbrev pub two : Share → Share → Fml
    two q r = fsep (Sn q j v) (Sn r k u)

    pub two_show : (q r : Share) (t : In) → ⟦ Led t ⟧ ∗ ⟦ two q r ⟧ ⊢ guard 𝓤 (AreBoth t) (⟦ Led t ⟧ ∗ ⟦ two q r ⟧)
    two_show q r t = qed 𝓛 (‵ (Led t) ∷ ‵ (two q r) ∷ []) ∵ move ! (1 ∷ []) $ fsplit ! $ move ! (2 ∷ 0 ∷ []) $
        use2 𝓛 (given (slice_get t.views j ≡ Some v) (‵ (Led t) ⊛ ‵ (Sn q j v))) (Sitters.sits 𝓛 (age z) cv z.views_name t.blank t.views j q v) $
        learn ! (λ at. split ! $
        move ! (0 ∷ 2 ∷ []) $
        use2 𝓛 (given (slice_get t.views k ≡ Some u) (‵ (Led t) ⊛ ‵ (Sn r k u))) (Sitters.sits 𝓛 (age z) cv z.views_name t.blank t.views k r u) $
        learn ! (λ at'. split ! $
        check ! (at, at') $ move ! (2 ∷ 1 ∷ []) $ fjoin ! $ move ! (1 ∷ 0 ∷ []) $ done !))

    pub two_crowd : (q r : Share) (t : In) (w : ℕ × V) (Z : Pr) → (j ≡ w.0) ⊎ (k ≡ w.0) → ⟦ Led t ⟧ ∗ ⟦ Sn three_quarters w.0 w.1 ⟧ ∗ ⟦ two q r ⟧ ⊢ Z
    two_crowd q r t w Z (inl same) = qed 𝓛 (‵ (Led t) ∷ ‵ (Sn three_quarters w.0 w.1) ∷ ‵ (two q r) ∷ []) ∵ move ! (2 ∷ []) $ fsplit ! $
        rewrite ! 0 (λ (n : ℕ). ‵ (Sn q n v)) same refl $ keep ! (2 ∷ 3 ∷ 0 ∷ []) $ by ! (Sitters.crowded 𝓛 (age z) cv z.views_name t.blank t.views w.0 q w.1 v Z)
    two_crowd q r t w Z (inr same) = qed 𝓛 (‵ (Led t) ∷ ‵ (Sn three_quarters w.0 w.1) ∷ ‵ (two q r) ∷ []) ∵ move ! (2 ∷ []) $ fsplit ! $
        rewrite ! 1 (λ (n : ℕ). ‵ (Sn r n u)) same refl $ keep ! (2 ∷ 3 ∷ 1 ∷ []) $ by ! (Sitters.crowded 𝓛 (age z) cv z.views_name t.blank t.views w.0 r w.1 u Z)

    -- and a third one that
    module _ (i : ℕ) (o : V) where
      abbrev pub AreAll : In → Type 0
      AreAll t = (slice_get t.views i ≡ Some o) × AreBoth t

      abbrev pub three : Share → Share → Share → Fml
      three r q q' = fsep (Sn r i o) (two q q')

      pub three_show : (r q q' : Share) (t : In) → ⟦ Led t ⟧ ∗ ⟦ three r q q' ⟧ ⊢ guard 𝓤 (AreAll t) (⟦ Led t ⟧ ∗ ⟦ three r q q' ⟧)
      three_show r q q' t = qed 𝓛 (‵ (Led t) ∷ ‵ (three r q q') ∷ []) ∵ move ! (1 ∷ []) $ fsplit ! $ move ! (2 ∷ 0 ∷ []) $
          use2 𝓛 (given (slice_get t.views i ≡ Some o) (‵ (Led t) ⊛ ‵ (Sn r i o))) (Sitters.sits 𝓛 (age z) cv z.views_name t.blank t.views i r o) $
          learn ! (λ at. split ! $ move ! (0 ∷ 2 ∷ []) $
          use2 𝓛 (given (AreBoth t) (‵ (Led t) ⊛ ‵ (two q q'))) (two_show q q' t) $ learn ! (λ both. split ! $
          check ! (at, both) $ move ! (2 ∷ 1 ∷ []) $ fjoin ! $ move ! (1 ∷ 0 ∷ []) $ done !))

    module _ (x : Witness V) where
      -- and the witness is there
      abbrev pub Sit : In → Type 0
      Sit t = AreBoth t × Bears t.views x

      -- S shows that they have
      abbrev pub Shows : Fml → Type 1
      Shows S = (t : In) → ⟦ Led t ⟧ ∗ ⟦ S ⟧ ⊢ guard 𝓤 (Sit t) (⟦ Led t ⟧ ∗ ⟦ S ⟧)

      -- and is not there where somebody else has three quarters of the view of one of them
      abbrev pub Crowds : Fml → Type 2
      Crowds S = (t : In) (w : ℕ × V) (Z : Pr) → (j ≡ w.0) ⊎ (k ≡ w.0) ⊎ IsOne w.0 x → ⟦ Led t ⟧ ∗ ⟦ Sn three_quarters w.0 w.1 ⟧ ∗ ⟦ S ⟧ ⊢ Z

      -- what shows both, with the witness
      pub shows_with : (S : Fml) → ((t : In) → ⟦ Led t ⟧ ∗ ⟦ S ⟧ ⊢ guard 𝓤 (AreBoth t) (⟦ Led t ⟧ ∗ ⟦ S ⟧)) → Shows (fsep S (Wd x))
      shows_with S both t = qed 𝓛 (‵ (Led t) ∷ ‵ (fsep S (Wd x)) ∷ []) ∵ move ! (1 ∷ []) $ fsplit ! $ move ! (2 ∷ 0 ∷ []) $
          use2 𝓛 (given (AreBoth t) (‵ (Led t) ⊛ ‵ S)) (both t) $ learn ! (λ at. split ! $ move ! (0 ∷ 2 ∷ []) $
          use2 𝓛 (given (Bears t.views x) (‵ (Led t) ⊛ ‵ (Wd x))) (bears x t) $ learn ! (λ is. split ! $
          check ! (at, is) $ move ! (2 ∷ 1 ∷ []) $ fjoin ! $ move ! (1 ∷ 0 ∷ []) $ done !))

      pub crowds_with : (S : Fml) → ((t : In) (w : ℕ × V) (Z : Pr) → (j ≡ w.0) ⊎ (k ≡ w.0) → ⟦ Led t ⟧ ∗ ⟦ Sn three_quarters w.0 w.1 ⟧ ∗ ⟦ S ⟧ ⊢ Z)
          → Crowds (fsep S (Wd x))
      crowds_with S both t w Z is = by is
        where
          by : (j ≡ w.0) ⊎ (k ≡ w.0) ⊎ IsOne w.0 x → ⟦ Led t ⟧ ∗ ⟦ Sn three_quarters w.0 w.1 ⟧ ∗ ⟦ fsep S (Wd x) ⟧ ⊢ Z
          by (inl same) = qed 𝓛 (‵ (Led t) ∷ ‵ (Sn three_quarters w.0 w.1) ∷ ‵ (fsep S (Wd x)) ∷ []) ∵ move ! (2 ∷ []) $ fsplit ! $ keep ! (2 ∷ 3 ∷ 0 ∷ []) $
              types.Kit.by ! (both t w Z (inl same))
          by (inr (inl same)) = qed 𝓛 (‵ (Led t) ∷ ‵ (Sn three_quarters w.0 w.1) ∷ ‵ (fsep S (Wd x)) ∷ []) ∵ move ! (2 ∷ []) $ fsplit ! $ keep ! (2 ∷ 3 ∷ 0 ∷ []) $
              types.Kit.by ! (both t w Z (inr same))
          by (inr (inr one)) = qed 𝓛 (‵ (Led t) ∷ ‵ (Sn three_quarters w.0 w.1) ∷ ‵ (fsep S (Wd x)) ∷ []) ∵ move ! (2 ∷ []) $ fsplit ! $ keep ! (2 ∷ 3 ∷ 1 ∷ []) $
              types.Kit.by ! (apart x t w Z one)

    -- a share of one, where it is one seat with one view
    pub one_sits : (q : Share) → j ≡ k → v ≡ u → (t : In) → ⟦ Led t ⟧ ∗ ⟦ Sn q j v ⟧ ⊢ guard 𝓤 (AreBoth t) (⟦ Led t ⟧ ∗ ⟦ Sn q j v ⟧)
    one_sits q same view t = qed 𝓛 (‵ (Led t) ∷ ‵ (Sn q j v) ∷ []) ∵
        use2 𝓛 (given (slice_get t.views j ≡ Some v) (‵ (Led t) ⊛ ‵ (Sn q j v))) (Sitters.sits 𝓛 (age z) cv z.views_name t.blank t.views j q v) $
        learn ! (λ at. check ! (at, ap (slice_get t.views) (sym same) ∙ at ∙ ap Some view) $ split ! $ done !)

    pub one_apart : (q : Share) → j ≡ k → (t : In) (w : ℕ × V) (Z : Pr) → (j ≡ w.0) ⊎ (k ≡ w.0) → ⟦ Led t ⟧ ∗ ⟦ Sn three_quarters w.0 w.1 ⟧ ∗ ⟦ Sn q j v ⟧ ⊢ Z
    one_apart q same t w Z is = qed 𝓛 (‵ (Led t) ∷ ‵ (Sn three_quarters w.0 w.1) ∷ ‵ (Sn q j v) ∷ []) ∵
        rewrite ! 2 (λ (n : ℕ). ‵ (Sn q n v)) (by_one is) refl $ by ! (Sitters.crowded 𝓛 (age z) cv z.views_name t.blank t.views w.0 q w.1 v Z)
      where
        by_one : (j ≡ w.0) ⊎ (k ≡ w.0) → j ≡ w.0
        by_one (inl e) = e
        by_one (inr e) = same ∙ e

    -- the same where there is no witness
    pub one_shows : (q : Share) → j ≡ k → v ≡ u → Shows None (Sn q j v)
    one_shows q same view t = qed 𝓛 (‵ (Led t) ∷ ‵ (Sn q j v) ∷ []) ∵
        use2 𝓛 (given (AreBoth t) (‵ (Led t) ⊛ ‵ (Sn q j v))) (one_sits q same view t) $ learn ! (λ at. check ! (at, tt) $ split ! $ done !)

    pub one_crowds : (q : Share) → j ≡ k → Crowds None (Sn q j v)
    one_crowds q same t w Z is = one_apart q same t w Z (by_seats is)
      where
        by_seats : (j ≡ w.0) ⊎ (k ≡ w.0) ⊎ IsOne w.0 None → (j ≡ w.0) ⊎ (k ≡ w.0)
        by_seats (inl e) = inl e
        by_seats (inr (inl e)) = inr e
        by_seats (inr (inr none)) = absurd none

    -- where a value is in the hand of a call, S is not there if both seats' views show the block
    module _ (x : Witness V) (S : Fml) (shows : Shows x S) (crowds : Crowds x S) (t : In) (sound : holds (state_of z t) × AreLaid z.roots z.count t.parts) (i ρ : ℕ)
        (y : Body R.Denot) (Z : Pr) (shown : VisibleByWitness holds j v k u x (suc i)) where
      by_seat : (w : ℕ × V) → Alone holds w.0 w.1 (suc i) → Sit x t → (j ≡ w.0) ⊎ (j ≢ w.0) → (k ≡ w.0) ⊎ (k ≢ w.0) → IsOne w.0 x ⊎ IsAside w.0 x
          → ⟦ Led t ⟧ ∗ ⟦ Sn three_quarters w.0 w.1 ⟧ ∗ ⟦ S ⟧ ⊢ Z
      by_seat w alone at (inl same) either aside = crowds t w Z (inl same)
      by_seat w alone at (inr ne) (inl same) aside = crowds t w Z (inr (inl same))
      by_seat w alone at (inr ne) (inr nf) (inl one) = crowds t w Z (inr (inr one))
      by_seat w alone at (inr ne) (inr nf) (inr aside) = qed 𝓛 (‵ (Led t) ∷ ‵ (Sn three_quarters w.0 w.1) ∷ ‵ S ∷ []) ∵
          use2 𝓛 (given (slice_get t.views w.0 ≡ Some w.1) (‵ (Led t) ⊛ ‵ (Sn three_quarters w.0 w.1)))
          (Sitters.sits 𝓛 (age z) cv z.views_name t.blank t.views w.0 three_quarters w.1) $
          learn ! (λ sits. absurd (alone (state_of z t) j v k u x sound.0 sits ne nf aside at.0.0 at.0.1 at.1 shown))

      pub excludes : ⟦ Led t ⟧ ∗ ⟦ had_here R own cv holds p z ρ i y ⟧ ∗ ⟦ S ⟧ ⊢ Z
      excludes = qed 𝓛 (‵ (Led t) ∷ ‵ (had_here R own cv holds p z ρ i y) ∷ ‵ S ∷ []) ∵ move ! (1 ∷ []) $ fsplit ! $ drop ! $
          fpick ! (λ w. fsplit3 ! $ drop ! $
          move ! (1 ∷ []) $ fpick ! (λ alone. drop ! $
          -- [three quarters; the views; the seats']
          move ! (1 ∷ 2 ∷ []) $ use2 𝓛 (given (Sit x t) (‵ (Led t) ⊛ ‵ S)) (shows t) $
          learn ! (λ at. split ! $ move ! (0 ∷ 2 ∷ 1 ∷ []) $ by ! (by_seat w alone at (cases_eq j w.0) (cases_eq k w.0) (one_or_aside w.0 x)))))
