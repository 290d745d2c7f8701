-- The list of views, with what those seats have left that are on errands. Assumes `Logic`.
use Rattle.std.proofs.lemmas.Bool.{cases_eq}
use Rattle.std.proofs.Common.{◌≡◌, ◌≢◌, ◌⊎◌, inl, inr, subst, ℕ, zero, suc, List, [], ◌∷◌, ◌++◌, length, set, sym, refl, ap, ◌∙◌, Some, None}
use Rattle.std.specs.Prelude.{slice_get}
use seplogic.Ra.Ura.{Ura}
use base.Share.{three_quarters}
use base.Stored.{Gv, Coded}
use base.Fraction.{full_share}
use base.Logic.{SProp, ent, sep, wand, ex, all, guard, upd, via, never, never_e, apply∗, all_e, ex_e, upd_i, upd_mono}
use base.Fml.{Lft, Share, Fml, ftrue, flft, fdead}
use types.Logic.{Logic, sem}
use types.Kit.{‵, raw, ◌⊛◌, given, ◌$◌, ◌∵◌, !, qed, by, move, keep, drop, split, fsplit, fjoin, fpick, learn, check, show, frame, each, assume, suffices, settle, use1, use2, rewrite, done}
use denote.Steps.{nothing}
use Rattle.seize_seats.specs.Seats.Seen.{fact, itself, seen}
use Rattle.seize_seats.specs.Seats.Owned.{ledger, sitting}
use Rattle.seize_seats.specs.Seats.Errands.{Away, ViewCode, Aide, Aided, These, Anyone, IsOneOf, IsAide, Lends, AreUnlent, coded_of, aide_shares, aide_stake, stake, stakes, AreAllBack}
use Rattle.seize_seats.proofs.Seats.Views.Ledgers as Ledgers

module _ {M : Type 1} {𝓤 : Ura M} (𝓛 : Logic 𝓤) (α : Lft) {V : Type 0} (c : ViewCode V) (γ : ℕ) where
  open 𝓛 use {A}

  abbrev Pr : Type 2
  Pr = SProp 𝓤

  abbrev ◌⊢◌ : Pr → Pr → Type 1
  P ⊢ Q = ent 𝓤 P Q

  abbrev ◌∗◌ : Pr → Pr → Pr
  P ∗ Q = sep 𝓤 P Q

  abbrev ◌-∗◌ : Pr → Pr → Pr
  P -∗ Q = wand 𝓤 P Q

  abbrev ⟦◌⟧ : Fml → Pr
  ⟦ P ⟧ = sem 𝓛 P

  infix 26 ◌⊢◌
  infixr 35 ◌∗◌
  infixr 30 ◌-∗◌
  abbrev cv : Coded V
  cv = coded_of c

  abbrev Sn : Share → ℕ → V → Fml
  Sn = seen c.code γ

  abbrev Led : V → List V → Fml
  Led = ledger c.code γ

  abbrev Left : List V → Fml
  Left = stakes α γ c.away

  abbrev Of : V → Fml
  Of v = stake α γ (c.away v)

  abbrev Sit : V → List V → Fml
  Sit = sitting α c γ

  -- whoever has a share of a view sees it in the list
  pub sits : (d : V) (vs : List V) (j : ℕ) (q : Share) (v : V) → ⟦ Sit d vs ⟧ ∗ ⟦ Sn q j v ⟧ ⊢ guard 𝓤 (slice_get vs j ≡ Some v) (⟦ Sit d vs ⟧ ∗ ⟦ Sn q j v ⟧)
  sits d vs j q v = qed 𝓛 (‵ (Sit d vs) ∷ ‵ (Sn q j v) ∷ []) ∵ fsplit ! $ move ! (0 ∷ 2 ∷ []) $
      use2 𝓛 (given (slice_get vs j ≡ Some v) (‵ (Led d vs) ⊛ ‵ (Sn q j v))) (Ledgers.sits 𝓛 cv γ d vs j q v) $
      learn ! (λ at. check ! at $ split ! $ move ! (0 ∷ 2 ∷ []) $ fjoin ! $ done !)

  -- three quarters of a view and a quarter of the list's are all of it
  pub crowded : (d : V) (vs : List V) (j : ℕ) (q : Share) (v u : V) (Z : Pr) → ⟦ Sit d vs ⟧ ∗ ⟦ Sn three_quarters j v ⟧ ∗ ⟦ Sn q j u ⟧ ⊢ Z
  crowded d vs j q v u Z = qed 𝓛 (‵ (Sit d vs) ∷ ‵ (Sn three_quarters j v) ∷ ‵ (Sn q j u) ∷ []) ∵ fsplit ! $ keep ! (0 ∷ 2 ∷ 3 ∷ []) $
      by ! (Ledgers.crowded 𝓛 cv γ d vs j q v u Z)

  -- what all have left is what one has, and what takes that of another view in its place
  abbrev Puts : List V → ℕ → V → Pr
  Puts vs j u = ⟦ Of u ⟧ -∗ ⟦ Left (set vs j u) ⟧

  left_at : (vs : List V) (j : ℕ) (v : V) → slice_get vs j ≡ Some v → ⟦ Left vs ⟧ ⊢ ⟦ Of v ⟧ ∗ all 𝓤 (Puts vs j)
  left_at [] j v at = absurd (cc at)
  left_at (y ∷ ys) zero v at = let same : y ≡ v = cc at in qed 𝓛 (‵ (Of y) ∷ ‵ (Left ys) ∷ []) ∵
      rewrite ! 0 (λ (z : V). ‵ (Of z)) same refl $ frame ! $ each ! (Puts (y ∷ ys) zero) (λ z. assume ! (‵ (Of z)) $ done !)
  left_at (y ∷ ys) (suc j) v at = qed 𝓛 (‵ (Of y) ∷ ‵ (Left ys) ∷ []) ∵ move ! (1 ∷ []) $
      use1 𝓛 (‵ (Of v) ⊛ raw (all 𝓤 (Puts ys j))) (left_at ys j v at) $ split ! $ frame ! $
      each ! (Puts (y ∷ ys) (suc j)) (λ z. use1 𝓛 (raw (Puts ys j z)) (all_e 𝓤 (Puts ys j) z) $ assume ! (‵ (Of z)) $
      use2 𝓛 (‵ (Left (set ys j z))) (apply∗ 𝓤 ⟦ Of z ⟧ ⟦ Left (set ys j z) ⟧) $ move ! (1 ∷ 0 ∷ []) $ done !)

  module _ (d : V) (vs : List V) (j : ℕ) (v u : V) (at : slice_get vs j ≡ Some v) where
    abbrev us : List V
    us = set vs j u

    -- whoever may change a view changes it in the list, too, and stays on the errand that it is on
    pub turns : c.away u ≡ c.away v → ⟦ Sit d vs ⟧ ∗ ⟦ Sn three_quarters j v ⟧ ⊢ upd 𝓤 (⟦ Sit d us ⟧ ∗ ⟦ Sn three_quarters j u ⟧)
    turns same = let Z : Pr = ⟦ Sit d us ⟧ ∗ ⟦ Sn three_quarters j u ⟧ in qed 𝓛 (‵ (Sit d vs) ∷ ‵ (Sn three_quarters j v) ∷ []) ∵ fsplit ! $
        move ! (0 ∷ 2 ∷ []) $ use2 𝓛 (raw (upd 𝓤 (⟦ Led d us ⟧ ∗ ⟦ Sn three_quarters j u ⟧))) (Ledgers.turns 𝓛 cv γ d vs j v u at) $
        settle 𝓛 Z (‵ (Led d us) ⊛ ‵ (Sn three_quarters j u)) $ split ! $ suffices ! _ (upd_i 𝓤 Z) $
        -- [the views; the seat; what is left]
        move ! (2 ∷ []) $ use1 𝓛 (‵ (Of v) ⊛ raw (all 𝓤 (Puts vs j))) (left_at vs j v at) $ split ! $
        rewrite ! 0 (λ (e : Away). ‵ (stake α γ e)) (sym same) refl $ move ! (1 ∷ []) $
        use1 𝓛 (raw (Puts vs j u)) (all_e 𝓤 (Puts vs j) u) $ move ! (1 ∷ 0 ∷ []) $
        use2 𝓛 (‵ (Left us)) (apply∗ 𝓤 ⟦ Of u ⟧ ⟦ Left us ⟧) $ move ! (1 ∷ 0 ∷ []) $ fjoin ! $ done !

    -- it goes on an errand, or comes back: what it leaves is there, and what it had left it has
    pub goes : ⟦ Sit d vs ⟧ ∗ ⟦ Sn three_quarters j v ⟧ ∗ ⟦ Of u ⟧ ⊢ upd 𝓤 (⟦ Sit d us ⟧ ∗ ⟦ Sn three_quarters j u ⟧ ∗ ⟦ Of v ⟧)
    goes = let Z : Pr = ⟦ Sit d us ⟧ ∗ ⟦ Sn three_quarters j u ⟧ ∗ ⟦ Of v ⟧ in
        qed 𝓛 (‵ (Sit d vs) ∷ ‵ (Sn three_quarters j v) ∷ ‵ (Of u) ∷ []) ∵ fsplit ! $
        move ! (0 ∷ 2 ∷ []) $ use2 𝓛 (raw (upd 𝓤 (⟦ Led d us ⟧ ∗ ⟦ Sn three_quarters j u ⟧))) (Ledgers.turns 𝓛 cv γ d vs j v u at) $
        settle 𝓛 Z (‵ (Led d us) ⊛ ‵ (Sn three_quarters j u)) $ split ! $ suffices ! _ (upd_i 𝓤 Z) $
        -- [the views; the seat; what is left; what it leaves]
        move ! (2 ∷ []) $ use1 𝓛 (‵ (Of v) ⊛ raw (all 𝓤 (Puts vs j))) (left_at vs j v at) $ split ! $ move ! (1 ∷ []) $
        use1 𝓛 (raw (Puts vs j u)) (all_e 𝓤 (Puts vs j) u) $ move ! (4 ∷ 0 ∷ []) $
        use2 𝓛 (‵ (Left us)) (apply∗ 𝓤 ⟦ Of u ⟧ ⟦ Left us ⟧) $
        -- [what is left; what it had left; the views; the seat]
        move ! (2 ∷ 0 ∷ []) $ fjoin ! $ move ! (0 ∷ 2 ∷ []) $ done !

  left_too : (vs : List V) (u : V) → c.away u ≡ None → ⟦ Left vs ⟧ ⊢ ⟦ Left (vs ++ u ∷ []) ⟧
  left_too [] u home = qed 𝓛 (‵ ftrue ∷ []) ∵ nothing ! $ rewrite ! 0 (λ (e : Away). ‵ (stake α γ e)) (sym home) refl $ done !
  left_too (y ∷ ys) u home = qed 𝓛 (‵ (Of y) ∷ ‵ (Left ys) ∷ []) ∵ frame ! $ by ! (left_too ys u home)

  -- a new view joins at the end, of a seat that is on no errand
  pub comes : (d : V) (vs : List V) (u : V) → c.away u ≡ None
      → ⟦ Sit d vs ⟧ ⊢ upd 𝓤 (⟦ Sit d (vs ++ u ∷ []) ⟧ ∗ ⟦ Sn three_quarters (length vs) u ⟧)
  comes d vs u home = let us : List V = vs ++ u ∷ [] in let n : ℕ = length vs in let Z : Pr = ⟦ Sit d us ⟧ ∗ ⟦ Sn three_quarters n u ⟧ in
      qed 𝓛 (‵ (Sit d vs) ∷ []) ∵ fsplit ! $
      use1 𝓛 (raw (upd 𝓤 (⟦ Led d us ⟧ ∗ ⟦ Sn three_quarters n u ⟧))) (Ledgers.comes 𝓛 cv γ d vs u) $
      settle 𝓛 Z (‵ (Led d us) ⊛ ‵ (Sn three_quarters n u)) $ split ! $ suffices ! _ (upd_i 𝓤 Z) $
      move ! (2 ∷ []) $ use1 𝓛 (‵ (Left us)) (left_too vs u home) $ move ! (1 ∷ 0 ∷ []) $ fjoin ! $ done !

  -- with no seat yet, from nothing
  pub begins : (d : V) → ent 𝓤 (base.Logic.emp 𝓤) (upd 𝓤 (ex 𝓤 (λ (η : ℕ). ⟦ sitting α c η d [] ⟧)))
  begins d = let L : ℕ → Pr = λ η. ⟦ ledger c.code η d [] ⟧ in let S : ℕ → Pr = λ η. ⟦ sitting α c η d [] ⟧ in
      via 𝓤 (upd 𝓤 (ex 𝓤 L)) (Ledgers.begins 𝓛 cv γ d)
      (upd_mono 𝓤 {P = ex 𝓤 L} {Q = ex 𝓤 S} (ex_e 𝓤 L (λ η. qed 𝓛 (‵ (ledger c.code η d []) ∷ []) ∵ nothing ! $ move ! (1 ∷ 0 ∷ []) $ fjoin ! $ show ! S η $
      done !)))

  -- WHERE THE LIFETIME IS OVER NOBODY IS ON AN ERRAND
  one_back : (e : Away) → ⟦ stake α γ e ⟧ ∗ A.dead α ⊢ guard 𝓤 (e ≡ None) (A.dead α)
  one_back None = qed 𝓛 (‵ ftrue ∷ ‵ (fdead α) ∷ []) ∵ drop ! $ check ! refl $ done !
  one_back (Some o) = qed 𝓛 ((‵ (flft α o.part) ⊛ ‵ (aide_stake γ o.aided)) ∷ ‵ (fdead α) ∷ []) ∵ split ! $ move ! (0 ∷ 2 ∷ []) $
      use2 𝓛 (raw (never 𝓤)) (𝓛.lfts.lft-dead α o.part) $ keep ! (0 ∷ []) $ by ! (never_e 𝓤 (guard 𝓤 (Some o ≡ None) (A.dead α)))

  both_back : (y : V) (ys : List V) → c.away y ≡ None → AreAllBack c.away ys → AreAllBack c.away (y ∷ ys)
  both_back y ys home rest zero v at = let same : y ≡ v = cc at in ap c.away (sym same) ∙ home
  both_back y ys home rest (suc id) v at = rest id v at

  pub all_back : (vs : List V) → ⟦ Left vs ⟧ ∗ A.dead α ⊢ guard 𝓤 (AreAllBack c.away vs) (A.dead α)
  all_back [] = qed 𝓛 (‵ ftrue ∷ ‵ (fdead α) ∷ []) ∵ drop ! $ check ! (λ id v at. absurd (cc at)) $ done !
  all_back (y ∷ ys) = qed 𝓛 ((‵ (Of y) ⊛ ‵ (Left ys)) ∷ ‵ (fdead α) ∷ []) ∵ split ! $ move ! (0 ∷ 2 ∷ []) $
      use2 𝓛 (given (c.away y ≡ None) (‵ (fdead α))) (one_back (c.away y)) $ learn ! (λ home. move ! (1 ∷ 0 ∷ []) $
      use2 𝓛 (given (AreAllBack c.away ys) (‵ (fdead α))) (all_back ys) $ learn ! (λ rest. check ! (both_back y ys home rest) $ done !))

  -- WHO MAY CHANGE ITS VIEW IS LENT TO NOBODY: a part of that view would be left with an errand
  module _ (id : ℕ) (v : V) where
    abbrev Whole : Fml
    Whole = Sn full_share id v

    neither : (a : Aide) (xs : List Aide) → a.seat ≢ id → (IsOneOf xs id → ⊥) → IsOneOf (a ∷ xs) id → ⊥
    neither a xs ne none (inl is) = ne is
    neither a xs ne none (inr is) = none is

    abbrev Aside : List Aide → Type 1
    Aside xs = ⟦ Whole ⟧ ∗ ⟦ aide_shares γ xs ⟧ ⊢ guard 𝓤 (IsOneOf xs id → ⊥) (⟦ Whole ⟧ ∗ ⟦ aide_shares γ xs ⟧)

    one_aside : (a : Aide) (xs : List Aide) → Aside xs → (a.seat ≡ id) ⊎ (a.seat ≢ id) → Aside (a ∷ xs)
    one_aside a xs rest (inl same) = let Of_a : ℕ → Fml = λ n. seen (λ (g : Gv). g) γ a.part n a.view in
        qed 𝓛 (‵ Whole ∷ (‵ (Of_a a.seat) ⊛ ‵ (aide_shares γ xs)) ∷ []) ∵ move ! (1 ∷ []) $ split ! $ move ! (2 ∷ 0 ∷ []) $
        rewrite ! 1 (λ (n : ℕ). ‵ (Of_a n)) same refl $
        use2 𝓛 (given ⊥ (‵ Whole ⊛ ‵ (Of_a id))) (Ledgers.alone 𝓛 itself γ id a.part (c.code v) a.view) $ learn ! (λ no. absurd no)
    one_aside a xs rest (inr ne) =
        qed 𝓛 (‵ Whole ∷ (‵ (seen (λ (g : Gv). g) γ a.part a.seat a.view) ⊛ ‵ (aide_shares γ xs)) ∷ []) ∵ move ! (1 ∷ []) $ split ! $ move ! (2 ∷ 1 ∷ []) $
        use2 𝓛 (given (IsOneOf xs id → ⊥) (‵ Whole ⊛ ‵ (aide_shares γ xs))) rest $ learn ! (λ none. check ! (neither a xs ne none) $ split ! $
        -- [the whole; the others' shares; the one's]
        frame ! $ move ! (1 ∷ 0 ∷ []) $ done !)

    all_aside : (xs : List Aide) → Aside xs
    all_aside [] = qed 𝓛 (‵ Whole ∷ ‵ ftrue ∷ []) ∵ check ! (λ none. none) $ done !
    all_aside (a ∷ xs) = one_aside a xs (all_aside xs) (cases_eq a.seat id)

    aside : (a : Aided) → ⟦ Whole ⟧ ∗ ⟦ aide_stake γ a ⟧ ⊢ guard 𝓤 (IsAide a id → ⊥) (⟦ Whole ⟧ ∗ ⟦ aide_stake γ a ⟧)
    aside (These xs) = all_aside xs
    aside Anyone = qed 𝓛 (‵ Whole ∷ ‵ (fact ⊥) ∷ []) ∵ move ! (1 ∷ []) $ fpick ! (λ none. absurd none)

    one_unlent : (e : Away) → ⟦ Whole ⟧ ∗ ⟦ stake α γ e ⟧ ⊢ guard 𝓤 (Lends e id → ⊥) (⟦ Whole ⟧ ∗ ⟦ stake α γ e ⟧)
    one_unlent None = qed 𝓛 (‵ Whole ∷ ‵ ftrue ∷ []) ∵ check ! (λ none. none) $ done !
    one_unlent (Some o) = qed 𝓛 (‵ Whole ∷ ‵ (stake α γ (Some o)) ∷ []) ∵ move ! (1 ∷ []) $ fsplit ! $ move ! (2 ∷ 1 ∷ []) $
        use2 𝓛 (given (IsAide o.aided id → ⊥) (‵ Whole ⊛ ‵ (aide_stake γ o.aided))) (aside o.aided) $ learn ! (λ none. check ! none $ split ! $
        -- [the whole; the aide; the token]
        move ! (2 ∷ 1 ∷ []) $ fjoin ! $ move ! (1 ∷ 0 ∷ []) $ done !)

    more_unlent : (y : V) (ys : List V) → (Lends (c.away y) id → ⊥) → AreUnlent c.away id ys → AreUnlent c.away id (y ∷ ys)
    more_unlent y ys one rest zero u at lent = let same : y ≡ u = cc at in one (subst (λ (w : V). Lends (c.away w) id) (sym same) lent)
    more_unlent y ys one rest (suc j) u at lent = rest j u at lent

    all_unlent : (vs : List V) → ⟦ Whole ⟧ ∗ ⟦ Left vs ⟧ ⊢ guard 𝓤 (AreUnlent c.away id vs) (⟦ Whole ⟧ ∗ ⟦ Left vs ⟧)
    all_unlent [] = qed 𝓛 (‵ Whole ∷ ‵ ftrue ∷ []) ∵ check ! (λ j u at lent. absurd (cc at)) $ done !
    all_unlent (y ∷ ys) = qed 𝓛 (‵ Whole ∷ (‵ (Of y) ⊛ ‵ (Left ys)) ∷ []) ∵ move ! (1 ∷ []) $ split ! $ move ! (2 ∷ 0 ∷ []) $
        use2 𝓛 (given (Lends (c.away y) id → ⊥) (‵ Whole ⊛ ‵ (Of y))) (one_unlent (c.away y)) $ learn ! (λ one. split ! $ move ! (0 ∷ 2 ∷ []) $
        use2 𝓛 (given (AreUnlent c.away id ys) (‵ Whole ⊛ ‵ (Left ys))) (all_unlent ys) $ learn ! (λ rest. check ! (more_unlent y ys one rest) $ split ! $
        frame ! $ move ! (1 ∷ 0 ∷ []) $ done !))

    pub unlent : (d : V) (vs : List V) → slice_get vs id ≡ Some v → ⟦ Sit d vs ⟧ ∗ ⟦ Sn three_quarters id v ⟧
        ⊢ guard 𝓤 (AreUnlent c.away id vs) (⟦ Sit d vs ⟧ ∗ ⟦ Sn three_quarters id v ⟧)
    unlent d vs at = qed 𝓛 (‵ (Sit d vs) ∷ ‵ (Sn three_quarters id v) ∷ []) ∵ fsplit ! $ move ! (0 ∷ 2 ∷ []) $
        use2 𝓛 (‵ Whole ⊛ raw (wand 𝓤 ⟦ Whole ⟧ (⟦ Led d vs ⟧ ∗ ⟦ Sn three_quarters id v ⟧))) (Ledgers.wholly 𝓛 cv γ d vs id v at) $ split ! $
        -- [the whole; the way back; what is left]
        move ! (0 ∷ 2 ∷ []) $ use2 𝓛 (given (AreUnlent c.away id vs) (‵ Whole ⊛ ‵ (Left vs))) (all_unlent vs) $ learn ! (λ none. check ! none $ split ! $
        move ! (0 ∷ 2 ∷ []) $ use2 𝓛 (‵ (Led d vs) ⊛ ‵ (Sn three_quarters id v)) (apply∗ 𝓤 ⟦ Whole ⟧ (⟦ Led d vs ⟧ ∗ ⟦ Sn three_quarters id v ⟧)) $ split ! $
        -- [the views; the seat; what is left]
        move ! (0 ∷ 2 ∷ []) $ fjoin ! $ done !)
