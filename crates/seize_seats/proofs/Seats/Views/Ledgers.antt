-- The list of views: a quarter of each stands in it, three quarters are with the seat. Assumes `Logic`.
use Rattle.std.proofs.Common.{◌≡◌, ◌≢◌, ℕ, zero, suc, ◌+◌, List, [], ◌∷◌, ◌++◌, length, set, sym, refl, ap, subst, arith, Some}
use Rattle.std.specs.Prelude.{slice_get}
use mathlib.Core.Path.{Path}
use mathlib.Mathlib.Data.Part.{◌∈◌, mem_unique}
use seplogic.Ra.Pcs.{OpDef, OpDef-comm}
use seplogic.Ra.Ura.{Ura}
use seplogic.Ra.Constructions.Prod
use seplogic.Ra.Instances.Ag
use base.Algebras.{shares, pcs}
use base.Fraction.{full_share}
use base.FractionLaws.{not-OpDef-full_share}
use base.Share
use base.Share.{quarter, three_quarters}
use base.SetCodes.{coded, SetCoded-set}
use base.Stored.{Gv, Coded}
use base.Logic.{SProp, id⊢, ent, sep, wand, ex, all, guard, upd, via, apply∗, all_e, ex_e, guard_e, guard_i, upd_i, upd_mono}
use base.Fml.{Share, Fml, ftrue}
use types.Keyed.{entry, entries_take, entries_beside, entry_cut, entry_glue, entry_set, entries_new}
use types.Logic.{Logic, sem}
use types.Kit.{‵, raw, ◌⊛◌, given, ◌$◌, ◌∵◌, !, qed, move, split, split3, join, fsplit, fjoin, learn, check, frame, each, assume, suffices, settle, use1, use2, use3, rewrite, done}
use ghost.Rules.{Halves}
use Rattle.seize_seats.specs.Seats.Owned.{itself, shared_view, seen, unborn, quarters, ledger}
use Rattle.seize_words.proofs.General.{set_same as set_same_here}

-- the views of others stay
pub other_view : {V : Type 0} (vs : List V) (i j : ℕ) (w : V) → j ≢ i → slice_get (set vs i w) j ≡ slice_get vs j
other_view [] i j w ne = refl
other_view (v ∷ vs) zero zero w ne = absurd (ne refl)
other_view (v ∷ vs) zero (suc j) w ne = refl
other_view (v ∷ vs) (suc i) zero w ne = refl
other_view (v ∷ vs) (suc i) (suc j) w ne = other_view vs i j w (λ e. ne (ap suc e))

module _ {M : Type 1} {𝓤 : Ura M} (𝓛 : Logic 𝓤) {V : Type 0} (cv : Coded V) (γ : ℕ) where
  abbrev Pr : Type 2
  Pr = SProp 𝓤

  abbrev ◌⊢◌ : Pr → Pr → Type 1
  P ⊢ Q = ent 𝓤 P Q

  abbrev ◌∗◌ : Pr → Pr → Pr
  P ∗ Q = sep 𝓤 P Q

  abbrev ◌-∗◌ : Pr → Pr → Pr
  P -∗ Q = wand 𝓤 P Q

  abbrev ⟦◌⟧ : Fml → Pr
  ⟦ P ⟧ = sem 𝓛 P

  infix 26 ◌⊢◌
  infixr 35 ◌∗◌
  infixr 30 ◌-∗◌
  abbrev c : V → Gv
  c = cv.code

  abbrev Sn : Share → ℕ → V → Fml
  Sn = seen c γ

  abbrev All : ℕ → List V → Fml
  All = quarters c γ

  abbrev Rest : ℕ → V → Fml
  Rest = unborn c γ

  abbrev Led : V → List V → Fml
  Led = ledger c γ

  -- the quarter and the other three of one view, in halves that say the same
  pub cuts : (k : ℕ) (u : V) → ⟦ Sn full_share k u ⟧ ⊢ ⟦ Sn quarter k u ⟧ ∗ ⟦ Sn three_quarters k u ⟧
  cuts k u = entry_cut shared_view 𝓛 γ k (quarter, c u) (three_quarters, c u) (full_share, c u)
      (Prod.mk-mem-op Share.op (Ag.op (SetCoded-set (coded itself))) {a = quarter} {a' = three_quarters} {x = full_share} {b = c u} {b' = c u} {y =
      c u} Share.quarters (Ag.idem (SetCoded-set (coded itself)) (c u)))

  -- a share of a view is cut into its halves and made of them
  pub view_halves : (k : ℕ) (u : V) → Halves 𝓤 𝓛.H 𝓛.A (λ q. Sn q k u)
  view_halves k u = record { cut = cut; join = join }
    where
      sum : (q : Share) → ◌∈◌ {α = Share × Gv} (q, c u) (shared_view.op (Share.left q, c u) (Share.right q, c u))
      sum q = Prod.mk-mem-op Share.op (Ag.op (SetCoded-set (coded itself))) {a = Share.left q} {a' = Share.right q} {x = q} {b = c u} {b' = c u} {y =
          c u} (Share.halves q) (Ag.idem (SetCoded-set (coded itself)) (c u))

      cut : (q : Share) → ⟦ Sn q k u ⟧ ⊢ ⟦ Sn (Share.left q) k u ⟧ ∗ ⟦ Sn (Share.right q) k u ⟧
      cut q = entry_cut shared_view 𝓛 γ k (Share.left q, c u) (Share.right q, c u) (q, c u) (sum q)

      join : (q : Share) → ⟦ Sn (Share.left q) k u ⟧ ∗ ⟦ Sn (Share.right q) k u ⟧ ⊢ ⟦ Sn q k u ⟧
      join q = let F : Share × Gv → Pr = λ x. guard 𝓤 (x ∈ shared_view.op (Share.left q, c u) (Share.right q, c u)) ⟦ entry shared_view γ k x ⟧ in
          via 𝓤 (ex 𝓤 F) (entry_glue shared_view 𝓛 γ k (Share.left q, c u) (Share.right q, c u)) (ex_e 𝓤 F (λ x. guard_e 𝓤 (x ∈ shared_view.op (
            Share.left q,
            c u,
          ) (Share.right q, c u)) ⟦ entry shared_view γ k x ⟧ (λ m.
          subst (λ (y : Share × Gv). ⟦ entry shared_view γ k x ⟧ ⊢ ⟦ entry shared_view γ k y ⟧)
          (mem_unique (shared_view.op (Share.left q, c u) (Share.right q, c u)) m (sum q)) (id⊢ 𝓤 ⟦ entry shared_view γ k x ⟧))))

  -- two shares of one view say the same, whatever they are
  pub agree : (k : ℕ) (q : Share) (w v : V) → ⟦ Sn quarter k w ⟧ ∗ ⟦ Sn q k v ⟧ ⊢ guard 𝓤 (w ≡ v) (⟦ Sn quarter k w ⟧ ∗ ⟦ Sn q k v ⟧)
  agree k q w v = let F : Share × Gv → Pr = λ x. guard 𝓤 (x ∈ shared_view.op (quarter, c w) (q, c v)) ⟦ entry shared_view γ k x ⟧ in
      let Both : Pr = ⟦ Sn quarter k w ⟧ ∗ ⟦ Sn q k v ⟧ in
      via 𝓤 (ex 𝓤 F) (entry_glue shared_view 𝓛 γ k (quarter, c w) (q, c v)) (ex_e 𝓤 F (λ x. guard_e 𝓤 (x ∈ shared_view.op (quarter, c w) (
        q,
        c v,
      )) ⟦ entry shared_view γ k x ⟧ (λ m.
      via 𝓤 Both (entry_cut shared_view 𝓛 γ k (quarter, c w) (q, c v) x m) (guard_i 𝓤 (w ≡ v) Both (cv.inj w v m.0.1)))))

  -- the one who has all of it but what stands in the list sets it
  pub sets : (k : ℕ) (w v u : V) → ⟦ Sn quarter k w ⟧ ∗ ⟦ Sn three_quarters k v ⟧ ⊢ upd 𝓤 (⟦ Sn quarter k u ⟧ ∗ ⟦ Sn three_quarters k u ⟧)
  sets k w v u = let Z : Pr = ⟦ Sn quarter k u ⟧ ∗ ⟦ Sn three_quarters k u ⟧ in
      let F : Share × Gv → Pr = λ x. guard 𝓤 (x ∈ shared_view.op (quarter, c w) (three_quarters, c v)) ⟦ entry shared_view γ k x ⟧ in
      via 𝓤 (ex 𝓤 F) (entry_glue shared_view 𝓛 γ k (quarter, c w) (three_quarters, c v)) (ex_e 𝓤 F (λ x. guard_e 𝓤 (x ∈ shared_view.op (
        quarter,
        c w,
      ) (three_quarters, c v)) ⟦ entry shared_view γ k x ⟧ (λ m.
      subst (λ (y : Share × Gv). ⟦ entry shared_view γ k y ⟧ ⊢ upd 𝓤 Z) m.1 (anew k (c w) u))))
    where
      anew : (k : ℕ) (g : Gv) (u : V) → ⟦ entry shared_view γ k (full_share, g) ⟧ ⊢ upd 𝓤 (⟦ Sn quarter k u ⟧ ∗ ⟦ Sn three_quarters k u ⟧)
      anew k g u = let B : Share × Gv → Type 0 = λ y. Path (Share × Gv) y (full_share, c u) in
          let F : Share × Gv → Pr = λ y. guard 𝓤 (B y) ⟦ entry shared_view γ k y ⟧ in let Z : Pr = ⟦ Sn quarter k u ⟧ ∗ ⟦ Sn three_quarters k u ⟧ in
          via 𝓤 (upd 𝓤 (ex 𝓤 F)) (entry_set shared_view 𝓛 γ k (full_share, g) B ∣ ((full_share, c u), refl) ∣₁ (λ f d. absurd (not-OpDef-full_share f.0 d.0)))
          (upd_mono 𝓤 {P = ex 𝓤 F} {Q = Z} (ex_e 𝓤 F (λ y. guard_e 𝓤 (B y) ⟦ entry shared_view γ k y ⟧ (λ e. subst (λ (t : Share ×
          Gv). ⟦ entry shared_view γ k t ⟧ ⊢ Z) (sym e) (cuts k u)))))

  -- the two shares are the whole of one view
  pub glues : (k : ℕ) (w v : V) → ⟦ Sn quarter k w ⟧ ∗ ⟦ Sn three_quarters k v ⟧ ⊢ guard 𝓤 (w ≡ v) ⟦ Sn full_share k w ⟧
  glues k w v = let F : Share × Gv → Pr = λ x. guard 𝓤 (x ∈ shared_view.op (quarter, c w) (three_quarters, c v)) ⟦ entry shared_view γ k x ⟧ in
      let Z : Pr = guard 𝓤 (w ≡ v) ⟦ Sn full_share k w ⟧ in
      via 𝓤 (ex 𝓤 F) (entry_glue shared_view 𝓛 γ k (quarter, c w) (three_quarters, c v)) (ex_e 𝓤 F (λ x. guard_e 𝓤 (x ∈ shared_view.op (
        quarter,
        c w,
      ) (three_quarters, c v)) ⟦ entry shared_view γ k x ⟧ (λ m.
      subst (λ (y : Share × Gv). ⟦ entry shared_view γ k y ⟧ ⊢ Z) m.1 (guard_i 𝓤 (w ≡ v) ⟦ Sn full_share k w ⟧ (cv.inj w v m.0.1)))))

  -- who has the whole of it is alone with it
  pub alone : (k : ℕ) (q : Share) (w v : V) → ⟦ Sn full_share k w ⟧ ∗ ⟦ Sn q k v ⟧ ⊢ guard 𝓤 ⊥ (⟦ Sn full_share k w ⟧ ∗ ⟦ Sn q k v ⟧)
  alone k q w v = let F : Share × Gv → Pr = λ x. guard 𝓤 (x ∈ shared_view.op (full_share, c w) (q, c v)) ⟦ entry shared_view γ k x ⟧ in
      let Both : Pr = ⟦ Sn full_share k w ⟧ ∗ ⟦ Sn q k v ⟧ in
      via 𝓤 (ex 𝓤 F) (entry_glue shared_view 𝓛 γ k (full_share, c w) (q, c v)) (ex_e 𝓤 F (λ x. guard_e 𝓤 (x ∈ shared_view.op (full_share, c w) (
        q,
        c v,
      )) ⟦ entry shared_view γ k x ⟧ (λ m. absurd (not-OpDef-full_share q m.0.0))))

  -- three quarters are beside no other three
  pub once : (k : ℕ) (w v : V) → ⟦ Sn three_quarters k w ⟧ ∗ ⟦ Sn three_quarters k v ⟧ ⊢ guard 𝓤 ⊥ (⟦ Sn three_quarters k w ⟧ ∗ ⟦ Sn three_quarters k v ⟧)
  once k w v = let F : Share × Gv → Pr = λ x. guard 𝓤 (x ∈ shared_view.op (three_quarters, c w) (three_quarters, c v)) ⟦ entry shared_view γ k x ⟧ in
      let Both : Pr = ⟦ Sn three_quarters k w ⟧ ∗ ⟦ Sn three_quarters k v ⟧ in
      via 𝓤 (ex 𝓤 F) (entry_glue shared_view 𝓛 γ k (three_quarters, c w) (three_quarters, c v)) (ex_e 𝓤 F (λ x. guard_e 𝓤 (x ∈ shared_view.op (
        three_quarters,
        c w,
      ) (three_quarters, c v)) ⟦ entry shared_view γ k x ⟧ (λ m. absurd (Share.three_quarters_once m.0.0))))

  -- a share of a view is of one of the list, and the list says the same
  listed : (vs : List V) (k i j n : ℕ) (q : Share) (v d : V) → j ≡ k + i → n ≡ k + length vs → ⟦ All k vs ⟧ ∗ ⟦ Rest n d ⟧ ∗ ⟦ Sn q j v ⟧
      ⊢ guard 𝓤 (slice_get vs i ≡ Some v) (⟦ All k vs ⟧ ∗ ⟦ Rest n d ⟧ ∗ ⟦ Sn q j v ⟧)
  listed [] k i j n q v d e l = qed 𝓛 (‵ ftrue ∷ ‵ (Rest n d) ∷ ‵ (Sn q j v) ∷ []) ∵ move ! (2 ∷ 1 ∷ []) $
      use2 𝓛 (given (OpDef shared_view.op (q, c v) (full_share, c d)) (‵ (Sn q j v) ⊛ ‵ (Rest n d))) (entries_beside shared_view 𝓛 γ n j (λ _. (
        full_share,
        c d,
      )) (q, c v) (omega arith)) $
      learn ! (λ x. absurd (not-OpDef-full_share q ((OpDef-comm (pcs shares) {a = q} {b = full_share}).0 x.0)))
  listed (w ∷ ws) k zero j n q v d e l = let is : j ≡ k = omega arith in
      qed 𝓛 ((‵ (Sn quarter k w) ⊛ ‵ (All (suc k) ws)) ∷ ‵ (Rest n d) ∷ ‵ (Sn q j v) ∷ []) ∵ split ! $ rewrite ! 3 (λ (m : ℕ). ‵ (Sn q m v)) is refl $
      move ! (0 ∷ 3 ∷ []) $
      use2 𝓛 (given (w ≡ v) (‵ (Sn quarter k w) ⊛ ‵ (Sn q k v))) (agree k q w v) $ learn ! (λ same. check ! (ap Some same) $ split ! $
      rewrite ! 1 (λ (m : ℕ). ‵ (Sn q m v)) (sym is) refl $ move ! (0 ∷ 2 ∷ []) $ join ! $ frame ! $ move ! (1 ∷ 0 ∷ []) $ done !)
  listed (w ∷ ws) k (suc i) j n q v d e l = qed 𝓛 ((‵ (Sn quarter k w) ⊛ ‵ (All (suc k) ws)) ∷ ‵ (Rest n d) ∷ ‵ (Sn q j v) ∷ []) ∵ split ! $
      move ! (1 ∷ 2 ∷ 3 ∷ []) $
      use3 𝓛 (given (slice_get ws i ≡ Some v) (‵ (All (suc k) ws) ⊛ ‵ (Rest n d) ⊛
      ‵ (Sn q j v))) (listed ws (suc k) i j n q v d (omega arith) (omega arith)) $ learn ! (λ at. check ! at $ split3 ! $
      move ! (3 ∷ 0 ∷ []) $ join ! $ frame ! $ done !)

  -- whoever has a share of a view sees it in the list
  pub sits : (d : V) (vs : List V) (j : ℕ) (q : Share) (v : V) → ⟦ Led d vs ⟧ ∗ ⟦ Sn q j v ⟧ ⊢ guard 𝓤 (slice_get vs j ≡ Some v) (⟦ Led d vs ⟧ ∗ ⟦ Sn q j v ⟧)
  sits d vs j q v = qed 𝓛 (‵ (Led d vs) ∷ ‵ (Sn q j v) ∷ []) ∵ fsplit ! $
      use3 𝓛 (given (slice_get vs j ≡ Some v) (‵ (All 0 vs) ⊛ ‵ (Rest (length vs) d) ⊛
      ‵ (Sn q j v))) (listed vs 0 j j (length vs) q v d (omega arith) (omega arith)) $
      learn ! (λ at. check ! at $ split3 ! $ fjoin ! $ done !)

  -- a list of views is its j-th, and what takes another one in its place
  abbrev Puts : ℕ → List V → ℕ → ℕ → V → Pr
  Puts k vs i j y = ⟦ Sn quarter j y ⟧ -∗ ⟦ All k (set vs i y) ⟧

  all_at : (vs : List V) (k i j : ℕ) (v : V) → j ≡ k + i → slice_get vs i ≡ Some v → ⟦ All k vs ⟧ ⊢ ⟦ Sn quarter j v ⟧ ∗ all 𝓤 (Puts k vs i j)
  all_at [] k i j v e at = absurd (cc at)
  all_at (y ∷ ys) k zero j v e at = let is : k ≡ j = omega arith in let same : y ≡ v = cc at in
      qed 𝓛 (‵ (Sn quarter k y) ∷ ‵ (All (suc k) ys) ∷ []) ∵ rewrite ! 0 (λ (z : V). ‵ (Sn quarter k z)) same refl $
      rewrite ! 0 (λ (n : ℕ). ‵ (Sn quarter n v)) is refl $ frame ! $ each ! (Puts k (y ∷ ys) zero j) (λ z. assume ! (‵ (Sn quarter j z)) $
      rewrite ! 0 (λ (n : ℕ). ‵ (Sn quarter n z)) (sym is) refl $ done !)
  all_at (y ∷ ys) k (suc i) j v e at = qed 𝓛 (‵ (Sn quarter k y) ∷ ‵ (All (suc k) ys) ∷ []) ∵ move ! (1 ∷ []) $
      use1 𝓛 (‵ (Sn quarter j v) ⊛ raw (all 𝓤 (Puts (suc k) ys i j))) (all_at ys (suc k) i j v (omega arith) at) $ split ! $ frame ! $
      each ! (Puts k (y ∷ ys) (suc i) j) (λ z. use1 𝓛 (raw (Puts (suc k) ys i j z)) (all_e 𝓤 (Puts (suc k) ys i j) z) $ assume ! (‵ (Sn quarter j z)) $
      use2 𝓛 (‵ (All (suc k) (set ys i z))) (apply∗ 𝓤 ⟦ Sn quarter j z ⟧ ⟦ All (suc k) (set ys i z) ⟧) $ move ! (1 ∷ 0 ∷ []) $ done !)

  -- three quarters of a view and a quarter of the list's are all of it
  pub crowded : (d : V) (vs : List V) (j : ℕ) (q : Share) (v u : V) (Z : Pr) → ⟦ Led d vs ⟧ ∗ ⟦ Sn three_quarters j v ⟧ ∗ ⟦ Sn q j u ⟧ ⊢ Z
  crowded d vs j q v u Z = qed 𝓛 (‵ (Led d vs) ∷ ‵ (Sn three_quarters j v) ∷ ‵ (Sn q j u) ∷ []) ∵
      use2 𝓛 (given (slice_get vs j ≡ Some v) (‵ (Led d vs) ⊛ ‵ (Sn three_quarters j v))) (sits d vs j three_quarters v) $ learn ! (λ at. split ! $ fsplit ! $
      use1 𝓛 (‵ (Sn quarter j v) ⊛ raw (all 𝓤 (Puts 0 vs j j))) (all_at vs 0 j j v (omega arith) at) $ split ! $
      -- [a quarter; the others; those to come; three quarters; the share]
      move ! (0 ∷ 3 ∷ []) $ use2 𝓛 (given (v ≡ v) (‵ (Sn full_share j v))) (glues j v v) $ learn ! (λ _. move ! (0 ∷ 3 ∷ []) $
      use2 𝓛 (given ⊥ (‵ (Sn full_share j v) ⊛ ‵ (Sn q j u))) (alone j q v u) $ learn ! (λ no. absurd no)))

  -- the quarter of the list's and three are the whole of one view, for a while
  pub wholly : (d : V) (vs : List V) (j : ℕ) (v : V) → slice_get vs j ≡ Some v
      → ⟦ Led d vs ⟧ ∗ ⟦ Sn three_quarters j v ⟧ ⊢ ⟦ Sn full_share j v ⟧ ∗ (⟦ Sn full_share j v ⟧ -∗ ⟦ Led d vs ⟧ ∗ ⟦ Sn three_quarters j v ⟧)
  wholly d vs j v at = qed 𝓛 (‵ (Led d vs) ∷ ‵ (Sn three_quarters j v) ∷ []) ∵ fsplit ! $
      use1 𝓛 (‵ (Sn quarter j v) ⊛ raw (all 𝓤 (Puts 0 vs j j))) (all_at vs 0 j j v (omega arith) at) $ split ! $
      -- [a quarter; the others; those to come; three quarters]
      move ! (0 ∷ 3 ∷ []) $ use2 𝓛 (given (v ≡ v) (‵ (Sn full_share j v))) (glues j v v) $ learn ! (λ _. frame ! $ assume ! (‵ (Sn full_share j v)) $
      use1 𝓛 (‵ (Sn quarter j v) ⊛ ‵ (Sn three_quarters j v)) (cuts j v) $ split ! $ move ! (2 ∷ []) $
      use1 𝓛 (raw (Puts 0 vs j j v)) (all_e 𝓤 (Puts 0 vs j j) v) $ move ! (1 ∷ 0 ∷ []) $
      use2 𝓛 (‵ (All 0 (set vs j v))) (apply∗ 𝓤 ⟦ Sn quarter j v ⟧ ⟦ All 0 (set vs j v) ⟧) $
      rewrite ! 0 (λ (us : List V). ‵ (All 0 us)) (set_same_here vs j v at) refl $ move ! (0 ∷ 2 ∷ []) $ fjoin ! $ done !)

  all_snoc : (vs : List V) (k j : ℕ) (v : V) → j ≡ k + length vs → ⟦ All k vs ⟧ ∗ ⟦ Sn quarter j v ⟧ ⊢ ⟦ All k (vs ++ v ∷ []) ⟧
  all_snoc [] k j v e = let is : j ≡ k = omega arith in qed 𝓛 (‵ ftrue ∷ ‵ (Sn quarter j v) ∷ []) ∵ rewrite ! 1 (λ (n : ℕ). ‵ (Sn quarter n v)) is refl $
      move ! (1 ∷ 0 ∷ []) $ done !
  all_snoc (y ∷ ys) k j v e = qed 𝓛 ((‵ (Sn quarter k y) ⊛ ‵ (All (suc k) ys)) ∷ ‵ (Sn quarter j v) ∷ []) ∵ split ! $ frame ! $
      types.Kit.by ! (all_snoc ys (suc k) j v (omega arith))

  length_set : (vs : List V) (j : ℕ) (u : V) → length (set vs j u) ≡ length vs
  length_set [] j u = refl
  length_set (v ∷ vs) zero u = refl
  length_set (v ∷ vs) (suc j) u = ap suc (length_set vs j u)

  -- whoever may change a view changes it in the list, too
  pub turns : (d : V) (vs : List V) (j : ℕ) (v u : V) → slice_get vs j ≡ Some v
      → ⟦ Led d vs ⟧ ∗ ⟦ Sn three_quarters j v ⟧ ⊢ upd 𝓤 (⟦ Led d (set vs j u) ⟧ ∗ ⟦ Sn three_quarters j u ⟧)
  turns d vs j v u at = let Z : Pr = ⟦ Led d (set vs j u) ⟧ ∗ ⟦ Sn three_quarters j u ⟧ in qed 𝓛 (‵ (Led d vs) ∷ ‵ (Sn three_quarters j v) ∷ []) ∵ fsplit ! $
      use1 𝓛 (‵ (Sn quarter j v) ⊛ raw (all 𝓤 (Puts 0 vs j j))) (all_at vs 0 j j v (omega arith) at) $ split ! $ move ! (0 ∷ 3 ∷ []) $
      use2 𝓛 (raw (upd 𝓤 (⟦ Sn quarter j u ⟧ ∗ ⟦ Sn three_quarters j u ⟧))) (sets j v v u) $ settle 𝓛 Z (‵ (Sn quarter j u) ⊛ ‵ (Sn three_quarters j u)) $
      split ! $ suffices ! _ (upd_i 𝓤 Z) $
      move ! (2 ∷ []) $ use1 𝓛 (raw (Puts 0 vs j j u)) (all_e 𝓤 (Puts 0 vs j j) u) $ move ! (1 ∷ 0 ∷ []) $
      use2 𝓛 (‵ (All 0 (set vs j u))) (apply∗ 𝓤 ⟦ Sn quarter j u ⟧ ⟦ All 0 (set vs j u) ⟧) $
      move ! (2 ∷ []) $ rewrite ! 0 (λ (m : ℕ). ‵ (Rest m d)) (sym (length_set vs j u)) refl $ move ! (1 ∷ 0 ∷ []) $ fjoin ! $ done !

  length_snoc : (vs : List V) (u : V) → suc (length vs) ≡ length (vs ++ u ∷ [])
  length_snoc [] u = refl
  length_snoc (v ∷ vs) u = ap suc (length_snoc vs u)

  -- a new view joins at the end
  pub comes : (d : V) (vs : List V) (u : V) → ⟦ Led d vs ⟧ ⊢ upd 𝓤 (⟦ Led d (vs ++ u ∷ []) ⟧ ∗ ⟦ Sn three_quarters (length vs) u ⟧)
  comes d vs u = let n : ℕ = length vs in let Z : Pr = ⟦ Led d (vs ++ u ∷ []) ⟧ ∗ ⟦ Sn three_quarters n u ⟧ in qed 𝓛 (‵ (Led d vs) ∷ []) ∵ fsplit ! $
      move ! (1 ∷ []) $
      use1 𝓛 (‵ (Sn full_share n d) ⊛ ‵ (Rest (suc n) d)) (entries_take shared_view 𝓛 γ n (λ _. (full_share, c d))) $ split ! $
      use1 𝓛 (‵ (Sn quarter n d) ⊛ ‵ (Sn three_quarters n d)) (cuts n d) $ split ! $
      use2 𝓛 (raw (upd 𝓤 (⟦ Sn quarter n u ⟧ ∗ ⟦ Sn three_quarters n u ⟧))) (sets n d d u) $ settle 𝓛 Z (‵ (Sn quarter n u) ⊛ ‵ (Sn three_quarters n u)) $
      split ! $ suffices ! _ (upd_i 𝓤 Z) $
      move ! (3 ∷ 0 ∷ []) $ use2 𝓛 (‵ (All 0 (vs ++ u ∷ []))) (all_snoc vs 0 n u (omega arith)) $
      move ! (2 ∷ []) $ rewrite ! 0 (λ (m : ℕ). ‵ (Rest m d)) (length_snoc vs u) refl $ move ! (1 ∷ 0 ∷ []) $ fjoin ! $ done !

  -- with no seat yet, from nothing
  pub begins : (d : V) → ent 𝓤 (base.Logic.emp 𝓤) (upd 𝓤 (ex 𝓤 (λ (η : ℕ). ⟦ ledger c η d [] ⟧)))
  begins d = let E : ℕ → Pr = λ η. ⟦ unborn c η 0 d ⟧ in let L : ℕ → Pr = λ η. ⟦ ledger c η d [] ⟧ in
      via 𝓤 (upd 𝓤 (ex 𝓤 E)) (entries_new shared_view 𝓛 0 (λ _. (full_share, c d)))
      (upd_mono 𝓤 {P = ex 𝓤 E} {Q = ex 𝓤 L} (ex_e 𝓤 E (λ η. qed 𝓛 (‵ (unborn c η 0 d) ∷ []) ∵ denote.Steps.nothing ! $ fjoin ! $ types.Kit.show ! L η $
      done !)))
