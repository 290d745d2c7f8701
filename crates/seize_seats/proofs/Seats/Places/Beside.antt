-- Numbers of one strip, side by side: one of them opened at a time. Assumes `Logic`.
use Rattle.std.proofs.Common.{◌≡◌, ℕ, zero, suc, ◌+◌, ◌*◌, ◌<◌, List, [], ◌∷◌, length, set, sym, refl, ◌∙◌, arith}
use seplogic.Ra.Ura.{Ura}
use base.Logic.{SProp, ent, sep, wand, all, apply∗, all_e}
use base.Fml.{Lft, Fml}
use types.Logic.{Logic, sem}
use types.Kit.{‵, raw, ◌⊛◌, ◌$◌, ◌∵◌, !, qed, move, split, frame, each, assume, use1, use2, rewrite, done}
use denote.RattleType.{RattleType}
use Rattle.seize_seats.specs.Seats.Cells.{Body, Cell, cell_at}
use Rattle.seize_seats.specs.Seats.Owned.{stride, under, numbers}

module _ {M : Type 1} {𝓤 : Ura M} (𝓛 : Logic 𝓤) (R : RattleType) (α : Lft) (δ : ℕ) (lent : ℕ → Body R.Denot → ℕ → ℕ → Fml) (had : ℕ → ℕ → Body R.Denot → Fml) (b b' : ℕ) where
  abbrev Under : ℕ → ℕ → ℕ → Cell R.Denot → Fml
  Under o o' i c = under R α δ lent had b o b' o' i c

  abbrev All : ℕ → ℕ → ℕ → List (Cell R.Denot) → Fml
  All o o' i cs = numbers R α δ lent had b o b' o' i cs

  -- whoever has another cell of the number has all of them with it
  abbrev pub Puts : ℕ → ℕ → ℕ → List (Cell R.Denot) → ℕ → ℕ → ℕ → ℕ → Cell R.Denot → SProp 𝓤
  Puts o o' k cs i e e' j d = wand 𝓤 (sem 𝓛 (Under e e' j d)) (sem 𝓛 (All o o' k (set cs i d)))

  pub numbers_at : (cs : List (Cell R.Denot)) (o o' k i e e' j : ℕ) (c : Cell R.Denot) → e ≡ i * 40 + o → e' ≡ i * stride R + o' → j ≡ k + i → i < length cs
      → cell_at cs i ≡ c → ent 𝓤 (sem 𝓛 (All o o' k cs)) (sep 𝓤 (sem 𝓛 (Under e e' j c)) (all 𝓤 (Puts o o' k cs i e e' j)))
  numbers_at [] o o' k i e e' j c is is' at lt has = absurd (omega (arith, lt))
  numbers_at (y ∷ ys) o o' k zero e e' j c is is' at lt has =
      let here : o ≡ e = omega (arith, is) in let there : o' ≡ e' = omega (arith, is') in let this : k ≡ j = omega (arith, at) in let same : y ≡ c = has in
      qed 𝓛 (‵ (Under o o' k y) ∷ ‵ (All (o + 40) (o' + stride R) (suc k) ys) ∷ []) ∵
      rewrite ! 0 (λ (t : (ℕ × ℕ) × (ℕ × Cell R.Denot)). ‵ (Under t.0.0 t.0.1 t.1.0 t.1.1)) (λ i. ((here i, there i), (this i, same i))) refl $ frame ! $
      each ! (Puts o o' k (y ∷ ys) zero e e' j) (λ d. assume ! (‵ (Under e e' j d)) $
      rewrite ! 0 (λ (t : (ℕ × ℕ) × ℕ). ‵ (Under t.0.0 t.0.1 t.1 d)) (λ i. ((sym here i, sym there i), sym this i)) refl $ done !)
  numbers_at (y ∷ ys) o o' k (suc i) e e' j c is is' at lt has =
      let P = Puts (o + 40) (o' + stride R) (suc k) ys i e e' j in
      qed 𝓛 (‵ (Under o o' k y) ∷ ‵ (All (o + 40) (o' + stride R) (suc k) ys) ∷ []) ∵ move ! (1 ∷ []) $
      use1 𝓛 (‵ (Under e e' j c) ⊛ raw (all 𝓤 P))
      (numbers_at ys (o + 40) (o' + stride R) (suc k) i e e' j c (omega (arith, is)) (is' ∙ further i (stride R) o') (omega (arith, at)) (omega (arith, lt)) has) $
      split ! $ frame ! $
      each ! (Puts o o' k (y ∷ ys) (suc i) e e' j) (λ d. use1 𝓛 (raw (P d)) (all_e 𝓤 P d) $ assume ! (‵ (Under e e' j d)) $
      let Back : Fml = All (o + 40) (o' + stride R) (suc k) (set ys i d) in
      use2 𝓛 (‵ Back) (apply∗ 𝓤 (sem 𝓛 (Under e e' j d)) (sem 𝓛 (Back))) $ move ! (1 ∷ 0 ∷ []) $ done !)
    where
      further : (i n o : ℕ) → suc i * n + o ≡ i * n + (o + n)
      further i n o = omega arith
