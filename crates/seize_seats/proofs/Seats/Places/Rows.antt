-- Words side by side, one of them opened at a time. Assumes `Logic`.
use Rattle.std.proofs.Common.{◌≡◌, ℕ, zero, suc, ◌+◌, ◌*◌, ◌<◌, List, [], ◌∷◌, ◌++◌, length, set, get_or, sym, refl, arith}
use seplogic.Ra.Ura.{Ura}
use base.Logic.{SProp, ent, sep, wand, all, apply∗, all_e}
use base.Fml.{Fml, ftrue}
use types.Logic.{Logic, sem}
use types.Kit.{‵, raw, ◌⊛◌, ◌$◌, ◌∵◌, !, qed, move, keep, split, frame, each, assume, fjoin, use1, use2, rewrite, done}
use denote.Steps.{nothing}
use Rattle.core.specs.Sync.RawAtomic.{word}
use Rattle.seize_seats.specs.Seats.Owned.{row}

module _ {M : Type 1} {𝓤 : Ura M} (𝓛 : Logic 𝓤) (b : ℕ) where
  abbrev ⟦◌⟧ : Fml → SProp 𝓤
  ⟦ P ⟧ = sem 𝓛 P

  -- whoever has a word for the i-th place has the row with it
  abbrev pub Puts : ℕ → List ℕ → ℕ → ℕ → ℕ → SProp 𝓤
  Puts o ns i e y = wand 𝓤 ⟦ word b e y ⟧ ⟦ row b o (set ns i y) ⟧

  -- a row is its i-th word, and what takes another one in its place
  pub row_at : (ns : List ℕ) (o i e : ℕ) → e ≡ i * 8 + o → i < length ns → ent 𝓤 ⟦ row b o ns ⟧ (sep 𝓤 ⟦ word b e (get_or ns i 0) ⟧ (all 𝓤 (Puts o ns i e)))
  row_at [] o i e is lt = absurd (omega (arith, lt))
  row_at (n ∷ ns) o zero e is lt = let here : o ≡ e = omega arith in qed 𝓛 (‵ (word b o n) ∷ ‵ (row b (o + 8) ns) ∷ []) ∵
      rewrite ! 0 (λ (k : ℕ). ‵ (word b k n)) here refl $ frame ! $ each ! (Puts o (n ∷ ns) zero e) (λ y. assume ! (‵ (word b e y)) $
      rewrite ! 0 (λ (k : ℕ). ‵ (word b k y)) (sym here) refl $ done !)
  row_at (n ∷ ns) o (suc i) e is lt = qed 𝓛 (‵ (word b o n) ∷ ‵ (row b (o + 8) ns) ∷ []) ∵ move ! (1 ∷ []) $
      use1 𝓛 (‵ (word b e (get_or ns i 0)) ⊛ raw (all 𝓤 (Puts (o + 8) ns i e))) (row_at ns (o + 8) i e (omega arith) (omega (arith, lt))) $ split ! $ frame ! $
      each ! (Puts o (n ∷ ns) (suc i) e) (λ y. use1 𝓛 (raw (Puts (o + 8) ns i e y)) (all_e 𝓤 (Puts (o + 8) ns i e) y) $ assume ! (‵ (word b e y)) $
      use2 𝓛 (‵ (row b (o + 8) (set ns i y))) (apply∗ 𝓤 ⟦ word b e y ⟧ ⟦ row b (o + 8) (set ns i y) ⟧) $ move ! (1 ∷ 0 ∷ []) $ done !)

module _ {M : Type 1} {𝓤 : Ura M} (𝓛 : Logic 𝓤) (b : ℕ) where
  -- two rows that follow each other are one
  pub row_splits : (xs ys : List ℕ) (o e : ℕ) → e ≡ length xs * 8 + o → ent 𝓤 (sem 𝓛 (row b o (xs ++ ys))) (sep 𝓤 (sem 𝓛 (row b o xs)) (sem 𝓛 (row b e ys)))
  row_splits [] ys o e is = let here : o ≡ e = omega (arith, is) in qed 𝓛 (‵ (row b o ys) ∷ []) ∵ rewrite ! 0 (λ (k : ℕ). ‵ (row b k ys)) here refl $ nothing ! $ done !
  row_splits (x ∷ xs) ys o e is = qed 𝓛 (‵ (word b o x) ∷ ‵ (row b (o + 8) (xs ++ ys)) ∷ []) ∵ move ! (1 ∷ []) $
      use1 𝓛 (‵ (row b (o + 8) xs) ⊛ ‵ (row b e ys)) (row_splits xs ys (o + 8) e (omega (arith, is))) $ split ! $ move ! (2 ∷ 0 ∷ []) $ fjoin ! $ done !

  pub row_joins : (xs ys : List ℕ) (o e : ℕ) → e ≡ length xs * 8 + o → ent 𝓤 (sep 𝓤 (sem 𝓛 (row b o xs)) (sem 𝓛 (row b e ys))) (sem 𝓛 (row b o (xs ++ ys)))
  row_joins [] ys o e is = let here : e ≡ o = omega (arith, is) in qed 𝓛 (‵ ftrue ∷ ‵ (row b e ys) ∷ []) ∵
      rewrite ! 1 (λ (k : ℕ). ‵ (row b k ys)) here refl $ move ! (1 ∷ []) $ keep ! (0 ∷ []) $ done !
  row_joins (x ∷ xs) ys o e is = qed 𝓛 ((‵ (word b o x) ⊛ ‵ (row b (o + 8) xs)) ∷ ‵ (row b e ys) ∷ []) ∵ split ! $ move ! (1 ∷ 2 ∷ []) $
      use2 𝓛 (‵ (row b (o + 8) (xs ++ ys))) (row_joins xs ys (o + 8) e (omega (arith, is))) $ move ! (1 ∷ 0 ∷ []) $ fjoin ! $ done !
