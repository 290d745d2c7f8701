-- One number of all, whichever strip it lies in. Assumes `Logic`.
use Rattle.std.specs.Prelude.{slice_get}
use Rattle.std.proofs.Common.{◌≡◌, ℕ, zero, suc, ◌+◌, ◌-◌, ◌*◌, ◌<◌, ◌≤◌, List, [], ◌∷◌, length, set, take, drop, sym, refl, ap, ◌∙◌, subst, arith, Some}
use Rattle.std.proofs.lemmas.List.{length-take-le, length-drop, get_or-take, get_or-drop, take-set-le, drop-set-lt, drop-set-add}
use seplogic.Ra.Ura.{Ura}
use base.Logic.{SProp, ent, sep, wand, all, apply∗, all_e}
use base.Fml.{Lft, Fml}
use types.Logic.{Logic, sem}
use types.Kit.{‵, raw, ◌⊛◌, ◌$◌, ◌∵◌, !, qed, move, split, frame, each, assume, use1, use2, rewrite, done}
use denote.RattleType.{RattleType}
use denote.RawPtr.{block_of, count_of}
use Rattle.seize_seats.specs.Seats.Cells.{Body, Cell, Free, cell_at}
use Rattle.seize_seats.specs.Seats.Strips.{Strip, IsOf, AreStrips}
use Rattle.seize_seats.specs.Seats.Owned.{stride, under, numbers, strips}
use Rattle.seize_seats.proofs.Seats.Places.Beside as Beside

pub take_set : {A : Type 0} (n : ℕ) (l : List A) (i : ℕ) (a : A) → take n (set l i a) ≡ set (take n l) i a
take_set zero l i a = refl
take_set (suc n) [] i a = refl
take_set (suc n) (x ∷ l) zero a = refl
take_set (suc n) (x ∷ l) (suc i) a = ap (λ m. x ∷ m) (take_set n l i a)

pub strips_up : (ss : List Strip) (i n : ℕ) → AreStrips i ss n → i ≤ n
strips_up [] i n e = omega (arith, e)
strips_up (s ∷ ss) i n e = let r = strips_up ss (i + s.size) n e.1 in omega (arith, r)

-- where a strip lies among them
pub strip_within : (ss : List Strip) (i n k : ℕ) (s : Strip) → AreStrips i ss n → slice_get ss k ≡ Some s → (i ≤ s.first) × (s.first + s.size ≤ n)
strip_within [] i n k s e at = absurd (cc at)
strip_within (x ∷ ss) i n zero s e at = let same : x ≡ s = cc at in let up = strips_up ss (i + x.size) n e.1 in let first = e.0 in
    subst (λ (y : Strip). (i ≤ y.first) × (y.first + y.size ≤ n)) same (omega (arith, first), omega (arith, first, up))
strip_within (x ∷ ss) i n (suc k) s e at = let r = strip_within ss (i + x.size) n k s e.1 at in let low = r.0 in (omega (arith, low), r.1)

module _ {M : Type 1} {𝓤 : Ura M} (𝓛 : Logic 𝓤) (R : RattleType) (α : Lft) (δ : ℕ) (lent : ℕ → Body R.Denot → ℕ → ℕ → Fml) (had : ℕ → ℕ → Body R.Denot → Fml) where
  abbrev Under : Strip → ℕ → Cell R.Denot → Fml
  Under s i c =
      under R α δ lent had (block_of s.words) ((i - s.first) * 40 + (s.skip * 8 + count_of s.words)) (block_of s.values)
      ((i - s.first) * stride R + count_of s.values) i c

  abbrev All : List Strip → List (Cell R.Denot) → Fml
  All ss cs = strips R α δ lent had ss cs

  abbrev Of : Strip → List (Cell R.Denot) → Fml
  Of s cs =
      numbers R α δ lent had (block_of s.words) (s.skip * 8 + count_of s.words) (block_of s.values) (count_of s.values) s.first cs

  -- whoever has another cell of the number has all of them with it; j: how many numbers come before
  abbrev pub Puts : List Strip → List (Cell R.Denot) → ℕ → Strip → ℕ → Cell R.Denot → SProp 𝓤
  Puts ss cs j s i d = wand 𝓤 (sem 𝓛 (Under s i d)) (sem 𝓛 (All ss (set cs (i - j) d)))

  pub strips_at : (ss : List Strip) (cs : List (Cell R.Denot)) (j n k i : ℕ) (s : Strip) (c : Cell R.Denot) → AreStrips j ss n → n ≡ j + length cs
      → slice_get ss k ≡ Some s → IsOf s i → cell_at cs (i - j) ≡ c
      → ent 𝓤 (sem 𝓛 (All ss cs)) (sep 𝓤 (sem 𝓛 (Under s i c)) (all 𝓤 (Puts ss cs j s i)))
  strips_at [] cs j n k i s c are long at is has = absurd (cc at)
  strips_at (x ∷ ss) cs j n zero i s c are long at is has =
      let same : x ≡ s = cc at in
      subst (λ (y : Strip). IsOf y i → ent 𝓤 (sem 𝓛 (All (x ∷ ss) cs)) (sep 𝓤 (sem 𝓛 (Under y i c)) (all 𝓤 (Puts (x ∷ ss) cs j y i)))) same here is
    where
      here : IsOf x i → ent 𝓤 (sem 𝓛 (All (x ∷ ss) cs)) (sep 𝓤 (sem 𝓛 (Under x i c)) (all 𝓤 (Puts (x ∷ ss) cs j x i)))
      here of =
          let low = of.0 in let high = of.1 in let first = are.0 in let up = strips_up ss (j + x.size) n are.1 in
          let m : ℕ = i - x.first in let mine : i - j ≡ m = omega (arith, first) in let few : m < x.size = omega (arith, low, high) in
          let size : length (take x.size cs) ≡ x.size = length-take-le x.size cs (omega (arith, up, long)) in
          let here : cell_at (take x.size cs) m ≡ c = get_or-take x.size cs m Free few ∙ ap (cell_at cs) (sym mine) ∙ has in
          let e : ℕ = m * 40 + (x.skip * 8 + count_of x.words) in let e' : ℕ = m * stride R + count_of x.values in
          let P = Beside.Puts 𝓛 R α δ lent had (block_of x.words) (block_of x.values) (x.skip * 8 + count_of x.words) (count_of x.values) x.first (take x.size cs)
          m e e' i in
          qed 𝓛 (‵ (Of x (take x.size cs)) ∷ ‵ (All ss (drop x.size cs)) ∷ []) ∵
          use1 𝓛 (‵ (Under x i c) ⊛ raw (all 𝓤 P))
          (Beside.numbers_at 𝓛 R α δ lent had (block_of x.words) (block_of x.values) (take x.size cs) (x.skip * 8 + count_of x.words) (count_of x.values) x.first m
          e e' i c refl refl (omega (arith, low)) (omega (arith, few, size)) here) $ split ! $ frame ! $
          each ! (Puts (x ∷ ss) cs j x i) (λ d. use1 𝓛 (raw (P d)) (all_e 𝓤 P d) $ assume ! (‵ (Under x i d)) $
          use2 𝓛 (‵ (Of x (set (take x.size cs) m d))) (apply∗ 𝓤 (sem 𝓛 (Under x i d)) (sem 𝓛 (Of x (set (take x.size cs) m d)))) $
          rewrite ! 0 (λ (l : List (Cell R.Denot)). ‵ (Of x l)) (sym (take_set x.size cs m d) ∙ ap (λ (k : ℕ). take x.size (set cs k d)) (sym mine)) refl $
          rewrite ! 1 (λ (l : List (Cell R.Denot)). ‵ (All ss l))
          (sym (drop-set-lt x.size cs m d few) ∙ ap (λ (k : ℕ). drop x.size (set cs k d)) (sym mine)) refl $ done !)
  strips_at (x ∷ ss) cs j n (suc k) i s c are long at is has =
      let low = is.0 in let within = strip_within ss (j + x.size) n k s are.1 at in let after = within.0 in let up = strips_up ss (j + x.size) n are.1 in
      let m : ℕ = i - (j + x.size) in let mine : x.size + m ≡ i - j = omega (arith, low, after) in
      let size = length-drop x.size cs in
      let here : cell_at (drop x.size cs) m ≡ c = get_or-drop x.size cs m Free ∙ ap (cell_at cs) mine ∙ has in
      let P = Puts ss (drop x.size cs) (j + x.size) s i in
      qed 𝓛 (‵ (Of x (take x.size cs)) ∷ ‵ (All ss (drop x.size cs)) ∷ []) ∵ move ! (1 ∷ []) $
      use1 𝓛 (‵ (Under s i c) ⊛ raw (all 𝓤 P)) (strips_at ss (drop x.size cs) (j + x.size) n k i s c are.1 (omega (arith, long, up, size)) at is here) $ split ! $
      frame ! $
      each ! (Puts (x ∷ ss) cs j s i) (λ d. use1 𝓛 (raw (P d)) (all_e 𝓤 P d) $ assume ! (‵ (Under s i d)) $
      use2 𝓛 (‵ (All ss (set (drop x.size cs) m d))) (apply∗ 𝓤 (sem 𝓛 (Under s i d)) (sem 𝓛 (All ss (set (drop x.size cs) m d)))) $
      rewrite ! 0 (λ (l : List (Cell R.Denot)). ‵ (All ss l))
      (sym (drop-set-add x.size cs m d) ∙ ap (λ (k : ℕ). drop x.size (set cs k d)) mine) refl $ move ! (1 ∷ []) $
      rewrite ! 0 (λ (l : List (Cell R.Denot)). ‵ (Of x l))
      (sym (take-set-le x.size cs (x.size + m) d (omega arith)) ∙ ap (λ (k : ℕ). take x.size (set cs k d)) mine) refl $ done !)
