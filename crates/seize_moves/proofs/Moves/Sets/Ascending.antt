-- Ascending lists of the slots that pass a test: one more, and one less.
use Rattle.std.specs.Prelude.{◌==◌, not}
use Rattle.std.proofs.Common.{◌≡◌, ℕ, zero, suc, ◌<◌, ◌≤◌, Bool, true, false, cond, eqb, ltb, List, [], ◌∷◌, ◌++◌, refl, arith, eqb-true, sym}
use Rattle.std.proofs.lemmas.Bool.{eqb-false, le-ltb, lt-ltb}
use Rattle.std.proofs.lemmas.List.{append-nil}
use Rattle.std.proofs.lemmas.List.Elements.{filter-append}
use Rattle.seize.specs.WaitingSets.{with_slot, without}
use Rattle.seize_moves.proofs.Moves.Sets.Shown.{ascending, ascending_same}

abbrev AllUpTo : ℕ → List ℕ → Type 0
AllUpTo s [] = Unit {0}
AllUpTo s (x ∷ xs) = (x ≤ s) × AllUpTo s xs

up_to_end : (s n : ℕ) (xs : List ℕ) → n ≤ s → AllUpTo s xs → AllUpTo s (xs ++ n ∷ [])
up_to_end s n [] l h = (l, tt)
up_to_end s n (x ∷ xs) l h = (h.0, up_to_end s n xs l h.1)

up_to : (p : ℕ → Bool) (n s : ℕ) → n ≤ s → AllUpTo s (ascending p n)
up_to p zero s l = tt
up_to p (suc n) s l = at (p n) (ascending p n) (up_to p n s (omega (arith, l)))
  where
    at : (b : Bool) (xs : List ℕ) → AllUpTo s xs → AllUpTo s (xs ++ cond b (n ∷ []) [])
    at true xs h = up_to_end s n xs (omega (arith, l)) h
    at false xs h = rw (append-nil xs) h

slot_last : (s : ℕ) (xs : List ℕ) → AllUpTo s xs → with_slot s xs ≡ xs ++ s ∷ []
slot_last s [] h = refl
slot_last s (x ∷ xs) h = let a = le-ltb s x (h.0) in let b = slot_last s xs h.1 in at (ltb s x) a _ b
  where
    at : (y : Bool) → y ≡ false → (r : List ℕ) → r ≡ xs ++ s ∷ [] → cond y (s ∷ x ∷ xs) (x ∷ r) ≡ x ∷ (xs ++ s ∷ [])
    at y e r f = cc

slot_before : (s n : ℕ) (xs : List ℕ) → s < n → with_slot s (xs ++ n ∷ []) ≡ with_slot s xs ++ n ∷ []
slot_before s n [] l = at (ltb s n) (lt-ltb s n l)
  where
    at : (y : Bool) → y ≡ true → cond y (s ∷ n ∷ []) (n ∷ s ∷ []) ≡ s ∷ n ∷ []
    at y e = cc
slot_before s n (x ∷ xs) l = at (ltb s x) _ _ (slot_before s n xs l)
  where
    at : (y : Bool) (q r : List ℕ) → q ≡ r ++ n ∷ [] → cond y (s ∷ x ∷ (xs ++ n ∷ [])) (x ∷ q) ≡ cond y (s ∷ x ∷ xs) (x ∷ r) ++ n ∷ []
    at true q r e = refl
    at false q r e = cc

-- one slot more passes the test
pub ascending_with : (p q : ℕ → Bool) (n s : ℕ) → s < n → p s ≡ false → q s ≡ true → ((t : ℕ) → (t ≡ s → ⊥) → q t ≡ p t)
    → ascending q n ≡ with_slot s (ascending p n)
ascending_with p q zero s l e f h = absurd (omega (arith, l))
ascending_with p q (suc n) s l e f h = at (eqb n s) (eqb-true n s) (eqb-false n s) refl (λ m. ascending_with p q n s m e f h)
  where
    last : (y z : Bool) (xs zs : List ℕ) → y ≡ true → z ≡ false → xs ≡ zs → with_slot n zs ≡ zs ++ n ∷ []
        → xs ++ cond y (n ∷ []) [] ≡ with_slot n (zs ++ cond z (n ∷ []) [])
    last y z xs zs a b c d = let g = append-nil zs in cc

    before : (y z : Bool) (xs zs : List ℕ) → y ≡ z → xs ≡ with_slot s zs → with_slot s (zs ++ n ∷ []) ≡ with_slot s zs ++ n ∷ []
        → xs ++ cond y (n ∷ []) [] ≡ with_slot s (zs ++ cond z (n ∷ []) [])
    before true true xs zs a c d = cc
    before false false xs zs a c d = let g = append-nil zs in let k = append-nil xs in cc
    before true false xs zs a c d = absurd (cc a)
    before false true xs zs a c d = absurd (cc a)

    at : (b : Bool) → (b ≡ true → n ≡ s) → (b ≡ false → n ≡ s → ⊥) → eqb n s ≡ b → (s < n → ascending q n ≡ with_slot s (ascending p n)) → ascending q (suc n) ≡ with_slot s (ascending p (suc n))
    at true r g k ih =
        let c = r refl in
        rw (sym c) (last (q n) (p n) (ascending q n) (ascending p n) (cc (f, c)) (cc (e, c)) (ascending_same q p n (λ t m. h t (λ x. omega (arith, x, m, c)))) (slot_last n (ascending p n) (up_to p n n (omega arith))))
    at false r g k ih =
        let c = g refl in
        let m : s < n = omega (arith, l, c) in
        before (q n) (p n) (ascending q n) (ascending p n) (h n c) (ih m) (slot_before s n (ascending p n) m)

-- one slot less
pub ascending_without : (p q : ℕ → Bool) (n s : ℕ) → q s ≡ false → ((t : ℕ) → (t ≡ s → ⊥) → q t ≡ p t)
    → ascending q n ≡ without s (ascending p n)
ascending_without p q zero s e h = refl
ascending_without p q (suc n) s e h = at (n == s) (eqb-true n s) (eqb-false n s) refl (ascending_without p q n s e h)
  where
    parts : (b : Bool) (xs : List ℕ) → without s (xs ++ cond b (n ∷ []) []) ≡ without s xs ++ without s (cond b (n ∷ []) [])
    parts b xs = filter-append (λ (t : ℕ). not (t == s)) xs (cond b (n ∷ []) [])

    one : (z b c : Bool) → (n == s) ≡ z → (z ≡ true → c ≡ false) → (z ≡ false → c ≡ b) → without s (cond b (n ∷ []) []) ≡ cond c (n ∷ []) []
    one true true true k u v = absurd (cc (u refl))
    one true false true k u v = absurd (cc (u refl))
    one true true false k u v = grind (arith, k)
    one true false false k u v = refl
    one false true true k u v = grind (arith, k)
    one false false false k u v = refl
    one false true false k u v = absurd (cc (v refl))
    one false false true k u v = absurd (cc (v refl))

    at : (z : Bool) → (z ≡ true → n ≡ s) → (z ≡ false → n ≡ s → ⊥) → (n == s) ≡ z → ascending q n ≡ without s (ascending p n)
        → ascending q (suc n) ≡ without s (ascending p (suc n))
    at z r g k ih =
        let a = parts (p n) (ascending p n) in
        let b = one z (p n) (q n) k (λ t. let c = r t in cc) (λ t. h n (g t)) in
        cc
