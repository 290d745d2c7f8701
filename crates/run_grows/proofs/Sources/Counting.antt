-- A list whose numbers stand in another one, each as often at least, is no longer than that.
use Rattle.std.specs.Prelude.{◌≡◌, ℕ, suc, ◌+◌, ◌≤◌, ◌==◌, Bool, true, false, List, [], ◌∷◌, length, if◌then◌else◌}
use Rattle.std.proofs.Common.{refl, ap, sym, subst, arith}
use Rattle.std.proofs.lemmas.Bool.{eq-eqb}
use Rattle.run_finds.specs.Given.RunsLifeCycle.{times}

-- without the first such number
without : ℕ → List ℕ → List ℕ
without n [] = []
without n (x ∷ xs) = if n == x then xs else x ∷ without n xs

shorter : (n : ℕ) (xs : List ℕ) → 1 ≤ times n xs → suc (length (without n xs)) ≡ length xs
unfolding without
shorter n [] some = absurd (omega (arith, some))
shorter n (x ∷ xs) some = by (n == x) refl (shorter n xs)
  where
    by : (q : Bool) → (n == x) ≡ q → (1 ≤ times n xs → suc (length (without n xs)) ≡ length xs) → suc (length (if q then xs else x ∷ without n xs)) ≡ suc (length xs)
    by true e rest = refl
    by false e rest = ap suc (rest (let later : 1 ≤ 0 + times n xs = subst (λ (q : Bool). 1 ≤ (if q then 1 else 0) + times n xs) e some in omega (arith, later)))

fewer : (n k : ℕ) (xs : List ℕ) → 1 ≤ times n xs → times k xs ≡ (if k == n then 1 else 0) + times k (without n xs)
unfolding without
fewer n k [] some = absurd (omega (arith, some))
fewer n k (x ∷ xs) some = by (n == x) refl (fewer n k xs)
  where
    by : (q : Bool) → (n == x) ≡ q → (1 ≤ times n xs → times k xs ≡ (if k == n then 1 else 0) + times k (without n xs))
        → (if k == x then 1 else 0) + times k xs ≡ (if k == n then 1 else 0) + times k (if q then xs else x ∷ without n xs)
    by true e rest = let is : n ≡ x = grind (arith, e) in ap (λ (y : ℕ). (if k == y then 1 else 0) + times k xs) (sym is)
    by false e rest =
        let later : 1 ≤ 0 + times n xs = subst (λ (q : Bool). 1 ≤ (if q then 1 else 0) + times n xs) e some in
        let one = rest (omega (arith, later)) in
        omega (arith, one)

pub no_longer : (ns xs : List ℕ) → ((n : ℕ) → times n ns ≤ times n xs) → length ns ≤ length xs
no_longer [] xs all = omega arith
no_longer (n ∷ ns) xs all =
    let some : 1 ≤ times n xs = (let a = all n in let one : ◌≡◌ {A = ℕ} (if n == n then 1 else 0) 1 = ap (λ (q : Bool). if q then 1 else 0) (eq-eqb n n refl) in omega (arith, a, one)) in
    let rest = no_longer ns (without n xs) (λ k. omega (arith, all k, fewer n k xs some)) in
    omega (arith, rest, shorter n xs some)
