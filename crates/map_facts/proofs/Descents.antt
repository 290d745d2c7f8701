-- Each descent of numbers that are compared one after another comes to an end.
use Rattle.std.proofs.Common.{◌≡◌, ℕ, zero, suc, ◌<◌, List, [], ◌∷◌, length, inl, inr, refl, sym, subst, ◌∙◌, arith}
use Rattle.map_facts.specs.Measures.{IsBelow, EndsFrom, ends, DescentsEnd}

-- all lists of so many numbers
abbrev AllEnd : ℕ → Type 0
AllEnd n = (xs : List ℕ) → length xs ≡ n → EndsFrom xs

-- those that begin with a lower number than this one
abbrev LowerEnd : ℕ → ℕ → Type 0
LowerEnd n bound = (x : ℕ) (xs : List ℕ) → x < bound → length xs ≡ n → EndsFrom (x ∷ xs)

-- the first number is lower, or stays while the rest descends
lower_or_rest : (n x : ℕ) → LowerEnd n x → (xs : List ℕ) → length xs ≡ n → ((ys : List ℕ) → length ys ≡ n → IsBelow ys xs → EndsFrom (x ∷ ys))
    → (ys : List ℕ) → length ys ≡ length (x ∷ xs) → IsBelow ys (x ∷ xs) → EndsFrom ys
lower_or_rest n x lower xs len rest [] same below = absurd below
lower_or_rest n x lower xs len rest (y ∷ ys) same (inl l) = lower y ys l (omega (arith, same, len))
lower_or_rest n x lower xs len rest (y ∷ ys) same (inr e) = subst (λ z. EndsFrom (z ∷ ys)) (sym e.0) (rest ys (omega (arith, same, len)) e.1)

by_rest : (n x : ℕ) → LowerEnd n x → (xs : List ℕ) → length xs ≡ n → EndsFrom xs → EndsFrom (x ∷ xs)
by_rest n x lower xs len (ends xs2 rest) =
    ends (x ∷ xs) (lower_or_rest n x lower xs len (λ ys same below. by_rest n x lower ys same (rest ys (same ∙ sym len) below)))

-- the first number descends
by_first : (n : ℕ) → AllEnd n → (bound : ℕ) → LowerEnd n bound
by_first n all zero x xs l len = absurd (omega (arith, l))
by_first n all (suc bound) x xs l len = by_rest n x (λ y ys below same. by_first n all bound y ys (omega (arith, l, below)) same) xs len (all xs len)

all_end : (n : ℕ) → AllEnd n
all_end zero [] len = ends [] (λ ys same below. none ys below)
  where
    none : (ys : List ℕ) → IsBelow ys [] → EndsFrom ys
    none [] below = absurd below
    none (y ∷ ys) below = absurd below
all_end zero (x ∷ xs) len = absurd (omega (arith, len))
all_end (suc n) [] len = absurd (omega (arith, len))
all_end (suc n) (x ∷ xs) len = by_first n (all_end n) (suc x) x xs (omega arith) (omega (arith, len))

pub descents_end : DescentsEnd
descents_end numbers = all_end (length numbers) numbers refl
