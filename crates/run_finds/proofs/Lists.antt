-- Lists: one that passes a test among those of which all is known, numbers that all pass, and those that stay.
use Rattle.std.specs.Prelude.{◌≡◌, ℕ, zero, suc, ◌+◌, ◌≤◌, ◌<◌, Bool, true, false, cond, ◌||◌, ◌⊎◌, List, [], ◌∷◌, filter, ◌++◌}
use Rattle.std.specs.List.{AllByRecursion, list_any, list_all}
use Rattle.std.proofs.Common.{refl, ap, sym, subst, ◌∙◌, arith, inl, inr}
use Rattle.std.proofs.lemmas.Bool.{and_from, and_parts, or_left, or_right, or_parts, cases_eq}
use Rattle.run_executor.specs.Given.SchedulesLists.{numbers_from}
use Rattle.run_finds.specs.Given.RunsLifeCycle.{times}

pub times_both : (n : ℕ) (xs ys : List ℕ) → times n (xs ++ ys) ≡ times n xs + times n ys
times_both n [] ys = omega arith
times_both n (x ∷ xs) ys = let rest = times_both n xs ys in omega (arith, rest)

module _ {X : Type 0} where
  -- one passes, of which that is known
  pub one_of_them : (p : X → Bool) (P : X → Type 0) (xs : List X) → list_any p xs ≡ true → AllByRecursion P xs → (x : X) × (p x ≡ true) × P x
  one_of_them p P [] any all = absurd (cc any)
  one_of_them p P (x ∷ xs) any all = by (p x) refl any (λ e. one_of_them p P xs e all.1)
    where
      by : (q : Bool) → p x ≡ q → (q || list_any p xs) ≡ true → (list_any p xs ≡ true → (y : X) × (p y ≡ true) × P y) → (y : X) × (p y ≡ true) × P y
      by true is e rest = (x, is, all.0)
      by false is e rest = rest e

  -- one that passes a test passes another one, where all do that pass it
  pub any_so : (p q : X → Bool) (P : X → Type 0) → ((x : X) → p x ≡ true → P x → q x ≡ true) → (xs : List X) → list_any p xs ≡ true → AllByRecursion P xs → list_any q xs ≡ true
  any_so p q P so [] any all = absurd (cc any)
  any_so p q P so (x ∷ xs) any all = by (p x) refl any (λ e. any_so p q P so xs e all.1)
    where
      by : (b : Bool) → p x ≡ b → (b || list_any p xs) ≡ true → (list_any p xs ≡ true → list_any q xs ≡ true) → (q x || list_any q xs) ≡ true
      by true is e rest = or_left (q x) (list_any q xs) (so x is all.0)
      by false is e rest = or_right (q x) (list_any q xs) (rest e)

  -- of all a further fact follows
  pub all_so : (P Q : X → Type 0) → ((x : X) → P x → Q x) → (xs : List X) → AllByRecursion P xs → AllByRecursion Q xs
  all_so P Q so [] all = tt
  all_so P Q so (x ∷ xs) all = (so x all.0, all_so P Q so xs all.1)

  pub all_both : (P Q : X → Type 0) (xs : List X) → AllByRecursion P xs → AllByRecursion Q xs → AllByRecursion (λ x. P x × Q x) xs
  all_both P Q [] all also = tt
  all_both P Q (x ∷ xs) all also = ((all.0, also.0), all_both P Q xs all.1 also.1)

  -- where those that pass are kept, one that passes is among those that are
  pub any_kept_among : (p keep : X → Bool) (P : X → Type 0) → ((x : X) → p x ≡ true → P x → keep x ≡ true) → (xs : List X) → list_any p xs ≡ true → AllByRecursion P xs
      → list_any p (filter keep xs) ≡ true
  any_kept_among p keep P so [] any all = any
  any_kept_among p keep P so (x ∷ xs) any all = by (p x) refl (keep x) refl (λ e. any_kept_among p keep P so xs e all.1)
    where
      Goal : Bool → Type 0
      Goal q = list_any p (cond q (x ∷ filter keep xs) (filter keep xs)) ≡ true

      later : p x ≡ false → list_any p xs ≡ true
      later is = ap (λ (b : Bool). b || list_any p xs) (sym is) ∙ any

      by : (a : Bool) → p x ≡ a → (b : Bool) → keep x ≡ b → (list_any p xs ≡ true → list_any p (filter keep xs) ≡ true) → Goal (keep x)
      by true is b kept rest = subst Goal (sym (so x is all.0)) (or_left (p x) (list_any p (filter keep xs)) is)
      by false is true kept rest = subst Goal (sym kept) (or_right (p x) (list_any p (filter keep xs)) (rest (later is)))
      by false is false kept rest = subst Goal (sym kept) (rest (later is))

  -- of each of them nothing need be known
  pub each_is : (P : X → Type 0) → ((x : X) → P x) → (xs : List X) → AllByRecursion P xs
  each_is P is [] = tt
  each_is P is (x ∷ xs) = (is x, each_is P is xs)

  pub any_kept : (p keep : X → Bool) → ((x : X) → p x ≡ true → keep x ≡ true) → (xs : List X) → list_any p xs ≡ true → list_any p (filter keep xs) ≡ true
  any_kept p keep so xs any = any_kept_among p keep (λ x. Unit {0}) (λ x e known. so x e) xs any (each_is (λ x. Unit {0}) (λ x. tt) xs)

  -- each is among all of them
  pub each_among : (same : X → X → Bool) → ((x : X) → same x x ≡ true) → (xs : List X) → AllByRecursion (λ x. list_any (same x) xs ≡ true) xs
  each_among same itself [] = tt
  each_among same itself (x ∷ xs) = (
    or_left (same x x) (list_any (same x) xs) (itself x),
    all_so (λ y. list_any (same y) xs ≡ true) (λ y. list_any (same y) (x ∷ xs) ≡ true) (λ y e. or_right (same y x) (list_any (same y) xs) e) xs (each_among same itself xs),
  )

  -- none passes
  pub none_of_them : (p : X → Bool) (xs : List X) → list_any p xs ≡ false → AllByRecursion (λ x. p x ≡ false) xs
  none_of_them p [] none = tt
  none_of_them p (x ∷ xs) none = let two = or_parts (p x) (list_any p xs) none in (two.0, none_of_them p xs two.1)

  -- each passes
  pub each_passes : (p : X → Bool) (xs : List X) → AllByRecursion (λ x. p x ≡ true) xs → list_all p xs ≡ true
  each_passes p [] all = refl
  each_passes p (x ∷ xs) all = and_from (p x) (list_all p xs) all.0 (each_passes p xs all.1)

  pub passes_each : (p : X → Bool) (xs : List X) → list_all p xs ≡ true → AllByRecursion (λ x. p x ≡ true) xs
  passes_each p [] all = tt
  passes_each p (x ∷ xs) all = let two = and_parts (p x) (list_all p xs) all in (two.0, passes_each p xs two.1)

-- so many numbers pass, from the first one on
pub numbers_pass : (test : ℕ → Bool) (first many : ℕ) → ((n : ℕ) → first ≤ n → n < first + many → test n ≡ true) → list_all test (numbers_from first many) ≡ true
numbers_pass test first zero passes = refl
numbers_pass test first (suc many) passes =
    and_from (test first) (list_all test (numbers_from (suc first) many)) (passes first (omega arith) (omega arith))
    (numbers_pass test (suc first) many (λ n l u. passes n (omega (arith, l)) (omega (arith, u))))

-- and so each of them does
pub number_passes : (test : ℕ → Bool) (first many n : ℕ) → first ≤ n → n < first + many → list_all test (numbers_from first many) ≡ true → test n ≡ true
number_passes test first zero n l u all = absurd (omega (arith, l, u))
number_passes test first (suc many) n l u all = by (cases_eq n first) (number_passes test (suc first) many n)
  where
    two : (test first ≡ true) × (list_all test (numbers_from (suc first) many) ≡ true)
    two = and_parts (test first) (list_all test (numbers_from (suc first) many)) all

    by : (n ≡ first) ⊎ (n ≡ first → ⊥) → (suc first ≤ n → n < suc first + many → list_all test (numbers_from (suc first) many) ≡ true → test n ≡ true) → test n ≡ true
    by (inl e) rest = ap test e ∙ two.0
    by (inr ne) rest = rest (omega (arith, l, ne)) (omega (arith, u)) two.1
