-- Roots in lists: how often one is there, and of which list it is.
use Rattle.std.specs.Prelude.{◌==◌, ◌||◌, ◌≢◌, suc, nat_lt, not, filter, find, length, map, cond, if◌then◌else◌, Some}
use Rattle.std.proofs.Common.{◌≡◌, ◌≤◌, ℕ, eqb-true, ◌+◌, Bool, true, false, List, [], ◌∷◌, ◌++◌, refl, ap, sym, ◌∙◌, arith}
use Rattle.std.proofs.lemmas.Bool.{eq-eqb, ltb-true, ltb-false}
use Rattle.run_debts.specs.Given.RunsLifeCycle.{times}
use Rattle.run_debts.specs.Given.SchedulesAfter.{with_remains}
use Rattle.run_debts.specs.Given.SchedulesLists.{is_among}
use Rattle.run_debts.specs.Given.SchedulesMoment.{Remains}
use Rattle.run_debts.specs.Given.EffectsDeclared.role.Role.{Role}
use Rattle.run_debts.specs.Given.EffectsDeclared.role.Role.TheVariants as role
use Rattle.run_waiting.specs.Remains.Remains.{AscendFrom, has_some, left_at}
use Rattle.run_debts.proofs.Given.General.{both_false as neither}

pub among_append : (r : ℕ) (xs ys : List ℕ) → is_among r (xs ++ ys) ≡ (is_among r xs || is_among r ys)
among_append r [] ys = refl
among_append r (x ∷ xs) ys = ap (λ (q : Bool). (r == x) || q) (among_append r xs ys) ∙ by (r == x)
  where
    by : (q : Bool) → (q || (is_among r xs || is_among r ys)) ≡ ((q || is_among r xs) || is_among r ys)
    by true = refl
    by false = refl

-- one that is not there is there no times, and one that is, once at least
pub none_times : (r : ℕ) (xs : List ℕ) → is_among r xs ≡ false → times r xs ≡ 0
none_times r [] e = refl
none_times r (x ∷ xs) e = by (r == x) e (none_times r xs)
  where
    by : (q : Bool) → (q || is_among r xs) ≡ false → (is_among r xs ≡ false → times r xs ≡ 0) → (if q then 1 else 0) + times r xs ≡ 0
    by true f ih = absurd (cc f)
    by false f ih = (let none = ih f in omega (arith, none))

pub some_times : (r : ℕ) (xs : List ℕ) → is_among r xs ≡ true → 1 ≤ times r xs
some_times r [] e = absurd (cc e)
some_times r (x ∷ xs) e = by (r == x) e (some_times r xs)
  where
    by : (q : Bool) → (q || is_among r xs) ≡ true → (is_among r xs ≡ true → 1 ≤ times r xs) → 1 ≤ (if q then 1 else 0) + times r xs
    by true f ih = omega arith
    by false f ih = (let some = ih f in omega (arith, some))

pub not_among : (r : ℕ) (xs : List ℕ) → times r xs ≡ 0 → is_among r xs ≡ false
not_among r xs none = by (is_among r xs) refl
  where
    by : (q : Bool) → is_among r xs ≡ q → is_among r xs ≡ false
    by true e = absurd (let some = some_times r xs e in omega (arith, some, none))
    by false e = e

pub either : (a b : Bool) → (a || b) ≡ true → (a ≡ false → b ≡ true)
either true b e none = absurd (cc none)
either false b e none = e

module _ {X : Type 0} (p : X → Bool) (g : X → ℕ) where
  -- what is found is there
  pub found_among : (xs : List X) (f : X) → find p xs ≡ Some f → is_among (g f) (map g xs) ≡ true
  found_among [] f is = absurd (cc is)
  found_among (x ∷ xs) f is = by (p x) is (found_among xs f)
    where
      later : (q : Bool) → is_among (g f) (map g xs) ≡ true → (q || is_among (g f) (map g xs)) ≡ true
      later true e = refl
      later false e = e

      by : (q : Bool) → cond q (Some x) (find p xs) ≡ Some f → (find p xs ≡ Some f → is_among (g f) (map g xs) ≡ true) → ((g f == g x) || is_among (g f) (map g xs)) ≡ true
      by true e ih = (let same : x ≡ f = cc e in ap (λ (q : Bool). q || is_among (g f) (map g xs)) (eq-eqb (g f) (g x) (ap g (sym same))))
      by false e ih = later (g f == g x) (ih e)

  kept_all : (xs : List X) → length (filter p xs) ≡ 0 → filter (λ x. not (p x)) xs ≡ xs
  kept_all [] none = refl
  kept_all (x ∷ xs) none = by (p x) none (kept_all xs)
    where
      by : (q : Bool) → length (if q then x ∷ filter p xs else filter p xs) ≡ 0 → (length (filter p xs) ≡ 0 → filter (λ y. not (p y)) xs ≡ xs)
          → (if not q then x ∷ filter (λ y. not (p y)) xs else filter (λ y. not (p y)) xs) ≡ x ∷ xs
      by true e ih = absurd (omega (arith, e))
      by false e ih = ap (λ (ys : List X). x ∷ ys) (ih e)

  -- the one that alone passes the test is taken out
  pub taken_out : (r : ℕ) (xs : List X) (f : X) → find p xs ≡ Some f → length (filter p xs) ≤ 1
      → times r (map g (filter (λ x. not (p x)) xs)) + (if r == g f then 1 else 0) ≡ times r (map g xs)
  taken_out r [] f is few = absurd (cc is)
  taken_out r (x ∷ xs) f is few = by (p x) is few (taken_out r xs f)
    where
      by : (q : Bool) → cond q (Some x) (find p xs) ≡ Some f → length (if q then x ∷ filter p xs else filter p xs) ≤ 1
          → (find p xs ≡ Some f → length (filter p xs) ≤ 1 → times r (map g (filter (λ y. not (p y)) xs)) + (if r == g f then 1 else 0) ≡ times r (map g xs))
          → times r (map g (if not q then x ∷ filter (λ y. not (p y)) xs else filter (λ y. not (p y)) xs)) + (if r == g f then 1 else 0) ≡ (if r == g x then 1 else 0) + times r (map g xs)
      by true e few ih =
          let same : x ≡ f = cc e in
          let all : times r (map g (filter (λ y. not (p y)) xs)) ≡ times r (map g xs) = ap (λ (ys : List X). times r (map g ys)) (kept_all xs (omega (arith, few))) in
          let one : ◌≡◌ {A = ℕ} (if r == g x then 1 else 0) (if r == g f then 1 else 0) = ap (λ (y : X). if r == g y then 1 else 0) same in
          omega (arith, all, one)
      by false e few ih = (let rest = ih e few in omega (arith, rest))

-- what is left over behind one root more
module _ (r : ℕ) (new : Remains) where
  pub among_remains : (xs : List Remains) → is_among r (map (λ x. x.root) (with_remains new xs)) ≡ ((r == new.root) || is_among r (map (λ x. x.root) xs))
  among_remains [] = refl
  among_remains (x ∷ xs) = by (nat_lt new.root x.root) (among_remains xs)
    where
      swap : (a b c : Bool) → (a || (b || c)) ≡ (b || (a || c))
      swap true true c = refl
      swap true false c = refl
      swap false b c = refl

      by : (q : Bool) → is_among r (map (λ y. y.root) (with_remains new xs)) ≡ ((r == new.root) || is_among r (map (λ y. y.root) xs))
          → is_among r (map (λ y. y.root) (if q then new ∷ x ∷ xs else x ∷ with_remains new xs)) ≡ ((r == new.root) || ((r == x.root) || is_among r (map (λ y. y.root) xs)))
      by true ih = refl
      by false ih = ap (λ (q : Bool). (r == x.root) || q) ih ∙ swap (r == x.root) (r == new.root) (is_among r (map (λ y. y.root) xs))

  pub times_remains : (xs : List Remains) → times r (map (λ x. x.root) (with_remains new xs)) ≡ (if r == new.root then 1 else 0) + times r (map (λ x. x.root) xs)
  times_remains [] = refl
  times_remains (x ∷ xs) = by (nat_lt new.root x.root) (times_remains xs)
    where
      by : (q : Bool) → times r (map (λ y. y.root) (with_remains new xs)) ≡ (if r == new.root then 1 else 0) + times r (map (λ y. y.root) xs)
          → times r (map (λ y. y.root) (if q then new ∷ x ∷ xs else x ∷ with_remains new xs)) ≡ (if r == new.root then 1 else 0) + ((if r == x.root then 1 else 0) + times r (map (λ y. y.root) xs))
      by true ih = refl
      by false ih = omega (arith, ih)

-- what is left over behind a root

abbrev root_list : List Remains → List ℕ
root_list xs = map (λ x. x.root) xs

pub left_none : (r : ℕ) (xs : List Remains) → is_among r (root_list xs) ≡ false → left_at r xs ≡ []
left_none r [] none = refl
left_none r (x ∷ xs) none = by (x.root == r) refl (neither (r == x.root) (is_among r (root_list xs)) none) (left_none r xs)
  where
    by : (q : Bool) → (x.root == r) ≡ q → ((r == x.root) ≡ false) × (is_among r (root_list xs) ≡ false) → (is_among r (root_list xs) ≡ false → left_at r xs ≡ []) → (if q then x.pairs else left_at r xs) ≡ []
    by true is both ih = absurd (let yes = eq-eqb r x.root (sym (eqb-true x.root r is)) in let no_it = both.0 in cc (yes, no_it))
    by false is both ih = ih both.1

module _ (new : Remains) where
  pub left_new : (xs : List Remains) → is_among new.root (root_list xs) ≡ false → left_at new.root (with_remains new xs) ≡ new.pairs
  left_new [] none = ap (λ (q : Bool). if q then new.pairs else []) (eq-eqb new.root new.root refl)
  left_new (x ∷ xs) none = by (nat_lt new.root x.root) (x.root == new.root) refl (neither (new.root == x.root) (is_among new.root (root_list xs)) none) (left_new xs)
    where
      by : (p q : Bool) → (x.root == new.root) ≡ q → ((new.root == x.root) ≡ false) × (is_among new.root (root_list xs) ≡ false)
          → (is_among new.root (root_list xs) ≡ false → left_at new.root (with_remains new xs) ≡ new.pairs)
          → left_at new.root (if p then new ∷ x ∷ xs else x ∷ with_remains new xs) ≡ new.pairs
      by true q is both ih = ap (λ (z : Bool). if z then new.pairs else left_at new.root (x ∷ xs)) (eq-eqb new.root new.root refl)
      by false true is both ih = absurd (let yes = eq-eqb new.root x.root (sym (eqb-true x.root new.root is)) in let no_it = both.0 in cc (yes, no_it))
      by false false is both ih = ap (λ (z : Bool). if z then x.pairs else left_at new.root (with_remains new xs)) is ∙ ih both.1

  pub left_other : (r : ℕ) → (new.root == r) ≡ false → (xs : List Remains) → left_at r (with_remains new xs) ≡ left_at r xs
  left_other r ne [] = ap (λ (q : Bool). if q then new.pairs else []) ne
  left_other r ne (x ∷ xs) = by (nat_lt new.root x.root) (left_other r ne xs)
    where
      by : (p : Bool) → left_at r (with_remains new xs) ≡ left_at r xs → left_at r (if p then new ∷ x ∷ xs else x ∷ with_remains new xs) ≡ left_at r (x ∷ xs)
      by true ih = ap (λ (q : Bool). if q then new.pairs else left_at r (x ∷ xs)) ne
      by false ih = ap (λ (l : List ℕ). if x.root == r then x.pairs else l) ih

  pub ascends : (k : ℕ) (xs : List Remains) → AscendFrom k xs → k ≤ new.root → is_among new.root (root_list xs) ≡ false → AscendFrom k (with_remains new xs)
  ascends k [] up le none = (le, tt)
  ascends k (x ∷ xs) up le none = by (nat_lt new.root x.root) refl (neither (new.root == x.root) (is_among new.root (root_list xs)) none) (ascends (suc x.root) xs up.1)
    where
      by_ne : (a b : ℕ) → b ≤ a → a ≢ b → suc b ≤ a
      by_ne a b le ne = omega (arith, le, ne)

      by : (p : Bool) → nat_lt new.root x.root ≡ p → ((new.root == x.root) ≡ false) × (is_among new.root (root_list xs) ≡ false)
          → (suc x.root ≤ new.root → is_among new.root (root_list xs) ≡ false → AscendFrom (suc x.root) (with_remains new xs)) → AscendFrom k (if p then new ∷ x ∷ xs else x ∷ with_remains new xs)
      by true is both ih = (le, (ltb-true new.root x.root is, up.1))
      by false is both ih = (up.0, ih (by_ne new.root x.root (ltb-false new.root x.root is) (λ e. (let yes = eq-eqb new.root x.root e in let no_it = both.0 in cc (yes, no_it)))) both.1)

-- where blocks are noted as pairs there are some just where there are pairs
pub some_noted : (roles : ℕ → Role) (blocks pairs : List ℕ) → map roles blocks ≡ map role.Pair pairs → has_some blocks ≡ has_some pairs
some_noted roles [] [] is = refl
some_noted roles [] (n ∷ pairs) is = absurd (cc is)
some_noted roles (b ∷ blocks) [] is = absurd (cc is)
some_noted roles (b ∷ blocks) (n ∷ pairs) is = refl
