-- The numbers of one source rise.
use Rattle.std.proofs.Common.{◌≡◌, ℕ, zero, suc, ◌+◌, ◌≤◌, Bool, true, false, Some, Ok, slice_get, ap, refl, arith}
use Rattle.seize.specs.Ids.{is_left, given_if, following_if, given, following, answers, NeverTwice}

following_above : (left : Bool) (next number : ℕ) → given_if left next ≡ Ok number → following_if left next ≡ number + 1
following_above true next number is = let same : next ≡ number = cc in omega (arith, same)
following_above false next number is = absurd (cc)

given_is : (left : Bool) (next number : ℕ) → given_if left next ≡ Ok number → next ≤ number
given_is true next number is = let same : next ≡ number = cc in omega (arith, same)
given_is false next number is = absurd (cc)

following_least : (left : Bool) (next : ℕ) → next ≤ following_if left next
following_least true next = omega arith
following_least false next = omega arith

at_least : (next calls i number : ℕ) → slice_get (answers next calls) i ≡ Some (Ok number) → next ≤ number
at_least next zero i number is = absurd (cc)
at_least next (suc calls) zero number is =
    let head : given_if (is_left next) next ≡ Ok number = cc in
    given_is (is_left next) next number head
at_least next (suc calls) (suc i) number is =
    let later : following next ≤ number = at_least (following next) calls i number is in
    let least : next ≤ following next = following_least (is_left next) next in
    omega (arith, later, least)

apart : (first calls i number : ℕ) → Some (given first) ≡ Some (Ok number) → slice_get (answers (following first) calls) i ≡ Some (Ok number) → ⊥
apart first calls i number head later =
    let is : given_if (is_left first) first ≡ Ok number = cc in
    let above : following first ≡ number + 1 = following_above (is_left first) first number is in
    let least : following first ≤ number = at_least (following first) calls i number later in
    omega (arith, above, least)

pub never_twice : NeverTwice
never_twice first zero i j number p q = absurd (cc)
never_twice first (suc calls) zero zero number p q = refl
never_twice first (suc calls) zero (suc j) number p q = absurd (apart first calls j number p q)
never_twice first (suc calls) (suc i) zero number p q = absurd (apart first calls i number q p)
never_twice first (suc calls) (suc i) (suc j) number p q = ap suc (never_twice (following first) calls i j number p q)
