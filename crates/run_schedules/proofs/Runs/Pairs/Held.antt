-- How often a number stands in lists one behind another.
use Rattle.std.proofs.Common.{◌≡◌, ℕ, ◌+◌, List, [], ◌∷◌, ◌++◌, arith}
use Rattle.std.proofs.lemmas.List.{map-append}
use Rattle.run_schedules.specs.declared.ended.Pair.{Pair}
use Rattle.run_schedules.specs.Runs.LifeCycle.{times}
use Rattle.run_schedules.specs.Runs.Pairs.{numbers}

pub times-append : (n : ℕ) (xs ys : List ℕ) → times n (xs ++ ys) ≡ times n xs + times n ys
times-append n [] ys = omega arith
times-append n (x ∷ xs) ys = omega (arith, times-append n xs ys)

module _ {K V : Type 0} where
  pub numbers-append : (xs ys : List (Pair K V)) → numbers (xs ++ ys) ≡ numbers xs ++ numbers ys
  numbers-append xs ys = map-append (λ (p : Pair K V). p.number) xs ys
