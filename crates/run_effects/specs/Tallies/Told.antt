-- What was given back at a moment, and that each pair which was stored is somewhere.
use Rattle.std.specs.Prelude.{◌≡◌, ◌≤◌, ℕ, List, length}
use Rattle.std.specs.List.{AllByRecursion}
use Rattle.run_schedules.specs.declared.ended.Pair.{Pair}
use Rattle.run_schedules.specs.Runs.Pairs.{numbers}
use Rattle.run_schedules.specs.Runs.Runs.{IsStored}
use Rattle.run_schedules.specs.Schedules.Moment.{Unborn, Moment}

module _ {K V : Type 0} where
  -- these are the pairs that were given back, in their order, each as it was stored
  pub record AreBack (m : Moment K V) (pairs : List (Pair K V)) : Type 0 where
    pub told : numbers pairs ≡ m.given_back
    pub contents : AllByRecursion (IsStored m.stored) pairs

  -- each pair that was stored is somewhere
  abbrev pub ArePlaced : Moment K V → Type 0
  ArePlaced m = (n : ℕ) → 1 ≤ n → n ≤ length m.stored → m.place n ≡ Unborn → ⊥
