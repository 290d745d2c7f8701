-- What a call can count: the shards of a map's count, each as it is at a moment of the call.
use Rattle.std.specs.Prelude.{◌≡◌, ℕ, zero, suc, ◌+◌, ◌%◌, ◌^◌, List}
use Rattle.papaya_raw.specs.Given.TablesCounts.{count_in}
use Rattle.run_schedules.specs.Schedules.Lists.{OneOf}
use Rattle.run_schedules.specs.Schedules.Moment.{Moment}

module _ {K V : Type 0} where
  -- so many shards, from the first on, add up to this, each as it is at one of the moments
  abbrev pub AddsUp : ℕ → List (Moment K V) → ℕ → ℕ → Type 0
  AddsUp map moments zero sum = sum ≡ 0
  AddsUp map moments (suc s) sum = OneOf (λ m. (rest : ℕ) × AddsUp map moments s rest × (sum ≡ rest + m.shards map s)) moments

  -- a call counts so many pairs: the sum read as a number with a sign, and 0 where that is negative
  abbrev pub Counts : ℕ → ℕ → List (Moment K V) → ℕ → Type 0
  Counts shards map moments n = (sum : ℕ) × AddsUp map moments shards sum × (n ≡ count_in (sum % 2 ^ 64))
