-- No key has two pairs.
use Rattle.std.specs.Prelude.{◌≡◌, ℕ, Bool, true}
use Rattle.run_schedules.specs.Runs.Log.{pair_at, is_key}
use Rattle.run_schedules.specs.Schedules.Moment.{Moment}
use Rattle.run_schedules.specs.Schedules.Views.{is_in_map}

module _ {K V : Type 0} (same : K → K → Bool) where
  -- the pair of a number is in a map, with a key of this one's class
  abbrev pub Has : Moment K V → ℕ → K → ℕ → Type 0
  Has m map k n = (is_in_map map (m.place n) ≡ true) × (is_key same (pair_at m.stored n) k ≡ true)

  -- two pairs of one map have keys of two classes
  abbrev pub HaveTheirOwn : Moment K V → Type 0
  HaveTheirOwn m = (map n p : ℕ) (k : K) → Has m map k n → Has m map k p → n ≡ p
