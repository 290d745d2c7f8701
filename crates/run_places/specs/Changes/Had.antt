-- What the class of a key had in a map at a moment of the map, by the numbers that pairs have in the run.
use Rattle.std.specs.Prelude.{◌≡◌, ℕ, ◌<◌, Bool, true, Option, Some, None}
use Rattle.run_shows.specs.Given.CallersSince.{HadPair}
use Rattle.run_shows.specs.Given.FinishesMaps.{Standing}

module _ {K : Type 0} (same : K → K → Bool) (s : Standing K) (number : ℕ → ℕ) (time : ℕ) (k : K) where
  -- the class had this pair then
  abbrev pub Had : ℕ → Type 0
  Had n = HadPair s.hash s.chart s.blocks (same k) time n

  -- the class had the pair of this number then, and no other; or it had none
  abbrev pub HadJust : Option ℕ → Type 0
  HadJust None = (n : ℕ) → Had n → ⊥
  HadJust (Some q) = (n : ℕ) × Had n × (number n ≡ q) × ((o : ℕ) → Had o → o ≡ n)

  -- so it was, and no pair that came later was in the map then
  pub record HadThen (o : Option ℕ) : Type 0 where
    pub stored : (n : ℕ) → s.chart.was time n ≡ true → n < s.chart.stored
    pub just : HadJust o
