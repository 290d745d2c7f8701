-- How many buckets of slots are noted, by the slots that were ever taken.
use Rattle.std.specs.Prelude.{◌≡◌, ◌<◌, ◌+◌, ◌⊎◌, ℕ}
use Rattle.run_schedules.specs.Given.SeizeWordsPlace.{capacity}
use Rattle.run_finds.specs.Given.EffectsKnown.{Known}

-- Slots that were ever taken have their words, and so has the one behind them.
abbrev pub AreReached : ℕ → Known → Type 0
AreReached slots known = (slots ≡ 0) ⊎ (slots + 32 < capacity known.buckets)
