-- What a run is made with.
use Rattle.std.specs.Prelude.{ℕ}
use Rattle.papaya_raw.specs.Given.TablesPowers.{next_power}

pub record Terms : Type 0 where
  pub batch_size : ℕ
  pub processors : ℕ
  pub roots : ℕ

-- into so many shards a map's count falls
abbrev pub shards_of : Terms → ℕ
shards_of terms = next_power terms.processors
