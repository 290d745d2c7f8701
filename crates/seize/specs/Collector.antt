-- What a collector was made with.
use Rattle.std.specs.Prelude.{ℕ, max, nat_lt, Option, Some, None, Result, Ok, Err, if◌then◌else◌}
use Rattle.seize_words.specs.declared.at.At.{At}
use Rattle.seize_words.specs.declared.at.At.TheVariants.{Root}
use Rattle.seize_words.specs.declared.fault.Fault.{Fault}

-- Its number, how long a batch is when it is first tried, the processors it was made for, and its root links.
pub record Setting : Type 0 where
  pub number : ℕ
  pub batch_size : ℕ
  pub processors : ℕ
  pub roots : ℕ

-- by the source's answer: no number, no collector
abbrev pub made_by : Result ℕ Fault → ℕ → ℕ → Result Setting Fault
made_by (Ok number) processors roots = Ok record { number = number; batch_size = max 32 processors; processors = processors; roots = roots }
made_by (Err fault) processors roots = Err fault

-- the name of a root's word, below the number of roots
abbrev pub root_of : Setting → ℕ → Option At
root_of setting root = if nat_lt root setting.roots then Some (Root root) else None
