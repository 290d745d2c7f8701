-- What is said of a memory in which a word only grows: the first root has a word, and what a seat knows was reached.
use Rattle.std.specs.Prelude.{◌≡◌, ◌≤◌, ℕ, Some, Ok, Err}
use Rattle.seize_words.specs.OneMemory.Mem.{word_at}
use Rattle.seize_words.specs.OneMemory.Op.{Op, Out, Load, Exchange, Found, Exchanged}
use Rattle.seize_words.specs.declared.at.At.TheVariants.{Root}
use Rattle.seize_seats.specs.Seats.State.{State, view_of}

pub record HasGrown (s : State ℕ ℕ (Unit {0})) : Type 0 where
  pub word : ℕ
  pub there : word_at s.memory (Root 0) ≡ Some word
  pub reached : (j v : ℕ) → view_of s j ≡ Some v → v ≤ word

-- what is found is no less than what was known, and is known from then on
abbrev pub grows : ℕ → Op ℕ → Out ℕ → ℕ → Type 0
grows v (Load at) (Found w) u = (v ≤ w) × (u ≡ w)
grows v (Exchange at old new) (Exchanged (Ok w)) u = u ≡ new
grows v (Exchange at old new) (Exchanged (Err w)) u = u ≡ w
grows v op out u = u ≡ v

-- one that has learnt from another one knows no less than each of them knew
abbrev pub no_less : ℕ → ℕ → ℕ → Type 0
no_less v u w = (v ≤ w) × (u ≤ w)

-- two that have met know the same, and no less than each of them knew
abbrev pub greater : ℕ → ℕ → ℕ → ℕ → Type 0
greater v u v' u' = (v' ≡ u') × (v ≤ v') × (u ≤ v')
