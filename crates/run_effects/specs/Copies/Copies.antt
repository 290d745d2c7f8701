-- What is asked of keys and values that are copied, and what a copy of an outcome is.
use Rattle.std.specs.Prelude.{◌≡◌}
use Rattle.run_schedules.specs.declared.outcome.Outcome.{Outcome}
use Rattle.run_schedules.specs.declared.outcome.Outcome.TheVariants.{Shape}

-- a clone is its original
abbrev pub ClonesAreSame : {T : Type 0} → (T → T → Type 0) → Type 0
ClonesAreSame {T} is_clone = (x y : T) → is_clone x y → y ≡ x

-- two outcomes tell the same: two shapes have the same tables, and others are the same
abbrev pub AreAlike : {V : Type 0} → Outcome V → Outcome V → Type 0
AreAlike (Shape tables) (Shape others) = tables.items ≡ others.items
AreAlike (Shape tables) other = ⊥
AreAlike one other = one ≡ other
