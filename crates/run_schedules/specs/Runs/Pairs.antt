-- Lists of pairs.
use Rattle.std.specs.Prelude.{ℕ, List, map}
use Rattle.run_schedules.specs.declared.ended.Pair.{Pair}

abbrev pub numbers : {K V : Type 0} → List (Pair K V) → List ℕ
numbers pairs = map (λ p. p.number) pairs
