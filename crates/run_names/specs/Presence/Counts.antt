-- How many there are of each name.
use Rattle.std.specs.Prelude.{ℕ, List, Option, Some, None, nat_eq}
use Rattle.std.specs.HashMap.{get_by}
use Rattle.std.specs.Cmp.Lexicographic.{pointwise}
use Rattle.run_names.specs.declared.counts.Counts.{Counts}

-- a count that is there, and else none
abbrev pub or_none : Option ℕ → ℕ
or_none None = 0
or_none (Some count) = count

-- how many there are of a name
abbrev pub count_in : List ℕ → Counts → ℕ
count_in name counts = or_none (get_by (λ k. pointwise nat_eq name k.items) counts.by_name)
