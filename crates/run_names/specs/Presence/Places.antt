-- Places of a list, by names.
use Rattle.std.specs.Prelude.{◌≡◌, ℕ, List, Option, nat_eq}
use Rattle.std.specs.HashMap.{get_by}
use Rattle.std.specs.Cmp.Lexicographic.{pointwise}
use Rattle.run_names.specs.declared.name_index.NameIndex.{NameIndex}

-- where a name leads
abbrev pub place_of : List ℕ → NameIndex → Option ℕ
place_of name places = get_by (λ k. pointwise nat_eq name k.items) places.by_name

-- the two names differ
abbrev pub IsElsewhere : List ℕ → List ℕ → Type 0
IsElsewhere name other = name ≡ other → ⊥
