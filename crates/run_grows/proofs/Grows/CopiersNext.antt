-- A map whose chart has a table past the first one has a second one at the moment.
use Rattle.std.specs.Prelude.{◌≡◌, ℕ, zero, suc, ◌+◌, ◌<◌, ◌≤◌, nat_le, Bool, true, false, List, [], ◌∷◌, ◌++◌, length, filter, if◌then◌else◌}
use Rattle.std.proofs.Common.{refl, ap, ◌∙◌, arith, length-append}
use Rattle.std.proofs.lemmas.Bool.{leb-false}
use Rattle.std.proofs.lemmas.List.Elements.{filter-append}
use Rattle.run_schedules.specs.Schedules.Growing.{HasNext}
use Rattle.run_schedules.specs.Schedules.Moment.{Stage, TableThere, Moment}
use Rattle.run_schedules.specs.Schedules.Views.{first_of, chain_of}
use Rattle.run_finds.specs.Given.RuleChart.{Chart}
use Rattle.run_finds.specs.Given.EffectsKnown.{Known}
use Rattle.run_finds.specs.Given.FinishesMaps.{Standing}
use Rattle.run_finds.specs.Given.FollowsMaps.{table_of, shape_at, tables_to, RefinesMap}
use Rattle.run_finds.proofs.Given.FollowsFinds.{first_is}

-- Of so many tables of a map no more lie before a turn than that says.

module _ {K : Type 0} (map : ℕ) (c : Chart K) (stage : ℕ → Stage) (first : ℕ) where
  abbrev from_first : TableThere → Bool
  from_first u = nat_le first u.table.turn

  abbrev table_last : ℕ → TableThere
  table_last t = record { table = table_of map t; shape = shape_at map c t; stage = stage t }

  one_more : (t : ℕ) → t ≤ first + length (filter from_first (tables_to map c stage t)) → (q : Bool) → nat_le first t ≡ q
      → suc t ≤ first + length (filter from_first (tables_to map c stage t ++ table_last t ∷ []))
  one_more t rest true e =
      let parts : length (filter from_first (tables_to map c stage t ++ table_last t ∷ [])) ≡ length (filter from_first (tables_to map c stage t) ++ filter from_first (table_last t ∷ [])) =
      ap length (filter-append from_first (tables_to map c stage t) (table_last t ∷ [])) in
      let sum = length-append (filter from_first (tables_to map c stage t)) (filter from_first (table_last t ∷ [])) in
      let one : length (filter from_first (table_last t ∷ [])) ≡ 1 = ap (λ (z : Bool). length (if z then table_last t ∷ [] else [])) e in omega (arith, rest, parts, sum, one)
  one_more t rest false e = let before : t < first = leb-false first t e in omega (arith, before)

  many_from : (n : ℕ) → n ≤ first + length (filter from_first (tables_to map c stage n))
  many_from zero = omega arith
  many_from (suc t) = one_more t (many_from t) (nat_le first t) refl

-- So a map whose root's table has one behind it has a second table.
pub second_there : {K V : Type 0} (map : ℕ) (number : ℕ → ℕ) (s : Standing K) (m : Moment K V) (known : Known) → RefinesMap map number s m known → suc s.chart.first < s.chart.past → HasNext map m
second_there map number s m known shown ahead =
    let listed : length (chain_of map m) ≡ length (filter (λ (u : TableThere). nat_le (first_of map m) u.table.turn) (tables_to map s.chart shown.tables.stage s.chart.past)) =
    ap (λ (l : List TableThere). length (filter (λ (u : TableThere). nat_le (first_of map m) u.table.turn) l)) shown.tables.listed in
    let from : length (chain_of map m) ≡ length (filter (from_first map s.chart shown.tables.stage s.chart.first) (tables_to map s.chart shown.tables.stage s.chart.past)) =
    listed ∙ ap (λ (f : ℕ). length (filter (λ (u : TableThere). nat_le f u.table.turn) (tables_to map s.chart shown.tables.stage s.chart.past))) (first_is map number s m known shown) in
    let many = many_from map s.chart shown.tables.stage s.chart.first s.chart.past in omega (arith, ahead, from, many)
