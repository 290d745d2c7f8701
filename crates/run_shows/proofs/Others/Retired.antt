-- A table that was retired is none of those from the root of a map on.
use Rattle.std.specs.Prelude.{◌≡◌, ℕ, zero, suc, ◌<◌, ◌≤◌, ◌==◌, Bool, true, false, ◌&&◌, ◌||◌, List, [], ◌∷◌, ◌++◌, filter, if◌then◌else◌, ◌⊎◌}
use Rattle.std.specs.List.{list_any}
use Rattle.std.proofs.Common.{refl, ap, sym, ◌∙◌, arith, inl, inr}
use Rattle.std.proofs.lemmas.Bool.{eq-eqb}
use Rattle.run_effects.specs.Given.RunsDeclared.effect.TableId.{TableId}
use Rattle.run_effects.specs.Given.SchedulesMoment.{Stage, IsLinked, TableThere, Moment}
use Rattle.run_effects.specs.Given.SchedulesThings.{same_table}
use Rattle.run_effects.specs.Given.SchedulesViews.{is_retired, is_stage}
use Rattle.run_effects.specs.Given.RuleChart.{Chart}
use Rattle.many_maps.specs.Maps.{Standing}
use Rattle.run_effects.specs.Effects.Known.{Known}
use Rattle.run_shows.specs.Follows.Maps.{table_of, shape_at, tables_to, RefinesMap}
use Rattle.run_shows.proofs.Others.Leads.{same_parts}
use Rattle.seize_acts.proofs.Acts.Begun.{or_either as one_of_two}
use Rattle.seize_words.proofs.General.{both_true as both, or_second as or_last}

module _ {X : Type 0} (p : X → Bool) where
  any_first : (x : X) (xs : List X) → p x ≡ true → list_any p (x ∷ xs) ≡ true
  any_first x xs e = ap (λ q. q || list_any p xs) e

  -- what passes one test, and so another one, is among those that pass that
  pub any_kept : (q : X → Bool) → ((x : X) → p x ≡ true → q x ≡ true) → (xs : List X) → list_any p xs ≡ true → list_any p (filter q xs) ≡ true
  any_kept q passes [] e = absurd (cc e)
  any_kept q passes (x ∷ xs) e = by (q x) refl (one_of_two (p x) (list_any p xs) e) (λ rest. any_kept q passes xs rest)
    where
      by : (z : Bool) → q x ≡ z → (p x ≡ true) ⊎ (list_any p xs ≡ true) → (list_any p xs ≡ true → list_any p (filter q xs) ≡ true) → list_any p (filter q (x ∷ xs)) ≡ true
      by true is (inl here) later = ap (λ z. list_any p (if z then x ∷ filter q xs else filter q xs)) is ∙ any_first x (filter q xs) here
      by true is (inr rest) later = ap (λ z. list_any p (if z then x ∷ filter q xs else filter q xs)) is ∙ or_last (p x) (list_any p (filter q xs)) (later rest)
      by false is (inl here) later = absurd (let so = passes x here in cc (so, is))
      by false is (inr rest) later = ap (λ z. list_any p (if z then x ∷ filter q xs else filter q xs)) is ∙ later rest

  any_either : (xs ys : List X) → list_any p (xs ++ ys) ≡ true → (list_any p xs ≡ true) ⊎ (list_any p ys ≡ true)
  any_either [] ys e = inr e
  any_either (x ∷ xs) ys e = by (one_of_two (p x) (list_any p (xs ++ ys)) e) (λ rest. any_either xs ys rest)
    where
      by : (p x ≡ true) ⊎ (list_any p (xs ++ ys) ≡ true) → (list_any p (xs ++ ys) ≡ true → (list_any p xs ≡ true) ⊎ (list_any p ys ≡ true)) → (list_any p (x ∷ xs) ≡ true) ⊎ (list_any p ys ≡ true)
      by (inl here) later = inl (any_first x xs here)
      by (inr rest) later = elim (later rest) as (λ _. (list_any p (x ∷ xs) ≡ true) ⊎ (list_any p ys ≡ true)) [
        | inl e ↦ inl (or_last (p x) (list_any p xs) e)
        | inr e ↦ inr e
      ]

-- one of a map's tables that passes a test has a turn
module _ {K : Type 0} (n : ℕ) (c : Chart K) (stage : ℕ → Stage) (p : TableThere → Bool) where
  abbrev there_at : ℕ → TableThere
  there_at u = record { table = table_of n u; shape = shape_at n c u; stage = stage u }

  one_among : (many : ℕ) → list_any p (tables_to n c stage many) ≡ true → (v : ℕ) × (v < many) × (p (there_at v) ≡ true)
  one_among zero e = absurd (cc e)
  one_among (suc u) e = by (any_either p (tables_to n c stage u) (there_at u ∷ []) e) (λ rest. one_among u rest)
    where
      by : (list_any p (tables_to n c stage u) ≡ true) ⊎ (list_any p (there_at u ∷ []) ≡ true)
          → (list_any p (tables_to n c stage u) ≡ true → (v : ℕ) × (v < u) × (p (there_at v) ≡ true)) → (v : ℕ) × (v < suc u) × (p (there_at v) ≡ true)
      by (inl before) later = let it = later before in (it.0, (let l = it.1 in omega (arith, l)), it.2)
      by (inr last) later = elim (one_of_two (p (there_at u)) false last) as (λ _. (v : ℕ) × (v < suc u) × (p (there_at v) ≡ true)) [
        | inl here ↦ (u, omega arith, here)
        | inr none ↦ absurd (cc none)
      ]

module _ {K V : Type 0} (n : ℕ) (number : ℕ → ℕ) (s : Standing K) (m : Moment K V) (known : Known) (shown : RefinesMap n number s m known) (t : TableId) (retired : is_stage is_retired t m ≡ true) where
  abbrev is_it : TableThere → Bool
  is_it x = same_table x.table t && is_retired x.stage

  pub retired_apart : (u : ℕ) → s.chart.first ≤ u → u < s.chart.past → same_table (table_of n u) t ≡ false
  retired_apart u from made = by (same_table (table_of n u) t) refl
    where
      by : (q : Bool) → same_table (table_of n u) t ≡ q → same_table (table_of n u) t ≡ false
      by false f = f
      by true f =
          absurd (
          let its = same_parts (table_of n u) t f in
          let in_map = any_kept is_it (λ x. x.table.map == n)
          (λ x e. (let parts = same_parts x.table t (both (same_table x.table t) (is_retired x.stage) e).0 in eq-eqb x.table.map n (parts.0 ∙ sym its.0))) m.tables retired in
          let found = one_among n s.chart shown.tables.stage is_it s.chart.past (ap (list_any is_it) (sym shown.tables.listed) ∙ in_map) in
          let is = both (same_table (table_of n found.0) t) (is_retired (shown.tables.stage found.0)) found.2 in
          let same_turn : found.0 ≡ u = (same_parts (table_of n found.0) t is.0).1 ∙ sym its.1 in
          let linked : shown.tables.stage found.0 ≡ IsLinked = ap shown.tables.stage same_turn ∙ shown.tables.linked u from made in
          let not_retired : is_retired (shown.tables.stage found.0) ≡ false = ap is_retired linked in
          let was_retired = is.1 in cc (not_retired, was_retired)
          )
