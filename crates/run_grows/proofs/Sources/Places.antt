-- The places of the tables of a map up to one, and what they name.
use Rattle.std.specs.Prelude.{◌≡◌, ℕ, zero, suc, ◌+◌, ◌<◌, ◌≤◌, nat_le, ◌==◌, Bool, true, false, List, [], ◌∷◌, ◌++◌, length, filter, sum_by, if◌then◌else◌}
use Rattle.std.proofs.Common.{refl, ap, sym, subst, ◌∙◌, arith, inl, inr}
use Rattle.std.proofs.lemmas.Bool.{cases_eq, eq-eqb}
use Rattle.std.proofs.lemmas.List.{length-append}
use Rattle.std.proofs.lemmas.List.Elements.{filter-append}
use Rattle.std.proofs.lemmas.List.Sums.{sum_by-append}
use Rattle.run_finds.specs.Given.RunsLifeCycle.{times}
use Rattle.run_finds.specs.Given.SchedulesMoment.{Stage, TableThere}
use Rattle.run_finds.specs.Given.RuleChart.{Chart}
use Rattle.run_finds.specs.Given.FollowsMaps.{tables_to, table_of, shape_at}
use Rattle.run_finds.proofs.Lists.{times_both as times_append}

module _ (name : ℕ → ℕ → ℕ) where
  -- what so many places of a table name
  abbrev pub names_in : ℕ → ℕ → List ℕ
  names_in t zero = []
  names_in t (suc i) = name t i ∷ names_in t i

  many_in : (t i : ℕ) → length (names_in t i) ≡ i
  many_in t zero = refl
  many_in t (suc i) = ap suc (many_in t i)

  found_in : (t i n : ℕ) → (j : ℕ) → j < i → name t j ≡ n → 1 ≤ times n (names_in t i)
  found_in t zero n j l is = absurd (omega (arith, l))
  found_in t (suc i) n j l is = elim (cases_eq j i) as (λ _. 1 ≤ times n (names_in t (suc i))) [
    | inl e ↦
        let one : ◌≡◌ {A = ℕ} (if n == name t i then 1 else 0) 1 = ap (λ (q : Bool). if q then 1 else 0) (eq-eqb n (name t i) (sym is ∙ ap (name t) e)) in
        omega (arith, one)
    | inr ne ↦ (let rest = found_in t i n j (omega (arith, l, ne)) is in omega (arith, rest))
  ]

  module _ (len : ℕ → ℕ) where
    -- what all places of so many tables name
    abbrev pub names_before : ℕ → List ℕ
    names_before zero = []
    names_before (suc t) = names_in t (len t) ++ names_before t

    more : (t : ℕ) → length (names_before (suc t)) ≡ len t + length (names_before t)
    more t = length-append (names_in t (len t)) (names_before t) ∙ ap (λ (x : ℕ). x + length (names_before t)) (many_in t (len t))

    pub found_before : (t n u j : ℕ) → u < t → j < len u → name u j ≡ n → 1 ≤ times n (names_before t)
    found_before zero n u j l within is = absurd (omega (arith, l))
    found_before (suc t) n u j l within is =
        let both = times_append n (names_in t (len t)) (names_before t) in
        elim (cases_eq u t) as (λ _. 1 ≤ times n (names_before (suc t))) [
          | inl e ↦
              let here = found_in t (len t) n j (subst (λ (x : ℕ). j < len x) e within) (ap (λ (x : ℕ). name x j) (sym e) ∙ is) in
              omega (arith, both, here)
          | inr ne ↦ (let rest = found_before t n u j (omega (arith, l, ne)) within is in omega (arith, both, rest))
        ]

-- How many places the tables have up to one.
module _ {K : Type 0} (map : ℕ) (c : Chart K) (stage : ℕ → Stage) (last : ℕ) (name : ℕ → ℕ → ℕ) where
  abbrev pub places_to : List TableThere → ℕ
  places_to tables = sum_by (λ u. u.shape.len) (filter (λ u. nat_le u.table.turn last) tables)

  abbrev is_up_to : TableThere → Bool
  is_up_to u = nat_le u.table.turn last

  abbrev long : TableThere → ℕ
  long u = u.shape.len

  last_one : (xs : List TableThere) (x : TableThere) → places_to (xs ++ x ∷ []) ≡ places_to xs + (if nat_le x.table.turn last then x.shape.len else 0)
  last_one xs x =
      ap (sum_by long) (filter-append is_up_to xs (x ∷ [])) ∙ sum_by-append long (filter is_up_to xs) (filter is_up_to (x ∷ [])) ∙ ap (λ (n : ℕ). sum_by long (filter is_up_to xs) + n) (by (nat_le x.table.turn last))
    where
      by : (q : Bool) → sum_by long (if q then x ∷ [] else []) ≡ (if q then x.shape.len else 0)
      by true = omega arith
      by false = refl

  abbrev table_at : ℕ → TableThere
  table_at t = record { table = table_of map t; shape = shape_at map c t; stage = stage t }

  pub enough : (many few : ℕ) → few ≤ many → few ≤ suc last → length (names_before name c.len few) ≤ places_to (tables_to map c stage many)
  enough zero few l small = subst (λ (x : ℕ). length (names_before name c.len x) ≤ 0) (let z : ◌≡◌ {A = ℕ} 0 few = omega (arith, l) in z) (omega arith)
  enough (suc many) few l small =
      let one : places_to (tables_to map c stage (suc many)) ≡ places_to (tables_to map c stage many) + (if nat_le many last then c.len many else 0) = last_one (tables_to map c stage many) (table_at many) in
      elim (cases_eq few (suc many)) as (λ _. length (names_before name c.len few) ≤ places_to (tables_to map c stage (suc many))) [
        | inl e ↦
            let within : nat_le many last ≡ true = grind (arith, small, e) in
            let counted : ◌≡◌ {A = ℕ} (if nat_le many last then c.len many else 0) (c.len many) = ap (λ (q : Bool). if q then c.len many else 0) within in
            let rest = enough many many (omega arith) (omega (arith, small, e)) in
            let long = ap (λ (x : ℕ). length (names_before name c.len x)) e ∙ more name c.len many in
            omega (arith, one, counted, rest, long)
        | inr ne ↦ (let rest = enough many few (omega (arith, l, ne)) small in omega (arith, one, rest))
      ]
