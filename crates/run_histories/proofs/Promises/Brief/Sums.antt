-- The words that a lookup may read, as sums over tables.
use Rattle.std.specs.Prelude.{ℕ, zero, suc, ◌+◌, ◌<◌, ◌≤◌, nat_le, nat_lt, Bool, true, false, List, [], ◌∷◌, filter, sum_by, if◌then◌else◌}
use Rattle.std.proofs.Common.{◌≡◌, refl, ap, subst, ◌∙◌, arith}
use Rattle.std.proofs.lemmas.Bool.{le-leb, leb-true, ltb-true, ltb-false}
use Rattle.std.proofs.lemmas.List.Elements.{filter-append}
use Rattle.std.proofs.lemmas.List.Sums.{sum_by-append}
use Rattle.run_places.specs.Given.RuleChart.{Chart}
use Rattle.run_places.specs.Given.SchedulesMoment.{Stage, TableThere}
use Rattle.run_places.specs.Given.FollowsMaps.{table_of, shape_at, tables_to}
use Rattle.run_histories.specs.Promises.Brief.{words_of, read_to}

-- one more table
pub one_more : (limit : ℕ → ℕ) (first t : ℕ) → first ≤ t → read_to limit first (suc t) ≡ read_to limit first t + (limit t + 2)
one_more limit first t l = ap (λ (b : Bool). read_to limit first t + (if b then limit t + 2 else 0)) (le-leb first t l)

-- with the table after it, no fewer
pub grows : (limit : ℕ → ℕ) (first t : ℕ) → read_to limit first t ≤ read_to limit first (suc t)
grows limit first t = omega arith

pub through : (limit : ℕ → ℕ) (first t past : ℕ) → first ≤ t → t < past → read_to limit first t + (limit t + 2) ≤ read_to limit first past
through limit first t zero l below = absurd (omega (arith, below))
through limit first t (suc past) l below = by (nat_lt t past) refl (through limit first t past l)
  where
    by : (b : Bool) → nat_lt t past ≡ b → (t < past → read_to limit first t + (limit t + 2) ≤ read_to limit first past)
        → read_to limit first t + (limit t + 2) ≤ read_to limit first (suc past)
    by true e before =
        let rest = before (ltb-true t past e) in
        let more = grows limit first past in omega (arith, rest, more)
    by false e before =
        let here : t ≡ past = (let not = ltb-false t past e in omega (arith, not, below)) in
        let one = one_more limit first t l in
        subst (λ (n : ℕ). read_to limit first t + (limit t + 2) ≤ read_to limit first (suc n)) here (omega (arith, one))

-- before the first none are read
pub none_before : (limit : ℕ → ℕ) (first t : ℕ) → t ≤ first → read_to limit first t ≡ 0
none_before limit first zero l = refl
none_before limit first (suc t) l =
    let rest = none_before limit first t (omega (arith, l)) in
    by (nat_le first t) refl rest
  where
    by : (b : Bool) → nat_le first t ≡ b → read_to limit first t ≡ 0 → read_to limit first (suc t) ≡ 0
    by true e rest = absurd (let le = leb-true first t e in omega (arith, le, l))
    by false e rest = ap (λ (b : Bool). read_to limit first t + (if b then limit t + 2 else 0)) e ∙ omega (arith, rest)

-- with limits that are the same they are the same
pub as_long : (limit limit2 : ℕ → ℕ) (first t : ℕ) → ((u : ℕ) → u < t → limit2 u ≡ limit u) → read_to limit2 first t ≡ read_to limit first t
as_long limit limit2 first zero same = refl
as_long limit limit2 first (suc t) same =
    let rest = as_long limit limit2 first t (λ u l. same u (omega (arith, l))) in
    ap (λ (n : ℕ). n + (if nat_le first t then limit2 t + 2 else 0)) rest
    ∙ ap (λ (n : ℕ). read_to limit first t + (if nat_le first t then n + 2 else 0)) (same t (omega arith))

module _ {K : Type 0} (map : ℕ) (c : Chart K) (stage : ℕ → Stage) (first : ℕ) where
  abbrev is_met : TableThere → Bool
  is_met t = nat_le first t.table.turn

  -- of so many tables, those from the first on have these words
  pub met_words : (past : ℕ) → sum_by words_of (filter (λ t. nat_le first t.table.turn) (tables_to map c stage past)) ≡ read_to c.limit first past
  met_words zero = refl
  met_words (suc t) =
      ap (sum_by words_of) (filter-append is_met (tables_to map c stage t) (record { table = table_of map t; shape = shape_at map c t; stage = stage t } ∷ []))
      ∙ sum_by-append words_of (filter is_met (tables_to map c stage t)) (filter is_met (record { table = table_of map t; shape = shape_at map c t; stage = stage t } ∷ []))
      ∙ ap (λ (n : ℕ). n + sum_by words_of (filter is_met (record { table = table_of map t; shape = shape_at map c t; stage = stage t } ∷ []))) (met_words t)
      ∙ ap (λ (n : ℕ). read_to c.limit first t + n) (last (nat_le first t))
    where
      last : (b : Bool) → sum_by words_of (if b then record { table = table_of map t; shape = shape_at map c t; stage = stage t } ∷ [] else []) ≡ (if b then c.limit t + 2 else 0)
      last true = omega arith
      last false = refl

  -- the first of them has its words, alone
  abbrev is_first : TableThere → Bool
  is_first t = nat_le t.table.turn first

  abbrev at_turn : ℕ → TableThere
  at_turn t = record { table = table_of map t; shape = shape_at map c t; stage = stage t }

  abbrev firsts : List TableThere → List TableThere
  firsts ts = filter (λ t. nat_le t.table.turn first) (filter (λ t. nat_le first t.table.turn) ts)

  firsts_more : (t : ℕ) → sum_by words_of (firsts (tables_to map c stage (suc t))) ≡ sum_by words_of (firsts (tables_to map c stage t)) + sum_by words_of (firsts (at_turn t ∷ []))
  firsts_more t =
      ap (λ (ts : List TableThere). sum_by words_of (filter is_first ts)) (filter-append is_met (tables_to map c stage t) (at_turn t ∷ []))
      ∙ ap (sum_by words_of) (filter-append is_first (filter is_met (tables_to map c stage t)) (filter is_met (at_turn t ∷ [])))
      ∙ sum_by-append words_of (firsts (tables_to map c stage t)) (firsts (at_turn t ∷ []))

  here_words : c.limit first + 2 ≤ sum_by words_of (firsts (at_turn first ∷ []))
  here_words = by (nat_le first first) (le-leb first first (omega arith))
    where
      by : (b : Bool) → b ≡ true → c.limit first + 2 ≤ sum_by words_of (filter is_first (if b then at_turn first ∷ [] else []))
      by true e = twice (nat_le first first) (le-leb first first (omega arith))
        where
          twice : (b : Bool) → b ≡ true → c.limit first + 2 ≤ sum_by words_of (if b then at_turn first ∷ [] else [])
          twice true e = omega arith
          twice false e = absurd (cc e)
      by false e = absurd (cc e)

  pub root_words : (past : ℕ) → first < past → c.limit first + 2 ≤ sum_by words_of (filter (λ t. nat_le t.table.turn first) (filter (λ t. nat_le first t.table.turn) (tables_to map c stage past)))
  root_words zero made = absurd (omega (arith, made))
  root_words (suc t) made = by (nat_lt first t) refl (root_words t)
    where
      by : (b : Bool) → nat_lt first t ≡ b → (first < t → c.limit first + 2 ≤ sum_by words_of (firsts (tables_to map c stage t)))
          → c.limit first + 2 ≤ sum_by words_of (firsts (tables_to map c stage (suc t)))
      by true e before = let rest = before (ltb-true first t e) in let more = firsts_more t in omega (arith, rest, more)
      by false e before =
          let here : first ≡ t = (let not = ltb-false first t e in omega (arith, not, made)) in
          let own = here_words in
          let more = firsts_more first in
          subst (λ (n : ℕ). c.limit first + 2 ≤ sum_by words_of (firsts (tables_to map c stage (suc n)))) here (omega (arith, own, more))
