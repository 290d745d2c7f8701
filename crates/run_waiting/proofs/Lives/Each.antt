-- What is so of each pair that waits, and of its table.
use Rattle.std.specs.Prelude.{◌≡◌, ℕ, ◌==◌, Bool, true, false, ◌||◌, List, [], ◌∷◌, filter, map, if◌then◌else◌}
use Rattle.std.proofs.Common.{refl, sym, arith}
use Rattle.run_debts.specs.Given.RunsDeclared.effect.TableId.{TableId}
use Rattle.run_debts.specs.Given.SchedulesLists.{is_among}
use Rattle.run_debts.specs.Given.SchedulesMoment.{Deferral}
use Rattle.run_debts.specs.Given.SchedulesThings.{same_table}
use Rattle.run_debts.specs.Given.SchedulesViews.{behind}
use Rattle.run_waiting.specs.Lives.Behind.{EachWaits}

module _ (P : ℕ → TableId → Type 0) where
  pub each_on : (Q : ℕ → TableId → Type 0) → ((n : ℕ) (t : TableId) → P n t → Q n t) → (ds : List Deferral) → EachWaits P ds → EachWaits Q ds
  each_on Q turn [] each = tt
  each_on Q turn (d ∷ ds) each = (turn d.pair d.behind each.0, each_on Q turn ds each.1)

  -- and something else is so of each
  pub each_both : (Q : ℕ → TableId → Type 0) (ds : List Deferral) → EachWaits P ds → EachWaits Q ds → EachWaits (λ n t. P n t × Q n t) ds
  each_both Q [] each other = tt
  each_both Q (d ∷ ds) each other = ((each.0, other.0), each_both Q ds each.1 other.1)

  -- of those that pass a test
  pub each_kept : (Q : ℕ → TableId → Type 0) (f : Deferral → Bool) → ((d : Deferral) → f d ≡ true → P d.pair d.behind → Q d.pair d.behind) → (ds : List Deferral) → EachWaits P ds → EachWaits Q (filter f ds)
  each_kept Q f turn [] each = tt
  each_kept Q f turn (d ∷ ds) each = by (f d) refl (each_kept Q f turn ds each.1)
    where
      by : (q : Bool) → f d ≡ q → EachWaits Q (filter f ds) → EachWaits Q (if q then d ∷ filter f ds else filter f ds)
      by true is rest = (turn d is each.0, rest)
      by false is rest = rest

  -- one that waits behind a table
  pub record WaitsAt (n : ℕ) (t : TableId) : Type 0 where
    pub one : Deferral
    pub its : same_table one.behind t ≡ true
    pub number : one.pair ≡ n
    pub so : P one.pair one.behind

  pub found : (n : ℕ) (t : TableId) (ds : List Deferral) → EachWaits P ds → is_among n (behind t ds) ≡ true → WaitsAt n t
  found n t [] each among = absurd (cc among)
  found n t (d ∷ ds) each among = by (same_table d.behind t) refl among (found n t ds each.1)
    where
      Further : Type 0
      Further = is_among n (behind t ds) ≡ true → WaitsAt n t

      here : (q : Bool) → (n == d.pair) ≡ q → same_table d.behind t ≡ true → (q || is_among n (behind t ds)) ≡ true → Further → WaitsAt n t
      here true is its e further = record { one = d; its = its; number = (let same : n ≡ d.pair = grind (arith, is) in sym same); so = each.0 }
      here false is its e further = further e

      by : (q : Bool) → same_table d.behind t ≡ q → is_among n (map (λ x. x.pair) (if q then d ∷ filter (λ x. same_table x.behind t) ds else filter (λ x. same_table x.behind t) ds)) ≡ true → Further → WaitsAt n t
      by true its e further = here (n == d.pair) refl its e further
      by false its e further = further e
