-- The last one of a list, and what schedules hold of drivers, event by event.
use Rattle.std.specs.Prelude.{◌-◌, ◌==◌, Bool, [], ◌∷◌, None, slice_get}
use Rattle.std.specs.List.{AllByRecursion}
use Rattle.std.proofs.Common.{◌≡◌, refl, ℕ, ◌+◌, List, length, arith, inl, inr, subst}
use Rattle.std.proofs.Math.Dec.{eqb-suc-zero}
use Rattle.std.proofs.lemmas.Option.{slice_get_cases}
use Rattle.run_names.specs.Crews.Crew.{HoldsJust, Listed, held_by, held_first, same_list}
use Rattle.run_names.specs.declared.kept.Applied.{Applied}
use Rattle.run_names.specs.declared.kept.KeptEvent.{KeptEvent}

-- a list that is not empty has a last one
pub has_last : {X : Type 0} (xs : List X) (n : ℕ) → length xs ≡ n + 1 → slice_get xs (length xs - 1) ≡ None → ⊥
has_last xs n long none =
    let cases = slice_get_cases xs (length xs - 1) in
    elim cases.1 as (λ _. ⊥) [ inl within ↦ cc (within.2, none) | inr past ↦ omega (arith, past.0, long) ]

module _ {E O : Type 0} (same_event : E → E → Bool) (same_outcome : O → O → Bool) (number : ℕ) where
  -- an event that the schedule has next
  pub on_kept : (schedule later : List (KeptEvent E)) (outcomes others : List O) (list : List (Applied E O)) (k : KeptEvent E) (o : O) → schedule ≡ k ∷ later → outcomes ≡ o ∷ others
      → same_list same_event same_outcome (held_by number schedule outcomes) list ≡ same_list same_event same_outcome (held_first number k o (held_by number later others)) list
  on_kept schedule later outcomes others list k o s e = λ i. same_list same_event same_outcome (held_by number (s i) (e i)) list

  empty_same : (list : List (Applied E O)) → (length list == 0) ≡ same_list same_event same_outcome [] list
  empty_same [] = refl
  empty_same (a ∷ list) = eqb-suc-zero (length list)

  -- where no event is left, none may be listed
  pub none_kept : (schedule : List (KeptEvent E)) (outcomes : List O) (list : List (Applied E O)) → length schedule ≡ 0 → (length list == 0) ≡ same_list same_event same_outcome (held_by number schedule outcomes) list
  none_kept [] outcomes list none = empty_same list
  none_kept (k ∷ schedule) outcomes list none = absurd (omega (arith, none))

  pub none_told : (schedule : List (KeptEvent E)) (outcomes : List O) (list : List (Applied E O)) → length outcomes ≡ 0 → (length list == 0) ≡ same_list same_event same_outcome (held_by number schedule outcomes) list
  none_told [] outcomes list none = empty_same list
  none_told (k ∷ schedule) [] list none = empty_same list
  none_told (k ∷ schedule) (o ∷ outcomes) list none = absurd (omega (arith, none))

-- what a schedule holds of drivers, by equal lists of all three
pub all_hold :
    {E O : Type 0} (same_event : E → E → Bool) (same_outcome : O → O → Bool) {schedule kept : List (KeptEvent E)} {outcomes told : List O} {drivers all : List (Listed E O)}
    → schedule ≡ kept → outcomes ≡ told → drivers ≡ all → AllByRecursion (HoldsJust same_event same_outcome schedule outcomes) drivers
    → AllByRecursion (HoldsJust same_event same_outcome kept told) all
all_hold {E} {O} same_event same_outcome {schedule} {kept} {outcomes} {told} {drivers} {all} s o d hold =
    subst (λ (l : List (KeptEvent E)). AllByRecursion (HoldsJust same_event same_outcome l told) all) s
    (subst (λ (l : List O). AllByRecursion (HoldsJust same_event same_outcome schedule l) all) o
    (subst (AllByRecursion (HoldsJust same_event same_outcome schedule outcomes)) d hold))
