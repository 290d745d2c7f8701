-- What a crew keeps of its schedule, and what it is for.
use Rattle.std.specs.Prelude.{◌≡◌, ℕ, ◌==◌, Bool, true, false, ◌&&◌, List, [], ◌∷◌, length, map, sum_by, if◌then◌else◌}
use Rattle.std.specs.List.{AllByRecursion}
use Rattle.run_names.specs.declared.kept.Applied.{Applied}
use Rattle.run_names.specs.declared.kept.KeptEvent.{KeptEvent}

-- what contracts see of a driver
pub record Listed (E O : Type 0) : Type 0 where
  pub number : ℕ
  pub list : List (Applied E O)

-- what contracts see of a crew, while its lock is held
pub record Held (E O : Type 0) : Type 0 where
  pub schedule : List (KeptEvent E)
  pub outcomes : List O
  pub is_broken : Bool

-- the events of a kept schedule
abbrev pub events_of : {E : Type 0} → List (KeptEvent E) → List E
events_of schedule = map (λ k. k.event) schedule

module _ {E O : Type 0} where
  -- an event with what it came to, in front of later ones, if it is of the driver of this number
  abbrev pub held_first : ℕ → KeptEvent E → O → List (Applied E O) → List (Applied E O)
  held_first number k outcome later = if k.driver == number then record { event = k.event; outcome = outcome } ∷ later else later

  -- what a schedule holds of the driver of this number, each event with what it came to
  abbrev pub held_by : ℕ → List (KeptEvent E) → List O → List (Applied E O)
  held_by number (k ∷ schedule) (o ∷ outcomes) = held_first number k o (held_by number schedule outcomes)
  held_by number _ _ = []

  -- the same by these tests of events and of outcomes
  module _ (same_event : E → E → Bool) (same_outcome : O → O → Bool) where
    abbrev pub same_applied : Applied E O → Applied E O → Bool
    same_applied a b = same_event a.event b.event && same_outcome a.outcome b.outcome

    abbrev pub same_list : List (Applied E O) → List (Applied E O) → Bool
    same_list [] [] = true
    same_list [] (b ∷ other) = false
    same_list (a ∷ list) [] = false
    same_list (a ∷ list) (b ∷ other) = same_applied a b && same_list list other

    -- of this driver the schedule holds just its list, in order, with what its events came to
    abbrev pub HoldsJust : List (KeptEvent E) → List O → Listed E O → Type 0
    HoldsJust schedule outcomes d = same_list (held_by d.number schedule outcomes) d.list ≡ true

-- A schedule of as many events as these drivers list has this run, and does not hold of each of them just its list.
pub record Disagree {E O U : Type 0} (IsRun : List E → U → Type 0) (told : U → List O) (same_event : E → E → Bool) (same_outcome : O → O → Bool) (drivers : List (Listed E O)) : Type 0 where
  pub schedule : List (KeptEvent E)
  pub run : U
  pub whole : IsRun (events_of schedule) run
  pub counted : length schedule ≡ sum_by (λ d. length d.list) drivers
  pub unlike : AllByRecursion (HoldsJust same_event same_outcome schedule (told run)) drivers → ⊥
