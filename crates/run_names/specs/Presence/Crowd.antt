-- Items that stand at places of a list, each under a name.
use Rattle.std.specs.Prelude.{◌≡◌, ℕ, ◌+◌, ◌==◌, Bool, List, [], ◌∷◌, Option, Some, None, slice_get, if◌then◌else◌}
use Rattle.run_names.specs.declared.name_index.NameIndex.{NameIndex}
use Rattle.run_names.specs.Presence.Places.{place_of}
use Rattle.run_schedules.specs.declared.holders.NamedGuard.{NamedGuard}
use Rattle.run_schedules.specs.Runs.Same.{is_same}

module _ {T : Type 0} where
  -- the items that are there, in the order of their places
  abbrev pub kept : List (Option T) → List T
  kept [] = []
  kept (None ∷ comers) = kept comers
  kept (Some t ∷ comers) = t ∷ kept comers

  -- what these items weigh together
  abbrev pub weigh : (T → ℕ) → List T → ℕ
  weigh weight [] = 0
  weigh weight (t ∷ items) = weight t + weigh weight items

  -- this item stands at this place
  abbrev pub StandsAt : List (Option T) → ℕ → T → Type 0
  StandsAt comers place t = slice_get comers place ≡ Some (Some t)

  module _ (name_of : T → List ℕ) where
    -- the name of each item leads to its place
    pub record LeadsHome (comers : List (Option T)) (places : NameIndex) : Type 0 where
      pub home : (place : ℕ) (t : T) → StandsAt comers place t → place_of (name_of t) places ≡ Some place

    -- no item has this name
    abbrev pub IsAbsent : List ℕ → List (Option T) → Type 0
    IsAbsent name comers = (place : ℕ) (t : T) → StandsAt comers place t → name_of t ≡ name → ⊥

    -- the item of this name stands at this place
    abbrev pub IsHome : List ℕ → List (Option T) → ℕ → Type 0
    IsHome name comers place = (t : T) × StandsAt comers place t × (name_of t ≡ name)

    -- whether an item has this name
    abbrev pub is_named : List ℕ → T → Bool
    is_named name t = is_same (name_of t) name

-- 1 for a guard that was not forgotten
abbrev pub is_living : NamedGuard → ℕ
is_living g = if g.forgotten then 0 else 1

-- 1 where there is a slot, and where it is this one
abbrev pub count_some : Option ℕ → ℕ
count_some None = 0
count_some (Some slot) = 1

abbrev pub count_of : ℕ → Option ℕ → ℕ
count_of slot None = 0
count_of slot (Some other) = if other == slot then 1 else 0
