-- What a call meets at its tries in the last table of a map, where it finds all of them taken.
use Rattle.std.specs.Prelude.{◌≡◌, ℕ, zero, suc, ◌+◌, ◌%◌, ◌==◌, Bool, true, ◌&&◌, List, length, if◌then◌else◌}
use Rattle.std.specs.List.{list_any}
use Rattle.papaya_raw.specs.Given.TablesProbes.{triangular}
use Rattle.run_schedules.specs.declared.effect.Spot.{Spot}
use Rattle.run_schedules.specs.Schedules.Lists.{OneOf, numbers_from}
use Rattle.run_schedules.specs.Schedules.Things.{same_spot}
use Rattle.run_schedules.specs.Schedules.Moment.{TableThere, Moment}
use Rattle.run_schedules.specs.Schedules.Views.{is_in_map}

-- the place at which a hash is looked for at a try, in the table of a turn and a length
abbrev pub try_at : ℕ → ℕ → ℕ → ℕ → Spot
try_at turn len hash try = record { turn = turn; place = (hash + triangular try) % len }

module _ {K V : Type 0} where
  -- a pair of the map lies at a place
  abbrev pub has_pair_at : ℕ → Spot → Moment K V → Bool
  has_pair_at map s m = list_any (λ n. is_in_map map (m.place n) && same_spot (m.spot n) s) (numbers_from 1 (length m.stored))

  -- one lies there, or lay there as it left the map
  abbrev pub is_taken_at : ℕ → Spot → Moment K V → Bool
  is_taken_at map s m = list_any (λ n. ((m.born n).map == map) && same_spot (m.spot n) s) (numbers_from 1 (length m.stored))

  -- at a moment the place is taken, and so many pairs lie there, none or one
  abbrev pub FindsTaken : ℕ → Spot → Moment K V → ℕ → Type 0
  FindsTaken map s m pairs = (is_taken_at map s m ≡ true) × (pairs ≡ (if has_pair_at map s m then 1 else 0))

  -- the first so many tries of a hash in such a table meet so many pairs, each as it is at one of the moments
  abbrev pub Meets : ℕ → ℕ → ℕ → ℕ → List (Moment K V) → ℕ → ℕ → Type 0
  Meets map turn len hash moments zero met = met ≡ 0
  Meets map turn len hash moments (suc try) met =
      OneOf (λ m. (before pairs : ℕ) × Meets map turn len hash moments try before × FindsTaken map (try_at turn len hash try) m pairs × (met ≡ before + pairs)) moments

  -- all tries of some hash meet so many
  abbrev pub IsFull : ℕ → TableThere → List (Moment K V) → ℕ → Type 0
  IsFull map t moments met = (hash : ℕ) × Meets map t.table.turn t.shape.len hash moments (suc t.shape.limit) met
