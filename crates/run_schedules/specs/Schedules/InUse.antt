-- Which slots are in use, and who may hold what at a moment.
use Rattle.std.specs.Prelude.{ℕ, ◌==◌, Bool, not, ◌&&◌, ◌||◌, List, ◌++◌, map}
use Rattle.std.specs.List.{list_any}
use Rattle.run_schedules.specs.Runs.Present.{Present, slot_of_guard, all_forgotten}
use Rattle.run_schedules.specs.Runs.Same.{is_same}
use Rattle.run_schedules.specs.Schedules.Lists.{is_empty}
use Rattle.run_schedules.specs.Schedules.Moment.{UnderWay, Moment}

-- the slots that are in use: of registrations, and of guards, forgotten ones too
abbrev pub used_slots : Present → List ℕ
used_slots there = map (λ r. r.slot) there.registrations ++ map (λ g. g.slot) there.guards

abbrev pub is_registered : List ℕ → Present → Bool
is_registered name there = list_any (λ r. is_same r.name name) there.registrations

abbrev pub is_guard : List ℕ → Present → Bool
is_guard name there = list_any (λ g. is_same g.name name) there.guards

-- the guard of this name is there, and was not forgotten
abbrev pub is_living : List ℕ → Present → Bool
is_living name there = list_any (λ g. is_same g.name name && not g.forgotten) there.guards

module _ {K V : Type 0} where
  -- no call under way uses the guard, which lives
  abbrev pub is_free_guard : List ℕ → Moment K V → Bool
  is_free_guard guard m = is_living guard m.there && not (list_any (λ c. is_same c.guard guard) m.calls)

  -- nobody is there but guards that were forgotten
  abbrev pub is_left : Moment K V → Bool
  is_left m = is_empty m.there.registrations && all_forgotten m.there.guards && is_empty m.calls

  -- a call hands something over, and may hold the batch of its slot
  abbrev pub is_handing : UnderWay K V → Bool
  is_handing c = not (is_empty c.owes) || c.has_handed

  abbrev pub is_held : ℕ → Moment K V → Bool
  is_held slot m = list_any (λ c. is_handing c && (slot_of_guard c.guard m.there == slot)) m.calls
