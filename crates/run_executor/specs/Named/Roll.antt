-- Callers that stand at places of a list, each under its name, and are shown the newest first.
use Rattle.std.specs.Prelude.{◌≡◌, ◌<◌, ℕ, ◌==◌, List, [], ◌∷◌, ◌++◌, length, position, slice_get, slice_index, Option, Some, None, if◌then◌else◌}
use Rattle.run_names.specs.Presence.Counts.{count_in}
use Rattle.run_names.specs.Presence.Crowd.{LeadsHome, StandsAt, kept, weigh}
use Rattle.run_names.specs.declared.counts.Counts.{Counts}
use Rattle.run_names.specs.declared.name_index.NameIndex.{NameIndex}
use Rattle.run_schedules.specs.Runs.Same.{is_same}
use Rattle.run_executor.specs.Named.Seen.{is_named}
use Rattle.run_executor.specs.declared.caller.NamedCaller.{NamedCaller}

-- those who are there, the last one first
abbrev pub newest : {T : Type 0} → List (Option T) → List T
newest [] = []
newest (None ∷ comers) = newest comers
newest (Some t ∷ comers) = newest comers ++ t ∷ []

-- nobody stands at this place of a list, or behind it
abbrev pub IsTrimmedAt : {T : Type 0} → ℕ → List (Option T) → Type 0
IsTrimmedAt {T} length comers = (place : ℕ) (t : T) → StandsAt comers place t → place < length

module _ {V : Type 0} where
  -- who stands at a place of a list, if it is told
  abbrev pub at_place : List (NamedCaller V) → Option ℕ → Option (NamedCaller V)
  at_place calls None = None
  at_place calls (Some place) = slice_get calls place

  -- the caller of this name
  abbrev pub called : List ℕ → List (NamedCaller V) → Option (NamedCaller V)
  called own calls = at_place calls (position (is_named own) calls)

  -- 1 for a call under this guard, and for one on this map
  abbrev pub is_under : List ℕ → NamedCaller V → ℕ
  is_under guard d = if is_same d.guard guard then 1 else 0

  abbrev pub is_on : ℕ → NamedCaller V → ℕ
  is_on map d = if d.map == map then 1 else 0

  abbrev pub name_of : NamedCaller V → List ℕ
  name_of d = d.name

  -- the name of each leads to its place; of each guard, and of each map, it is known how many calls use it
  pub record AreKept (comers : List (Option (NamedCaller V))) (places : NameIndex) (under : Counts) (on : List ℕ) (count : ℕ) : Type 0 where
    pub leads : LeadsHome name_of comers places
    pub under_so : (guard : List ℕ) → count_in guard under ≡ weigh (is_under guard) (kept comers)
    pub on_so : (map : ℕ) → slice_index on map ≡ weigh (is_on map) (kept comers)
    pub count_so : count ≡ length (kept comers)
