-- A short list of acts, played: a map ends with its pair; one is refused as it is made, and one is made without a table.
use Rattle.std.specs.Prelude.{◌++◌, replicate}
use Rattle.std.proofs.Common.{◌≡◌, ℕ, true, List, [], ◌∷◌, refl, Some, None}
use Rattle.run_schedules.specs.Given.SeizeWordsDeclared.fault.Fault.TheVariants.{Memory}
use Rattle.seize.specs.World.{Leave'}
use Rattle.map_tables.specs.declared.resize_mode.ResizeMode.TheVariants as mode
use Rattle.map_tables.specs.declared.setting.Setting.{Setting}
use Rattle.run_schedules.specs.declared.effect.Effect.TheVariants.{Asked, Ended, Taken}
use Rattle.run_schedules.specs.declared.effect.Growth.TheVariants.{ABlock}
use Rattle.run_schedules.specs.declared.outcome.Outcome.TheVariants.{Done, Goes, Refused}
use Rattle.run_schedules.specs.Schedules.Views.{size_of, tables_of}
use Rattle.many_acts.specs.Acts.Acts.{BeginsMaking, StepsMaking, BeginsEnding, StepsEnding, BeginsRow, StepsRow}
use Rattle.run_schedules.specs.Deeds.Deeds.{Shuts, Leaves, MapComes, Makes, MapFails, Ends, MapGoes, Entry, moment}
use Rattle.play_lists.proofs.Samples.Played.{Doings, does, entry, finds, first, found, given, history_of}

-- a step that has no effect
abbrev quiet : Entry ℕ ℕ
quiet = entry (Ends 0) Goes []

-- Caller 0 leaves, and ends the map: its eight places are read, of which one has the pair, then the table and the counter go, and the root is given up.
abbrev ends : Doings
ends = finds ++ does (BeginsRow 0 (Leave' 0)) ∷ does (StepsRow 0 None) ∷ does (StepsRow 0 None) ∷ does (BeginsEnding 0 0) ∷ replicate 17 (does (StepsEnding 0 None))

abbrev ended : List (Entry ℕ ℕ)
ended =
    entry (MapGoes 0) Done []
    ∷ quiet
    ∷ quiet
    ∷ entry (Ends 0) Goes (Taken first ∷ [])
    ∷ replicate 5 quiet
    ++ entry (Ends 0) Goes (Ended 1 ∷ [])
    ∷ replicate 7 quiet
    ++ entry (Leaves 0) Done []
    ∷ entry (Shuts 0) Goes []
    ∷ found

ending_is : history_of ends ≡ Some ended
unfolding lib.Count.count_leading_zeros
ending_is = refl

-- the map had its pair, and then none, and is there no more
had_one : size_of 0 (moment found) ≡ 1
had_one = refl

has_none : size_of 0 (moment ended) ≡ 0
has_none = refl

is_gone : (moment ended).maps ≡ []
is_gone = refl

-- A counter is refused to a map that is made: the root is given up.
abbrev is_refused : Doings
is_refused = does (BeginsMaking 0 0 7 given 8) ∷ replicate 3 (does (StepsMaking 0 None))

abbrev refused : List (Entry ℕ ℕ)
refused =
    entry (MapFails 0) (Refused Memory) []
    ∷ record { deed = Makes 0; outcome = Goes; effects = Asked ABlock ∷ []; refused = true }
    ∷ entry (MapComes 0 0 (mode.Incremental 64) 6) Goes []
    ∷ []

refusal_is : history_of is_refused ≡ Some refused
refusal_is = refl

-- A map that begins without a table is made for no pairs.
abbrev bare : Setting
bare = record given { initial = 1 }

abbrev makes_bare : Doings
makes_bare = does (BeginsMaking 0 0 7 bare 0) ∷ does (StepsMaking 0 None) ∷ does (StepsMaking 0 (Some 1)) ∷ []

abbrev made_bare : List (Entry ℕ ℕ)
made_bare = entry (Makes 0) Done (Asked ABlock ∷ []) ∷ entry (MapComes 0 0 (mode.Incremental 64) 0) Goes [] ∷ []

making_bare_is : history_of makes_bare ≡ Some made_bare
making_bare_is = refl

has_no_table : tables_of 0 (moment made_bare) ≡ []
has_no_table = refl
