-- A short list of acts, played: a map is made with a table, a slot is taken and entered, and a pair is stored and found. The history is written by hand. And lists that can't be played.
mod Removal
mod Ending
use Rattle.std.specs.Prelude.{nat_eq, ◌++◌, option_map}
use Rattle.std.proofs.Common.{◌≡◌, ℕ, true, false, List, [], ◌∷◌, refl, Option, Some, None}
use Rattle.seize.specs.World.{Register'}
use Rattle.map_tables.specs.declared.resize_mode.ResizeMode.TheVariants as mode
use Rattle.map_tables.specs.declared.setting.Setting.{Setting}
use Rattle.run_schedules.specs.declared.call.Response.TheVariants as answer
use Rattle.run_schedules.specs.declared.call.Call.TheVariants.{On}
use Rattle.run_schedules.specs.declared.call.OneKey.TheVariants as one
use Rattle.run_schedules.specs.declared.effect.Effect.{Effect}
use Rattle.run_schedules.specs.declared.effect.Effect.TheVariants.{Asked, PairMade, TableMade, Linked, Stored, Counted}
use Rattle.run_schedules.specs.declared.effect.Growth.TheVariants.{ABlock, ABucket}
use Rattle.run_schedules.specs.declared.effect.Spot.{Spot}
use Rattle.run_schedules.specs.declared.effect.TableId.{TableId}
use Rattle.run_schedules.specs.declared.outcome.Outcome.{Outcome}
use Rattle.run_schedules.specs.declared.outcome.Outcome.TheVariants.{Done, Goes, Slot, Answered}
use Rattle.many_acts.specs.Acts.Acts.{Act, Get, Insert, BeginsCall, StepsCall, BeginsMaking, StepsMaking, BeginsRow, StepsRow}
use Rattle.many_acts.specs.Acts.Doings.{Doing, Does}
use Rattle.run_schedules.specs.Deeds.Deeds.{Deed, Begins, Steps, Registers, Opens, MapComes, Makes, Entry}
use Rattle.play_lists.specs.Played.Play.{State, first_state, pairs_for, play_all}

abbrev pub Doings : Type 0
Doings = List (Doing ℕ ℕ ℕ)

-- maps with numbers as keys, which are their own hashes; batches of one block, and one root
abbrev pub plays : Doings → Option (State ℕ ℕ ℕ)
plays doings = play_all nat_eq (λ hasher key. key) 1 1 (λ n. 0) doings (first_state 1)

abbrev pub history_of : Doings → Option (List (Entry ℕ ℕ))
history_of doings = option_map (λ s. s.history) (plays doings)

abbrev pub entry : Deed ℕ ℕ → Outcome ℕ → List Effect → Entry ℕ ℕ
entry deed outcome effects = record { deed = deed; outcome = outcome; effects = effects; refused = false }

abbrev pub does : Act ℕ ℕ ℕ → Doing ℕ ℕ ℕ
does act = Does act

-- a map begins with eight places, so for six pairs
eight_places : pairs_for 8 ≡ 6
eight_places = refl

abbrev pub given : Setting
given = record { slot = 0; batch_size = 1; root = 0; mode = mode.Incremental 64; counter = 0; mask = 0; initial = 8 }

abbrev pub first : TableId
first = record { map = 0; turn = 0 }

abbrev at : ℕ → Spot
at place = record { turn = 0; place = place }

-- Caller 0 makes the map: its counter is the block 1, and its table the block 2.
abbrev makes : Doings
makes = does (BeginsMaking 0 0 7 given 8) ∷ does (StepsMaking 0 None) ∷ does (StepsMaking 0 (Some 1)) ∷ does (StepsMaking 0 (Some 2)) ∷ does (StepsMaking 0 None) ∷ does (StepsMaking 0 None) ∷ []

abbrev made : List (Entry ℕ ℕ)
made =
    entry (Makes 0) Done (Linked first (record { len = 8; limit = 7 }) ∷ [])
    ∷ entry (Makes 0) Goes []
    ∷ entry (Makes 0) Goes (Asked ABlock ∷ TableMade first ∷ [])
    ∷ entry (Makes 0) Goes (Asked ABlock ∷ [])
    ∷ entry (MapComes 0 0 (mode.Incremental 64) 6) Goes []
    ∷ []

making_is : history_of makes ≡ Some made
unfolding lib.Count.count_leading_zeros
making_is = refl

-- It takes slot 0, and enters it.
abbrev enters : Doings
enters = makes ++ does (BeginsRow 0 (Register' true)) ∷ does (StepsRow 0 (Some 0)) ∷ does (StepsRow 0 None) ∷ does (StepsRow 0 None) ∷ does (StepsRow 0 None) ∷ []

abbrev entered : List (Entry ℕ ℕ)
entered =
    entry (Opens 0) (Slot 0) []
    ∷ entry (Registers 0) Goes []
    ∷ entry (Registers 0) Goes []
    ∷ entry (Registers 0) Goes (Asked ABucket ∷ [])
    ∷ made

entering_is : history_of enters ≡ Some entered
unfolding lib.Count.count_leading_zeros
entering_is = refl

-- It stores the value 50 with the key 5, in the block 3.
abbrev stores : Doings
stores =
    enters ++ does (BeginsCall 0 0 (Insert 5 50)) ∷ does (StepsCall 0 0 (Some 3)) ∷ does (StepsCall 0 0 None) ∷ does (StepsCall 0 0 None) ∷ does (StepsCall 0 0 None) ∷ does (StepsCall 0 0 None) ∷ []

abbrev stored : List (Entry ℕ ℕ)
stored =
    entry (Steps 0) (Answered answer.Absent) (Counted 0 ∷ [])
    ∷ entry (Steps 0) Goes (Stored 1 (at 5) ∷ [])
    ∷ entry (Steps 0) Goes []
    ∷ entry (Steps 0) Goes []
    ∷ entry (Steps 0) Goes (Asked ABlock ∷ PairMade ∷ [])
    ∷ entry (Begins 0 0 0 (On (one.Insert 5 50))) Goes []
    ∷ entered

storing_is : history_of stores ≡ Some stored
unfolding lib.Count.count_leading_zeros
storing_is = refl

-- It finds it.
abbrev pub finds : Doings
finds = stores ++ does (BeginsCall 0 0 (Get 5)) ∷ does (StepsCall 0 0 None) ∷ does (StepsCall 0 0 None) ∷ []

abbrev pub found : List (Entry ℕ ℕ)
found = entry (Steps 0) (Answered (answer.Found 1)) [] ∷ entry (Steps 0) Goes [] ∷ entry (Begins 0 0 0 (On (one.Get 5))) Goes [] ∷ stored

finding_is : history_of finds ≡ Some found
unfolding lib.Count.count_leading_zeros
finding_is = refl

-- Wrong: a block that is no block's number, a step of nothing, and a call on a map that is not there yet.
no_block : plays (does (BeginsMaking 0 0 7 given 8) ∷ does (StepsMaking 0 None) ∷ does (StepsMaking 0 (Some 0)) ∷ []) ≡ None
no_block = refl

no_step : plays (does (StepsCall 0 0 None) ∷ []) ≡ None
no_step = refl

no_map : plays (does (BeginsMaking 0 0 7 given 8) ∷ does (BeginsCall 0 0 (Get 5)) ∷ []) ≡ None
no_map = refl
