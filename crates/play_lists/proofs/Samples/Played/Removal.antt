-- A short list of acts, played: a pair is removed, waits for the section that is open, and is reclaimed as that ends, or by who reclaims all.
use Rattle.std.specs.Prelude.{◌++◌, replicate}
use Rattle.std.proofs.Common.{◌≡◌, ℕ, true, false, List, [], ◌∷◌, refl, Some, None}
use Rattle.seize.specs.World.{Leave'}
use Rattle.run_schedules.specs.declared.call.Response.TheVariants as answer
use Rattle.run_schedules.specs.declared.call.Call.TheVariants.{On}
use Rattle.run_schedules.specs.declared.call.OneKey.TheVariants as one
use Rattle.run_schedules.specs.declared.effect.Effect.TheVariants.{Counted, Removed, Retired, Reclaimed}
use Rattle.run_schedules.specs.declared.effect.Thing.TheVariants.{APair}
use Rattle.run_schedules.specs.declared.outcome.Outcome.TheVariants.{Done, Goes, Answered}
use Rattle.run_schedules.specs.Schedules.Moment.{Handed, GivenBack}
use Rattle.many_acts.specs.Acts.Acts.{Remove, BeginsCall, StepsCall, BeginsRow, StepsRow}
use Rattle.many_acts.specs.Acts.Doings.{BeginsReclaiming, StepsReclaiming}
use Rattle.run_schedules.specs.Deeds.Deeds.{Begins, Steps, Shuts, Leaves, ReclaimsAll, Entry, moment, named}
use Rattle.play_lists.proofs.Samples.Played.{Doings, does, entry, finds, found, history_of}

-- a step that has no effect
abbrev quiet : Entry ℕ ℕ
quiet = entry (Steps 0) Goes []

abbrev quiet_row : Entry ℕ ℕ
quiet_row = entry (Leaves 0) Goes []

abbrev quiet_all : Entry ℕ ℕ
quiet_all = entry (ReclaimsAll false) Goes []

-- Caller 0 removes its pair. Its batch is one block, which is pushed on the list of slot 0, as that is entered.
abbrev removes : Doings
removes = finds ++ does (BeginsCall 0 0 (Remove 5)) ∷ replicate 21 (does (StepsCall 0 0 None))

abbrev removed : List (Entry ℕ ℕ)
removed =
    entry (Steps 0) (Answered (answer.Found 1)) []
    ∷ replicate 12 quiet
    ++ entry (Steps 0) Goes (Retired (APair 1) ∷ [])
    ∷ replicate 3 quiet
    ++ entry (Steps 0) Goes (Counted 0 ∷ [])
    ∷ entry (Steps 0) Goes (Removed 1 ∷ [])
    ∷ quiet
    ∷ quiet
    ∷ entry (Begins 0 0 0 (On (one.Remove 5))) Goes []
    ∷ found

removing_is : history_of removes ≡ Some removed
unfolding lib.Count.count_leading_zeros
removing_is = refl

-- It leaves, and counts the list down: the pair is reclaimed.
abbrev leaves : Doings
leaves = removes ++ does (BeginsRow 0 (Leave' 0)) ∷ replicate 8 (does (StepsRow 0 None))

abbrev left : List (Entry ℕ ℕ)
left =
    entry (Leaves 0) Done []
    ∷ quiet_row
    ∷ entry (Leaves 0) Goes (Reclaimed (APair 1) ∷ [])
    ∷ replicate 4 quiet_row
    ++ entry (Shuts 0) Goes []
    ∷ removed

leaving_is : history_of leaves ≡ Some left
unfolding lib.Count.count_leading_zeros
leaving_is = refl

-- Or the guard is forgotten, and somebody reclaims all.
abbrev reclaims : Doings
reclaims = removes ++ BeginsReclaiming 0 ∷ replicate 14 (StepsReclaiming None)

abbrev reclaimed : List (Entry ℕ ℕ)
reclaimed =
    entry (ReclaimsAll true) Done []
    ∷ replicate 6 quiet_all
    ++ entry (ReclaimsAll false) Goes (Reclaimed (APair 1) ∷ [])
    ∷ replicate 6 quiet_all
    ++ removed

reclaiming_is : history_of reclaims ≡ Some reclaimed
unfolding lib.Count.count_leading_zeros
reclaiming_is = refl

-- In the section it left its map, and is handed over; in the end it is back.
handed : (moment removed).place 1 ≡ Handed
handed = refl

sheltered : (moment removed).sheltered ≡ record { guard = named 0; thing = APair 1 } ∷ []
sheltered = refl

given_back : (moment left).place 1 ≡ GivenBack
given_back = refl

none_sheltered : (moment left).sheltered ≡ []
none_sheltered = refl

all_back : (moment reclaimed).place 1 ≡ GivenBack
all_back = refl
