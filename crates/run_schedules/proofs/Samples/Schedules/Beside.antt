-- Calls beside one another: which runs of two callers are right, and which are wrong.
use Rattle.std.specs.Prelude.{codes, nat_eq}
use Rattle.std.proofs.Common.{◌≡◌, ◌≤◌, ℕ, false, List, [], ◌∷◌, inl, inr, refl, arith, Some}
use Rattle.seize_words.specs.declared.fault.Fault.TheVariants.{ZeroChunk, Busy, Memory}
use Rattle.papaya_raw.specs.Given.TablesDeclared.resize_mode.ResizeMode.TheVariants.{Incremental}
use Rattle.run_schedules.specs.declared.call.Call.TheVariants.{On}
use Rattle.run_schedules.specs.declared.call.OneKey.TheVariants.{Get, Insert, Remove, Compute}
use Rattle.run_schedules.specs.declared.call.Reply.TheVariants.{Gives}
use Rattle.run_schedules.specs.declared.call.Response.TheVariants as answer
use Rattle.run_schedules.specs.declared.event.Event.TheVariants.{Enter, DropGuard, MakeMap, EndMap, Begin, Step, Go, Replied, OneCall}
use Rattle.run_schedules.specs.declared.effect.Effect.{Effect}
use Rattle.run_schedules.specs.declared.effect.Effect.TheVariants.{Asked, PairMade, Promoted, Copied, Stored, Replaced, Removed, Counted, Deferred, Retired, Reclaimed}
use Rattle.run_schedules.specs.declared.effect.Growth.TheVariants.{ABlock}
use Rattle.run_schedules.specs.declared.effect.Thing.TheVariants.{APair}
use Rattle.run_schedules.specs.declared.outcome.Outcome.{Outcome}
use Rattle.run_schedules.specs.declared.outcome.Outcome.TheVariants.{Done, Goes, Asks, Waits, Answered, Refused}
use Rattle.run_schedules.specs.Schedules.Entry.{Entry}
use Rattle.run_schedules.specs.Schedules.InTurn.{HasRightOutcome}
use Rattle.run_schedules.specs.Schedules.Steps.{TakesSteps}
use Rattle.run_schedules.specs.Schedules.Waiting.{WaitsLawfully}
use Rattle.run_schedules.specs.Schedules.Linearizable.{IsLinearizable}
use Rattle.run_schedules.specs.Schedules.Handing.{MovesOn}
use Rattle.run_schedules.specs.Schedules.Reclaims.{IsProtected}
use Rattle.run_schedules.proofs.Samples.Schedules.Words.{no_yes, found, one_two, four_two, found_none, goes_busy, done_busy, behind_there, zero_next, nothing_below, nothing_between, small, entry, spot, table, shape, makes_pair, makes_table, call, drop_guard as drop_g}
use Rattle.run_schedules.proofs.Samples.Schedules.Filled.{made, put_there, one_two_tables as other_turn}
use Rattle.seize_words.proofs.General.{either, true_not_false as yes_no}

-- a map of two pairs; caller c asks about pair 1
abbrev filled : List (Entry ℕ ℕ)
filled = put_there 1 2 ∷ put_there 0 1 ∷ made

abbrev begin : Entry ℕ ℕ
begin = entry (Begin (codes "c") (codes "g") (codes "m") (On (Compute 0))) Goes 0 []

abbrev go : Outcome ℕ → List Effect → Entry ℕ ℕ
go outcome effects = entry (Go (codes "c") false) outcome 30 effects

abbrev asked : List (Entry ℕ ℕ)
asked = go (Asks (Some 1)) [] ∷ begin ∷ filled

-- meanwhile pair 3 comes in, and with it the next table, into which pair 1 is copied
abbrev put_three : Entry ℕ ℕ
put_three =
    call (On (Insert 8 10)) (Answered answer.Absent) 30
    (makes_pair (makes_table 1 (shape 16 15) (Copied 1 (spot 1 0) ∷ Stored 3 (spot 1 8) ∷ Counted 0 ∷ [])))

-- and c is told to store 99
abbrev told : List (Entry ℕ ℕ)
told = entry (Replied (codes "c") (Gives 99)) Goes 0 [] ∷ put_three ∷ asked

abbrev stores : List Effect → List Effect
stores effects = makes_pair (Copied 2 (spot 1 1) ∷ Replaced 1 ∷ Stored 4 (spot 1 0) ∷ effects)

abbrev updates : List Effect → Entry ℕ ℕ
updates effects = go (Answered (answer.Updated 1 4)) (stores effects)

abbrev updated : List (Entry ℕ ℕ)
updated = updates (Deferred 1 (table 0) ∷ []) ∷ told

-- what is wrong in making a map is told meanwhile, too
fault_meanwhile : HasRightOutcome small asked (entry (MakeMap (codes "z") (Incremental 0) 0) (Refused ZeroChunk) 0 [])
fault_meanwhile = refl

-- wrong: a call is refused since that of another caller is under way
busy_meanwhile : HasRightOutcome small asked (call (On (Insert 8 10)) (Refused Busy) 0 []) → ⊥
busy_meanwhile h = h

-- wrong: a guard that a call uses ends; a map ends on which a call is under way; a caller begins twice
drops_used : HasRightOutcome small asked (drop_g []) → ⊥
drops_used h = done_busy h

ends_called : HasRightOutcome small asked (entry (EndMap (codes "m")) Done 0 []) → ⊥
ends_called h = done_busy h

begins_twice : HasRightOutcome small asked begin → ⊥
begins_twice h = goes_busy h

-- c may wait while the resize is under way and another call, and not alone
waits_alone : WaitsLawfully nat_eq told (go Waits []) → ⊥
waits_alone h = no_yes h

abbrev beside : List (Entry ℕ ℕ)
beside = entry (Begin (codes "d") (codes "g") (codes "m") (On (Remove 3))) Goes 0 [] ∷ told

waits_beside : WaitsLawfully nat_eq beside (go Waits [])
waits_beside = refl

waits_for_lookup : WaitsLawfully nat_eq (entry (Begin (codes "d") (codes "g") (codes "m") (On (Get 3))) Goes 0 [] ∷ told) (go Waits []) → ⊥
waits_for_lookup h = no_yes h

-- and on one key only for the copying of its own pair: d, which is to remove what is not there, has none to wait for
waits_for_another : WaitsLawfully nat_eq (go Goes [] ∷ beside) (entry (Step (codes "d") false) Waits 0 []) → ⊥
waits_for_another h = no_yes h

-- wrong: the old pair is retired while the table that it was copied out of is the root, or put behind the one in which it lies
retires_at_once : MovesOn small told (updates (Retired (APair 1) ∷ [])) → ⊥
retires_at_once h = nothing_below (h.finds.1.1.1.1.1.0.1.1)

waits_behind_newest : MovesOn small told (updates (Deferred 1 (table 1) ∷ [])) → ⊥
waits_behind_newest h = other_turn (h.finds.1.1.1.1.1.0.1.1.1)

-- wrong: a pair that was never copied is put behind a table
defers_uncopied :
    MovesOn small told (entry (OneCall (codes "g") (codes "m") (On (Remove 8))) (Answered (answer.Found 3)) 9 (Removed 3 ∷ Deferred 3 (table 0)
    ∷ Counted 0 ∷ [])) → ⊥
defers_uncopied h = nothing_between (h.finds.1.0.1.1.2)

-- wrong: the root comes to the next table before all pairs do
passes_early : MovesOn small told (go Goes (Promoted (table 1) ∷ [])) → ⊥
passes_early h = no_yes (h.finds.0.1.3)

-- wrong: a pair is copied that has left, backwards, or to a place of no table
copies_left : MovesOn small updated (entry (OneCall (codes "g") (codes "m") (On (Remove 1))) Goes 9 (Copied 1 (spot 1 9) ∷ [])) → ⊥
copies_left h = behind_there (h.finds.0.1.0)

copies_nowhere : MovesOn small told (go Goes (Copied 2 (spot 1 16) ∷ [])) → ⊥
copies_nowhere h = no_yes (h.finds.0.1.3)

-- wrong: one place is taken by two pairs; a pair takes another place than the one that it replaces
one_place : MovesOn small told (entry (OneCall (codes "g") (codes "m") (On (Insert 9 10))) Goes 9 (makes_pair (Stored 4 (spot 1 0) ∷ []))) → ⊥
one_place h = yes_no (h.finds.1.1.0.1.4)

other_place : MovesOn small told (go (Answered (answer.Updated 1 4)) (makes_pair (Replaced 1 ∷ Stored 4 (spot 1 7) ∷ []))) → ⊥
other_place h = no_yes (h.finds.1.1.1.0.1.4)

-- wrong: the pair comes back as one of two guards ends that were open as it was replaced; and the end of one of two reclaims nothing
abbrev two_guards : List (Entry ℕ ℕ)
two_guards =
    call (On (Insert 0 20)) (Answered (answer.Found 1)) 9 (makes_pair (Replaced 1 ∷ Stored 3 (spot 0 0) ∷ Retired (APair 1) ∷ []))
    ∷ entry (Enter (codes "h") (codes "r")) Done 0 [] ∷ filled

back_too_early : IsProtected two_guards (drop_g (Reclaimed (APair 1) ∷ [])) → ⊥
back_too_early h = yes_no h

first_reclaims : MovesOn small two_guards (drop_g (Reclaimed (APair 1) ∷ [])) → ⊥
first_reclaims h = no_yes (h.may)

both_ended : IsProtected (drop_g [] ∷ two_guards) (entry (DropGuard (codes "h")) Done 0 (Reclaimed (APair 1) ∷ []))
both_ended = refl

-- a lookup that began before pair 1 was replaced may tell it or the new one
abbrev looks : List (Entry ℕ ℕ)
looks =
    call (On (Insert 0 99)) (Answered (answer.Found 1)) 20 (stores (Deferred 1 (table 0) ∷ []))
    ∷ put_three
    ∷ entry (Step (codes "c") false) Goes 1 []
    ∷ entry (Begin (codes "c") (codes "g") (codes "m") (On (Get 0))) Goes 0 []
    ∷ filled

tells_new : IsLinearizable nat_eq looks (go (Answered (answer.Found 4)) [])
tells_new = record { changes = inl refl; ends = inl refl; asks = tt }

tells_old : IsLinearizable nat_eq looks (go (Answered (answer.Found 1)) [])
tells_old = record { changes = inl refl; ends = inr (inl refl); asks = tt }

-- wrong: it tells a pair that the key had at no moment of the call, or none; or one that began later tells the old pair
tells_other : IsLinearizable nat_eq looks (go (Answered (answer.Found 2)) []) → ⊥
tells_other h = either four_two (either one_two (either one_two (either one_two (either one_two (λ e. e))))) h.ends

tells_none : IsLinearizable nat_eq looks (go (Answered answer.Absent) []) → ⊥
tells_none h = either (found_none 4) (either (found_none 1) (either (found_none 1) (either (found_none 1) (either (found_none 1) (λ e. e))))) h.ends

four_one : found 4 ≡ found 1 → ⊥
four_one h = cc

tells_too_old : IsLinearizable nat_eq looks (call (On (Get 0)) (Answered (answer.Found 1)) 5 []) → ⊥
tells_too_old h = either four_one (λ e. e) h.ends

-- it reads the root, and of each of the two tables the words up to the last try and what comes next
reads_few : TakesSteps looks (entry (Go (codes "c") false) (Answered (answer.Found 4)) 26 [])
reads_few = record { makes = omega arith; does = omega arith; brief = inl (omega arith) }

-- wrong: it reads more
too_many : 28 ≤ 27 → ⊥
too_many few = omega (arith, few)

reads_on : TakesSteps looks (entry (Go (codes "c") false) (Answered (answer.Found 4)) 27 []) → ⊥
reads_on h = either too_many (either too_many (either too_many (either too_many (either too_many (λ e. e))))) h.brief

-- wrong: it takes memory, is refused for want of it, or copies a pair
lookup_asks : MovesOn small looks (go Goes (Asked ABlock ∷ [])) → ⊥
lookup_asks h = yes_no (h.finds.0.0)

lookup_refused : HasRightOutcome small looks (go (Refused Memory) []) → ⊥
lookup_refused h = no_yes h

lookup_copies : MovesOn small looks (go Goes (Copied 2 (spot 1 2) ∷ [])) → ⊥
lookup_copies h = yes_no (h.finds.0.0)

-- wrong: one step does two things, or none
one_at_most : 2 ≤ 1 → ⊥
one_at_most few = omega (arith, few)

two_at_once : TakesSteps told (entry (Step (codes "c") false) Goes 1 (Asked ABlock ∷ PairMade ∷ Copied 2 (spot 1 1) ∷ [])) → ⊥
two_at_once h = one_at_most h.does

none_at_once : TakesSteps beside (entry (Step (codes "d") false) Goes 0 []) → ⊥
none_at_once h = zero_next 0 h.makes

-- nor does a call that goes on by many steps end by none, or a walk go on by none
none_made : 1 ≤ 0 → ⊥
none_made few = omega (arith, few)

none_in_all : TakesSteps looks (entry (Go (codes "c") false) (Answered (answer.Found 4)) 0 []) → ⊥
none_in_all h = none_made h.makes.0
