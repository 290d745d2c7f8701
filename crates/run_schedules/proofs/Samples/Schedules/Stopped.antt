-- Calls that are stopped in their midst: one on a key may have changed its map once, a sweep many times, and either says so. And wrong runs.
use Rattle.std.specs.Prelude.{codes, nat_eq}
use Rattle.std.proofs.Common.{◌≡◌, ℕ, false, List, [], ◌∷◌, inl, inr, refl, arith, Some}
use Rattle.seize_words.specs.declared.fault.Fault.TheVariants.{Busy, Memory}
use Rattle.run_schedules.specs.declared.call.Call.TheVariants.{On, Clear}
use Rattle.run_schedules.specs.declared.call.OneKey.TheVariants.{Get, Insert}
use Rattle.run_schedules.specs.declared.call.Response.TheVariants as answer
use Rattle.run_schedules.specs.declared.event.Event.TheVariants.{DropGuard, Enter, Go, OneCall}
use Rattle.run_schedules.specs.declared.effect.Effect.{Effect}
use Rattle.run_schedules.specs.declared.effect.Effect.TheVariants.{Asked, PairMade, Stored, Replaced, Removed, Counted, Retired}
use Rattle.run_schedules.specs.declared.effect.Growth.TheVariants.{ABlock}
use Rattle.run_schedules.specs.declared.effect.Thing.TheVariants.{APair}
use Rattle.run_schedules.specs.declared.outcome.Outcome.{Outcome}
use Rattle.run_schedules.specs.declared.outcome.Outcome.TheVariants.{Done, Goes, Answered, Refused}
use Rattle.run_schedules.specs.declared.record.Run.{Run}
use Rattle.run_schedules.specs.Schedules.Sequential.{Answers, Puts, GivesWay, ComesIn}
use Rattle.run_schedules.specs.Schedules.Entry.{Entry}
use Rattle.run_schedules.specs.Schedules.After.{moment}
use Rattle.run_schedules.specs.Schedules.InTurn.{HasRightOutcome}
use Rattle.run_schedules.specs.Schedules.Steps.{TakesSteps}
use Rattle.run_schedules.specs.Schedules.Linearizable.{IsLinearizable}
use Rattle.run_schedules.specs.Schedules.Handing.{MovesOn}
use Rattle.run_schedules.specs.Schedules.Runs.{ReportsEnd}
use Rattle.run_schedules.proofs.Samples.Schedules.Words.{one_two, owes_one, owes_still, puts_leaves, absent_found, done_busy, answered_busy, one_shift, some_thing, small, entry, spot, makes_pair, call, inserted}
use Rattle.seize_words.proofs.General.{either}

-- a call is stopped right after the step in which it stored pair 2 in the place of pair 1
abbrev stop : List Effect → Entry ℕ ℕ
stop effects = call (On (Insert 1 20)) Goes 1000000 effects

abbrev changes : List Effect
changes = makes_pair (Replaced 1 ∷ Stored 2 (spot 0 1) ∷ [])

abbrev stopped : List (Entry ℕ ℕ)
stopped = stop changes ∷ inserted

stop_is_right : HasRightOutcome small inserted (stop changes)
stop_is_right = tt

stop_is_legal : IsLinearizable nat_eq inserted (stop changes)
stop_is_legal = record { changes = inr (refl, answer.Found 1, Puts 20, refl, refl); ends = tt; asks = tt }

-- it made all the steps that one event may make; wrong: it was stopped after fewer
stop_takes_all : TakesSteps inserted (stop changes)
stop_takes_all = record { makes = (omega arith, refl); does = omega arith; brief = tt }

too_few : ◌≡◌ {A = ℕ} 999 1000000 → ⊥
too_few all = omega (arith, all)

stop_too_early : TakesSteps inserted (call (On (Insert 1 20)) Goes 999 changes) → ⊥
stop_too_early h = too_few h.makes.1

-- it goes on, hands over the old pair, and answers what it owes
abbrev go_on : Outcome ℕ → List Effect → Entry ℕ ℕ
go_on outcome effects = entry (Go (codes "-") false) outcome 3 effects

go_on_is_legal : IsLinearizable nat_eq stopped (go_on (Answered (answer.Found 1)) (Retired (APair 1) ∷ []))
go_on_is_legal = record { changes = inl refl; ends = refl; asks = tt }

go_on_moves : MovesOn small stopped (go_on (Answered (answer.Found 1)) (Retired (APair 1) ∷ []))
go_on_moves =
    record {
      finds = ((refl, (refl, tt)), tt);
      may = refl;
      granted = refl;
      refuses = refl;
      whole = tt;
      leaves = (record { owes = refl; block = refl; table = refl; counted = refl }, refl);
    }

-- wrong: it answers another thing, stores again, is refused, or forgets the old pair
answers_else : IsLinearizable nat_eq stopped (go_on (Answered answer.Absent) (Retired (APair 1) ∷ [])) → ⊥
answers_else h = absent_found 1 (h.ends)

refused_after : IsLinearizable nat_eq stopped (go_on (Refused Memory) []) → ⊥
refused_after h = owes_one (answer.Found 1) (h.ends)

stores_again : IsLinearizable nat_eq stopped (go_on (Answered (answer.Found 1)) (makes_pair (Replaced 2 ∷ Stored 3 (spot 0 1) ∷ []))) → ⊥
stores_again h = either (one_shift (GivesWay 2) (ComesIn 3 ∷ [])) (owes_still (answer.Found 1) (Answers (answer.Found 2) (Puts 20)) (Some 2) 3 (GivesWay 2 ∷ ComesIn 3 ∷ [])) h.changes

forgets_old : MovesOn small stopped (go_on (Answered (answer.Found 1)) []) → ⊥
forgets_old h = some_thing (APair 1) [] (h.leaves.0.owes)

-- wrong: it hides its change. Then it has no answer, lookups do not see the pair, and the end of the run cannot tell it.
abbrev hidden : List (Entry ℕ ℕ)
hidden = stop [] ∷ inserted

hidden_answers : IsLinearizable nat_eq hidden (go_on (Answered (answer.Found 1)) []) → ⊥
hidden_answers h = either (puts_leaves (answer.Found 1) 20) (either (puts_leaves (answer.Found 1) 20) (λ e. e)) h.ends

hidden_seen : IsLinearizable nat_eq hidden (entry (OneCall (codes "g") (codes "m") (On (Get 1))) (Answered (answer.Found 2)) 3 []) → ⊥
hidden_seen h = either one_two (λ e. e) h.ends

not_both : (n : ℕ) → n ≡ 2 → n ≡ 1 → ⊥
not_both n two one = omega (arith, two, one)

hidden_stored : (run : Run ℕ ℕ) → run.stored ≡ 2 → ReportsEnd (moment hidden) run → ⊥
hidden_stored run two tells = not_both run.stored two tells.stored

-- one that is stopped before its exchange has changed nothing, and may change it later
stop_before : IsLinearizable nat_eq inserted (stop (Asked ABlock ∷ PairMade ∷ []))
stop_before = record { changes = inl refl; ends = tt; asks = tt }

go_on_to_change :
    IsLinearizable nat_eq (stop (Asked ABlock ∷ PairMade ∷ []) ∷ inserted) (go_on (Answered (answer.Found 1)) (Replaced 1 ∷ Stored 2 (spot 0 1)
    ∷ Retired (APair 1) ∷ []))
go_on_to_change = record { changes = inr (refl, answer.Found 1, Puts 20, refl, refl); ends = refl; asks = tt }

-- a sweep that is stopped has removed as many pairs as it says, and goes on
abbrev two : List (Entry ℕ ℕ)
two = call (On (Insert 2 20)) (Answered answer.Absent) 9 (makes_pair (Stored 2 (spot 0 2) ∷ Counted 0 ∷ [])) ∷ inserted

abbrev clear : Outcome ℕ → List Effect → Entry ℕ ℕ
clear outcome effects = call Clear outcome 1000000 effects

clear_stops : IsLinearizable nat_eq two (clear Goes (Removed 1 ∷ Retired (APair 1) ∷ Removed 2 ∷ []))
clear_stops = record { changes = (tt, (tt, tt)); ends = tt; asks = tt }

clear_goes_on :
    MovesOn small (clear Goes (Removed 1 ∷ Retired (APair 1) ∷ Removed 2 ∷ []) ∷ two) (go_on (Answered answer.Completed) (Retired (APair 2) ∷ Counted 0 ∷ []))
clear_goes_on =
    record {
      finds = ((refl, (refl, tt)), ((refl, (omega arith, refl)), tt));
      may = refl;
      granted = refl;
      refuses = refl;
      whole = tt;
      leaves = (record { owes = refl; block = refl; table = refl; counted = refl }, refl);
    }

-- its caller can't begin another call till it has ended
looks_out_of_turn : HasRightOutcome small stopped (call (On (Get 1)) (Refused Busy) 0 [])
looks_out_of_turn = refl

looks_in_turn : HasRightOutcome small stopped (call (On (Get 1)) (Answered (answer.Found 2)) 3 []) → ⊥
looks_in_turn h = answered_busy (answer.Found 2) h

-- and others go on, but the end of the guard that it uses
enters_on : HasRightOutcome small stopped (entry (Enter (codes "h") (codes "r")) Done 0 [])
enters_on = refl

drops_used : HasRightOutcome small stopped (entry (DropGuard (codes "g")) Done 0 []) → ⊥
drops_used h = done_busy h
