-- What the definitions of questions, and of calls on no key, refuse.
use Rattle.std.specs.Prelude.{◌≡◌, ℕ, true, false, [], ◌∷◌, Some, None}
use Rattle.std.proofs.Common.{refl, arith}
use Rattle.run_places.specs.Given.SeizeWordsDeclared.fault.Fault.TheVariants.{Busy}
use Rattle.run_places.specs.Given.ReservesDeclared.sweep.Purpose.TheVariants.{Clears}
use Rattle.run_places.specs.Given.RawDeclared.machines.progress.Progress.TheVariants as progress
use Rattle.run_places.specs.Given.RunsDeclared.call.Response.TheVariants as answer
use Rattle.run_places.specs.Given.RunsDeclared.call.Call.TheVariants.{Len, Walk}
use Rattle.run_places.specs.Given.RunsDeclared.call.Reply.TheVariants.{Decides}
use Rattle.run_places.specs.Given.RunsDeclared.outcome.Outcome.TheVariants as outcome
use Rattle.run_places.specs.Given.SchedulesBeginning.{fresh_call}
use Rattle.run_places.specs.Given.SchedulesMoment.{Asking, Told, UnderWay as CallThere}
use Rattle.run_places.specs.Given.CallersOverAll.{CallOverAll, verdict}
use Rattle.run_places.specs.Given.CallersTogether.{OverAll}
use Rattle.run_places.specs.Given.EffectsKnown.{Known}
use Rattle.run_histories.specs.Histories.AsCalled.{IsLastReply, IsBegunAs}
use Rattle.run_histories.specs.Histories.Asking.{IsQuestionAsked}
use Rattle.run_histories.specs.Histories.OtherCalls.{IsIdle}
use Rattle.run_histories.specs.Histories.OtherMidsts.{AsksAsSaid}
use Rattle.run_histories.specs.Histories.Questions.{AsksStill, HasAskedJust}

-- a call that has asked about none, and about pair 3, to which it got a reply
abbrev asked_two : CallThere ℕ ℕ
asked_two = record (fresh_call [] [] Len 0 0) { stands = Asking None; asked = None ∷ Some 3 ∷ []; replies = (Some 3, Decides false) ∷ [] }

has_asked_two : HasAskedJust asked_two
has_asked_two = refl

-- one that has asked about none twice, and got no reply
asks_twice : HasAskedJust (record asked_two { asked = None ∷ None ∷ Some 3 ∷ [] }) → ⊥
asks_twice e = cc e

-- one that has got its reply, which is not noted
asks_no_more : HasAskedJust (record asked_two { stands = Told }) → ⊥
asks_no_more e = cc e

-- one that asks does not wait, and may ask again
asks_and_waits : AsksStill {V = ℕ} (Asking None) outcome.Waits → ⊥
asks_and_waits still = still tt

asks_on : AsksStill {V = ℕ} (Asking None) (outcome.Asks None)
asks_on never = never

-- a question about none is told as no other one
told_of_a_pair : (known : Known) → IsQuestionAsked known None (Some 3) → ⊥
told_of_a_pair known told = told

-- a sweep that clears is no walk
clears_as_a_walk : (o : CallOverAll) → o.sweep.purpose ≡ Clears → IsBegunAs {K = ℕ} {V = ℕ} (OverAll o) Walk → ⊥
clears_as_a_walk o clears begun = let walks = begun.0 in cc (clears, walks)

-- a call that was told to keep pair 3 was told nothing else of it last
keeps_three : IsLastReply (λ n. n) 4 {V = ℕ} (verdict 3 true) ((Some 3, Decides true) ∷ []) × (IsLastReply (λ n. n) 4 {V = ℕ} (verdict 3 false) ((Some 3, Decides true) ∷ []) → ⊥)
keeps_three = ((omega arith, refl), λ last. let no = last.1 in cc no)

-- nor was it told of a pair that was never stored
keeps_a_later_one : IsLastReply (λ n. n) 3 {V = ℕ} (verdict 3 true) ((Some 3, Decides true) ∷ []) → ⊥
keeps_a_later_one last = let l = last.0 in omega (arith, l)

-- a call that has answered is not idle, and one out of turn is
answers_idly : IsIdle {V = ℕ} (outcome.Answered answer.Absent) → ⊥
answers_idly idle = idle

waits_its_turn : IsIdle {V = ℕ} (outcome.Refused Busy)
waits_its_turn = tt

-- what a step says that it asks is no going on
asks_and_goes : (known : Known) → AsksAsSaid {K = ℕ} {V = ℕ} known (progress.Asks (Some 0)) outcome.Goes → ⊥
asks_and_goes known as_said = as_said
