-- What is promised of the kinds of effects of an event of a call: they are such as its events may have, over several steps, too.
use Rattle.std.specs.Prelude.{◌≡◌, Bool, true, false, List, ◌++◌}
use Rattle.std.specs.List.{list_all}
use Rattle.run_executor.specs.Given.RunsDeclared.effect.Effect.{Effect}
use Rattle.run_executor.specs.Given.RunsDeclared.event.Event.{Event}
use Rattle.run_executor.specs.Given.RunsDeclared.event.Event.TheVariants.{Step, Go, OneCall}
use Rattle.run_executor.specs.Given.SchedulesHanding.{is_call_effect, may_do}
use Rattle.run_executor.specs.Given.SchedulesMoment.{Moment}

-- an event in which a call makes steps
abbrev pub takes_steps : {K V : Type 0} → Event K V → Bool
takes_steps (Step caller refuse) = true
takes_steps (Go caller refuse) = true
takes_steps (OneCall guard map call) = true
takes_steps _ = false

-- The promises: effects of several steps are a call's, if those before are and those of the last step,
abbrev pub SeveralDoTheirs : Type 0
SeveralDoTheirs = (done effects : List Effect) → list_all is_call_effect done ≡ true → list_all is_call_effect effects ≡ true → list_all is_call_effect (done ++ effects) ≡ true

-- and such an event may have them.
abbrev pub EventsMayDo : Type 0 → Type 0 → Type 0
EventsMayDo K V = (event : Event K V) (m : Moment K V) (effects : List Effect) → takes_steps event ≡ true → list_all is_call_effect effects ≡ true → list_all (may_do event m) effects ≡ true
