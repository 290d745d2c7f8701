-- An event that is one step of a call on one key, and what it comes to.
use Rattle.std.specs.Prelude.{◌≡◌, ℕ, List, Option, ◌⊎◌}
use Rattle.run_places.specs.Given.TablesDeclared.node.Node.{Node}
use Rattle.run_places.specs.Given.RawDeclared.machines.progress.Answer.TheVariants.{Key}
use Rattle.run_places.specs.Given.RawDeclared.machines.progress.Progress.{Progress}
use Rattle.run_places.specs.Given.RawDeclared.machines.progress.Progress.TheVariants as progress
use Rattle.run_places.specs.Given.RunsDeclared.call.OneKey.{OneKey}
use Rattle.run_places.specs.Given.RunsDeclared.call.Reply.{Reply}
use Rattle.run_places.specs.Given.RunsDeclared.outcome.Outcome.{Outcome}
use Rattle.run_places.specs.Given.RunsDeclared.outcome.Outcome.TheVariants as outcome
use Rattle.run_places.specs.Given.EffectsKnown.{Known}
use Rattle.run_histories.specs.Histories.Answers.{IsAnsweredAs, IsAnsweredDone}
use Rattle.run_histories.specs.Histories.Asking.{IsQuestionAsked}

-- What such a step comes to: it goes on or waits, asks, is refused, or has answered; and what is asked or answered is told by numbers of pairs.
abbrev pub HasOutcome : {K V : Type 0} → Known → OneKey K V → List (Option ℕ × Reply V) → Progress (Node K V) → Outcome V → Type 0
HasOutcome known one replies (progress.Done (Key answer)) (outcome.Answered a) = IsAnsweredAs known one replies answer a ⊎ IsAnsweredDone known one replies answer a
HasOutcome known one replies (progress.Asks about) (outcome.Asks question) = IsQuestionAsked known about question
HasOutcome known one replies progress.Goes outcome.Goes = Unit {0}
HasOutcome known one replies progress.Waits outcome.Waits = Unit {0}
HasOutcome known one replies (progress.Gave value) outcome.Goes = Unit {0}
HasOutcome known one replies (progress.Unstored value) outcome.Goes = Unit {0}
HasOutcome known one replies (progress.Refused fault) (outcome.Refused other) = other ≡ fault
HasOutcome known one replies _ _ = ⊥
