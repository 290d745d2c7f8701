-- What a step of a call on one key changes of its map.
use Rattle.std.specs.Prelude.{◌≡◌, ℕ, List, Option, Some}
use Rattle.run_shows.specs.Given.RunsDeclared.call.OneKey.{OneKey}
use Rattle.run_shows.specs.Given.RunsDeclared.call.OneKey.TheVariants.{Compute, RemoveIf}
use Rattle.run_shows.specs.Given.RunsDeclared.call.Reply.{Reply}
use Rattle.run_shows.specs.Given.RunsDeclared.call.Reply.TheVariants.{Decides}
use Rattle.run_shows.specs.Given.SchedulesViews.{reply_to}

-- a call of this kind takes such a reply: `remove_if` a yes or no, and `compute` what is not
abbrev pub IsTaken : {K V : Type 0} → OneKey K V → Reply V → Type 0
IsTaken (RemoveIf k) (Decides keeps) = Unit {0}
IsTaken (RemoveIf k) _ = ⊥
IsTaken (Compute k) (Decides keeps) = ⊥
IsTaken _ _ = Unit {0}

-- so it does the last reply to each question
abbrev pub AreTaken : {K V : Type 0} → OneKey K V → List (Option ℕ × Reply V) → Type 0
AreTaken {K} {V} one replies = (question : Option ℕ) (r : Reply V) → reply_to question replies ≡ Some r → IsTaken one r
