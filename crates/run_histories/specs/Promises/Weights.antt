-- What is promised of the number of steps: each does one thing at most, so an event does no more things than it makes steps; and what it makes it has asked for.
use Rattle.std.specs.Prelude.{◌≡◌, ℕ, ◌+◌, ◌≤◌, true, false, List, ◌++◌, sum_by}
use Rattle.run_places.specs.Given.RunsDeclared.effect.Effect.{Effect}
use Rattle.run_places.specs.Given.SchedulesHanding.{is_granted}
use Rattle.run_places.specs.Given.SchedulesSteps.{weight}
use Rattle.run_places.specs.Given.EffectsDeclared.changed.Changed.{Changed}
use Rattle.run_places.specs.Given.EffectsEffects.{effects_of}
use Rattle.run_places.specs.Given.EffectsKnown.{Known}
use Rattle.run_places.specs.Given.EffectsDeclared.acting.Acting.{Acting}

-- these effects are done by so many steps
abbrev pub AreDoneBy : ℕ → List Effect → Type 0
AreDoneBy steps effects = sum_by weight effects ≤ steps

-- The promises: an operation, whoever makes it, does one thing at most, and what it makes it has asked for;
abbrev pub OperationsAreSingle : Type 0
OperationsAreSingle = (acting : Acting) (known : Known) (told : Changed) → AreDoneBy 1 (effects_of acting known told) × (is_granted false (effects_of acting known told) ≡ true)

-- the steps of two parts are those of both,
abbrev pub PartsAddUp : Type 0
PartsAddUp = (steps further : ℕ) (effects more : List Effect) → AreDoneBy steps effects → AreDoneBy further more → AreDoneBy (steps + further) (effects ++ more)

-- and so is what was asked for.
abbrev pub GrantsAddUp : Type 0
GrantsAddUp = (effects more : List Effect) → is_granted false effects ≡ true → is_granted false more ≡ true → is_granted false (effects ++ more) ≡ true
