-- A run whose events come to what is right, and keep these promises, is legal.
use Rattle.std.specs.Prelude.{◌<◌, ◌^◌, ℕ, Bool, List, ◌∷◌}
use Rattle.run_grows.specs.Given.SchedulesAfter.{after, moment}
use Rattle.run_grows.specs.Given.SchedulesBeginning.{at_work}
use Rattle.run_grows.specs.Given.SchedulesEntry.{Entry, acting, caller_of}
use Rattle.run_grows.specs.Given.SchedulesInTurn.{HasRightOutcome}
use Rattle.run_grows.specs.Given.SchedulesRuns.{IsLegal}
use Rattle.run_grows.specs.Given.SchedulesSteps.{DoesFew, MakesSteps, state_or}
use Rattle.run_grows.specs.Given.SchedulesTerms.{Terms}
use Rattle.run_grows.specs.Given.SchedulesWaiting.{WaitsLawfully}
use Rattle.run_grows.specs.Given.EffectsKnown.{Known}
use Rattle.run_grows.specs.Given.FindsLittle.{ReclaimsAll, RefinesQuiescence}
use Rattle.run_legal.specs.CallEvents.{IsLegalBut}
use Rattle.run_legal.specs.Carried.{RefinesRun}
use Rattle.run_grows.specs.Given.ScenesScene.{Scene}

-- The promise: an event that comes to what is right, makes its steps, waits where it may, and keeps these promises, is legal, where the moment after it shows the scene, all of which is back if it reclaims all, and in
-- which nobody is under way where nobody is there.
abbrev pub EventsAreLegal : Type 0 → Type 0 → Type 0
EventsAreLegal K V =
    (same : K → K → Bool) (name : ℕ → List ℕ) (terms : Terms) (log : List (Entry K V)) (e : Entry K V) (known : Known) (s : Scene K V) → terms.batch_size < 2 ^ 64
    → HasRightOutcome terms log e → MakesSteps e.event (state_or (acting (caller_of e.event) (at_work e (moment log)))) e.steps e.outcome → DoesFew (caller_of e.event) e.steps e.effects
    → WaitsLawfully same log e → IsLegalBut same terms log e → RefinesRun same name terms (e ∷ log) known s → ReclaimsAll log e → RefinesQuiescence terms (after e (moment log)) known s.world → IsLegal same terms log e
