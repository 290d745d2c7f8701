-- What the moment of a history shows of the scene to which a list of acts has led, by which its next entry is linearizable. Callers have their numbers as names.
use Rattle.std.specs.Prelude.{Bool}
use Rattle.run_schedules.specs.Schedules.Moment.{Moment}
use Rattle.run_schedules.specs.Schedules.Transition.{Past}
use Rattle.play_lists.specs.Given.EffectsKnown.{Known}
use Rattle.play_lists.specs.Given.ScenesScene.{Scene}
use Rattle.run_logged.specs.Given.MomentsWhole.{RefinesWhole}
use Rattle.play_lists.specs.Given.HistoriesAsCalled.{RefinesAsCalled}
use Rattle.play_lists.specs.Given.HistoriesDue.{RefinesPendingAnswers}
use Rattle.play_lists.specs.Given.HistoriesQuestions.{AllHaveAskedJust}
use Rattle.play_lists.specs.Given.KeptKept.{RefinesKept}
use Rattle.run_schedules.specs.Deeds.Deeds.{named}

-- It shows the whole scene, and what every step keeps; the pending answers of calls, what those on no key are called for, and what calls have asked.
pub record RefinesAnswers {K V : Type 0} (same : K → K → Bool) (log : Past K V) (m : Moment K V) (known : Known) (s : Scene K V) : Type 0 where
  pub whole : RefinesWhole same named m known s
  pub kept : RefinesKept named m known s
  pub dues : RefinesPendingAnswers same named log m known s
  pub as_called : RefinesAsCalled same named m known s
  pub questions : AllHaveAskedJust m
