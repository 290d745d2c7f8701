-- What a step of a call says has words, in which the event that it is a step of may be told.
use Rattle.std.specs.Prelude.{◌≡◌, ℕ, Bool, List, Option, Some}
use Rattle.run_places.specs.Given.TablesDeclared.node.Node.{Node}
use Rattle.run_places.specs.Given.RawDeclared.machines.progress.Progress.{Progress}
use Rattle.run_places.specs.Given.RawDeclared.machines.progress.Progress.TheVariants.{Asks}
use Rattle.run_places.specs.Given.RunsDeclared.call.Call.TheVariants.{On}
use Rattle.run_places.specs.Given.RunsDeclared.call.OneKey.{OneKey}
use Rattle.run_places.specs.Given.RunsDeclared.outcome.Outcome.{Outcome}
use Rattle.run_places.specs.Given.SchedulesMoment.{UnderWay as CallThere, Moment}
use Rattle.run_places.specs.Given.SchedulesViews.{call_of}
use Rattle.run_places.specs.Given.CallersTogether.{CallOnKey, UnderWay, OnKey}
use Rattle.run_places.specs.Given.EffectsEffects.{known_after}
use Rattle.run_places.specs.Given.EffectsKnown.{Known}
use Rattle.run_places.specs.Given.EffectsDeclared.acting.Acting.TheVariants as acts
use Rattle.run_places.specs.Moments.Whole.{RefinesWhole}
use Rattle.run_histories.specs.Histories.Asking.{IsQuestionAsked}
use Rattle.run_histories.specs.Histories.Due.{RefinesPendingAnswers}
use Rattle.run_histories.specs.Histories.Events.{HasOutcome}
use Rattle.run_places.specs.Given.ScenesHeld.{Held, IsAt}
use Rattle.run_places.specs.Given.ScenesScene.{Scene}
use Rattle.run_places.specs.Given.ScenesStepping.{StepLeads}
use Rattle.run_places.specs.Given.SchedulesTransition.{Past}

module _ (K V : Type 0) (same : K → K → Bool) (hash : ℕ → K → ℕ) where
  -- The promises: what any call asks by a step is about none, or about a pair of the run,
  abbrev pub QuestionsHaveWords : Type 0
  QuestionsHaveWords =
      (name : ℕ → List ℕ) (m : Moment K V) (known : Known) (s : Scene K V) (old new : Held K V) → IsAt same hash old s → RefinesWhole same name m known s
      → (map i : ℕ) (u : UnderWay K V K) → s.calls map i ≡ Some u → (about : Option ℕ) → StepLeads same hash i (Asks about) s old new
      → (question : Option ℕ) × IsQuestionAsked (known_after (acts.Call i map) new.changed known) about question

  -- and whatever a call on one key comes to by a step is an outcome.
  abbrev pub StepsHaveWords : Type 0
  StepsHaveWords =
      (name : ℕ → List ℕ) (log : Past K V) (m : Moment K V) (known : Known) (s : Scene K V) (old new : Held K V) → IsAt same hash old s
      → RefinesWhole same name m known s → RefinesPendingAnswers same name log m known s
      → (map i : ℕ) (u : CallOnKey K V K) → s.calls map i ≡ Some (OnKey u) → (said : Progress (Node K V)) → StepLeads same hash i said s old new
      → (c : CallThere K V) → call_of (name i) m ≡ Some c → (one : OneKey K V) → c.call ≡ On one
      → (outcome : Outcome V) × HasOutcome (known_after (acts.Call i map) new.changed known) one c.replies said outcome
