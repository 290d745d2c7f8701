-- What a call on one key asks, in the words of a run: when it may, and that the machine says so.
use Rattle.std.specs.Prelude.{◌≡◌, ℕ, Bool, List, Option, Some, None}
use Rattle.run_places.specs.Given.TablesDeclared.node.Node.{Node}
use Rattle.run_places.specs.Given.RawDeclared.machines.progress.Progress.{Progress}
use Rattle.run_places.specs.Given.RawDeclared.machines.progress.Progress.TheVariants as progress
use Rattle.run_places.specs.Given.RunsDeclared.call.Call.TheVariants.{On}
use Rattle.run_places.specs.Given.RunsDeclared.call.OneKey.{OneKey}
use Rattle.run_places.specs.Given.SchedulesMoment.{Asking, UnderWay as CallThere, Moment}
use Rattle.run_places.specs.Given.SchedulesViews.{call_of}
use Rattle.run_places.specs.Given.CallersTogether.{CallOnKey, OnKey}
use Rattle.run_places.specs.Given.EffectsKnown.{Known}
use Rattle.run_places.specs.Hands.Asked.{AsksThere, RefinesAsked}
use Rattle.run_histories.specs.Histories.Answers.{NamesPair}
use Rattle.run_places.specs.Given.ScenesHeld.{Held}
use Rattle.run_places.specs.Given.ScenesScene.{Scene}
use Rattle.run_places.specs.Given.ScenesStepping.{StepLeads}

-- what the machine asks is told as this question: about the pair of its word, or about none
abbrev pub IsQuestionAsked : Known → Option ℕ → Option ℕ → Type 0
IsQuestionAsked known None None = Unit {0}
IsQuestionAsked known (Some word) (Some n) = NamesPair known word n
IsQuestionAsked known _ _ = ⊥

module _ (K V : Type 0) (same : K → K → Bool) (hash : ℕ → K → ℕ) where
  -- The promise: a step that says that its call asks has led to where it asks that, by whatever is known then,
  abbrev pub AskingStepsStandThere : Type 0
  AskingStepsStandThere =
      (s : Scene K V) (old new : Held K V) (map i : ℕ) (u : CallOnKey K V K) (here : s.calls map i ≡ Some (OnKey u)) (about : Option ℕ) (leads : StepLeads same hash i (progress.Asks about) s old new)
      → (next : CallOnKey K V K) × ((leads map (OnKey u) here).4.next ≡ Some (OnKey next))
      × ((known : Known) (question : Option ℕ) → IsQuestionAsked known about question → AsksThere known next.call.stands question)

  -- and a call that asks, and takes a step, says so again.
  abbrev pub AskingCallsAskStill : Type 0
  AskingCallsAskStill =
      (name : ℕ → List ℕ) (number : ℕ → ℕ → ℕ) (m : Moment K V) (known : Known) (s : Scene K V) (old new : Held K V) → RefinesAsked name number m known s
      → (map i : ℕ) (u : CallOnKey K V K) (here : s.calls map i ≡ Some (OnKey u)) (said : Progress (Node K V)) (leads : StepLeads same hash i said s old new)
      → (c : CallThere K V) → call_of (name i) m ≡ Some c → (one : OneKey K V) → c.call ≡ On one → (question : Option ℕ) → c.stands ≡ Asking question
      → (about : Option ℕ) × (said ≡ progress.Asks about) × IsQuestionAsked known about question
