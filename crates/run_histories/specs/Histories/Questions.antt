-- What calls have asked: just what they got replies to, and what they ask now.
use Rattle.std.specs.Prelude.{◌≡◌, ℕ, List, [], ◌∷◌, ◌++◌, map, Option, Some}
use Rattle.run_places.specs.Given.RunsDeclared.call.Call.{Call}
use Rattle.run_places.specs.Given.RunsDeclared.call.Reply.{Reply}
use Rattle.run_places.specs.Given.RunsDeclared.effect.Effect.{Effect}
use Rattle.run_places.specs.Given.RunsDeclared.outcome.Outcome.{Outcome}
use Rattle.run_places.specs.Given.RunsDeclared.outcome.Outcome.TheVariants.{Goes, Waits, Ready}
use Rattle.run_places.specs.Given.SchedulesAfter.{moment}
use Rattle.run_places.specs.Given.SchedulesBeginning.{with_call}
use Rattle.run_places.specs.Given.SchedulesEffects.{with_effects}
use Rattle.run_places.specs.Given.SchedulesEntry.{Entry, IfCall}
use Rattle.run_places.specs.Given.SchedulesMoment.{CallState, Asking, UnderWay as CallThere, Moment, start}
use Rattle.run_places.specs.Given.SchedulesViews.{call_of}
use Rattle.run_places.specs.Given.FollowsCalling.{told, come_to}
use Rattle.run_places.specs.Given.SchedulesTransition.{Transition, call_left, transition}

-- the question that has no reply yet, if there is one
abbrev pub unanswered : CallState → List (Option ℕ)
unanswered (Asking question) = question ∷ []
unanswered _ = []

-- what was asked that has a reply, the last one first
abbrev pub replied_to : {V : Type 0} → List (Option ℕ × Reply V) → List (Option ℕ)
replied_to {V} replies = map (λ (r : Option ℕ × Reply V). r.0) replies

-- by it a call goes on by itself
abbrev pub GoesItself : {V : Type 0} → Outcome V → Type 0
GoesItself Goes = Unit {0}
GoesItself Waits = Unit {0}
GoesItself Ready = Unit {0}
GoesItself _ = ⊥

-- one that asks does not: it asks still, unless it has ended
abbrev pub AsksStill : {V : Type 0} → CallState → Outcome V → Type 0
AsksStill (Asking question) outcome = GoesItself outcome → ⊥
AsksStill _ outcome = Unit {0}

module _ {K V : Type 0} where
  abbrev pub HasAskedJust : CallThere K V → Type 0
  HasAskedJust c = c.asked ≡ unanswered c.stands ++ replied_to c.replies

  -- each call under way has
  abbrev pub AllHaveAskedJust : Moment K V → Type 0
  AllHaveAskedJust m = (own : List ℕ) (c : CallThere K V) → call_of own m ≡ Some c → HasAskedJust c

  -- by what is done, a call that asks does not go on by itself
  abbrev pub AsksOnStill : Transition K V → Type 0
  AsksOnStill t = IfCall (λ c. AsksStill c.stands t.outcome) (call_left t)

  abbrev pub EventAsksStill : List (Entry K V) → Entry K V → Type 0
  EventAsksStill log e = AsksOnStill (transition log e)

module _ (K V : Type 0) where
  -- The promises: so it is before all events,
  abbrev pub QuestionsBegin : Type 0
  QuestionsBegin = AllHaveAskedJust {K = K} {V = V} start

  -- after whatever effects,
  abbrev pub EffectsPreserveQuestions : Type 0
  EffectsPreserveQuestions = (own : Option (List ℕ)) (map : Option ℕ) (effects : List Effect) (m : Moment K V) → AllHaveAskedJust m → AllHaveAskedJust (with_effects own map effects m)

  -- where a call begins,
  abbrev pub CallsBeginQuestions : Type 0
  CallsBeginQuestions = (own guard : List ℕ) (call : Call K V) (map : Option ℕ) (m : Moment K V) → AllHaveAskedJust m → AllHaveAskedJust (with_call own guard call map m)

  -- takes a reply,
  abbrev pub CallsTakeQuestions : Type 0
  CallsTakeQuestions = (own : List ℕ) (reply : Reply V) (m : Moment K V) → AllHaveAskedJust m → AllHaveAskedJust (told own reply m)

  -- or comes to an outcome,
  abbrev pub CallsComeToQuestions : Type 0
  CallsComeToQuestions =
      (own : List ℕ) (outcome : Outcome V) (steps : ℕ) (m : Moment K V) → AllHaveAskedJust m → ((c : CallThere K V) → call_of own m ≡ Some c → AsksStill c.stands outcome)
      → AllHaveAskedJust (come_to own outcome steps m)

  -- and after an event, if no call that asks goes on by itself;
  abbrev pub EventsPreserveQuestions : Type 0
  EventsPreserveQuestions = (log : List (Entry K V)) (e : Entry K V) → AllHaveAskedJust (moment log) → EventAsksStill log e → AllHaveAskedJust (moment (e ∷ log))
