-- In the midst of an event of steps of a call on one key, the call may ask what it stands at to ask.
use Rattle.std.specs.Prelude.{◌≡◌, ℕ, Bool, List, [], Option, Some}
use Rattle.std.proofs.Common.{ap, sym, subst, ◌∙◌}
use Rattle.run_places.specs.Given.RunsDeclared.call.Call.{Call}
use Rattle.run_places.specs.Given.RunsDeclared.call.Call.TheVariants.{On}
use Rattle.run_places.specs.Given.RunsDeclared.call.OneKey.{OneKey}
use Rattle.run_places.specs.Given.RunsDeclared.effect.Effect.{Effect}
use Rattle.run_places.specs.Given.RunsDeclared.outcome.Outcome.TheVariants as outcome
use Rattle.run_places.specs.Given.SchedulesLinearizable.{MayAsk, AsksRight}
use Rattle.run_places.specs.Given.SchedulesMoment.{CallState, Going, Asking, Told, IsReady, UnderWay as CallThere, Moment}
use Rattle.run_places.specs.Given.SchedulesSequential.{key_of}
use Rattle.run_places.specs.Given.SchedulesViews.{finite_map}
use Rattle.run_places.specs.Given.CallersTogether.{CallOnKey}
use Rattle.run_places.specs.Given.EffectsKnown.{Known}
use Rattle.run_places.specs.Hands.Asked.{AsksThere}
use Rattle.run_histories.specs.Histories.Questions.{unanswered, AllHaveAskedJust}
use Rattle.run_histories.specs.Histories.Several.{InMidst}
use Rattle.run_places.proofs.Changes.Found.{map_alike}
use Rattle.run_histories.proofs.Histories.MayAsk.{may_ask, asks_unchanged}
use Rattle.run_histories.proofs.Histories.Questions.{effects_keep_questions}
use Rattle.run_places.specs.Given.ScenesHeld.{Held, IsAt}
use Rattle.run_places.specs.Given.ScenesScene.{Scene}
use Rattle.run_places.specs.Given.SchedulesTransition.{Past}

module _ {K V : Type 0} (same : K → K → Bool) (hash : ℕ → K → ℕ) (name : ℕ → List ℕ) (log : Past K V) (beginning : Moment K V) (map i : ℕ) (one : OneKey K V) (c : CallThere K V)
    (one_is : c.call ≡ On one) (questions : AllHaveAskedJust beginning)
    (done : List Effect) (m : Moment K V) (known : Known) (s : Scene K V) (u : CallOnKey K V K) (midst : InMidst same name log beginning map i one c done m known s u)
    (x : Held K V) (at_x : IsAt same hash x s) (question : Option ℕ) (asks : AsksThere known u.call.stands question) where
  -- the call as its event comes to its end
  abbrev there : CallThere K V
  there = midst.there

  there_one : there.call ≡ On one
  there_one = midst.same_call.call ∙ one_is

  then_asked : AllHaveAskedJust m
  then_asked = subst (λ (y : Moment K V). AllHaveAskedJust y) (sym midst.worked) (effects_keep_questions K V (Some (name i)) (Some map) done beginning questions)

  -- it has changed nothing
  still : finite_map same map m (key_of one) ≡ finite_map same map log.now (key_of one)
  still = (midst.untouched (asks_unchanged same hash name log m known s x at_x midst.dues map i u midst.here there midst.there_is one there_one question asks)).1 (key_of one)
      ∙ map_alike same map (key_of one) log.now beginning midst.begins.0 midst.begins.1

  -- so it may ask, if it does not ask already
  may : unanswered there.stands ≡ [] → MayAsk same there.call there (log.since there.begun) question
  may first = subst (λ (z : Call K V). MayAsk same z there (log.since there.begun) question) (sym there_one)
      (may_ask same hash name log m known s x at_x midst.dues map i u midst.here there midst.there_is one there_one then_asked still first question asks)

  pub asks_right : (stands : CallState) → there.stands ≡ stands → AsksRight same stands there (log.since there.begun) (outcome.Asks question)
  asks_right (Asking q) is = tt
  asks_right Going is = may (ap unanswered is)
  asks_right Told is = may (ap unanswered is)
  asks_right IsReady is = may (ap unanswered is)
