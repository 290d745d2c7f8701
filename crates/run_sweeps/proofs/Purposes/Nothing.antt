-- Events of which nothing is promised.
use Rattle.std.specs.Prelude.{ℕ, Bool, List, Option, Some, None}
use Rattle.std.proofs.Common.{ap, sym, subst}
use Rattle.run_finds.specs.Given.RunsDeclared.call.Call.{Call}
use Rattle.run_finds.specs.Given.RunsDeclared.call.Call.TheVariants as call
use Rattle.run_finds.specs.Given.RunsDeclared.outcome.Outcome.{Outcome}
use Rattle.run_finds.specs.Given.RunsDeclared.outcome.Outcome.TheVariants as outcome
use Rattle.run_finds.specs.Given.SchedulesEntry.{IfCall, acting}
use Rattle.run_finds.specs.Given.SchedulesMoment.{UnderWay as CallThere, Moment}
use Rattle.run_finds.specs.Given.SchedulesSweeps.{Sweeps}
use Rattle.run_finds.specs.Given.SchedulesTerms.{Terms}
use Rattle.run_sweeps.specs.Purposes.Swept.{SaysNothing, OtherOutcomesAreSwept, CallsOnKeysAreSwept, NoCallsAreSwept}
use Rattle.run_finds.specs.Given.SchedulesTransition.{call_left, worked_by}

module _ {K V : Type 0} (same : K → K → Bool) (terms : Terms) (c : CallThere K V) (moments : List (Moment K V)) (now : Moment K V) where
  by_walk : (o : Outcome V) → SaysNothing o → Sweeps same terms call.Walk c moments now o
  by_walk outcome.Done says = tt
  by_walk (outcome.Slot n) says = tt
  by_walk outcome.Goes says = tt
  by_walk (outcome.Asks question) says = tt
  by_walk outcome.Waits says = tt
  by_walk outcome.Ready says = tt
  by_walk (outcome.Shows n) says = absurd says
  by_walk (outcome.Answered a) says = absurd says
  by_walk (outcome.Shape tables) says = tt
  by_walk (outcome.Refused fault) says = tt

  by_clear : (o : Outcome V) → SaysNothing o → Sweeps same terms call.Clear c moments now o
  by_clear (outcome.Answered a) says = absurd says
  by_clear _ says = tt

  by_retain : (o : Outcome V) → SaysNothing o → Sweeps same terms call.Retain c moments now o
  by_retain (outcome.Answered a) says = absurd says
  by_retain _ says = tt

  by_len : (o : Outcome V) → SaysNothing o → Sweeps same terms call.Len c moments now o
  by_len (outcome.Answered a) says = absurd says
  by_len _ says = tt

  by_reserve : (more : ℕ) (o : Outcome V) → SaysNothing o → Sweeps same terms (call.Reserve more) c moments now o
  by_reserve more (outcome.Answered a) says = absurd says
  by_reserve more _ says = tt

  pub nothing_said : (its : Call K V) (o : Outcome V) → SaysNothing o → Sweeps same terms its c moments now o
  nothing_said (call.On one) o says = tt
  nothing_said (call.Reserve more) o says = by_reserve more o says
  nothing_said call.Clear o says = by_clear o says
  nothing_said call.Retain o says = by_retain o says
  nothing_said call.Len o says = by_len o says
  nothing_said call.Walk o says = by_walk o says

module _ (K V : Type 0) (same : K → K → Bool) where
  pub other_outcomes_are_swept : OtherOutcomesAreSwept K V same
  other_outcomes_are_swept terms log t says = by (call_left t)
    where
      by : (x : Option (CallThere K V)) → IfCall (λ c. Sweeps same terms c.call c (log.since c.begun) (worked_by t) t.outcome) x
      by None = tt
      by (Some c) = nothing_said same terms c (log.since c.begun) (worked_by t) c.call t.outcome says

  pub calls_on_keys_are_swept : CallsOnKeysAreSwept K V same
  calls_on_keys_are_swept terms log t c one is call_is =
      subst (λ (x : Option (CallThere K V)). IfCall (λ c. Sweeps same terms c.call c (log.since c.begun) (worked_by t) t.outcome) x) (sym is)
      (subst (λ (x : Call K V). Sweeps same terms x c (log.since c.begun) (worked_by t) t.outcome) (sym call_is) tt)

  pub no_calls_are_swept : NoCallsAreSwept K V same
  no_calls_are_swept terms log t none =
      subst (λ (x : Option (CallThere K V)). IfCall (λ c. Sweeps same terms c.call c (log.since c.begun) (worked_by t) t.outcome) x)
      (sym (ap (λ (o : Option (List ℕ)). acting o (worked_by t)) none)) tt
