-- An event that does nothing, and by which no call has come to an end or asks, is linearizable.
use Rattle.std.specs.Prelude.{◌≡◌, Bool, List, [], flat_map, Option, Some, None}
use Rattle.std.proofs.Common.{refl, sym, subst, inl}
use Rattle.run_places.specs.Given.SeizeWordsDeclared.fault.Fault.TheVariants.{Busy}
use Rattle.run_places.specs.Given.RunsDeclared.call.Call.{Call}
use Rattle.run_places.specs.Given.RunsDeclared.call.Call.TheVariants as call
use Rattle.run_places.specs.Given.RunsDeclared.effect.Effect.{Effect}
use Rattle.run_places.specs.Given.RunsDeclared.outcome.Outcome.{Outcome}
use Rattle.run_places.specs.Given.RunsDeclared.outcome.Outcome.TheVariants as outcome
use Rattle.run_places.specs.Given.SchedulesLinearizable.{shift_of, Changes, Ends, IsRight, IsRightOf}
use Rattle.run_places.specs.Given.SchedulesMoment.{UnderWay as CallThere, Moment}
use Rattle.run_places.specs.Given.SchedulesSequential.{Shift}
use Rattle.run_histories.specs.Histories.OtherCalls.{IsIdle, IdleAreLinearizable}
use Rattle.run_histories.proofs.Histories.OtherCalls.{IsNoQuestion, asks_none}
use Rattle.run_places.specs.Given.SchedulesTransition.{Past, Transition, call_found, call_left}

no_question : {V : Type 0} (o : Outcome V) → IsIdle o → IsNoQuestion o
no_question (outcome.Asks question) idle = idle
no_question _ idle = tt

module _ {K V : Type 0} (same : K → K → Bool) where
  changes_none : (its : Call K V) (c : CallThere K V) (m : Moment K V) → Changes same its c m []
  changes_none (call.On one) c m = inl refl
  changes_none (call.Reserve n) c m = tt
  changes_none call.Clear c m = tt
  changes_none call.Retain c m = tt
  changes_none call.Len c m = tt
  changes_none call.Walk c m = tt

  ends_none : (its : Call K V) (c : CallThere K V) (moments : List (Moment K V)) (o : Outcome V) → IsIdle o → Ends same its c moments o
  ends_none (call.On one) c moments (outcome.Answered a) idle = absurd idle
  ends_none (call.On one) c moments (outcome.Refused Busy) idle = tt
  ends_none (call.On one) c moments (outcome.Refused fault) idle = absurd idle
  ends_none (call.On one) c moments _ idle = tt
  ends_none (call.Reserve n) c moments o idle = tt
  ends_none call.Clear c moments o idle = tt
  ends_none call.Retain c moments o idle = tt
  ends_none call.Len c moments o idle = tt
  ends_none call.Walk c moments o idle = tt

  module _ (log : Past K V) (t : Transition K V) (none : t.effects ≡ []) (idle : IsIdle t.outcome) where
    shifts_none : flat_map shift_of t.effects ≡ []
    shifts_none = subst (λ (l : List Effect). flat_map shift_of l ≡ []) (sym none) refl

    right : (before c : CallThere K V) → IsRight same log t before c
    right before c = record {
      changes = subst (λ (l : List Shift). Changes same before.call before t.found l) (sym shifts_none) (changes_none before.call before t.found);
      ends = ends_none c.call c (log.since c.begun) t.outcome idle;
      asks = asks_none same c (log.since c.begun) c.stands t.outcome (no_question t.outcome idle);
    }

    acts_none : (before after : Option (CallThere K V)) → IsRightOf same log t before after
    acts_none (Some before) (Some c) = right before c
    acts_none (Some before) None = shifts_none
    acts_none None after = shifts_none

pub idle_are_linearizable : (K V : Type 0) (same : K → K → Bool) → IdleAreLinearizable K V same
idle_are_linearizable K V same log t none idle = acts_none same log t none idle (call_found t) (call_left t)
