-- An event that is one step of a call on one key is linearizable.
use Rattle.std.specs.Prelude.{◌≡◌, ℕ, ◌+◌, Bool, List, ◌++◌, length, flat_map, Option, Some, None, ◌⊎◌}
use Rattle.std.proofs.Common.{refl, ap, sym, subst, ◌∙◌, inl, inr}
use Rattle.run_places.specs.Given.SeizeWordsDeclared.fault.Fault.{Fault}
use Rattle.run_places.specs.Given.SeizeWordsDeclared.fault.Fault.TheVariants.{Busy, RemoveNothing}
use Rattle.run_places.specs.Given.TablesDeclared.node.Node.{Node}
use Rattle.run_places.specs.Given.RawDeclared.machines.answer.KeyAnswer.{KeyAnswer}
use Rattle.run_places.specs.Given.RawDeclared.machines.progress.Answer.TheVariants as machine
use Rattle.run_places.specs.Given.RawDeclared.machines.progress.Progress.{Progress}
use Rattle.run_places.specs.Given.RawDeclared.machines.progress.Progress.TheVariants as progress
use Rattle.run_places.specs.Given.RunsDeclared.call.Response.{Response}
use Rattle.run_places.specs.Given.RunsDeclared.call.Call.{Call}
use Rattle.run_places.specs.Given.RunsDeclared.call.Call.TheVariants.{On}
use Rattle.run_places.specs.Given.RunsDeclared.call.OneKey.{OneKey}
use Rattle.run_places.specs.Given.RunsDeclared.call.Reply.{Reply}
use Rattle.run_places.specs.Given.RunsDeclared.effect.Effect.{Effect}
use Rattle.run_places.specs.Given.RunsDeclared.outcome.Outcome.{Outcome}
use Rattle.run_places.specs.Given.RunsDeclared.outcome.Outcome.TheVariants as outcome
use Rattle.run_places.specs.Given.SchedulesEffects.{with_effects}
use Rattle.run_places.specs.Given.SchedulesEntry.{acting, IfCall}
use Rattle.run_places.specs.Given.SchedulesLinearizable.{shift_of, meaning_at, Changes, ChangesOnce, AnswersDue, EndsOn, Ends, AsksRight, IsRight, IsRightOf, Linearizes}
use Rattle.run_places.specs.Given.SchedulesLists.{OneOf}
use Rattle.run_places.specs.Given.SchedulesMoment.{CallState, Going, Asking, Told, IsReady, UnderWay as CallThere, Moment}
use Rattle.run_places.specs.Given.SchedulesSequential.{Meaning, Answers, Refuses, Leaves, means, key_of}
use Rattle.run_places.specs.Given.SchedulesViews.{call_of, reply_to, finite_map}
use Rattle.run_places.specs.Given.PointsFactsCalls.{Unchanged}
use Rattle.run_places.specs.Given.CallersTogether.{CallOnKey, OnKey}
use Rattle.run_places.specs.Given.EffectsEffects.{effects_of, known_after}
use Rattle.run_places.specs.Given.EffectsKnown.{Known}
use Rattle.run_places.specs.Given.EffectsDeclared.acting.Acting.TheVariants as acts
use Rattle.run_places.proofs.Hands.Replacing.{calls_after}
use Rattle.run_histories.specs.Histories.Answers.{IsAnsweredAs, IsAnsweredDone}
use Rattle.run_histories.specs.Histories.Events.{HasOutcome}
use Rattle.run_histories.specs.Histories.Asking.{IsQuestionAsked}
use Rattle.run_histories.specs.Histories.Questions.{GoesItself, AsksStill, AllHaveAskedJust, AsksOnStill}
use Rattle.run_histories.specs.Histories.Several.{IsSameCall, InMidst, MidstsEnd, MidstsAskStill}
use Rattle.run_histories.proofs.Histories.Answers.{answers_were_so}
use Rattle.run_histories.proofs.Histories.Asking.{asking_steps_stand_there, asking_calls_ask_still}
use Rattle.run_histories.proofs.Histories.AsksRight.{asks_right}
use Rattle.run_places.proofs.Changes.Found.{map_alike}
use Rattle.run_histories.proofs.Histories.OtherCalls.{asks_none}
use Rattle.run_places.proofs.Changes.Logs.{each_of}
use Rattle.run_histories.proofs.Histories.Owed.{answers_are_owed, due_none, change_none}
use Rattle.run_histories.proofs.Histories.Refusals.{refusals_were_so, change_refused}
use Rattle.run_histories.proofs.Histories.Several.{d, d_is, d_same, by, unchanged_before, then_at, worked_then, changes_then, midst_then}
use Rattle.run_places.specs.Given.ScenesHeld.{Held, IsAt}
use Rattle.run_places.specs.Given.ScenesScene.{Scene}
use Rattle.run_places.specs.Given.ScenesStepping.{StepLeads}
use Rattle.run_places.specs.Given.SchedulesTransition.{Past, Transition, call_found, call_left, worked_by}
use Rattle.run_places.proofs.Given.General.{same_some as one_of}

module _ {K V : Type 0} (same : K → K → Bool) (hash : ℕ → K → ℕ) (name : ℕ → List ℕ) (log : Past K V) (beginning : Moment K V) (map i : ℕ) (one : OneKey K V) (c : CallThere K V) (one_is : c.call ≡ On one)
    (done : List Effect) (m : Moment K V) (known : Known) (s : Scene K V) (u : CallOnKey K V K) (midst : InMidst same name log beginning map i one c done m known s u)
    (old new : Held K V) (at : IsAt same hash old s) where
  abbrev there : CallThere K V
  there = midst.there

  abbrev there_one : there.call ≡ On one
  there_one = midst.same_call.call ∙ one_is

  abbrev known2 : Known
  known2 = known_after (acts.Call i map) new.changed known

  module _ (said : Progress (Node K V)) (leads : StepLeads same hash i said s old new) where
    abbrev call_then : CallThere K V
    call_then = d same hash name log beginning map i one c one_is done m known s u midst old new at said leads

    abbrev call_is : call_of (name i) (with_effects (Some (name i)) (Some map) (effects_of (acts.Call i map) known new.changed) m) ≡ Some call_then
    call_is = d_is same hash name log beginning map i one c one_is done m known s u midst old new at said leads

    call_same : IsSameCall c call_then
    call_same = d_same same hash name log beginning map i one c one_is done m known s u midst old new at said leads

    -- where the call has changed nothing, its class has not changed within the event
    still : by same hash name log beginning map i one c one_is done m known s u midst old new at said leads ≡ Unchanged → finite_map same map m (key_of one) ≡ finite_map same map log.now (key_of one)
    still none = (midst.untouched (unchanged_before same hash name log beginning map i one c one_is done m known s u midst old new at said leads none)).1 (key_of one)
        ∙ map_alike same map (key_of one) log.now beginning midst.begins.0 midst.begins.1

  abbrev Means : Meaning V → CallThere K V → Moment K V → Type 0
  Means meaning call y = meaning_at same one call y ≡ meaning

  -- what the call meant in the midst of the event it means at its end
  means_on : (e f : CallThere K V) → IsSameCall c e → IsSameCall c f → (meaning : Meaning V) → OneOf (Means meaning e) (log.since e.begun) → OneOf (Means meaning f) (log.since f.begun)
  means_on e f h k meaning so =
      subst (λ (b : ℕ). OneOf (Means meaning f) (log.since b)) (h.begun ∙ sym k.begun)
      (each_of (Means meaning e) (Means meaning f) (log.since e.begun)
      (λ y is.
      ap (λ (z : ℕ). means one (reply_to (finite_map same z y (key_of one)) f.replies) (finite_map same z y (key_of one)) (length y.stored + 1)) (k.map ∙ sym h.map)
      ∙ ap (λ (r : List (Option ℕ × Reply V)). means one (reply_to (finite_map same e.map y (key_of one)) r) (finite_map same e.map y (key_of one)) (length y.stored + 1)) (k.replies ∙ sym h.replies)
      ∙ is) so)

  -- what is answered is due
  answered : (answer : KeyAnswer) (leads : StepLeads same hash i (progress.Done (machine.Key answer)) s old new) (a : Response V)
      → IsAnsweredAs known2 one there.replies answer a ⊎ IsAnsweredDone known2 one there.replies answer a
      → AnswersDue same one (call_then (progress.Done (machine.Key answer)) leads) (log.since (call_then (progress.Done (machine.Key answer)) leads).begun)
      (call_then (progress.Done (machine.Key answer)) leads).due a
  answered answer leads a (inl told) =
      subst (λ (o : Option (Response V)). AnswersDue same one (call_then (progress.Done (machine.Key answer)) leads) (log.since (call_then (progress.Done (machine.Key answer)) leads).begun) o a)
      (sym (due_none same hash name log m known s old new at midst.whole midst.dues map i u midst.here answer leads there midst.there_is one there_one (call_then (progress.Done (machine.Key answer)) leads) (call_is (progress.Done (machine.Key answer)) leads) a told))
      (means_on there (call_then (progress.Done (machine.Key answer)) leads) midst.same_call (call_same (progress.Done (machine.Key answer)) leads) (Answers a Leaves)
      (answers_were_so K V same hash name log m known s old new at midst.whole midst.dues.history map i u midst.here answer leads there midst.there_is one there_one
      (still (progress.Done (machine.Key answer)) leads
      (change_none same hash name log m known s old new at midst.whole midst.dues map i u midst.here answer leads there midst.there_is one there_one (call_then (progress.Done (machine.Key answer)) leads) (call_is (progress.Done (machine.Key answer)) leads) a told)) a told))
  answered answer leads a (inr told) =
      subst (λ (o : Option (Response V)). AnswersDue same one (call_then (progress.Done (machine.Key answer)) leads) (log.since (call_then (progress.Done (machine.Key answer)) leads).begun) o a)
      (sym (answers_are_owed K V same hash name log m known s old new at midst.whole midst.dues map i u midst.here answer leads there midst.there_is one there_one (call_then (progress.Done (machine.Key answer)) leads) (call_is (progress.Done (machine.Key answer)) leads) a told)) refl

  -- what is refused is due to no change
  was_refused : (fault : Fault) (leads : StepLeads same hash i (progress.Refused fault) s old new)
      → ((call_then (progress.Refused fault) leads).due ≡ None)
      × (fault ≡ RemoveNothing → OneOf (Means Refuses (call_then (progress.Refused fault) leads)) (log.since (call_then (progress.Refused fault) leads).begun))
  was_refused fault leads = (it.0, λ is. means_on there (call_then (progress.Refused fault) leads) midst.same_call (call_same (progress.Refused fault) leads) Refuses (it.1 is))
    where
      it : ((call_then (progress.Refused fault) leads).due ≡ None) × (fault ≡ RemoveNothing → OneOf (Means Refuses there) (log.since there.begun))
      it = refusals_were_so K V same hash name log m known s old new at midst.whole midst.dues map i u midst.here fault leads there midst.there_is one there_one
          (still (progress.Refused fault) leads
          (change_refused same hash name log m known s old new at midst.whole midst.dues map i u midst.here fault leads there midst.there_is one there_one _ (leads map (OnKey u) midst.here).4.its_map.4 (call_then (progress.Refused fault) leads) (call_is (progress.Refused fault) leads)))
          (call_then (progress.Refused fault) leads) (call_is (progress.Refused fault) leads)

  refused_right : (call : CallThere K V) (fault : Fault) → (call.due ≡ None) × (fault ≡ RemoveNothing → OneOf (Means Refuses call) (log.since call.begun))
      → EndsOn same one call (log.since call.begun) (outcome.Refused fault)
  refused_right call Busy so = tt
  refused_right call RemoveNothing so = (so.0, so.1 refl)
  refused_right call _ so = so.0

  -- one that says that it asks may ask that
  module _ (questions : AllHaveAskedJust beginning) (about : Option ℕ) (leads : StepLeads same hash i (progress.Asks about) s old new) where
    asks_then : (question : Option ℕ) → IsQuestionAsked known2 about question
        → AsksRight same (call_then (progress.Asks about) leads).stands (call_then (progress.Asks about) leads) (log.since (call_then (progress.Asks about) leads).begun) (outcome.Asks question)
    asks_then question told =
        let on = asking_steps_stand_there K V same hash s old new map i u midst.here about leads in
        let then = midst_then same hash name log beginning map i one c one_is done m known s u midst old new at (progress.Asks about) leads on.0 on.1 in
        subst (λ (y : CallThere K V). AsksRight same y.stands y (log.since y.begun) (outcome.Asks question))
        (one_of then.there (call_then (progress.Asks about) leads) (sym then.there_is ∙ call_is (progress.Asks about) leads))
        (asks_right same hash name log beginning map i one c one_is questions (done ++ effects_of (acts.Call i map) known new.changed) _ known2 _ on.0 then new
        (leads map (OnKey u) midst.here).5 question (on.2 known2 question told) then.there.stands refl)

  -- so it ends right, and asks right
  ends_right : AllHaveAskedJust beginning → (said : Progress (Node K V)) (leads : StepLeads same hash i said s old new) (o : Outcome V) → HasOutcome known2 one there.replies said o
      → EndsOn same one (call_then said leads) (log.since (call_then said leads).begun) o
      × AsksRight same (call_then said leads).stands (call_then said leads) (log.since (call_then said leads).begun) o
  ends_right questions (progress.Done (machine.Key answer)) leads (outcome.Answered a) told = (answered answer leads a told, asks_none same (call_then _ leads) _ (call_then _ leads).stands (outcome.Answered a) tt)
  ends_right questions (progress.Asks about) leads (outcome.Asks question) told = (tt, asks_then questions about leads question told)
  ends_right questions progress.Goes leads outcome.Goes told = (tt, asks_none same (call_then _ leads) _ (call_then _ leads).stands outcome.Goes tt)
  ends_right questions progress.Waits leads outcome.Waits told = (tt, asks_none same (call_then _ leads) _ (call_then _ leads).stands outcome.Waits tt)
  ends_right questions (progress.Gave value) leads outcome.Goes told = (tt, asks_none same (call_then _ leads) _ (call_then _ leads).stands outcome.Goes tt)
  ends_right questions (progress.Unstored value) leads outcome.Goes told = (tt, asks_none same (call_then _ leads) _ (call_then _ leads).stands outcome.Goes tt)
  ends_right questions (progress.Refused fault) leads (outcome.Refused other) told = (
    subst (λ (f : Fault). EndsOn same one (call_then (progress.Refused fault) leads) (log.since (call_then (progress.Refused fault) leads).begun) (outcome.Refused f)) (sym told)
        (refused_right (call_then (progress.Refused fault) leads) fault (was_refused fault leads)),
    asks_none same (call_then _ leads) _ (call_then _ leads).stands (outcome.Refused other) tt,
  )
  ends_right questions _ leads o told = absurd told

  -- what asks does not go on by itself
  no_going : (replies : List (Option ℕ × Reply V)) (about : Option ℕ) (o : Outcome V) → HasOutcome known2 one replies (progress.Asks about) o → GoesItself o → ⊥
  no_going replies about (outcome.Asks question) told goes = goes
  no_going replies about _ told goes = told

  module _ (c_is : call_of (name i) beginning ≡ Some c) (said : Progress (Node K V)) (leads : StepLeads same hash i said s old new) (t : Transition K V) (is_caller : t.caller ≡ Some (name i))
      (begun : t.found ≡ beginning) (acts_on : t.map ≡ Some map)
      (effects_are : t.effects ≡ done ++ effects_of (acts.Call i map) known new.changed) (comes : HasOutcome known2 one c.replies said t.outcome) where
    abbrev call : CallThere K V
    call = call_then said leads

    worked_is : worked_by t ≡ then_at same hash name log beginning map i one c one_is done m known s u midst old new at said leads
    worked_is =
        ap (λ (b : Moment K V). with_effects t.caller t.map t.effects b) begun
        ∙ ap (λ (o : Option (List ℕ)). with_effects o (t.map) t.effects beginning) is_caller
        ∙ ap (λ (o : Option ℕ). with_effects (Some (name i)) o t.effects beginning) acts_on
        ∙ ap (λ (l : List Effect). with_effects (Some (name i)) (Some map) l beginning) effects_are
        ∙ sym (worked_then same hash name log beginning map i one c one_is done m known s u midst old new at said leads)

    before : call_found t ≡ Some c
    before = ap (λ (o : Option (List ℕ)). acting o t.found) is_caller ∙ ap (call_of (name i)) begun ∙ c_is

    then_acting : call_left t ≡ Some call
    then_acting =
        ap (λ (o : Option (List ℕ)). acting o (worked_by t)) is_caller ∙ ap (call_of (name i)) worked_is
        ∙ d_is same hash name log beginning map i one c one_is done m known s u midst old new at said leads

    right : AllHaveAskedJust beginning → IsRight same log t c call
    right questions = record {
      changes = subst (λ (x : Call K V). Changes same x c t.found (flat_map shift_of t.effects)) (sym one_is)
          (subst (λ (b : Moment K V). ChangesOnce same one c b (flat_map shift_of t.effects)) (sym begun)
          (subst (λ (l : List Effect). ChangesOnce same one c beginning (flat_map shift_of l)) (sym effects_are)
          (changes_then same hash name log beginning map i one c one_is done m known s u midst old new at said leads)));
      ends = subst (λ (x : Call K V). Ends same x call (log.since call.begun) t.outcome) (sym ((call_same said leads).call ∙ one_is)) ends_so.0;
      asks = ends_so.1;
    }
      where
        ends_so : EndsOn same one call (log.since call.begun) t.outcome × AsksRight same call.stands call (log.since call.begun) t.outcome
        ends_so = ends_right questions said leads t.outcome (subst (λ (r : List (Option ℕ × Reply V)). HasOutcome known2 one r said t.outcome) (sym midst.same_call.replies) comes)

    pub linearizable : AllHaveAskedJust beginning → Linearizes same log t
    linearizable questions = subst (λ (x : Option (CallThere K V)). IsRightOf same log t x (call_left t)) (sym before)
        (subst (λ (x : Option (CallThere K V)). IsRightOf same log t (Some c) x) (sym then_acting) (right questions))

    -- a call that asks says so by the last step, too
    still_so : (stands : CallState) → call.stands ≡ stands → AsksStill stands t.outcome
    still_so (Asking question) is = λ goes.
        let on = (calls_after (name i) map (name i) (effects_of (acts.Call i map) known new.changed) m there midst.there_is).2.0.stands in
        let says = asking_calls_ask_still K V same hash name midst.dues.history.shown.number m known s old new midst.dues.history.asked map i u midst.here said leads there midst.there_is one there_one question (sym on ∙ is) in
        no_going c.replies says.0 t.outcome (subst (λ (x : Progress (Node K V)). HasOutcome known2 one c.replies x t.outcome) says.1 comes) goes
    still_so Going is = tt
    still_so Told is = tt
    still_so IsReady is = tt

    pub asks_still : AsksOnStill t
    asks_still = subst (λ (x : Option (CallThere K V)). IfCall (λ (y : CallThere K V). AsksStill y.stands t.outcome) x) (sym then_acting) (still_so call.stands refl)

module _ (K V : Type 0) (same : K → K → Bool) (hash : ℕ → K → ℕ) where
  pub midsts_end : MidstsEnd K V same hash
  midsts_end name log beginning map i one c c_is one_is questions done m known s u midst old new at said leads t is_caller begun acts_on effects_are comes =
      linearizable same hash name log beginning map i one c one_is done m known s u midst old new at c_is said leads t is_caller begun acts_on effects_are comes questions

  pub midsts_ask_still : MidstsAskStill K V same hash
  midsts_ask_still name log beginning map i one c c_is one_is done m known s u midst old new at said leads t is_caller begun acts_on effects_are comes =
      asks_still same hash name log beginning map i one c one_is done m known s u midst old new at c_is said leads t is_caller begun acts_on effects_are comes
