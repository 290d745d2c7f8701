-- An event of a call keeps its promises once its last step is made.
use Rattle.std.specs.Prelude.{◌≡◌, ◌⊎◌, [], ℕ, Bool, true, false, List, Some}
use Rattle.std.specs.List.{list_all}
use Rattle.std.proofs.Common.{refl, ap, sym, subst, ◌∙◌, inl, inr}
use Rattle.run_grows.specs.Given.SeizeWordsDeclared.fault.Fault.TheVariants.{Busy}
use Rattle.run_grows.specs.Given.RunsDeclared.effect.Effect.{Effect}
use Rattle.run_grows.specs.Given.RunsDeclared.event.Event.{Event}
use Rattle.run_grows.specs.Given.RunsDeclared.event.Event.TheVariants.{OneCall, Step, Go, Next}
use Rattle.run_grows.specs.Given.RunsDeclared.outcome.Outcome.{Outcome}
use Rattle.run_grows.specs.Given.RunsDeclared.outcome.Outcome.TheVariants.{Refused}
use Rattle.run_grows.specs.Given.SchedulesAfter.{after, moment, moments_from}
use Rattle.run_grows.specs.Given.SchedulesBeginning.{at_work}
use Rattle.run_grows.specs.Given.SchedulesEffects.{with_effects, worked}
use Rattle.run_grows.specs.Given.SchedulesEntry.{acted_on, caller_of, is_busy}
use Rattle.run_grows.specs.Given.SchedulesHanding.{AllFind, IsWhole, is_call_effect, is_granted, may_do}
use Rattle.run_grows.specs.Given.SchedulesLinearizable.{IsLinearizable}
use Rattle.run_grows.specs.Given.SchedulesMoment.{Moment}
use Rattle.run_grows.specs.Given.SchedulesReclaims.{IsProtected}
use Rattle.run_grows.specs.Given.EffectsEffects.{effects_of, known_after}
use Rattle.run_grows.specs.Given.EffectsKnown.{Known}
use Rattle.run_grows.specs.Given.EffectsDeclared.acting.Acting.TheVariants as acts
use Rattle.run_grows.specs.Given.MomentsWhole.{RefinesWhole}
use Rattle.run_grows.proofs.Given.MomentsAfter.{effects_after}
use Rattle.run_grows.specs.Given.HistoriesInEvent.{here_of}
use Rattle.run_grows.specs.Given.HistoriesQuestions.{EventAsksStill}
use Rattle.run_grows.proofs.Given.HistoriesAnyCall.InEvent.{events_end}
use Rattle.run_grows.specs.Given.PromisesProtected.{InMidst}
use Rattle.run_grows.specs.Given.PromisesSheltered.{SectionsHold}
use Rattle.run_grows.proofs.Given.PromisesProtected.{calls_protect, other_events_end_protected}
use Rattle.run_grows.proofs.Given.PromisesWeights.{grants_add_up, operations_are_single}
use Rattle.run_grows.specs.Given.FindsDoing.{takes_steps}
use Rattle.run_grows.specs.Given.FindsParts.{FindAll}
use Rattle.run_grows.proofs.Given.FindsDoing.{events_may_do, several_do_theirs}
use Rattle.run_grows.proofs.Given.FindsJoined.{events_find_all}
use Rattle.run_grows.proofs.Given.FindsOver.{acts as acts_on_its}
use Rattle.run_grows.proofs.Given.FindsSteps.{steps_do_theirs}
use Rattle.run_legal.specs.CallEvents.{CallEventsAreLegal}
use Rattle.run_legal.proofs.Calls.{out_of_slots}
use Rattle.run_legal.proofs.CallReads.{reads_briefly}
use Rattle.run_grows.specs.Given.SchedulesTransition.{past, transition}

-- an event of a call that was not kept out need do nothing whole
module _ {K V : Type 0} (own : List ℕ) (effects : List Effect) (m w : Moment K V) where
  whole_so : (event : Event K V) (outcome : Outcome V) → caller_of event ≡ Some own → is_busy outcome ≡ false → IsWhole event outcome effects m w
  whole_so (OneCall guard map call) (Refused Busy) is busy = absurd (cc busy)
  whole_so (OneCall guard map call) _ is busy = tt
  whole_so (Step caller refuse) (Refused Busy) is busy = absurd (cc busy)
  whole_so (Step caller refuse) _ is busy = tt
  whole_so (Go caller refuse) (Refused Busy) is busy = absurd (cc busy)
  whole_so (Go caller refuse) _ is busy = tt
  whole_so (Next caller) (Refused Busy) is busy = absurd (cc busy)
  whole_so (Next caller) _ is busy = tt
  whole_so _ outcome is busy = absurd (cc is)

pub call_events_are_legal : (K V : Type 0) (same : K → K → Bool) (hash : ℕ → K → ℕ) → CallEventsAreLegal K V same hash
call_events_are_legal K V same hash name terms log beginning map i c c_is steps done m known s u e midst questions old new at said leads begins acted effects_are comes steps_taken busy finds few_steps swept refuses leaves by_model = (
  record {
    brief = reads_briefly K V same hash name terms log beginning map i c steps done m known s u e midst old new at said leads begins acted effects_are few_steps;
    linearizable = asked.0;
    swept = swept;
    life = record {
      finds = all_find;
      may = allowed steps_taken;
      granted = subst (λ (fs : List Effect). is_granted false fs ≡ true) (sym effects_are)
          (grants_add_up done effects midst.granted (operations_are_single (acts.Call i map) known new.changed).1);
      refuses = refuses;
      whole = whole_so (name i) e.effects (moment log) (worked e (moment log)) e.event e.outcome midst.of_call busy;
      leaves = leaves;
    };
    protected = safe.0;
    by_model = by_model;
  },
  safe.1,
)
  where
    whole : RefinesWhole same name m known s
    whole = midst.calls.whole

    here : s.calls map i ≡ Some u
    here = here_of same name (past log) beginning map i c done m known s u midst.event_so

    effects : List Effect
    effects = effects_of (acts.Call i map) known new.changed

    v : Moment K V
    v = with_effects (Some (name i)) (Some map) effects m

    then_known : Known
    then_known = known_after (acts.Call i map) new.changed known

    asked : IsLinearizable same log e × EventAsksStill log e
    asked = events_end K V same hash name (past log) beginning map i c c_is questions done m known s u midst.event_so old new at said leads (transition log e) midst.of_call begins (ap (acted_on e.event) begins ∙ acted) effects_are comes

    -- the map of the call is that on which the event acts
    its_map : map ≡ c.map
    its_map = let both : Some map ≡ Some c.map = sym acted ∙ acts_on_its e.event beginning (name i) c midst.of_call c_is in cc both

    all_find : AllFind terms log e (at_work e (moment log))
    all_find = subst (λ (b : Moment K V). AllFind terms log e b) (sym begins)
        (events_find_all K V terms log e beginning (name i) c midst.of_call c_is (subst (λ (n : ℕ). FindAll terms (moments_from c.begun log) (name i) n e.effects beginning) its_map finds))

    worked_so : v ≡ with_effects (Some (name i)) (Some map) e.effects beginning
    worked_so = ap (λ (x : Moment K V). with_effects (Some (name i)) (Some map) effects x) midst.worked ∙ sym (effects_after (Some (name i)) (Some map) done effects beginning)
        ∙ ap (λ (fs : List Effect). with_effects (Some (name i)) (Some map) fs beginning) (sym effects_are)

    safe : IsProtected log e × SectionsHold (after e (moment log)) then_known (leads map u here).4.w2
    safe = other_events_end_protected K V log e beginning v (Some (name i)) (Some map) then_known (leads map u here).4.w2 (out_of_slots (name i) e.event midst.of_call) begins midst.of_call acted worked_so
        (subst (λ (fs : List Effect). InMidst e.event fs v then_known (leads map u here).4.w2) (sym effects_are)
        (calls_protect K V same hash name m known s old new at whole map i u here said leads e.event (out_of_slots (name i) e.event midst.of_call) done midst.protects))

    -- it may do all that, if it takes steps at all
    allowed : (takes_steps e.event ≡ true) ⊎ (e.effects ≡ []) → list_all (may_do e.event (moment log)) e.effects ≡ true
    allowed (inl takes) = events_may_do K V e.event (moment log) e.effects takes
        (subst (λ (fs : List Effect). list_all is_call_effect fs ≡ true) (sym effects_are)
        (several_do_theirs done effects midst.kinds (steps_do_theirs K V same hash name m known s old new at whole map i u here said leads)))
    allowed (inr none) = subst (λ (fs : List Effect). list_all (may_do e.event (moment log)) fs ≡ true) (sym none) refl
