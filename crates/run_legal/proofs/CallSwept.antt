-- An event of a call does what it is for, as the last step says.
use Rattle.std.specs.Prelude.{◌≡◌, ◌⊎◌, ℕ, Bool, List, Option, Some, None}
use Rattle.std.proofs.Common.{refl, ap, sym, subst, ◌∙◌, inl, inr}
use Rattle.run_grows.specs.Given.TablesDeclared.node.Node.{Node}
use Rattle.run_grows.specs.Given.RawDeclared.machines.progress.Progress.{Progress}
use Rattle.run_grows.specs.Given.RunsDeclared.call.Call.{Call}
use Rattle.run_grows.specs.Given.RunsDeclared.call.Call.TheVariants.{Clear, Len, On, Reserve, Retain, Walk}
use Rattle.run_grows.specs.Given.RunsDeclared.effect.Effect.{Effect}
use Rattle.run_grows.specs.Given.RunsDeclared.outcome.Outcome.{Outcome}
use Rattle.run_grows.specs.Given.SchedulesAfter.{moment}
use Rattle.run_grows.specs.Given.SchedulesEffects.{with_effects, worked}
use Rattle.run_grows.specs.Given.SchedulesEntry.{acted_on, acting, caller_of}
use Rattle.run_grows.specs.Given.SchedulesMoment.{UnderWay as CallThere, Moment}
use Rattle.run_grows.specs.Given.SchedulesSweeps.{IsSwept}
use Rattle.run_grows.specs.Given.SchedulesViews.{call_of, finite_map}
use Rattle.run_grows.specs.Given.CallersTogether.{UnderWay, OnKey, ForRoom, Counting, OverAll}
use Rattle.run_grows.specs.Given.EffectsEffects.{effects_of, known_after}
use Rattle.run_grows.specs.Given.EffectsKnown.{Known}
use Rattle.run_grows.specs.Given.EffectsDeclared.acting.Acting.TheVariants as acts
use Rattle.run_grows.specs.Given.MomentsWhole.{RefinesWhole}
use Rattle.run_grows.proofs.Given.MomentsAfter.{effects_after}
use Rattle.run_grows.specs.Given.HistoriesInEvent.{InEvent, here_of}
use Rattle.run_grows.specs.Given.HistoriesSeveral.{IsSameCall}
use Rattle.run_grows.proofs.Given.HistoriesOtherMidsts.{fewer_so}
use Rattle.run_grows.proofs.Given.PromisesBrief.Meanwhile.{effects_steps}
use Rattle.run_sweeps.specs.Purposes.Kept.{PairsChangeFirst}
use Rattle.run_grows.specs.Given.PurposesShards.{ReadsShards}
use Rattle.run_sweeps.specs.Purposes.Swept.{EndsWithOutcome as IsToldSo}
use Rattle.run_sweeps.proofs.Purposes.FindsRoom.{reservations_are_swept}
use Rattle.run_sweeps.proofs.Purposes.Nothing.{calls_on_keys_are_swept, other_outcomes_are_swept}
use Rattle.run_sweeps.proofs.Purposes.Shows.{walks_show}
use Rattle.run_sweeps.proofs.Purposes.ShowsAll.{walks_show_all}
use Rattle.run_sweeps.proofs.Purposes.Swept.{clearings_are_swept, countings_are_swept, retainings_are_swept}
use Rattle.run_legal.specs.CallSwept.{CallsAreSwept, OutcomeOf}
use Rattle.run_legal.proofs.CallChanges.{reads_shards}
use Rattle.run_legal.proofs.CallPairs.{begun_so, none_comes, pairs_first}
use Rattle.run_legal.proofs.CallReads.{there_still}
use Rattle.run_grows.specs.Given.ScenesStepping.{StepLeads}
use Rattle.run_grows.specs.Given.SchedulesTransition.{past, transition}

pub calls_are_swept : (K V : Type 0) (same : K → K → Bool) (hash : ℕ → K → ℕ) → CallsAreSwept K V same hash
calls_are_swept K V same hash name terms log beginning map i c steps done m known s u e midst old new at said leads begins acted effects_are mask tells = by c.call refl tells
  where
    whole : RefinesWhole same name m known s
    whole = midst.calls.whole

    here : s.calls map i ≡ Some u
    here = here_of same name (past log) beginning map i c done m known s u midst.event_so

    v : Moment K V
    v = with_effects (Some (name i)) (Some map) (effects_of (acts.Call i map) known new.changed) m

    then_known : Known
    then_known = known_after (acts.Call i map) new.changed known

    its : (d : CallThere K V) × (call_of (name i) m ≡ Some d) × IsSameCall c d
    its = there_still same name log beginning map i c done m known s u midst.event_so

    worked_is : worked e (moment log) ≡ v
    worked_is =
        ap (λ (b : Moment K V). with_effects (caller_of e.event) (acted_on e.event b) e.effects b) begins
        ∙ ap (λ (o : Option ℕ). with_effects (caller_of e.event) o e.effects beginning) acted
        ∙ ap (λ (who : Option (List ℕ)). with_effects who (Some map) e.effects beginning) midst.of_call
        ∙ ap (λ (fs : List Effect). with_effects (Some (name i)) (Some map) fs beginning) effects_are
        ∙ effects_after (Some (name i)) (Some map) done (effects_of (acts.Call i map) known new.changed) beginning
        ∙ ap (λ (x : Moment K V). with_effects (Some (name i)) (Some map) (effects_of (acts.Call i map) known new.changed) x) (sym midst.worked)

    pairs : PairsChangeFirst (past log) m map v
    pairs = pairs_first same hash name log beginning map i c done m known s whole old new at said leads u midst.event_so
        (begun_so same name log beginning map i c done m known s u midst.event_so) midst.worked midst.its_own

    shards : ReadsShards (past log) m s map u
    shards = reads_shards K V same hash name log m known s old new at whole midst.calls.counters map i u here said leads midst.unadded

    -- a walk brings no pair, nor takes one in
    fewer : (x : UnderWay K V K) → InEvent same name (past log) beginning map i c done m known s x → c.call ≡ Walk
        → (k : K) → (finite_map same map v k ≡ finite_map same map beginning k) ⊎ (finite_map same map v k ≡ None)
    fewer (OnKey x) event_so walk = absurd (let on_key = event_so.1 in cc (on_key, walk))
    fewer (ForRoom r) event_so walk = fewer_so same hash name (past log) beginning map i c done m known s (ForRoom r) event_so old new at said leads
    fewer (Counting sum) event_so walk = fewer_so same hash name (past log) beginning map i c done m known s (Counting sum) event_so old new at said leads
    fewer (OverAll o) event_so walk = fewer_so same hash name (past log) beginning map i c done m known s (OverAll o) event_so old new at said leads

    Told : Outcome V → Type 0
    Told o = IsToldSo then_known said o

    by : (call : Call K V) → c.call ≡ call → OutcomeOf same log m map then_known said e.outcome call → IsSwept same terms log e
    by (On one) is told =
        let kept = effects_steps (name i) map (name i) (effects_of (acts.Call i map) known new.changed) m its.0 its.1 in
        calls_on_keys_are_swept K V same terms (past log) (transition log e) kept.0 one
        (ap (λ (who : Option (List ℕ)). acting who (worked e (moment log))) midst.of_call ∙ ap (λ (x : Moment K V). call_of (name i) x) worked_is ∙ kept.1) (kept.3 ∙ its.2.call ∙ is)
    by Len is (inl silent) = other_outcomes_are_swept K V same terms (past log) (transition log e) silent
    by Len is (inr (n, told_is, told)) = countings_are_swept K V same hash n name (past log) m known s old new at whole midst.calls.purposes map i u here said leads its.0 its.1 (its.2.call ∙ is) shards
        (subst Told told_is told) terms mask (transition log e) midst.of_call worked_is told_is
    by (Reserve more) is (inl silent) = other_outcomes_are_swept K V same terms (past log) (transition log e) silent
    by (Reserve more) is (inr (told_is, told)) = reservations_are_swept K V same hash more name (past log) m known s old new at whole midst.calls.purposes map i u here said leads its.0 its.1 (its.2.call ∙ is)
        shards (subst Told told_is told) terms mask (transition log e) midst.of_call worked_is told_is
    by Clear is (inl silent) = other_outcomes_are_swept K V same terms (past log) (transition log e) silent
    by Clear is (inr (told_is, told)) = clearings_are_swept K V same hash name (past log) m known s old new at whole midst.calls.purposes map i u here said leads its.0 its.1 (its.2.call ∙ is) pairs
        (subst Told told_is told) terms mask (transition log e) midst.of_call worked_is told_is
    by Retain is (inl silent) = other_outcomes_are_swept K V same terms (past log) (transition log e) silent
    by Retain is (inr (told_is, told)) = retainings_are_swept K V same hash name (past log) m known s old new at whole midst.calls.purposes map i u here said leads its.0 its.1 (its.2.call ∙ is) pairs
        (subst Told told_is told) terms mask (transition log e) midst.of_call worked_is told_is
    by Walk is (inl silent) = other_outcomes_are_swept K V same terms (past log) (transition log e) silent
    by Walk is (inr (inl (n, told_is, told))) = walks_show K V same hash n name (past log) m known s old new at whole midst.calls.purposes map i u here said leads its.0 its.1 (its.2.call ∙ is) (
      pairs,
      none_comes same hash name log beginning map i c done m known s whole old new at said leads u midst.event_so (begun_so same name log beginning map i c done m known s u midst.event_so)
          midst.worked midst.its_own (fewer u midst.event_so is),
    ) (subst Told told_is told) terms mask (transition log e) midst.of_call worked_is told_is
    by Walk is (inr (inr (told_is, said_is, loses))) = walks_show_all K V same hash name (past log) m known s old new at whole midst.calls.purposes map i u here
        (subst (λ (x : Progress (Node K V)). StepLeads same hash i x s old new) said_is leads) its.0 its.1 (its.2.call ∙ is) loses terms (transition log e) midst.of_call worked_is told_is
