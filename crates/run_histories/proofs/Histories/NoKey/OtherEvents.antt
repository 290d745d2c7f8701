-- An event of steps of a call on no key is linearizable: it removes what it may, and asks what it may.
use Rattle.std.specs.Prelude.{◌≡◌, ℕ, Bool, List, ◌++◌, flat_map, Option, Some, None, ◌⊎◌}
use Rattle.std.proofs.Common.{refl, ap, sym, subst, ◌∙◌, inl, inr}
use Rattle.run_places.specs.Given.SeizeWorld.{with_at}
use Rattle.run_places.specs.Given.TablesDeclared.node.Node.{Node}
use Rattle.run_places.specs.Given.ReservesDeclared.sweep.Purpose.TheVariants.{Retains}
use Rattle.run_places.specs.Given.ReservesDeclared.sweep.Sweeping.{Sweeping}
use Rattle.run_places.specs.Given.ReservesDeclared.sweep.Sweeping.TheVariants as at
use Rattle.run_places.specs.Given.RawProgress.{of_outcome, of_counting}
use Rattle.run_places.specs.Given.RawDeclared.machines.machine.Machine.{Machine}
use Rattle.run_places.specs.Given.RawDeclared.machines.machine.Machine.TheVariants as kinds
use Rattle.run_places.specs.Given.RawDeclared.machines.progress.Progress.{Progress}
use Rattle.run_places.specs.Given.RawDeclared.machines.progress.Progress.TheVariants as progress
use Rattle.run_places.specs.Given.ResizeDeclared.yielding.Yielding.{Yielding as Ending}
use Rattle.run_places.specs.Given.ResizeDeclared.yielding.Yielding.TheVariants as rooms
use Rattle.run_places.specs.Given.SeizeDeclared.advance.Advance.{Advance as Counted}
use Rattle.run_places.specs.Given.SeizeDeclared.advance.Advance.TheVariants as counts
use Rattle.run_places.specs.Given.RunsDeclared.call.Call.{Call}
use Rattle.run_places.specs.Given.RunsDeclared.call.Call.TheVariants as call
use Rattle.run_places.specs.Given.RunsDeclared.effect.Effect.{Effect}
use Rattle.run_places.specs.Given.RunsDeclared.outcome.Outcome.{Outcome}
use Rattle.run_places.specs.Given.RunsDeclared.outcome.Outcome.TheVariants as outcome
use Rattle.run_places.specs.Given.SchedulesEffects.{with_effects}
use Rattle.run_places.specs.Given.SchedulesEntry.{acting, IfCall}
use Rattle.run_places.specs.Given.SchedulesLinearizable.{shift_of, RemovesOnly, MayAsk, AsksRight, Linearizes}
use Rattle.run_places.specs.Given.SchedulesMoment.{CallState, Going, Asking, Told, IsReady, UnderWay as CallThere, Moment}
use Rattle.run_places.specs.Given.SchedulesViews.{call_of, finite_map}
use Rattle.run_places.specs.Given.RuleWords.{Blocks}
use Rattle.run_places.specs.Given.LateToldSweeps.{IsRowOfSweep}
use Rattle.run_places.specs.Given.LateFactsSweeps.{SweepingFacts}
use Rattle.run_places.specs.Given.CallersOverAll.{CallOverAll}
use Rattle.run_places.specs.Given.CallersSights.{seen_by}
use Rattle.run_places.specs.Given.CallersTogether.{CallOnKey, UnderWay, OnKey, ForRoom, Counting, OverAll, Together, in_slot}
use Rattle.run_places.proofs.Given.CallersTogether.At.{at_same}
use Rattle.run_places.specs.Given.EffectsEffects.{effects_of, known_after}
use Rattle.run_places.specs.Given.EffectsKnown.{Known}
use Rattle.run_places.specs.Given.EffectsDeclared.acting.Acting.TheVariants as acts
use Rattle.run_places.specs.Given.FinishesMachines.{machine_of}
use Rattle.run_places.specs.Given.FinishesMaps.{Standing}
use Rattle.run_places.specs.Given.FollowsSteps.{Did}
use Rattle.run_histories.specs.Histories.AsCalled.{purpose_of, IsAsCalled, RefinesAsCalled}
use Rattle.run_histories.specs.Histories.Asking.{IsQuestionAsked}
use Rattle.run_histories.specs.Histories.Due.{RefinesPendingAnswers}
use Rattle.run_histories.specs.Histories.OtherMidsts.{AsksAsSaid, InOtherMidst, OtherMidstsEnd, OtherMidstsAskStill}
use Rattle.run_histories.specs.Histories.Questions.{GoesItself, AsksStill, AsksOnStill}
use Rattle.run_histories.proofs.Histories.NoKey.AsCalled.{calls_keep_as_called}
use Rattle.run_places.proofs.Changes.Found.{map_alike}
use Rattle.run_histories.proofs.Histories.OtherCalls.{IsNoQuestion, asks_none, others_are_linearizable}
use Rattle.run_histories.proofs.Histories.OtherMidsts.{on_no_key, there_other, there_called, d, d_is, d_stands, fewer_so, removes_so, worked_then, other_midsts_keep_due}
use Rattle.run_histories.proofs.Histories.Retaining.{retainings_may_ask}
use Rattle.run_histories.proofs.Histories.Several.{stands}
use Rattle.run_histories.proofs.Histories.NoKey.Sweeps.{SweepsOn, sweeps_on, asks_still}
use Rattle.run_places.specs.Given.ScenesHeld.{Held, IsAt}
use Rattle.run_places.specs.Given.ScenesScene.{Scene, slot_of}
use Rattle.run_places.specs.Given.ScenesStepping.{StepLeads, StepsFrom, scene_after}
use Rattle.run_places.specs.Given.SchedulesTransition.{Past, Transition, worked_by}
use Rattle.run_places.proofs.Given.General.{same_some as one_of}

-- a reservation and a counting say of nothing that they ask it
module _ {T : Type 0} where
  pub room_asks_none : (end : Ending T Unit) (about : Option ℕ) → of_outcome end ≡ progress.Asks about → ⊥
  room_asks_none rooms.Goes about e = absurd (cc e)
  room_asks_none rooms.Waits about e = absurd (cc e)
  room_asks_none (rooms.Gave value) about e = absurd (cc e)
  room_asks_none (rooms.Done it) about e = absurd (cc e)
  room_asks_none (rooms.Refused fault) about e = absurd (cc e)

  pub counting_asks_none : (end : Counted ℕ) (about : Option ℕ) → of_counting {T = T} end ≡ progress.Asks about → ⊥
  counting_asks_none counts.Goes about e = absurd (cc e)
  counting_asks_none counts.Waits about e = absurd (cc e)
  counting_asks_none (counts.Done count) about e = absurd (cc e)
  counting_asks_none (counts.Refused fault) about e = absurd (cc e)

-- an event asks, or does not
pub asks_or_none : {V : Type 0} (o : Outcome V) → ((question : Option ℕ) × (o ≡ outcome.Asks question)) ⊎ IsNoQuestion o
asks_or_none (outcome.Asks question) = inl (question, refl)
asks_or_none _ = inr tt

-- what asks does not go on by itself
no_going : (K : Type 0) {V : Type 0} (known : Known) (about : Option ℕ) (o : Outcome V) → AsksAsSaid {K = K} {V = V} known (progress.Asks about) o → GoesItself o → ⊥
no_going K known about (outcome.Asks question) as_said goes = goes
no_going K known about _ as_said goes = as_said

module _ {K V : Type 0} (same : K → K → Bool) (hash : ℕ → K → ℕ) (name : ℕ → List ℕ) (log : Past K V) (beginning : Moment K V) (map i : ℕ) (c : CallThere K V)
    (done : List Effect) (m : Moment K V) (known : Known) (s : Scene K V) (u : UnderWay K V K) (midst : InOtherMidst same name log beginning map i c done m known s u)
    (old new : Held K V) (at_old : IsAt same hash old s) where
  abbrev known2 : Known
  known2 = known_after (acts.Call i map) new.changed known

  module _ (about : Option ℕ) (leads : StepLeads same hash i (progress.Asks about) s old new) where
    abbrev call_then : CallThere K V
    call_then = d same hash name log beginning map i c done m known s u midst old new at_old (progress.Asks about) leads

    abbrev then_at : Moment K V
    then_at = with_effects (Some (name i)) (Some map) (effects_of (acts.Call i map) known new.changed) m

    abbrev s2 : Scene K V
    s2 = scene_after same s old new map i (leads map u midst.here).0 u (leads map u midst.here).1 (progress.Asks about) (leads map u midst.here).4

    abbrev at_new : IsAt same hash new s2
    at_new = (leads map u midst.here).5

    next : UnderWay K V K
    next = (leads map u midst.here).4.goes_on.0

    next_here : s2.calls map i ≡ Some next
    unfolding next
    next_here = ap (λ (f : ℕ → Option (UnderWay K V K)). f i) (at_same s.calls map (with_at (s.calls map) i (leads map u midst.here).4.next) map refl)
        ∙ at_same (s.calls map) i (leads map u midst.here).4.next i refl ∙ (leads map u midst.here).4.goes_on.1

    next_machine : machine_of next ≡ (leads map u midst.here).1
    unfolding next
    next_machine = (leads map u midst.here).4.goes_on.2

    dues2 : RefinesPendingAnswers same name log then_at known2 s2
    dues2 = other_midsts_keep_due K V same hash name log beginning map i c done m known s u midst old new at_old (progress.Asks about) leads

    called2 : RefinesAsCalled same name then_at known2 s2
    called2 = calls_keep_as_called K V same hash name m known s old new at_old midst.whole midst.called map i u midst.here (progress.Asks about) leads

    -- what each class has then
    fewer_then : (k : K) → (finite_map same map then_at k ≡ finite_map same map log.now k) ⊎ (finite_map same map then_at k ≡ None)
    fewer_then k = elim (fewer_so same hash name log beginning map i c done m known s u midst old new at_old (progress.Asks about) leads k)
        as (λ _. (finite_map same map then_at k ≡ finite_map same map log.now k) ⊎ (finite_map same map then_at k ≡ None)) [
          | inl kept ↦ inl (kept ∙ map_alike same map k log.now beginning midst.begins.0 midst.begins.1)
          | inr gone ↦ inr gone
        ]

    -- only a sweep says that it asks, and stands there
    abbrev AsksThere : Type 0
    AsksThere = (o : CallOverAll) × (next ≡ OverAll o) × (word : ℕ) × (about ≡ Some word) × (o.sweep.stands ≡ at.Asks word)

    sweep_asks : (o : CallOverAll) → StepsFrom same (leads map u midst.here).0.hash (kinds.Sweep o.sweep) old new (leads map u midst.here).1 (progress.Asks about) → AsksThere
    sweep_asks o steps = by next refl (subst (λ (z : Machine K V K). SweepsOn o.sweep.purpose (z, progress.Asks about)) (sym next_machine) (sweeps_on same (leads map u midst.here).0.hash old new o.sweep (leads map u midst.here).1 (progress.Asks about) steps))
      where
        by : (x : UnderWay K V K) → next ≡ x → SweepsOn o.sweep.purpose (machine_of x, progress.Asks about) → AsksThere
        by (OverAll q) is so = (q, is, so.1.0, so.1.1, so.1.2)
        by (OnKey x) is so = absurd so
        by (ForRoom r) is so = absurd so
        by (Counting sum) is so = absurd so

    abbrev DidIt : UnderWay K V K → Type 0
    DidIt x =
        Did same old.batch_size old.roots s.world s.maps s.calls s.makers s.enders map (leads map u midst.here).0 i new.memory (leads map u midst.here).4.w2 (leads map u midst.here).4.maps2
        (leads map u midst.here).4.next x (leads map u midst.here).1 (progress.Asks about)

    asks_there : AsksThere
    asks_there = by u (on_no_key same u midst.there.call
        (there_called same hash name log beginning map i c done m known s u midst old new at_old (progress.Asks about) leads)
        (there_other same hash name log beginning map i c done m known s u midst old new at_old (progress.Asks about) leads)) (leads map u midst.here).3 (leads map u midst.here).4.did
      where
        by : (x : UnderWay K V K) → ((y : CallOnKey K V K) → x ≡ OnKey y → ⊥) → StepsFrom same (leads map u midst.here).0.hash (machine_of x) old new (leads map u midst.here).1 (progress.Asks about) → DidIt x → AsksThere
        by (OnKey x) none steps did = absurd (none x refl)
        by (ForRoom r) none steps (p2, end, machine_is, told_is, did) = absurd (room_asks_none end about (sym told_is))
        by (Counting sum) none steps (sum2, end, machine_is, told_is, still, stayed) = absurd (counting_asks_none end about (sym told_is))
        by (OverAll o) none steps did = sweep_asks o steps

    pub asks_next : (o : CallOverAll) × ((leads map u midst.here).4.next ≡ Some (OverAll o)) × (word : ℕ) × (about ≡ Some word) × (o.sweep.stands ≡ at.Asks word)
    unfolding next
    asks_next = let it = asks_there in (it.0, (leads map u midst.here).4.goes_on.1 ∙ ap Some it.1, it.2, it.3, it.4)

    -- so it is a retaining, and may ask that
    module _ (o : CallOverAll) (next_is : next ≡ OverAll o) (word : ℕ) (stands_at : o.sweep.stands ≡ at.Asks word) where
      here2 : s2.calls map i ≡ Some (OverAll o)
      here2 = next_here ∙ ap Some next_is

      abbrev st : Standing K
      st = (stands same hash s2 new at_new map i (OverAll o) here2).0

      st_is : s2.maps map ≡ Some st
      st_is = (stands same hash s2 new at_new map i (OverAll o) here2).1

      each : Together V same st.hash same st.setting slot_of s2.world st.chart st.blocks st.sights (s2.calls map)
      each = at_new.together.makings.standing.each map st st_is

      abbrev seen : Blocks
      seen = seen_by st.blocks (st.sights (slot_of i))

      retaining : o.sweep.purpose ≡ Retains
      retaining = elim (each.stand i (OverAll o) here2) as (λ _. o.sweep.purpose ≡ Retains) [
        | inl k ↦ (subst (λ (z : Sweeping). SweepingFacts same st.hash s2.world i (in_slot st.setting (slot_of i)) st.chart seen o.began o.sweep z) stands_at k.1.facts.point).0
        | inr k ↦ absurd (subst IsRowOfSweep stands_at k.1)
      ]

      retain_is : (its : Call K V) → purpose_of its ≡ Some Retains → its ≡ call.Retain
      retain_is call.Retain is = refl
      retain_is call.Clear is = absurd (cc is)
      retain_is call.Walk is = absurd (cc is)
      retain_is (call.On one) is = absurd (cc is)
      retain_is (call.Reserve n) is = absurd (cc is)
      retain_is call.Len is = absurd (cc is)

      its_call : call_then.call ≡ call.Retain
      its_call = retain_is call_then.call ((called2.each map i (OverAll o) here2 st st_is call_then then_is).purpose ∙ ap Some retaining)
        where
          then_is : call_of (name i) then_at ≡ Some call_then
          then_is = d_is same hash name log beginning map i c done m known s u midst old new at_old (progress.Asks about) leads

      may_ask : (question : Option ℕ) → IsQuestionAsked known2 (Some word) question → MayAsk same call_then.call call_then (log.since call_then.begun) question
      may_ask None told = absurd told
      may_ask (Some q) names = subst (λ (x : Call K V). MayAsk same x call_then (log.since call_then.begun) (Some q)) (sym its_call)
          (retainings_may_ask K V same hash name log then_at known2 s2 new at_new dues2.history map i o here2 call_then
          (d_is same hash name log beginning map i c done m known s u midst old new at_old (progress.Asks about) leads) fewer_then word q stands_at names)

    may_ask_that : (question : Option ℕ) → IsQuestionAsked known2 about question → MayAsk same call_then.call call_then (log.since call_then.begun) question
    may_ask_that question told =
        let it = asks_there in may_ask it.0 it.1 it.2 it.4 question (subst (λ (z : Option ℕ). IsQuestionAsked known2 z question) it.3 told)

    asks_right : (question : Option ℕ) → IsQuestionAsked known2 about question → (its : CallState) → AsksRight same its call_then (log.since call_then.begun) (outcome.Asks question)
    asks_right question told (Asking q) = tt
    asks_right question told Going = may_ask_that question told
    asks_right question told Told = may_ask_that question told
    asks_right question told IsReady = may_ask_that question told

  abbrev at_end : (said : Progress (Node K V)) → StepLeads same hash i said s old new → CallThere K V
  at_end said leads = d same hash name log beginning map i c done m known s u midst old new at_old said leads

  asked : (said : Progress (Node K V)) (leads : StepLeads same hash i said s old new) (question : Option ℕ) → AsksAsSaid known2 said (outcome.Asks question)
      → AsksRight same (at_end said leads).stands (at_end said leads) (log.since (at_end said leads).begun) (outcome.Asks question)
  asked (progress.Asks about) leads question as_said = asks_right about leads question as_said (at_end (progress.Asks about) leads).stands
  asked _ leads question as_said = absurd as_said

  module _ (c_is : call_of (name i) beginning ≡ Some c) (said : Progress (Node K V)) (leads : StepLeads same hash i said s old new) (t : Transition K V) (is_caller : t.caller ≡ Some (name i))
      (begun : t.found ≡ beginning) (acts_on : t.map ≡ Some map)
      (effects_are : t.effects ≡ done ++ effects_of (acts.Call i map) known new.changed) (as_said : AsksAsSaid known2 said t.outcome) where
    abbrev call_at_end : CallThere K V
    call_at_end = at_end said leads

    end_is : call_of (name i) (worked_by t) ≡ Some call_at_end
    end_is =
        ap (call_of (name i)) (
        ap (λ (b : Moment K V). with_effects (t.caller) (t.map) t.effects b) begun
        ∙ ap (λ (o : Option (List ℕ)). with_effects o (t.map) t.effects beginning) is_caller
        ∙ ap (λ (o : Option ℕ). with_effects (Some (name i)) o t.effects beginning) acts_on
        ∙ ap (λ (l : List Effect). with_effects (Some (name i)) (Some map) l beginning) effects_are
        ∙ sym (worked_then same hash name log beginning map i c done m known s u midst old new at_old said leads))
        ∙ d_is same hash name log beginning map i c done m known s u midst old new at_old said leads

    right : AsksRight same call_at_end.stands call_at_end (log.since call_at_end.begun) t.outcome
    right = elim (asks_or_none t.outcome) as (λ _. AsksRight same call_at_end.stands call_at_end (log.since call_at_end.begun) t.outcome) [
      | inl (question, is) ↦
          subst (λ (o : Outcome V). AsksRight same call_at_end.stands call_at_end (log.since call_at_end.begun) o) (sym is) (asked said leads question (subst (λ (o : Outcome V). AsksAsSaid known2 said o) is as_said))
      | inr none ↦ asks_none same call_at_end (log.since call_at_end.begun) call_at_end.stands t.outcome none
    ]

    pub linearizable : Linearizes same log t
    linearizable = others_are_linearizable K V same log t (name i) map c is_caller (ap (call_of (name i)) begun ∙ c_is) acts_on midst.other
        (subst (λ (l : List Effect). RemovesOnly same c.call c (flat_map shift_of l)) (sym effects_are)
        (removes_so same hash name log beginning map i c done m known s u midst old new at_old said leads))
        (λ x x_is. subst (λ (y : CallThere K V). AsksRight same y.stands y (log.since y.begun) t.outcome) (one_of call_at_end x (sym end_is ∙ x_is)) right)

    -- a call that asks says so by the last step, too
    still_asks : (question : Option ℕ) → midst.there.stands ≡ Asking question → GoesItself t.outcome → ⊥
    still_asks question asks goes =
        by u (on_no_key same u midst.there.call (there_called same hash name log beginning map i c done m known s u midst old new at_old said leads)
        (there_other same hash name log beginning map i c done m known s u midst old new at_old said leads)) (leads map u midst.here).3
        (midst.called.each map i u midst.here (leads map u midst.here).0 (leads map u midst.here).2 midst.there midst.there_is)
      where
        by : (x : UnderWay K V K) → ((y : CallOnKey K V K) → x ≡ OnKey y → ⊥) → StepsFrom same (leads map u midst.here).0.hash (machine_of x) old new (leads map u midst.here).1 said
            → IsAsCalled (midst.called.shown.number map) (leads map u midst.here).0.chart.stored known x midst.there → ⊥
        by (OnKey x) none steps h = none x refl
        by (ForRoom r) none steps h = h question asks
        by (Counting sum) none steps h = h question asks
        by (OverAll o) none steps h =
            let at_word = h.asks question asks in
            let says = (asks_still same (leads map u midst.here).0.hash old new o.sweep (leads map u midst.here).1 said steps at_word.0 at_word.1).1 in
            no_going K known2 (Some at_word.0) t.outcome (subst (λ (x : Progress (Node K V)). AsksAsSaid known2 x t.outcome) says as_said) goes

    still_so : (its : CallState) → call_at_end.stands ≡ its → AsksStill its t.outcome
    still_so (Asking question) is = still_asks question (sym (d_stands same hash name log beginning map i c done m known s u midst old new at_old said leads) ∙ is)
    still_so Going is = tt
    still_so Told is = tt
    still_so IsReady is = tt

    pub asks_on : AsksOnStill t
    asks_on =
        subst (λ (o : Option (List ℕ)). IfCall (λ (y : CallThere K V). AsksStill y.stands t.outcome) (acting o (worked_by t))) (sym is_caller)
        (subst (λ (x : Option (CallThere K V)). IfCall (λ (y : CallThere K V). AsksStill y.stands t.outcome) x) (sym end_is) (still_so call_at_end.stands refl))

module _ (K V : Type 0) (same : K → K → Bool) (hash : ℕ → K → ℕ) where
  pub other_midsts_end : OtherMidstsEnd K V same hash
  other_midsts_end name log beginning map i c c_is done m known s u midst old new at_old said leads t is_caller begun acts_on effects_are as_said =
      linearizable same hash name log beginning map i c done m known s u midst old new at_old c_is said leads t is_caller begun acts_on effects_are as_said

  pub other_midsts_ask_still : OtherMidstsAskStill K V same hash
  other_midsts_ask_still name log beginning map i c c_is done m known s u midst old new at_old said leads t is_caller begun acts_on effects_are as_said =
      asks_on same hash name log beginning map i c done m known s u midst old new at_old c_is said leads t is_caller begun acts_on effects_are as_said
