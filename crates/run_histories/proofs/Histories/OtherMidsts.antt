-- In the midst of an event of several steps of a call on no key that only removes pairs, and at its end.
use Rattle.std.specs.Prelude.{◌≡◌, ℕ, ◌<◌, Bool, true, List, ◌++◌, flat_map, Option, Some, None, ◌⊎◌}
use Rattle.std.proofs.Common.{refl, ap, sym, subst, ◌∙◌, inl, inr}
use Rattle.std.proofs.lemmas.Grind.{flat_map-append}
use Rattle.run_places.specs.Given.SeizeWorld.{with_at}
use Rattle.run_places.specs.Given.TablesDeclared.node.Node.{Node}
use Rattle.run_places.specs.Given.RawDeclared.machines.progress.Progress.{Progress}
use Rattle.run_places.specs.Given.RunsDeclared.call.Call.{Call}
use Rattle.run_places.specs.Given.RunsDeclared.call.Call.TheVariants as call
use Rattle.run_places.specs.Given.RunsDeclared.effect.Effect.{Effect}
use Rattle.run_places.specs.Given.SchedulesEffects.{with_effects}
use Rattle.run_places.specs.Given.SchedulesLinearizable.{shift_of, RemovesOnly}
use Rattle.run_places.specs.Given.SchedulesMoment.{UnderWay as CallThere, Moment}
use Rattle.run_places.specs.Given.SchedulesSequential.{Shift}
use Rattle.run_places.specs.Given.SchedulesViews.{call_of, finite_map}
use Rattle.run_places.specs.Given.RuleChart.{Chart}
use Rattle.run_places.proofs.Given.RuleLaws.{current_is_known}
use Rattle.run_places.specs.Given.CallersTogether.{CallOnKey, UnderWay, OnKey, ForRoom, Counting, OverAll, Together}
use Rattle.run_places.proofs.Given.CallersTogether.At.{at_same}
use Rattle.run_places.specs.Given.FinishesMaps.{Standing, IsSameMap}
use Rattle.run_places.specs.Given.EffectsEffects.{effects_of}
use Rattle.run_places.specs.Given.EffectsKnown.{Known}
use Rattle.run_places.specs.Given.EffectsDeclared.acting.Acting.TheVariants as acts
use Rattle.run_places.specs.Given.FollowsCalls.{IsCalled}
use Rattle.run_places.specs.Given.FollowsShows.{Refines}
use Rattle.run_places.proofs.Given.FollowsSteps.{WentTo, DidSo, LeadsThere}
use Rattle.run_places.proofs.Hands.Replacing.{calls_after}
use Rattle.run_places.specs.Moments.Whole.{RefinesWhole}
use Rattle.run_places.proofs.Moments.After.{effects_after}
use Rattle.run_places.proofs.Moments.Calls.{calls_keep_whole}
use Rattle.run_places.proofs.Moments.OnSlots.{stood_same}
use Rattle.run_places.specs.Changes.Had.{HadJust, HadThen}
use Rattle.run_places.specs.Changes.Kept.{ChangesFirst}
use Rattle.run_histories.specs.Histories.OtherCalls.{IsOnNoKey}
use Rattle.run_histories.specs.Histories.OtherMidsts.{InOtherMidst, OtherMidstsBegin, OtherMidstsContinue, OtherMidstsPreservePendingAnswers}
use Rattle.run_histories.specs.Histories.Several.{IsSameCall}
use Rattle.run_histories.proofs.Histories.NoKey.AsCalled.{calls_keep_as_called}
use Rattle.run_histories.proofs.Histories.Due.{calls_keep_due}
use Rattle.run_places.proofs.Changes.Found.{map_alike}
use Rattle.run_places.proofs.Changes.Had.{had_pair}
use Rattle.run_places.proofs.Changes.Later.{IsLater}
use Rattle.run_places.proofs.Changes.Now.{now_had}
use Rattle.run_histories.proofs.Histories.OtherCalls.{removals_added, removes_same, less_told, others_remove_only}
use Rattle.run_histories.proofs.Histories.Several.{call_then, same_then}
use Rattle.run_places.proofs.Changes.Steps.{to, led_on, moved_chart, maps_later, v, now_then}
use Rattle.run_places.specs.Given.ScenesHeld.{Held, IsAt}
use Rattle.run_places.specs.Given.ScenesScene.{Scene, slot_of}
use Rattle.run_places.specs.Given.ScenesStepping.{StepLeads}
use Rattle.run_places.specs.Given.SchedulesTransition.{Past}
use Rattle.run_places.proofs.Given.General.{same_some as one_of}

-- what is called for on no key is no call on a key
pub on_no_key : {K V : Type 0} (same : K → K → Bool) (u : UnderWay K V K) (its : Call K V) → IsCalled same u its → IsOnNoKey its → (x : CallOnKey K V K) → u ≡ OnKey x → ⊥
on_no_key same (OnKey u) (call.On one) is other x e = absurd other
on_no_key same (OnKey u) (call.Reserve n) is other x e = absurd is
on_no_key same (OnKey u) call.Clear is other x e = absurd is
on_no_key same (OnKey u) call.Retain is other x e = absurd is
on_no_key same (OnKey u) call.Len is other x e = absurd is
on_no_key same (OnKey u) call.Walk is other x e = absurd is
on_no_key same (ForRoom r) its is other x e = absurd (cc e)
on_no_key same (Counting sum) its is other x e = absurd (cc e)
on_no_key same (OverAll o) its is other x e = absurd (cc e)

module _ {K V : Type 0} (same : K → K → Bool) (hash : ℕ → K → ℕ) (name : ℕ → List ℕ) (m : Moment K V) (known : Known) (s : Scene K V) (old new : Held K V) (at : IsAt same hash old s)
    (whole : RefinesWhole same name m known s) (shown : Refines same name m known s) (map i : ℕ) (u : UnderWay K V K) (here : s.calls map i ≡ Some u) (said : Progress (Node K V))
    (leads : StepLeads same hash i said s old new) (its : Call K V) (called : IsCalled same u its) (other : IsOnNoKey its) where
  abbrev went : WentTo same hash name m known s old new at shown map i u here said leads
  went = to same hash name m known s old new at whole shown map i u here said leads

  abbrev st : Standing K
  st = went.0

  abbrev on : LeadsThere same hash name m known s old new at shown map i u here said leads
  on = led_on same hash name m known s old new at whole shown map i u here said leads

  abbrev v2 : Moment K V
  v2 = v same hash name m known s old new at whole shown map i u here said leads

  -- the map after the step
  abbrev st2 : Standing K
  st2 = record st { chart = went.4.its_map.0; blocks = went.4.its_map.1; sights = went.4.its_map.2 }

  st2_is : went.4.maps2 map ≡ Some st2
  st2_is = went.4.its_map.4

  abbrev Less : Type 0
  Less = (n : ℕ) → st2.chart.current n ≡ true → st.chart.current n ≡ true

  less_moved : (c2 : Chart K) → st2.chart ≡ c2 → ((n : ℕ) → c2.current n ≡ true → st.chart.current n ≡ true) → Less
  less_moved c2 is less n now = less n (ap (λ (z : Chart K). z.current n) (sym is) ∙ now)

  less_stayed : IsSameMap (s.maps map) (went.4.maps2 map) → Less
  less_stayed kept n now =
      let it = stood_same (s.maps map) (went.4.maps2 map) kept st2 st2_is in
      ap (λ (z : Standing K). z.chart.current n) (one_of st it.0 (sym went.2 ∙ it.1)) ∙ ap (λ (z : Chart K). z.current n) (sym it.2) ∙ now

  -- no pair has come
  less_by : (x : UnderWay K V K) → ((y : CallOnKey K V K) → x ≡ OnKey y → ⊥) → DidSo same hash name m known s old new at shown map i u here said leads x → Less
  less_by (OnKey x) none did = absurd (none x refl)
  less_by (ForRoom r) none (p2, end, machine_is, told_is, inl (step, moved)) =
      less_moved step.step.went.c2
      (moved_chart same hash name m known s old new at whole shown map i u here said leads step.step.went.c2 step.step.blocks2 step.step.sights2 moved.1 st2 st2_is)
      (λ n now. ap (λ (f : ℕ → Bool). f n) (sym step.step.same_pairs) ∙ now)
  less_by (ForRoom r) none (p2, end, machine_is, told_is, inr (row, stayed)) = less_stayed (stayed.1 map)
  less_by (Counting sum) none (p2, end, machine_is, told_is, still, stayed) = less_stayed (stayed.1 map)
  less_by (OverAll o) none (p2, end, machine_is, told_is, inl (step, moved)) =
      less_moved step.step.went.c2
      (moved_chart same hash name m known s old new at whole shown map i u here said leads step.step.went.c2 step.step.blocks2 step.step.sights2 moved.1 st2 st2_is)
      (less_told o st.chart step.step.went.c2 step.step.removes)
  less_by (OverAll o) none (p2, end, machine_is, told_is, inr (row, stayed)) = less_stayed (stayed.1 map)

  each : Together V same st.hash same st.setting slot_of s.world st.chart st.blocks st.sights (s.calls map)
  each = at.together.makings.standing.each map st went.2

  there : (n : ℕ) → st.chart.current n ≡ true → n < st.chart.stored
  there n is = (current_is_known same st.hash st.setting s.world.memory st.chart st.blocks each.ground.map.map.rule each.ground.map.map.shows n is).0

  later : IsLater st.chart st2.chart
  later =
      let it = maps_later same hash name m known s old new at whole shown map i u here said leads map st2 st2_is in
      subst (λ (z : Standing K). IsLater z.chart st2.chart) (one_of it.0 st (sym it.1 ∙ went.2)) it.2

  -- so each class has what it had, or nothing any more
  fewer_then : (k : K) → (finite_map same map v2 k ≡ finite_map same map m k) ⊎ (finite_map same map v2 k ≡ None)
  fewer_then k = by (finite_map same map v2 k) refl
    where
      now2 : HadThen same st2 (on.shows.number map) st2.chart.now k (finite_map same map v2 k)
      now2 = now_then same hash name m known s old new at whole shown map i u here said leads map st2 st2_is k

      now : HadThen same st (shown.number map) st.chart.now k (finite_map same map m k)
      now = now_had same map (shown.number map) st m known s.world (s.calls map) (at.together.makings.standing.fit map st went.2).0 each (shown.maps map st went.2).pairs shown.blocks k

      has : (q : ℕ) → HadJust same st2 (on.shows.number map) st2.chart.now k (Some q) → finite_map same map m k ≡ Some q
      has q (n, had, number_is, alone) =
          let current : st.chart.current n ≡ true = less_by u (on_no_key same u its called other) went.4.did n (sym ((went.5.together.makings.standing.each map st2 st2_is).ground.moments.now_is n) ∙ had.1) in
          let l = there n current in
          had_pair same st (shown.number map) st.chart.now k (finite_map same map m k) now n (l, each.ground.moments.now_is n ∙ current, had.2, sym (later.keys n l) ∙ had.3, had.4)
          ∙ ap Some (sym (on.numbers map st went.2 n l) ∙ number_is)

      by : (o : Option ℕ) → finite_map same map v2 k ≡ o → (finite_map same map v2 k ≡ finite_map same map m k) ⊎ (finite_map same map v2 k ≡ None)
      by None e = inr e
      by (Some q) e = inl (e ∙ sym (has q (subst (λ (o : Option ℕ). HadJust same st2 (on.shows.number map) st2.chart.now k o) e now2.just)))

module _ {K V : Type 0} (same : K → K → Bool) (hash : ℕ → K → ℕ) (name : ℕ → List ℕ) (log : Past K V) (beginning : Moment K V) (map i : ℕ) (c : CallThere K V)
    (done : List Effect) (m : Moment K V) (known : Known) (s : Scene K V) (u : UnderWay K V K) (midst : InOtherMidst same name log beginning map i c done m known s u)
    (old new : Held K V) (at : IsAt same hash old s) (said : Progress (Node K V)) (leads : StepLeads same hash i said s old new) where
  abbrev pub effects : List Effect
  effects = effects_of (acts.Call i map) known new.changed

  abbrev pub then_at : Moment K V
  then_at = with_effects (Some (name i)) (Some map) effects m

  -- the call as the step begins
  abbrev pub its_call : CallThere K V
  its_call = midst.there

  pub there_other : IsOnNoKey its_call.call
  there_other = subst (λ (x : Call K V). IsOnNoKey x) (sym midst.same_call.call) midst.other

  pub there_called : IsCalled same u its_call.call
  there_called =
      let was = midst.dues.history.shown.calls map i u midst.here in subst (λ (x : CallThere K V). IsCalled same u x.call) (one_of was.0 its_call (sym was.1 ∙ midst.there_is)) was.3

  -- the call after the step
  abbrev pub d : CallThere K V
  d = (calls_after (name i) map (name i) effects m its_call midst.there_is).0

  pub d_is : call_of (name i) then_at ≡ Some d
  d_is = (calls_after (name i) map (name i) effects m its_call midst.there_is).1

  pub d_same : IsSameCall c d
  d_same = same_then c its_call d midst.same_call (call_then same name log map i effects m its_call midst.there_is d d_is)

  pub d_stands : d.stands ≡ its_call.stands
  d_stands = (calls_after (name i) map (name i) effects m its_call midst.there_is).2.0.stands

  fewer_now : (k : K) → (finite_map same map then_at k ≡ finite_map same map m k) ⊎ (finite_map same map then_at k ≡ None)
  fewer_now = fewer_then same hash name m known s old new at midst.whole midst.dues.history.shown map i u midst.here said leads its_call.call there_called there_other

  -- no class has changed twice
  pub first_change : ChangesFirst log m same map then_at
  first_change k = by (fewer_now k) (midst.fewer k)
    where
      by : (finite_map same map then_at k ≡ finite_map same map m k) ⊎ (finite_map same map then_at k ≡ None) → (finite_map same map m k ≡ finite_map same map beginning k) ⊎ (finite_map same map m k ≡ None)
          → (finite_map same map then_at k ≡ finite_map same map m k) ⊎ (finite_map same map m k ≡ finite_map same map log.now k)
      by (inl kept) before = inl kept
      by (inr gone) (inl was) = inr (was ∙ map_alike same map k log.now beginning midst.begins.0 midst.begins.1)
      by (inr gone) (inr none) = inl (gone ∙ sym none)

  pub fewer_so : (k : K) → (finite_map same map then_at k ≡ finite_map same map beginning k) ⊎ (finite_map same map then_at k ≡ None)
  fewer_so k = by (fewer_now k) (midst.fewer k)
    where
      by : (finite_map same map then_at k ≡ finite_map same map m k) ⊎ (finite_map same map then_at k ≡ None) → (finite_map same map m k ≡ finite_map same map beginning k) ⊎ (finite_map same map m k ≡ None)
          → (finite_map same map then_at k ≡ finite_map same map beginning k) ⊎ (finite_map same map then_at k ≡ None)
      by (inl kept) (inl was) = inl (kept ∙ was)
      by (inl kept) (inr none) = inr (kept ∙ none)
      by (inr gone) before = inr gone

  pub removes_so : RemovesOnly same c.call c (flat_map shift_of (done ++ effects))
  removes_so = subst (λ (l : List Shift). RemovesOnly same c.call c l) (sym (flat_map-append shift_of done effects))
      (removals_added K V same c.call c (flat_map shift_of done) (flat_map shift_of effects) midst.removes
      (removes_same same c.call c its_call midst.same_call.replies (flat_map shift_of effects)
      (subst (λ (x : Call K V). RemovesOnly same x its_call (flat_map shift_of effects)) midst.same_call.call
      (others_remove_only K V same hash name m known s old new at midst.whole midst.called map i u midst.here said leads its_call midst.there_is there_other))))

  pub worked_then : then_at ≡ with_effects (Some (name i)) (Some map) (done ++ effects) beginning
  worked_then = ap (λ (x : Moment K V). with_effects (Some (name i)) (Some map) effects x) midst.worked ∙ sym (effects_after (Some (name i)) (Some map) done effects beginning)

module _ (K V : Type 0) (same : K → K → Bool) where
  pub other_midsts_begin : OtherMidstsBegin K V same
  other_midsts_begin name log beginning begins known s whole dues called map i u here c c_is other = record {
    here = here;
    other = other;
    whole = whole;
    dues = dues;
    called = called;
    begins = begins;
    worked = refl;
    there = c;
    there_is = c_is;
    same_call = record { map = refl; call = refl; replies = refl; begun = refl };
    fewer = λ k. inl refl;
    removes = tt;
  }

module _ (K V : Type 0) (same : K → K → Bool) (hash : ℕ → K → ℕ) where
  pub other_midsts_keep_due : OtherMidstsPreservePendingAnswers K V same hash
  other_midsts_keep_due name log beginning map i c done m known s u midst old new at said leads =
      calls_keep_due K V same hash name log m known s old new at midst.whole midst.dues map i u midst.here said leads
      (first_change same hash name log beginning map i c done m known s u midst old new at said leads)

  pub other_midsts_go_on : OtherMidstsContinue K V same hash
  other_midsts_go_on name log beginning map i c done m known s u midst old new at said leads next goes = record {
    here = ap (λ (f : ℕ → Option (UnderWay K V K)). f i) (at_same s.calls map (with_at (s.calls map) i (leads map u midst.here).4.next) map refl)
        ∙ at_same (s.calls map) i (leads map u midst.here).4.next i refl ∙ goes;
    other = midst.other;
    whole = calls_keep_whole K V same hash name m known s old new at midst.whole map i u midst.here said leads;
    dues = other_midsts_keep_due name log beginning map i c done m known s u midst old new at said leads;
    called = calls_keep_as_called K V same hash name m known s old new at midst.whole midst.called map i u midst.here said leads;
    begins = midst.begins;
    worked = worked_then same hash name log beginning map i c done m known s u midst old new at said leads;
    there = d same hash name log beginning map i c done m known s u midst old new at said leads;
    there_is = d_is same hash name log beginning map i c done m known s u midst old new at said leads;
    same_call = d_same same hash name log beginning map i c done m known s u midst old new at said leads;
    fewer = fewer_so same hash name log beginning map i c done m known s u midst old new at said leads;
    removes = removes_so same hash name log beginning map i c done m known s u midst old new at said leads;
  }
