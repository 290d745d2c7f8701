-- Calls on no key stay as the moment says by steps of calls, whoever takes them.
use Rattle.std.specs.Prelude.{◌≡◌, ℕ, ◌<◌, ◌≤◌, Bool, List, Option, Some, None}
use Rattle.std.proofs.Common.{refl, ap, sym, subst, ◌∙◌, arith, inl, inr}
use Rattle.run_places.specs.Given.SeizeWordsWord.{block_in}
use Rattle.run_places.specs.Given.SeizeWorld.{World}
use Rattle.run_places.specs.Given.TablesDeclared.node.Node.{Node}
use Rattle.run_places.specs.Given.ReservesDeclared.sweep.Sweep.{Sweep}
use Rattle.run_places.specs.Given.ReservesDeclared.sweep.Sweeping.{Sweeping}
use Rattle.run_places.specs.Given.ReservesDeclared.sweep.Sweeping.TheVariants as at
use Rattle.run_places.specs.Given.RawDeclared.machines.machine.Machine.{Machine}
use Rattle.run_places.specs.Given.RawDeclared.machines.machine.Machine.TheVariants as kinds
use Rattle.run_places.specs.Given.RawDeclared.machines.progress.Progress.{Progress}
use Rattle.run_places.specs.Given.RunsDeclared.call.Reply.{Reply}
use Rattle.run_places.specs.Given.RunsDeclared.call.Reply.TheVariants.{Decides}
use Rattle.run_places.specs.Given.RunsDeclared.effect.Effect.{Effect}
use Rattle.run_places.specs.Given.SchedulesEffects.{with_effects}
use Rattle.run_places.specs.Given.SchedulesMoment.{UnderWay as CallThere, Moment}
use Rattle.run_places.specs.Given.SchedulesViews.{call_of, reply_to}
use Rattle.run_places.specs.Given.CallersOverAll.{Verdict, CallOverAll, come_to, gone_on}
use Rattle.run_places.specs.Given.CallersTogether.{UnderWay, OnKey, ForRoom, Counting, OverAll}
use Rattle.run_places.specs.Given.EffectsEffects.{effects_of, known_after}
use Rattle.run_places.specs.Given.EffectsKnown.{Known}
use Rattle.run_places.specs.Given.EffectsDeclared.acting.Acting.TheVariants as acts
use Rattle.run_places.specs.Given.FinishesEndings.{Finishing}
use Rattle.run_places.specs.Given.FinishesMachines.{machine_of}
use Rattle.run_places.specs.Given.FinishesMakings.{Beginning}
use Rattle.run_places.specs.Given.FinishesMaps.{Standing}
use Rattle.run_places.specs.Given.FollowsShows.{Refines}
use Rattle.run_places.specs.Given.FollowsSteps.{Did}
use Rattle.run_places.proofs.Given.FollowsCalled.{key_goes_on, room_goes_on, counting_goes_on, sweep_goes_on}
use Rattle.run_places.proofs.Given.FollowsOnward.{IsLasting, KeepsRoles}
use Rattle.run_places.proofs.Given.FollowsSteps.{WentTo, LeadsThere}
use Rattle.run_places.proofs.Hands.Asking.{which}
use Rattle.run_places.proofs.Hands.Replacing.{IsOn, calls_after}
use Rattle.run_places.specs.Moments.Whole.{RefinesWhole}
use Rattle.run_histories.specs.Histories.AsCalled.{purpose_of, SweepAsks, IsLastReply, IsSweptAs, IsAsCalled, RefinesAsCalled, CallsPreserveAsCalled}
use Rattle.run_places.proofs.Changes.Steps.{to, led_on}
use Rattle.run_histories.proofs.Histories.NoKey.Sweeps.{SweepsOn, sweeps_on, asks_still}
use Rattle.run_places.specs.Given.ScenesHeld.{Held, IsAt}
use Rattle.run_places.specs.Given.ScenesScene.{Scene}
use Rattle.run_places.specs.Given.ScenesStepping.{StepLeads, StepsFrom, scene_after}
use Rattle.run_places.proofs.Given.General.{same_some as one_of}

module _ (number number2 : ℕ → ℕ) (stored stored2 : ℕ) (more : stored ≤ stored2) (numbers : (n : ℕ) → n < stored → number2 n ≡ number n) where
  pub last_kept : {V : Type 0} (v : Option Verdict) (replies : List (Option ℕ × Reply V)) → IsLastReply number stored v replies → IsLastReply number2 stored2 v replies
  last_kept None replies h = tt
  last_kept {V} (Some v) replies h =
      let l = h.0 in (omega (arith, l, more), subst (λ (z : ℕ). ◌≡◌ {A = Option (Reply V)} (reply_to (Some z) replies) (Some (Decides v.keeps))) (sym (numbers v.about h.0)) h.1)

  module _ (known known2 : Known) {K V : Type 0} where
    -- a sweep that goes on
    module _ (o o2 : CallOverAll) (purpose : o2.sweep.purpose ≡ o.sweep.purpose) (told : o2.told ≡ o.told)
        (stays : (question : Option ℕ) → SweepAsks known o.sweep.stands question → SweepAsks known2 o2.sweep.stands question) (c d : CallThere K V) (on : IsOn c d) where
      pub swept_kept : IsSweptAs number stored known o c → IsSweptAs number2 stored2 known2 o2 d
      swept_kept h = record {
        purpose = ap purpose_of on.call ∙ h.purpose ∙ ap Some (sym purpose);
        last = subst (λ (v : Option Verdict). IsLastReply number2 stored2 v d.replies) (sym told)
            (subst (λ (r : List (Option ℕ × Reply V)). IsLastReply number2 stored2 o.told r) (sym on.replies) (last_kept o.told c.replies h.last));
        asks = λ question stands. stays question (h.asks question (sym on.stands ∙ stands));
      }

    -- a call that takes no step
    pub as_called_kept : (x : UnderWay K V K) → ((o : CallOverAll) → x ≡ OverAll o → (question : Option ℕ) → SweepAsks known o.sweep.stands question → SweepAsks known2 o.sweep.stands question)
        → (c d : CallThere K V) → IsOn c d → IsAsCalled number stored known x c → IsAsCalled number2 stored2 known2 x d
    as_called_kept (OnKey u) stays c d on h = tt
    as_called_kept (ForRoom r) stays c d on h = λ question stands. h question (sym on.stands ∙ stands)
    as_called_kept (Counting sum) stays c d on h = λ question stands. h question (sym on.stands ∙ stands)
    as_called_kept (OverAll o) stays c d on h = swept_kept o o refl refl (stays o refl) c d on h

module _ (known known2 : Known) (keeps : KeepsRoles known known2) where
  -- a sweep asks the same where it stands as before
  pub asks_kept : (stands stands2 : Sweeping) → ((word : ℕ) → stands ≡ at.Asks word → stands2 ≡ at.Asks word) → (question : Option ℕ) → SweepAsks known stands question → SweepAsks known2 stands2 question
  asks_kept stands stands2 stays None asks = absurd asks.2
  asks_kept stands stands2 stays (Some n) asks = (asks.0, stays asks.0 asks.1, keeps (block_in asks.0) (subst IsLasting (sym asks.2) tt) ∙ asks.2)

module _ {K V : Type 0} (same : K → K → Bool) (batch_size roots : ℕ) (w : World (Node K V)) (maps : ℕ → Option (Standing K)) (calls : ℕ → ℕ → Option (UnderWay K V K))
    (makers : ℕ → Option (Beginning K)) (enders : ℕ → Option (Finishing K V)) (m : ℕ) (s : Standing K) (i : ℕ) (w2 : World (Node K V)) (maps2 : ℕ → Option (Standing K)) (next : Option (UnderWay K V K))
    (old new : Held K V) (machine : Machine K V K) (said : Progress (Node K V)) (known known2 : Known) (keeps : KeepsRoles known known2) (number number2 : ℕ → ℕ) (stored stored2 : ℕ)
    (more : stored ≤ stored2) (numbers : (n : ℕ) → n < stored → number2 n ≡ number n) (c d : CallThere K V) (on : IsOn c d) (x : UnderWay K V K) (goes_on : next ≡ Some x) where
  as_one : (y : UnderWay K V K) → x ≡ y → IsAsCalled number2 stored2 known2 y d → IsAsCalled number2 stored2 known2 x d
  as_one y e h = subst (λ (z : UnderWay K V K). IsAsCalled number2 stored2 known2 z d) (sym e) h

  swept_on : (o o2 : CallOverAll) → o2.told ≡ o.told → machine ≡ kinds.Sweep o2.sweep → StepsFrom same s.hash (kinds.Sweep o.sweep) old new machine said
      → IsSweptAs number stored known o c → IsSweptAs number2 stored2 known2 o2 d
  swept_on o o2 told machine_is steps h =
      swept_kept number number2 stored stored2 more numbers known known2 o o2
      (subst (λ (z : Machine K V K). SweepsOn o.sweep.purpose (z, said)) machine_is (sweeps_on same s.hash old new o.sweep machine said steps)).0 told
      (asks_kept known known2 keeps o.sweep.stands o2.sweep.stands stays) c d on h
    where
      stays : (word : ℕ) → o.sweep.stands ≡ at.Asks word → o2.sweep.stands ≡ at.Asks word
      stays word stands =
          let still = (asks_still same s.hash old new o.sweep machine said steps word stands).0 in
          let same_sweep : o2.sweep ≡ o.sweep = cc (still, machine_is) in ap (λ (p : Sweep). p.stands) same_sweep ∙ stands

  -- the call that has taken the step
  pub own_as_called : (u : UnderWay K V K) → StepsFrom same s.hash (machine_of u) old new machine said → Did same batch_size roots w maps calls makers enders m s i new.memory w2 maps2 next u machine said
      → IsAsCalled number stored known u c → IsAsCalled number2 stored2 known2 x d
  own_as_called (OnKey u) steps (p2, end, machine_is, told_is, inl (step, moved)) h = as_one _ (key_goes_on _ end x (sym moved.2 ∙ goes_on)) tt
  own_as_called (OnKey u) steps (p2, end, machine_is, told_is, inr (step, stayed)) h = as_one _ (key_goes_on _ end x (sym stayed.2 ∙ goes_on)) tt
  own_as_called (ForRoom r) steps (p2, end, machine_is, told_is, inl (step, moved)) h = as_one _ (room_goes_on _ end x (sym moved.2 ∙ goes_on)) (λ question stands. h question (sym on.stands ∙ stands))
  own_as_called (ForRoom r) steps (p2, end, machine_is, told_is, inr (step, stayed)) h = as_one _ (room_goes_on _ end x (sym stayed.2 ∙ goes_on)) (λ question stands. h question (sym on.stands ∙ stands))
  own_as_called (Counting sum) steps (sum2, end, machine_is, told_is, still, stayed) h = as_one (Counting sum2) (counting_goes_on sum2 end x (sym stayed.2 ∙ goes_on)) (λ question stands. h question (sym on.stands ∙ stands))
  own_as_called (OverAll o) steps (p2, end, machine_is, told_is, inl (step, moved)) h =
      as_one (OverAll (come_to o step.step.entered2 step.step.done2 p2)) (sweep_goes_on (come_to o step.step.entered2 step.step.done2 p2) end x (sym moved.2 ∙ goes_on))
      (swept_on o (come_to o step.step.entered2 step.step.done2 p2) refl machine_is steps h)
  own_as_called (OverAll o) steps (p2, end, machine_is, told_is, inr (step, stayed)) h =
      as_one (OverAll (gone_on o p2)) (sweep_goes_on (gone_on o p2) end x (sym stayed.2 ∙ goes_on)) (swept_on o (gone_on o p2) refl machine_is steps h)

module _ {K V : Type 0} (same : K → K → Bool) (hash : ℕ → K → ℕ) (name : ℕ → List ℕ) (m : Moment K V) (known : Known) (s : Scene K V) (old new : Held K V) (at_old : IsAt same hash old s)
    (whole : RefinesWhole same name m known s) (called : RefinesAsCalled same name m known s) (map i : ℕ) (u : UnderWay K V K) (here : s.calls map i ≡ Some u) (said : Progress (Node K V))
    (leads : StepLeads same hash i said s old new) where
  abbrev shown : Refines same name m known s
  shown = called.shown

  abbrev went : WentTo same hash name m known s old new at_old shown map i u here said leads
  went = to same hash name m known s old new at_old whole shown map i u here said leads

  abbrev on : LeadsThere same hash name m known s old new at_old shown map i u here said leads
  on = led_on same hash name m known s old new at_old whole shown map i u here said leads

  abbrev effects : List Effect
  effects = effects_of (acts.Call i map) known new.changed

  abbrev after : Known
  after = known_after (acts.Call i map) new.changed known

  abbrev v : Moment K V
  v = with_effects (Some (name i)) (Some map) effects m

  abbrev s2 : Scene K V
  s2 = scene_after same s old new map i went.0 u went.1 said went.4

  own : (x : UnderWay K V K) → went.4.next ≡ Some x → (st : Standing K) → s2.maps map ≡ Some st → (d : CallThere K V) → call_of (name i) v ≡ Some d
      → IsAsCalled (on.shows.number map) st.chart.stored after x d
  own x goes st there d found =
      let was = shown.calls map i u here in
      let now = calls_after (name i) map (name i) effects m was.0 was.1 in
      let stood = on.stood map went.0 went.2 in
      let is_st : stood.0 ≡ st = one_of stood.0 st (sym stood.1 ∙ there) in
      let is_d : now.0 ≡ d = one_of now.0 d (sym now.1 ∙ found) in
      subst (λ (y : CallThere K V). IsAsCalled (on.shows.number map) st.chart.stored after x y) is_d
      (subst (λ (y : Standing K). IsAsCalled (on.shows.number map) y.chart.stored after x now.0) is_st
      (own_as_called same old.batch_size old.roots s.world s.maps s.calls s.makers s.enders map went.0 i went.4.w2 went.4.maps2 went.4.next old new went.1 said known after on.keeps
      (shown.number map) (on.shows.number map) went.0.chart.stored stood.0.chart.stored stood.2.stored (on.numbers map went.0 went.2) was.0 now.0 now.2.0 x goes u went.3 went.4.did
      (called.each map i u here went.0 went.2 was.0 was.1)))

  other : (n j : ℕ) (x : UnderWay K V K) → s.calls n j ≡ Some x → (st : Standing K) → s2.maps n ≡ Some st → (d : CallThere K V) → call_of (name j) v ≡ Some d
      → IsAsCalled (on.shows.number n) st.chart.stored after x d
  other n j x is st there d found = by (s.maps n) refl
    where
      by : (o : Option (Standing K)) → s.maps n ≡ o → IsAsCalled (on.shows.number n) st.chart.stored after x d
      by None gone = absurd (let none = (on.none n gone).0 in cc (none, there))
      by (Some before) stands =
          let was = shown.calls n j x is in
          let now = calls_after (name i) map (name j) effects m was.0 was.1 in
          let stood = on.stood n before stands in
          let is_st : stood.0 ≡ st = one_of stood.0 st (sym stood.1 ∙ there) in
          let is_d : now.0 ≡ d = one_of now.0 d (sym now.1 ∙ found) in
          subst (λ (y : CallThere K V). IsAsCalled (on.shows.number n) st.chart.stored after x y) is_d
          (subst (λ (y : Standing K). IsAsCalled (on.shows.number n) y.chart.stored after x now.0) is_st
          (as_called_kept (shown.number n) (on.shows.number n) before.chart.stored stood.0.chart.stored stood.2.stored (on.numbers n before stands) known after x
          (λ o e. asks_kept known after on.keeps o.sweep.stands o.sweep.stands (λ word at_word. at_word)) was.0 now.0 now.2.0 (called.each n j x is before stands was.0 was.1)))

  pub step_as_called : RefinesAsCalled same name v after s2
  step_as_called = record {
    shown = on.shows;
    each = λ n j x is st there c found. elim (which s.calls map i went.4.next n j x is) as (λ _. IsAsCalled (on.shows.number n) st.chart.stored after x c) [
      | inl its ↦
          subst (λ (k : ℕ). IsAsCalled (on.shows.number k) st.chart.stored after x c) (sym its.0)
          (own x its.2 st (ap s2.maps (sym its.0) ∙ there) c (ap (λ (k : ℕ). call_of (name k) v) (sym its.1) ∙ found))
      | inr was ↦ other n j x was.1 st there c found
    ];
  }

pub calls_keep_as_called : (K V : Type 0) (same : K → K → Bool) (hash : ℕ → K → ℕ) → CallsPreserveAsCalled K V same hash
calls_keep_as_called K V same hash name m known s old new at_old whole called map i u here said leads =
    step_as_called same hash name m known s old new at_old whole called map i u here said leads
