-- By the steps of an event lookups read a word each, and nothing else happens by them; so the event reads briefly.
use Rattle.std.specs.Prelude.{◌≡◌, ◌≤◌, ◌++◌, ℕ, ◌+◌, ◌==◌, suc, Bool, true, false, List, [], Option, Some, MatchBool, if◌then◌else◌}
use Rattle.std.proofs.Common.{refl, ap, sym, subst, ◌∙◌, inl, inr, arith}
use Rattle.std.proofs.lemmas.Bool.{cases_eq, eq-eqb, ne_eqb}
use Rattle.run_grows.specs.Given.TablesChunks.{is_incremental}
use Rattle.run_grows.specs.Given.TablesDeclared.node.Node.{Node}
use Rattle.run_grows.specs.Given.RawDeclared.machines.progress.Progress.{Progress}
use Rattle.run_grows.specs.Given.RunsDeclared.effect.Effect.{Effect}
use Rattle.run_grows.specs.Given.RunsDeclared.event.Event.{Event}
use Rattle.run_grows.specs.Given.SchedulesAfter.{moment, moments_from}
use Rattle.run_grows.specs.Given.SchedulesBeginning.{at_work}
use Rattle.run_grows.specs.Given.SchedulesEffects.{with_effects, worked}
use Rattle.run_grows.specs.Given.SchedulesEntry.{Entry, IfCall, acted_on, acting, caller_of}
use Rattle.run_grows.specs.Given.SchedulesMoment.{UnderWay as CallThere, Moment}
use Rattle.run_grows.specs.Given.SchedulesSteps.{IsBrief, ReadsBriefly, ReadsFew}
use Rattle.run_grows.specs.Given.SchedulesTerms.{Terms}
use Rattle.run_grows.specs.Given.SchedulesViews.{call_of, grows_in_chunks, map_at}
use Rattle.run_grows.specs.Given.SchedulesLists.{OneOf}
use Rattle.run_grows.specs.Given.RunsDeclared.call.Call.{Call}
use Rattle.run_grows.specs.Given.RunsDeclared.call.Call.TheVariants as call
use Rattle.run_grows.specs.Given.CallersTogether.{UnderWay, OnKey, ForRoom, Counting, OverAll}
use Rattle.run_grows.specs.Given.EffectsEffects.{effects_of}
use Rattle.run_grows.specs.Given.EffectsKnown.{Known}
use Rattle.run_grows.specs.Given.EffectsDeclared.acting.Acting.TheVariants as acts
use Rattle.run_grows.proofs.Given.MomentsAfter.{effects_after}
use Rattle.run_grows.specs.Given.HistoriesInEvent.{InEvent, here_of}
use Rattle.run_grows.specs.Given.HistoriesSeveral.{IsSameCall}
use Rattle.run_grows.specs.Given.PromisesReading.{HasLooked, RefinesReadings, looks}
use Rattle.run_grows.proofs.Given.PromisesBrief.Ends.{events_read_briefly}
use Rattle.run_grows.proofs.Given.PromisesBrief.Meanwhile.{effects_steps, others_keep_readings}
use Rattle.run_grows.proofs.Given.PromisesBrief.Own.{lookups_do_nothing}
use Rattle.run_grows.proofs.Given.PromisesBrief.Steps.{lookups_keep_readings}
use Rattle.run_legal.specs.CallEvents.{InCallEvent}
use Rattle.run_grows.specs.Given.ScenesHeld.{Held, IsAt}
use Rattle.run_grows.specs.Given.ScenesScene.{Scene}
use Rattle.run_grows.specs.Given.ScenesStepping.{StepLeads, scene_after}
use Rattle.run_grows.specs.Given.SchedulesTransition.{past}
use Rattle.run_grows.proofs.Given.General.{same_some as one_of}

-- the call of the event is there still, as it was
module _ {K V : Type 0} (same : K → K → Bool) (name : ℕ → List ℕ) (log : List (Entry K V)) (beginning : Moment K V) (map i : ℕ) (c : CallThere K V) (done : List Effect) (m : Moment K V) (known : Known)
    (s : Scene K V) where
  pub there_still : (u : UnderWay K V K) → InEvent same name (past log) beginning map i c done m known s u → (d : CallThere K V) × (call_of (name i) m ≡ Some d) × IsSameCall c d
  there_still (OnKey x) midst = (midst.2.there, midst.2.there_is, midst.2.same_call)
  there_still (ForRoom r) midst = (midst.there, midst.there_is, midst.same_call)
  there_still (Counting sum) midst = (midst.there, midst.there_is, midst.same_call)
  there_still (OverAll o) midst = (midst.there, midst.there_is, midst.same_call)

-- one more step of this caller alone
one_more_step : (steps : ℕ) (q : Bool) → (if q then suc (if q then steps else 0) else (if q then steps else 0)) ≡ (if q then steps + 1 else 0)
one_more_step steps true = let more : suc steps ≡ steps + 1 = omega arith in more
one_more_step steps false = refl

-- none, by another one
no_more_step : (steps : ℕ) (q : Bool) → q ≡ false → (if q then steps else 0) ≡ (if q then steps + 1 else 0)
no_more_step steps true is = absurd (cc is)
no_more_step steps false is = refl

-- a call that is no lookup need not be brief
brief_else : {K V : Type 0} (its : Call K V) (c : CallThere K V) (moments : List (Moment K V)) (m : Moment K V) (steps : ℕ) → looks its ≡ false → IsBrief its c moments m steps
brief_else (call.On one) c moments m steps no_look =
    subst (λ (q : Bool). MatchBool q (OneOf (ReadsFew (grows_in_chunks (map_at c.map m)) c m steps) moments) (Unit {0})) (sym no_look) tt
brief_else (call.Reserve n) c moments m steps no_look = tt
brief_else call.Clear c moments m steps no_look = tt
brief_else call.Retain c moments m steps no_look = tt
brief_else call.Len c moments m steps no_look = tt
brief_else call.Walk c moments m steps no_look = tt

module _ (K V : Type 0) (same : K → K → Bool) (hash : ℕ → K → ℕ) (name : ℕ → List ℕ) (terms : Terms) (log : List (Entry K V)) (event : Event K V) (beginning : Moment K V) (map i : ℕ) (c : CallThere K V)
    (steps : ℕ) (done : List Effect) (m : Moment K V) (known : Known) (s : Scene K V) (u : UnderWay K V K) (midst : InCallEvent same name terms log event beginning map i c steps done m known s u)
    (old new : Held K V) (at_old : IsAt same hash old s) (said : Progress (Node K V)) (leads : StepLeads same hash i said s old new) where
  abbrev here : s.calls map i ≡ Some u
  here = here_of same name (past log) beginning map i c done m known s u midst.event_so

  abbrev effects : List Effect
  effects = effects_of (acts.Call i map) known new.changed

  abbrev v : Moment K V
  v = with_effects (Some (name i)) (Some map) effects m

  abbrev s2 : Scene K V
  s2 = scene_after same s old new map i (leads map u here).0 u (leads map u here).1 said (leads map u here).4

  abbrev made : ℕ → ℕ
  made j = if j == i then steps else 0

  its : (d : CallThere K V) × (call_of (name i) m ≡ Some d) × IsSameCall c d
  its = there_still same name log beginning map i c done m known s u midst.event_so

  looks_same : looks its.0.call ≡ looks c.call
  looks_same = ap looks its.2.call

  -- a step of a lookup does nothing
  pub does_nothing : looks c.call ≡ true → v ≡ m
  does_nothing looks_for =
      let standing = (leads map u here).0 in
      let looked = midst.reading.reads map i u here its.0 its.1 (looks_same ∙ looks_for) standing (leads map u here).2 in
      let none : effects ≡ [] = lookups_do_nothing K V same hash known s old new i said leads map u here (is_incremental standing.setting.mode) standing.chart (moments_from its.0.begun log)
      (its.0.steps + made i) looked in
      ap (λ (fs : List Effect). with_effects (Some (name i)) (Some map) fs m) none

  -- the call of a name after the step, by what it was before it
  no_look_then : looks c.call ≡ false → (d : CallThere K V) → call_of (name i) v ≡ Some d → looks d.call ≡ false
  no_look_then no_look d d_is =
      let kept = effects_steps (name i) map (name i) effects m its.0 its.1 in
      let one : d ≡ kept.0 = one_of d kept.0 (sym d_is ∙ kept.1) in ap (λ (x : CallThere K V). looks x.call) one ∙ ap looks kept.3 ∙ looks_same ∙ no_look

  pub readings_go_on : RefinesReadings name (past log) (λ j. if j == i then steps + 1 else 0) v s2
  readings_go_on = by (looks c.call) refl
    where
      by : (q : Bool) → looks c.call ≡ q → RefinesReadings name (past log) (λ j. if j == i then steps + 1 else 0) v s2
      by true looks_for =
          let r = lookups_keep_readings K V same hash name (past log) made m known s old new at_old midst.calls.whole midst.reading (midst.quiet looks_for).0 (midst.quiet looks_for).1 map i u here said leads
          its.0 its.1 (looks_same ∙ looks_for) in
          subst (λ (x : Moment K V). RefinesReadings name (past log) (λ j. if j == i then steps + 1 else 0) x s2) (sym (does_nothing looks_for)) (record {
            past = r.past;
            begun = r.begun;
            reads = λ n j x is d d_is d_looks standing there.
                subst (λ (k : ℕ). HasLooked (is_incremental standing.setting.mode) n standing.chart (moments_from d.begun log) (d.steps + k) x) (one_more_step steps (j == i))
                (r.reads n j x is d d_is d_looks standing there);
          })
      by false no_look =
          let r = others_keep_readings K V same hash name (past log) made m known s old new at_old midst.calls.whole midst.reading map i u here said leads its.0 its.1 (looks_same ∙ no_look) in
          record {
            past = r.past;
            begun = r.begun;
            reads = λ n j x is d d_is d_looks standing there. elim (cases_eq j i) as
                (λ _. HasLooked (is_incremental standing.setting.mode) n standing.chart (moments_from d.begun log) (d.steps + (if j == i then steps + 1 else 0)) x) [
                  | inl e ↦ absurd (let no = no_look_then no_look d (ap (λ (k : ℕ). call_of (name k) v) (sym e) ∙ d_is) in cc (no, d_looks))
                  | inr ne ↦ subst (λ (k : ℕ). HasLooked (is_incremental standing.setting.mode) n standing.chart (moments_from d.begun log) (d.steps + k) x) (no_more_step steps (j == i) (ne_eqb j i ne))
                      (r.reads n j x is d d_is d_looks standing there)
                ];
          }

module _ (K V : Type 0) (same : K → K → Bool) (hash : ℕ → K → ℕ) (name : ℕ → List ℕ) (terms : Terms) (log : List (Entry K V)) (beginning : Moment K V) (map i : ℕ) (c : CallThere K V)
    (steps : ℕ) (done : List Effect) (m : Moment K V) (known : Known) (s : Scene K V) (u : UnderWay K V K) (e : Entry K V)
    (midst : InCallEvent same name terms log e.event beginning map i c steps done m known s u)
    (old new : Held K V) (at_old : IsAt same hash old s) (said : Progress (Node K V)) (leads : StepLeads same hash i said s old new) where
  abbrev had : s.calls map i ≡ Some u
  had = here_of same name (past log) beginning map i c done m known s u midst.event_so

  abbrev then_moment : Moment K V
  then_moment = with_effects (Some (name i)) (Some map) (effects_of (acts.Call i map) known new.changed) m

  -- so many steps of this caller are counted
  made_its : (if i == i then steps else 0) ≡ steps
  made_its = ap (λ (q : Bool). if q then steps else 0) (eq-eqb i i refl)

  pub reads_briefly : at_work e (moment log) ≡ beginning → acted_on e.event beginning ≡ Some map → e.effects ≡ done ++ effects_of (acts.Call i map) known new.changed → e.steps ≤ steps + 1
      → ReadsBriefly log e (worked e (moment log))
  reads_briefly begins acted effects_are few = subst (ReadsBriefly log e) (sym worked_is) (by (looks c.call) refl)
    where
      worked_is : worked e (moment log) ≡ then_moment
      worked_is =
          ap (λ (b : Moment K V). with_effects (caller_of e.event) (acted_on e.event b) e.effects b) begins
          ∙ ap (λ (o : Option ℕ). with_effects (caller_of e.event) o e.effects beginning) acted
          ∙ ap (λ (who : Option (List ℕ)). with_effects who (Some map) e.effects beginning) midst.of_call
          ∙ ap (λ (fs : List Effect). with_effects (Some (name i)) (Some map) fs beginning) effects_are
          ∙ effects_after (Some (name i)) (Some map) done (effects_of (acts.Call i map) known new.changed) beginning
          ∙ ap (λ (x : Moment K V). with_effects (Some (name i)) (Some map) (effects_of (acts.Call i map) known new.changed) x) (sym midst.worked)

      before : ReadsBriefly log e m
      before = events_read_briefly K V same hash name (past log) (λ j. if j == i then steps else 0) m known s old at_old midst.calls.whole midst.reading map i u had (caller_of e.event) midst.of_call e.steps
          (let made = made_its in omega (arith, few, made))

      still : (d : CallThere K V) × (call_of (name i) m ≡ Some d) × IsSameCall c d
      still = there_still same name log beginning map i c done m known s u midst.event_so

      by : (q : Bool) → looks c.call ≡ q → ReadsBriefly log e then_moment
      by true looks_for =
          subst (ReadsBriefly log e) (sym (does_nothing K V same hash name terms log e.event beginning map i c steps done m known s u midst old new at_old said leads looks_for)) before
      by false no_look =
          let kept = effects_steps (name i) map (name i) (effects_of (acts.Call i map) known new.changed) m still.0 still.1 in
          subst (λ (o : Option (CallThere K V)). IfCall (λ (x : CallThere K V). IsBrief x.call x (moments_from x.begun log) then_moment (x.steps + e.steps)) o)
          (sym (ap (λ (who : Option (List ℕ)). acting who then_moment) midst.of_call ∙ kept.1))
          (brief_else kept.0.call kept.0 (moments_from kept.0.begun log) then_moment (kept.0.steps + e.steps) (ap looks kept.3 ∙ ap looks still.2.call ∙ no_look))
