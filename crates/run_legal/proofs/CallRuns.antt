-- An event of a call, from its last step on.
use Rattle.std.specs.Prelude.{flat_map, ◌≡◌, ◌==◌, ℕ, ◌+◌, Bool, true, false, List, ◌∷◌, Option, Some, if◌then◌else◌}
use Rattle.std.proofs.Common.{refl, ap, sym, subst, ◌∙◌, inl, inr, arith}
use Rattle.std.proofs.lemmas.Bool.{cases_eq, eq-eqb, ne_eqb}
use Rattle.run_grows.specs.Given.TablesDeclared.node.Node.{Node}
use Rattle.run_grows.specs.Given.RawDeclared.machines.progress.Progress.{Progress}
use Rattle.run_grows.specs.Given.RawDeclared.machines.progress.Progress.TheVariants as progress
use Rattle.run_grows.specs.Given.RunsSame.{is_same}
use Rattle.run_grows.specs.Given.RunsDeclared.effect.Effect.{Effect}
use Rattle.run_grows.specs.Given.RunsDeclared.event.Event.{Event}
use Rattle.run_grows.specs.Given.RunsDeclared.event.Event.TheVariants.{OneCall, Step, Go, Next}
use Rattle.run_grows.specs.Given.RunsDeclared.outcome.Outcome.{Outcome}
use Rattle.run_grows.specs.Given.RunsDeclared.outcome.Outcome.TheVariants as outcome
use Rattle.run_grows.specs.Given.SchedulesAfter.{after, moment}
use Rattle.run_grows.specs.Given.SchedulesBeginning.{begun, with_call}
use Rattle.run_grows.specs.Given.SchedulesEffects.{with_effects, worked}
use Rattle.run_grows.specs.Given.SchedulesEntry.{Entry, acted_on, caller_of, ends_call, is_busy, nameless}
use Rattle.run_grows.specs.Given.SchedulesMoment.{UnderWay as CallThere, Moment}
use Rattle.run_grows.specs.Given.SchedulesViews.{call_of, number_of}
use Rattle.run_grows.specs.Given.CallersTogether.{UnderWay}
use Rattle.run_grows.specs.Given.EffectsEffects.{effects_of, known_after}
use Rattle.run_grows.specs.Given.EffectsKnown.{Known}
use Rattle.run_grows.specs.Given.EffectsDeclared.acting.Acting.TheVariants as acts
use Rattle.run_grows.specs.Given.FollowsCalling.{NoneNamed, come_to}
use Rattle.run_grows.proofs.Given.FollowsCalling.{is_same_refl}
use Rattle.run_grows.proofs.Given.HandsAsking.{which}
use Rattle.run_grows.specs.Given.HistoriesInEvent.{here_of}
use Rattle.run_grows.specs.Given.HistoriesQuestions.{EventAsksStill, AllHaveAskedJust}
use Rattle.run_grows.specs.Given.MomentsWhole.{RefinesWhole}
use Rattle.run_grows.proofs.Given.HistoriesAnyCall.InEvent.{events_end, events_keep_all}
use Rattle.run_grows.proofs.Given.HistoriesAnyCall.Over.{none_named}
use Rattle.run_grows.proofs.Given.HistoriesQuestions.{calls_begin_questions}
use Rattle.run_grows.specs.Given.PurposesPurposes.{RefinesPurposes}
use Rattle.run_sweeps.proofs.Purposes.Between.{calls_come_to_purposes}
use Rattle.run_sweeps.proofs.Purposes.Kept.{calls_keep_purposes}
use Rattle.run_sweeps.proofs.Purposes.Walks.{walks_show_purposes}
use Rattle.run_grows.specs.Given.PromisesReading.{RefinesReadings, looks}
use Rattle.run_grows.specs.Given.PromisesSheltered.{SectionsHold}
use Rattle.run_grows.proofs.Given.PromisesBrief.Meanwhile.{calls_come_to_readings}
use Rattle.run_grows.specs.Given.FindsLittle.{AllIsBack, ReclaimsAll, WhereAll}
use Rattle.run_grows.specs.Given.SchedulesReclaims.{ComesLast}
use Rattle.run_grows.specs.Given.SchedulesModel.{all_left, thing_back, IsByModel}
use Rattle.run_legal.specs.CallEvents.{IsLegalBut}
use Rattle.run_legal.specs.CallRuns.{CallEventsRun, OutcomeNamesShown}
use Rattle.run_legal.specs.Carried.{FollowsOrRows}
use Rattle.run_legal.proofs.CallChanges.{changes_first, reads_shards}
use Rattle.run_legal.proofs.CallFollows.{call_events_follow}
use Rattle.run_grows.proofs.Given.MomentsAfter.{effects_after}
use Rattle.run_legal.proofs.CallLeaves.{calls_leave_nothing}
use Rattle.run_sweeps.specs.Purposes.Kept.{PairsChangeFirst}
use Rattle.run_legal.proofs.CallPairs.{begun_so, pairs_first}
use Rattle.run_legal.proofs.CallReads.{readings_go_on}
use Rattle.run_legal.proofs.CallsAfter.{call_events_end_so}
use Rattle.run_legal.proofs.CallsEnd.{call_events_are_legal}
use Rattle.run_grows.specs.Given.ScenesScene.{Scene}
use Rattle.run_grows.specs.Given.ScenesStepping.{StepLeads, scene_after}
use Rattle.run_grows.specs.Given.SchedulesTransition.{past, transition}

module _ {K V : Type 0} (own : List ℕ) where
  -- what calls have asked is so where such an event has begun what it begins
  questions_begun : (event : Event K V) (came : Outcome V) (m : Moment K V) → caller_of event ≡ Some own → AllHaveAskedJust m → AllHaveAskedJust (begun event came m)
  questions_begun (OneCall guard on call) came m is questions = by (is_busy came)
    where
      by : (q : Bool) → AllHaveAskedJust (if q then m else with_call nameless guard call (number_of on m) m)
      by true = questions
      by false = calls_begin_questions K V nameless guard call (number_of on m) m questions
  questions_begun (Step caller refuse) came m is questions = questions
  questions_begun (Go caller refuse) came m is questions = questions
  questions_begun (Next caller) came m is questions = questions
  questions_begun _ came m is questions = absurd (cc is)

  -- none of them reclaims all
  reclaims_none : (log : List (Entry K V)) (e : Entry K V) → caller_of e.event ≡ Some own → ReclaimsAll log e
  reclaims_none log e is = by e.event e.outcome is
    where
      by : (event : Event K V) (came : Outcome V) → caller_of event ≡ Some own → WhereAll event came (AllIsBack (after e (moment log)) × ComesLast (all_left (moment log)) (flat_map thing_back e.effects))
      by (OneCall guard on call) came is = tt
      by (Step caller refuse) came is = tt
      by (Go caller refuse) came is = tt
      by (Next caller) came is = tt
      by _ came is = absurd (cc is)

pub call_events_run : (K V : Type 0) (same : K → K → Bool) (hash : ℕ → K → ℕ) → CallEventsRun K V same hash
call_events_run K V same hash name terms log beginning map i c c_is first before run steps done m known s u e midst old new at size said leads begins acted effects_are steps_are comes tells_end shows takes busy right finds swept refuses noted slot active = (
  legal.0,
  call_events_end_so K V same hash name terms log beginning map i c first before run steps done m known s u e midst old new at said leads begins acted effects_are comes tells_end.ends right legal.0 asked
      (reclaims_none (name i) log e midst.of_call) (purposes shows) reading legal.1 by_model.1,
)
  where
    whole : RefinesWhole same name m known s
    whole = midst.calls.whole

    here : s.calls map i ≡ Some u
    here = here_of same name (past log) beginning map i c done m known s u midst.event_so

    v : Moment K V
    v = with_effects (Some (name i)) (Some map) (effects_of (acts.Call i map) known new.changed) m

    then_known : Known
    then_known = known_after (acts.Call i map) new.changed known

    s2 : Scene K V
    s2 = scene_after same s old new map i (leads map u here).0 u (leads map u here).1 said (leads map u here).4

    come : Moment K V
    come = come_to (name i) e.outcome e.steps v

    questions : AllHaveAskedJust beginning
    questions = subst (λ (b : Moment K V). AllHaveAskedJust b) begins (questions_begun (name i) e.event e.outcome (moment log) midst.of_call run.calls.questions)

    asked : EventAsksStill log e
    asked = (events_end K V same hash name (past log) beginning map i c c_is questions done m known s u midst.event_so old new at said leads (transition log e) midst.of_call begins (ap (acted_on e.event) begins ∙ acted) effects_are comes).1

    by_model : IsByModel terms log e × ((moment (e ∷ log)).is_alone ≡ true → FollowsOrRows terms (e ∷ log) then_known s2.world)
    by_model = call_events_follow K V same hash name terms log beginning map i c steps done m known s u e midst old new at size said leads effects_are busy noted slot active

    worked_is : worked e (moment log) ≡ v
    worked_is =
        ap (λ (b : Moment K V). with_effects (caller_of e.event) (acted_on e.event b) e.effects b) begins
        ∙ ap (λ (o : Option ℕ). with_effects (caller_of e.event) o e.effects beginning) acted
        ∙ ap (λ (who : Option (List ℕ)). with_effects who (Some map) e.effects beginning) midst.of_call
        ∙ ap (λ (fs : List Effect). with_effects (Some (name i)) (Some map) fs beginning) effects_are
        ∙ effects_after (Some (name i)) (Some map) done (effects_of (acts.Call i map) known new.changed) beginning
        ∙ ap (λ (x : Moment K V). with_effects (Some (name i)) (Some map) (effects_of (acts.Call i map) known new.changed) x) (sym midst.worked)

    legal : IsLegalBut same terms log e × SectionsHold (moment (e ∷ log)) then_known s2.world
    legal = call_events_are_legal K V same hash name terms log beginning map i c c_is steps done m known s u e midst questions old new at said leads begins acted effects_are comes takes busy finds
        (let one : e.steps ≡ steps + 1 = steps_are in omega (arith, one)) swept refuses
        (calls_leave_nothing K V same hash name log m known s old new at whole midst.calls.kept map i u here said leads e midst.of_call worked_is tells_end) by_model.0

    all : RefinesWhole same name v then_known s2
    all = (events_keep_all K V same hash name (past log) beginning map i c done m known s u midst.event_so old new at said leads).0

    none : ends_call e.outcome ≡ true → NoneNamed name (name i) s2
    none = none_named same hash name log m known s midst.calls.dues map i u here old new said leads e tells_end.ends

    pairs : PairsChangeFirst (past log) m map v
    pairs = pairs_first same hash name log beginning map i c done m known s whole old new at said leads u midst.event_so
        (begun_so same name log beginning map i c done m known s u midst.event_so) midst.worked midst.its_own

    -- what calls are for, once its call has come to that
    purposes : OutcomeNamesShown then_known said e.outcome → RefinesPurposes same name (past log) come then_known s2
    purposes (inl (silent, tells)) = calls_come_to_purposes K V same name (past log) v then_known s2
        (calls_keep_purposes K V same hash name (past log) m known s old new at whole midst.calls.purposes map i u here said leads pairs
        (changes_first same hash name log beginning map i c done m known s old new at said leads u midst.event_so)
        (reads_shards K V same hash name log m known s old new at whole midst.calls.counters map i u here said leads midst.unadded) silent) (name i) e.outcome e.steps tells none
    purposes (inr (word, q, said_is, outcome_is, names)) = subst (λ (o : Outcome V). RefinesPurposes same name (past log) (come_to (name i) o e.steps v) then_known s2) (sym outcome_is)
        (shown_by said said_is leads)
      where
        shown_by : (told : Progress (Node K V)) → told ≡ progress.Pair word → (led : StepLeads same hash i told s old new)
            → RefinesPurposes same name (past log) (come_to (name i) (outcome.Shows q) e.steps v) then_known (scene_after same s old new map i (led map u here).0 u (led map u here).1 told (led map u here).4)
        shown_by told is = subst (λ (x : Progress (Node K V)). (led : StepLeads same hash i x s old new)
            → RefinesPurposes same name (past log) (come_to (name i) (outcome.Shows q) e.steps v) then_known (scene_after same s old new map i (led map u here).0 u (led map u here).1 x (led map u here).4)) (sym is)
            (λ led. walks_show_purposes K V same hash name (past log) m known s old new at whole midst.calls.purposes map i u here word led pairs
            (changes_first same hash name log beginning map i c done m known s old new at (progress.Pair word) led u midst.event_so) q e.steps names)

    -- lookups have made the steps of the event
    reading : RefinesReadings name (past log) (λ j. 0) come s2
    reading = calls_come_to_readings K V same name (past log) (λ j. if j == i then steps + 1 else 0) v then_known s2 all
        (readings_go_on K V same hash name terms log e.event beginning map i c steps done m known s u midst old new at said leads) (name i) e.outcome e.steps none made
      where
        -- another call has another name
        other : (n j : ℕ) (x : UnderWay K V K) → s2.calls n j ≡ Some x → (j ≡ i → ⊥) → is_same (name j) (name i) ≡ false
        other n j x is ne = by (is_same (name j) (name i)) refl
          where
            was : s.calls n j ≡ Some x
            was = elim (which s.calls map i (leads map u here).4.next n j x is) as (λ _. s.calls n j ≡ Some x) [
              | inl own ↦ absurd (ne own.1)
              | inr had ↦ had.1
            ]

            by : (q : Bool) → is_same (name j) (name i) ≡ q → is_same (name j) (name i) ≡ false
            by false named = named
            by true named = absurd (ne (whole.all.asked.apart n j map i x u was here named).1)

        made : (n j : ℕ) (x : UnderWay K V K) → s2.calls n j ≡ Some x → (d : CallThere K V) → call_of (name j) v ≡ Some d → looks d.call ≡ true
            → (if j == i then steps + 1 else 0) ≡ (if is_same (name j) (name i) then e.steps else 0)
        made n j x is d d_is d_looks = elim (cases_eq j i) as (λ _. (if j == i then steps + 1 else 0) ≡ (if is_same (name j) (name i) then e.steps else 0)) [
          | inl own ↦
              ap (λ (q : Bool). if q then steps + 1 else 0) (eq-eqb j i own) ∙ sym steps_are
              ∙ sym (ap (λ (q : Bool). if q then e.steps else 0) (ap (λ (k : ℕ). is_same (name k) (name i)) own ∙ is_same_refl (name i)))
          | inr ne ↦
              ap (λ (q : Bool). if q then steps + 1 else 0) (ne_eqb j i ne)
              ∙ sym (ap (λ (q : Bool). if q then e.steps else 0) (other n j x is ne))
        ]
