-- Several steps of a call, one after another, in the midst of an event: the list of acts goes on by each of them.
use Rattle.std.specs.Prelude.{◌+◌, zero, suc, Option, Some, slice_get, slice_set, if◌then◌else◌}
use Rattle.std.specs.List.{remove}
use Rattle.std.proofs.Common.{◌≡◌, ℕ, Bool, true, false, List, refl, sym, ap, subst, arith, ◌∙◌}
use Rattle.map_tables.specs.declared.node.Node.{Node}
use Rattle.papaya_raw.specs.declared.machines.progress.Progress.{Progress}
use Rattle.papaya_raw.specs.declared.machines.progress.Progress.TheVariants as progress
use Rattle.play_events.specs.Given.ScenesScene.{slot_of}
use Rattle.play_events.specs.Given.ScenesStepping.{has_ended}
use Rattle.run_schedules.specs.declared.effect.Effect.{Effect}
use Rattle.run_schedules.specs.declared.event.Event.{Event}
use Rattle.run_schedules.specs.declared.outcome.Outcome.{Outcome}
use Rattle.run_schedules.specs.Schedules.After.{moment}
use Rattle.run_schedules.specs.Schedules.Entry.{Entry}
use Rattle.run_effects.specs.Effects.Known.{Known, known}
use Rattle.play_events.specs.Given.SchedulerDeclared.scheduler.Scheduler.{Scheduler}
use Rattle.play_events.specs.Given.NamedTelling.{continues}
use Rattle.play_events.specs.Given.ExecutorDeclared.caller.NamedCaller.{NamedCaller}
use Rattle.play_events.specs.Given.ExecutorDeclared.kind.CallKind.{CallKind}
use Rattle.play_events.specs.Given.ActsLists.{Course}
use Rattle.run_schedules.specs.Deeds.Deeds.{Steps}
use Rattle.play_events.specs.Given.SteppingStepping.{GoneBy, GoneFor, IsStepped}
use Rattle.play_events.specs.Given.Says.{caller_then, outcome_of}
use Rattle.play_events.specs.Given.GroupedGrouping.{MayHave, Names, number_called}
use Rattle.play_events.specs.Given.GroupedReach.{Reach}
use Rattle.play_events.proofs.Given.GroupedCallers.{set_there}
use Rattle.papaya_steps.proofs.Pieced.CallsOn.{then_as}
use Rattle.play_events.proofs.Given.GroupedMidst.{InEvent}
use Rattle.papaya_steps.proofs.Pieced.StepCall.{HasCallIn, step_goes}
use Rattle.seize_words.proofs.General.{same_some}

none_more : (n : ℕ) → n ≡ 0 + n
none_more n = omega arith

-- a step after which a call goes on by itself is none by which it has ended
still : {K V : Type 0} (by : Known) (its : CallKind) (value : Option V) (said : Progress (Node K V)) → continues (outcome_of by its value said) ≡ true → has_ended said ≡ false
still by its value progress.Goes on = refl
still by its value (progress.Gave node) on = refl
still by its value (progress.Unstored node) on = refl
still by its value progress.Waits on = refl
still by its value (progress.Asks word) on = refl
still by its value progress.Ready on = refl
still by its value (progress.Pair word) on = refl
still by its value (progress.Done said) on = absurd (cc on)
still by its value (progress.Refused fault) on = absurd (cc on)

module _ {K V S : Type 0} (same : K → K → Bool) (by_hasher : S → K → ℕ) (shards : ℕ) (log : List (Entry K V)) (event : Event K V) (place i m : ℕ) (own : List ℕ)
    (may : (names : Names) → number_called own names ≡ Some i → MayHave names (moment log) event (Steps i)) where
  -- at this place stands the caller of this name, and has its call under way
  pub record StandsThere (p : Scheduler K V S) : Type 0 where
    pub caller : NamedCaller V
    pub at : slice_get p.calls place ≡ Some caller
    pub name : caller.name ≡ own
    pub number : caller.number ≡ i
    pub map : caller.map ≡ m
    pub works : HasCallIn i m p.logged.executor

  module _ (h : S) (b r : ℕ) where
    abbrev pub InMidst : (did : List Effect) (steps : ℕ) → Outcome V → Scheduler K V S → Type 0
    InMidst did steps outcome p = Reach same by_hasher h b r shards (λ x. InEvent log event did steps outcome p.calls x) p.logged.executor (known p.logged.notes)

  module _ (outcome : Outcome V) (before after : List Effect) (p q : Scheduler K V S) (steps : ℕ) (prev : Outcome V) where
    -- by one step
    abbrev Goes : S → ℕ → ℕ → Type 0
    Goes h b r =
        Course V same by_hasher b r slot_of → (st : IsStepped same (by_hasher h) place outcome before after p q) → StandsThere p → InMidst h b r before steps prev p
        → InMidst h b r after (1 + steps) outcome q × (has_ended st.said ≡ false → StandsThere q)

    goes_here : Goes p.logged.executor.hasher p.logged.executor.batch_size p.logged.executor.roots
    goes_here any st stands at =
        let one : st.caller ≡ stands.caller = same_some st.caller stands.caller (sym st.at ∙ stands.at) in
        let name : st.caller.name ≡ own = ap (λ (d : NamedCaller V). d.name) one ∙ stands.name in
        let number : st.caller.number ≡ i = ap (λ (d : NamedCaller V). d.number) one ∙ stands.number in
        let map : st.caller.map ≡ m = ap (λ (d : NamedCaller V). d.map) one ∙ stands.map in
        let has = subst (λ (j : ℕ). HasCallIn j st.caller.map p.logged.executor) (sym number) (subst (λ (n : ℕ). HasCallIn i n p.logged.executor) (sym map) stands.works) in
        let done = step_goes same by_hasher place outcome before after p q st log event
        (λ names called. subst (λ (j : ℕ). MayHave names (moment log) event (Steps j)) (sym number)
        (may names (subst (λ (n : List ℕ). number_called n names ≡ Some i) name (called ∙ ap Some number)))) steps prev shards any has at in (
          done.0,
          λ on. (let alike = then_as (known q.logged.notes) st.caller st.said in record {
            caller = caller_then (known q.logged.notes) st.caller st.said;
            at = ap (λ (l : List (NamedCaller V)). slice_get l place) st.calls
                ∙ ap (λ (c : Bool). slice_get (if c then remove p.calls place else slice_set p.calls place (caller_then (known q.logged.notes) st.caller st.said)) place) on
                ∙ set_there p.calls place st.caller (caller_then (known q.logged.notes) st.caller st.said) st.at;
            name = alike.0 ∙ name;
            number = alike.1 ∙ number;
            map = alike.2 ∙ map;
            works = subst (λ (j : ℕ). HasCallIn j m q.logged.executor) number (subst (λ (n : ℕ). HasCallIn st.caller.number n q.logged.executor) map (done.1 on));
          }),
        )

    goes_so : (h : S) (b r : ℕ) → p.logged.executor.hasher ≡ h → p.logged.executor.batch_size ≡ b → p.logged.executor.roots ≡ r → Goes h b r
    goes_so h b r hasher size roots =
        subst (λ (x : S). Goes x b r) hasher
        (subst (λ (x : ℕ). Goes p.logged.executor.hasher x r) size (subst (λ (x : ℕ). Goes p.logged.executor.hasher p.logged.executor.batch_size x) roots goes_here))

    pub one_goes : (h : S) (b r : ℕ) → Course V same by_hasher b r slot_of → (st : IsStepped same (by_hasher h) place outcome before after p q) → StandsThere p → InMidst h b r before steps prev p
        → InMidst h b r after (1 + steps) outcome q × (has_ended st.said ≡ false → StandsThere q)
    one_goes h b r any st stands at = goes_so h b r at.hasher_is at.size at.roots_are any st stands at

  module _ (h : S) (b r : ℕ) (any : Course V same by_hasher b r slot_of) where
    -- by several, after each of which the call goes on
    pub gone_for : (n : ℕ) (before after : List Effect) (p q : Scheduler K V S) (steps : ℕ) (prev : Outcome V) → GoneFor same (by_hasher h) place n before after p q → StandsThere p → InMidst h b r before steps prev p
        → (last : Outcome V) × (InMidst h b r after (n + steps) last q × StandsThere q)
    gone_for zero before after p q steps prev (same_list, same_one) stands at = (
      prev,
      (
        subst (λ (k : ℕ). InMidst h b r after k prev q) (none_more steps) (subst (λ (x : Scheduler K V S). InMidst h b r after steps prev x) same_one (subst (λ (l : List Effect). InMidst h b r l steps prev p) same_list at)),
        subst StandsThere same_one stands,
      ),
    )
    gone_for (suc n) before after p q steps prev (mid, t, outcome, before_it, on, st) stands at =
        let was = gone_for n before mid p t steps prev before_it stands at in
        let done = one_goes outcome mid after t q (n + steps) was.0 h b r any st was.1.1 was.1.0 in
        let count : 1 + (n + steps) ≡ suc n + steps = omega arith in
        (outcome, (subst (λ (k : ℕ). InMidst h b r after k outcome q) count done.0, done.1 (still (known q.logged.notes) st.caller.kind st.caller.value st.said (sym (ap continues st.outcome_is) ∙ on))))

    -- and then one that came to this
    pub gone_by : (count : ℕ) (outcome : Outcome V) (before after : List Effect) (p q : Scheduler K V S) (prev : Outcome V) → GoneBy same (by_hasher h) place count outcome before after p q → StandsThere p → InMidst h b r before 0 prev p
        → InMidst h b r after count outcome q
    gone_by count outcome before after p q prev (n, count_is, mid, t, before_it, st) stands at =
        let was = gone_for n before mid p t 0 prev before_it stands at in
        let done = one_goes outcome mid after t q (n + 0) was.0 h b r any st was.1.1 was.1.0 in
        let many : 1 + (n + 0) ≡ count = omega (arith, count_is) in
        subst (λ (k : ℕ). InMidst h b r after k outcome q) many done.0
