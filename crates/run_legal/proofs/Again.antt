-- An event by which a call says again what it asks, or that it is ready, is legal, and a run goes on with it.
use Rattle.std.specs.Prelude.{◌≡◌, ℕ, ◌+◌, Bool, true, false, List, [], ◌∷◌, map, Option, Some, if◌then◌else◌}
use Rattle.std.specs.List.{AllByRecursion}
use Rattle.std.proofs.Common.{refl, ap, sym, subst, ◌∙◌, arith}
use Rattle.run_grows.specs.Given.RunsSame.{is_same}
use Rattle.run_grows.specs.Given.RawMachine.{machine_asked}
use Rattle.run_grows.specs.Given.RunsDeclared.call.Call.{Call}
use Rattle.run_grows.specs.Given.RunsDeclared.call.Call.TheVariants as call
use Rattle.run_grows.specs.Given.RunsDeclared.event.Event.{Event}
use Rattle.run_grows.specs.Given.RunsDeclared.event.Event.TheVariants as event
use Rattle.run_grows.specs.Given.RunsDeclared.outcome.Outcome.{Outcome}
use Rattle.run_grows.specs.Given.RunsDeclared.outcome.Outcome.TheVariants as outcome
use Rattle.run_grows.specs.Given.SchedulesAfter.{after, with_outcome, moment, moments_from}
use Rattle.run_grows.specs.Given.SchedulesBeginning.{at_work}
use Rattle.run_grows.specs.Given.SchedulesEffects.{worked}
use Rattle.run_grows.specs.Given.SchedulesEntry.{Entry, IfCall, acting, caller_of}
use Rattle.run_grows.specs.Given.SchedulesHanding.{IsWhole, LeavesOf, is_clear_outcome}
use Rattle.run_grows.specs.Given.SchedulesInTurn.{HasRightOutcome}
use Rattle.run_grows.specs.Given.SchedulesLinearizable.{ActsOf, ActsRight, AsksRight, Changes, Ends, IsLinearizable}
use Rattle.run_grows.specs.Given.SchedulesModel.{changes_of, left_last}
use Rattle.run_grows.specs.Given.SchedulesMoment.{UnderWay as CallThere, CallState, Asking, IsReady, Moment}
use Rattle.run_grows.specs.Given.SchedulesSteps.{ReadsBriefly}
use Rattle.run_grows.specs.Given.SchedulesTerms.{Terms}
use Rattle.run_grows.specs.Given.SchedulesViews.{call_of}
use Rattle.run_grows.specs.Given.CallersTogether.{UnderWay}
use Rattle.run_grows.specs.Given.EffectsKnown.{Known}
use Rattle.run_grows.specs.Given.FinishesMachines.{machine_of}
use Rattle.run_grows.proofs.Given.HistoriesNoKey.Idle.{idle_are_linearizable}
use Rattle.run_grows.proofs.Given.OwesClear.{walks_are_clear}
use Rattle.run_grows.specs.Given.PromisesGuards.{EntersInside}
use Rattle.run_grows.specs.Given.PromisesSheltered.{SectionsHold}
use Rattle.run_grows.proofs.Given.PromisesBrief.Ends.{events_read_briefly}
use Rattle.run_sweeps.specs.Purposes.Swept.{SaysNothing}
use Rattle.run_sweeps.proofs.Purposes.Nothing.{other_outcomes_are_swept}
use Rattle.run_grows.specs.Given.ModelsCallEvents.{IsOfNoSlot}
use Rattle.run_grows.proofs.Given.ModelsCallEvents.{others_hand_over}
use Rattle.run_grows.specs.Given.SettlesCounts.{HasToCount}
use Rattle.run_grows.proofs.Given.SettlesHand.Asked.{walks_have_nothing}
use Rattle.run_grows.specs.Given.FindsLittle.{ReclaimsAll}
use Rattle.run_legal.specs.Between.{IsLike}
use Rattle.run_legal.specs.CallEvents.{IsLegalBut}
use Rattle.run_legal.specs.Carried.{RefinesRun}
use Rattle.run_legal.specs.Over.{AgainEventsEnd, ContinuesBy, IsSaidSo}
use Rattle.run_legal.proofs.CallLeaves.{none_asked}
use Rattle.run_legal.proofs.Idle.{still_events_are_legal}
use Rattle.run_legal.proofs.Over.{quiet_events_end}
use Rattle.run_grows.specs.Given.ScenesHeld.{Held, IsAt}
use Rattle.run_grows.specs.Given.ScenesScene.{Scene}
use Rattle.run_grows.specs.Given.SchedulesTransition.{past, transition}

module _ {K V : Type 0} where
  -- a call that says again how far it is has changed nothing, and is as it was
  is_still : (said : Outcome V) (c : CallThere K V) → IsSaidSo said c.stands → with_outcome said (record c { steps = c.steps + 0 }) ≡ c
  is_still (outcome.Asks question) c so = by c.stands so
    where
      none : c.steps + 0 ≡ c.steps
      none = omega arith

      by : (stands : CallState) → stands ≡ Asking question → with_outcome {V = V} (outcome.Asks question) (record c { steps = c.steps + 0; stands = stands }) ≡ record c { stands = stands }
      by (Asking q) is = ap (λ (n : ℕ). record c { steps = n; stands = Asking q }) none
      by _ is = absurd (cc is)
  is_still outcome.Ready c so =
      let none : c.steps + 0 ≡ c.steps = omega arith in
      ap (λ (n : ℕ). record c { steps = n; stands = IsReady }) none ∙ ap (λ (stands : CallState). record c { stands = stands }) (sym so)
  is_still _ c so = absurd so

  module _ (said : Outcome V) (own : List ℕ) where
    abbrev again : CallThere K V → CallThere K V
    again c = if is_same c.caller own then with_outcome said (record c { steps = c.steps + 0 }) else c

    one_still : (c : CallThere K V) → (is_same c.caller own ≡ true → IsSaidSo said c.stands) → again c ≡ c
    one_still c so = by (is_same c.caller own) refl
      where
        by : (q : Bool) → is_same c.caller own ≡ q → (if q then with_outcome said (record c { steps = c.steps + 0 }) else c) ≡ c
        by true is = is_still said c (so is)
        by false is = refl

    calls_still : (calls : List (CallThere K V)) → AllByRecursion (λ d. is_same d.caller own ≡ true → IsSaidSo said d.stands) calls → map again calls ≡ calls
    calls_still [] all = refl
    calls_still (c ∷ calls) all = ap (λ (x : CallThere K V). x ∷ map again calls) (one_still c all.0) ∙ ap (λ (xs : List (CallThere K V)). c ∷ xs) (calls_still calls all.1)

-- what it says is no answer, and nothing that is asked anew

module _ {K V : Type 0} (same : K → K → Bool) where
  ends_none : (its : Call K V) (c : CallThere K V) (moments : List (Moment K V)) (said : Outcome V) → IsSaidSo said c.stands → Ends same its c moments said
  ends_none (call.On one) c moments (outcome.Asks question) so = tt
  ends_none (call.On one) c moments outcome.Ready so = tt
  ends_none (call.On one) c moments _ so = absurd so
  ends_none (call.Reserve n) c moments said so = tt
  ends_none call.Clear c moments said so = tt
  ends_none call.Retain c moments said so = tt
  ends_none call.Len c moments said so = tt
  ends_none call.Walk c moments said so = tt

  asks_none : (c : CallThere K V) (moments : List (Moment K V)) (said : Outcome V) → IsSaidSo said c.stands → AsksRight same c.stands c moments said
  asks_none c moments (outcome.Asks question) so = subst (λ (stands : CallState). AsksRight same stands c moments (outcome.Asks question)) (sym so) tt
  asks_none c moments outcome.Ready so = subst (λ (stands : CallState). AsksRight same stands c moments outcome.Ready) (sym so) tt
  asks_none c moments _ so = absurd so

module _ (K V : Type 0) (same : K → K → Bool) (hash : ℕ → K → ℕ) (name : ℕ → List ℕ) (terms : Terms) (log : List (Entry K V)) (known : Known) (s : Scene K V) (x : Held K V) (at : IsAt same hash x s)
    (run : RefinesRun same name terms log known s) (map i : ℕ) (u : UnderWay K V K) (here : s.calls map i ≡ Some u) (c : CallThere K V) (c_is : call_of (name i) (moment log) ≡ Some c) where
  abbrev m : Moment K V
  m = moment log

  -- a walk that is ready leaves nothing behind
  ready_leaves : (machine_asked (machine_of u)).1 ≡ true → LeavesOf true outcome.Ready c
  ready_leaves ready =
      let clear = walks_are_clear K V name m known s run.calls.kept.made run.calls.kept.tables run.calls.kept.short map i u here ready c c_is in (
        record {
          owes = run.calls.kept.owed.owed map i u here c c_is ∙ (walks_have_nothing K V (machine_of u) ready known).0;
          block = clear.0;
          table = clear.1;
          counted = subst (λ (q : Bool). HasToCount q (c.gained + c.lost)) (none_asked (machine_of u) ready) (run.calls.kept.counts.counts map i u here c c_is);
        },
        clear.2,
      )

  leaves_so : (said : Outcome V) → IsSaidSo said c.stands → (said ≡ outcome.Ready → (machine_asked (machine_of u)).1 ≡ true) → LeavesOf (is_clear_outcome said) said c
  leaves_so (outcome.Asks question) so ready = tt
  leaves_so outcome.Ready so ready = ready_leaves (ready refl)
  leaves_so _ so ready = absurd so

  module _ (its : Event K V) (said : Outcome V) (so : IsSaidSo said c.stands) (ready : said ≡ outcome.Ready → (machine_asked (machine_of u)).1 ≡ true) where
    abbrev e_so : Outcome V → Entry K V
    e_so told = record { event = its; outcome = told; steps = 0; effects = [] }

    abbrev e : Entry K V
    e = e_so said

    -- an event that begins nothing
    module _ (of_call : caller_of its ≡ Some (name i)) (begins : (told : Outcome V) → at_work (e_so told) m ≡ m) (stays : (told : Outcome V) → worked (e_so told) m ≡ m) (no_slot : IsOfNoSlot its)
        (enters : EntersInside s.world its said m.there) (whole : IsWhole its said [] m (worked e m)) (reclaims : ReclaimsAll log e) (says : SaysNothing said)
        (like : IsLike m (moment (e ∷ log))) (right : HasRightOutcome terms log e) where
      its_call : (v : Moment K V) → v ≡ m → acting (caller_of its) v ≡ Some c
      its_call v is = ap (λ (who : Option (List ℕ)). acting who v) of_call ∙ ap (λ (y : Moment K V). call_of (name i) y) is ∙ c_is

      -- it acts as one that just goes on, and asks nothing anew
      acts_as : (told : Outcome V) → ActsOf same log (e_so told) (acting (caller_of its) (at_work (e_so told) m)) (acting (caller_of its) (worked (e_so told) m)) → ActsRight same log (e_so told) c c
      acts_as told acts =
          subst (λ (o : Option (CallThere K V)). ActsOf same log (e_so told) o (Some c)) (its_call (at_work (e_so told) m) (begins told))
          (subst (λ (o : Option (CallThere K V)). ActsOf same log (e_so told) (acting (caller_of its) (at_work (e_so told) m)) o) (its_call (worked (e_so told) m) (stays told)) acts)

      goes_as : ActsRight same log (e_so outcome.Goes) c c
      goes_as = acts_as outcome.Goes (idle_are_linearizable K V same (past log) (transition log (e_so outcome.Goes)) refl tt)

      at_goes : at_work (e_so outcome.Goes) m ≡ at_work e m
      at_goes = begins outcome.Goes ∙ sym (begins said)

      linear : IsLinearizable same log e
      linear =
          subst (λ (o : Option (CallThere K V)). ActsOf same log e o (acting (caller_of its) (worked e m))) (sym (its_call (at_work e m) (begins said)))
          (subst (λ (o : Option (CallThere K V)). ActsOf same log e (Some c) o) (sym (its_call (worked e m) (stays said))) (record {
            changes = subst (λ (v : Moment K V). Changes same c.call c v []) at_goes goes_as.changes;
            ends = ends_none same c.call c (moments_from c.begun log) said so;
            asks = asks_none same c (moments_from c.begun log) said so;
          }))

      brief : ReadsBriefly log e (worked e m)
      brief = subst (λ (v : Moment K V). ReadsBriefly log e v) (sym (stays said))
          (events_read_briefly K V same hash name (past log) (λ j. 0) m known s x at run.calls.whole run.reading map i u here (caller_of e.event) of_call e.steps (omega arith))

      leaves : IfCall (LeavesOf (is_clear_outcome said) said) (acting (caller_of its) (worked e m))
      leaves = subst (λ (o : Option (CallThere K V)). IfCall (LeavesOf (is_clear_outcome said) said) o) (sym (its_call (worked e m) (stays said))) (leaves_so said so ready)

      unchanged : (changes_of log e ≡ []) × (left_last its said m ≡ [])
      unchanged = others_hand_over K V log e no_slot

      legal : IsLegalBut same terms log e × SectionsHold (moment (e ∷ log)) known s.world
      legal =
          still_events_are_legal K V same terms log known s.world e refl linear run.sections enters unchanged.0 unchanged.1 brief (other_outcomes_are_swept K V same terms (past log) (transition log e) says) whole leaves

      said_on : IsLegalBut same terms log e × RefinesRun same name terms (e ∷ log) known s
      said_on = (
        legal.0,
        quiet_events_end K V same name terms log known s s run e right legal.0.life refl unchanged.0 unchanged.1 reclaims m run.calls run.reading like refl legal.1,
      )

module _ (K V : Type 0) (same : K → K → Bool) (hash : ℕ → K → ℕ) where
  pub again_events_end : AgainEventsEnd K V same hash
  again_events_end name terms log known s x at run map i u here c c_is its on told is_so ready all right = by its on told is_so ready all right
    where
      Goal : Event K V → Outcome V → Type 0
      Goal its told =
          IsSaidSo told c.stands → (told ≡ outcome.Ready → (machine_asked (machine_of u)).1 ≡ true) → AllByRecursion (λ d. is_same d.caller (name i) ≡ true → IsSaidSo told d.stands) (moment log).calls
          → (let e : Entry K V = record { event = its; outcome = told; steps = 0; effects = [] } in
          HasRightOutcome terms log e → IsLegalBut same terms log e × RefinesRun same name terms (e ∷ log) known s)

      with_calls : Moment K V → List (CallThere K V) → Moment K V
      with_calls m calls = record m { calls = calls }

      step_on : (refuse : Bool) (told : Outcome V) → Goal (event.Step (name i) refuse) told
      step_on refuse (outcome.Asks q) so ready all right =
          said_on K V same hash name terms log known s x at run map i u here c c_is (event.Step (name i) refuse) (outcome.Asks q) so ready refl (λ told. refl) (λ told. refl) tt tt tt tt tt
          (ap (with_calls (after (record { event = event.Step (name i) refuse; outcome = outcome.Asks q; steps = 0; effects = [] }) (moment log))) (calls_still (outcome.Asks q) (name i) (moment log).calls all)) right
      step_on refuse outcome.Ready so ready all right =
          said_on K V same hash name terms log known s x at run map i u here c c_is (event.Step (name i) refuse) outcome.Ready so ready refl (λ told. refl) (λ told. refl) tt tt tt tt tt
          (ap (with_calls (after (record { event = event.Step (name i) refuse; outcome = outcome.Ready; steps = 0; effects = [] }) (moment log))) (calls_still outcome.Ready (name i) (moment log).calls all)) right
      step_on refuse _ so ready all right = absurd so

      go_on : (refuse : Bool) (told : Outcome V) → Goal (event.Go (name i) refuse) told
      go_on refuse (outcome.Asks q) so ready all right =
          said_on K V same hash name terms log known s x at run map i u here c c_is (event.Go (name i) refuse) (outcome.Asks q) so ready refl (λ told. refl) (λ told. refl) tt tt tt tt tt
          (ap (with_calls (after (record { event = event.Go (name i) refuse; outcome = outcome.Asks q; steps = 0; effects = [] }) (moment log))) (calls_still (outcome.Asks q) (name i) (moment log).calls all)) right
      go_on refuse outcome.Ready so ready all right =
          said_on K V same hash name terms log known s x at run map i u here c c_is (event.Go (name i) refuse) outcome.Ready so ready refl (λ told. refl) (λ told. refl) tt tt tt tt tt
          (ap (with_calls (after (record { event = event.Go (name i) refuse; outcome = outcome.Ready; steps = 0; effects = [] }) (moment log))) (calls_still outcome.Ready (name i) (moment log).calls all)) right
      go_on refuse _ so ready all right = absurd so

      by : (its : Event K V) → ContinuesBy its (name i) → (told : Outcome V) → Goal its told
      by (event.Step own refuse) on told = subst (λ (o : List ℕ). Goal (event.Step o refuse) told) (sym on) (step_on refuse told)
      by (event.Go own refuse) on told = subst (λ (o : List ℕ). Goal (event.Go o refuse) told) (sym on) (go_on refuse told)
      by _ on told = absurd on
