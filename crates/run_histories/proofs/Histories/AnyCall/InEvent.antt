-- An event of several steps of a call, whatever its kind, is linearizable: what was proved of calls on one key, and of all others, in one.
use Rattle.std.specs.Prelude.{◌≡◌, ℕ, Bool, List, ◌++◌, Option, Some}
use Rattle.std.proofs.Common.{refl, ap, sym, subst, ◌∙◌, inl, inr}
use Rattle.run_places.specs.Given.TablesDeclared.node.Node.{Node}
use Rattle.run_places.specs.Given.RawDeclared.machines.progress.Progress.{Progress}
use Rattle.run_places.specs.Given.RawDeclared.machines.progress.Progress.TheVariants as progress
use Rattle.run_places.specs.Given.RunsDeclared.call.Call.{Call}
use Rattle.run_places.specs.Given.RunsDeclared.call.Call.TheVariants as call
use Rattle.run_places.specs.Given.RunsDeclared.call.OneKey.{OneKey}
use Rattle.run_places.specs.Given.RunsDeclared.call.Reply.{Reply}
use Rattle.run_places.specs.Given.RunsDeclared.effect.Effect.{Effect}
use Rattle.run_places.specs.Given.RunsDeclared.outcome.Outcome.{Outcome}
use Rattle.run_places.specs.Given.RunsDeclared.outcome.Outcome.TheVariants as outcome
use Rattle.run_places.specs.Given.SchedulesEffects.{with_effects}
use Rattle.run_places.specs.Given.SchedulesLinearizable.{Linearizes}
use Rattle.run_places.specs.Given.SchedulesMoment.{UnderWay as CallThere, Moment}
use Rattle.run_places.specs.Given.SchedulesViews.{call_of}
use Rattle.run_places.specs.Given.CallersTogether.{CallOnKey, UnderWay, OnKey, ForRoom, Counting, OverAll}
use Rattle.run_places.specs.Given.EffectsEffects.{effects_of, known_after}
use Rattle.run_places.specs.Given.EffectsKnown.{Known}
use Rattle.run_places.specs.Given.EffectsDeclared.acting.Acting.TheVariants as acts
use Rattle.run_places.specs.Given.FollowsCalls.{IsCalled}
use Rattle.run_places.specs.Given.FollowsShows.{Refines}
use Rattle.run_places.specs.Given.FollowsSteps.{Did}
use Rattle.run_places.proofs.Given.FollowsCalled.{key_goes_on, room_goes_on, counting_goes_on, sweep_goes_on}
use Rattle.run_places.specs.Moments.Whole.{RefinesWhole}
use Rattle.run_places.proofs.Moments.Calls.{calls_keep_whole}
use Rattle.run_histories.specs.Histories.AsCalled.{RefinesAsCalled}
use Rattle.run_histories.specs.Histories.Due.{RefinesPendingAnswers}
use Rattle.run_histories.specs.Histories.Events.{HasOutcome}
use Rattle.run_histories.specs.Histories.InEvent.{HasOutcomeSo, InEvent, EventsBegin, EventsContinue, EventsPreserveAll, EventsHaveWords, EventsEnd}
use Rattle.run_histories.specs.Histories.OtherCalls.{IsOnNoKey}
use Rattle.run_histories.specs.Histories.OtherMidsts.{AsksAsSaid, InOtherMidst}
use Rattle.run_histories.specs.Histories.Questions.{AllHaveAskedJust, AsksOnStill}
use Rattle.run_histories.specs.Histories.Several.{InMidst}
use Rattle.run_histories.proofs.Histories.NoKey.AsCalled.{calls_keep_as_called}
use Rattle.run_histories.proofs.Histories.Due.{calls_keep_due}
use Rattle.run_histories.proofs.Histories.Events.{midsts_end, midsts_ask_still}
use Rattle.run_histories.proofs.Histories.AnyCall.HasWords.{questions_have_words, steps_have_words}
use Rattle.run_histories.proofs.Histories.NoKey.OtherEvents.{other_midsts_end, other_midsts_ask_still}
use Rattle.run_histories.proofs.Histories.OtherMidsts.{other_midsts_begin, other_midsts_go_on, other_midsts_keep_due}
use Rattle.run_histories.proofs.Histories.Several.{first_change, midsts_begin, midsts_go_on}
use Rattle.run_places.specs.Given.ScenesHeld.{Held, IsAt}
use Rattle.run_places.specs.Given.ScenesScene.{Scene}
use Rattle.run_places.specs.Given.ScenesStepping.{StepLeads, scene_after}
use Rattle.run_places.specs.Given.SchedulesTransition.{Past, Transition}
use Rattle.run_places.proofs.Given.General.{same_some as one_of}

module _ {K V : Type 0} (same : K → K → Bool) where
  -- a call on one key was called on it, and any other one on none
  on_a_key : (x : CallOnKey K V K) (its : Call K V) → IsCalled same (OnKey x) its → (one : OneKey K V) × (its ≡ call.On one)
  on_a_key x (call.On one) is = (one, refl)
  on_a_key x (call.Reserve n) is = absurd is
  on_a_key x call.Clear is = absurd is
  on_a_key x call.Retain is = absurd is
  on_a_key x call.Len is = absurd is
  on_a_key x call.Walk is = absurd is

  abbrev IsOther : UnderWay K V K → Type 0
  IsOther (OnKey x) = ⊥
  IsOther _ = Unit {0}

  on_none : (u : UnderWay K V K) (its : Call K V) → IsOther u → IsCalled same u its → IsOnNoKey its
  on_none (OnKey x) its other is = absurd other
  on_none (ForRoom r) (call.Reserve n) other is = tt
  on_none (Counting sum) call.Len other is = tt
  on_none (OverAll o) call.Clear other is = tt
  on_none (OverAll o) call.Retain other is = tt
  on_none (OverAll o) call.Walk other is = tt
  on_none _ _ other is = absurd is

  pub comes_of_key : (known : Known) (replies : List (Option ℕ × Reply V)) (said : Progress (Node K V)) (o : Outcome V) (its : Call K V) (one : OneKey K V) → its ≡ call.On one → HasOutcomeSo known its replies said o
      → HasOutcome known one replies said o
  comes_of_key known replies said o its one e comes = subst (λ (x : Call K V). HasOutcomeSo known x replies said o) e comes

  pub comes_of_none : (known : Known) (replies : List (Option ℕ × Reply V)) (said : Progress (Node K V)) (o : Outcome V) (its : Call K V) → IsOnNoKey its → HasOutcomeSo known its replies said o → AsksAsSaid known said o
  comes_of_none known replies said o (call.On one) other comes = absurd other
  comes_of_none known replies said o (call.Reserve n) other comes = comes
  comes_of_none known replies said o call.Clear other comes = comes
  comes_of_none known replies said o call.Retain other comes = comes
  comes_of_none known replies said o call.Len other comes = comes
  comes_of_none known replies said o call.Walk other comes = comes

  so_of_none : (known : Known) (replies : List (Option ℕ × Reply V)) (said : Progress (Node K V)) (o : Outcome V) (its : Call K V) → IsOnNoKey its → AsksAsSaid known said o → HasOutcomeSo known its replies said o
  so_of_none known replies said o (call.On one) other comes = absurd other
  so_of_none known replies said o (call.Reserve n) other comes = comes
  so_of_none known replies said o call.Clear other comes = comes
  so_of_none known replies said o call.Retain other comes = comes
  so_of_none known replies said o call.Len other comes = comes
  so_of_none known replies said o call.Walk other comes = comes

  called_so : (name : ℕ → List ℕ) (m : Moment K V) (known : Known) (s : Scene K V) → Refines same name m known s → (map i : ℕ) (u : UnderWay K V K) → s.calls map i ≡ Some u
      → (c : CallThere K V) → call_of (name i) m ≡ Some c → IsCalled same u c.call
  called_so name m known s shown map i u here c c_is = let was = shown.calls map i u here in subst (λ (x : CallThere K V). IsCalled same u x.call) (one_of was.0 c (sym was.1 ∙ c_is)) was.3

-- one that goes on is of its kind still
module _ {K V : Type 0} (same : K → K → Bool) (hash : ℕ → K → ℕ) (s : Scene K V) (old new : Held K V) (map i : ℕ) (said : Progress (Node K V)) (leads : StepLeads same hash i said s old new) where
  module _ (u : UnderWay K V K) (here : s.calls map i ≡ Some u) (next : UnderWay K V K) (goes : (leads map u here).4.next ≡ Some next) where
    abbrev DidIt : UnderWay K V K → Type 0
    DidIt y =
        Did same old.batch_size old.roots s.world s.maps s.calls s.makers s.enders map (leads map u here).0 i new.memory (leads map u here).4.w2 (leads map u here).4.maps2 (leads map u here).4.next y
        (leads map u here).1 said

    key_still : (x : CallOnKey K V K) → DidIt (OnKey x) → (y : CallOnKey K V K) × (next ≡ OnKey y)
    key_still x (p2, end, machine_is, told_is, inl (step, moved)) = (_, key_goes_on _ end next (sym moved.2 ∙ goes))
    key_still x (p2, end, machine_is, told_is, inr (row, stayed)) = (_, key_goes_on _ end next (sym stayed.2 ∙ goes))

    other_still : (x : UnderWay K V K) → IsOther same x → DidIt x → IsOther same next
    other_still (OnKey x) other did = absurd other
    other_still (ForRoom r) other (p2, end, machine_is, told_is, inl (step, moved)) = subst (IsOther same) (sym (room_goes_on _ end next (sym moved.2 ∙ goes))) tt
    other_still (ForRoom r) other (p2, end, machine_is, told_is, inr (row, stayed)) = subst (IsOther same) (sym (room_goes_on _ end next (sym stayed.2 ∙ goes))) tt
    other_still (Counting sum) other (sum2, end, machine_is, told_is, still, stayed) = subst (IsOther same) (sym (counting_goes_on sum2 end next (sym stayed.2 ∙ goes))) tt
    other_still (OverAll o) other (p2, end, machine_is, told_is, inl (step, moved)) = subst (IsOther same) (sym (sweep_goes_on _ end next (sym moved.2 ∙ goes))) tt
    other_still (OverAll o) other (p2, end, machine_is, told_is, inr (row, stayed)) = subst (IsOther same) (sym (sweep_goes_on _ end next (sym stayed.2 ∙ goes))) tt

module _ {K V : Type 0} (same : K → K → Bool) (name : ℕ → List ℕ) (log : Past K V) (beginning : Moment K V) (map i : ℕ) (c : CallThere K V) (done : List Effect) (m : Moment K V) (known : Known)
    (s : Scene K V) where
  -- of one on no key it is what it is of such calls
  of_other : (u : UnderWay K V K) → IsOther same u → InOtherMidst same name log beginning map i c done m known s u → InEvent same name log beginning map i c done m known s u
  of_other (OnKey x) other midst = absurd other
  of_other (ForRoom r) other midst = midst
  of_other (Counting sum) other midst = midst
  of_other (OverAll o) other midst = midst

module _ (K V : Type 0) (same : K → K → Bool) (hash : ℕ → K → ℕ) where
  pub events_begin : EventsBegin K V same hash
  events_begin name log beginning begins known s e at_e whole dues called map i (OnKey x) here c c_is =
      let on = on_a_key same x c.call (called_so same name beginning known s dues.history.shown map i (OnKey x) here c c_is) in
      (on.0, on.1, midsts_begin K V same hash name log beginning begins known s e at_e whole dues map i x here c c_is on.0 on.1, called)
  events_begin name log beginning begins known s e at_e whole dues called map i (ForRoom r) here c c_is =
      other_midsts_begin K V same name log beginning begins known s whole dues called map i (ForRoom r) here c c_is
      (on_none same (ForRoom r) c.call tt (called_so same name beginning known s dues.history.shown map i (ForRoom r) here c c_is))
  events_begin name log beginning begins known s e at_e whole dues called map i (Counting sum) here c c_is =
      other_midsts_begin K V same name log beginning begins known s whole dues called map i (Counting sum) here c c_is
      (on_none same (Counting sum) c.call tt (called_so same name beginning known s dues.history.shown map i (Counting sum) here c c_is))
  events_begin name log beginning begins known s e at_e whole dues called map i (OverAll o) here c c_is =
      other_midsts_begin K V same name log beginning begins known s whole dues called map i (OverAll o) here c c_is
      (on_none same (OverAll o) c.call tt (called_so same name beginning known s dues.history.shown map i (OverAll o) here c c_is))

  module _ (name : ℕ → List ℕ) (log : Past K V) (beginning : Moment K V) (map i : ℕ) (c : CallThere K V) (done : List Effect) (m : Moment K V) (known : Known) (s : Scene K V)
      (old new : Held K V) (at_old : IsAt same hash old s) (said : Progress (Node K V)) (leads : StepLeads same hash i said s old new) where
    abbrev m2 : Moment K V
    m2 = with_effects (Some (name i)) (Some map) (effects_of (acts.Call i map) known new.changed) m

    abbrev known2 : Known
    known2 = known_after (acts.Call i map) new.changed known

    abbrev done2 : List Effect
    done2 = done ++ effects_of (acts.Call i map) known new.changed

    abbrev scene2 : (u : UnderWay K V K) → s.calls map i ≡ Some u → Scene K V
    scene2 u here = scene_after same s old new map i (leads map u here).0 u (leads map u here).1 said (leads map u here).4

    other_goes_on : (u : UnderWay K V K) → IsOther same u → (midst : InOtherMidst same name log beginning map i c done m known s u) (next : UnderWay K V K) → (leads map u midst.here).4.next ≡ Some next
        → InEvent same name log beginning map i c done2 m2 known2 (scene2 u midst.here) next
    other_goes_on u other midst next goes =
        of_other same name log beginning map i c done2 m2 known2 (scene2 u midst.here) next
        (other_still same hash s old new map i said leads u midst.here next goes u other (leads map u midst.here).4.did)
        (other_midsts_go_on K V same hash name log beginning map i c done m known s u midst old new at_old said leads next goes)

    key_goes : (x : CallOnKey K V K) (one : OneKey K V) (one_is : c.call ≡ call.On one) (midst : InMidst same name log beginning map i one c done m known s x) → RefinesAsCalled same name m known s
        → (next : UnderWay K V K) → (leads map (OnKey x) midst.here).4.next ≡ Some next → InEvent same name log beginning map i c done2 m2 known2 (scene2 (OnKey x) midst.here) next
    key_goes x one one_is midst called next goes =
        let still = key_still same hash s old new map i said leads (OnKey x) midst.here next goes x (leads map (OnKey x) midst.here).4.did in
        subst (λ (z : UnderWay K V K). InEvent same name log beginning map i c done2 m2 known2 (scene2 (OnKey x) midst.here) z) (sym still.1) (
          one,
          one_is,
          midsts_go_on K V same hash name log beginning map i one c one_is done m known s x midst old new at_old said leads still.0 (goes ∙ ap Some still.1),
          calls_keep_as_called K V same hash name m known s old new at_old midst.whole called map i (OnKey x) midst.here said leads,
        )

    abbrev All : (u : UnderWay K V K) → s.calls map i ≡ Some u → Type 0
    All u here = RefinesWhole same name m2 known2 (scene2 u here) × RefinesPendingAnswers same name log m2 known2 (scene2 u here) × RefinesAsCalled same name m2 known2 (scene2 u here)

    other_keeps : (u : UnderWay K V K) (midst : InOtherMidst same name log beginning map i c done m known s u) → All u midst.here
    other_keeps u midst = (
      calls_keep_whole K V same hash name m known s old new at_old midst.whole map i u midst.here said leads,
      other_midsts_keep_due K V same hash name log beginning map i c done m known s u midst old new at_old said leads,
      calls_keep_as_called K V same hash name m known s old new at_old midst.whole midst.called map i u midst.here said leads,
    )

    key_keeps : (x : CallOnKey K V K) (one : OneKey K V) → c.call ≡ call.On one → (midst : InMidst same name log beginning map i one c done m known s x) → RefinesAsCalled same name m known s → All (OnKey x) midst.here
    key_keeps x one one_is midst called = (
      calls_keep_whole K V same hash name m known s old new at_old midst.whole map i (OnKey x) midst.here said leads,
      calls_keep_due K V same hash name log m known s old new at_old midst.whole midst.dues map i (OnKey x) midst.here said leads
          (first_change same hash name log beginning map i one c one_is done m known s x midst old new at_old said leads),
      calls_keep_as_called K V same hash name m known s old new at_old midst.whole called map i (OnKey x) midst.here said leads,
    )

    other_words : (u : UnderWay K V K) → IsOther same u → (midst : InOtherMidst same name log beginning map i c done m known s u) → (x : Progress (Node K V)) → StepLeads same hash i x s old new
        → (o : Outcome V) × AsksAsSaid (known_after (acts.Call i map) new.changed known) x o
    other_words u other midst (progress.Asks about) its =
        let it = questions_have_words K V same hash name m known s old new at_old midst.whole map i u midst.here about its in (outcome.Asks it.0, it.1)
    other_words u other midst _ its = (outcome.Goes, tt)

    abbrev Words : Type 0
    Words = (o : Outcome V) × HasOutcomeSo known2 c.call c.replies said o

    other_says : (u : UnderWay K V K) → IsOther same u → InOtherMidst same name log beginning map i c done m known s u → Words
    other_says u other midst = let it = other_words u other midst said leads in (it.0, so_of_none same known2 c.replies said it.0 c.call midst.other it.1)

    key_says : (x : CallOnKey K V K) (one : OneKey K V) → c.call ≡ call.On one → InMidst same name log beginning map i one c done m known s x → Words
    key_says x one one_is midst =
        let it = steps_have_words K V same hash name log m known s old new at_old midst.whole midst.dues map i x midst.here said leads midst.there midst.there_is one (midst.same_call.call ∙ one_is) in (
          it.0,
          subst (λ (y : Call K V). HasOutcomeSo known2 y c.replies said it.0) (sym one_is) (subst (λ (r : List (Option ℕ × Reply V)). HasOutcome known2 one r said it.0) midst.same_call.replies it.1),
        )

  pub events_go_on : EventsContinue K V same hash
  events_go_on name log beginning map i c done m known s (OnKey x) midst old new at_old said leads next goes =
      key_goes name log beginning map i c done m known s old new at_old said leads x midst.0 midst.1 midst.2 midst.3 next goes
  events_go_on name log beginning map i c done m known s (ForRoom r) midst old new at_old said leads next goes =
      other_goes_on name log beginning map i c done m known s old new at_old said leads (ForRoom r) tt midst next goes
  events_go_on name log beginning map i c done m known s (Counting sum) midst old new at_old said leads next goes =
      other_goes_on name log beginning map i c done m known s old new at_old said leads (Counting sum) tt midst next goes
  events_go_on name log beginning map i c done m known s (OverAll o) midst old new at_old said leads next goes =
      other_goes_on name log beginning map i c done m known s old new at_old said leads (OverAll o) tt midst next goes

  pub events_keep_all : EventsPreserveAll K V same hash
  events_keep_all name log beginning map i c done m known s (OnKey x) midst old new at_old said leads =
      key_keeps name log beginning map i c done m known s old new at_old said leads x midst.0 midst.1 midst.2 midst.3
  events_keep_all name log beginning map i c done m known s (ForRoom r) midst old new at_old said leads = other_keeps name log beginning map i c done m known s old new at_old said leads (ForRoom r) midst
  events_keep_all name log beginning map i c done m known s (Counting sum) midst old new at_old said leads = other_keeps name log beginning map i c done m known s old new at_old said leads (Counting sum) midst
  events_keep_all name log beginning map i c done m known s (OverAll o) midst old new at_old said leads = other_keeps name log beginning map i c done m known s old new at_old said leads (OverAll o) midst

  pub events_have_words : EventsHaveWords K V same hash
  events_have_words name log beginning map i c done m known s (OnKey x) midst old new at_old said leads = key_says name log beginning map i c done m known s old new at_old said leads x midst.0 midst.1 midst.2
  events_have_words name log beginning map i c done m known s (ForRoom r) midst old new at_old said leads = other_says name log beginning map i c done m known s old new at_old said leads (ForRoom r) tt midst
  events_have_words name log beginning map i c done m known s (Counting sum) midst old new at_old said leads = other_says name log beginning map i c done m known s old new at_old said leads (Counting sum) tt midst
  events_have_words name log beginning map i c done m known s (OverAll o) midst old new at_old said leads = other_says name log beginning map i c done m known s old new at_old said leads (OverAll o) tt midst

  module _ (name : ℕ → List ℕ) (log : Past K V) (beginning : Moment K V) (map i : ℕ) (c : CallThere K V) (c_is : call_of (name i) beginning ≡ Some c)
      (done : List Effect) (m : Moment K V) (known : Known) (s : Scene K V) (old new : Held K V) (at_old : IsAt same hash old s) (said : Progress (Node K V)) (leads : StepLeads same hash i said s old new)
      (t : Transition K V) (is_caller : t.caller ≡ Some (name i)) (begun : t.found ≡ beginning) (acts_on : t.map ≡ Some map)
      (effects_are : t.effects ≡ done ++ effects_of (acts.Call i map) known new.changed) (comes : HasOutcomeSo (known_after (acts.Call i map) new.changed known) c.call c.replies said t.outcome) where
    other_ends : (u : UnderWay K V K) → InOtherMidst same name log beginning map i c done m known s u → Linearizes same log t × AsksOnStill t
    other_ends u midst =
        let as_said = comes_of_none same (known_after (acts.Call i map) new.changed known) c.replies said t.outcome c.call midst.other comes in (
          other_midsts_end K V same hash name log beginning map i c c_is done m known s u midst old new at_old said leads t is_caller begun acts_on effects_are as_said,
          other_midsts_ask_still K V same hash name log beginning map i c c_is done m known s u midst old new at_old said leads t is_caller begun acts_on effects_are as_said,
        )

    key_ends : (x : CallOnKey K V K) (one : OneKey K V) → c.call ≡ call.On one → AllHaveAskedJust beginning → InMidst same name log beginning map i one c done m known s x → Linearizes same log t × AsksOnStill t
    key_ends x one one_is questions midst =
        let to_it = comes_of_key same (known_after (acts.Call i map) new.changed known) c.replies said t.outcome c.call one one_is comes in (
          midsts_end K V same hash name log beginning map i one c c_is one_is questions done m known s x midst old new at_old said leads t is_caller begun acts_on effects_are to_it,
          midsts_ask_still K V same hash name log beginning map i one c c_is one_is done m known s x midst old new at_old said leads t is_caller begun acts_on effects_are to_it,
        )

  pub events_end : EventsEnd K V same hash
  events_end name log beginning map i c c_is questions done m known s (OnKey x) midst old new at_old said leads t is_caller begun acts_on effects_are comes =
      key_ends name log beginning map i c c_is done m known s old new at_old said leads t is_caller begun acts_on effects_are comes x midst.0 midst.1 questions midst.2
  events_end name log beginning map i c c_is questions done m known s (ForRoom r) midst old new at_old said leads t is_caller begun acts_on effects_are comes =
      other_ends name log beginning map i c c_is done m known s old new at_old said leads t is_caller begun acts_on effects_are comes (ForRoom r) midst
  events_end name log beginning map i c c_is questions done m known s (Counting sum) midst old new at_old said leads t is_caller begun acts_on effects_are comes =
      other_ends name log beginning map i c c_is done m known s old new at_old said leads t is_caller begun acts_on effects_are comes (Counting sum) midst
  events_end name log beginning map i c c_is questions done m known s (OverAll o) midst old new at_old said leads t is_caller begun acts_on effects_are comes =
      other_ends name log beginning map i c c_is done m known s old new at_old said leads t is_caller begun acts_on effects_are comes (OverAll o) midst
