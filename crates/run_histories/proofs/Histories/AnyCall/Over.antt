-- Once an event of steps of a call is over, the moment after it shows all of the scene, what calls owe, and what those on no key are called for, told and ask.
use Rattle.std.specs.Prelude.{◌≡◌, ℕ, Bool, true, false, List, ◌∷◌, Option, Some, None, length, suc}
use Rattle.std.proofs.Common.{refl, ap, sym, ◌∙◌, inl, inr, arith}
use Rattle.run_places.specs.Given.TablesDeclared.node.Node.{Node}
use Rattle.run_places.specs.Given.RunsSame.{is_same}
use Rattle.run_places.specs.Given.RawDeclared.machines.machine.Machine.{Machine}
use Rattle.run_places.specs.Given.RawDeclared.machines.progress.Progress.{Progress}
use Rattle.run_places.specs.Given.RawDeclared.machines.progress.Progress.TheVariants as progress
use Rattle.run_places.specs.Given.RunsDeclared.effect.Effect.{Effect}
use Rattle.run_places.specs.Given.SchedulesAfter.{stepped, moment}
use Rattle.run_places.specs.Given.SchedulesEffects.{with_effects, worked}
use Rattle.run_places.specs.Given.SchedulesEntry.{Entry, ends_call, caller_of, acted_on}
use Rattle.run_places.specs.Given.SchedulesMoment.{UnderWay as CallThere, Moment}
use Rattle.run_places.specs.Given.CallersTogether.{UnderWay, OnKey, ForRoom, Counting, OverAll}
use Rattle.run_places.specs.Given.EffectsEffects.{effects_of, known_after}
use Rattle.run_places.specs.Given.EffectsKnown.{Known}
use Rattle.run_places.specs.Given.EffectsDeclared.acting.Acting.TheVariants as acts
use Rattle.run_places.specs.Given.FinishesMachines.{ContinuesAs}
use Rattle.run_places.specs.Given.FollowsCalling.{NoneNamed, come_to}
use Rattle.run_places.proofs.Given.FollowsCalling.{apart_back}
use Rattle.run_places.specs.Hands.Calling.{AsksJust}
use Rattle.run_places.proofs.Hands.Asking.{which}
use Rattle.run_places.specs.Given.OthersElsewhere.{HasSame}
use Rattle.run_places.specs.Moments.Whole.{RefinesWhole}
use Rattle.run_places.proofs.Moments.After.{effects_after}
use Rattle.run_places.proofs.Moments.Calls.{calls_come_to_whole}
use Rattle.run_histories.specs.Histories.AsCalled.{RefinesAsCalled, AsksAsCalled}
use Rattle.run_histories.specs.Histories.Due.{RefinesPendingAnswers}
use Rattle.run_histories.specs.Histories.InEvent.{InEvent, here_of, EventsAreOver}
use Rattle.run_histories.proofs.Histories.NoKey.AsCalledOn.{calls_come_to_as_called}
use Rattle.run_histories.proofs.Histories.AnyCall.AsksThere.{events_ask_there}
use Rattle.run_histories.proofs.Histories.DueOn.{calls_come_to_due, events_keep_due}
use Rattle.run_histories.proofs.Histories.AnyCall.InEvent.{events_keep_all}
use Rattle.run_histories.proofs.Histories.AnyCall.Lasts.{calls_over, maps_over}
use Rattle.run_histories.proofs.Histories.AnyCall.Whole.{whole_over}
use Rattle.run_histories.proofs.Histories.Aside.Stays.{dues_stay, as_called_stays}
use Rattle.run_places.specs.Given.ScenesHeld.{Held}
use Rattle.run_places.specs.Given.ScenesScene.{Scene}
use Rattle.run_places.specs.Given.ScenesStepping.{StepLeads, has_ended, scene_after}
use Rattle.run_places.specs.Given.SchedulesTransition.{past}

module _ {K V : Type 0} where
  pub like_over : (log : List (Entry K V)) (e : Entry K V) (own : List ℕ) (m2 : Moment K V) → caller_of e.event ≡ Some own → worked e (moment log) ≡ m2 → HasSame (come_to own e.outcome e.steps m2) (moment (e ∷ log))
  like_over log e own m2 caller is = record {
    place = ap (λ (y : Moment K V). y.place) is;
    born = ap (λ (y : Moment K V). y.born) is;
    stored = ap (λ (y : Moment K V). y.stored) is;
    maps = maps_over e.event e.outcome (worked e (moment log)).maps own caller ∙ ap (λ (y : Moment K V). y.maps) is;
    tables = ap (λ (y : Moment K V). y.tables) is;
    calls = calls_over e.event e.outcome e.steps (worked e (moment log)).calls own caller ∙ ap (λ (y : Moment K V). stepped (Some own) e.outcome e.steps y.calls) is;
  }

  -- one that has ended is under way no more
  gone : (machine : Machine K V K) (said : Progress (Node K V)) (next : Option (UnderWay K V K)) → has_ended said ≡ true → ContinuesAs machine said next → next ≡ None
  gone machine (progress.Done answer) next e it = it
  gone machine (progress.Refused fault) next e it = it
  gone machine _ next e it = absurd (cc e)

module _ {K V : Type 0} (same : K → K → Bool) (hash : ℕ → K → ℕ) (name : ℕ → List ℕ) (log : List (Entry K V)) (m : Moment K V) (known : Known) (s : Scene K V) (dues : RefinesPendingAnswers same name (past log) m known s)
    (map i : ℕ) (u : UnderWay K V K) (here : s.calls map i ≡ Some u) (old new : Held K V) (said : Progress (Node K V)) (leads : StepLeads same hash i said s old new) (e : Entry K V)
    (ends : ends_call e.outcome ≡ has_ended said) where
  abbrev known2 : Known
  known2 = known_after (acts.Call i map) new.changed known

  abbrev m2 : Moment K V
  m2 = with_effects (Some (name i)) (Some map) (effects_of (acts.Call i map) known new.changed) m

  abbrev s2 : Scene K V
  s2 = scene_after same s old new map i (leads map u here).0 u (leads map u here).1 said (leads map u here).4

  abbrev next : Option (UnderWay K V K)
  next = (leads map u here).4.next

  -- another call has another name
  other_name : (n j : ℕ) (x : UnderWay K V K) → (n ≡ map → j ≡ i → ⊥) → s.calls n j ≡ Some x → is_same (name i) (name j) ≡ false
  other_name n j x ne is = by (is_same (name i) (name j)) refl
    where
      by : (q : Bool) → is_same (name i) (name j) ≡ q → is_same (name i) (name j) ≡ false
      by false named = named
      by true named = absurd (let both = dues.history.asked.apart map i n j u x here is named in ne (sym both.0) (sym both.1))

  pub none_named : ends_call e.outcome ≡ true → NoneNamed name (name i) s2
  none_named ended n j x is = elim (which s.calls map i next n j x is) as (λ _. is_same (name i) (name j) ≡ false) [
    | inl its ↦ absurd (let goes = its.2 in let none = gone (leads map u here).1 said next (sym ends ∙ ended) (leads map u here).4.goes_on in cc (goes, none))
    | inr was ↦ other_name n j x was.0 was.1
  ]

  module _ (asks : (x : UnderWay K V K) → next ≡ Some x → AsksJust known2 x e.outcome × AsksAsCalled known2 x e.outcome) where
    asks_just : (n j : ℕ) (x : UnderWay K V K) → s2.calls n j ≡ Some x → is_same (name j) (name i) ≡ true → AsksJust known2 x e.outcome × AsksAsCalled known2 x e.outcome
    asks_just n j x is named = elim (which s.calls map i next n j x is) as (λ _. AsksJust known2 x e.outcome × AsksAsCalled known2 x e.outcome) [
      | inl its ↦ asks x its.2
      | inr was ↦ absurd (let no = apart_back (name i) (name j) (other_name n j x was.0 was.1) in cc (no, named))
    ]

    module _ (is_caller : caller_of e.event ≡ Some (name i)) (worked_is : worked e (moment log) ≡ m2) where
      counted : (moment (e ∷ log)).events ≡ suc (length log)
      counted = let before = dues.history.past.counted in omega (arith, before)

      pub all_over : RefinesWhole same name m2 known2 s2 → RefinesWhole same name (moment (e ∷ log)) known2 s2
      all_over whole2 = whole_over same name log e (name i) m2 is_caller worked_is known2 s2
          (calls_come_to_whole K V same name m2 known2 s2 whole2 (name i) e.outcome e.steps none_named (λ n j x is named. (asks_just n j x is named).0))

      pub due_over : RefinesPendingAnswers same name (past log) m2 known2 s2 → RefinesPendingAnswers same name (past (e ∷ log)) (moment (e ∷ log)) known2 s2
      due_over dues2 = events_keep_due K V same name (past log) (moment (e ∷ log)) known2 s2
          ((dues_stay K V same hash name (past log)).alike (come_to (name i) e.outcome e.steps m2) (moment (e ∷ log)) known2 s2
          (calls_come_to_due K V same name (past log) m2 known2 s2 dues2 (name i) e.outcome e.steps none_named (λ n j x is named. (asks_just n j x is named).0))
          (like_over log e (name i) m2 is_caller worked_is)) counted

      pub as_called_over : RefinesAsCalled same name m2 known2 s2 → RefinesAsCalled same name (moment (e ∷ log)) known2 s2
      as_called_over called2 =
          (as_called_stays K V same hash name).alike (come_to (name i) e.outcome e.steps m2) (moment (e ∷ log)) known2 s2
          (calls_come_to_as_called K V same name m2 known2 s2 called2 (name i) e.outcome e.steps none_named (λ n j x is named. (asks_just n j x is named).1))
          (like_over log e (name i) m2 is_caller worked_is)

module _ {K V : Type 0} (same : K → K → Bool) (name : ℕ → List ℕ) (log : List (Entry K V)) (beginning : Moment K V) (map i : ℕ) (c : CallThere K V) (done : List Effect) (m : Moment K V) (known : Known)
    (s : Scene K V) where
  dues_of : (u : UnderWay K V K) → InEvent same name (past log) beginning map i c done m known s u → RefinesPendingAnswers same name (past log) m known s
  dues_of (OnKey x) midst = midst.2.dues
  dues_of (ForRoom r) midst = midst.dues
  dues_of (Counting sum) midst = midst.dues
  dues_of (OverAll o) midst = midst.dues

  worked_of : (u : UnderWay K V K) → InEvent same name (past log) beginning map i c done m known s u → m ≡ with_effects (Some (name i)) (Some map) done beginning
  worked_of (OnKey x) midst = midst.2.worked
  worked_of (ForRoom r) midst = midst.worked
  worked_of (Counting sum) midst = midst.worked
  worked_of (OverAll o) midst = midst.worked

module _ (K V : Type 0) (same : K → K → Bool) (hash : ℕ → K → ℕ) where
  pub events_are_over : EventsAreOver K V same hash
  events_are_over name log beginning map i c done m known s u midst old new at_old said leads e is_caller begun acts_on effects_are comes ends = (
    all_over same hash name log m known s (dues_of same name log beginning map i c done m known s u midst) map i u
        (here_of same name (past log) beginning map i c done m known s u midst) old new said leads e ends asks is_caller worked_is
        (events_keep_all K V same hash name (past log) beginning map i c done m known s u midst old new at_old said leads).0,
    due_over same hash name log m known s (dues_of same name log beginning map i c done m known s u midst) map i u
        (here_of same name (past log) beginning map i c done m known s u midst) old new said leads e ends asks is_caller worked_is
        (events_keep_all K V same hash name (past log) beginning map i c done m known s u midst old new at_old said leads).1,
    as_called_over same hash name log m known s (dues_of same name log beginning map i c done m known s u midst) map i u
        (here_of same name (past log) beginning map i c done m known s u midst) old new said leads e ends asks is_caller worked_is
        (events_keep_all K V same hash name (past log) beginning map i c done m known s u midst old new at_old said leads).2,
  )
    where
      asks : (x : UnderWay K V K) → (leads map u (here_of same name (past log) beginning map i c done m known s u midst)).4.next ≡ Some x
          → AsksJust (known_after (acts.Call i map) new.changed known) x e.outcome × AsksAsCalled (known_after (acts.Call i map) new.changed known) x e.outcome
      asks x goes = events_ask_there K V same hash name (past log) beginning map i c done m known s u midst old new at_old said leads e.outcome comes x goes

      worked_is : worked e (moment log) ≡ with_effects (Some (name i)) (Some map) (effects_of (acts.Call i map) known new.changed) m
      worked_is =
          ap (λ (b : Moment K V). with_effects (caller_of e.event) (acted_on e.event b) e.effects b) begun
          ∙ ap (λ (o : Option (List ℕ)). with_effects o (acted_on e.event beginning) e.effects beginning) is_caller
          ∙ ap (λ (o : Option ℕ). with_effects (Some (name i)) o e.effects beginning) acts_on
          ∙ ap (λ (l : List Effect). with_effects (Some (name i)) (Some map) l beginning) effects_are
          ∙ effects_after (Some (name i)) (Some map) done (effects_of (acts.Call i map) known new.changed) beginning
          ∙ ap (λ (x : Moment K V). with_effects (Some (name i)) (Some map) (effects_of (acts.Call i map) known new.changed) x)
          (sym (worked_of same name log beginning map i c done m known s u midst))
