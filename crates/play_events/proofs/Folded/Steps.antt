-- The effects of each step of a call hand over in order, and so do those of an event by which it goes on.
use Rattle.std.specs.Prelude.{◌≡◌, ℕ, Bool, true, List, [], ◌∷◌, ◌++◌, Option, Some, None}
use Rattle.std.proofs.Common.{refl, ap, sym, subst, ◌∙◌}
use Rattle.play_lists.specs.Given.TablesDeclared.node.Node.{Node}
use Rattle.play_stepping.specs.Given.RawDeclared.machines.progress.Progress.{Progress}
use Rattle.run_schedules.specs.declared.effect.Effect.{Effect}
use Rattle.run_schedules.specs.declared.effect.Effect.TheVariants as effect
use Rattle.run_schedules.specs.declared.effect.Thing.{Thing}
use Rattle.run_schedules.specs.Schedules.After.{moment}
use Rattle.run_schedules.specs.Schedules.Beginning.{at_work}
use Rattle.run_schedules.specs.Schedules.Effects.{with_effect, with_effects}
use Rattle.run_schedules.specs.Schedules.Entry.{Entry, IfCall, acted_on, acting, caller_of}
use Rattle.run_schedules.specs.Schedules.Moment.{UnderWay as CallThere, Moment}
use Rattle.run_schedules.specs.Schedules.Views.{call_of}
use Rattle.play_lists.specs.Given.EffectsEffects.{effects_of}
use Rattle.play_lists.specs.Given.EffectsDeclared.acting.Acting.TheVariants as acts
use Rattle.play_stepping.specs.Given.CallersTogether.{UnderWay}
use Rattle.play_lists.specs.Given.EffectsKnown.{Known}
use Rattle.play_stepping.specs.Given.MomentsWhole.{RefinesWhole}
use Rattle.play_lists.specs.Given.HistoriesInEvent.{here_of}
use Rattle.run_legal.specs.Given.SettlesHand.{in_hand}
use Rattle.play_lists.specs.Given.SettlesOwing.{AllLeave, HandsFirst, HandsOver, KeepsOwed, ObligationsGo, Passes, PutsOver, TakesOut, leaves_owed}
use Rattle.run_legal.proofs.Given.SettlesHand.All.{calls_go_in_hand}
use Rattle.play_lists.specs.Given.KeptKept.{RefinesKept}
use Rattle.play_lists.proofs.Given.KeptCalls.{own_made}
use Rattle.run_legal.specs.CallEvents.{InCallEvent}
use Rattle.run_legal.specs.Chains.{CallCome, CallSteps}
use Rattle.run_legal.proofs.Calls.{call_events_go_on_so}
use Rattle.run_legal.proofs.Chains.{chains_keep}
use Rattle.run_legal.proofs.Slots.{each_join}
use Rattle.play_events.specs.Folded.Folded.{HandInOrder, HandsInOrder, IsFirstObligation, handed_in}
use Rattle.play_events.specs.Folded.Steps.{CallEventsHandInOrder, StepsHandInOrder}
use Rattle.play_lists.specs.Given.ScenesHeld.{Held, IsAt}
use Rattle.play_lists.specs.Given.ScenesScene.{Scene}
use Rattle.play_lists.specs.Given.ScenesStepping.{StepLeads}
use Rattle.run_schedules.specs.Schedules.Transition.{past}

-- what leaves all that is owed hands nothing over
none_in : (f : Effect) → leaves_owed f ≡ true → handed_in f ≡ []
none_in (effect.Deferred n t) e = absurd (cc e)
none_in (effect.Retired x) e = absurd (cc e)
none_in _ e = refl

one_in : (f : Effect) (x : Thing) → HandsOver f x → handed_in f ≡ x ∷ []
one_in (effect.Deferred n t) x is = ap (λ (y : Thing). y ∷ []) (sym is)
one_in (effect.Retired y) x is = ap (λ (z : Thing). z ∷ []) (sym is)
one_in _ x is = absurd is

module _ {K V : Type 0} (own : List ℕ) (acted : Option ℕ) where
  -- one that hands nothing over does so in order,
  none_first : (f : Effect) → handed_in f ≡ [] → (o : Option (CallThere K V)) → IfCall (IsFirstObligation f) o
  none_first f none None = tt
  none_first f none (Some c) = (c.owes, ap (λ (l : List Thing). l ++ c.owes) (sym none))

  all_leave : (effects : List Effect) (m : Moment K V) → AllLeave effects → HandInOrder (Some own) acted effects m
  all_leave [] m all = tt
  all_leave (f ∷ fs) m all = (none_first f (none_in f all.0) (acting (Some own) m), all_leave fs (with_effect (Some own) acted f m) all.1)

  -- and so do those by which what is owed goes as it does
  in_order : (effects : List Effect) (m : Moment K V) (c : CallThere K V) → call_of own m ≡ Some c → (after : List Thing) → ObligationsGo m effects c.owes after → HandInOrder (Some own) acted effects m
  in_order effects m c is after (KeepsOwed all e) = all_leave effects m all
  in_order effects m c is after (TakesOut p are e) =
      subst (λ (l : List Effect). HandInOrder (Some own) acted l m) (sym are) (none_first (effect.Removed p) refl (acting (Some own) m), tt)
  in_order effects m c is after (PutsOver p n s are e) =
      subst (λ (l : List Effect). HandInOrder (Some own) acted l m) (sym are) (
        none_first (effect.Replaced p) refl (acting (Some own) m),
        (none_first (effect.Stored n s) refl (acting (Some own) (with_effect (Some own) acted (effect.Replaced p) m)), tt),
      )
  in_order effects m c is after (Passes t are e) =
      subst (λ (l : List Effect). HandInOrder (Some own) acted l m) (sym are) (none_first (effect.Promoted t) refl (acting (Some own) m), tt)
  in_order effects m c is after (HandsFirst f x are hands owes) =
      subst (λ (l : List Effect). HandInOrder (Some own) acted l m) (sym are) (
        subst (IfCall (IsFirstObligation f)) (sym is) (after, owes ∙ ap (λ (l : List Thing). l ++ after) (sym (one_in f x hands))),
        tt,
      )

-- Events: one of a call hands over in order where its effects do, one of no call does, and so does one that does nothing.
module _ {K V : Type 0} (log : List (Entry K V)) (e : Entry K V) where
  abbrev b : Moment K V
  b = at_work e (moment log)

  pub event_in_order : (own : List ℕ) (map : ℕ) (beginning : Moment K V) → caller_of e.event ≡ Some own → at_work e (moment log) ≡ beginning → acted_on e.event beginning ≡ Some map
      → HandInOrder (Some own) (Some map) e.effects beginning → HandsInOrder log e
  event_in_order own map beginning of_call begins acted hands =
      subst (λ (who : Option (List ℕ)). HandInOrder who (acted_on e.event b) e.effects b) (sym of_call)
      (subst (λ (x : Moment K V). HandInOrder (Some own) (acted_on e.event x) e.effects x) (sym begins)
      (subst (λ (o : Option ℕ). HandInOrder (Some own) o e.effects beginning) (sym acted) hands))

  pub none_in_order : caller_of e.event ≡ None → HandsInOrder log e
  none_in_order none = subst (λ (who : Option (List ℕ)). HandInOrder who (acted_on e.event b) e.effects b) (sym none) (all e.effects b)
    where
      all : (effects : List Effect) (m : Moment K V) → HandInOrder None (acted_on e.event b) effects m
      all [] m = tt
      all (f ∷ fs) m = (tt, all fs (with_effect None (acted_on e.event b) f m))

  pub idle_in_order : e.effects ≡ [] → HandsInOrder log e
  idle_in_order none = subst (λ (l : List Effect). HandInOrder (caller_of e.event) (acted_on e.event b) l b) (sym none) tt

module _ (K V : Type 0) (same : K → K → Bool) (hash : ℕ → K → ℕ) where
  pub steps_hand_in_order : StepsHandInOrder K V same hash
  steps_hand_in_order name m known s old new at whole kept map i u here said leads =
      let goes = calls_go_in_hand K V same hash name m known s old new at whole.all.shown whole.all.rows kept.entries (own_made K V same hash name m known s old at whole kept) map i u here said leads
      (kept.owed.noted map i u here) in
      let c = whole.all.shown.calls map i u here in
      let effects = effects_of (acts.Call i map) known new.changed in
      let then_in_hand = in_hand known (leads map u here).1 in
      in_order (name i) (Some map) effects m c.0 c.1 then_in_hand (subst (λ (l : List Thing). ObligationsGo m effects l then_in_hand) (sym (kept.owed.owed map i u here c.0 c.1)) goes.0)

  -- so they do behind what an event has done so far
  pub more_in_order : (name : ℕ → List ℕ) (m : Moment K V) (known : Known) (s : Scene K V) (old new : Held K V) → IsAt same hash old s → RefinesWhole same name m known s → RefinesKept name m known s
      → (map i : ℕ) (u : UnderWay K V K) → s.calls map i ≡ Some u → (said : Progress (Node K V)) → StepLeads same hash i said s old new
      → (done : List Effect) (beginning : Moment K V) → m ≡ with_effects (Some (name i)) (Some map) done beginning → HandInOrder (Some (name i)) (Some map) done beginning
      → HandInOrder (Some (name i)) (Some map) (done ++ effects_of (acts.Call i map) known new.changed) beginning
  more_in_order name m known s old new at whole kept map i u here said leads done beginning so hands =
      let did = effects_of (acts.Call i map) known new.changed in
      each_join (λ v f. IfCall (IsFirstObligation f) (acting (Some (name i)) v)) (Some (name i)) (Some map) done did beginning hands
      (subst (λ (v : Moment K V). HandInOrder (Some (name i)) (Some map) did v) so (steps_hand_in_order name m known s old new at whole kept map i u here said leads))

  pub call_events_hand_in_order : CallEventsHandInOrder K V same hash
  call_events_hand_in_order name terms log beginning map i c e n first last midst none chain new at said leads begins acted effects_are =
      event_in_order log e (name i) map beginning midst.of_call begins acted (subst (λ (l : List Effect). HandInOrder (Some (name i)) (Some map) l beginning) (sym effects_are) (after_one last so new said at leads))
    where
      -- how far the event has come is in its midst, and what it did handed over in order
      SoFar : CallCome K V → Type 0
      SoFar x =
          InCallEvent same name terms log e.event beginning map i c x.steps x.come.did x.come.now x.come.notes x.come.scene x.under
          × HandInOrder (Some (name i)) (Some map) x.come.did beginning

      its_here : (x : CallCome K V) → SoFar x → x.come.scene.calls map i ≡ Some x.under
      its_here x so_far = here_of same name (past log) beginning map i c x.come.did x.come.now x.come.notes x.come.scene x.under so_far.0.event_so

      after_one : (x : CallCome K V) → SoFar x → (then_held : Held K V) (told : Progress (Node K V)) → IsAt same hash x.come.held x.come.scene
          → StepLeads same hash i told x.come.scene x.come.held then_held
          → HandInOrder (Some (name i)) (Some map) (x.come.did ++ effects_of (acts.Call i map) x.come.notes then_held.changed) beginning
      after_one x so_far then_held told at_x leads_x =
          more_in_order name x.come.now x.come.notes x.come.scene x.come.held then_held at_x so_far.0.calls.whole so_far.0.calls.kept map i x.under (its_here x so_far) told leads_x x.come.did beginning
          so_far.0.worked so_far.1

      keeps : (x y : CallCome K V) → CallSteps same hash name terms log map i x y → SoFar x → SoFar y
      keeps x y step so_far =
          let here = its_here x so_far in
          subst SoFar (sym (step.comes here)) (
            call_events_go_on_so K V same hash name terms log e.event beginning map i c x.steps x.come.did x.come.now x.come.notes x.come.scene x.under so_far.0 x.come.held y.come.held step.is_at
                step.size step.said step.leads step.none (step.noted here) y.under (step.goes_on here),
            after_one x so_far y.come.held step.said step.is_at step.leads,
          )

      so : SoFar last
      so = chains_keep SoFar (CallSteps same hash name terms log map i) keeps n first last chain
          (midst, subst (λ (l : List Effect). HandInOrder (Some (name i)) (Some map) l beginning) (sym none) tt)
