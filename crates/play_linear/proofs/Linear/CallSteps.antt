-- A step of a call is an entry that is linearizable, and the moment after it shows what the next entry asks for.
use Rattle.std.specs.Prelude.{◌≡◌, ℕ, suc, Bool, true, false, List, [], ◌∷◌, length, Option, Some, None}
use Rattle.std.proofs.Common.{refl, ap, sym, subst, ◌∙◌, inl, inr, arith}
use Rattle.play_lists.specs.Given.TablesDeclared.node.Node.{Node}
use Rattle.run_logged.specs.Given.RawDeclared.machines.machine.Machine.{Machine}
use Rattle.run_logged.specs.Given.RawDeclared.machines.progress.Progress.{Progress}
use Rattle.run_logged.specs.Given.RawDeclared.machines.progress.Progress.TheVariants as progress
use Rattle.play_lists.specs.Given.FinishesMachines.{ContinuesAs}
use Rattle.run_logged.specs.Given.CallersTogether.{UnderWay}
use Rattle.run_schedules.specs.Runs.Same.{is_same}
use Rattle.run_schedules.specs.declared.effect.Effect.{Effect}
use Rattle.run_schedules.specs.declared.outcome.Outcome.{Outcome}
use Rattle.run_schedules.specs.Schedules.Effects.{with_effects}
use Rattle.run_schedules.specs.Schedules.Entry.{IfCall, ends_call}
use Rattle.run_schedules.specs.Schedules.Linearizable.{Linearizes}
use Rattle.run_schedules.specs.Schedules.Moment.{Moment, UnderWay as CallThere}
use Rattle.run_schedules.specs.Schedules.Views.{call_of}
use Rattle.play_lists.specs.Given.EffectsEffects.{effects_of, known_after}
use Rattle.play_lists.specs.Given.EffectsKnown.{Known}
use Rattle.play_lists.specs.Given.EffectsDeclared.acting.Acting.TheVariants as acts
use Rattle.play_lists.specs.Given.ScenesHeld.{Held, IsAt}
use Rattle.play_lists.specs.Given.ScenesScene.{Scene}
use Rattle.play_lists.specs.Given.ScenesStepping.{StepLeads, has_ended, scene_after}
use Rattle.play_lists.specs.Given.FollowsCalling.{NoneNamed, come_to}
use Rattle.run_logged.specs.Given.HandsCalling.{AsksJust}
use Rattle.run_logged.proofs.Given.HandsAsking.{which}
use Rattle.play_lists.proofs.Given.FollowsCalling.{is_same_is, is_same_refl}
use Rattle.play_lists.specs.Given.HistoriesAsCalled.{AsksAsCalled}
use Rattle.play_lists.specs.Given.HistoriesInEvent.{HasOutcomeSo, InEvent, here_of}
use Rattle.play_lists.specs.Given.HistoriesQuestions.{AsksOnStill, AsksStill}
use Rattle.play_lists.proofs.Given.HistoriesAnyCall.AsksThere.{events_ask_there}
use Rattle.play_lists.proofs.Given.HistoriesAnyCall.InEvent.{events_begin, events_end}
use Rattle.run_schedules.specs.Deeds.Deeds.{Entry, Steps, acted_on, after, map_of_call, moment, named, worked}
use Rattle.run_schedules.specs.Deeds.History.{IsLinearizable, past, transition}
use Rattle.play_linear.specs.Linear.Shown.{RefinesAnswers}
use Rattle.play_linear.proofs.Linear.CallsGo.{calls_come_to, calls_step}
use Rattle.play_linear.proofs.Linear.Like.{entries_are_over}

-- one that has ended is under way no more
gone_then : {K V : Type 0} (machine : Machine K V K) (said : Progress (Node K V)) (next : Option (UnderWay K V K)) → has_ended said ≡ true → ContinuesAs machine said next → next ≡ None
gone_then machine (progress.Done answer) next e it = it
gone_then machine (progress.Refused fault) next e it = it
gone_then machine _ next e it = absurd (cc e)

module _ {K V : Type 0} (same : K → K → Bool) (hash : ℕ → K → ℕ) (history : List (Entry K V)) (known : Known) (s : Scene K V) (old new : Held K V) (at : IsAt same hash old s)
    (all : RefinesAnswers same (past history) (moment history) known s) (map i : ℕ) (u : UnderWay K V K) (here : s.calls map i ≡ Some u) (said : Progress (Node K V)) (leads : StepLeads same hash i said s old new)
    (d : CallThere K V) (d_is : call_of (named i) (moment history) ≡ Some d) (on_map : d.map ≡ map) (o : Outcome V) where
  abbrev m : Moment K V
  m = moment history

  abbrev effects : List Effect
  effects = effects_of (acts.Call i map) known new.changed

  abbrev pub known_then : Known
  known_then = known_after (acts.Call i map) new.changed known

  pub midst : InEvent same named (past history) m map i d [] m known s u
  midst = events_begin K V same hash named (past history) m (refl, refl) known s old at all.whole all.dues all.as_called map i u here d d_is

  -- where it is under way
  abbrev pub there_is : s.calls map i ≡ Some u
  there_is = here_of same named (past history) m map i d [] m known s u midst

  abbrev pub led : Scene K V
  led = let to = leads map u there_is in scene_after same s old new map i to.0 u to.1 said to.4

  abbrev pub step : Bool → Entry K V
  step refused = record { deed = Steps i; outcome = o; effects = effects; refused = refused }

  -- it acts on its map
  acted : acted_on {K = K} {V = V} (Steps i) m ≡ Some map
  acted = ap map_of_call d_is ∙ ap Some on_map

  module _ (comes : HasOutcomeSo known_then d.call d.replies said o) (refused : Bool) where
    ends : Linearizes same (past history) (transition history (step refused)) × AsksOnStill (transition history (step refused))
    ends = events_end K V same hash named (past history) m map i d d_is all.questions [] m known s u midst old new at said leads (transition history (step refused)) refl refl acted refl comes

    pub steps_are_linearizable : IsLinearizable same history (step refused)
    steps_are_linearizable = ends.0

    module _ (over : ends_call o ≡ true → has_ended said ≡ true) where
      -- none that is under way then has its name, if it has ended
      pub ended : ends_call o ≡ true → NoneNamed named (named i) led
      ended is n j x there = elim (which s.calls map i (leads map u there_is).4.next n j x there) as (λ _. is_same (named i) (named j) ≡ false) [
        | inl goes ↦ absurd (let gone = gone_then (leads map u there_is).1 said (leads map u there_is).4.next (over is) (leads map u there_is).4.goes_on in let next = goes.2 in cc (gone, next))
        | inr was ↦ by (is_same (named i) (named j)) refl (λ its. was.0 (all.whole.all.asked.apart n j map i x u was.1 here (ap (λ (q : ℕ). is_same (named q) (named i)) (its_number its) ∙ is_same_refl (named i))).0
            (all.whole.all.asked.apart n j map i x u was.1 here (ap (λ (q : ℕ). is_same (named q) (named i)) (its_number its) ∙ is_same_refl (named i))).1)
      ]
        where
          its_number : is_same (named i) (named j) ≡ true → j ≡ i
          its_number its = let one : named i ≡ named j = is_same_is (named i) (named j) its in let head : i ≡ j = cc one in sym head

          by : (q : Bool) → is_same (named i) (named j) ≡ q → (is_same (named i) (named j) ≡ true → ⊥) → is_same (named i) (named j) ≡ false
          by false e never = e
          by true e never = absurd (never e)

      asks : (n j : ℕ) (x : UnderWay K V K) → led.calls n j ≡ Some x → is_same (named j) (named i) ≡ true → AsksJust known_then x o × AsksAsCalled known_then x o
      asks n j x is its = elim (which s.calls map i (leads map u there_is).4.next n j x is) as (λ _. AsksJust known_then x o × AsksAsCalled known_then x o) [
        | inl goes ↦ events_ask_there K V same hash named (past history) m map i d [] m known s u midst old new at said leads o comes x goes.2
        | inr was ↦ absurd (let two = all.whole.all.asked.apart n j map i x u was.1 here its in was.0 two.0 two.1)
      ]

      -- the effects are those of a call on its map
      abbrev v : Moment K V
      v = with_effects (Some (named i)) (Some map) effects m

      worked_is : v ≡ worked (step refused) m
      worked_is = ap (λ (a : Option ℕ). with_effects (Some (named i)) a effects m) (sym acted)

      still : (c : CallThere K V) → call_of (named i) v ≡ Some c → AsksStill c.stands o
      still c c_is = subst (IfCall (λ (x : CallThere K V). AsksStill x.stands o)) (ap (call_of (named i)) (sym worked_is) ∙ c_is) ends.1

      come : RefinesAnswers same (past history) (come_to (named i) o 1 v) known_then led
      come = calls_come_to K V same (past history) v known_then led (calls_step K V same hash (past history) known s old at all map i new u there_is said leads) (named i) o 1 ended asks still

      counted : (moment (step refused ∷ history)).events ≡ suc (length history)
      counted = let before = all.dues.history.past.counted in omega (arith, before)

      pub steps_answer : RefinesAnswers same (past (step refused ∷ history)) (moment (step refused ∷ history)) known_then led
      steps_answer =
          entries_are_over same (past history) known_then led (come_to (named i) o 1 (worked (step refused) m)) (after (step refused) m)
          (subst (λ (x : Moment K V). RefinesAnswers same (past history) (come_to (named i) o 1 x) known_then led) worked_is come) refl counted
