-- An event of a call, from its last step on: it is legal but for what it comes to, and a run goes on with it.
use Rattle.std.specs.Prelude.{◌≡◌, ◌⊎◌, ◌≤◌, ℕ, ◌+◌, Bool, true, false, List, [], ◌∷◌, ◌++◌, Some, not, ◌||◌}
use Rattle.std.specs.List.{list_any}
use Rattle.run_grows.specs.Given.SeizeWaitingHeld.{count}
use Rattle.run_grows.specs.Given.SeizeWorld.{World, Request, Begin, Step, Happens}
use Rattle.run_grows.specs.Given.TablesNodes.{deferred_word}
use Rattle.run_grows.specs.Given.TablesDeclared.node.Node.{Node}
use Rattle.run_grows.specs.Given.RawDeclared.machines.progress.Progress.{Progress}
use Rattle.run_grows.specs.Given.RawDeclared.machines.progress.Progress.TheVariants as progress
use Rattle.run_grows.specs.Given.RunsDeclared.effect.Effect.{Effect}
use Rattle.run_grows.specs.Given.RunsDeclared.outcome.Outcome.{Outcome}
use Rattle.run_grows.specs.Given.RunsDeclared.outcome.Outcome.TheVariants as outcome
use Rattle.run_grows.specs.Given.SchedulesAfter.{moment, moments_from}
use Rattle.run_grows.specs.Given.SchedulesBeginning.{at_work}
use Rattle.run_grows.specs.Given.SchedulesEffects.{with_effects, worked}
use Rattle.run_grows.specs.Given.SchedulesEntry.{Entry, IfCall, acted_on, acting, caller_of, ends_call, is_busy}
use Rattle.run_grows.specs.Given.SchedulesHanding.{LeavesOf, is_clear_outcome, is_made, refuses}
use Rattle.run_grows.specs.Given.SchedulesInTurn.{HasRightOutcome}
use Rattle.run_grows.specs.Given.SchedulesModel.{sets_in, things_in}
use Rattle.run_grows.specs.Given.SchedulesMoment.{UnderWay as CallThere, Moment}
use Rattle.run_grows.specs.Given.SchedulesSweeps.{IsSwept}
use Rattle.run_grows.specs.Given.RunsPresent.{slot_of_guard}
use Rattle.run_grows.specs.Given.SchedulesTerms.{Terms, shards_of}
use Rattle.run_grows.specs.Given.SchedulesViews.{call_of}
use Rattle.run_grows.specs.Given.CallersTogether.{UnderWay, HandsOver}
use Rattle.run_grows.specs.Given.EffectsEffects.{effects_of, known_after}
use Rattle.run_grows.specs.Given.EffectsKnown.{Known}
use Rattle.run_grows.specs.Given.EffectsDeclared.acting.Acting.TheVariants as acts
use Rattle.run_grows.specs.Given.SeizeWordsDeclared.fault.Fault.TheVariants.{Memory}
use Rattle.run_grows.specs.Given.MomentsWhole.{RefinesWhole}
use Rattle.run_grows.specs.Given.KeptKept.{RefinesKept}
use Rattle.run_grows.specs.Given.HistoriesAnswers.{NamesPair}
use Rattle.run_grows.specs.Given.HistoriesInEvent.{HasOutcomeSo, here_of}
use Rattle.run_sweeps.specs.Purposes.Kept.{ShowsNone, OutcomeShowsNone}
use Rattle.run_grows.specs.Given.ModelsCallEvents.{IsNoted, slot_of_call, things_then}
use Rattle.run_grows.specs.Given.FindsDoing.{takes_steps}
use Rattle.run_grows.specs.Given.FindsParts.{FindAll, FindRest}
use Rattle.run_legal.specs.CallEvents.{InCallEvent, IsLegalBut}
use Rattle.run_legal.specs.Carried.{IsSequential, RefinesRun}
use Rattle.run_grows.specs.Given.ScenesHeld.{Held, IsAt}
use Rattle.run_grows.specs.Given.ScenesScene.{Scene, slot_of}
use Rattle.run_grows.specs.Given.ScenesStepping.{StepLeads, has_ended, scene_after}
use Rattle.run_grows.specs.Given.SchedulesTransition.{past}

-- a step that shows a pair of a walk comes to that, by its number, and any other one shows none
abbrev pub OutcomeNamesShown : {K V : Type 0} → Known → Progress (Node K V) → Outcome V → Type 0
OutcomeNamesShown known said told =
    (ShowsNone said × OutcomeShowsNone told) ⊎ ((word q : ℕ) × (said ≡ progress.Pair word) × (told ≡ outcome.Shows q) × NamesPair known word q)

-- the outcome ends the call just where the step says so, is ready only where that is, and is a refusal for want of memory where the step was
pub record OutcomeEndsAsStep {K V : Type 0} (said : Progress (Node K V)) (told : Outcome V) : Type 0 where
  pub ends : ends_call told ≡ has_ended said
  pub ready : told ≡ outcome.Ready → said ≡ progress.Ready
  pub memory : said ≡ progress.Refused Memory → told ≡ outcome.Refused Memory

module _ (K V : Type 0) (same : K → K → Bool) (hash : ℕ → K → ℕ) where
  -- The promises: a call that has ended with its last step, or is ready, leaves nothing behind: neither what it made, nor its obligations, nor what it has to
  -- count.
  abbrev pub CallsLeaveNothing : Type 0
  CallsLeaveNothing =
      (name : ℕ → List ℕ) (log : List (Entry K V)) (m : Moment K V) (known : Known) (s : Scene K V) (old new : Held K V) → IsAt same hash old s → RefinesWhole same name m known s
      → RefinesKept name m known s → (map i : ℕ) (u : UnderWay K V K) → s.calls map i ≡ Some u → (said : Progress (Node K V)) → StepLeads same hash i said s old new
      → (e : Entry K V) → caller_of e.event ≡ Some (name i) → worked e (moment log) ≡ with_effects (Some (name i)) (Some map) (effects_of (acts.Call i map) known new.changed) m
      → OutcomeEndsAsStep said e.outcome → IfCall (LeavesOf (is_clear_outcome e.outcome) e.outcome) (acting (caller_of e.event) (worked e (moment log)))

  -- What the effects of a step of a call must find they find, but for what is left: why a block is asked for, which shape follows, where a pair may wait, and that a pair that is retired is past; if the
  -- map has as many shards as the terms say, and the guard of the call is on the slot of its caller.
  abbrev pub StepsFindAll : Type 0
  StepsFindAll =
      (name : ℕ → List ℕ) (m : Moment K V) (known : Known) (s : Scene K V) (old new : Held K V) → IsAt same hash old s → RefinesWhole same name m known s → RefinesKept name m known s
      → (map i : ℕ) (u : UnderWay K V K) (here : s.calls map i ≡ Some u) (said : Progress (Node K V)) (leads : StepLeads same hash i said s old new)
      → (terms : Terms) → (leads map u here).0.setting.mask + 1 ≡ shards_of terms → (c : CallThere K V) → call_of (name i) m ≡ Some c → slot_of_guard c.guard m.there ≡ slot_of i
      → (moments : List (Moment K V)) → FindRest terms moments (name i) map (effects_of (acts.Call i map) known new.changed) m
      → FindAll terms moments (name i) map (effects_of (acts.Call i map) known new.changed) m

  -- So it is of an event that has come to its last step, and comes to what is right, and to what that says, if its effects find what they
  -- must, if it does what it is for, and is refused no growth that it made; if what a row hands over that begins with the step is noted, and its slot is active.
  abbrev pub CallEventsRun : Type 0
  CallEventsRun =
      (name : ℕ → List ℕ) (terms : Terms) (log : List (Entry K V)) (beginning : Moment K V) (map i : ℕ) (c : CallThere K V) → call_of (name i) beginning ≡ Some c
      → (first : Known) (before : Scene K V) → RefinesRun same name terms log first before
      → (steps : ℕ) (done : List Effect) (m : Moment K V) (known : Known) (s : Scene K V) (u : UnderWay K V K) (e : Entry K V)
      → (midst : InCallEvent same name terms log e.event beginning map i c steps done m known s u)
      → (old new : Held K V) → IsAt same hash old s → old.batch_size ≡ terms.batch_size → (said : Progress (Node K V)) (leads : StepLeads same hash i said s old new)
      → at_work e (moment log) ≡ beginning → acted_on e.event beginning ≡ Some map → e.effects ≡ done ++ effects_of (acts.Call i map) known new.changed → e.steps ≡ steps + 1
      → (let known2 = known_after (acts.Call i map) new.changed known in
      let to = leads map u (here_of same name (past log) beginning map i c done m known s u midst.event_so) in
      HasOutcomeSo known2 c.call c.replies said e.outcome → OutcomeEndsAsStep said e.outcome → OutcomeNamesShown known2 said e.outcome
      → (takes_steps e.event ≡ true) ⊎ (e.effects ≡ []) → is_busy e.outcome ≡ false → HasRightOutcome terms log e
      → FindAll terms (moments_from c.begun log) (name i) map e.effects beginning → IsSwept same terms log e → (not (refuses e.event) || not (list_any is_made e.effects)) ≡ true
      → ((request : Request) (begun : World (Node K V)) → HandsOver to.0.setting i s.world request → Happens deferred_word old.batch_size (Begin i request) s.world begun
      → Happens deferred_word old.batch_size (Step i) begun to.4.w2 → IsNoted (things_then (things_in log) done) known (slot_of i) request)
      → slot_of_call e.event (at_work e (moment log)) ≡ slot_of i → (IsSequential e.event log → 1 ≤ count (slot_of i) (sets_in terms.batch_size log).active)
      → IsLegalBut same terms log e × RefinesRun same name terms (e ∷ log) known2 (scene_after same s old new map i to.0 u to.1 said to.4))
