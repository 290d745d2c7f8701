-- What an event has done that asked a walk for its next pair: the steps that it took.
use Rattle.std.specs.Prelude.{◌≡◌, ℕ, Bool, List, [], slice_get, Some}
use Rattle.std.specs.Global.{Vec}
use Rattle.std.proofs.Common.{ap, sym, subst, ◌∙◌}
use Rattle.papaya_raw.specs.declared.machines.progress.Progress.{Progress}
use Rattle.papaya_raw.specs.Given.TablesDeclared.node.Node.{Node}
use Rattle.run_schedules.specs.declared.effect.Effect.{Effect}
use Rattle.run_schedules.specs.declared.outcome.Outcome.{Outcome}
use Rattle.run_schedules.specs.Schedules.Moment.{Moment}
use Rattle.run_executor.specs.Given.EffectsKnown.{known}
use Rattle.play_scheduler.specs.Given.LoggedCalling.{WalkContinues}
use Rattle.play_scheduler.specs.Given.LoggedShown.{IsShown}
use Rattle.play_scheduler.specs.Given.LoggedDeclared.logged.Logged.{Logged}
use Rattle.run_executor.specs.Named.Seen.{ready_place}
use Rattle.run_executor.specs.declared.caller.NamedCaller.{NamedCaller}
use Rattle.play_scheduler.specs.declared.played.Played.{Played}
use Rattle.play_scheduler.specs.declared.scheduler.Scheduler.{Scheduler}
use Rattle.play_stepping.specs.EventSteps.Stepping.{HasWalked, IsStepOf, IsStepped, TookNext, WalkComes}
use Rattle.run_sweeps.specs.Says.{callers_then, outcome_of}
use Rattle.run_executor.specs.Executing.IsThere.{IsThere, PreservesSettings}
use Rattle.run_executor.specs.Executing.Replying.{AsksThere}
use Rattle.play_scheduler.specs.Given.ScenesScene.{Scene}
use Rattle.seize_words.proofs.General.{same_some as the}

module _ {K V S : Type 0} (same : K → K → Bool) (hash : K → ℕ) (place : ℕ) (old : Scheduler K V S) (asked : Logged K V S) (said : Progress (Node K V)) (outcome : Outcome V) (steps : ℕ) (effects : Vec Effect)
    (walked : Scheduler K V S) (comes : WalkComes same hash place steps said [] effects.items (record old { logged = asked }) walked) (callers : List (NamedCaller V))
    (told : (caller : NamedCaller V) → slice_get walked.calls place ≡ Some caller → callers ≡ callers_then (known walked.logged.notes) place caller said walked.calls)
    (comes_to_it : (caller : NamedCaller V) → slice_get walked.calls place ≡ Some caller → outcome ≡ outcome_of (known walked.logged.notes) caller.kind caller.value said) where
  abbrev played : Played V
  played = record { outcome = outcome; steps = steps; effects = effects }

  abbrev step : IsStepOf same hash place said comes.3 effects.items comes.4 walked
  step = comes.5

  calls_same : walked.calls ≡ comes.4.calls
  calls_same = ap (λ (x : Scheduler K V S). x.calls) step.rest

  there : slice_get walked.calls place ≡ Some step.caller
  there = ap (λ (l : List (NamedCaller V)). slice_get l place) calls_same ∙ step.at

  -- its last step, of which its caller was told
  last_step : IsStepped same hash place outcome comes.3 effects.items comes.4 (record walked { calls = callers })
  last_step = record {
    caller = step.caller;
    at = step.at;
    said = said;
    leads = step.leads;
    steps = step.steps;
    outcome_is = comes_to_it step.caller there;
    calls = told step.caller there ∙ ap (λ (l : List (NamedCaller V)). callers_then (known walked.logged.notes) place step.caller said l) calls_same;
    rest = ap (λ (x : Scheduler K V S). record x { calls = callers }) step.rest;
    given = step.given;
  }

  has_walked : (caller : NamedCaller V) → slice_get old.calls place ≡ Some caller → (ready : Bool) (number : ℕ) → number ≡ caller.number
      → ((s : Scene K V) → IsThere same hash old.logged.executor s → AsksThere same hash number ready s old.logged.executor asked.executor)
      → ((name : ℕ → List ℕ) (m : Moment K V) (s : Scene K V) → IsShown same hash name m old.logged s → WalkContinues same hash name m s number ready old.logged asked)
      → asked.notes ≡ old.logged.notes → PreservesSettings old.logged.executor asked.executor → HasWalked same hash place played old (record walked { calls = callers })
  has_walked caller at ready number its leads goes notes given = record {
    caller = caller;
    at = at;
    ready = ready;
    asked = asked;
    leads = λ s is_at. subst (λ (k : ℕ). AsksThere same hash k ready s old.logged.executor asked.executor) its (leads s is_at);
    goes = λ name m s shown. subst (λ (k : ℕ). WalkContinues same hash name m s k ready old.logged asked) its (goes name m s shown);
    notes = notes;
    given = given;
    steps = comes.7;
    steps_are = comes.8;
    mid = comes.3;
    led = comes.4;
    walked = comes.9;
    last = last_step;
  }

  -- so it is of an event by which a walk of this name that was ready was asked
  pub took_next : (own : List ℕ) → Some place ≡ ready_place own old.calls → (new : Scheduler K V S) → new ≡ record walked { calls = callers }
      → (caller : NamedCaller V) → slice_get old.calls place ≡ Some caller → (ready : Bool) (number : ℕ) → number ≡ caller.number
      → ((s : Scene K V) → IsThere same hash old.logged.executor s → AsksThere same hash number ready s old.logged.executor asked.executor)
      → ((name : ℕ → List ℕ) (m : Moment K V) (s : Scene K V) → IsShown same hash name m old.logged s → WalkContinues same hash name m s number ready old.logged asked)
      → asked.notes ≡ old.logged.notes → PreservesSettings old.logged.executor asked.executor → TookNext same hash own played old new
  took_next own found new is caller at ready number its leads goes notes given = (
    λ at_place there.
        subst (λ (k : ℕ). HasWalked same hash k played old new) (the place at_place (found ∙ sym there))
        (subst (λ (p : Scheduler K V S). HasWalked same hash place played old p) (sym is) (has_walked caller at ready number its leads goes notes given)),
    λ none. absurd (cc (found, none)),
  )
