-- Many steps of a call: what the loop over them keeps, and what they come to.
use Rattle.std.specs.Prelude.{◌≡◌, ◌<◌, ◌+◌, ℕ, Bool, true, false, List}
use Rattle.std.proofs.Common.{refl, sym, subst, ◌∙◌, arith}
use Rattle.run_schedules.specs.declared.effect.Effect.{Effect}
use Rattle.run_schedules.specs.declared.outcome.Outcome.{Outcome}
use Rattle.run_schedules.specs.Schedules.Moment.{Moment}
use Rattle.run_schedules.specs.Schedules.Terms.{Terms}
use Rattle.play_scheduler.specs.Played.{RefinesFor}
use Rattle.play_stepping.specs.EventSteps.Stepping.{StepsHaveOutcome, GoesAt, GoneFor, IsMidst, IsPlaced, IsStepped, MayGo, MayStep, StepsCome}
use Rattle.run_executor.specs.Named.Telling.{continues}
use Rattle.play_scheduler.specs.declared.scheduler.Scheduler.{Scheduler}
use Rattle.play_stepping.proofs.EventSteps.ComesOn.{comes_next, midst_next}
use Rattle.play_scheduler.proofs.Here.{here_at}
use Rattle.seize_words.proofs.General.{same_some as the}

module _ {K V S : Type 0} (same : K → K → Bool) (hash : K → ℕ) (place : ℕ) (first : Scheduler K V S) (before : List Effect) where
  -- whatever moment it stood for, the call goes on after so many steps
  abbrev pub Goes : ℕ → List Effect → Scheduler K V S → Type 0
  Goes n mid p = (terms : Terms) (m : Moment K V) (own : List ℕ) → RefinesFor same hash terms m first → GoesAt own place first → IsMidst same hash terms own place m n before mid p

  -- so it may take a step
  pub may_step : (terms : Terms) (m : Moment K V) (own : List ℕ) → RefinesFor same hash terms m first → GoesAt own place first → (n : ℕ) (mid : List Effect) (p : Scheduler K V S) → Goes n mid p
      → MayStep same hash own p
  may_step terms m own stands at n mid p goes =
      let midst = goes terms m own stands at in
      let here = here_at same hash terms _ p midst.stands own place midst.going.0 in
      (place, here.caller, (midst.going.0, here.at), midst.stands.scene, midst.stands.shown.is_at, (here.caller.map, here.way.0, here.way.1))

  -- and stands at its place still
  pub placed_on : (own : List ℕ) → MayGo same hash own first → IsPlaced own place first.calls → (n : ℕ) (mid : List Effect) (p : Scheduler K V S) → Goes n mid p → IsPlaced own place p.calls
  placed_on own may placed n mid p goes =
      let midst = goes may.0 may.1 own may.3 (subst (λ (k : ℕ). GoesAt own k first) (the may.2 place (may.4.0 ∙ sym placed)) may.4) in midst.going.0

  module _ (n : ℕ) (mid after : List Effect) (p new : Scheduler K V S) (outcome : Outcome V) (goes : Goes n mid p) (step : IsStepped same hash place outcome mid after p new) where
    pub goes_further : continues outcome ≡ true → Goes (n + 1) after new
    goes_further on terms m own stands at = midst_next same hash terms own place m n outcome before mid after p new (goes terms m own stands at) step on

    comes : (steps : ℕ) → steps ≡ n + 1 → (terms : Terms) (m : Moment K V) (own : List ℕ) → RefinesFor same hash terms m first → GoesAt own place first
        → StepsHaveOutcome same hash terms own place m steps outcome before after new
    comes steps is terms m own stands at = subst (λ (k : ℕ). StepsHaveOutcome same hash terms own place m k outcome before after new) (sym is)
        (comes_next same hash terms own place m n outcome before mid after p new (goes terms m own stands at) step)

    -- it stops before it has taken all
    pub stops_at : (most steps : ℕ) → steps ≡ n + 1 → steps < most → continues outcome ≡ false → (k : ℕ) → steps ≡ k + 1 → GoneFor same hash place k before mid first p
        → StepsCome same hash place most steps outcome before after first new
    stops_at most steps is less off k k_is gone = ((omega (arith, is), omega (arith, less), λ on. absurd (cc (on, off))), comes steps is, (k, k_is, mid, p, gone, step))

    -- or takes all
    pub takes_all : (most : ℕ) → most ≡ n + 1 → (k : ℕ) → most ≡ k + 1 → GoneFor same hash place k before mid first p → StepsCome same hash place most most outcome before after first new
    takes_all most is k k_is gone = ((omega (arith, is), omega arith, λ on. refl), comes most is, (k, k_is, mid, p, gone, step))
