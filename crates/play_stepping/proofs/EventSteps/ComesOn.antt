-- Steps of a call, one after another: in their midst, and what the last one comes to.
use Rattle.std.specs.Prelude.{◌≡◌, ◌+◌, ℕ, Bool, true, false, List, [], ◌++◌, Some}
use Rattle.std.specs.List.{list_any}
use Rattle.std.proofs.Common.{sym, ap, subst, ◌∙◌, arith}
use Rattle.std.proofs.lemmas.List.{append_assoc}
use Rattle.run_schedules.specs.declared.call.Call.{Call}
use Rattle.run_schedules.specs.declared.effect.Effect.{Effect}
use Rattle.run_schedules.specs.declared.outcome.Outcome.{Outcome}
use Rattle.run_schedules.specs.Schedules.Effects.{with_effects}
use Rattle.run_schedules.specs.Schedules.Growing.{only_looks}
use Rattle.run_schedules.specs.Schedules.Moment.{UnderWay as CallThere, Moment}
use Rattle.run_schedules.specs.Schedules.Terms.{Terms}
use Rattle.run_schedules.specs.Schedules.Views.{call_of}
use Rattle.run_schedules.specs.Schedules.Waiting.{may_wait_for}
use Rattle.play_scheduler.specs.Given.FollowsCalling.{come_to}
use Rattle.run_executor.proofs.Given.HandsReplacing.{IsOn, calls_after}
use Rattle.run_executor.proofs.Given.MomentsAfter.{effects_after}
use Rattle.play_scheduler.proofs.Given.PromisesWeights.{parts_add_up}
use Rattle.play_scheduler.specs.Played.{RefinesFor}
use Rattle.play_stepping.specs.EventSteps.Stepping.{HasOutcomeOfKind, StepsHaveOutcome, GoesAt, IsMidst, IsStepped}
use Rattle.run_executor.specs.Named.Telling.{continues}
use Rattle.play_scheduler.specs.declared.scheduler.Scheduler.{Scheduler}
use Rattle.play_scheduler.proofs.Here.{here_at}
use Rattle.play_stepping.proofs.EventSteps.OneStep.{step_comes}
use Rattle.seize_words.proofs.General.{same_some as the}

module _ {K V S : Type 0} (same : K → K → Bool) (hash : K → ℕ) (terms : Terms) (own : List ℕ) (place : ℕ) (m : Moment K V) where
  -- before the first one
  pub midst_first : (p : Scheduler K V S) (stands : RefinesFor same hash terms m p) → GoesAt own place p → (list : List Effect) → list ≡ list ++ [] → IsMidst same hash terms own place m 0 list list p
  midst_first p stands at list none =
      let here = here_at same hash terms m p stands own place at.0 in
      record { call = here.call; call_is = here.call_is; did = []; follows = none; few = omega arith; stands = stands; going = at }

  module _ (steps : ℕ) (outcome : Outcome V) (before mid after : List Effect) (p new : Scheduler K V S) (midst : IsMidst same hash terms own place m steps before mid p)
      (step : IsStepped same hash place outcome mid after p new) where
    abbrev c : CallThere K V
    c = midst.call

    abbrev w : Moment K V
    w = with_effects (Some own) (Some c.map) midst.did m

    abbrev last : StepsHaveOutcome same hash terms own place w 1 outcome mid after new
    last = step_comes same hash terms w p new midst.stands own place midst.going outcome mid after step

    -- the call is that of before
    call_on : IsOn c last.call
    call_on = subst (λ (d : CallThere K V). IsOn c d) (the (calls_after own c.map own midst.did m c midst.call_is).0 last.call (sym (calls_after own c.map own midst.did m c midst.call_is).1 ∙ last.call_is))
        (calls_after own c.map own midst.did m c midst.call_is).2.0

    -- and so is the moment after all effects
    all_did : with_effects (Some own) (Some last.call.map) last.did w ≡ with_effects (Some own) (Some c.map) (midst.did ++ last.did) m
    all_did = ap (λ (x : ℕ). with_effects (Some own) (Some x) last.did w) call_on.map ∙ sym (effects_after (Some own) (Some c.map) midst.did last.did m)

    follows_all : after ≡ before ++ (midst.did ++ last.did)
    follows_all = last.follows ∙ ap (λ (l : List Effect). l ++ last.did) midst.follows ∙ append_assoc before midst.did last.did

    pub comes_next : StepsHaveOutcome same hash terms own place m (steps + 1) outcome before after new
    comes_next = record {
      call = c;
      call_is = midst.call_is;
      did = midst.did ++ last.did;
      follows = follows_all;
      few = parts_add_up steps 1 midst.did last.did midst.few last.few;
      comes = subst (λ (x : Call K V). HasOutcomeOfKind x outcome) call_on.call last.comes;
      works = λ waits. subst (λ (x : Call K V). only_looks x ≡ false) call_on.call (last.works waits);
      waits = λ waits. subst (λ (x : Moment K V). (d : CallThere K V) → call_of own x ≡ Some d → list_any (may_wait_for same d x) x.calls ≡ true) all_did (last.waits waits);
      memory = λ refused d d_is. last.memory refused d (ap (λ (x : Moment K V). call_of own x) all_did ∙ d_is);
      goes = λ on. (subst (λ (x : Moment K V). RefinesFor same hash terms x new) all_did (last.goes on).0, (last.goes on).1);
      stands = λ never counted. subst (λ (x : Moment K V). RefinesFor same hash terms (come_to own outcome counted x) new) all_did (last.stands never counted);
    }

    pub midst_next : continues outcome ≡ true → IsMidst same hash terms own place m (steps + 1) before after new
    midst_next on = let all = comes_next in
        record { call = all.call; call_is = all.call_is; did = all.did; follows = all.follows; few = all.few; stands = (all.goes on).0; going = (all.goes on).1 }
