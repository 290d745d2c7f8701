-- An event by which a call goes on, by how far it is.
use Rattle.std.specs.Prelude.{◌≡◌, ℕ, Bool, List, [], position, Some}
use Rattle.std.proofs.Common.{refl, sym, subst, arith}
use Rattle.run_schedules.specs.Runs.Stopped.{most_steps}
use Rattle.run_schedules.specs.declared.event.Event.{Event}
use Rattle.run_schedules.specs.declared.event.Event.TheVariants.{Go, Step}
use Rattle.run_schedules.specs.declared.outcome.Outcome.{Outcome}
use Rattle.run_schedules.specs.declared.outcome.Outcome.TheVariants.{Asks, Ready}
use Rattle.run_schedules.specs.Schedules.After.{moment}
use Rattle.run_schedules.specs.Schedules.Entry.{Entry}
use Rattle.run_schedules.specs.Schedules.Moment.{Moment}
use Rattle.run_schedules.specs.Schedules.Terms.{Terms}
use Rattle.play_scheduler.specs.Played.{IsInTurn, entry_of}
use Rattle.run_executor.specs.Named.Seen.{is_named}
use Rattle.play_stepping.specs.EventSteps.Stepping.{PlaysOn, SaysAgain, TakenAs, TakenBy}
use Rattle.run_executor.specs.declared.caller.Stands.{Stands as HowFar}
use Rattle.run_executor.specs.declared.caller.Stands.TheVariants as far
use Rattle.play_scheduler.specs.declared.played.Played.{Played}
use Rattle.play_scheduler.specs.declared.scheduler.Scheduler.{Scheduler}
use Rattle.play_scheduler.proofs.Here.{Here, here_at}
use Rattle.play_stepping.proofs.EventSteps.PlaysAgain.{go_asks, go_ready, step_asks, step_ready}
use Rattle.play_stepping.proofs.EventSteps.PlaysSteps.{plays_go, plays_step}
use Rattle.play_scheduler.proofs.Rights.{entry_is, quiet}

module _ {K V S : Type 0} (same : K → K → Bool) (hash : K → ℕ) (terms : Terms) (log : List (Entry K V)) (own : List ℕ) (refuse : Bool) (old new : Scheduler K V S) (place : ℕ)
    (placed : Some place ≡ position (is_named own) old.calls) (played : Played V) where
  abbrev m : Moment K V
  m = moment log

  -- what is told, where the call says so again
  again : (event : Event K V) (outcome : Outcome V) → SaysAgain same hash outcome played old new → PlaysOn same hash terms log (quiet event outcome) old → PlaysOn same hash terms log (entry_of event played) new
  again event outcome says so =
      subst (λ (x : Scheduler K V S). PlaysOn same hash terms log (entry_of event played) x) (sym says.3)
      (subst (λ (e : Entry K V). PlaysOn same hash terms log e old) (sym (entry_is event played outcome 0 [] says.0 says.1 says.2)) so)

  module _ (due : IsInTurn same hash terms log (Step own refuse) old) (taken : TakenAs same hash place 1 played old new) where
    abbrev here : Here same hash terms m old due.played own place
    here = here_at same hash terms m old due.played own place placed

    by_step : (how : HowFar) → here.caller.stands ≡ how → TakenBy same hash place 1 how played old new → PlaysOn same hash terms log (entry_of (Step own refuse) played) new
    by_step (far.Asks question) is says = again (Step own refuse) (Asks question) says (step_asks same hash terms log own refuse old due.played place placed question is due)
    by_step far.Ready is says = again (Step own refuse) Ready says (step_ready same hash terms log own refuse old due.played place placed is due)
    by_step far.Goes is come =
        let one : played.steps ≡ 1 = (let a = come.0.0 in let b = come.0.1 in omega (arith, a, b)) in
        plays_step same hash terms log own old due.played place placed is played.steps played.outcome played.effects.items new (come.1 terms m own due.played (placed, here.caller, here.at, is)) refuse due one

    pub plays_taken : PlaysOn same hash terms log (entry_of (Step own refuse) played) new
    plays_taken = by_step here.caller.stands refl (taken here.caller here.at)

  module _ (due : IsInTurn same hash terms log (Go own refuse) old) (taken : TakenAs same hash place most_steps played old new) where
    abbrev there : Here same hash terms m old due.played own place
    there = here_at same hash terms m old due.played own place placed

    by_go : (how : HowFar) → there.caller.stands ≡ how → TakenBy same hash place most_steps how played old new → PlaysOn same hash terms log (entry_of (Go own refuse) played) new
    by_go (far.Asks question) is says = again (Go own refuse) (Asks question) says (go_asks same hash terms log own refuse old due.played place placed question is due)
    by_go far.Ready is says = again (Go own refuse) Ready says (go_ready same hash terms log own refuse old due.played place placed is due)
    by_go far.Goes is come =
        plays_go same hash terms log own old due.played place placed is played.steps played.outcome played.effects.items new (come.1 terms m own due.played (placed, there.caller, there.at, is)) refuse due come.0

    pub plays_gone : PlaysOn same hash terms log (entry_of (Go own refuse) played) new
    plays_gone = by_go there.caller.stands refl (taken there.caller there.at)
