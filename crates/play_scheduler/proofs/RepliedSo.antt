-- A reply is told to a call: what is promised of that, by what is read at the caller's place.
use Rattle.std.specs.Prelude.{◌≡◌, ℕ, Bool, true, false, List, Result, Option, Some, position, slice_get, slice_index_or, slice_set}
use Rattle.std.specs.Result.{is_err}
use Rattle.std.proofs.Common.{sym, ap, subst, ◌∙◌}
use Rattle.papaya_raw.specs.declared.machines.asking.MachineReply.{MachineReply}
use Rattle.run_schedules.specs.Schedules.After.{moment}
use Rattle.run_schedules.specs.Schedules.Entry.{Entry}
use Rattle.run_schedules.specs.Schedules.Moment.{Moment}
use Rattle.run_schedules.specs.Schedules.Terms.{Terms}
use Rattle.run_schedules.specs.declared.call.Reply.{Reply}
use Rattle.run_schedules.specs.declared.event.Event.TheVariants.{Replied}
use Rattle.run_schedules.specs.declared.outcome.Outcome.TheVariants.{Goes}
use Rattle.run_executor.specs.Given.HandsAsked.{reply_to_machine}
use Rattle.run_logged.specs.Log.Calling.{CallTakes}
use Rattle.run_logged.specs.declared.logged.Logged.{Logged}
use Rattle.play_scheduler.specs.Played.{IsInTurn, Plays}
use Rattle.run_executor.specs.Named.Seen.{is_named, takes}
use Rattle.run_executor.specs.declared.caller.NamedCaller.{NamedCaller}
use Rattle.run_executor.specs.declared.caller.Stands.TheVariants as far
use Rattle.play_scheduler.specs.declared.scheduler.Scheduler.{Scheduler}
use Rattle.play_scheduler.proofs.Here.{Here, here_at, read_here}
use Rattle.play_scheduler.proofs.Replied.{has_call, result_is, told}
use Rattle.play_scheduler.proofs.Rights.{quiet}
use Rattle.run_executor.specs.Executing.Replying.{RepliesThere}
use Rattle.run_shows.specs.Scenes.Scene.{HasCall}

module _ {K V S : Type 0} (same : K → K → Bool) (hash : K → ℕ) (terms : Terms) (log : List (Entry K V)) (p : Scheduler K V S) (own : List ℕ) (reply : Reply V)
    (due : IsInTurn same hash terms log (Replied own reply) p) (place : ℕ) (placed : Some place ≡ position (is_named own) p.calls) (x : NamedCaller V)
    (reads : x ≡ slice_index_or p.calls place x) (taken : takes x reply ≡ true) (y : NamedCaller V) (reads_y : y ≡ slice_index_or p.calls place y) where
  abbrev m : Moment K V
  m = moment log

  abbrev here : Here same hash terms m p due.played own place
  here = here_at same hash terms m p due.played own place placed

  takes_it : takes here.caller reply ≡ true
  takes_it = ap (λ (c : NamedCaller V). takes c reply) (sym (read_here same hash terms m p due.played own place here x reads)) ∙ taken

  number_is : y.number ≡ here.caller.number
  number_is = ap (λ (c : NamedCaller V). c.number) (read_here same hash terms m p due.played own place here y reads_y)

  pub call_there : HasCall due.played.scene y.number
  call_there = subst (λ (n : ℕ). HasCall due.played.scene n) (sym number_is) (has_call same hash terms log p own reply due place placed takes_it)

  module _ (as_it : MachineReply V) (is_told : as_it ≡ reply_to_machine reply) (result : Result Unit (MachineReply V)) (new : Logged K V S)
      (leads : RepliesThere same hash y.number as_it result due.played.scene p.logged.executor new.executor)
      (takes_so : CallTakes same hash due.played.name m due.played.scene y.number as_it result p.logged new) where
    leads_it : RepliesThere same hash here.caller.number (reply_to_machine reply) result due.played.scene p.logged.executor new.executor
    leads_it =
        subst (λ (t : MachineReply V). RepliesThere same hash here.caller.number t result due.played.scene p.logged.executor new.executor) is_told
        (subst (λ (n : ℕ). RepliesThere same hash n as_it result due.played.scene p.logged.executor new.executor) number_is leads)

    takes_so_it : CallTakes same hash due.played.name m due.played.scene here.caller.number (reply_to_machine reply) result p.logged new
    takes_so_it =
        subst (λ (t : MachineReply V). CallTakes same hash due.played.name m due.played.scene here.caller.number t result p.logged new) is_told
        (subst (λ (n : ℕ). CallTakes same hash due.played.name m due.played.scene n as_it result p.logged new) number_is takes_so)

    pub is_taken : is_err result ≡ false
    is_taken = ap (λ (r : Result Unit (MachineReply V)). is_err r) (result_is same hash terms log p own reply due place placed takes_it result new leads_it takes_so_it)

    pub goes_on : (value : Option V) (callers : List (NamedCaller V))
        → ((c : NamedCaller V) → slice_get p.calls place ≡ Some c → callers ≡ slice_set p.calls place (record c { stands = far.Goes; value = value }))
        → Plays same hash terms log (quiet (Replied own reply) Goes) (record p { logged = new; calls = callers })
    goes_on value callers resumed = told same hash terms log p own reply due place placed takes_it result new leads_it takes_so_it value callers (resumed here.caller here.at)
