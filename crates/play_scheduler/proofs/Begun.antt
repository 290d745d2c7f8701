-- The event by which a call begins.
use Rattle.std.specs.Prelude.{◌≡◌, ◌+◌, ◌&&◌, ℕ, Bool, true, false, List, is_none, is_some, Option, Some, None}
use Rattle.std.proofs.Common.{refl, sym, subst}
use Rattle.seize_words.specs.declared.fault.Fault.TheVariants.{Busy}
use Rattle.run_schedules.specs.declared.call.Call.{Call}
use Rattle.run_schedules.specs.declared.event.Event.TheVariants.{Begin}
use Rattle.run_schedules.specs.declared.outcome.Outcome.{Outcome}
use Rattle.run_schedules.specs.declared.outcome.Outcome.TheVariants.{Goes, Refused}
use Rattle.run_schedules.specs.Schedules.After.{is_alone_on, moment}
use Rattle.run_schedules.specs.Schedules.Beginning.{with_call}
use Rattle.run_schedules.specs.Schedules.Entry.{Entry}
use Rattle.run_schedules.specs.Schedules.InUse.{is_living}
use Rattle.run_schedules.specs.Schedules.Moment.{Moment}
use Rattle.run_schedules.specs.Schedules.Terms.{Terms}
use Rattle.run_schedules.specs.Schedules.Views.{call_of, map_of, number_of}
use Rattle.play_scheduler.specs.Played.{BeginsSo, IsInTurn, Plays, RefinesFor}
use Rattle.play_scheduler.specs.declared.scheduler.Scheduler.{Scheduler}
use Rattle.run_logged.proofs.Rows.Elsewhere.{elsewhere}
use Rattle.play_scheduler.proofs.Quiet.{stands_on}
use Rattle.play_scheduler.proofs.Rights.{in_turn, out_of_turn, plays, quiet}

module _ {K V S : Type 0} (same : K → K → Bool) (hash : K → ℕ) (terms : Terms) (log : List (Entry K V)) (own guard map : List ℕ) (call : Call K V) (old new : Scheduler K V S)
    (due : IsInTurn same hash terms log (Begin own guard map call) old) where
  abbrev m : Moment K V
  m = moment log

  abbrev wanted : Outcome V → Type 0
  wanted o = o ≡ Goes

  abbrev turn : Bool
  turn = is_none (call_of own m) && is_living guard m.there && is_some (map_of map m)

  abbrev e : Entry K V
  e = quiet (Begin own guard map call) Goes

  then_on : (o : Option ℕ) → RefinesFor same hash terms (with_call own guard call o m) new
      → (let w = with_call own guard call o m in RefinesFor same hash terms (elsewhere (m.events + 1) m.is_mapped m.is_closed (m.is_alone && is_alone_on e m) w.there m.slots w.sheltered m.remains w) new)
  then_on None stands = stands_on same hash terms m new stands (m.events + 1) (m.is_alone && is_alone_on e m) m.slots m.sheltered
  then_on (Some number) stands = stands_on same hash terms (with_call own guard call (Some number) m) new stands (m.events + 1) (m.is_alone && is_alone_on e m) m.slots m.sheltered

  pub begins_call : BeginsSo same hash terms m own guard map call true old new → Plays same hash terms log (quiet (Begin own guard map call) Goes) new
  begins_call begins = plays same hash terms log (Begin own guard map call) new due e refl (in_turn wanted turn Goes (sym begins.so) refl) (then_on (number_of map m) (begins.stands refl))

  pub begins_none : BeginsSo same hash terms m own guard map call false old new → Plays same hash terms log (quiet (Begin own guard map call) (Refused Busy)) new
  begins_none begins =
      let b = quiet (Begin own guard map call) (Refused Busy) in
      subst (λ (x : Scheduler K V S). Plays same hash terms log b x) (sym (begins.none refl))
      (plays same hash terms log (Begin own guard map call) old due b refl (out_of_turn wanted turn (Refused Busy) (sym begins.so) refl)
      (stands_on same hash terms m old due.played (m.events + 1) (m.is_alone && is_alone_on b m) m.slots m.sheltered))
