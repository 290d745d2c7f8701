-- Events that change nothing but that they have come.
use Rattle.std.specs.Prelude.{◌≡◌, ◌+◌, ◌==◌, ℕ, ◌&&◌, Bool, true, false, not, List, if◌then◌else◌}
use Rattle.std.proofs.Common.{refl, sym, ap, ◌∙◌}
use Rattle.seize_words.specs.declared.fault.Fault.TheVariants.{Busy}
use Rattle.run_schedules.specs.declared.setup.Setup.{Setup}
use Rattle.run_schedules.specs.declared.key_hash.KeyHash.{KeyHash}
use Rattle.run_schedules.specs.declared.event.Event.TheVariants.{Collector, Hash}
use Rattle.run_schedules.specs.declared.outcome.Outcome.{Outcome}
use Rattle.run_schedules.specs.declared.outcome.Outcome.TheVariants.{Done, Refused}
use Rattle.run_schedules.specs.Schedules.After.{is_alone_on, moment}
use Rattle.run_schedules.specs.Schedules.Entry.{Entry}
use Rattle.run_schedules.specs.Schedules.InTurn.{IsDone}
use Rattle.run_schedules.specs.Schedules.Moment.{Moment}
use Rattle.run_schedules.specs.Schedules.Terms.{Terms}
use Rattle.play_scheduler.specs.Played.{IsInTurn, Plays}
use Rattle.play_scheduler.specs.declared.scheduler.Scheduler.{Scheduler}
use Rattle.play_scheduler.proofs.Quiet.{stands_on}
use Rattle.play_scheduler.proofs.Rights.{in_turn, out_of_turn, plays, quiet}

-- what an event comes to that does nothing
abbrev pub if_so : {V : Type 0} → Bool → Outcome V
if_so so = if so then Done else Refused Busy

module _ {K V S : Type 0} (same : K → K → Bool) (hash : K → ℕ) (terms : Terms) (log : List (Entry K V)) (p : Scheduler K V S) where
  abbrev m : Moment K V
  m = moment log

  abbrev alone : Entry K V → Bool
  alone e = m.is_alone && is_alone_on e m

  pub collector_plays : (setup : Setup) → IsInTurn same hash terms log (Collector setup) p → (is_first : Bool) → is_first ≡ (m.events == 0)
      → Plays same hash terms log (quiet (Collector setup) (if_so is_first)) p
  collector_plays setup due true first =
      let e = quiet (Collector setup) Done in
      plays same hash terms log (Collector setup) p due e refl (in_turn IsDone (m.events == 0) Done (sym first) refl) (stands_on same hash terms m p due.played (m.events + 1) (alone e) m.slots m.sheltered)
  collector_plays setup due false first =
      let e = quiet (Collector setup) (Refused Busy) in
      plays same hash terms log (Collector setup) p due e refl (out_of_turn IsDone (m.events == 0) (Refused Busy) (sym first) refl)
      (stands_on same hash terms m p due.played (m.events + 1) (alone e) m.slots m.sheltered)

  pub hash_plays : (by : KeyHash) → IsInTurn same hash terms log (Hash by) p → (so : Bool) → so ≡ not p.is_mapped → Plays same hash terms log (quiet (Hash by) (if_so so)) p
  hash_plays by due true so =
      let e = quiet (Hash by) Done in
      plays same hash terms log (Hash by) p due e refl (in_turn IsDone (not m.is_mapped) Done (ap not due.played.mapped ∙ sym so) refl)
      (stands_on same hash terms m p due.played (m.events + 1) (alone e) m.slots m.sheltered)
  hash_plays by due false so =
      let e = quiet (Hash by) (Refused Busy) in
      plays same hash terms log (Hash by) p due e refl (out_of_turn IsDone (not m.is_mapped) (Refused Busy) (ap not due.played.mapped ∙ sym so) refl)
      (stands_on same hash terms m p due.played (m.events + 1) (alone e) m.slots m.sheltered)
