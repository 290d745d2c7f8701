-- An event that is kept out keeps the run, and one that is in turn does so as it is said of it.
use Rattle.std.specs.Prelude.{◌≡◌, ℕ, Bool, true, false, [], ◌∷◌, Option, Some, None, MatchOption, Result, Ok, Err, IfOk}
use Rattle.std.proofs.Common.{refl, sym, ap, subst, ◌∙◌}
use Rattle.run_schedules.specs.Given.SeizeWordsDeclared.fault.Fault.{Fault}
use Rattle.run_schedules.specs.Given.SeizeWordsDeclared.fault.Fault.TheVariants.{Busy}
use Rattle.run_schedules.specs.Runs.Runs.{map_fault}
use Rattle.run_schedules.specs.declared.event.Event.{Event}
use Rattle.run_schedules.specs.declared.event.Event.TheVariants.{Begin, DropGuard, EndMap, Enter, Flush, Go, MakeMap, Next, OneCall, Own, Refresh, Register, Replied, Step, Stop, Unregister}
use Rattle.run_schedules.specs.declared.outcome.Outcome.{Outcome}
use Rattle.run_schedules.specs.declared.outcome.Outcome.TheVariants.{Refused}
use Rattle.run_schedules.specs.Schedules.After.{mapped_on}
use Rattle.run_schedules.specs.Schedules.Entry.{Entry}
use Rattle.run_schedules.specs.Schedules.InTurn.{HasRightOutcome, IsKeptOut}
use Rattle.play_stepping.specs.Given.SchedulerPlayed.{IsPlayed}
use Rattle.play_stepping.specs.Given.SchedulerDeclared.played.Played.{Played}
use Rattle.play_stepping.specs.Given.SchedulerDeclared.scheduler.Scheduler.{Scheduler}
use Rattle.play_stepping.proofs.Given.SchedulerRights.{entry, entry_is}
use Rattle.play_events.specs.Events.Asked.{is_of_calls}
use Rattle.play_events.specs.Events.OfCalls.{RunsOn}
use Rattle.play_events.specs.Events.OfRows.{PreservesRun, PreservesRunAt, is_of_rows}
use Rattle.play_events.proofs.Events.OfRows.Quiet.{refused_still, still_keeps}

-- an event that is kept out is refused
out_refused : {K V : Type 0} (event : Event K V) (outcome : Outcome V) → is_of_rows event ≡ true → IsKeptOut event outcome → (fault : Fault) × (outcome ≡ Refused fault)
out_refused (Register registration) outcome of is = (Busy, is)
out_refused (Unregister registration) outcome of is = (Busy, is)
out_refused (Enter guard registration) outcome of is = (Busy, is)
out_refused (Own guard) outcome of is = (Busy, is)
out_refused (Refresh guard) outcome of is = (Busy, is)
out_refused (Flush guard) outcome of is = (Busy, is)
out_refused (DropGuard guard) outcome of is = (Busy, is)
out_refused (EndMap own) outcome of is = (Busy, is)
out_refused (MakeMap own mode capacity) outcome of is = by (map_fault mode capacity) is
  where
    by : (o : Option Fault) → MatchOption o (outcome ≡ Refused Busy) (λ fault. outcome ≡ Refused fault) → (fault : Fault) × (outcome ≡ Refused fault)
    by None so = (Busy, so)
    by (Some fault) so = (fault, so)
out_refused _ outcome of is = absurd (cc of)

-- an event of a call is none of these
not_of_rows : {K V : Type 0} (event : Event K V) → is_of_calls event ≡ true → is_of_rows event ≡ false
not_of_rows (Begin caller guard name call) of = refl
not_of_rows (Step caller refuse) of = refl
not_of_rows (Go caller refuse) of = refl
not_of_rows (Replied caller reply) of = refl
not_of_rows (OneCall guard name call) of = refl
not_of_rows (Next caller) of = refl
not_of_rows (Stop caller) of = refl
not_of_rows _ of = absurd (cc of)

module _ {K V S : Type 0} (same : K → K → Bool) (hash : K → ℕ) (event : Event K V) where
  pub calls_keep : {X : Type 0} → is_of_calls event ≡ true → (old new : Scheduler K V S) (result : Result (Played V) X) → IfOk result (λ played. PreservesRun same hash event played old new)
  calls_keep calls old new (Ok played) = λ of terms log holds run turn after right. absurd (let none = not_of_rows event calls in cc (of, none))
  calls_keep calls old new (Err x) = tt

  module _ (old new : Scheduler K V S) where
    pub kept_out : (played : Played V) → IsKeptOut event played.outcome → played.effects.items ≡ [] → new ≡ record old { is_mapped = mapped_on event old.is_mapped } → PreservesRunAt same hash event played old new
    kept_out played is none mapped of terms log holds run after right =
        let out = out_refused event played.outcome of is in
        subst (λ (x : Entry K V). IsPlayed same hash terms (x ∷ log) new → HasRightOutcome terms log x → RunsOn same hash terms log x new)
        (sym (entry_is event played (Refused out.0) played.steps [] out.1 refl none))
        (λ so rest. still_keeps same hash terms log old run (entry event (Refused out.0) played.steps []) new refl (refused_still log run.stands.scene.world event of out.0 played.steps)
        (ap (λ (p : Scheduler K V S). p.logged) mapped) (ap (λ (p : Scheduler K V S). p.calls) mapped) so rest refl) after right

    pub kept_in_turn : {X : Type 0} (result : Result (Played V) X) → IfOk result (λ played. PreservesRun same hash event played old new) → old.is_closed ≡ false
        → IfOk result (λ played. PreservesRunAt same hash event played old new)
    kept_in_turn (Ok played) keeps out = λ of terms log holds run after right. keeps of terms log holds run (holds.stands.closed ∙ out) after right
    kept_in_turn (Err x) keeps out = tt
