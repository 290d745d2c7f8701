-- An event that is in turn, or kept out, keeps its promises, and the run goes on with it.
use Rattle.std.specs.Prelude.{◌≡◌, ◌⊎◌, ℕ, Bool, true, false, List, [], ◌∷◌, Result, Ok, Err, IfOk, MatchBool}
use Rattle.std.proofs.Common.{ap, sym, subst, inl, inr, ◌∙◌}
use Rattle.run_schedules.specs.Given.SeizeWordsDeclared.fault.Fault.TheVariants.{Busy}
use Rattle.run_schedules.specs.Runs.Stopped.{most_steps}
use Rattle.run_schedules.specs.declared.call.Call.{Call}
use Rattle.run_schedules.specs.declared.call.Reply.{Reply}
use Rattle.run_schedules.specs.declared.event.Event.{Event}
use Rattle.run_schedules.specs.declared.event.Event.TheVariants as event
use Rattle.run_schedules.specs.declared.outcome.Outcome.TheVariants.{Done, Goes, Refused}
use Rattle.run_schedules.specs.Schedules.After.{moment}
use Rattle.run_schedules.specs.Schedules.Coming.{fits_reply, shows_now}
use Rattle.run_schedules.specs.Schedules.Entry.{Entry}
use Rattle.run_schedules.specs.Schedules.InTurn.{HasRightOutcome, HasOutcome, IsKeptOut}
use Rattle.run_schedules.specs.Schedules.Terms.{Terms}
use Rattle.run_schedules.specs.Schedules.Views.{call_of}
use Rattle.play_stepping.specs.Given.LoggedCalling.{MakesNoMore}
use Rattle.play_stepping.specs.Given.SchedulerKeptOut.{PlaysKeptOut}
use Rattle.play_stepping.specs.Given.SchedulerPlayed.{Began, IsInTurn, IsPlayed, PlaysAt, Replies, Stops, entry_of}
use Rattle.play_stepping.specs.Given.SchedulerQuiet.{StaysBusy}
use Rattle.play_stepping.specs.Given.SchedulerDeclared.played.Played.{Played}
use Rattle.play_stepping.specs.Given.SchedulerDeclared.scheduler.Scheduler.{Scheduler}
use Rattle.play_stepping.proofs.Given.SchedulerRights.{entry_is}
use Rattle.play_stepping.specs.EventSteps.Stepping.{PlaysNextAt, PlaysOnAt, TookNext, TookSteps, TookWhole}
use Rattle.play_events.specs.Events.Asked.{is_of_calls}
use Rattle.play_events.specs.Events.OfCalls.{PreservesAt, PreservesInTurn, Runs, RunsOn}
use Rattle.play_events.proofs.Events.OfCalls.Events.{ask_on, begin_on, begin_out, go_on, go_out, next_out, reply_out, step_on, step_out, stop_out, whole_goes_on, whole_out}
use Rattle.play_events.proofs.Events.OfCalls.Finds.{go_finds, not_busy, quiet_in_case, step_finds, whole_finds}
use Rattle.play_events.proofs.Events.OfCalls.Told.{stopped_on, told_on}
use Rattle.play_stepping.specs.Given.ExecutorIsThere.{PreservesSettings}
use Rattle.play_stepping.proofs.Given.ScenesLeads.{happens}

-- one that is in turn comes to what it must
pub in_turn_comes : {K V : Type 0} (terms : Terms) (log : List (Entry K V)) (e : Entry K V) → (moment log).is_closed ≡ false → HasRightOutcome terms log e
    → HasOutcome terms log (moment log) e e.event e.outcome
in_turn_comes terms log e out right = subst (λ (b : Bool). MatchBool b (IsKeptOut e.event e.outcome) (HasOutcome terms log (moment log) e e.event e.outcome)) out right

pub either : {A B : Type 0} (q : Bool) → MatchBool q A B → A ⊎ B
either true so = inl so
either false so = inr so

-- A reply was told, or was out of turn; and so it is of a walk that is to be given up.
module _ {K V S : Type 0} (same : K → K → Bool) (hash : K → ℕ) (old new : Scheduler K V S) (played : Played V) (steps : played.steps ≡ 0) (terms : Terms) (log : List (Entry K V)) (runs : Runs same hash terms log old)
    (given : PreservesSettings old.logged.executor new.logged.executor) (stays : played.outcome ≡ Refused Busy → (new ≡ old) × (played.effects.items ≡ [])) where
  abbrev GoesOnBy : Event K V → Type 0
  GoesOnBy its = HasRightOutcome terms log (entry_of its played) → IsPlayed same hash terms (entry_of its played ∷ log) new → RunsOn same hash terms log (entry_of its played) new

  told_either : (own : List ℕ) (reply : Reply V) → Replies same hash own reply played old new → (played.outcome ≡ Goes) ⊎ (played.outcome ≡ Refused Busy) → GoesOnBy (event.Replied own reply)
  told_either own reply told (inl goes) right plays =
      let it = told goes in
      let so = entry_is (event.Replied own reply) played Goes 0 [] goes steps it.1 in
      subst (λ (e : Entry K V). RunsOn same hash terms log e new) (sym so)
      (told_on same hash terms log old runs own new reply it.0 given (subst (λ (e : Entry K V). HasRightOutcome terms log e) so right) (subst (λ (e : Entry K V). IsPlayed same hash terms (e ∷ log) new) so plays))
  told_either own reply told (inr busy) right plays =
      let was = stays busy in
      reply_out same hash old new played terms log runs busy steps was.1 (ap (λ (p : Scheduler K V S). p.logged) was.0) (ap (λ (p : Scheduler K V S). p.calls) was.0) own reply right plays

  stop_either : (own : List ℕ) → Stops same hash own played old new → (played.outcome ≡ Done) ⊎ (played.outcome ≡ Refused Busy) → GoesOnBy (event.Stop own)
  stop_either own stopped (inl done) right plays =
      let it = stopped done in
      let so = entry_is (event.Stop own) played Done 0 [] done steps it.1 in
      subst (λ (e : Entry K V). RunsOn same hash terms log e new) (sym so)
      (stopped_on same hash terms log old runs own new it.0 given (subst (λ (e : Entry K V). HasRightOutcome terms log e) so right) (subst (λ (e : Entry K V). IsPlayed same hash terms (e ∷ log) new) so plays))
  stop_either own stopped (inr busy) right plays =
      let was = stays busy in
      stop_out same hash old new played terms log runs busy steps was.1 (ap (λ (p : Scheduler K V S). p.logged) was.0) (ap (λ (p : Scheduler K V S). p.calls) was.0) own right plays

module _ {K V S : Type 0} (same : K → K → Bool) (hash : K → ℕ) (old new : Scheduler K V S) (happens : Event K V) where
  pub step_if : {X : Type 0} (own : List ℕ) (refuse : Bool) → happens ≡ event.Step own refuse → (result : Result (Played V) X) → IfOk result (λ played. PlaysOnAt same hash (event.Step own refuse) played old new)
      → IfOk result (λ played. TookSteps same hash 1 own played old new) → IfOk result (λ played. MakesNoMore refuse [] played.effects.items)
      → IfOk result (λ played. PreservesInTurn same hash happens played old new)
  step_if own refuse is (Ok played) plays took refused = subst (λ (x : Event K V). PreservesInTurn same hash x played old new) (sym is) (λ terms log runs out. (
    step_finds same hash old new played terms log runs own refuse took,
    λ left.
        step_on same hash old new played terms log runs own refuse took refused left (plays terms log (record { played = runs.stands; in_turn = out })).played,
  ))
  step_if own refuse is (Err x) plays took refused = tt

  pub go_if : {X : Type 0} (own : List ℕ) (refuse : Bool) → happens ≡ event.Go own refuse → (result : Result (Played V) X) → IfOk result (λ played. PlaysOnAt same hash (event.Go own refuse) played old new)
      → IfOk result (λ played. TookSteps same hash most_steps own played old new) → IfOk result (λ played. MakesNoMore refuse [] played.effects.items)
      → IfOk result (λ played. PreservesInTurn same hash happens played old new)
  go_if own refuse is (Ok played) plays took refused = subst (λ (x : Event K V). PreservesInTurn same hash x played old new) (sym is) (λ terms log runs out. (
    go_finds same hash old new played terms log runs own refuse took,
    λ left.
        go_on same hash old new played terms log runs own refuse took refused left (plays terms log (record { played = runs.stands; in_turn = out })).played,
  ))
  go_if own refuse is (Err x) plays took refused = tt

  pub whole_if : {X : Type 0} (guard on : List ℕ) (call : Call K V) → happens ≡ event.OneCall guard on call → (result : Result (Played V) X)
      → IfOk result (λ played. PlaysOnAt same hash (event.OneCall guard on call) played old new) → IfOk result (λ played. TookWhole same hash guard on call played old new)
      → IfOk result (λ played. PreservesInTurn same hash happens played old new)
  whole_if guard on call is (Ok played) plays took = subst (λ (x : Event K V). PreservesInTurn same hash x played old new) (sym is) (λ terms log runs out. (
    whole_finds same hash old new played terms log runs guard on call took,
    λ left.
        whole_goes_on same hash old new played terms log runs guard on call took left (plays terms log (record { played = runs.stands; in_turn = out })).played,
  ))
  whole_if guard on call is (Err x) plays took = tt

  pub ask_if : {X : Type 0} (own : List ℕ) → happens ≡ event.Next own → (result : Result (Played V) X) → IfOk result (λ played. PlaysNextAt same hash own played old new)
      → IfOk result (λ played. TookNext same hash own played old new) → IfOk result (λ played. PreservesInTurn same hash happens played old new)
  ask_if own is (Ok played) plays took = subst (λ (x : Event K V). PreservesInTurn same hash x played old new) (sym is) (λ terms log runs out. (
    tt,
    λ left.
        let on = plays terms log (record { played = runs.stands; in_turn = out }) in
        ask_on same hash old new played terms log runs own took left (in_turn_comes terms log (entry_of (event.Next own) played) out left) on.idle on.plays.played,
  ))
  ask_if own is (Err x) plays took = tt

  pub begin_if : {X : Type 0} (own guard on : List ℕ) (call : Call K V) → happens ≡ event.Begin own guard on call → (result : Result (Played V) X) → IfOk result (λ played. played.steps ≡ 0)
      → IfOk result (λ played. PlaysAt same hash (event.Begin own guard on call) played old new) → IfOk result (λ played. Began same hash own guard on call played old new)
      → PreservesSettings old.logged.executor new.logged.executor → IfOk result (λ played. PreservesInTurn same hash happens played old new)
  begin_if own guard on call is (Ok played) steps plays began given = subst (λ (x : Event K V). PreservesInTurn same hash x played old new) (sym is) (λ terms log runs out. (
    tt,
    λ left.
        begin_on same hash old new played terms log runs own guard on call steps began given.1 left (plays terms log (record { played = runs.stands; in_turn = out })).played,
  ))
  begin_if own guard on call is (Err x) steps plays began given = tt

  pub told_keeps : (own : List ℕ) (reply : Reply V) → happens ≡ event.Replied own reply → (played : Played V) → played.steps ≡ 0 → PlaysAt same hash (event.Replied own reply) played old new
      → Replies same hash own reply played old new → StaysBusy same hash (event.Replied own reply) played old new → PreservesSettings old.logged.executor new.logged.executor → PreservesInTurn same hash happens played old new
  told_keeps own reply is played steps plays told stays given = subst (λ (x : Event K V). PreservesInTurn same hash x played old new) (sym is) (λ terms log runs out. (
    tt,
    λ left.
        let due : IsInTurn same hash terms log (event.Replied own reply) old = record { played = runs.stands; in_turn = out } in
        told_either same hash old new played steps terms log runs given (stays terms log due) own reply told
        (either {A = played.outcome ≡ Goes} {B = played.outcome ≡ Refused Busy} (fits_reply (call_of own (moment log)) reply) (in_turn_comes terms log (entry_of (event.Replied own reply) played) out left))
        left (plays terms log due).played,
  ))

  pub stop_keeps : (own : List ℕ) → happens ≡ event.Stop own → (played : Played V) → played.steps ≡ 0 → PlaysAt same hash (event.Stop own) played old new → Stops same hash own played old new
      → StaysBusy same hash (event.Stop own) played old new → PreservesSettings old.logged.executor new.logged.executor → PreservesInTurn same hash happens played old new
  stop_keeps own is played steps plays stopped stays given = subst (λ (x : Event K V). PreservesInTurn same hash x played old new) (sym is) (λ terms log runs out. (
    tt,
    λ left.
        let due : IsInTurn same hash terms log (event.Stop own) old = record { played = runs.stands; in_turn = out } in
        stop_either same hash old new played steps terms log runs given (stays terms log due) own stopped
        (either {A = played.outcome ≡ Done} {B = played.outcome ≡ Refused Busy} (shows_now (call_of own (moment log))) (in_turn_comes terms log (entry_of (event.Stop own) played) out left))
        left (plays terms log due).played,
  ))

-- An event is kept out, or in turn, or none of a call.
module _ {K V S : Type 0} (same : K → K → Bool) (hash : K → ℕ) (happens : Event K V) (old new : Scheduler K V S) where
  pub out_keeps : (mapped : Bool) → new ≡ record old { is_mapped = mapped } → (played : Played V) → IsKeptOut happens played.outcome → played.steps ≡ 0 → played.effects.items ≡ []
      → PlaysKeptOut same hash happens played old new → old.is_closed ≡ true → PreservesAt same hash happens played old new
  out_keeps mapped is played kept none nothing plays out = by happens kept plays out
    where
      logged_is : new.logged ≡ old.logged
      logged_is = ap (λ (x : Scheduler K V S). x.logged) is

      calls_are : new.calls ≡ old.calls
      calls_are = ap (λ (x : Scheduler K V S). x.calls) is

      by : (x : Event K V) → IsKeptOut x played.outcome → PlaysKeptOut same hash x played old new → old.is_closed ≡ true → PreservesAt same hash x played old new
      by (event.Step own refuse) busy so kept_so = λ calls terms log runs. (
        quiet_in_case terms log (entry_of (event.Step own refuse) played) (not_busy played.outcome busy),
        λ left.
            step_out same hash old new played terms log runs busy none nothing logged_is calls_are own refuse left (so terms log runs.stands kept_so).played,
      )
      by (event.Go own refuse) busy so kept_so = λ calls terms log runs. (
        quiet_in_case terms log (entry_of (event.Go own refuse) played) (not_busy played.outcome busy),
        λ left.
            go_out same hash old new played terms log runs busy none nothing logged_is calls_are own refuse left (so terms log runs.stands kept_so).played,
      )
      by (event.OneCall guard on call) busy so kept_so = λ calls terms log runs. (
        quiet_in_case terms log (entry_of (event.OneCall guard on call) played) (not_busy played.outcome busy),
        λ left.
            whole_out same hash old new played terms log runs busy none nothing logged_is calls_are guard on call left (so terms log runs.stands kept_so).played,
      )
      by (event.Next own) busy so kept_so = λ calls terms log runs. (
        tt,
        λ left.
            next_out same hash old new played terms log runs busy none nothing logged_is calls_are own left (so terms log runs.stands kept_so).played,
      )
      by (event.Begin own guard on call) busy so kept_so = λ calls terms log runs. (
        tt,
        λ left.
            begin_out same hash old new played terms log runs busy none nothing logged_is calls_are own guard on call left (so terms log runs.stands kept_so).played,
      )
      by (event.Replied own reply) busy so kept_so = λ calls terms log runs. (
        tt,
        λ left.
            reply_out same hash old new played terms log runs busy none nothing logged_is calls_are own reply left (so terms log runs.stands kept_so).played,
      )
      by (event.Stop own) busy so kept_so = λ calls terms log runs. (
        tt,
        λ left.
            stop_out same hash old new played terms log runs busy none nothing logged_is calls_are own left (so terms log runs.stands kept_so).played,
      )
      by _ busy so kept_so = λ calls. absurd (cc calls)

  pub turn_keeps : {X : Type 0} (result : Result (Played V) X) → IfOk result (λ played. PreservesInTurn same hash happens played old new) → old.is_closed ≡ false
      → IfOk result (λ played. PreservesAt same hash happens played old new)
  turn_keeps (Ok played) due out = λ calls terms log runs.
      let in_turn = runs.stands.closed ∙ out in
      due terms log runs in_turn
  turn_keeps (Err x) due out = tt

  pub other_keeps : {X : Type 0} → is_of_calls happens ≡ false → (result : Result (Played V) X) → IfOk result (λ played. PreservesAt same hash happens played old new)
  other_keeps none (Ok played) = λ calls. absurd (cc (calls, none))
  other_keeps none (Err x) = tt
