-- By each kind of event the list of acts goes on; and where events are kept out it is as it was.
use Rattle.std.specs.Prelude.{length, Result, Ok, Err, IfOk, Option, Some, None, MatchOption}
use Rattle.std.proofs.Common.{◌≡◌, ℕ, Bool, true, false, List, [], ◌∷◌, inl, inr, sym, ap, subst, arith, ◌∙◌}
use Rattle.seize_words.specs.declared.fault.Fault.{Fault}
use Rattle.seize_words.specs.declared.fault.Fault.TheVariants.{Busy}
use Rattle.run_schedules.specs.Runs.Runs.{map_fault}
use Rattle.run_schedules.specs.declared.call.Call.{Call}
use Rattle.run_schedules.specs.declared.call.Reply.{Reply}
use Rattle.run_schedules.specs.declared.event.Event.{Event}
use Rattle.run_schedules.specs.declared.event.Event.TheVariants as event
use Rattle.run_schedules.specs.declared.outcome.Outcome.{Outcome}
use Rattle.run_schedules.specs.declared.outcome.Outcome.TheVariants.{Done, Goes, Refused}
use Rattle.run_schedules.specs.Schedules.After.{moment}
use Rattle.run_schedules.specs.Schedules.Entry.{Entry}
use Rattle.run_schedules.specs.Schedules.Coming.{fits_reply, shows_now}
use Rattle.run_schedules.specs.Schedules.InTurn.{IsKeptOut}
use Rattle.run_schedules.specs.Schedules.Terms.{Terms}
use Rattle.run_schedules.specs.Schedules.Views.{call_of}
use Rattle.map_tables.specs.declared.resize_mode.ResizeMode.{ResizeMode}
use Rattle.play_events.specs.Given.SchedulerAllWorks.{WorksOnAll}
use Rattle.play_events.specs.Given.SchedulerPlayed.{Began, IsInTurn, PlaysAt, Replies, Stops, entry_of}
use Rattle.play_events.specs.Given.SchedulerQuiet.{StaysBusy}
use Rattle.play_events.specs.Given.SchedulerWorks.{DidNothing, WorksOnEnd, WorksOnMap, WorksOnSetup, WorksOnSlot}
use Rattle.play_events.specs.Given.SchedulerMapping.{numbers_made}
use Rattle.play_events.specs.Given.SchedulerDeclared.played.Played.{Played}
use Rattle.play_events.specs.Given.SchedulerDeclared.scheduler.Scheduler.{Scheduler}
use Rattle.play_events.specs.Given.SteppingStepping.{TookNext, TookSteps, TookWhole}
use Rattle.play_events.specs.Events.Asked.{MayHappenDue}
use Rattle.play_events.specs.Given.ExecutorIsThere.{PreservesSettings}
use Rattle.play_events.proofs.Events.OfCalls.Happens.{either, in_turn_comes}
use Rattle.play_events.specs.Given.GroupedGrouping.{acts_on_none, refuses}
use Rattle.play_events.proofs.Given.GroupedMidst.{maps_of}
use Rattle.papaya_steps.proofs.Pieced.AllDone.{close_goes_on, reclaim_goes_on}
use Rattle.papaya_steps.proofs.Pieced.Begun.{begin_goes_on, whole_goes_on}
use Rattle.papaya_steps.proofs.Pieced.Chosen.{choice_goes_on}
use Rattle.papaya_steps.proofs.Pieced.Ended.{end_goes_on}
use Rattle.papaya_steps.proofs.Pieced.Last.{any_course}
use Rattle.papaya_steps.proofs.Pieced.Made.{make_goes_on}
use Rattle.papaya_steps.proofs.Pieced.Quiet.{did_nothing, quiet_goes_on}
use Rattle.papaya_steps.proofs.Pieced.Replied.{reply_goes_on}
use Rattle.papaya_steps.proofs.Pieced.Rowed.{row_goes_on}
use Rattle.papaya_steps.proofs.Pieced.Stopped.{stop_goes_on}
use Rattle.papaya_steps.proofs.Pieced.Taken.{go_goes_on, step_goes_on}
use Rattle.papaya_steps.proofs.Pieced.Walked.{next_goes_on}
use Rattle.papaya_steps.specs.Pieced.SoFar.{ActsSoFar}
use Rattle.papaya_steps.specs.WholeRuns.GoingOn.{ContinuesAt, ContinuesInTurn}

module _ {K V S : Type 0} (same : K → K → Bool) (by_hasher : S → K → ℕ) (its : Event K V) (old new : Scheduler K V S) where
  abbrev Due : Event K V → Played V → Type 0
  Due event played = ContinuesInTurn same by_hasher event played old new

  -- an event of this form goes on as that does
  form_so : (form : Event K V) → its ≡ form → (played : Played V) → Due form played → Due its played
  form_so form is played so = subst (λ (e : Event K V). Due e played) (sym is) so

  abbrev its_hash : K → ℕ
  its_hash = by_hasher old.logged.executor.hasher

  module _ {X : Type 0} where
    -- calls
    pub begin_acts : (own guard name : List ℕ) (call : Call K V) → its ≡ event.Begin own guard name call → (result : Result (Played V) X) → IfOk result (λ played. played.steps ≡ 0)
        → IfOk result (λ played. Began same its_hash own guard name call played old new) → PreservesSettings old.logged.executor new.logged.executor → IfOk result (λ played. Due its played)
    begin_acts own guard name call is (Ok played) steps began given =
        form_so (event.Begin own guard name call) is played (λ lawful few. begin_goes_on same by_hasher (any_course V same by_hasher lawful) played old new given own guard name call steps began)
    begin_acts own guard name call is (Err x) steps began given = tt

    pub step_acts : (own : List ℕ) (refuse : Bool) → its ≡ event.Step own refuse → (most : ℕ) (result : Result (Played V) X) → IfOk result (λ played. TookSteps same its_hash most own played old new)
        → PreservesSettings old.logged.executor new.logged.executor → IfOk result (λ played. Due its played)
    step_acts own refuse is most (Ok played) took given =
        form_so (event.Step own refuse) is played (λ lawful few. step_goes_on same by_hasher (any_course V same by_hasher lawful) own refuse played old new most took given)
    step_acts own refuse is most (Err x) took given = tt

    pub go_acts : (own : List ℕ) (refuse : Bool) → its ≡ event.Go own refuse → (most : ℕ) (result : Result (Played V) X) → IfOk result (λ played. TookSteps same its_hash most own played old new)
        → PreservesSettings old.logged.executor new.logged.executor → IfOk result (λ played. Due its played)
    go_acts own refuse is most (Ok played) took given =
        form_so (event.Go own refuse) is played (λ lawful few. go_goes_on same by_hasher (any_course V same by_hasher lawful) own refuse played old new most took given)
    go_acts own refuse is most (Err x) took given = tt

    pub whole_acts : (guard name : List ℕ) (call : Call K V) → its ≡ event.OneCall guard name call → (result : Result (Played V) X) → IfOk result (λ played. TookWhole same its_hash guard name call played old new)
        → PreservesSettings old.logged.executor new.logged.executor → IfOk result (λ played. Due its played)
    whole_acts guard name call is (Ok played) took given =
        form_so (event.OneCall guard name call) is played (λ lawful few. whole_goes_on same by_hasher (any_course V same by_hasher lawful) played old new given guard name call took)
    whole_acts guard name call is (Err x) took given = tt

    pub next_acts : (own : List ℕ) → its ≡ event.Next own → (result : Result (Played V) X) → IfOk result (λ played. TookNext same its_hash own played old new) → PreservesSettings old.logged.executor new.logged.executor
        → IfOk result (λ played. Due its played)
    next_acts own is (Ok played) took given = form_so (event.Next own) is played (λ lawful few. next_goes_on same by_hasher (any_course V same by_hasher lawful) own played old new took given)
    next_acts own is (Err x) took given = tt

    -- rows on slots
    pub row_acts : (form : Event K V) → its ≡ form → maps_of form ≡ 0 → (result : Result (Played V) X) → IfOk result (λ played. played.steps ≡ 0) → IfOk result (λ played. WorksOnSlot played old new form)
        → PreservesSettings old.logged.executor new.logged.executor → IfOk result (λ played. Due its played)
    row_acts form is none (Ok played) steps works given = form_so form is played (λ lawful few. row_goes_on same by_hasher (any_course V same by_hasher lawful) form none played old new steps works given)
    row_acts form is none (Err x) steps works given = tt

    -- choices
    pub choice_acts : (choice : ℕ) → its ≡ event.Choose choice → (result : Result (Played V) X) → IfOk result (λ played. played.steps ≡ 0) → IfOk result (λ played. WorksOnSetup played old new (event.Choose choice))
        → IfOk result (λ played. Due its played)
    choice_acts choice is (Ok played) steps works = form_so (event.Choose choice) is played (λ lawful few. choice_goes_on same by_hasher (any_course V same by_hasher lawful) choice played old new steps works)
    choice_acts choice is (Err x) steps works = tt

    -- makings and ends of maps
    pub make_acts : (own : List ℕ) (mode : ResizeMode) (capacity : ℕ) → its ≡ event.MakeMap own mode capacity → (result : Result (Played V) X) → IfOk result (λ played. played.steps ≡ 0)
        → IfOk result (λ played. WorksOnMap played old new own mode capacity)
        → IfOk result (λ played. length new.logged.executor.maps.items ≡ numbers_made played.outcome (length old.logged.executor.maps.items)) → IfOk result (λ played. Due its played)
    make_acts own mode capacity is (Ok played) steps works count =
        form_so (event.MakeMap own mode capacity) is played
        (λ lawful few. make_goes_on same by_hasher (any_course V same by_hasher lawful) own mode capacity played old new steps works (lawful old.logged.executor.hasher) few count)
    make_acts own mode capacity is (Err x) steps works count = tt

    pub end_acts : (own : List ℕ) → its ≡ event.EndMap own → (result : Result (Played V) X) → IfOk result (λ played. played.steps ≡ 0) → IfOk result (λ played. WorksOnEnd played old new own)
        → PreservesSettings old.logged.executor new.logged.executor → IfOk result (λ played. Due its played)
    end_acts own is (Ok played) steps works given = form_so (event.EndMap own) is played (λ lawful few. end_goes_on same by_hasher (any_course V same by_hasher lawful) own played old new steps works given)
    end_acts own is (Err x) steps works given = tt

    -- where all is reclaimed
    pub reclaim_acts : its ≡ event.ReclaimAll → MayHappenDue same its_hash its old → (result : Result (Played V) X) → IfOk result (λ played. played.steps ≡ 0) → IfOk result (λ played. WorksOnAll played old new)
        → PreservesSettings old.logged.executor new.logged.executor → IfOk result (λ played. Due its played)
    reclaim_acts is holds (Ok played) steps works given =
        form_so event.ReclaimAll is played (λ lawful few. reclaim_goes_on same by_hasher (any_course V same by_hasher lawful) played old new steps works holds.2.gives.slots given)
    reclaim_acts is holds (Err x) steps works given = tt

    pub close_acts : its ≡ event.Close → MayHappenDue same its_hash its old → (result : Result (Played V) X) → IfOk result (λ played. played.steps ≡ 0) → IfOk result (λ played. WorksOnAll played old new)
        → PreservesSettings old.logged.executor new.logged.executor → IfOk result (λ played. Due its played)
    close_acts is holds (Ok played) steps works given =
        form_so event.Close is played (λ lawful few. close_goes_on same by_hasher (any_course V same by_hasher lawful) played old new steps works holds.2.gives.slots given)
    close_acts is holds (Err x) steps works given = tt

  -- a reply, and a walk that is given up
  pub reply_acts : (own : List ℕ) (reply : Reply V) → its ≡ event.Replied own reply → (played : Played V) → played.steps ≡ 0
      → ((hash : K → ℕ) → PlaysAt same hash (event.Replied own reply) played old new) → ((hash : K → ℕ) → Replies same hash own reply played old new)
      → ((hash : K → ℕ) → StaysBusy same hash (event.Replied own reply) played old new) → PreservesSettings old.logged.executor new.logged.executor → Due its played
  reply_acts own reply is played steps plays told stays given =
      form_so (event.Replied own reply) is played
      (λ lawful few terms log stands in_turn next next2 at.
      (let hash : K → ℕ = by_hasher old.logged.executor.hasher in
      let due : IsInTurn same hash terms log (event.Replied own reply) old = record { played = stands; in_turn = in_turn } in
      reply_goes_on same by_hasher (any_course V same by_hasher lawful) own reply played old new steps (told hash) given terms log stands in_turn next next2
      (either {A = played.outcome ≡ Goes} {B = played.outcome ≡ Refused Busy} (fits_reply (call_of own (moment log)) reply)
      (in_turn_comes terms log (entry_of (event.Replied own reply) played) in_turn (plays hash terms log due).right))
      (stays hash terms log due) at))

  pub stop_acts : (own : List ℕ) → its ≡ event.Stop own → (played : Played V) → played.steps ≡ 0 → ((hash : K → ℕ) → PlaysAt same hash (event.Stop own) played old new)
      → ((hash : K → ℕ) → Stops same hash own played old new) → ((hash : K → ℕ) → StaysBusy same hash (event.Stop own) played old new) → PreservesSettings old.logged.executor new.logged.executor → Due its played
  stop_acts own is played steps plays stopped stays given =
      form_so (event.Stop own) is played
      (λ lawful few terms log stands in_turn next next2 at.
      (let hash : K → ℕ = by_hasher old.logged.executor.hasher in
      let due : IsInTurn same hash terms log (event.Stop own) old = record { played = stands; in_turn = in_turn } in
      stop_goes_on same by_hasher (any_course V same by_hasher lawful) own played old new steps (stopped hash) given terms log stands in_turn next next2
      (either {A = played.outcome ≡ Done} {B = played.outcome ≡ Refused Busy} (shows_now (call_of own (moment log)))
      (in_turn_comes terms log (entry_of (event.Stop own) played) in_turn (plays hash terms log due).right))
      (stays hash terms log due) at))

  -- an event that does nothing
  pub nothing_acts : (form : Event K V) → its ≡ form → (played : Played V) → played.steps ≡ 0 → played.effects.items ≡ [] → new.logged ≡ old.logged → new.calls ≡ old.calls → acts_on_none form ≡ true → Due its played
  nothing_acts form is played steps none logged calls kind = form_so form is played (λ lawful few. did_nothing form played old new same by_hasher steps none logged calls (λ m there. inr (inl kind)))

  -- so where it shows the shape of a map
  pub nothing_acts_if : {X : Type 0} (form : Event K V) → its ≡ form → (result : Result (Played V) X) → IfOk result (λ played. played.steps ≡ 0)
      → IfOk result (λ played. (new.calls ≡ old.calls) × DidNothing played old new) → acts_on_none form ≡ true → IfOk result (λ played. Due its played)
  nothing_acts_if form is (Ok played) steps works kind = nothing_acts form is played steps works.1.0 works.1.1 works.0 kind
  nothing_acts_if form is (Err x) steps works kind = tt

  -- one that is kept out is refused
  making_refuses : (o : Option Fault) (outcome : Outcome V) → MatchOption o (outcome ≡ Refused Busy) (λ fault. outcome ≡ Refused fault) → refuses outcome ≡ true
  making_refuses None outcome is = ap refuses is
  making_refuses (Some fault) outcome is = ap refuses is

  kept_refuses : (e : Event K V) (outcome : Outcome V) → IsKeptOut e outcome → refuses outcome ≡ true
  kept_refuses (event.MakeMap name mode capacity) outcome is = making_refuses (map_fault mode capacity) outcome is
  kept_refuses _ outcome is = ap refuses is

  -- An event that is in turn goes on so, if the log is not closed; and one that is kept out does nothing.
  pub in_turn_acts : {X : Type 0} (result : Result (Played V) X) → old.is_closed ≡ false → IfOk result (λ played. Due its played) → IfOk result (λ played. ContinuesAt same by_hasher its played old new)
  in_turn_acts (Ok played) is_open due = λ lawful few terms log stands next next2 at. due lawful few terms log stands (stands.closed ∙ is_open) next next2 at
  in_turn_acts (Err x) is_open due = tt

  pub out_acts : (played : Played V) (mapped : Bool) → IsKeptOut its played.outcome → played.steps ≡ 0 → played.effects.items ≡ [] → new ≡ record old { is_mapped = mapped } → ContinuesAt same by_hasher its played old new
  out_acts played mapped out steps none is = λ lawful few terms log stands next next2 at.
      (let logged : new.logged ≡ old.logged = ap (λ (p : Scheduler K V S). p.logged) is in
      let calls : new.calls ≡ old.calls = ap (λ (p : Scheduler K V S). p.calls) is in
      quiet_acts logged calls terms log next next2 at)
    where
      quiet_acts : new.logged ≡ old.logged → new.calls ≡ old.calls → (terms : Terms) (log : List (Entry K V)) → length old.logged.executor.maps.items ≡ (moment log).made
          → length new.logged.executor.maps.items ≡ (moment (entry_of its played ∷ log)).made → ActsSoFar same by_hasher terms log old.logged old.calls
          → ActsSoFar same by_hasher terms (entry_of its played ∷ log) new.logged new.calls
      quiet_acts logged calls terms log next next2 at =
          let count : length new.logged.executor.maps.items ≡ length old.logged.executor.maps.items = ap (λ l. length l.executor.maps.items) logged in
          subst (λ l. ActsSoFar same by_hasher terms (entry_of its played ∷ log) l new.calls) (sym logged)
          (subst (λ c. ActsSoFar same by_hasher terms (entry_of its played ∷ log) old.logged c) (sym calls)
          (quiet_goes_on same by_hasher terms log old.logged old.calls (entry_of its played) steps none (omega (arith, count, next, next2)) (inl (kept_refuses its played.outcome out)) at))
