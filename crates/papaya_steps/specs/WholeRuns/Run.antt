-- What so many events of a schedule have come to, and what is promised of the run of a schedule.
use Rattle.std.specs.Prelude.{◌≡◌, ◌^◌, ◌||◌, ℕ, min, Bool, List, [], length, filter, map, IsSorted}
use Rattle.std.specs.List.{AllByRecursion}
use Rattle.std.specs.Ordering.{nat_cmp}
use Rattle.run_schedules.specs.Runs.Pairs.{numbers}
use Rattle.run_schedules.specs.Runs.Runs.{IsStored}
use Rattle.seize_words.specs.OneMemory.Mem.{values_in}
use Rattle.run_schedules.specs.declared.event.Event.{Event}
use Rattle.run_schedules.specs.declared.record.Run.{Run}
use Rattle.run_schedules.specs.Schedules.After.{AtEachEvent, moment}
use Rattle.run_schedules.specs.Schedules.Beginning.{at_work}
use Rattle.run_schedules.specs.Schedules.Entry.{Entry, acting, caller_of}
use Rattle.run_schedules.specs.Schedules.InTurn.{HasRightOutcome}
use Rattle.run_schedules.specs.Schedules.Moment.{Moment}
use Rattle.run_schedules.specs.Schedules.Runs.{IsLegalLog, Lists, ListsMaps, log_of, log_on, trace_of}
use Rattle.run_schedules.specs.Schedules.Steps.{DoesFew, MakesSteps, state_or}
use Rattle.run_schedules.specs.Schedules.Terms.{Terms}
use Rattle.run_schedules.specs.Schedules.Views.{is_in_a_map, is_retired, is_waiting}
use Rattle.run_schedules.specs.declared.setup.Setup.{Setup}
use Rattle.play_events.specs.Given.SchedulerQuiet.{BusyIsSilent}
use Rattle.play_events.specs.Given.SchedulerDeclared.scheduler.Scheduler.{Scheduler}
use Rattle.play_events.specs.Events.Asked.{Holds}
use Rattle.papaya_steps.specs.WholeRuns.Back.{BackSoFar, ReportsBack}
use Rattle.play_events.specs.Events.OfCalls.{Runs}
use Rattle.play_events.specs.Given.PointsSteps.{AreLawful}
use Rattle.papaya_steps.specs.Pieced.SoFar.{ActsSoFar}
use Rattle.play_events.specs.Folded.Folded.{HandsAllOver, HandsInOrder}
use Rattle.run_effects.specs.Tallies.Tally.{RecordsMoment}
use Rattle.papaya_steps.specs.declared.record.Record.{Record}
use Rattle.papaya_steps.specs.declared.running.Running.{Running}
use Rattle.run_effects.specs.declared.tally.Tally.{Tally}

-- more processors than these count as so many
abbrev pub bounded : Setup → Setup
bounded setup = record setup { processors = min setup.processors (2 ^ 63) }

module _ {K V : Type 0} where
  -- the log of these events, by what they came to
  abbrev pub log_so : List (Event K V) → Record V → List (Entry K V)
  log_so events rec = log_on [] events rec.outcomes.items rec.steps.items (map (λ v. v.items) rec.effects.items)

  -- An event comes to what is right; it makes as many steps as it may, and does not more; and where it is refused as busy, it did nothing.
  pub record GoesRight (terms : Terms) (log : List (Entry K V)) (e : Entry K V) : Type 0 where
    pub right : HasRightOutcome terms log e
    pub makes : MakesSteps e.event (state_or (acting (caller_of e.event) (at_work e (moment log)))) e.steps e.outcome
    pub does : DoesFew (caller_of e.event) e.steps e.effects
    pub is_quiet : BusyIsSilent e.outcome e.effects

  -- An event hands over first what its call owes first; and a call that has ended with it, or is ready, has handed over just what it took out, in that order.
  pub record HandsOn (log : List (Entry K V)) (e : Entry K V) : Type 0 where
    pub order : HandsInOrder log e
    pub whole : HandsAllOver log e

  -- What a run tells at its end of maps, and of what is not reclaimed, is what its events say, also while calls are under way; pairs that are left are as they were stored.
  pub record ReportsMost (m : Moment K V) (run : Run K V) : Type 0 where
    pub stored : run.stored ≡ length m.stored
    pub maps : ListsMaps run.maps.items m.maps m
    pub waiting : Lists run.waiting.items is_waiting m
    pub ascending : IsSorted nat_cmp run.waiting.items
    pub tables : run.tables ≡ length (filter (λ u. is_retired u.stage) m.tables)
    pub kept : Lists (numbers run.kept) (λ place. is_in_a_map place || is_waiting place) m
    pub as_stored : AllByRecursion (IsStored m.stored) run.kept

  -- The run is one of this schedule, as far as that.
  pub record IsRightRun (terms : Terms) (schedule : List (Event K V)) (run : Run K V) : Type 0 where
    pub outcomes : length run.outcomes.items ≡ length schedule
    pub steps : length run.steps.items ≡ length schedule
    pub effects : length run.effects.items ≡ length schedule
    pub trace : run.trace.items ≡ trace_of (log_of schedule run)
    pub goes : AtEachEvent (GoesRight terms) (log_of schedule run)
    pub tells : ReportsMost (moment (log_of schedule run)) run
    pub back : ReportsBack (moment (log_of schedule run)) run

module _ {K V S : Type 0} (same : K → K → Bool) (hash : K → ℕ) where
  -- These events have happened so far: the scheduler stands for the moment after them, and what events ask of it is so; the tally tells where pairs and tables are then; each kept its promises, and the run is as the next one needs.
  pub record SoFar (terms : Terms) (events : List (Event K V)) (rec : Record V) (tally : Tally) (p : Scheduler K V S) : Type 0 where
    pub outcomes : length rec.outcomes.items ≡ length events
    pub steps : length rec.steps.items ≡ length events
    pub effects : length rec.effects.items ≡ length events
    pub trace : rec.trace.items ≡ trace_of (log_so events rec)
    pub goes : AtEachEvent (GoesRight terms) (log_so events rec)
    pub holds : Holds same hash terms (moment (log_so events rec)) p
    pub told : RecordsMoment tally (moment (log_so events rec))
    pub legal : IsLegalLog same terms (log_so events rec)
    pub hands : AtEachEvent HandsInOrder (log_so events rec)
    pub runs : Runs same hash terms (log_so events rec) p

module _ {K V S : Type 0} (same : K → K → Bool) (hashes : S → K → ℕ) where
  -- By these events a run has come so far, what they reclaimed has come back, and a list of acts has led there, of which the log is the grouping; each hasher gives keys lawful hashes.
  pub record HasCome (terms : Terms) (events : List (Event K V)) (r : Running K V S) : Type 0 where
    pub so_far : SoFar same (hashes r.scheduler.logged.executor.hasher) terms events r.written r.tally r.scheduler
    pub back : BackSoFar (log_so events r.written) r.back.items
    pub lawful : (hasher : S) → AreLawful same (hashes hasher)
    pub acts : ActsSoFar same hashes terms (log_so events r.written) r.scheduler.logged r.scheduler.calls

  -- A run tells how many blocks are there at its end: those that hold a value in the memory of one that has come by these events, with just these outcomes, steps and effects.
  pub record HoldsBlocks (terms : Terms) (events : List (Event K V)) (run : Run K V) : Type 0 where
    pub last : Running K V S
    pub come : HasCome terms events last
    pub same_log : log_of events run ≡ log_so events last.written
    pub live : run.live ≡ length (values_in last.scheduler.logged.executor.memory.memory.blocks)
