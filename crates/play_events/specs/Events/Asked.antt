-- What is asked of an event, and what is promised of it then.
use Rattle.std.specs.Prelude.{◌≡◌, ◌==◌, ℕ, Bool, true, false, List, ◌∷◌}
use Rattle.play_stepping.specs.Given.PointsSteps.{AreLawful}
use Rattle.run_schedules.specs.declared.event.Event.{Event}
use Rattle.run_schedules.specs.declared.event.Event.TheVariants.{ReclaimAll, Close, MakeMap, EndMap, ShowShape, Begin, Step, Go, Replied, OneCall, Next, Stop}
use Rattle.run_schedules.specs.declared.outcome.Outcome.{Outcome}
use Rattle.run_schedules.specs.Schedules.After.{moment}
use Rattle.run_schedules.specs.Schedules.Beginning.{at_work}
use Rattle.run_schedules.specs.Schedules.Entry.{Entry, acting, caller_of}
use Rattle.run_schedules.specs.Schedules.Moment.{Moment}
use Rattle.run_schedules.specs.Schedules.Steps.{DoesFew, MakesSteps, state_or}
use Rattle.run_schedules.specs.Schedules.Terms.{Terms}
use Rattle.run_schedules.specs.Schedules.Waiting.{WaitsLawfully}
use Rattle.play_stepping.specs.Given.SchedulerMapping.{CountsMaps, numbers_made}
use Rattle.play_stepping.specs.Given.SchedulerPlayed.{Plays, RefinesFor, entry_of, IsPlayed}
use Rattle.play_stepping.specs.Given.SchedulerQuiet.{BusyIsSilent}
use Rattle.play_stepping.specs.Given.SchedulerReclaiming.{MayGiveAll}
use Rattle.play_stepping.specs.Given.SchedulerDeclared.played.Played.{Played}
use Rattle.play_stepping.specs.Given.SchedulerDeclared.scheduler.Scheduler.{Scheduler}
use Rattle.play_stepping.specs.EventSteps.Stepping.{OutcomeIsInCase}

module _ {K V : Type 0} where
  -- A call that goes on is refused for the length of a table in its case alone.
  abbrev pub FindsBy : Terms → List (Entry K V) → Entry K V → Event K V → Type 0
  FindsBy terms log e (Step caller refuse) = OutcomeIsInCase terms log e
  FindsBy terms log e (Go caller refuse) = OutcomeIsInCase terms log e
  FindsBy terms log e (OneCall guard name call) = OutcomeIsInCase terms log e
  FindsBy terms log e _ = Unit {0}

  -- so it is of the event of an entry
  abbrev pub FindsRight : Terms → List (Entry K V) → Entry K V → Type 0
  FindsRight terms log e = FindsBy terms log e e.event

  -- an event of a call: it begins, goes on, is told something, or is given up
  abbrev pub is_of_calls : Event K V → Bool
  is_of_calls (Begin caller guard name call) = true
  is_of_calls (Step caller refuse) = true
  is_of_calls (Go caller refuse) = true
  is_of_calls (Replied caller reply) = true
  is_of_calls (OneCall guard name call) = true
  is_of_calls (Next caller) = true
  is_of_calls (Stop caller) = true
  is_of_calls _ = false

  -- one of maps, or of all at once
  abbrev pub is_of_maps : Event K V → Bool
  is_of_maps (MakeMap name mode capacity) = true
  is_of_maps (EndMap name) = true
  is_of_maps (ShowShape name) = true
  is_of_maps ReclaimAll = true
  is_of_maps Close = true
  is_of_maps _ = false

  -- one by which a call takes steps
  abbrev pub takes_steps : Event K V → Bool
  takes_steps (Step caller refuse) = true
  takes_steps (Go caller refuse) = true
  takes_steps (OneCall guard name call) = true
  takes_steps (Next caller) = true
  takes_steps _ = false

  -- so many maps have a number after an event, of so many before: one that is made has the next one
  abbrev pub numbers_on : Event K V → Outcome V → ℕ → ℕ
  numbers_on (MakeMap name mode capacity) outcome count = numbers_made outcome count
  numbers_on _ outcome count = count

module _ {K V S : Type 0} (same : K → K → Bool) (hash : K → ℕ) where
  -- The scheduler stands for the moment, and what events ask of it is so: keys have lawful hashes; numbers, roots and names of maps are those that the moment says; and what ended maps
  -- left over is behind their roots.
  pub record Holds (terms : Terms) (m : Moment K V) (p : Scheduler K V S) : Type 0 where
    pub stands : RefinesFor same hash terms m p
    pub lawful : AreLawful same hash
    pub counts : CountsMaps m p
    pub gives : MayGiveAll p stands.scene

  -- What is promised of an event: the scheduler has played the log with it; it comes to what is right, where it finds what it must; it makes as many steps as it may, and does not more; it waits
  -- where it may; and where it is refused as busy, it did nothing.
  pub record Happens (terms : Terms) (log : List (Entry K V)) (e : Entry K V) (p : Scheduler K V S) : Type 0 where
    pub played : IsPlayed same hash terms (e ∷ log) p
    pub plays : FindsRight terms log e → Plays same hash terms log e p
    pub makes : MakesSteps e.event (state_or (acting (caller_of e.event) (at_work e (moment log)))) e.steps e.outcome
    pub does : DoesFew (caller_of e.event) e.steps e.effects
    pub waits : WaitsLawfully same log e
    pub is_quiet : BusyIsSilent e.outcome e.effects

  -- an event may happen, kept out or not,
  abbrev pub MayHappen : Scheduler K V S → Type 0
  MayHappen p = (terms : Terms) × (log : List (Entry K V)) × Holds terms (moment log) p

  -- and one that is in turn
  abbrev pub MayHappenDue : Event K V → Scheduler K V S → Type 0
  MayHappenDue event p = (terms : Terms) × (log : List (Entry K V)) × Holds terms (moment log) p × ((moment log).is_closed ≡ false)

  abbrev pub HappensAt : Bool → Event K V → Played V → (old new : Scheduler K V S) → Type 0
  HappensAt is_first event played old new =
      (terms : Terms) (log : List (Entry K V)) → is_first ≡ ((moment log).events == 0) → Holds terms (moment log) old → Happens terms log (entry_of event played) new

  abbrev pub HappensDue : Bool → Event K V → Played V → (old new : Scheduler K V S) → Type 0
  HappensDue is_first event played old new =
      (terms : Terms) (log : List (Entry K V)) → is_first ≡ ((moment log).events == 0) → Holds terms (moment log) old → (moment log).is_closed ≡ false
      → Happens terms log (entry_of event played) new

  -- and after it the scheduler is as the next one asks
  abbrev pub HoldsThen : Bool → Event K V → Played V → (old new : Scheduler K V S) → Type 0
  HoldsThen is_first event played old new =
      (terms : Terms) (log : List (Entry K V)) → is_first ≡ ((moment log).events == 0) → Holds terms (moment log) old → Holds terms (moment (entry_of event played ∷ log)) new
