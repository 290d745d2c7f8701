-- What is asked of a moment before a map is made or ends, and what is promised then.
use Rattle.std.specs.Prelude.{◌≡◌, ◌<◌, ◌≤◌, ◌+◌, ◌^◌, ℕ, Bool, true, List, length, filter, max}
use Rattle.std.specs.Int.{IsNextPowerOfTwo}
use Rattle.papaya_raw.specs.Given.TablesDeclared.resize_mode.ResizeMode.{ResizeMode}
use Rattle.papaya_raw.specs.Given.TablesDeclared.setting.Setting.{Setting}
use Rattle.run_shows.specs.Given.PointsSteps.{AreLawful}
use Rattle.run_schedules.specs.Runs.LifeCycle.{times}
use Rattle.run_schedules.specs.Runs.Same.{is_same}
use Rattle.run_schedules.specs.declared.event.Event.{Event}
use Rattle.run_schedules.specs.declared.outcome.Outcome.{Outcome}
use Rattle.run_schedules.specs.declared.outcome.Outcome.TheVariants.{Done}
use Rattle.run_schedules.specs.Schedules.After.{moment}
use Rattle.run_schedules.specs.Schedules.Beginning.{used_roots}
use Rattle.run_schedules.specs.Schedules.Entry.{Entry}
use Rattle.run_schedules.specs.Schedules.Lists.{is_among}
use Rattle.run_schedules.specs.Schedules.Moment.{Moment}
use Rattle.run_schedules.specs.Schedules.Terms.{Terms}
use Rattle.run_executor.specs.Given.MomentsNumbers.{NumbersMaps, PairsAreBelow}
use Rattle.run_logged.specs.Log.Roots.{AreTaken}
use Rattle.play_scheduler.specs.Played.{IsInTurn, Plays, entry_of}
use Rattle.play_scheduler.specs.declared.played.Played.{Played}
use Rattle.play_scheduler.specs.declared.scheduler.Scheduler.{Scheduler}

-- so many maps have a number, of so many before, once the making of one came to this
abbrev pub numbers_made : {V : Type 0} → Outcome V → ℕ → ℕ
numbers_made Done count = count + 1
numbers_made _ count = count

-- with this a map begins that is to have so many places at first
pub record IsGivenFor {K V S : Type 0} (mode : ResizeMode) (places : ℕ) (p : Scheduler K V S) (given : Setting) : Type 0 where
  pub batches : given.batch_size ≡ p.logged.executor.batch_size
  pub mode_is : given.mode ≡ mode
  pub mask : IsNextPowerOfTwo p.setup.processors (given.mask + 1)
  pub initial : given.initial ≡ max places 1

-- each map that is there has a number and a name of its own, and the numbers of all are below that of the next one
pub record AreApart {K V : Type 0} (m : Moment K V) : Type 0 where
  pub numbers : NumbersMaps m
  pub names : (own : List ℕ) → length (filter (λ f. is_same f.name own) m.maps) ≤ 1

-- So it is, and the executor has as many numbers and roots as the moment says: the roots that are taken are those of maps that are there, and of what maps left over, each once.
pub record CountsMaps {K V S : Type 0} (m : Moment K V) (p : Scheduler K V S) : Type 0 where
  pub apart : AreApart m
  pub pairs : PairsAreBelow m
  pub next : length p.logged.executor.maps.items ≡ m.made
  pub taken : AreTaken p.logged.executor.roots (λ r. is_among r (used_roots m)) p.logged.executor.memory.memory
  pub once : (r : ℕ) → times r (used_roots m) ≤ 1
  pub below : (r : ℕ) → is_among r (used_roots m) ≡ true → r < p.logged.executor.roots
  pub roots : p.logged.executor.roots ≡ p.setup.roots
  pub processors : p.setup.processors ≤ 2 ^ 63

module _ {K V S : Type 0} (same : K → K → Bool) (hash : K → ℕ) where
  -- the event may happen, where keys have lawful hashes, and roots and numbers are so
  pub record MayMap (terms : Terms) (log : List (Entry K V)) (event : Event K V) (p : Scheduler K V S) : Type 0 where
    pub due : IsInTurn same hash terms log event p
    pub lawful : AreLawful same hash
    pub counts : CountsMaps (moment log) p

  abbrev pub PlaysMaking : Event K V → Played V → (old new : Scheduler K V S) → Type 0
  PlaysMaking event played old new = (terms : Terms) (log : List (Entry K V)) → MayMap terms log event old → Plays same hash terms log (entry_of event played) new

  abbrev pub PlaysEnding : Event K V → Played V → (old new : Scheduler K V S) → Type 0
  PlaysEnding event played old new =
      (terms : Terms) (log : List (Entry K V)) → IsInTurn same hash terms log event old → AreApart (moment log) → Plays same hash terms log (entry_of event played) new
