-- What is asked where everything is reclaimed, and what is promised then.
use Rattle.std.specs.Prelude.{◌≡◌, ◌<◌, ℕ, ◌==◌, ◌&&◌, Bool, List, length, None, IsSome}
use Rattle.seize.specs.declared.states.TheConstants.{HEAD}
use Rattle.seize_words.specs.OneMemory.Mem.{Mem, word_at}
use Rattle.seize_words.specs.declared.at.At.TheVariants.{Slot}
use Rattle.run_schedules.specs.Runs.Present.{Present, all_forgotten}
use Rattle.run_schedules.specs.declared.event.Event.{Event}
use Rattle.run_schedules.specs.Schedules.Entry.{Entry}
use Rattle.run_schedules.specs.Schedules.Terms.{Terms}
use Rattle.run_logged.specs.Given.EffectsKnown.{Known, known}
use Rattle.run_shows.specs.Reclaims.Reclaims.{LeftBehind}
use Rattle.play_scheduler.specs.Played.{IsInTurn, Plays, entry_of}
use Rattle.run_executor.specs.declared.caller.NamedCaller.{NamedCaller}
use Rattle.play_scheduler.specs.declared.played.Played.{Played}
use Rattle.play_scheduler.specs.declared.scheduler.Scheduler.{Scheduler}
use Rattle.run_shows.specs.Scenes.Scene.{Scene}

-- nobody is there but guards that were forgotten, and no call is under way
abbrev pub are_gone : {V : Type 0} → Present → List (NamedCaller V) → Bool
are_gone there calls = (length there.registrations == 0) && all_forgotten there.guards && (length calls == 0)

-- words of slots are noted just where there are some
pub record NotesSlots {T : Type 0} (noted : Known) (m : Mem T) : Type 0 where
  pub some : 0 < noted.buckets → IsSome (word_at m (Slot 0 HEAD))
  pub none : noted.buckets ≡ 0 → word_at m (Slot 0 HEAD) ≡ None

-- what maps have left over that have ended is behind roots, and slots are noted
pub record MayGiveAll {K V S : Type 0} (p : Scheduler K V S) (s : Scene K V) : Type 0 where
  pub lists : ℕ → List ℕ
  pub left : LeftBehind p.logged.executor.roots s.world s.maps lists
  pub slots : NotesSlots (known p.logged.notes) p.logged.executor.memory.memory

module _ {K V S : Type 0} (same : K → K → Bool) (hash : K → ℕ) where
  abbrev pub MayReclaimAll : Event K V → Scheduler K V S → Type 0
  MayReclaimAll event p = (terms : Terms) × (log : List (Entry K V)) × (due : IsInTurn same hash terms log event p) × MayGiveAll p due.played.scene

  abbrev pub PlaysGiving : Event K V → Played V → (old new : Scheduler K V S) → Type 0
  PlaysGiving event played old new =
      (terms : Terms) (log : List (Entry K V)) (due : IsInTurn same hash terms log event old) → MayGiveAll old due.played.scene → Plays same hash terms log (entry_of event played) new
