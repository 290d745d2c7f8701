-- That a run is by acts: of which list of acts its log is the grouping.
use Rattle.std.specs.Prelude.{◌≡◌, ◌<◌, ◌^◌, ℕ, Bool, List, Some}
use Rattle.std.specs.List.{AllByRecursion}
use Rattle.many_acts.specs.Given.ScenesScene.{slot_of}
use Rattle.run_schedules.specs.Schedules.Entry.{Entry}
use Rattle.run_schedules.specs.Schedules.Terms.{Terms, shards_of}
use Rattle.many_acts.specs.Acts.Doings.{Doing}
use Rattle.many_acts.specs.Acts.Lists.{Course, LedTo, Reached}
use Rattle.play_lists.specs.Agrees.Places.{AsksMaps}
use Rattle.play_lists.specs.Agrees.Fresh.{MakesNew}
use Rattle.play_lists.specs.Played.Play.{State, first_state, play_all}
use Rattle.play_lists.specs.Grouped.Grouping.{IsGroupingOf, Names}

-- Keys have a hash by each hasher; a batch has such a size, and there are so many roots; and a closure that is told to abort as the n-th act aborts with that.
module _ {K V S : Type 0} (same : K → K → Bool) (by_hasher : S → K → ℕ) (batch_size roots : ℕ) (aborts : ℕ → V) where
  -- Played, the list has a history, of which the log is the grouping.
  pub record IsPlayedAs (doings : List (Doing K V S)) (log : List (Entry K V)) : Type 0 where
    pub after : State K V S
    pub plays : play_all same by_hasher batch_size roots aborts doings (first_state roots) ≡ Some after
    pub new : MakesNew same by_hasher batch_size roots aborts doings (first_state roots)
    pub names : Names
    pub grouping : IsGroupingOf log after.history names

-- A log is by acts: there is a list of them, each of its own, all maps with this hasher and as many shards as the terms say, that leads somewhere by every course; and whatever
-- value there is at all, the list is played, with what its closures abort with, to a history of which the log is the grouping.
pub record IsByActs {K V S : Type 0} (same : K → K → Bool) (by_hasher : S → K → ℕ) (hasher : S) (terms : Terms) (log : List (Entry K V)) : Type 0 where
  pub small : terms.batch_size < 2 ^ 64
  pub doings : List (Doing K V S)
  pub asks : AllByRecursion (AsksMaps V by_hasher (λ map. by_hasher hasher) (shards_of terms)) doings
  pub leads : (course : Course V same by_hasher terms.batch_size terms.roots slot_of)
      → (y : Reached V same by_hasher terms.batch_size terms.roots slot_of) × LedTo V same by_hasher terms.batch_size terms.roots slot_of course doings y
  pub played : V → (aborts : ℕ → V) × IsPlayedAs same by_hasher terms.batch_size terms.roots aborts doings log
