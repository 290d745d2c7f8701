-- That each entry of the history of each list of acts moves on.
use Rattle.std.specs.Prelude.{◌≡◌, ◌<◌, ◌^◌, ℕ, Bool, List, Some}
use Rattle.std.specs.List.{AllByRecursion}
use Rattle.run_schedules.specs.Schedules.After.{AtEachEvent}
use Rattle.run_schedules.specs.Schedules.Terms.{Terms, shards_of}
use Rattle.run_legal.specs.Given.ScenesScene.{slot_of}
use Rattle.play_linear.specs.Given.ActsDoings.{Doing}
use Rattle.play_linear.specs.Given.ActsLists.{Course, LedTo, Reached}
use Rattle.play_linear.specs.Given.AgreesFresh.{MakesNew}
use Rattle.play_linear.specs.Given.AgreesPlaces.{AsksMaps}
use Rattle.run_schedules.specs.Deeds.History.{MovesOn}
use Rattle.play_linear.specs.Given.PlayedPlay.{State, first_state, play_all}

-- Keys have a hash by each hasher, and each map has one by its number.
module _ {K S : Type 0} (V : Type 0) (same : K → K → Bool) (by_hasher : S → K → ℕ) (hash : ℕ → K → ℕ) (batch_size roots : ℕ) (terms : Terms) where
  -- The promise: wherever a list of acts has led whose makings ask for so many shards as the terms say, for the places that a capacity
  -- without a fault asks for, and for a new number, each entry of the history that it comes to as it is played
  -- moves on, whatever the values are with which closures abort.
  abbrev pub ListsMoveOn : Type 0
  ListsMoveOn =
      batch_size < 2 ^ 64 → (aborts : ℕ → V) (course : Course V same by_hasher batch_size roots slot_of) (doings : List (Doing K V S)) (y : Reached V same by_hasher batch_size roots slot_of)
      → LedTo V same by_hasher batch_size roots slot_of course doings y → AllByRecursion (AsksMaps V by_hasher hash (shards_of terms)) doings
      → MakesNew same by_hasher batch_size roots aborts doings (first_state roots)
      → (after : State K V S) × (play_all same by_hasher batch_size roots aborts doings (first_state roots) ≡ Some after) × AtEachEvent (MovesOn terms) after.history
