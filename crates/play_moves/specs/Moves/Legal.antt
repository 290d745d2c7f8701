-- That the history of each list of acts keeps all that is promised of histories.
use Rattle.std.specs.Prelude.{◌≡◌, ◌<◌, ◌^◌, ℕ, Bool, List, Some}
use Rattle.std.specs.List.{AllByRecursion}
use Rattle.run_schedules.specs.Schedules.After.{AtEachEvent}
use Rattle.run_schedules.specs.Schedules.Terms.{Terms, shards_of}
use Rattle.run_legal.specs.Given.ScenesScene.{slot_of}
use Rattle.play_linear.specs.Given.ActsDoings.{Doing}
use Rattle.play_linear.specs.Given.ActsLists.{Course, LedTo, Reached}
use Rattle.play_linear.specs.Given.AgreesFresh.{MakesNew}
use Rattle.play_linear.specs.Given.AgreesPlaces.{AsksMaps}
use Rattle.run_schedules.specs.Deeds.Deeds.{Entry}
use Rattle.run_schedules.specs.Deeds.History.{IsLinearizable, IsProtected, IsSwept, MovesOn}
use Rattle.play_linear.specs.Given.PlayedPlay.{State, first_state, play_all}
use Rattle.play_moves.specs.EachMoves.Own.{IsOfItsCall}

-- An entry is linearizable, reclaims nothing that an open section may still look at, is swept, moves on, and is of its call.
pub record KeepsAll {K V : Type 0} (same : K → K → Bool) (terms : Terms) (log : List (Entry K V)) (e : Entry K V) : Type 0 where
  pub linearizable : IsLinearizable same log e
  pub protected : IsProtected log e
  pub swept : IsSwept same terms log e
  pub moves : MovesOn terms log e
  pub own : IsOfItsCall log e

-- Keys have a hash by each hasher, and each map has one by its number.
module _ {K S : Type 0} (V : Type 0) (same : K → K → Bool) (by_hasher : S → K → ℕ) (hash : ℕ → K → ℕ) (batch_size roots : ℕ) (terms : Terms) where
  -- The promise: wherever a list of acts has led whose makings ask for maps as the terms and a capacity say, each with a new number, each entry of the history that it
  -- comes to as it is played keeps all of it, whatever the values are with which closures abort.
  abbrev pub ListsKeepAll : Type 0
  ListsKeepAll =
      batch_size < 2 ^ 64 → (aborts : ℕ → V) (course : Course V same by_hasher batch_size roots slot_of) (doings : List (Doing K V S)) (y : Reached V same by_hasher batch_size roots slot_of)
      → LedTo V same by_hasher batch_size roots slot_of course doings y → AllByRecursion (AsksMaps V by_hasher hash (shards_of terms)) doings
      → MakesNew same by_hasher batch_size roots aborts doings (first_state roots)
      → (after : State K V S) × (play_all same by_hasher batch_size roots aborts doings (first_state roots) ≡ Some after) × AtEachEvent (KeepsAll same terms) after.history
