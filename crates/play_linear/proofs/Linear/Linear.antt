-- The history of each list of acts is linearizable.
use Rattle.std.specs.Prelude.{◌≡◌, ◌<◌, ◌^◌, Bool, Some}
use Rattle.std.specs.List.{AllByRecursion}
use Rattle.std.proofs.Common.{ℕ, List, [], ◌∷◌, refl}
use Rattle.play_lists.specs.Given.ActsDoings.{Doing, Does, BeginsReclaiming, BeginsClearing, StepsReclaiming, Chooses}
use Rattle.play_lists.specs.Given.ActsLists.{Course, LedTo, Reached, nothing_done}
use Rattle.play_lists.specs.Given.ScenesScene.{slot_of}
use Rattle.play_lists.specs.Agrees.Fresh.{HasNewNumber, MakesNew}
use Rattle.play_lists.proofs.Agrees.Coming.{new_fits}
use Rattle.play_lists.proofs.Agrees.GivenBack.{again_first}
use Rattle.play_lists.specs.Played.Play.{State, first_state, play_all}
use Rattle.play_lists.proofs.Played.Along.{AreOfTheirOwn, At, StaysSo, wherever}
use Rattle.play_linear.specs.Linear.Linear.{IsOfOwn, ListsAreLinearizable}
use Rattle.play_linear.proofs.Linear.Stays.{Of, all_stay, first_holds}

module _ {K S : Type 0} (V : Type 0) (same : K → K → Bool) (by_hasher : S → K → ℕ) (hash : ℕ → K → ℕ) (batch_size roots : ℕ) where
  own_so : (doings : List (Doing K V S)) → AllByRecursion (IsOfOwn V same by_hasher hash batch_size roots) doings → AreOfTheirOwn V same by_hasher hash batch_size roots doings
  own_so [] own = tt
  own_so (Does act ∷ doings) own = (own.0, own_so doings own.1)
  own_so (BeginsReclaiming i ∷ doings) own = (tt, own_so doings own.1)
  own_so (BeginsClearing i ∷ doings) own = (tt, own_so doings own.1)
  own_so (StepsReclaiming g ∷ doings) own = (tt, own_so doings own.1)
  own_so (Chooses choice ∷ doings) own = (tt, own_so doings own.1)

  -- What stays so where each map gets a new number is so wherever a list of acts has led that are of their own, and make each map with one.
  pub wherever_led : batch_size < 2 ^ 64 → (aborts : ℕ → V) (P : At V same by_hasher hash batch_size roots → State K V S → Type 0) → StaysSo V same by_hasher hash batch_size roots aborts HasNewNumber P
      → (course : Course V same by_hasher batch_size roots slot_of) (doings : List (Doing K V S)) (y : Reached V same by_hasher batch_size roots slot_of)
      → LedTo V same by_hasher batch_size roots slot_of course doings y → AllByRecursion (IsOfOwn V same by_hasher hash batch_size roots) doings
      → MakesNew same by_hasher batch_size roots aborts doings (first_state roots) → P (nothing_done V same by_hasher batch_size roots slot_of course).0 (first_state roots)
      → (after : State K V S) × (play_all same by_hasher batch_size roots aborts doings (first_state roots) ≡ Some after) × P y.0 after
  wherever_led small aborts P so course doings y led own new first =
      wherever V same by_hasher hash batch_size roots small aborts HasNewNumber P so course doings y led (own_so doings own) first
      (new_fits V same by_hasher hash batch_size roots aborts doings (first_state roots) new)

  pub lists_are_linearizable : ListsAreLinearizable V same by_hasher hash batch_size roots
  lists_are_linearizable small aborts course doings y led own new =
      let to = wherever_led small aborts (Of V same by_hasher hash batch_size roots aborts) (all_stay V same by_hasher hash batch_size roots aborts) course doings y led own new
      (first_holds V same by_hasher hash batch_size roots aborts (nothing_done V same by_hasher batch_size roots slot_of course).0 refl (again_first roots)) in
      (to.0, to.1, to.2.holds.each)
