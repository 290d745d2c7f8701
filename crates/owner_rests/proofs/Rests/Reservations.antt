-- What a reservation has come to.
use Rattle.std.specs.Prelude.{◌≡◌, ℕ, Bool, List, length, Result, Ok, Err, IfErr, OnOk}
use Rattle.seize_words.specs.OneMemory.Mem.{Mem}
use Rattle.seize_words.specs.declared.fault.Fault.{Fault}
use Rattle.seize_words.specs.declared.fault.Fault.TheVariants.{Capacity}
use Rattle.map_tables.specs.declared.node.Node.{Node}
use Rattle.map_tables.specs.declared.setting.Setting.{Setting}
use Rattle.owner_calls.specs.Given.LateFaults.{IsRoom}
use Rattle.owner_calls.specs.Owned.Owned.{Holds}
use Rattle.owner_calls.specs.Owned.Rooms.{CannotMakeRoom, HasRoomFor, RoomBy}

module _ {K V : Type 0} (same : K → K → Bool) (hash : K → ℕ) (setting : Setting) (additional : ℕ) (m : Mem (Node K V)) (xs : List (K × V)) where
  pub room_holds : (r : Result (Unit {0}) Fault) → RoomBy same hash setting additional m xs r → Holds same hash setting m xs
  room_holds (Ok done) so = so.0
  room_holds (Err fault) so = so.0

  pub room_there : (r : Result (Unit {0}) Fault) → RoomBy same hash setting additional m xs r → OnOk r (HasRoomFor setting m additional (length xs))
  room_there (Ok done) so = so.1
  room_there (Err fault) so = tt

  pub room_fault : (r : Result (Unit {0}) Fault) → RoomBy same hash setting additional m xs r → IfErr r IsRoom
  room_fault (Ok done) so = tt
  room_fault (Err fault) so = so.1

  -- for the length of a table only where none can follow the last one, or too many places are needed
  pub room_capacity : (r : Result (Unit {0}) Fault) → RoomBy same hash setting additional m xs r → IfErr r (λ (fault : Fault). fault ≡ Capacity → CannotMakeRoom setting m additional (length xs))
  room_capacity (Ok done) so = tt
  room_capacity (Err fault) so = so.2
