-- A reservation that is under way among the callers of a map: the rows of the collector within it, and where it is to claim places.
use Rattle.std.specs.Prelude.{◌≡◌, ℕ}
use Rattle.seize_model.specs.Given.SeizeWorld.{Row, Rests}
use Rattle.map_facts_late.specs.Given.ResizeDeclared.copier.Copying.TheVariants as copies
use Rattle.map_facts_late.specs.Given.ReservesReserve.{standing}
use Rattle.map_facts_late.specs.Given.ReservesDeclared.reserve.Reserve.{Reserve}
use Rattle.map_facts_late.specs.Given.ReservesDeclared.reserve.Reserving.{Reserving}
use Rattle.map_facts_late.specs.Given.ReservesDeclared.reserve.Reserving.TheVariants as at
use Rattle.many_calls.specs.Rows.{row_of_copier, past_copying}

-- a reservation that is under way, and the moment of the map at which it began
pub record CallForRoom : Type 0 where
  pub began : ℕ
  pub reserve : Reserve

-- the row that it stands at
abbrev pub row_of_room : Reserving → Row
row_of_room (at.Copies copier) = row_of_copier copier.stands
row_of_room _ = Rests

-- where it stands once that row is over
abbrev pub past_room : Reserving → Reserving
past_room (at.Copies copier) = at.Copies (past_copying copier copier.stands)
past_room stands = stands

abbrev pub room_once_over : Reserve → Reserve
room_once_over p = standing p (past_room p.stands)

-- its next step is to claim a chunk of places, to be copied into the table with this turn
abbrev pub RoomClaims : ℕ → Reserving → Type 0
RoomClaims t (at.Copies copier) = (copier.stands ≡ copies.Claims) × (copier.target.turn ≡ t)
RoomClaims t _ = ⊥
