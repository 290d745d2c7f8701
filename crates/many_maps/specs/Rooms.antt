-- Reservations on maps, among calls, makings and ends of maps: under every interleaving the invariant of all holds.
use Rattle.std.specs.Prelude.{◌≡◌, ℕ, Bool, false, Option, Some, None}
use Rattle.many_calls.specs.Given.SeizeWordsMem.{Mem, Can, Took, value_at}
use Rattle.many_calls.specs.Given.SeizeWordsPlan.{May, Steps}
use Rattle.many_calls.specs.Given.SeizeWorld.{World, Rests, IsInside, with_at}
use Rattle.many_calls.specs.Given.TablesChunks.{is_incremental}
use Rattle.many_calls.specs.Given.TablesDeclared.node.Node.{Node}
use Rattle.many_calls.specs.Given.ResizeDeclared.yielding.Yielding.{Yielding}
use Rattle.many_calls.specs.Given.ReservesReserve.{reserving, reserve_plan}
use Rattle.many_calls.specs.Given.ReservesDeclared.reserve.Reserve.{Reserve}
use Rattle.many_calls.specs.Given.LateToldReserves.{IsRowOfReserve}
use Rattle.many_maps.specs.Makings.{Beginning}
use Rattle.many_maps.specs.Maps.{Standing, with_call}
use Rattle.many_calls.specs.Rooms.{CallForRoom}
use Rattle.many_calls.specs.Together.{UnderWay, ForRoom, FewWith, in_slot, next_for_room, RoomStepsTogether, RoomRowsTogether}
use Rattle.many_maps.specs.Endings.{Finishing, EndingsTogether, AllEndingsStand}

module _ {K Q : Type 0} (V : Type 0) (same : K → K → Bool) (asks : Q → K → Bool) (batch_size roots : ℕ) (slot : ℕ → ℕ) where
  -- A caller that has no call on any map, makes none and ends none, and has no row under way, begins a reservation on one, within its section.
  abbrev pub RoomsBeginWithEndings : Type 0
  RoomsBeginWithEndings =
      (w : World (Node K V)) (maps : ℕ → Option (Standing K)) (calls : ℕ → ℕ → Option (UnderWay K V Q)) (makers : ℕ → Option (Beginning K)) (enders : ℕ → Option (Finishing K V))
      → EndingsTogether V same asks batch_size roots slot w maps calls makers enders
      → (i : ℕ) → makers i ≡ None → enders i ≡ None → ((n : ℕ) → calls n i ≡ None) → w.row i ≡ Rests → IsInside (w.uses (slot i))
      → (m : ℕ) (s : Standing K) → maps m ≡ Some s → (additional : ℕ)
      → (is_incremental s.setting.mode ≡ false → FewWith (calls m) i (ForRoom (record { began = s.chart.now; reserve = reserving (in_slot s.setting (slot i)) additional })))
      → EndingsTogether V same asks batch_size roots slot w maps
      (with_call calls m i (Some (ForRoom (record { began = s.chart.now; reserve = reserving (in_slot s.setting (slot i)) additional })))) makers enders

  module _ (w : World (Node K V)) (maps : ℕ → Option (Standing K)) (calls : ℕ → ℕ → Option (UnderWay K V Q)) (makers : ℕ → Option (Beginning K)) (enders : ℕ → Option (Finishing K V))
      (m : ℕ) (s : Standing K) (i : ℕ) (r : CallForRoom) (m2 : Mem (Node K V)) (p2 : Reserve) (end : Yielding (Node K V) Unit) where
    -- where a step of a reservation leads that is none of a row: in its own map as if this were the only one
    pub record RoomStepsWithEndings : Type 0 where
      pub no_row : IsRowOfReserve r.reserve.stands → ⊥
      pub step : RoomStepsTogether V same s.hash asks s.setting slot w s.chart s.blocks s.sights (calls m) i r m2 p2 end
      pub together : EndingsTogether V same asks batch_size roots slot step.went.w2 (with_at maps m (Some (record s { chart = step.went.c2; blocks = step.blocks2; sights = step.sights2 })))
          (with_call calls m i (next_for_room (record { began = r.began; reserve = p2 }) end)) makers enders

    -- where a step of a row within a reservation leads
    pub record RoomRowsWithEndings : Type 0 where
      pub is_row : IsRowOfReserve r.reserve.stands
      pub step : RoomRowsTogether V same s.hash asks s.setting slot w s.chart s.blocks s.sights (calls m) i r m2 p2 end
      pub together : AllEndingsStand V same asks batch_size roots slot step.w2 maps (with_call calls m i (next_for_room (record { began = r.began; reserve = p2 }) end)) makers enders

  -- The promise: whichever caller takes a step of its reservation that is none of a row, it may take it, and the invariant of all holds again.
  abbrev pub RoomsPreserveWithEndings : Type 0
  RoomsPreserveWithEndings =
      (w : World (Node K V)) (maps : ℕ → Option (Standing K)) (calls : ℕ → ℕ → Option (UnderWay K V Q)) (makers : ℕ → Option (Beginning K)) (enders : ℕ → Option (Finishing K V))
      → EndingsTogether V same asks batch_size roots slot w maps calls makers enders
      → (m : ℕ) (s : Standing K) → maps m ≡ Some s → (i : ℕ) (r : CallForRoom) → calls m i ≡ Some (ForRoom r) → (IsRowOfReserve r.reserve.stands → ⊥)
      → May Can Took value_at w.memory (reserve_plan s.hash r.reserve)
      × ((m2 : Mem (Node K V)) (p2 : Reserve) (end : Yielding (Node K V) Unit) → Steps Took value_at w.memory (reserve_plan s.hash r.reserve) m2 (p2, end)
      → RoomStepsWithEndings w maps calls makers enders m s i r m2 p2 end)

  -- The promise of the steps of rows within reservations.
  abbrev pub RoomRowsPreserveWithEndings : Type 0
  RoomRowsPreserveWithEndings =
      (w : World (Node K V)) (maps : ℕ → Option (Standing K)) (calls : ℕ → ℕ → Option (UnderWay K V Q)) (makers : ℕ → Option (Beginning K)) (enders : ℕ → Option (Finishing K V))
      → EndingsTogether V same asks batch_size roots slot w maps calls makers enders
      → (m : ℕ) (s : Standing K) → maps m ≡ Some s → (i : ℕ) (r : CallForRoom) → calls m i ≡ Some (ForRoom r) → IsRowOfReserve r.reserve.stands
      → May Can Took value_at w.memory (reserve_plan s.hash r.reserve)
      × ((m2 : Mem (Node K V)) (p2 : Reserve) (end : Yielding (Node K V) Unit) → Steps Took value_at w.memory (reserve_plan s.hash r.reserve) m2 (p2, end)
      → RoomRowsWithEndings w maps calls makers enders m s i r m2 p2 end)
