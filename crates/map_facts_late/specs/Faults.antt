-- For what a call of the map can be refused: memory, or the length of a table. So it is at each point of the machines that has a fault to tell.
use Rattle.std.specs.Prelude.{◌≡◌, ℕ, ◌^◌, ◌≤◌, Bool, ◌⊎◌}
use Rattle.map_facts.specs.Given.SeizeWordsDeclared.fault.Fault.{Fault}
use Rattle.map_facts.specs.Given.SeizeWordsDeclared.fault.Fault.TheVariants.{Memory, Capacity}
use Rattle.map_facts.specs.Given.SeizeWordsMem.{Mem, value_at, Took}
use Rattle.map_facts.specs.Given.SeizeWordsPlan.{Steps}
use Rattle.map_facts.specs.Given.TablesLengths.{GoesByTable}
use Rattle.map_facts.specs.Given.TablesDeclared.lengths.Reason.{Reason}
use Rattle.map_facts.specs.Given.TablesDeclared.node.Node.{Node}
use Rattle.map_facts.specs.Given.TablesDeclared.table.Table.{Table}
use Rattle.map_facts.specs.Given.ReservesReserve.{reserve_plan}
use Rattle.map_facts.specs.Given.ReservesDeclared.reserve.Reserve.{Reserve}
use Rattle.map_facts.specs.Given.ResizeDeclared.yielding.Yielding.{Yielding}
use Rattle.map_facts.specs.Given.ResizeDeclared.yielding.Yielding.TheVariants as outcome
use Rattle.map_facts.specs.Given.ResizeDeclared.copier.Copying.{Copying}
use Rattle.map_facts.specs.Given.ResizeDeclared.copier.Copying.TheVariants as copies
use Rattle.map_facts.specs.Given.ResizeDeclared.new_table.Making.{Making}
use Rattle.map_facts.specs.Given.ResizeDeclared.new_table.Making.TheVariants as makes
use Rattle.map_facts.specs.Given.ReservesDeclared.reserve.Reserving.{Reserving}
use Rattle.map_facts.specs.Given.ReservesDeclared.reserve.Reserving.TheVariants as reserves
use Rattle.map_facts.specs.Given.RawDeclared.machines.answer.Called.{Called}
use Rattle.map_facts.specs.Given.RawDeclared.machines.answer.Called.TheVariants as called
use Rattle.map_facts.specs.Given.RawDeclared.machines.answer.End.TheVariants as ends
use Rattle.map_facts.specs.Given.RawDeclared.machines.asking.Asking.TheVariants as asking
use Rattle.map_facts.specs.Given.RawDeclared.machines.asking.Gap.TheVariants as gaps
use Rattle.map_facts.specs.Given.RawDeclared.machines.call.Calling.{Calling}
use Rattle.map_facts.specs.Given.RawDeclared.machines.call.Calling.TheVariants as calls
use Rattle.map_facts.specs.Given.SweepsSweep.{sweep_plan}
use Rattle.map_facts.specs.Given.SweepsSweepPoints.{after_next, after_reply}
use Rattle.map_facts.specs.Given.ReservesDeclared.sweep.Sweep.{Sweep}
use Rattle.map_facts.specs.Given.ReservesDeclared.sweep.Sweeping.{Sweeping}
use Rattle.map_facts.specs.Given.ReservesDeclared.sweep.Sweeping.TheVariants as sweeps
use Rattle.map_facts.specs.Given.ReservesDeclared.sweep.Swept.{Swept}
use Rattle.map_facts.specs.Given.ReservesDeclared.sweep.Swept.TheVariants as swept

abbrev pub IsRoom : Fault → Type 0
IsRoom fault = (fault ≡ Memory) ⊎ (fault ≡ Capacity)

-- Each fault that a machine has to tell, at whichever of its points, is such a one, and each table behind which it is to put another one once the pairs are
-- counted is of these. A reservation is to need no more places than a table can have.
module _ (Is : Fault → Type 0) (Last : Table → Reason → Type 0) where
  abbrev pub HoldsInMaking : Making → Type 0
  HoldsInMaking (makes.Sums before reason sum) = Last before reason
  HoldsInMaking (makes.Refused fault) = Is fault
  HoldsInMaking _ = Unit {0}

  abbrev pub HoldsInCopying : Copying → Type 0
  HoldsInCopying (copies.Grows word code making) = HoldsInMaking making.stands
  HoldsInCopying (copies.Remakes making) = HoldsInMaking making.stands
  HoldsInCopying (copies.Tallies word fault) = Is fault
  HoldsInCopying (copies.Unmarks word fault) = Is fault
  HoldsInCopying (copies.Unclaims fault) = Is fault
  HoldsInCopying (copies.Refused fault) = Is fault
  HoldsInCopying _ = Unit {0}

  abbrev pub HoldsInReserving : Reserving → Type 0
  HoldsInReserving (reserves.Makes making) = HoldsInMaking making.stands
  HoldsInReserving (reserves.Follows table need) = need ≤ 2 ^ 48
  HoldsInReserving (reserves.Grows table making) = HoldsInMaking making.stands
  HoldsInReserving (reserves.Copies copier) = HoldsInCopying copier.stands
  HoldsInReserving (reserves.Refused fault) = Is fault
  HoldsInReserving _ = Unit {0}

  abbrev pub HoldsInSweeping : Sweeping → Type 0
  HoldsInSweeping (sweeps.Copies copier) = HoldsInCopying copier.stands
  HoldsInSweeping (sweeps.Refused fault) = Is fault
  HoldsInSweeping _ = Unit {0}

  -- of a call in this table: at its end it is of these, too, where a pair is asked for that is to be stored behind it
  abbrev pub HoldsInCalling : Table → Calling → Type 0
  HoldsInCalling table (calls.Firsts making) = HoldsInMaking making.stands
  HoldsInCalling table (calls.Allocs making) = HoldsInMaking making.stands
  HoldsInCalling table (calls.Helps copier goal) = HoldsInCopying copier.stands
  HoldsInCalling table (calls.Copies copier) = HoldsInCopying copier.stands
  HoldsInCalling table (calls.Asks (asking.Absent gaps.Last)) = (reason : Reason) → GoesByTable reason → Last table reason
  HoldsInCalling table (calls.Drops (ends.Refused fault)) = Is fault
  HoldsInCalling table (calls.Over (ends.Refused fault)) = Is fault
  HoldsInCalling table _ = Unit {0}

-- any table
abbrev pub AnyTable : Table → Reason → Type 0
AnyTable before reason = Unit {0}

-- Each fault that a machine has to tell, at whichever of its points, is such a one;
module _ (Is : Fault → Type 0) where
  abbrev pub SoInMaking : Making → Type 0
  SoInMaking stands = HoldsInMaking Is AnyTable stands

  abbrev pub SoInCopying : Copying → Type 0
  SoInCopying stands = HoldsInCopying Is AnyTable stands

  abbrev pub SoInReserving : Reserving → Type 0
  SoInReserving stands = HoldsInReserving Is AnyTable stands

  abbrev pub SoInSweeping : Sweeping → Type 0
  SoInSweeping stands = HoldsInSweeping Is AnyTable stands

  abbrev pub SoInCalling : Calling → Type 0
  SoInCalling (calls.Firsts making) = SoInMaking making.stands
  SoInCalling (calls.Allocs making) = SoInMaking making.stands
  SoInCalling (calls.Helps copier goal) = SoInCopying copier.stands
  SoInCalling (calls.Copies copier) = SoInCopying copier.stands
  SoInCalling (calls.Drops (ends.Refused fault)) = Is fault
  SoInCalling (calls.Over (ends.Refused fault)) = Is fault
  SoInCalling _ = Unit {0}

  -- and an outcome that is a refusal is one for this
  abbrev pub RefusesSo : {T R : Type 0} → Yielding T R → Type 0
  RefusesSo (outcome.Refused fault) = Is fault
  RefusesSo _ = Unit {0}

  abbrev pub SweepRefusesSo : {T : Type 0} → Swept T → Type 0
  SweepRefusesSo (swept.Refused fault) = Is fault
  SweepRefusesSo _ = Unit {0}

  abbrev pub CallRefusesSo : {T : Type 0} → Called T → Type 0
  CallRefusesSo (called.Refused fault) = Is fault
  CallRefusesSo _ = Unit {0}

-- so for room
abbrev pub RoomInMaking : Making → Type 0
RoomInMaking p = SoInMaking IsRoom p

abbrev pub RoomInCopying : Copying → Type 0
RoomInCopying p = SoInCopying IsRoom p

abbrev pub RoomInReserving : Reserving → Type 0
RoomInReserving p = SoInReserving IsRoom p

abbrev pub RoomInSweeping : Sweeping → Type 0
RoomInSweeping p = SoInSweeping IsRoom p

abbrev pub RefusesRoom : {T R : Type 0} → Yielding T R → Type 0
RefusesRoom end = RefusesSo IsRoom end

abbrev pub SweepRefusesRoom : {T : Type 0} → Swept T → Type 0
SweepRefusesRoom end = SweepRefusesSo IsRoom end

module _ (K V : Type 0) where
  -- at each of its steps a reservation is refused for this alone
  abbrev pub ReservesRefuseRoom : Type 0
  ReservesRefuseRoom =
      (hash : K → ℕ) (p : Reserve) → RoomInReserving p.stands → (m m2 : Mem (Node K V)) (end : Reserve × Yielding (Node K V) Unit)
      → Steps Took value_at m (reserve_plan hash p) m2 end → RoomInReserving end.0.stands × RefusesRoom end.1

  -- and goes on to ask for as many further pairs as it was begun for
  abbrev pub ReservesAskOn : Type 0
  ReservesAskOn =
      (hash : K → ℕ) (p : Reserve) (m m2 : Mem (Node K V)) (end : Reserve × Yielding (Node K V) Unit)
      → Steps Took value_at m (reserve_plan hash p) m2 end → end.0.additional ≡ p.additional

  -- at each of its steps a sweep is refused for this alone
  abbrev pub SweepsRefuseRoom : Type 0
  SweepsRefuseRoom =
      (hash : K → ℕ) (p : Sweep) → RoomInSweeping p.stands → (m m2 : Mem (Node K V)) (end : Sweep × Swept (Node K V))
      → Steps Took value_at m (sweep_plan hash p) m2 end → RoomInSweeping end.0.stands × SweepRefusesRoom end.1

-- and so it is once it was asked for the next pair of a walk, or told whether to keep one
abbrev pub RepliedSweepsRefuseRoom : Type 0
RepliedSweepsRefuseRoom =
    (p : Sweep) → RoomInSweeping p.stands → RoomInSweeping (after_next p).stands × ((keeps : Bool) → RoomInSweeping (after_reply p keeps).stands)
