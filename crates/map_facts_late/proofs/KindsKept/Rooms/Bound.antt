-- Where a machine has a fault to tell, or is to put a table behind another one: what is so of these is so still where it goes on being so of each.
use Rattle.map_facts.specs.Given.SeizeWordsDeclared.fault.Fault.{Fault}
use Rattle.map_facts.specs.Given.TablesDeclared.lengths.Reason.{Reason}
use Rattle.map_facts.specs.Given.TablesDeclared.table.Table.{Table}
use Rattle.map_facts.specs.Given.ResizeDeclared.copier.Copying.{Copying}
use Rattle.map_facts.specs.Given.ResizeDeclared.copier.Copying.TheVariants as copies
use Rattle.map_facts.specs.Given.ResizeDeclared.new_table.Making.{Making}
use Rattle.map_facts.specs.Given.ResizeDeclared.new_table.Making.TheVariants as makes
use Rattle.map_facts.specs.Given.ReservesDeclared.reserve.Reserving.{Reserving}
use Rattle.map_facts.specs.Given.ReservesDeclared.reserve.Reserving.TheVariants as reserves
use Rattle.map_facts.specs.Given.RawDeclared.machines.answer.End.TheVariants as ends
use Rattle.map_facts.specs.Given.RawDeclared.machines.asking.Asking.TheVariants as asking
use Rattle.map_facts.specs.Given.RawDeclared.machines.asking.Gap.TheVariants as gaps
use Rattle.map_facts.specs.Given.RawDeclared.machines.call.Calling.{Calling}
use Rattle.map_facts.specs.Given.RawDeclared.machines.call.Calling.TheVariants as calls
use Rattle.map_facts.specs.Given.ReservesDeclared.sweep.Sweeping.{Sweeping}
use Rattle.map_facts.specs.Given.ReservesDeclared.sweep.Sweeping.TheVariants as sweeps
use Rattle.map_facts_late.specs.Faults.{HoldsInMaking, HoldsInCopying, HoldsInReserving, HoldsInSweeping, HoldsInCalling}

-- it stands so that a fault is known, or a table behind which another one is to be put
abbrev pub BoundMaking : Making → Type 0
BoundMaking (makes.Sums before reason sum) = Unit {0}
BoundMaking (makes.Refused fault) = Unit {0}
BoundMaking _ = ⊥

abbrev pub BoundCopying : Copying → Type 0
BoundCopying (copies.Grows word code making) = BoundMaking making.stands
BoundCopying (copies.Remakes making) = BoundMaking making.stands
BoundCopying (copies.Tallies word fault) = Unit {0}
BoundCopying (copies.Unmarks word fault) = Unit {0}
BoundCopying (copies.Unclaims fault) = Unit {0}
BoundCopying (copies.Refused fault) = Unit {0}
BoundCopying _ = ⊥

abbrev pub BoundReserving : Reserving → Type 0
BoundReserving (reserves.Makes making) = BoundMaking making.stands
BoundReserving (reserves.Grows table making) = BoundMaking making.stands
BoundReserving (reserves.Copies copier) = BoundCopying copier.stands
BoundReserving (reserves.Refused fault) = Unit {0}
BoundReserving _ = ⊥

abbrev pub BoundSweeping : Sweeping → Type 0
BoundSweeping (sweeps.Copies copier) = BoundCopying copier.stands
BoundSweeping (sweeps.Refused fault) = Unit {0}
BoundSweeping _ = ⊥

abbrev pub BoundCalling : Calling → Type 0
BoundCalling (calls.Firsts making) = BoundMaking making.stands
BoundCalling (calls.Allocs making) = BoundMaking making.stands
BoundCalling (calls.Helps copier goal) = BoundCopying copier.stands
BoundCalling (calls.Copies copier) = BoundCopying copier.stands
BoundCalling (calls.Asks (asking.Absent gaps.Last)) = Unit {0}
BoundCalling (calls.Drops (ends.Refused fault)) = Unit {0}
BoundCalling (calls.Over (ends.Refused fault)) = Unit {0}
BoundCalling _ = ⊥

module _ (Is Is2 : Fault → Type 0) (Last Last2 : Table → Reason → Type 0) where
  -- each fault that is such a one is one of the other kind, and so it is of tables
  abbrev pub Keeps : Type 0
  Keeps = ((fault : Fault) → Is fault → Is2 fault) × ((before : Table) (reason : Reason) → Last before reason → Last2 before reason)

  pub making_on : (stage : Making) → (BoundMaking stage → Keeps) → HoldsInMaking Is Last stage → HoldsInMaking Is2 Last2 stage
  making_on (makes.Sums before reason sum) keeps so = (keeps tt).1 before reason so
  making_on (makes.Refused fault) keeps so = (keeps tt).0 fault so
  making_on _ keeps so = tt

  pub copying_on : (stage : Copying) → (BoundCopying stage → Keeps) → HoldsInCopying Is Last stage → HoldsInCopying Is2 Last2 stage
  copying_on (copies.Grows word code making) keeps so = making_on making.stands keeps so
  copying_on (copies.Remakes making) keeps so = making_on making.stands keeps so
  copying_on (copies.Tallies word fault) keeps so = (keeps tt).0 fault so
  copying_on (copies.Unmarks word fault) keeps so = (keeps tt).0 fault so
  copying_on (copies.Unclaims fault) keeps so = (keeps tt).0 fault so
  copying_on (copies.Refused fault) keeps so = (keeps tt).0 fault so
  copying_on _ keeps so = tt

  pub reserving_on : (stage : Reserving) → (BoundReserving stage → Keeps) → HoldsInReserving Is Last stage → HoldsInReserving Is2 Last2 stage
  reserving_on (reserves.Makes making) keeps so = making_on making.stands keeps so
  reserving_on (reserves.Follows table need) keeps so = so
  reserving_on (reserves.Grows table making) keeps so = making_on making.stands keeps so
  reserving_on (reserves.Copies copier) keeps so = copying_on copier.stands keeps so
  reserving_on (reserves.Refused fault) keeps so = (keeps tt).0 fault so
  reserving_on _ keeps so = tt

  pub sweeping_on : (stage : Sweeping) → (BoundSweeping stage → Keeps) → HoldsInSweeping Is Last stage → HoldsInSweeping Is2 Last2 stage
  sweeping_on (sweeps.Copies copier) keeps so = copying_on copier.stands keeps so
  sweeping_on (sweeps.Refused fault) keeps so = (keeps tt).0 fault so
  sweeping_on _ keeps so = tt

  pub calling_on : (table : Table) (stage : Calling) → (BoundCalling stage → Keeps) → HoldsInCalling Is Last table stage → HoldsInCalling Is2 Last2 table stage
  calling_on table (calls.Firsts making) keeps so = making_on making.stands keeps so
  calling_on table (calls.Allocs making) keeps so = making_on making.stands keeps so
  calling_on table (calls.Helps copier goal) keeps so = copying_on copier.stands keeps so
  calling_on table (calls.Copies copier) keeps so = copying_on copier.stands keeps so
  calling_on table (calls.Asks (asking.Absent gaps.Last)) keeps so = λ reason by_table. (keeps tt).1 table reason (so reason by_table)
  calling_on table (calls.Drops (ends.Refused fault)) keeps so = (keeps tt).0 fault so
  calling_on table (calls.Over (ends.Refused fault)) keeps so = (keeps tt).0 fault so
  calling_on table _ keeps so = tt
