-- Which call holds up others that wait, and which one may have let them on by its last step.
use Rattle.std.specs.Prelude.{◌≡◌, ℕ, suc, ◌<◌, ◌^◌, ◌||◌, Bool, true, false}
use Rattle.seize_words.specs.OneMemory.Mem.{Mem, Took, value_at}
use Rattle.seize_words.specs.OneMemory.Plan.{Steps}
use Rattle.map_tables.specs.Chunks.{is_incremental}
use Rattle.map_tables.specs.declared.node.Node.{Node}
use Rattle.map_tables.specs.declared.table.Table.{Table}
use Rattle.map_machines.specs.declared.yielding.Yielding.{Yielding}
use Rattle.map_machines.specs.Copier.{copier_plan}
use Rattle.map_machines.specs.declared.copier.Copier.{Copier}
use Rattle.map_machines.specs.declared.copier.Copying.{Copying}
use Rattle.map_machines.specs.declared.copier.Copying.TheVariants as copying
use Rattle.papaya_raw.specs.Given.ReservesDeclared.reserve.Reserving.{Reserving}
use Rattle.papaya_raw.specs.Given.ReservesDeclared.reserve.Reserving.TheVariants as reserving
use Rattle.papaya_raw.specs.Given.ReservesDeclared.sweep.Sweeping.{Sweeping}
use Rattle.papaya_raw.specs.Given.ReservesDeclared.sweep.Sweeping.TheVariants as sweeping
use Rattle.papaya_raw.specs.declared.machines.call.Calling.{Calling}
use Rattle.papaya_raw.specs.declared.machines.call.Calling.TheVariants as calling
use Rattle.papaya_raw.specs.declared.machines.machine.Machine.{Machine}
use Rattle.papaya_raw.specs.declared.machines.machine.Machine.TheVariants.{Key, Reserve, Sweep, Count}

-- There a copying holds others up: in incremental mode it has a pair in hand, whose place it has marked, or a mark or a claim to take back; in either mode it is
-- to give a table up, or to say that one is the root.
abbrev pub point_holds_up : Bool → Copying → Bool
point_holds_up incremental (copying.Probes word key table probe) = incremental
point_holds_up incremental (copying.Puts word key table probe) = incremental
point_holds_up incremental (copying.Covers word) = incremental
point_holds_up incremental (copying.Passes word key table) = incremental
point_holds_up incremental (copying.Grows word key making) = incremental
point_holds_up incremental (copying.Tallies word fault) = incremental
point_holds_up incremental (copying.Unmarks word fault) = incremental
point_holds_up incremental (copying.Unclaims fault) = incremental
point_holds_up incremental copying.Aborts = true
point_holds_up incremental copying.Announces = true
point_holds_up incremental point = false

abbrev pub copying_holds_up : Copier → Bool
copying_holds_up copier = point_holds_up (is_incremental copier.setting.mode) copier.stands

-- There a copying stands once a pair is COPIED, in incremental mode, and it goes on to the next place, or counts; once it has given its table up, or made it the
-- root; and once it has taken its mark back, and gives up.
abbrev pub point_has_let_on : Bool → Copying → Bool
point_has_let_on incremental copying.Marks = incremental
point_has_let_on incremental copying.Counts = incremental
point_has_let_on incremental copying.Replaces = true
point_has_let_on incremental (copying.Succeeds table) = true
point_has_let_on incremental (copying.Refused fault) = true
point_has_let_on incremental point = false

abbrev pub copying_has_let_on : Copier → Bool
copying_has_let_on copier = point_has_let_on (is_incremental copier.setting.mode) copier.stands

-- it does the one, or has done the other
abbrev pub holds_up_or_has_let_on : Copier → Bool
holds_up_or_has_let_on copier = copying_holds_up copier || copying_has_let_on copier

-- one that holds others up does so after its next step, too, or has let them on by it
abbrev pub HoldersLetOn : {K : Type 0} → (V : Type 0) → (K → ℕ) → Type 0
HoldersLetOn {K} V hash =
    (p : Copier) (m m2 : Mem (Node K V)) (end : Copier × Yielding (Node K V) Table) → suc p.done < 2 ^ 64 → copying_holds_up p ≡ true
    → Steps Took value_at m (copier_plan hash p) m2 end → holds_up_or_has_let_on end.0 ≡ true

-- the copying of a call on a key has let others on,
abbrev pub key_has_let_on : Calling → Bool
key_has_let_on (calling.Helps copier goal) = copying_has_let_on copier
key_has_let_on (calling.Copies copier) = copying_has_let_on copier
key_has_let_on point = false

-- of a reservation,
abbrev pub reserve_has_let_on : Reserving → Bool
reserve_has_let_on (reserving.Copies copier) = copying_has_let_on copier
reserve_has_let_on point = false

-- of a sweep,
abbrev pub sweep_has_let_on : Sweeping → Bool
sweep_has_let_on (sweeping.Copies copier) = copying_has_let_on copier
sweep_has_let_on point = false

-- and of any call
abbrev pub call_has_let_on : {K V Q : Type 0} → Machine K V Q → Bool
call_has_let_on (Key call) = key_has_let_on call.stands
call_has_let_on (Reserve reserve) = reserve_has_let_on reserve.stands
call_has_let_on (Sweep sweep) = sweep_has_let_on sweep.stands
call_has_let_on (Count sum) = false
