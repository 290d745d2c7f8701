-- A step of a call makes a table by its copier as that was to make it, whichever kind of call it is; and so does one that goes on by a reply, or as it is asked for its next pair.
use Rattle.std.specs.Prelude.{ℕ, Bool}
use Rattle.papaya_raw.specs.Given.SeizeDeclared.advance.Advance.{Advance as Counting}
use Rattle.papaya_raw.specs.Given.TablesDeclared.node.Node.{Node}
use Rattle.papaya_raw.specs.Given.TablesDeclared.table.Table.{Table}
use Rattle.run_finds.specs.Given.ResizeNewTable.{new_table_plan}
use Rattle.run_finds.specs.Given.ResizeSum.{sum_plan}
use Rattle.run_finds.specs.Given.ResizeDeclared.new_table.NewTable.{NewTable}
use Rattle.run_finds.specs.Given.ResizeDeclared.yielding.Yielding.{Yielding}
use Rattle.run_finds.specs.Given.ResizeDeclared.sum.Sum.{Sum}
use Rattle.papaya_raw.specs.Given.ReservesReserve.{reserve_plan}
use Rattle.papaya_raw.specs.Given.ReservesDeclared.reserve.Reserve.{Reserve}
use Rattle.papaya_raw.specs.Given.SweepsSweep.{sweep_plan}
use Rattle.papaya_raw.specs.Given.ReservesDeclared.sweep.Sweep.{Sweep}
use Rattle.papaya_raw.specs.Given.ReservesDeclared.sweep.Swept.{Swept}
use Rattle.papaya_raw.specs.Call.{call_plan}
use Rattle.papaya_raw.specs.Machine.{called as of_key, counted as of_sum, machine_asked, machine_plan, machine_replied, reserved as of_room, swept as of_sweep}
use Rattle.papaya_raw.specs.declared.machines.answer.Called.{Called}
use Rattle.papaya_raw.specs.declared.machines.asking.MachineReply.{MachineReply}
use Rattle.papaya_raw.specs.declared.machines.call.KeyCall.{KeyCall}
use Rattle.papaya_raw.specs.declared.machines.machine.Machine.{Machine}
use Rattle.papaya_raw.specs.declared.machines.machine.Machine.TheVariants as kinds
use Rattle.papaya_raw.specs.declared.machines.progress.Progress.{Progress}
use Rattle.run_finds.proofs.Given.RuleKeys.Always.{AlwaysOf, always_plan_as}
use Rattle.run_finds.proofs.Shaping.{always_plan_more}
use Rattle.run_grows.specs.Grows.Further.{MachineMakes}
use Rattle.run_grows.proofs.Grows.Finding.Making.Calls as calls
use Rattle.run_grows.proofs.Grows.Finding.Making.Calls.{CallBegins, CallEnds}
use Rattle.run_grows.proofs.Grows.Finding.Making.Rooms as rooms
use Rattle.run_grows.proofs.Grows.Finding.Making.Rooms.{RoomBegins, RoomEnds}
use Rattle.run_grows.proofs.Grows.Finding.Making.Sweeps as sweeps
use Rattle.run_grows.proofs.Grows.Finding.Making.Sweeps.{SweepBegins, SweepEnds}

-- what its copier may begin to make is such a making
abbrev pub MachineBegins : {K V Q : Type 0} → (NewTable → Type 0) → Machine K V Q → Type 0
MachineBegins Such (kinds.Key p) = CallBegins Such p.stands
MachineBegins Such (kinds.Reserve r) = RoomBegins Such r.stands
MachineBegins Such (kinds.Sweep c) = SweepBegins Such c.stands
MachineBegins Such (kinds.Count sum) = Unit {0}

module _ (Such : NewTable → Type 0) (K V Q : Type 0) where
  abbrev pub Ends : Machine K V Q × Progress (Node K V) → Type 0
  Ends end = MachineMakes Such end.0

  key_ends : (e : KeyCall K V Q × Called (Node K V)) → CallEnds Such e → Ends (of_key e)
  key_ends (p, told) so = so

  room_ends : (e : Reserve × Yielding (Node K V) Unit) → RoomEnds Such K V e → Ends (of_room e)
  room_ends (r, outcome) so = so

  sweep_ends : (e : Sweep × Swept (Node K V)) → SweepEnds Such K V e → Ends (of_sweep e)
  sweep_ends (c, told) so = so

  sum_ends : (e : Sum × Counting ℕ) → Ends (of_sum e)
  sum_ends (sum, told) = tt

  module _ (goes : (n : NewTable) → Such n → AlwaysOf (λ (e : NewTable × Counting Table). Such e.0) (new_table_plan {K = K} {V = V} n)) (asks : Q → K → Bool) (same : K → K → Bool) (hash : K → ℕ) where
    pub machine_makes : (machine : Machine K V Q) → MachineMakes Such machine → MachineBegins Such machine → AlwaysOf Ends (machine_plan asks same hash machine)
    machine_makes (kinds.Key p) makes begins = always_plan_more (CallEnds Such) Ends of_key key_ends (call_plan asks same hash p) (calls.call_makes Such asks same hash p makes goes begins)
    machine_makes (kinds.Reserve r) makes begins = always_plan_more (RoomEnds Such K V) Ends of_room room_ends (reserve_plan hash r) (rooms.room_makes Such K V hash goes r makes begins)
    machine_makes (kinds.Sweep c) makes begins = always_plan_more (SweepEnds Such K V) Ends of_sweep sweep_ends (sweep_plan hash c) (sweeps.sweep_makes Such K V hash goes c makes begins)
    machine_makes (kinds.Count sum) makes begins = always_plan_as Ends of_sum sum_ends (sum_plan sum)

  pub reply_makes : (machine : Machine K V Q) (reply : MachineReply V) → MachineMakes Such machine → MachineMakes Such (machine_replied machine reply).0
  reply_makes (kinds.Key p) reply makes = calls.reply_makes Such p reply makes
  reply_makes (kinds.Sweep c) reply makes = sweeps.reply_makes Such c reply makes
  reply_makes (kinds.Reserve r) reply makes = makes
  reply_makes (kinds.Count sum) reply makes = tt

  pub asked_makes : (machine : Machine K V Q) → MachineMakes Such machine → MachineMakes Such (machine_asked machine).0
  asked_makes (kinds.Sweep c) makes = sweeps.asked_makes Such c makes
  asked_makes (kinds.Key p) makes = makes
  asked_makes (kinds.Reserve r) makes = makes
  asked_makes (kinds.Count sum) makes = tt
