-- A call of a map under way, whichever it is: what its next step does, and how it goes on by a reply, or as it is asked for a pair.
use Rattle.std.specs.Prelude.{ℕ, Bool, true, false, Result, Ok, Err}
use Rattle.map_sweeps.specs.Given.SeizeWordsPlan.{Plan, plan_as}
use Rattle.map_sweeps.specs.Given.SeizeDeclared.advance.Advance.{Advance as Counting}
use Rattle.map_sweeps.specs.Given.TablesDeclared.node.Node.{Node}
use Rattle.map_sweeps.specs.Given.ResizeDeclared.yielding.Yielding.{Yielding}
use Rattle.map_sweeps.specs.Given.ResizeDeclared.sum.Sum.{Sum}
use Rattle.map_sweeps.specs.Given.ResizeSum.{sum_plan}
use Rattle.map_sweeps.specs.declared.sweep.Sweep.{Sweep}
use Rattle.map_sweeps.specs.declared.sweep.Sweeping.{Sweeping}
use Rattle.map_sweeps.specs.declared.sweep.Sweeping.TheVariants as at
use Rattle.map_sweeps.specs.declared.sweep.Swept.{Swept}
use Rattle.map_sweeps.specs.Sweeps.Sweep.{sweep_plan}
use Rattle.map_sweeps.specs.Sweeps.SweepPoints.{after_next, after_reply}
use Rattle.papaya_raw.specs.declared.machines.answer.Called.{Called}
use Rattle.papaya_raw.specs.declared.machines.asking.MachineReply.{MachineReply}
use Rattle.papaya_raw.specs.declared.machines.asking.MachineReply.TheVariants as reply
use Rattle.papaya_raw.specs.declared.machines.call.KeyCall.{KeyCall}
use Rattle.map_sweeps.specs.declared.reserve.Reserve.{Reserve}
use Rattle.papaya_raw.specs.declared.machines.machine.Machine.{Machine}
use Rattle.papaya_raw.specs.declared.machines.machine.Machine.TheVariants as kinds
use Rattle.papaya_raw.specs.declared.machines.progress.Progress.{Progress}
use Rattle.papaya_raw.specs.Call.{call_plan}
use Rattle.papaya_raw.specs.CallAsks.{replied}
use Rattle.papaya_raw.specs.Progress.{of_called, of_outcome, of_swept, of_counting}
use Rattle.map_sweeps.specs.Reserves.Reserve.{reserve_plan}

module _ {V : Type 0} where
  -- a sweep that asks for a pair keeps it by yes, and removes it by no; it takes no other reply
  abbrev pub sweep_with_reply : Sweeping → Sweep → MachineReply V → Sweep × Result Unit (MachineReply V)
  sweep_with_reply (at.Asks word) c reply.Yes = (after_reply c true, Ok tt)
  sweep_with_reply (at.Asks word) c reply.No = (after_reply c false, Ok tt)
  sweep_with_reply _ c told = (c, Err told)

  abbrev pub sweep_replied : Sweep → MachineReply V → Sweep × Result Unit (MachineReply V)
  sweep_replied c told = sweep_with_reply c.stands c told

-- a walk is asked for its next pair, if it is ready
abbrev pub is_ready : Sweeping → Bool
is_ready at.Ready = true
is_ready _ = false

abbrev pub sweep_asked : Sweep → Sweep × Bool
sweep_asked c = (after_next c, is_ready c.stands)

module _ {K V Q : Type 0} where
  -- a step of the machine of each kind, as a step of the call
  abbrev pub called : KeyCall K V Q × Called (Node K V) → Machine K V Q × Progress (Node K V)
  called (c, told) = (kinds.Key c, of_called told)

  abbrev pub reserved : Reserve × Yielding (Node K V) Unit → Machine K V Q × Progress (Node K V)
  reserved (c, outcome) = (kinds.Reserve c, of_outcome outcome)

  abbrev pub swept : Sweep × Swept (Node K V) → Machine K V Q × Progress (Node K V)
  swept (c, told) = (kinds.Sweep c, of_swept told)

  abbrev pub counted : Sum × Counting ℕ → Machine K V Q × Progress (Node K V)
  counted (c, progress) = (kinds.Count c, of_counting progress)

  -- What its next step does: whether what it is asked with stands for a key, whether two keys are equal, and the hash of each key
  -- that is copied.
  abbrev pub machine_plan : (Q → K → Bool) → (K → K → Bool) → (K → ℕ) → Machine K V Q → Plan (Node K V) (Machine K V Q × Progress (Node K V))
  machine_plan asks eq hashes (kinds.Key c) = plan_as called (call_plan asks eq hashes c)
  machine_plan asks eq hashes (kinds.Reserve c) = plan_as reserved (reserve_plan hashes c)
  machine_plan asks eq hashes (kinds.Sweep c) = plan_as swept (sweep_plan hashes c)
  machine_plan asks eq hashes (kinds.Count c) = plan_as counted (sum_plan c)

  -- how it goes on by a reply, and whether it has taken it: one that it does not take comes back
  abbrev pub machine_replied : Machine K V Q → MachineReply V → Machine K V Q × Result Unit (MachineReply V)
  machine_replied (kinds.Key c) told = (kinds.Key (replied c told).0, (replied c told).1)
  machine_replied (kinds.Sweep c) told = (kinds.Sweep (sweep_replied c told).0, (sweep_replied c told).1)
  machine_replied c told = (c, Err told)

  -- how it goes on as it is asked for a pair, and whether it was
  abbrev pub machine_asked : Machine K V Q → Machine K V Q × Bool
  machine_asked (kinds.Sweep c) = (kinds.Sweep (sweep_asked c).0, (sweep_asked c).1)
  machine_asked c = (c, false)
