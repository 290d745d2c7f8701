-- Runs of machines that put no pair into a block, and what they leave.
use Rattle.std.specs.Prelude.{[], Result}
use Rattle.seize_words.specs.OneMemory.Mem.{Mem}
use Rattle.seize_words.specs.OneMemory.Plan.{Plan}
use Rattle.seize_words.specs.declared.fault.Fault.{Fault}
use Rattle.seize.specs.Leave.{leave_plan}
use Rattle.seize.specs.declared.advance.Advance.{Advance}
use Rattle.map_tables.specs.Nodes.{deferred_word}
use Rattle.map_tables.specs.declared.node.Node.{Node}
use Rattle.map_straight.specs.Given.ResizeNewMap.{new_map_plan}
use Rattle.papaya_raw.specs.Given.ReservesReserve.{reserve_plan}
use Rattle.papaya_raw.specs.Given.SweepsSweep.{sweep_plan}
use Rattle.owner_whole.specs.Strides.Ending.{Ends, RunsTo, stops, goes}
use Rattle.owner_calls.specs.Owned.Machines.{for_room_after, for_room_plan, refreshes_after, refreshes_plan}
use Rattle.owner_whole.proofs.Strides.Runs.Steps.{may_step, ends_on}
use Rattle.owner_calls.specs.Sifts.Sweeping.{over_pairs_after, over_pairs_plan}
use Rattle.owner_calls.specs.Holds.Came.{NoneCame}
use Rattle.owner_calls.specs.Holds.Promises.{RoomsPutNone, SweepsPutNone, RefreshesPutNone, MakingsPutNone}
use Rattle.owner_calls.proofs.Holds.Runs.Machines.{leave_puts, reserve_puts, sweep_puts, map_puts}
use Rattle.owner_calls.proofs.Holds.Runs.Puts.{PutsNoneBy, puts_as, puts_none}

module _ {K V X A : Type 0} (plan : X → Plan (Node K V) (X × Advance A)) (none : (x : X) → PutsNoneBy (plan x)) where
  pub runs_put_none : (x : X) (m : Mem (Node K V)) → Ends plan x m → (x2 : X) (m2 : Mem (Node K V)) (result : Result A Fault) → RunsTo plan x m x2 m2 result → NoneCame m m2
  runs_put_none x m ends x2 m2 result (stops _ _ _ _ told _ s tells) b y there = puts_none m m2 (plan x) (x2, told) (none x) (may_step plan x m ends) s b y there
  runs_put_none x m ends x2 m2 result (goes _ _ x1 m1 told on s _ _ _ runs) b y there =
      puts_none m m1 (plan x) (x1, told) (none x) (may_step plan x m ends) s b y (runs_put_none x1 m1 (ends_on plan x m ends m1 x1 told on s) x2 m2 result runs b y there)

pub rooms_put_none : (K V S : Type 0) → RoomsPutNone K V S
rooms_put_none K V S hashes x m ends x2 m2 result runs =
    runs_put_none (for_room_plan {K = K} {V = V} hashes) (λ r. puts_as (for_room_after r) (reserve_plan (hashes r.hasher.now) r.reserve) (reserve_puts K V (hashes r.hasher.now) r.reserve)) x m ends x2 m2 result runs

pub sweeps_put_none : (K V S : Type 0) → SweepsPutNone K V S
sweeps_put_none K V S hashes x m ends x2 m2 result runs =
    runs_put_none (over_pairs_plan {K = K} {V = V} hashes) (λ u. puts_as (over_pairs_after u) (sweep_plan (hashes u.hasher.now) u.sweep) (sweep_puts K V (hashes u.hasher.now) u.sweep)) x m ends x2 m2 result runs

pub refreshes_put_none : (K V : Type 0) → RefreshesPutNone K V
refreshes_put_none K V x m ends x2 m2 result runs =
    runs_put_none (refreshes_plan (deferred_word {K = K} {V = V})) (λ r. puts_as (refreshes_after r) (leave_plan deferred_word r.leave) (leave_puts K V r.leave)) x m ends x2 m2 result runs

pub makings_put_none : (K V : Type 0) → MakingsPutNone K V
makings_put_none K V x m ends x2 m2 result runs none =
    ([], tt, λ b y there. absurd (none b y (runs_put_none (new_map_plan {K = K} {V = V}) (map_puts K V) x m ends x2 m2 result runs b y there)))
