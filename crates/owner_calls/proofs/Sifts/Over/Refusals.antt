-- For what a sweep of one owner's map is refused: memory, or the length of a table.
use Rattle.std.specs.Prelude.{ℕ, Result, IfErr}
use Rattle.seize_words.specs.OneMemory.Mem.{Mem, Took, value_at}
use Rattle.seize_words.specs.OneMemory.Plan.{Steps}
use Rattle.seize_words.specs.declared.fault.Fault.{Fault}
use Rattle.seize.specs.declared.advance.Advance.{Advance}
use Rattle.map_tables.specs.declared.node.Node.{Node}
use Rattle.papaya_raw.specs.Given.SweepsSweep.{sweep_plan}
use Rattle.papaya_raw.specs.Given.ReservesDeclared.sweep.Swept.{Swept}
use Rattle.papaya_raw.specs.Given.ReservesDeclared.sweep.Swept.TheVariants as swept
use Rattle.owner_whole.specs.Given.LateFaults.{IsRoom, RoomInSweeping, SweepRefusesRoom}
use Rattle.owner_whole.proofs.Given.LateKindsKept.Laws.{sweeps_refuse_room}
use Rattle.owner_whole.specs.Strides.Ending.{RunsTo}
use Rattle.owner_whole.proofs.Strides.Runs.Comes.{NextOf, next_turned, run_comes}
use Rattle.owner_calls.specs.Sifts.Sweeping.{over_pairs_plan, over_pairs_after, over_pairs_settled}
use Rattle.owner_calls.specs.declared.sweeping.OverPairs.{OverPairs}
use Rattle.owner_calls.specs.declared.sweeping.Pause.{Pause}

-- where it stands is so, and a refusal that it comes to is one for room
abbrev IsSo : {S : Type 0} → OverPairs S → Type 0
IsSo x = RoomInSweeping x.sweep.stands

abbrev ComesSo : {S : Type 0} → OverPairs S → Result Pause Fault → Type 0
ComesSo x result = RoomInSweeping x.sweep.stands × IfErr result IsRoom

module _ {K V S : Type 0} (hashes : S → K → ℕ) where
  abbrev NextSo : OverPairs S → Mem (Node K V) → Advance Pause → Type 0
  NextSo = NextOf (λ x m. IsSo x) (λ x m result. ComesSo x result)

  settled_so : (x : OverPairs S) (m : Mem (Node K V)) (told : Swept (Node K V)) → RoomInSweeping x.sweep.stands → SweepRefusesRoom told → NextSo (over_pairs_settled x told).0 m (over_pairs_settled x told).1
  settled_so x m (swept.Refused fault) here room = (here, room)
  settled_so x m swept.Goes here room = here
  settled_so x m swept.Waits here room = here
  settled_so x m (swept.Gave value) here room = here
  settled_so x m swept.Ready here room = (here, tt)
  settled_so x m (swept.Pair word) here room = (here, tt)
  settled_so x m (swept.Asks word) here room = (here, tt)
  settled_so x m swept.Done here room = (here, tt)

  step_so : (x : OverPairs S) (m : Mem (Node K V)) → IsSo x → (m2 : Mem (Node K V)) (end : OverPairs S × Advance Pause) → Steps Took value_at m (over_pairs_plan hashes x) m2 end → NextSo end.0 m2 end.1
  step_so x m here m2 end s =
      next_turned (λ y n. IsSo y) (λ y n result. ComesSo y result) (over_pairs_after x) m m2 (sweep_plan (hashes x.hasher.now) x.sweep)
      (λ e t. let room = sweeps_refuse_room (hashes x.hasher.now) x.sweep here m m2 e t in settled_so (record x { sweep = e.0 }) m2 e.1 room.0 room.1) end s

  -- Through a run it stands where that is so, and where it is refused, it is for room.
  pub runs_room : (x : OverPairs S) (m : Mem (Node K V)) (x2 : OverPairs S) (m2 : Mem (Node K V)) (result : Result Pause Fault) → RunsTo (over_pairs_plan hashes) x m x2 m2 result
      → RoomInSweeping x.sweep.stands → RoomInSweeping x2.sweep.stands × IfErr result IsRoom
  runs_room x m x2 m2 result runs here = run_comes (λ y n. IsSo y) (λ y n r. ComesSo y r) (over_pairs_plan hashes) step_so x m here x2 m2 result runs
