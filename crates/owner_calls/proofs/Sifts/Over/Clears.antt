-- A clearing of one owner's map, from the list of pairs to the list with none.
use Rattle.std.specs.Prelude.{◌≡◌, ℕ, Bool, List, [], Result, Ok, Err}
use Rattle.std.proofs.Common.{sym, subst, refl}
use denote.Ref.{Bor}
use Rattle.seize_words.specs.OneMemory.Mem.{Mem}
use Rattle.seize_words.specs.declared.fault.Fault.{Fault}
use Rattle.seize_words.specs.declared.fault.Fault.TheVariants.{Capacity}
use Rattle.map_tables.specs.declared.node.Node.{Node}
use Rattle.map_tables.specs.declared.setting.Setting.{Setting}
use Rattle.papaya_raw.specs.Given.SweepsSweepPoints.{sweeping}
use Rattle.papaya_raw.specs.Given.ReservesDeclared.sweep.Purpose.TheVariants.{Walks, Clears}
use Rattle.papaya_raw.specs.Given.ReservesDeclared.sweep.Sweep.{Sweep}
use Rattle.owner_whole.specs.Given.LateFaults.{IsRoom, RoomInSweeping}
use Rattle.map_straight.specs.Shown.Chain.{CannotGrowIn}
use Rattle.owner_whole.specs.Strides.Ending.{Ends, RunsTo}
use Rattle.owner_calls.specs.Owned.Owned.{Holds}
use Rattle.owner_calls.specs.Sifts.Sweeping.{ClearedBy, HasSwept, IsSweeping, over_pairs_plan, swept_by}
use Rattle.owner_calls.specs.Sifts.Sweeping as sweeps
use Rattle.owner_calls.specs.declared.sweeping.OverPairs.{OverPairs}
use Rattle.owner_calls.specs.declared.sweeping.Pause.{Pause}
use Rattle.owner_calls.specs.declared.sweeping.Pause.TheVariants as pause
use Rattle.owner_calls.proofs.Sifts.Over.Refusals.{runs_room}
use Rattle.owner_calls.proofs.Sifts.Over.Sweeps.{nothing, ComesTo, Under, begins_under, under_ends, comes_to, refused_holds, refused_ends, cleared_holds, never_asks}

clears_not_walks : Clears ≡ Walks → ⊥
clears_not_walks e = cc e

module _ {K V S : Type 0} (same : K → K → Bool) (hashes : S → K → ℕ) (b : Bor S) (setting : Setting) (m0 : Mem (Node K V)) (xs : List (K × V)) (h : Holds same (hashes b.now) setting m0 xs)
    (p : Sweep) (is : p ≡ sweeping setting Clears) where
  begun : Under same hashes b setting m0 xs h Clears clears_not_walks nothing (record { sweep = p; hasher = b }) m0
  begun =
      subst (λ (x : Sweep). Under same hashes b setting m0 xs h Clears clears_not_walks nothing (record { sweep = x; hasher = b }) m0) (sym is)
      (begins_under same hashes b setting m0 xs h Clears clears_not_walks)

  pub clearing_ends : Ends (over_pairs_plan {V = V} hashes) (record { sweep = p; hasher = b }) m0
  clearing_ends = under_ends same hashes b setting m0 xs h Clears clears_not_walks nothing _ m0 begun

  cleared : (x : OverPairs S) (m : Mem (Node K V)) (result : Result Pause Fault) → ComesTo same hashes b setting m0 xs h Clears clears_not_walks nothing x m result → ClearedBy same (hashes b.now) setting m xs result
  cleared x m (Ok pause.Ended) c = cleared_holds same hashes b setting m0 xs h Clears clears_not_walks refl nothing c.0 m c.1
  cleared x m (Ok (pause.Asks word)) c = never_asks same hashes b setting m0 xs h Clears clears_not_walks refl nothing x m word c
  cleared x m (Ok pause.Ready) c = c
  cleared x m (Ok (pause.Shows word)) c = c
  cleared x m (Err fault) c = (
    refused_holds same hashes b setting m0 xs h Clears clears_not_walks nothing c.0 m fault c.1,
    refused_ends same hashes b setting m0 xs h Clears clears_not_walks nothing c.0 m fault c.1,
  )

  pub clearing_by : (x : OverPairs S) (m : Mem (Node K V)) (result : Result Pause Fault) → RunsTo (over_pairs_plan {V = V} hashes) (record { sweep = p; hasher = b }) m0 x m result → ClearedBy same (hashes b.now) setting m xs result
  clearing_by x m result runs = cleared x m result (comes_to same hashes b setting m0 xs h Clears clears_not_walks nothing _ m0 x m result runs begun)

  done_by : (m : Mem (Node K V)) (end : Pause) → ClearedBy same (hashes b.now) setting m xs (Ok end) → Holds same (hashes b.now) setting m []
  done_by m pause.Ended c = c
  done_by m pause.Ready c = absurd c
  done_by m (pause.Shows word) c = absurd c
  done_by m (pause.Asks word) c = absurd c

  -- so it is where it is done, however it says so
  pub clearing_done : (x : OverPairs S) (m : Mem (Node K V)) (end : Pause) → RunsTo (over_pairs_plan {V = V} hashes) (record { sweep = p; hasher = b }) m0 x m (Ok end) → Holds same (hashes b.now) setting m []
  clearing_done x m end runs = done_by m end (clearing_by x m (Ok end) runs)

  pub clearing_refused : (x : OverPairs S) (m : Mem (Node K V)) (fault : Fault) → RunsTo (over_pairs_plan {V = V} hashes) (record { sweep = p; hasher = b }) m0 x m (Err fault) → Holds same (hashes b.now) setting m xs
  clearing_refused x m fault runs = (clearing_by x m (Err fault) runs).0

  -- for the length of a table only where none can follow the last one
  pub clearing_ends_at : (x : OverPairs S) (m : Mem (Node K V)) (fault : Fault) → RunsTo (over_pairs_plan {V = V} hashes) (record { sweep = p; hasher = b }) m0 x m (Err fault) → fault ≡ Capacity → CannotGrowIn m setting
  clearing_ends_at x m fault runs = (clearing_by x m (Err fault) runs).1

  -- and it is for room
  pub clearing_faults : (x : OverPairs S) (m : Mem (Node K V)) (fault : Fault) → RunsTo (over_pairs_plan {V = V} hashes) (record { sweep = p; hasher = b }) m0 x m (Err fault) → IsRoom fault
  clearing_faults x m fault runs = (runs_room hashes (record { sweep = p; hasher = b }) m0 x m (Err fault) runs (subst (λ (y : Sweep). RoomInSweeping y.stands) (sym is) tt)).1

  -- a sweep has stopped so
  pub clearing_ran : (x : OverPairs S) (m : Mem (Node K V)) (result : Result Pause Fault) → RunsTo (over_pairs_plan {V = V} hashes) (record { sweep = p; hasher = b }) m0 x m result → HasSwept hashes b setting Clears m0 m (swept_by result)
  clearing_ran x m result runs =
      (record { sweep = p; hasher = b }, m0, subst (λ (y : Sweep). IsSweeping hashes b setting Clears m0 (record { sweep = y; hasher = b }) m0) (sym is) sweeps.begun, x, result, runs, refl)
