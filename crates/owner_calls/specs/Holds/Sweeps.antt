-- Sweeps over the map of one owner: what stood in its memory as they began stands there until their ends.
use Rattle.std.specs.Prelude.{ℕ, Bool, List, Result}
use denote.Ref.{Bor}
use Rattle.seize_words.specs.OneMemory.Mem.{Mem}
use Rattle.seize_words.specs.declared.fault.Fault.{Fault}
use Rattle.map_tables.specs.declared.node.Node.{Node}
use Rattle.map_tables.specs.declared.setting.Setting.{Setting}
use Rattle.papaya_raw.specs.Given.ReservesDeclared.sweep.Purpose.{Purpose}
use Rattle.owner_whole.specs.Strides.Ending.{RunsTo}
use Rattle.owner_calls.specs.Owned.Owned.{Holds}
use Rattle.owner_calls.specs.Sifts.Sweeping.{IsSweeping, over_pairs_plan}
use Rattle.owner_calls.specs.declared.sweeping.OverPairs.{OverPairs}
use Rattle.owner_calls.specs.declared.sweeping.Pause.{Pause}
use Rattle.owner_calls.specs.Holds.Came.{NoneCame, StayInPlace}

-- Wherever it stops next, no pair has come, and each pair that the map had as it began stands still in the block in which it stood then, also where it was
-- removed.
abbrev pub SweepsTakeNoneAway : (K V S : Type 0) → Type 0
SweepsTakeNoneAway K V S =
    (same : K → K → Bool) (hashes : S → K → ℕ) (b : Bor S) (setting : Setting) (m0 : Mem (Node K V)) (xs : List (K × V)) → Holds same (hashes b.now) setting m0 xs
    → (purpose : Purpose) (x : OverPairs S) (m : Mem (Node K V)) → IsSweeping hashes b setting purpose m0 x m
    → (x2 : OverPairs S) (m2 : Mem (Node K V)) (result : Result Pause Fault) → RunsTo (over_pairs_plan {K = K} {V = V} hashes) x m x2 m2 result
    → NoneCame m0 m2 × StayInPlace m0 m2 xs
