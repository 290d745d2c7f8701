-- What a step of a sweep's machine does, and what a whole sweep comes to.
use Rattle.std.specs.Prelude.{◌≡◌, ℕ, Bool, List, [], Result, Ok, Err}
use denote.Ref.{Bor}
use Rattle.seize_words.specs.OneMemory.Mem.{Mem}
use Rattle.seize_words.specs.OneMemory.Plan.{Plan, plan_as}
use Rattle.seize_words.specs.declared.fault.Fault.{Fault}
use Rattle.seize_words.specs.declared.fault.Fault.TheVariants.{Capacity}
use Rattle.seize.specs.declared.advance.Advance.{Advance}
use Rattle.seize.specs.declared.advance.Advance.TheVariants as progress
use Rattle.map_tables.specs.declared.node.Node.{Node}
use Rattle.map_tables.specs.declared.setting.Setting.{Setting}
use Rattle.papaya_raw.specs.Given.SweepsSweep.{sweep_plan}
use Rattle.papaya_raw.specs.Given.SweepsSweepPoints.{sweeping, after_reply}
use Rattle.papaya_raw.specs.Given.ReservesDeclared.sweep.Purpose.{Purpose}
use Rattle.papaya_raw.specs.Given.ReservesDeclared.sweep.Sweep.{Sweep}
use Rattle.papaya_raw.specs.Given.ReservesDeclared.sweep.Swept.{Swept}
use Rattle.papaya_raw.specs.Given.ReservesDeclared.sweep.Swept.TheVariants as swept
use Rattle.owner_whole.specs.Given.CallersTogether.{in_slot}
use Rattle.map_straight.specs.Shown.Chain.{CannotGrowIn}
use Rattle.owner_whole.specs.Strides.Ending.{RunsTo}
use Rattle.owner_calls.specs.Owned.Owned.{Holds}
use Rattle.owner_calls.specs.declared.sweeping.OverPairs.{OverPairs}
use Rattle.owner_calls.specs.declared.sweeping.Pause.{Pause}
use Rattle.owner_calls.specs.declared.sweeping.Pause.TheVariants as pause

-- after a step of its sweep, by what that told
abbrev pub over_pairs_settled : {S T : Type 0} → OverPairs S → Swept T → OverPairs S × Advance Pause
over_pairs_settled u swept.Ready = (u, progress.Done pause.Ready)
over_pairs_settled u (swept.Pair word) = (u, progress.Done (pause.Shows word))
over_pairs_settled u (swept.Asks word) = (u, progress.Done (pause.Asks word))
over_pairs_settled u swept.Done = (u, progress.Done pause.Ended)
over_pairs_settled u (swept.Refused fault) = (u, progress.Refused fault)
over_pairs_settled u _ = (u, progress.Goes)

module _ {K V S : Type 0} where
  abbrev pub over_pairs_after : OverPairs S → Sweep × Swept (Node K V) → OverPairs S × Advance Pause
  over_pairs_after u end = over_pairs_settled (record u { sweep = end.0 }) end.1

  abbrev pub over_pairs_plan : (S → K → ℕ) → OverPairs S → Plan (Node K V) (OverPairs S × Advance Pause)
  over_pairs_plan hashes u = plan_as (over_pairs_after u) (sweep_plan (hashes u.hasher.now) u.sweep)

module _ {K V S : Type 0} (hashes : S → K → ℕ) (b : Bor S) (setting : Setting) (purpose : Purpose) (m0 : Mem (Node K V)) where
  -- A sweep for this purpose, begun on this memory, has come here: it was run from question to question, and told each time whether to keep the pair.
  pub data IsSweeping : OverPairs S → Mem (Node K V) → Type 0 where
    begun : IsSweeping (record { sweep = sweeping (in_slot setting setting.slot) purpose; hasher = b }) m0
    asked : (x : OverPairs S) (m : Mem (Node K V)) → IsSweeping x m → (x2 : OverPairs S) (m2 : Mem (Node K V)) (word : ℕ) → RunsTo (over_pairs_plan {K = K} {V = V} hashes) x m x2 m2 (Ok (pause.Asks word))
        → (keeps : Bool) → IsSweeping (record x2 { sweep = after_reply x2.sweep keeps }) m2

-- how one has stopped, wherever it stands
abbrev pub swept_by : Result Pause Fault → Result Unit Fault
swept_by (Ok end) = Ok tt
swept_by (Err fault) = Err fault

-- One for this purpose has stopped so.
abbrev pub HasSwept : {K V S : Type 0} → (S → K → ℕ) → Bor S → Setting → Purpose → Mem (Node K V) → Mem (Node K V) → Result Unit Fault → Type 0
HasSwept {K} {V} {S} hashes b setting purpose m0 m result =
    (x : OverPairs S) × (n : Mem (Node K V)) × IsSweeping hashes b setting purpose m0 x n × (y : OverPairs S) × (end : Result Pause Fault)
    × RunsTo (over_pairs_plan {K = K} {V = V} hashes) x n y m end × (result ≡ swept_by end)

-- What a clearing has come to: the map has no pair, or it was refused, and has the same pairs, for the length of a table only where none can follow the last one.
abbrev pub ClearedBy : {K V : Type 0} → (K → K → Bool) → (K → ℕ) → Setting → Mem (Node K V) → List (K × V) → Result Pause Fault → Type 0
ClearedBy same hash setting m xs (Ok pause.Ended) = Holds same hash setting m []
ClearedBy same hash setting m xs (Ok _) = ⊥
ClearedBy same hash setting m xs (Err fault) = Holds same hash setting m xs × (fault ≡ Capacity → CannotGrowIn m setting)
