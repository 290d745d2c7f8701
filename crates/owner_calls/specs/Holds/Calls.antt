-- Calls on one key of one owner's map, from question to question: what came to its memory by them, and what stood there.
use Rattle.std.specs.Prelude.{ℕ, Bool, List, Result}
use denote.Ref.{Bor}
use Rattle.seize_words.specs.OneMemory.Mem.{Mem}
use Rattle.seize_words.specs.declared.fault.Fault.{Fault}
use Rattle.map_tables.specs.declared.node.Node.{Node}
use Rattle.map_tables.specs.declared.setting.Setting.{Setting}
use Rattle.owner_whole.specs.Given.CallersPairs.{Given}
use Rattle.owner_calls.specs.Owned.Calling.{IsCalling}
use Rattle.owner_whole.specs.Strides.Ending.{RunsTo}
use Rattle.owner_calls.specs.Owned.Machines.{on_key_plan}
use Rattle.owner_calls.specs.Owned.Owned.{Holds}
use Rattle.owner_calls.specs.declared.machines.OnKey.{OnKey}
use Rattle.owner_calls.specs.declared.machines.Stop.{Stop}
use Rattle.owner_calls.specs.Holds.Came.{HasOutcome, StayBeside}

-- Wherever it stops next, no pair has come but what it tells as stored, and each pair that the map had as it began stands still in the block in which it stood
-- then, also where it was replaced or removed. What was stored is in none of these blocks.
abbrev pub CallsTakeNoneAway : (K V Q S : Type 0) → Type 0
CallsTakeNoneAway K V Q S =
    (asks : Q → K → Bool) (same : K → K → Bool) (hashes : S → K → ℕ) (b : Bor S) (setting : Setting) (m0 : Mem (Node K V)) (keys : K → Bool) (given : Given K V) (xs : List (K × V)) → Holds same (hashes b.now) setting m0 xs
    → (x : OnKey K V Q S) (m : Mem (Node K V)) → IsCalling asks same hashes b setting m0 keys given x m
    → (x2 : OnKey K V Q S) (m2 : Mem (Node K V)) (result : Result Stop Fault) → RunsTo (on_key_plan asks same hashes) x m x2 m2 result
    → HasOutcome m0 m2 x2 result × StayBeside m0 m2 xs result
