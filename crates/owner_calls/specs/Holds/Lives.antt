-- The life of a map for one owner, by its memory: since there was no pair in it, runs that put none there have changed it, and calls that stored a pair.
use Rattle.std.specs.Prelude.{ℕ, Bool, List, [], ◌++◌}
use Rattle.seize_words.specs.OneMemory.Mem.{Mem}
use Rattle.map_tables.specs.declared.node.Node.{Node}
use Rattle.map_tables.specs.declared.setting.Setting.{Setting}
use Rattle.papaya_raw.specs.declared.machines.answer.KeyAnswer.{KeyAnswer}
use Rattle.owner_calls.specs.Owned.Owned.{Holds}
use Rattle.owner_calls.specs.Holds.Balances.{Balances, HasStored}
use Rattle.owner_calls.specs.Holds.Came.{StandsAt, NoneCame, CameBy}

module _ {K V : Type 0} (same : K → K → Bool) (hash : K → ℕ) (setting : Setting) where
  -- The memory, all pairs that were stored so far, the last one first, and the pairs of the map.
  pub data Lives : Mem (Node K V) → List (K × V) → List (K × V) → Type 0 where
    made : (m : Mem (Node K V)) → ((b : ℕ) (x : K × V) → StandsAt m b x → ⊥) → Holds same hash setting m [] → Lives m [] []
    -- no pair has come, and the map has these pairs
    changed : (m : Mem (Node K V)) (stored xs : List (K × V)) → Lives m stored xs → (m2 : Mem (Node K V)) (ys : List (K × V)) → NoneCame m m2 → Holds same hash setting m2 ys → Lives m2 stored ys
    -- a call on one key has answered
    called : (m : Mem (Node K V)) (stored xs : List (K × V)) → Lives m stored xs → (m2 : Mem (Node K V)) (answer : KeyAnswer) → CameBy m m2 answer → (new : List (K × V)) → HasStored m2 answer new
        → (ys : List (K × V)) → Holds same hash setting m2 ys → Lives m2 (new ++ stored) ys

-- All that was ever stored is, each pair as often, in the map, or waits in the memory, or was given back, and the memory has nothing else.
abbrev pub LivesBalance : (K V : Type 0) → Type 0
LivesBalance K V =
    (same : K → K → Bool) (hash : K → ℕ) (setting : Setting) (m : Mem (Node K V)) (stored xs : List (K × V)) → Lives same hash setting m stored xs → Balances m [] stored xs
