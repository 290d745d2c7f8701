-- What a step looks at once its operation is answered, as a list of blocks with their values.
use Rattle.std.specs.Prelude.{◌≡◌, ℕ, ◌==◌, List, [], ◌∷◌, Option, Some, None, if◌then◌else◌}
use Rattle.seize_words.specs.OneMemory.Op.{Out}
use Rattle.seize_words.specs.OneMemory.Plan.{Plan, Turn, Do, Ends, MaySee}
use Rattle.seize_words.specs.OneMemory.Word.{block_in}
use Rattle.papaya_raw.specs.declared.machines.end_map.EndMap.{EndMap}
use Rattle.papaya_raw.specs.declared.machines.end_map.Ending.{Ending}
use Rattle.papaya_raw.specs.declared.machines.end_map.Ending.TheVariants as at

module _ {T : Type 0} where
  -- the value of a block, as the list has it
  abbrev pub shown_in : List (ℕ × T) → ℕ → Option T
  shown_in [] b = None
  shown_in (look ∷ looks) b = if b == look.0 then Some look.1 else shown_in looks b

-- the step that makes no operation comes to this outcome, by what it looks at
abbrev pub TurnsTo : {T R : Type 0} → (ℕ → Option T) → Plan T R → R → Type 0
TurnsTo shown (Turn rest) end = Ends shown rest end
TurnsTo shown (Do op rest) end = ⊥

-- the step that makes an operation may look at what it looks at, once that is answered so
abbrev pub MayFollow : {T R : Type 0} → (ℕ → Option T) → Plan T R → Out T → Type 0
MayFollow shown (Turn rest) out = ⊥
MayFollow shown (Do op rest) out = MaySee shown (rest out)

-- the end of a map has come to this table: its last step has looked at it
abbrev pub IsAtTable : EndMap → Ending → ℕ → Type 0
IsAtTable machine at.Words b = b ≡ block_in machine.table.link
IsAtTable machine at.Carries b = b ≡ block_in machine.table.link
IsAtTable machine _ b = ⊥
