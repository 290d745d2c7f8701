-- What a memory that tells makes of an operation, and what it then tells.
use Rattle.std.specs.Prelude.{◌≡◌, Bool, ◌+◌, ◌^◌, ◌%◌, ◌==◌, if◌then◌else◌, true, false, bit_or, Ok, Err}
use Rattle.run_schedules.specs.Given.SeizeWordsOp.{Op, Out, Store, Swap, Add, Or, Exchange, Make, Take, Room, Found, Stored, Exchanged, Made, Roomed}
use Rattle.run_schedules.specs.Given.TablesDeclared.node.Node.{Node}
use Rattle.run_schedules.specs.Given.TablesDeclared.node.Node.TheVariants as node
use Rattle.run_effects.specs.declared.changed.Kind.{Kind}
use Rattle.run_effects.specs.declared.changed.Kind.TheVariants as kind
use Rattle.run_effects.specs.declared.changed.Changed.{Changed}
use Rattle.run_effects.specs.declared.changed.Changed.TheVariants as changed

-- what a value is; a table of no places stands for a pair that is out of its block
abbrev pub kind_of : {K V : Type 0} → Node K V → Kind
kind_of (node.Pair key value) = kind.Pair
kind_of (node.Table len limit turn) = if len == 0 then kind.Pair else kind.Table len limit turn
kind_of node.Shards = kind.Shards

module _ {T : Type 0} where
  -- a store is made as a swap, which tells the word before
  abbrev pub made_as : Op T → Op T
  made_as (Store at word) = Swap at word
  made_as op = op

  -- what is answered then
  abbrev pub answered_as : Op T → Out T → Out T
  answered_as (Store at word) out = Stored
  answered_as op out = out

module _ {K V : Type 0} where
  -- what an operation, so made, has changed by its answer
  abbrev pub changed_by : Op (Node K V) → Out (Node K V) → Changed
  changed_by (Swap at new) (Found old) = changed.Wrote at old new
  changed_by (Add at by) (Found old) = changed.Wrote at old ((old + by) % 2 ^ 64)
  changed_by (Or at bits) (Found old) = changed.Wrote at old (bit_or old bits)
  changed_by (Exchange at before new) (Exchanged (Ok old)) = changed.Wrote at old new
  changed_by (Make value words) (Made (Ok b)) = changed.Made (kind_of value) b
  changed_by (Make value words) (Made (Err back)) = changed.Unmade (kind_of value)
  changed_by (Take b) out = changed.Took b
  changed_by (Room bucket) (Roomed (Ok made)) = changed.Roomed bucket true
  changed_by (Room bucket) (Roomed (Err fault)) = changed.Roomed bucket false
  changed_by _ _ = changed.Nothing

  -- the operation was made so, with this answer, and left this memory, and this is told
  abbrev pub MadeSo : {M : Type 0} → (M → Op (Node K V) → Out (Node K V) → M → Type 0) → M → Op (Node K V) → Out (Node K V) → M → Changed → Type 0
  MadeSo took m op out n told =
      (answer : Out (Node K V)) × took m (made_as op) answer n × (out ≡ answered_as op answer) × (told ≡ changed_by (made_as op) answer)

-- a block was made
abbrev pub is_made : Changed → Bool
is_made (changed.Made kind b) = true
is_made _ = false

-- whether blocks are refused stays, and where they are, none was made
abbrev pub RefusesSo : Bool → Changed → Bool → Type 0
RefusesSo refuses told still = (still ≡ refuses) × (refuses ≡ true → is_made told ≡ false)
