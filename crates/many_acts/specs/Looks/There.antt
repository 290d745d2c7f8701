-- What is promised of each step that may be taken, whatever it is one of: what it looks at is there.
use Rattle.std.specs.Prelude.{◌≡◌, ℕ, Bool, Option, Some, IsSome, ◌⊎◌}
use Rattle.run_shows.specs.Given.SeizeWordsMem.{Mem, Can, Took, value_at, word_at}
use Rattle.run_shows.specs.Given.SeizeWordsOp.{Op, Out}
use Rattle.run_shows.specs.Given.SeizeWordsPlan.{Plan, Then, Do, May}
use Rattle.run_shows.specs.Given.SeizeWordsDeclared.at.At.{At}
use Rattle.run_shows.specs.Given.SeizeDefer.{defer_plan}
use Rattle.run_shows.specs.Given.SeizeEnter.{enter_plan, unregister_plan}
use Rattle.run_shows.specs.Given.SeizeLeave.{leave_plan}
use Rattle.run_shows.specs.Given.SeizeRegister.{register_plan}
use Rattle.run_shows.specs.Given.SeizeSettle.{settle_plan}
use Rattle.run_shows.specs.Given.SeizeWorld.{World, Row, Rests, Registers, Enters, Settles, Leaves, Defers, Frees}
use Rattle.run_shows.specs.Given.TablesNodes.{deferred_word}
use Rattle.run_shows.specs.Given.TablesDeclared.node.Node.{Node}
use Rattle.run_shows.specs.Given.RawEndMap.{end_map_plan}
use Rattle.run_shows.specs.Given.ResizeNewMap.{new_map_plan}
use Rattle.run_shows.specs.Given.RawMachine.{machine_plan}
use Rattle.owner_facts.specs.Given.CallersTogether.{UnderWay}
use Rattle.owner_facts.specs.Given.FinishesEndings.{Finishing, EndingsTogether}
use Rattle.owner_facts.specs.Given.FinishesMachines.{machine_of}
use Rattle.owner_facts.specs.Given.FinishesMakings.{Beginning}
use Rattle.owner_facts.specs.Given.FinishesMaps.{Standing}
use Rattle.many_acts.specs.Looks.Blocks.{IsOn, LooksAt, MayMake}

-- if the step of this plan looks at this block, it is there, or the step may make it
abbrev pub LooksThere : {T R : Type 0} → ℕ → Mem T → Plan T R → Type 0
LooksThere b m plan = LooksAt b m plan → IsSome (value_at m b) ⊎ MayMake b m plan

-- Each block that it looks at is there before it, or it may make that one.
abbrev pub BlocksAreThere : Type 0 → Type 0 → Type 0
BlocksAreThere T R = (m : Mem T) (plan : Plan T R) → May Can Took value_at m plan → (b : ℕ) → LooksThere b m plan

-- And so is the word that its operation is on, be that one of a block, of a slot, or the link of a root.
abbrev pub WordsAreThere : Type 0 → Type 0 → Type 0
WordsAreThere T R =
    (m : Mem T) (op : Op T) (rest : Out T → Then T R) → May Can Took value_at m (Do op rest) → (at : At) → IsOn at op → IsSome (word_at m at)

-- a step of a row
abbrev pub RowLooksThere : {K V : Type 0} → ℕ → Mem (Node K V) → Row → Type 0
RowLooksThere b m Rests = Unit {0}
RowLooksThere b m (Registers c) = LooksThere b m (register_plan c)
RowLooksThere b m (Enters c) = LooksThere b m (enter_plan c)
RowLooksThere b m (Settles c) = LooksThere b m (settle_plan deferred_word c)
RowLooksThere b m (Leaves c) = LooksThere b m (leave_plan deferred_word c)
RowLooksThere b m (Defers s c) = LooksThere b m (defer_plan c)
RowLooksThere b m (Frees c) = LooksThere b m (unregister_plan c)

module _ {K Q : Type 0} (V : Type 0) (same : K → K → Bool) (asks : Q → K → Bool) (batch_size roots : ℕ) (slot : ℕ → ℕ) where
  -- The promise, of each step that may be next: one of a call on a map that stands, of the making or the end of one, or of a row, whoever takes it.
  abbrev pub StepsLookAtWhatIsThere : Type 0
  StepsLookAtWhatIsThere =
      (w : World (Node K V)) (maps : ℕ → Option (Standing K)) (calls : ℕ → ℕ → Option (UnderWay K V Q))
      (makers : ℕ → Option (Beginning K)) (enders : ℕ → Option (Finishing K V))
      → EndingsTogether V same asks batch_size roots slot w maps calls makers enders → (i b : ℕ)
      → ((m : ℕ) (s : Standing K) (u : UnderWay K V Q) → maps m ≡ Some s → calls m i ≡ Some u → LooksThere b w.memory (machine_plan asks same s.hash (machine_of u)))
      × ((making : Beginning K) → makers i ≡ Some making → LooksThere b w.memory (new_map_plan {K = K} {V = V} making.machine))
      × ((ending : Finishing K V) → enders i ≡ Some ending → LooksThere b w.memory (end_map_plan {K = K} {V = V} ending.machine))
      × RowLooksThere b w.memory (w.row i)
