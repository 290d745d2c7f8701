-- What is promised of the numbers of a call under way, whichever it is: each step by which it goes on lowers them, whatever others have under way.
use Rattle.std.specs.Prelude.{◌≡◌, ℕ, Bool, length, Option, Some}
use Rattle.seize_words.specs.OneMemory.Mem.{Mem, Took, value_at}
use Rattle.seize_words.specs.OneMemory.Plan.{Steps}
use Rattle.seize.specs.World.{World, Row}
use Rattle.map_tables.specs.declared.node.Node.{Node}
use Rattle.papaya_raw.specs.Machine.{machine_plan}
use Rattle.papaya_raw.specs.declared.machines.machine.Machine.{Machine}
use Rattle.papaya_raw.specs.declared.machines.progress.Progress.{Progress}
use Rattle.papaya_raw.specs.declared.machines.progress.Progress.TheVariants as progress
use Rattle.map_measures.specs.Given.PointsMeasures.{IsBelow}
use Rattle.owner_facts.specs.Given.CallersTogether.{UnderWay}
use Rattle.owner_facts.specs.Given.FinishesEndings.{Finishing, EndingsTogether}
use Rattle.owner_facts.specs.Given.FinishesMachines.{machine_of, MachineStepsWithEndings}
use Rattle.owner_facts.specs.Given.FinishesMakings.{Beginning}
use Rattle.owner_facts.specs.Given.FinishesMaps.{Standing}
use Rattle.owner_whole.specs.Lowers.Numbers.{numbers_of}

-- A machine that tells this goes on: it has taken a step, and may have handed out a value that was reclaimed, its own pair, or the next one of a walk.
abbrev pub Continues : {T : Type 0} → Progress T → Type 0
Continues progress.Goes = Unit {0}
Continues (progress.Gave value) = Unit {0}
Continues (progress.Unstored value) = Unit {0}
Continues (progress.Pair word) = Unit {0}
Continues _ = ⊥

module _ {K Q : Type 0} (V : Type 0) (same : K → K → Bool) (asks : Q → K → Bool) (batch_size roots : ℕ) (slot : ℕ → ℕ) where
  -- The promise: there is a number of each row, by the memory, with which each step by which a machine goes on lowers the numbers of the machine. They are as
  -- many as before, so that by such steps alone it terminates, to a question, or to a step that waits.
  abbrev pub StepsLower : Type 0
  StepsLower =
      (left : Mem (Node K V) → Row → ℕ)
      × ((w : World (Node K V)) (maps : ℕ → Option (Standing K)) (calls : ℕ → ℕ → Option (UnderWay K V Q))
      (makers : ℕ → Option (Beginning K)) (enders : ℕ → Option (Finishing K V))
      → EndingsTogether V same asks batch_size roots slot w maps calls makers enders
      → (m : ℕ) (s : Standing K) → maps m ≡ Some s → (i : ℕ) (u : UnderWay K V Q) → calls m i ≡ Some u
      → (m2 : Mem (Node K V)) (machine : Machine K V Q) (told : Progress (Node K V))
      → Steps Took value_at w.memory (machine_plan asks same s.hash (machine_of u)) m2 (machine, told) → Continues told
      → (to : MachineStepsWithEndings V same asks batch_size roots slot w maps calls makers enders m s i m2 u machine told)
      → (s2 : Standing K) → to.maps2 m ≡ Some s2
      → IsBelow (numbers_of left (slot i) s2 m2 machine) (numbers_of left (slot i) s w.memory (machine_of u))
      × (length (numbers_of left (slot i) s2 m2 machine) ≡ length (numbers_of left (slot i) s w.memory (machine_of u))))
