-- What is promised of each step of a machine that looks up a key.
use Rattle.std.specs.Prelude.{◌≡◌, ℕ, suc, ◌≤◌, Bool, List, Option, Some, ◌⊎◌}
use Rattle.seize_words.specs.OneMemory.Mem.{Mem, Took, value_at}
use Rattle.seize_words.specs.OneMemory.Plan.{Steps}
use Rattle.seize.specs.World.{World}
use Rattle.map_tables.specs.declared.node.Node.{Node}
use Rattle.map_tables.specs.declared.table.Table.{Table}
use Rattle.map_measures.specs.Given.ResizeDeclared.lookup.Lookup.{Lookup}
use Rattle.map_measures.specs.Given.ResizeDeclared.lookup.Looking.{Looking}
use Rattle.papaya_raw.specs.Machine.{machine_plan}
use Rattle.papaya_raw.specs.declared.machines.call.Calling.TheVariants as at
use Rattle.papaya_raw.specs.declared.machines.call.KeyCall.{KeyCall}
use Rattle.papaya_raw.specs.declared.machines.machine.Machine.{Machine}
use Rattle.papaya_raw.specs.declared.machines.machine.Machine.TheVariants as kinds
use Rattle.papaya_raw.specs.declared.machines.progress.Answer.{Answer}
use Rattle.papaya_raw.specs.declared.machines.progress.Progress.{Progress}
use Rattle.papaya_raw.specs.declared.machines.progress.Progress.TheVariants as progress
use Rattle.map_measures.specs.Given.PointsMeasuresLooks.{IsLoad, HasLooked, entered, most_loads, OneBehindTheOther}
use Rattle.owner_facts.specs.Given.CallersTogether.{UnderWay}
use Rattle.owner_facts.specs.Given.FinishesEndings.{Finishing, EndingsTogether}
use Rattle.owner_facts.specs.Given.FinishesMachines.{machine_of}
use Rattle.owner_facts.specs.Given.FinishesMakings.{Beginning}
use Rattle.owner_facts.specs.Given.FinishesMaps.{Standing}

-- the machine looks up a key, and stands here in that
abbrev pub LooksAt : {K V Q : Type 0} → Looking → Machine K V Q → Type 0
LooksAt {K} {V} {Q} here machine = (call : KeyCall K V Q) × (lookup : Lookup) × (machine ≡ kinds.Key call) × (call.stands ≡ at.Looks lookup) × (lookup.stands ≡ here)

module _ {K Q : Type 0} (V : Type 0) (same : K → K → Bool) (asks : Q → K → Bool) (batch_size roots : ℕ) (slot : ℕ → ℕ) where
  -- It has answered, or goes on as a lookup that has made one load more, and has entered no further table but the one of its next try.
  abbrev pub LooksOn : Looking → List Table → ℕ → Machine K V Q × Progress (Node K V) → Type 0
  LooksOn here tables loads (machine, told) =
      ((answer : Answer) × (told ≡ progress.Done answer))
      ⊎ ((told ≡ progress.Goes) × (there : Looking) × LooksAt there machine × HasLooked there (entered here there tables) (suc loads))

  -- The promise: a lookup that has entered these tables, and has made so many loads, makes one by its next step, and no other operation. With that it has made no
  -- more than one for the root, and in each of these one for each try and one for the link behind; and none of these was entered twice.
  abbrev pub LookupsStepByLoads : Type 0
  LookupsStepByLoads =
      (w : World (Node K V)) (maps : ℕ → Option (Standing K)) (calls : ℕ → ℕ → Option (UnderWay K V Q))
      (makers : ℕ → Option (Beginning K)) (enders : ℕ → Option (Finishing K V))
      → EndingsTogether V same asks batch_size roots slot w maps calls makers enders
      → (m : ℕ) (s : Standing K) → maps m ≡ Some s → (i : ℕ) (u : UnderWay K V Q) → calls m i ≡ Some u
      → (here : Looking) → LooksAt here (machine_of u) → (tables : List Table) (loads : ℕ) → HasLooked here tables loads
      → IsLoad (machine_plan asks same s.hash (machine_of u)) × (suc loads ≤ most_loads tables) × OneBehindTheOther tables
      × ((m2 : Mem (Node K V)) (end : Machine K V Q × Progress (Node K V)) → Steps Took value_at w.memory (machine_plan asks same s.hash (machine_of u)) m2 end → LooksOn here tables loads end)
