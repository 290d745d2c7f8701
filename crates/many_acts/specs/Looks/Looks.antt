-- What is promised of the blocks that a step of any call looks at.
use Rattle.std.specs.Prelude.{◌≡◌, ℕ, Bool, true, Option, Some, IsSome, ◌⊎◌}
use Rattle.run_shows.specs.Given.SeizeWordsMem.{value_at}
use Rattle.run_shows.specs.Given.SeizeLaw.{holds}
use Rattle.run_shows.specs.Given.SeizeWorld.{World}
use Rattle.run_shows.specs.Given.TablesDeclared.node.Node.{Node}
use Rattle.run_shows.specs.Given.ResizeNewMap.{new_map_plan}
use Rattle.run_shows.specs.Given.ResizeDeclared.lookup.Lookup.{Lookup}
use Rattle.run_shows.specs.Given.RawMachine.{machine_plan}
use Rattle.run_shows.specs.Given.RawDeclared.machines.call.Calling.TheVariants as at
use Rattle.run_shows.specs.Given.RawDeclared.machines.machine.Machine.TheVariants as kinds
use Rattle.run_shows.specs.Given.RuleInWorld.{IsHeldBy}
use Rattle.owner_facts.specs.Given.PointsTold.{IsRowOfCall}
use Rattle.owner_facts.specs.Given.LateToldReserves.{IsRowOfReserve}
use Rattle.owner_facts.specs.Given.LateToldSweeps.{IsRowOfSweep}
use Rattle.owner_facts.specs.Given.CallersTogether.{UnderWay, CallOnKey, OnKey, ForRoom, Counting, OverAll}
use Rattle.owner_facts.specs.Given.FinishesEndings.{Finishing, EndingsTogether}
use Rattle.owner_facts.specs.Given.FinishesMachines.{machine_of}
use Rattle.owner_facts.specs.Given.FinishesMakings.{Beginning}
use Rattle.owner_facts.specs.Given.FinishesMaps.{Standing}
use Rattle.many_acts.specs.Looks.Blocks.{LooksAt, MayMake}

-- the call stands at a row of the collector
abbrev pub IsAtRow : {K V Q : Type 0} → UnderWay K V Q → Type 0
IsAtRow (OnKey u) = IsRowOfCall u.call.stands
IsAtRow (ForRoom r) = IsRowOfReserve r.reserve.stands
IsAtRow (Counting sum) = ⊥
IsAtRow (OverAll o) = IsRowOfSweep o.sweep.stands

-- The open section of this slot holds the block, or the caller has it, having made it or taken it out of its map; or it is the counter of the map.
abbrev pub IsHeldFor : {T : Type 0} → World T → ℕ → ℕ → ℕ → ℕ → Type 0
IsHeldFor w slot caller counter b = (holds slot b w.log ≡ true) ⊎ IsHeldBy caller (w.hand b) ⊎ (b ≡ counter)

module _ {K Q : Type 0} (V : Type 0) (same : K → K → Bool) (asks : Q → K → Bool) (batch_size roots : ℕ) (slot : ℕ → ℕ) where
  -- The promise: each block that the next step of a call under way looks at is there, whichever call that is, on whichever map, and whatever others have under way;
  -- and at no row, its section holds it, or its caller has it, or it is the map's counter. Or the step makes it.
  abbrev pub StepsLookAtWhatIsHeld : Type 0
  StepsLookAtWhatIsHeld =
      (w : World (Node K V)) (maps : ℕ → Option (Standing K)) (calls : ℕ → ℕ → Option (UnderWay K V Q))
      (makers : ℕ → Option (Beginning K)) (enders : ℕ → Option (Finishing K V))
      → EndingsTogether V same asks batch_size roots slot w maps calls makers enders
      → (m : ℕ) (s : Standing K) → maps m ≡ Some s → (i : ℕ) (u : UnderWay K V Q) → calls m i ≡ Some u
      → (b : ℕ) → LooksAt b w.memory (machine_plan asks same s.hash (machine_of u))
      → (IsSome (value_at w.memory b) × (IsAtRow u ⊎ IsHeldFor w (slot i) i s.setting.counter b)) ⊎ MayMake b w.memory (machine_plan asks same s.hash (machine_of u))

  -- A lookup, in either mode, looks only at what its section holds.
  abbrev pub LookupsLookAtWhatIsHeld : Type 0
  LookupsLookAtWhatIsHeld =
      (w : World (Node K V)) (maps : ℕ → Option (Standing K)) (calls : ℕ → ℕ → Option (UnderWay K V Q))
      (makers : ℕ → Option (Beginning K)) (enders : ℕ → Option (Finishing K V))
      → EndingsTogether V same asks batch_size roots slot w maps calls makers enders
      → (m : ℕ) (s : Standing K) → maps m ≡ Some s → (i : ℕ) (u : CallOnKey K V Q) → calls m i ≡ Some (OnKey u)
      → (l : Lookup) → u.call.stands ≡ at.Looks l
      → (b : ℕ) → LooksAt b w.memory (machine_plan asks same s.hash (kinds.Key u.call)) → holds (slot i) b w.log ≡ true

  -- And so it is of the making of a map: each block that its next step looks at is there, and is its caller's own, or the step makes it.
  abbrev pub MakingsLookAtTheirOwn : Type 0
  MakingsLookAtTheirOwn =
      (w : World (Node K V)) (maps : ℕ → Option (Standing K)) (calls : ℕ → ℕ → Option (UnderWay K V Q))
      (makers : ℕ → Option (Beginning K)) (enders : ℕ → Option (Finishing K V))
      → EndingsTogether V same asks batch_size roots slot w maps calls makers enders
      → (i : ℕ) (making : Beginning K) → makers i ≡ Some making → (b : ℕ) → LooksAt b w.memory (new_map_plan {K = K} {V = V} making.machine)
      → (IsSome (value_at w.memory b) × IsHeldBy i (w.hand b)) ⊎ MayMake b w.memory (new_map_plan {K = K} {V = V} making.machine)
