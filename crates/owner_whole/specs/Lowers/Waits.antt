-- What is promised of each step of a machine that answers that it waits.
use Rattle.std.specs.Prelude.{◌≡◌, ℕ, Bool, true, Option, Some, ◌⊎◌}
use Rattle.seize_words.specs.OneMemory.Mem.{Mem, Took, value_at}
use Rattle.seize_words.specs.OneMemory.Plan.{Steps}
use Rattle.seize.specs.World.{World}
use Rattle.map_tables.specs.Chunks.{is_incremental}
use Rattle.map_tables.specs.declared.node.Node.{Node}
use Rattle.papaya_raw.specs.Machine.{machine_plan}
use Rattle.papaya_raw.specs.declared.machines.call.Calling.{Calling}
use Rattle.papaya_raw.specs.declared.machines.call.Calling.TheVariants as at
use Rattle.papaya_raw.specs.declared.machines.machine.Machine.{Machine}
use Rattle.papaya_raw.specs.declared.machines.progress.Progress.TheVariants as progress
use Rattle.map_measures.specs.Given.RuleChart.{Copying, Holds}
use Rattle.owner_facts.specs.Given.CallersTogether.{UnderWay, CallOnKey, OnKey, ForRoom, Counting, OverAll}
use Rattle.owner_facts.specs.Given.FinishesEndings.{Finishing, EndingsTogether}
use Rattle.owner_facts.specs.Given.FinishesMachines.{machine_of}
use Rattle.owner_facts.specs.Given.FinishesMakings.{Beginning}
use Rattle.owner_facts.specs.Given.FinishesMaps.{Standing}
use Rattle.map_measures.specs.Waits.Waits.{CallAwaits, RoomAwaits, SweepAwaits, AnotherHolds}
use Rattle.owner_whole.specs.Lowers.Numbers.{row_within}

module _ {K V Q : Type 0} where
  -- At a try, the pair that the map has of the keys of this call is being copied out of the root, and stands at that place.
  abbrev pub AwaitsItsPair : Standing K → CallOnKey K V Q → Calling → Type 0
  AwaitsItsPair s u at.Probes =
      (n : ℕ) × (borrowed : Bool) × (s.chart.place s.chart.first u.call.trial.probe.i ≡ Holds n Copying borrowed) × (s.chart.current n ≡ true)
      × (k : K) × (s.chart.key n ≡ Some k) × (u.keys k ≡ true)
  AwaitsItsPair s u _ = Unit {0}

  -- A copying is awaited on its map: on one key in incremental mode that of the very pair that its try has come to, which is one of its keys, else that of a whole table
  -- which is not over.
  abbrev pub AwaitsACopying : Standing K → UnderWay K V Q → Type 0
  AwaitsACopying s (OnKey u) = CallAwaits s.chart (is_incremental s.setting.mode) u.call u.call.stands × AwaitsItsPair s u u.call.stands
  AwaitsACopying s (ForRoom r) = RoomAwaits s.chart (is_incremental s.setting.mode) r.reserve.stands
  AwaitsACopying s (Counting sum) = ⊥
  AwaitsACopying s (OverAll o) = SweepAwaits s.chart (is_incremental s.setting.mode) o.sweep.stands

module _ {K Q : Type 0} (V : Type 0) (same : K → K → Bool) (asks : Q → K → Bool) (batch_size roots : ℕ) (slot : ℕ → ℕ) where
  -- The promise: a machine that waits has changed no word, and stands where it stood. It waits for a copying, or, at a row of the collector, while another caller's row,
  -- and just that one, has the batch of its slot in hand.
  abbrev pub StepsWait : Type 0
  StepsWait =
      (w : World (Node K V)) (maps : ℕ → Option (Standing K)) (calls : ℕ → ℕ → Option (UnderWay K V Q))
      (makers : ℕ → Option (Beginning K)) (enders : ℕ → Option (Finishing K V))
      → EndingsTogether V same asks batch_size roots slot w maps calls makers enders
      → (m : ℕ) (s : Standing K) → maps m ≡ Some s → (i : ℕ) (u : UnderWay K V Q) → calls m i ≡ Some u
      → (m2 : Mem (Node K V)) (machine : Machine K V Q)
      → Steps Took value_at w.memory (machine_plan asks same s.hash (machine_of u)) m2 (machine, progress.Waits)
      → (m2 ≡ w.memory) × (machine ≡ machine_of u) × (AwaitsACopying s u ⊎ AnotherHolds w i (row_within (slot i) (machine_of u)))
