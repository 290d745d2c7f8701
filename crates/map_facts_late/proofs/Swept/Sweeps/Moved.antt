-- How a step of a sweep moves its map and leads on, beside what it knows then.
use Rattle.std.specs.Prelude.{◌≡◌, ℕ, suc, ◌≤◌, Bool, true, ◌⊎◌}
use Rattle.map_facts.specs.Given.SeizeWorld.{World}
use Rattle.map_facts.specs.Given.SeizeDeclared.rows.settle.Settled.{Settled}
use Rattle.map_facts.specs.Given.TablesChunks.{is_incremental}
use Rattle.map_facts.specs.Given.TablesDeclared.node.Node.{Node}
use Rattle.map_facts.specs.Given.TablesDeclared.setting.Setting.{Setting}
use Rattle.map_facts.specs.Given.TablesDeclared.table.Table.{Table}
use Rattle.map_facts.specs.Given.ResizeCopierStates.{copying_all}
use Rattle.map_facts.specs.Given.ResizeDispose.{disposing}
use Rattle.map_facts.specs.Given.ResizeDeclared.copier.Copier.{Copier}
use Rattle.map_facts.specs.Given.ResizeDeclared.dispose.Dispose.{Dispose}
use Rattle.map_facts.specs.Given.ResizeDeclared.yielding.Yielding.{Yielding}
use Rattle.map_facts.specs.Given.ResizeDeclared.yielding.Yielding.TheVariants as outcome
use Rattle.map_facts.specs.Given.SweepsSweep.{copied, disposed}
use Rattle.map_facts.specs.Given.SweepsSweepPoints.{tableless, entering, beginning, told, telling, going, seen}
use Rattle.map_facts.specs.Given.ReservesDeclared.sweep.Sweep.{Sweep}
use Rattle.map_facts.specs.Given.ReservesDeclared.sweep.Sweeping.{Sweeping}
use Rattle.map_facts.specs.Given.ReservesDeclared.sweep.Sweeping.TheVariants as at
use Rattle.map_facts.specs.Given.ReservesDeclared.sweep.Swept.{Swept}
use Rattle.map_facts.specs.Given.RuleChart.{Still, Chart}
use Rattle.map_facts.specs.Given.RuleMoves.{Removes, after}
use Rattle.map_facts.specs.Given.RuleWords.{Blocks, place_word}
use Rattle.map_facts.specs.Given.RuleMaps.{spot_of, IsTable}
use Rattle.map_facts.specs.Given.RuleInWorld.{StepSpec}
use Rattle.map_facts.specs.Given.SeizeWordsMem.{Mem}
use Rattle.map_facts_late.specs.FactsSweeps.{WasRoot}
use Rattle.map_facts_late.specs.ToldSweeps.{NamesThere, SweepAfter}

module _ {K V : Type 0} (same : K → K → Bool) (hash : K → ℕ) (caller : ℕ) (setting : Setting) (began : ℕ) where
  -- where its copier has ended, the table was the root's
  abbrev pub EndsWith : World (Node K V) → Chart K → Blocks → Copier × Yielding (Node K V) Table → Type 0
  EndsWith w2 c2 blocks2 (copier, outcome.Done table) = (t : ℕ) × IsTable c2 blocks2 table t × WasRoot same hash w2 caller setting c2 blocks2 began t
  EndsWith w2 c2 blocks2 _ = Unit {0}

module _ {K V : Type 0} (same : K → K → Bool) (hash : K → ℕ) (caller : ℕ) (setting : Setting) (began : ℕ) (w : World (Node K V)) (c : Chart K) (blocks : Blocks) (p : Sweep) where
  -- it has read the word of its place
  abbrev pub Sees : Sweep × Swept (Node K V) → Type 0
  Sees end = (t : ℕ) × IsTable c blocks p.table t × (end ≡ seen p (place_word hash c blocks (c.place t p.place)))

  -- it has removed the pair of its place
  abbrev pub Removing : ℕ → Sweep × Swept (Node K V) → Chart K → Type 0
  Removing word end c2 =
      (n : ℕ) × (there : NamesThere hash c blocks p word n Still) × (c.current n ≡ true)
      × (c2 ≡ after (spot_of hash) (is_incremental setting.mode) (Removes there.0 p.place) c) × (end ≡ going p (at.Counts word))

  -- where each step leads
  abbrev pub SweepMoves : Sweeping → Sweep × Swept (Node K V) → World (Node K V) → Chart K → Blocks → Type 0
  SweepMoves at.Reads end w2 c2 blocks2 =
      (c2 ≡ c) × (blocks2 ≡ blocks)
      × (((c.past ≤ c.first) × (end ≡ telling (tableless p))) ⊎ ((table : Table) × IsTable c blocks table c.first × (end ≡ telling (entering p table))))
  SweepMoves at.Follows end w2 c2 blocks2 =
      (c2 ≡ c) × (blocks2 ≡ blocks)
      × (t : ℕ) × IsTable c blocks p.table t
      × (((c.past ≤ suc t) × (end ≡ telling (beginning p))) ⊎ ((next : Table) × (end ≡ going p (at.Copies (copying_all p.setting p.table next)))))
  SweepMoves (at.Copies copier) end w2 c2 blocks2 =
      (c2.current ≡ c.current) × (b : Copier × Yielding (Node K V) Table) × (end ≡ copied p b) × EndsWith same hash caller setting began w2 c2 blocks2 b
  SweepMoves at.Words end w2 c2 blocks2 = (c2 ≡ c) × (blocks2 ≡ blocks) × Sees end
  SweepMoves (at.Tries word) end w2 c2 blocks2 = (blocks2 ≡ blocks) × (((c2 ≡ c) × Sees end) ⊎ Removing word end c2)
  SweepMoves (at.Counts removed) end w2 c2 blocks2 = (c2 ≡ c) × (end ≡ going p (at.Disposes (disposing p.setting removed p.table)))
  SweepMoves (at.Disposes dispose) end w2 c2 blocks2 = (c2 ≡ c) × (b : Dispose × Settled (Node K V)) × (end ≡ disposed p b)
  SweepMoves stage end w2 c2 blocks2 = (c2 ≡ c) × (end ≡ (p, told stage))

  -- what each step tells
  abbrev pub SweepTells : Sweeping → Sweep × Swept (Node K V) → World (Node K V) → Chart K → Blocks → Type 0
  SweepTells stage end w2 c2 blocks2 = SweepAfter same hash caller setting began w2 c2 blocks2 end × SweepMoves stage end w2 c2 blocks2

  abbrev pub SweepWent : Mem (Node K V) → Sweeping → Sweep × Swept (Node K V) → Type 0
  SweepWent m2 stage end = StepSpec same hash setting caller w c blocks m2 (SweepTells stage end)
