-- What a walk, a clearing or a retaining knows, at each of its points, in either mode.
use Rattle.std.specs.Prelude.{◌≡◌, ℕ, suc, ◌<◌, ◌≤◌, Bool, true, false, cond, ◌⊎◌}
use Rattle.map_facts.specs.Given.SeizeWorld.{World, Parting, Cutting}
use Rattle.map_facts.specs.Given.TablesChunks.{is_incremental}
use Rattle.map_facts.specs.Given.TablesDeclared.node.Node.{Node}
use Rattle.map_facts.specs.Given.TablesDeclared.setting.Setting.{Setting}
use Rattle.map_facts.specs.Given.ResizeCopierStates.{no_table}
use Rattle.map_facts.specs.Given.ResizeDeclared.copier.Copier.{Copier}
use Rattle.map_facts.specs.Given.SweepsSweepPoints.{removes}
use Rattle.map_facts.specs.Given.ReservesDeclared.sweep.Purpose.TheVariants.{Walks, Retains}
use Rattle.map_facts.specs.Given.ReservesDeclared.sweep.Sweep.{Sweep}
use Rattle.map_facts.specs.Given.ReservesDeclared.sweep.Sweeping.{Sweeping}
use Rattle.map_facts.specs.Given.ReservesDeclared.sweep.Sweeping.TheVariants as at
use Rattle.map_facts.specs.Given.RuleChart.{Still, Holds, Chart}
use Rattle.map_facts.specs.Given.RuleWords.{Blocks, place_word}
use Rattle.map_facts.specs.Given.RuleMaps.{IsTable}
use Rattle.map_facts.specs.FactsDisposes.{LiesBefore, LiesNowhere, HasLeft, DisposeFacts}
use Rattle.map_facts.specs.FactsIdle.{IsIdle}
use Rattle.map_facts_late.specs.Left.{Entered}
use Rattle.map_facts_late.specs.LateCopies.{SupersededCopierFacts}
use Rattle.map_facts_late.specs.FactsReserves.{CopiesWhole}

-- it copies pairs, and may have places that are its own to copy
abbrev pub CopiesPairs : Sweeping → Type 0
CopiesPairs (at.Copies copier) = Unit {0}
CopiesPairs _ = ⊥

module _ {K V : Type 0} (same : K → K → Bool) (hash : K → ℕ) (w : World (Node K V)) (caller : ℕ) (setting : Setting) (c : Chart K) (blocks : Blocks) (began : ℕ) where
  -- this turn is that of the root, or was: in blocking mode, since the sweep began
  abbrev pub WasRoot : ℕ → Type 0
  WasRoot t = cond (is_incremental setting.mode) (t ≤ c.first) (Entered c began t)

  -- It goes over this table. Where it has met a mark there, a table stands behind.
  pub record GoesOver (p : Sweep) (t : ℕ) : Type 0 where
    pub table : IsTable c blocks p.table t
    pub root : WasRoot t
    pub marks : p.met ≡ true → suc t < c.past

  -- it is at a place of that table
  abbrev pub AtPlace : Sweep → ℕ → Type 0
  AtPlace p t = GoesOver p t × (p.place < c.len t)

  -- it has come to no table
  abbrev pub HasNoTable : Sweep → Type 0
  HasNoTable p = (p.table ≡ no_table) × (p.place ≡ 0)

  -- a word names a pair that is not marked, and can still be looked at
  abbrev pub NamesStill : ℕ → Type 0
  NamesStill word = (n : ℕ) × (borrowed : Bool) × (n < c.stored) × (blocks.pair_known n ≡ true) × (word ≡ place_word hash c blocks (Holds n Still borrowed))

  -- it copies a whole table, which is the root, or was; or, in blocking mode, one that the root has left
  abbrev pub CopiesTable : Copier → Type 0
  CopiesTable copier =
      CopiesWhole same hash w caller setting c blocks copier
      ⊎ ((is_incremental setting.mode ≡ false) × SupersededCopierFacts same hash w caller setting c blocks began copier)

  -- the pair of a word was taken out of its table
  abbrev pub HasTaken : ℕ → ℕ → Type 0
  HasTaken removed t =
      (n : ℕ) × (borrowed : Bool) × HasLeft w caller setting c blocks n × (removed ≡ place_word hash c blocks (Holds n Still borrowed))
      × cond (cond (is_incremental setting.mode) borrowed false) ((w.hand (blocks.pair n) ≡ Parting caller) × LiesBefore w caller setting c blocks n t)
      ((w.hand (blocks.pair n) ≡ Cutting caller) × LiesNowhere w caller setting c blocks n)

  -- what a sweep knows at a point
  abbrev pub SweepingFacts : Sweep → Sweeping → Type 0
  SweepingFacts p at.Reads = HasNoTable p
  SweepingFacts p at.Follows = (t : ℕ) × IsTable c blocks p.table t × WasRoot t
  SweepingFacts p (at.Copies copier) = CopiesTable copier
  SweepingFacts p at.Ready = (p.purpose ≡ Walks) × (HasNoTable p ⊎ ((t : ℕ) × GoesOver p t × (p.place ≤ c.len t)))
  SweepingFacts p at.Words = (t : ℕ) × AtPlace p t
  SweepingFacts p (at.Asks word) = (p.purpose ≡ Retains) × NamesStill word × (t : ℕ) × AtPlace p t
  SweepingFacts p (at.Tries word) = (removes p.purpose ≡ true) × NamesStill word × (t : ℕ) × AtPlace p t
  SweepingFacts p (at.Counts removed) = (removes p.purpose ≡ true) × (t : ℕ) × AtPlace p t × HasTaken removed t
  SweepingFacts p (at.Disposes dispose) = (removes p.purpose ≡ true) × (t : ℕ) × AtPlace p t × DisposeFacts w caller setting c blocks dispose
  SweepingFacts p at.Over = Unit {0}
  SweepingFacts p (at.Refused fault) = Unit {0}

  -- what a sweep knows where it stands
  pub record SweepFacts (p : Sweep) : Type 0 where
    pub setting_is : p.setting ≡ setting
    pub idle : (CopiesPairs p.stands → ⊥) → IsIdle same hash w caller setting c blocks
    pub point : SweepingFacts p p.stands
