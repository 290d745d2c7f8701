-- What a step of a reservation tells, beside where it led.
use Rattle.std.specs.Prelude.{◌≡◌, ℕ, ◌≤◌, Bool, true, cond}
use Rattle.map_facts.specs.Given.SeizeWorld.{World}
use Rattle.map_facts.specs.Given.TablesChunks.{is_incremental}
use Rattle.map_facts.specs.Given.TablesDeclared.node.Node.{Node}
use Rattle.map_facts.specs.Given.ResizeDeclared.yielding.Yielding.{Yielding}
use Rattle.map_facts.specs.Given.ResizeDeclared.yielding.Yielding.TheVariants as outcome
use Rattle.map_facts.specs.Given.TablesDeclared.setting.Setting.{Setting}
use Rattle.map_facts.specs.Given.TablesDeclared.table.Table.{Table}
use Rattle.map_facts.specs.Given.ResizeDeclared.copier.Copier.{Copier}
use Rattle.map_facts.specs.Given.ReservesDeclared.reserve.Reserve.{Reserve}
use Rattle.map_facts.specs.Given.ReservesDeclared.reserve.Reserving.{Reserving}
use Rattle.map_facts.specs.Given.ReservesDeclared.reserve.Reserving.TheVariants as at
use Rattle.map_facts.specs.Given.RuleChart.{Chart}
use Rattle.map_facts.specs.Given.RuleWords.{Blocks}
use Rattle.map_facts.specs.Given.RuleMaps.{IsTable}
use Rattle.map_facts.specs.Told.{IsRowOfCopier, CopierOutcome, CopierOutcomeBlocking, OnlyLinks}
use Rattle.map_facts.specs.FactsIdle.{IsIdle}
use Rattle.map_facts_late.specs.FactsReserves.{CopiesPairs, IsEnding, ReserveFacts}

module _ {K V : Type 0} (w : World (Node K V)) (caller : ℕ) (setting : Setting) (c : Chart K) (blocks : Blocks) (same : K → K → Bool) (hash : K → ℕ) where
  -- in incremental mode, the copying of a whole table ends with one that is the root, or was
  abbrev pub EndsAtRoot : Copier × Yielding (Node K V) Table → Type 0
  EndsAtRoot (p, outcome.Done table) = (t : ℕ) × IsTable c blocks table t × (t ≤ c.first)
  EndsAtRoot (p, outcome.Refused fault) = Unit {0}
  EndsAtRoot (p, _) = IsEnding same hash w caller setting c blocks p p.stands

  -- a step of the copying of a whole table
  abbrev pub WholeCopyOutcome : Copier × Yielding (Node K V) Table → Type 0
  WholeCopyOutcome end =
      cond (is_incremental setting.mode)
      (CopierOutcome w caller setting c blocks same hash end × (end.0.whole ≡ true) × EndsAtRoot end)
      (CopierOutcomeBlocking w caller setting c blocks same hash end)

  -- a reservation ends with no part in a copying
  abbrev pub ReserveAfter : Reserve × Yielding (Node K V) Unit → Type 0
  ReserveAfter (p, outcome.Goes) = ReserveFacts same hash w caller setting c blocks p
  ReserveAfter (p, outcome.Waits) = ReserveFacts same hash w caller setting c blocks p
  ReserveAfter (p, outcome.Gave value) = ⊥
  ReserveAfter (p, outcome.Done end) = IsIdle same hash w caller setting c blocks
  ReserveAfter (p, outcome.Refused fault) = IsIdle same hash w caller setting c blocks

-- A step of a reservation changes no pair of the map, and beside its copying it links a table at most.
pub record ReserveOutcome {K V : Type 0} (same : K → K → Bool) (hash : K → ℕ) (caller : ℕ) (setting : Setting) (c : Chart K) (p : Reserve) (w2 : World (Node K V)) (c2 : Chart K) (blocks2 : Blocks)
    (p2 : Reserve) (end : Yielding (Node K V) Unit) : Type 0 where
  pub facts : ReserveAfter w2 caller setting c2 blocks2 same hash (p2, end)
  pub same_pairs : c2.current ≡ c.current
  pub beside : (CopiesPairs p.stands → ⊥) → OnlyLinks hash setting.mode c c2

-- the steps in which a row of the collector is under way
abbrev pub IsRowOfReserve : Reserving → Type 0
IsRowOfReserve (at.Copies copier) = IsRowOfCopier copier.stands
IsRowOfReserve _ = ⊥
