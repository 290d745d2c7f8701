-- How a step of a reservation moves its map, beside what it tells.
use Rattle.std.specs.Prelude.{◌≡◌, ℕ, Bool, cond}
use Rattle.map_facts.specs.Given.SeizeWordsMem.{Mem, value_at, Took}
use Rattle.map_facts.specs.Given.SeizeWordsPlan.{Steps}
use Rattle.map_facts.specs.Given.SeizeWorld.{World}
use Rattle.map_facts.specs.Given.TablesChunks.{is_incremental}
use Rattle.map_facts.specs.Given.TablesDeclared.node.Node.{Node}
use Rattle.map_facts.specs.Given.TablesDeclared.setting.Setting.{Setting}
use Rattle.map_facts.specs.Given.TablesDeclared.table.Table.{Table}
use Rattle.map_facts.specs.Given.ResizeCopier.{copier_plan}
use Rattle.map_facts.specs.Given.ResizeCopierStates.{copying_all}
use Rattle.map_facts.specs.Given.ResizeDeclared.yielding.Yielding.{Yielding}
use Rattle.map_facts.specs.Given.ResizeDeclared.yielding.Yielding.TheVariants as outcome
use Rattle.map_facts.specs.Given.ResizeDeclared.copier.Copier.{Copier}
use Rattle.map_facts.specs.Given.ReservesReserve.{copied}
use Rattle.map_facts.specs.Given.ReservesDeclared.reserve.Reserve.{Reserve}
use Rattle.map_facts.specs.Given.ReservesDeclared.reserve.Reserving.{Reserving}
use Rattle.map_facts.specs.Given.ReservesDeclared.reserve.Reserving.TheVariants as at
use Rattle.map_facts.specs.Given.RuleChart.{Chart}
use Rattle.map_facts.specs.Given.RuleWords.{Blocks}
use Rattle.map_facts.specs.FactsAloneBlocking.{AloneBlocking, LeadsAlone}
use Rattle.map_facts.specs.Measures.{OthersIdle}
use Rattle.map_facts.specs.Told.{OnlyLinks}
use Rattle.map_facts.specs.ToldMoves.{MovedAt}
use Rattle.map_facts_late.specs.ToldReserves.{WholeCopyOutcome}

-- where it copies, it begins to
abbrev pub IsFresh : Setting → Reserving → Type 0
IsFresh setting (at.Copies copier) = (source : Table) × (target : Table) × (copier ≡ copying_all setting source target)
IsFresh setting _ = Unit {0}

-- it does not wait, and if it copies then, it begins to
abbrev pub Proceeds : {T : Type 0} → Setting → Reserve × Yielding T Unit → Type 0
Proceeds setting (p, outcome.Goes) = IsFresh setting p.stands
Proceeds setting (p, outcome.Waits) = ⊥
Proceeds setting (p, outcome.Gave value) = ⊥
Proceeds setting (p, outcome.Done end) = Unit {0}
Proceeds setting (p, outcome.Refused fault) = Unit {0}

module _ {K V : Type 0} (same : K → K → Bool) (hash : K → ℕ) (caller : ℕ) (setting : Setting) (w : World (Node K V)) (c : Chart K) where
  -- of a step of its copier: in incremental mode, which change it made; in blocking mode, that it does not wait where it is alone
  abbrev pub CopierMoves : Copier → Copier × Yielding (Node K V) Table → Chart K → Type 0
  CopierMoves copier end c2 =
      cond (is_incremental setting.mode) (MovedAt hash caller c copier copier.stands end c2) (OthersIdle caller c × AloneBlocking c copier copier.stands → LeadsAlone c2 caller end)

  -- of a step of its own: beside its copying it links a table at most, and does not wait; or else its copier steps
  abbrev pub ReserveMoves : Mem (Node K V) → Reserving → Reserve × Yielding (Node K V) Unit → World (Node K V) → Chart K → Blocks → Type 0
  ReserveMoves m2 (at.Copies copier) end w2 c2 blocks2 =
      (b : Copier × Yielding (Node K V) Table) × Steps Took value_at w.memory (copier_plan hash copier) m2 b × ((p : Reserve) × (end ≡ copied p b))
      × WholeCopyOutcome w2 caller setting c2 blocks2 same hash b × CopierMoves copier b c2
  ReserveMoves m2 _ end w2 c2 blocks2 = OnlyLinks hash setting.mode c c2 × Proceeds setting end
