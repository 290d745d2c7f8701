-- Reservations over a memory that has one owner, who is caller 0: a reservation takes its own steps and those of the rows of the collector that
-- retire the tables which it leaves behind, and nobody else takes any.
use Rattle.std.specs.Prelude.{◌≡◌, ℕ, suc, ◌*◌, ◌%◌, ◌<◌, ◌≤◌, ◌^◌, cond}
use Rattle.many_maps.specs.Given.SeizeWordsMem.{Mem}
use Rattle.many_maps.specs.Given.SeizeSettle.{retiring}
use Rattle.many_maps.specs.Given.TablesChunks.{is_incremental}
use Rattle.many_maps.specs.Given.TablesCounts.{count_in}
use Rattle.many_maps.specs.Given.ReservesReserve.{needed}
use Rattle.many_maps.specs.Given.ResizeDeclared.yielding.Yielding.{Yielding}
use Rattle.many_maps.specs.Given.ResizeDeclared.yielding.Yielding.TheVariants as outcome
use Rattle.many_maps.specs.Given.TablesDeclared.setting.Setting.{Setting}
use Rattle.many_maps.specs.Given.ResizeDeclared.copier.Copier.{Copier}
use Rattle.many_maps.specs.Given.ResizeDeclared.copier.Copying.{Copying}
use Rattle.many_maps.specs.Given.ResizeDeclared.copier.Copying.TheVariants as copies
use Rattle.many_maps.specs.Given.ReservesDeclared.reserve.Reserve.{Reserve}
use Rattle.many_maps.specs.Given.ReservesDeclared.reserve.Reserving.{Reserving}
use Rattle.many_maps.specs.Given.ReservesDeclared.reserve.Reserving.TheVariants as at
use Rattle.many_maps.specs.Given.RuleChart.{Chart}
use Rattle.many_maps.specs.Given.RuleWords.{Blocks}
use Rattle.owner_facts.specs.Alone.Counting.{shards_sum, count_ahead}

-- a counting will come to what the shards say
abbrev pub SumsUp : {T : Type 0} → Setting → Mem T → Reserving → Type 0
SumsUp setting m (at.Sums table sum) = count_ahead setting m sum.stands ≡ count_in (shards_sum m setting.counter (suc setting.mask) % 2 ^ 64)
SumsUp setting m _ = Unit {0}

-- In incremental mode, the table that a reservation looks at is the root, and the one that it copies into is the root, or behind it.
abbrev pub LooksAtRoot : {K : Type 0} → Chart K → Reserving → Type 0
LooksAtRoot c (at.Makes making) = c.past ≡ 0
LooksAtRoot c (at.Sums table sum) = table.turn ≡ c.first
LooksAtRoot c (at.Follows table need) = table.turn ≡ c.first
LooksAtRoot c (at.Grows table making) = table.turn ≡ c.first
LooksAtRoot c (at.Copies copier) = c.first ≤ copier.target.turn
LooksAtRoot c at.Over = ⊥
LooksAtRoot c _ = Unit {0}

-- the root has as many places as so many further pairs need, beside those that the shards of the counter say
abbrev pub RootHasPlaces : {K T : Type 0} → Setting → Mem T → Chart K → ℕ → Type 0
RootHasPlaces setting m c additional = (needed additional (count_in (shards_sum m setting.counter (suc setting.mask) % 2 ^ 64)) ≤ c.len c.first) × (c.first < c.past)

-- Where a step of a reservation leads that keeps to the root and counts what the shards say: it does so still, or has ended where the root has the places.
abbrev pub KeepsToRoot : {K T : Type 0} → Setting → Mem T → Chart K → Reserve × Yielding T Unit → Type 0
KeepsToRoot setting m c (p, outcome.Done end) = RootHasPlaces setting m c p.additional
KeepsToRoot setting m c (p, outcome.Refused fault) = Unit {0}
KeepsToRoot setting m c (p, _) = LooksAtRoot c p.stands × SumsUp setting m p.stands

module _ {K : Type 0} (setting : Setting) (c : Chart K) where
  -- the tables from this one on, up to the root, are still to be retired; in incremental mode it is one
  abbrev pub AreLeft : ℕ → Type 0
  AreLeft t = cond (is_incremental setting.mode) (suc t ≡ c.first) (t < c.first)

  -- in incremental mode, the target of a copier is the root, or behind it
  abbrev pub IsNear : Copier → Type 0
  IsNear p = cond (is_incremental setting.mode) (c.first ≤ p.target.turn) (Unit {0})

  module _ (blocks : Blocks) where
    -- The tables before this one are retired. From where the root was exchanged until the last of them is, some are left.
    abbrev pub RetiresFrom : Copier → Copying → ℕ → Type 0
    RetiresFrom p copies.Announces t = (p.source.turn ≡ t) × AreLeft t
    RetiresFrom p (copies.Succeeds table) t = (table ≡ blocks.table t * 2048) × AreLeft t
    RetiresFrom p (copies.Retires settle rest) t = (settle ≡ retiring setting.slot setting.batch_size (blocks.table t * 2048)) × AreLeft t
    RetiresFrom p _ t = t ≡ c.first

    -- what a reservation knows at a point where nobody else copies: which tables are retired, and that the table which it has read is the root
    abbrev pub ReservingAlone : ℕ → Reserving → ℕ → Type 0
    ReservingAlone additional at.Reads t = t ≡ c.first
    ReservingAlone additional (at.Makes making) t = (c.past ≡ 0) × (t ≡ c.first)
    ReservingAlone additional (at.Sums table sum) t = (table.turn ≡ c.first) × (t ≡ c.first)
    ReservingAlone additional (at.Follows table need) t = (table.turn ≡ c.first) × (t ≡ c.first)
    ReservingAlone additional (at.Grows table making) t = (table.turn ≡ c.first) × (t ≡ c.first)
    ReservingAlone additional (at.Copies copier) t = RetiresFrom copier copier.stands t × IsNear copier
    ReservingAlone additional at.Over t = ⊥
    ReservingAlone additional (at.Refused fault) t = t ≡ c.first
