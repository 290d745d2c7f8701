-- What waits once all is reclaimed: pairs that maps which stand have deferred on their tables, in resizes that are unfinished.
use Rattle.std.specs.Prelude.{◌≡◌, ℕ, suc, ◌<◌, ◌≤◌, true, List, Option, Some}
use Rattle.seize_words.specs.OneMemory.Mem.{value_at}
use Rattle.seize.specs.Further.{FurtherAre}
use Rattle.seize.specs.Law.{With, where_is}
use Rattle.seize.specs.WaitingSets.{is_one_of}
use Rattle.seize.specs.World.{World, Handed}
use Rattle.seize_acts.specs.Acts.Reclaimed.{IsStillHad}
use Rattle.run_effects.specs.Given.TablesNodes.{deferred_word}
use Rattle.run_effects.specs.Given.TablesDeclared.node.Node.{Node}
use Rattle.many_maps.specs.Given.CallersKept.{IsPairOf}
use Rattle.many_maps.specs.Maps.{Standing}

module _ {K V : Type 0} (w : World (Node K V)) where
  -- The block is a pair of this map, and can be reached through the map's table with this turn alone, which is linked. So is one behind it: its resize is
  -- unfinished.
  pub record IsDeferredOn (s : Standing K) (t b : ℕ) : Type 0 where
    pub linked : s.chart.first ≤ t
    pub unfinished : suc t < s.chart.past
    pub behind : where_is b w.log ≡ With (s.blocks.table t)
    pub pair : IsPairOf w s.setting.counter b

  module _ (maps : ℕ → Option (Standing K)) where
    -- the block is that of a linked table of a map that stands
    abbrev pub IsLinkedTable : ℕ → Type 0
    IsLinkedTable b = (m : ℕ) × (s : Standing K) × (maps m ≡ Some s) × (t : ℕ) × (s.chart.first ≤ t) × (t < s.chart.past) × (b ≡ s.blocks.table t)

    -- what is put behind such a table is deferred on it
    abbrev pub TablesCarryPairs : Type 0
    TablesCarryPairs =
        (m : ℕ) (s : Standing K) → maps m ≡ Some s → (t : ℕ) → s.chart.first ≤ t → t < s.chart.past
        → (further : List ℕ) → FurtherAre deferred_word w.memory (s.blocks.table t) further → (b : ℕ) → is_one_of b further ≡ true → IsDeferredOn s t b

    -- users have no other block behind which something may be put
    abbrev pub OnlyTheyCarry : Type 0
    OnlyTheyCarry =
        (b field : ℕ) (value : Node K V) → IsStillHad (w.hand b) → value_at w.memory b ≡ Some value → deferred_word value ≡ Some field → IsLinkedTable b

    -- all that the collector has is deferred on a table of a map that stands
    abbrev pub OnlyPairsWait : Type 0
    OnlyPairsWait = (b : ℕ) → w.hand b ≡ Handed → (m : ℕ) × (s : Standing K) × (maps m ≡ Some s) × (t : ℕ) × IsDeferredOn s t b
