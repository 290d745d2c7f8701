-- What is so of a caller that has no part in a copying.
use Rattle.std.specs.Prelude.{ℕ, Bool, cond}
use Rattle.papaya_raw.specs.Given.SeizeWorld.{World}
use Rattle.papaya_raw.specs.Given.TablesChunks.{is_incremental}
use Rattle.papaya_raw.specs.Given.TablesDeclared.node.Node.{Node}
use Rattle.papaya_raw.specs.Given.TablesDeclared.setting.Setting.{Setting}
use Rattle.map_rule.specs.Chart.{Chart}
use Rattle.map_facts.specs.FactsCopies.{HasDone, ClaimsNone}
use Rattle.map_facts.specs.FactsCopiesBlocking.{HasNoShares}
use Rattle.map_rule.specs.Words.{Blocks}

module _ {K V : Type 0} (same : K → K → Bool) (hash : K → ℕ) (w : World (Node K V)) (caller : ℕ) (setting : Setting) (c : Chart K) (blocks : Blocks) where
  -- in incremental mode, it has claimed no place and has none to count; in blocking mode, it has no share of a place for any table behind the root
  abbrev pub IsIdle : Type 0
  IsIdle =
      cond (is_incremental setting.mode)
      (HasDone same hash w caller setting c blocks 0 × ClaimsNone same hash w caller setting c blocks)
      (HasNoShares same hash w caller setting c blocks)
