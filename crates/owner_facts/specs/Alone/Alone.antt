-- What a call has changed since it began, and where no call of a map is under way, over a memory that has one owner, who is caller 0.
use Rattle.std.specs.Prelude.{◌≡◌, ℕ, ◌+◌, ◌<◌, Bool, true, cond}
use Rattle.many_maps.specs.Given.SeizeWordsMem.{Mem}
use Rattle.many_maps.specs.Given.SeizeLaw.{reachable}
use Rattle.many_maps.specs.Given.SeizeAloneAlone.{History, IsHistory, at_rest}
use Rattle.many_maps.specs.Given.TablesNodes.{deferred_word}
use Rattle.many_maps.specs.Given.TablesChunks.{is_incremental}
use Rattle.many_maps.specs.Given.TablesDeclared.node.Node.{Node}
use Rattle.many_maps.specs.Given.TablesDeclared.setting.Setting.{Setting}
use Rattle.many_maps.specs.Given.RuleChart.{Chart}
use Rattle.many_maps.specs.Given.RuleLasts.{Lasts}
use Rattle.many_maps.specs.Given.RuleWords.{Blocks}
use Rattle.many_maps.specs.Given.RuleMaps.{spot_of}
use Rattle.many_maps.specs.Given.RuleInWorld.{IsMapIn}
use Rattle.many_maps.specs.Given.PointsFactsCopies.{HasDone, ClaimsNone}
use Rattle.many_maps.specs.Given.PointsFactsCopiesBlocking.{HasNoShares}
use Rattle.many_maps.specs.Given.PointsFactsCalls.{Change, Unchanged, Stored, Replaced, Removed, Changes}
use Rattle.many_maps.specs.Given.CallersKept.{IsMaking}

-- so many pairs it has stored
abbrev pub pairs_stored : Change → ℕ
pairs_stored Unchanged = 0
pairs_stored (Stored n) = 1
pairs_stored (Replaced o n) = 1
pairs_stored (Removed o) = 0

-- a call has changed this since the map stood so
module _ {K : Type 0} (same : K → K → Bool) (hash : K → ℕ) (setting : Setting) (keys : K → Bool) (c0 : Chart K) where
  pub record HasChanged (c : Chart K) (change : Change) : Type 0 where
    pub changes : Changes same hash (is_incremental setting.mode) keys c0 c change
    pub lasts : Lasts same (spot_of hash) (is_incremental setting.mode) c0 c
    pub stored : c.stored ≡ c0.stored + pairs_stored change

module _ {K V : Type 0} (same : K → K → Bool) (hash : K → ℕ) (setting : Setting) (roots : ℕ) where
  -- caller 0 has no part in a copying
  abbrev pub IsIdleNow : Mem (Node K V) → History → Chart K → Blocks → Type 0
  IsIdleNow m h c blocks =
      cond (is_incremental setting.mode)
      (HasDone same hash (at_rest deferred_word m h) 0 setting c blocks 0 × ClaimsNone same hash (at_rest deferred_word m h) 0 setting c blocks)
      (HasNoShares same hash (at_rest deferred_word m h) 0 setting c blocks)

  -- No call of the map is under way: it stands in the memory, and what can be looked at can be reached.
  pub record MapRests (m : Mem (Node K V)) (h : History) (c : Chart K) (blocks : Blocks) : Type 0 where
    pub history : IsHistory deferred_word setting.batch_size roots m h
    pub map : IsMapIn same hash setting (at_rest deferred_word m h) c blocks
    pub tables : (t : ℕ) → t < c.past → blocks.table_known t ≡ true → reachable (blocks.table t) h.log ≡ true
    pub pairs : (n : ℕ) → n < c.stored → blocks.pair_known n ≡ true → reachable (blocks.pair n) h.log ≡ true
    pub counter : IsMaking (h.hand setting.counter)
    pub idle : IsIdleNow m h c blocks
