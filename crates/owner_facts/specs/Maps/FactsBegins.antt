-- How a map begins: what is known at each of its points, and what a step comes to.
use Rattle.std.specs.Prelude.{◌≡◌, ◌≢◌, ℕ, ◌^◌, ◌<◌, ◌≤◌, Bool, false, List, Some, max, ◌⊎◌}
use Rattle.many_maps.specs.Given.SeizeWordsDeclared.at.At.TheVariants.{Root, Used}
use Rattle.many_maps.specs.Given.SeizeWordsMem.{Mem, value_at, word_at}
use Rattle.many_maps.specs.Given.SeizeWorld.{World, Making as MadeBy, Event, Runs}
use Rattle.many_maps.specs.Given.SeizeDeclared.advance.Advance.{Advance}
use Rattle.many_maps.specs.Given.SeizeDeclared.advance.Advance.TheVariants as progress
use Rattle.many_maps.specs.Given.TablesNodes.{deferred_word}
use Rattle.many_maps.specs.Given.TablesChunks.{is_incremental}
use Rattle.many_maps.specs.Given.TablesLengths.{IsTableLen}
use Rattle.many_maps.specs.Given.ResizeNewMap.{at_root, with_counter}
use Rattle.many_maps.specs.Given.TablesDeclared.node.Node.{Node}
use Rattle.many_maps.specs.Given.TablesDeclared.node.Node.TheVariants as node
use Rattle.many_maps.specs.Given.TablesDeclared.setting.Setting.{Setting}
use Rattle.many_maps.specs.Given.ResizeDeclared.new_map.NewMap.{NewMap}
use Rattle.many_maps.specs.Given.ResizeDeclared.new_map.Opening.{Opening}
use Rattle.many_maps.specs.Given.ResizeDeclared.new_map.Opening.TheVariants as at
use Rattle.many_maps.specs.Given.RuleChart.{Chart}
use Rattle.many_maps.specs.Given.RuleRule.{no_table}
use Rattle.many_maps.specs.Given.RuleMoves.{Links, after}
use Rattle.many_maps.specs.Given.RuleWords.{Blocks}
use Rattle.many_maps.specs.Given.RuleMaps.{spot_of}
use Rattle.many_maps.specs.Given.RuleInWorld.{IsMapIn, AllUsers, SparesPairs}
use Rattle.many_maps.specs.Given.PointsFactsTables.{NewTableFacts}
use Rattle.many_maps.specs.Makings.{HasLen, HasRoots, IsTakenRoot, IsFreeRoot}
use Rattle.owner_facts.specs.Alone.FactsAloneCalls.{AloneBetweenCalls}

-- a map that begins has no table, or a first one of this length, with eight places at least
abbrev pub IsNew : {K : Type 0} → (K → ℕ) → Setting → ℕ → Chart K → Type 0
IsNew hash setting len chart =
    ((len ≡ 0) × (chart ≡ no_table)) ⊎ ((limit : ℕ) × (chart ≡ after (spot_of hash) (is_incremental setting.mode) (Links (max len 8) limit) no_table))

module _ {K V : Type 0} (same : K → K → Bool) (hash : K → ℕ) (caller : ℕ) where
  module _ (w : World (Node K V)) where
    -- the map is there, with no pair
    pub record HasBegun (setting : Setting) (len : ℕ) : Type 0 where
      pub chart : Chart K
      pub blocks : Blocks
      pub map : IsMapIn same hash setting w chart blocks
      pub new : IsNew hash setting len chart
      pub empty : (n : ℕ) → chart.current n ≡ false
      pub alone : AloneBetweenCalls (is_incremental setting.mode) caller chart
      pub used : word_at w.memory (Used setting.root) ≡ Some 1
      pub counter : w.hand setting.counter ≡ MadeBy caller

    -- what is known of a map that begins with this setting, of these roots, and with as many places
    module _ (setting : Setting) (n : NewMap) where
      -- what it knows at a point
      abbrev pub OpeningFacts : Opening → Type 0
      OpeningFacts at.Takes = (n.setting.counter ≡ setting.counter) × (n.setting.root < n.roots) × HasRoots w n.roots
      OpeningFacts at.Shards = (n.setting.counter ≡ setting.counter) × IsTakenRoot w n.setting.root
      OpeningFacts (at.Tables making) =
          (word_at w.memory (Used n.setting.root) ≡ Some 1) × (w.hand n.setting.counter ≡ MadeBy caller)
          × (blocks : Blocks) × IsMapIn same hash n.setting w no_table blocks × NewTableFacts w caller n.setting no_table blocks (Root n.setting.root) 0 making
          × HasLen (max n.len 8) making.stands
      OpeningFacts (at.Unmakes fault) = IsTakenRoot w n.setting.root × (w.hand n.setting.counter ≡ MadeBy caller) × (value_at w.memory n.setting.counter ≡ Some node.Shards)
      -- no counter was made, or it was taken away again
      OpeningFacts (at.Frees fault) = IsTakenRoot w n.setting.root × ((n.setting.counter ≡ setting.counter) ⊎ (w.hand n.setting.counter ≢ MadeBy caller))
      OpeningFacts at.Over = HasBegun n.setting n.len
      OpeningFacts (at.Refused fault) = Unit {0}

      -- it has the setting, but for the root and the counter, which it finds
      pub record BeginFacts : Type 0 where
        pub setting_is : n.setting ≡ with_counter (at_root setting n.setting.root) n.setting.counter
        pub len : max n.len 8 ≤ 2 ^ 48 → IsTableLen (max n.len 8)
        pub point : OpeningFacts n.stands

  -- other roots are as they were
  abbrev pub LeavesRoots : Mem (Node K V) → Mem (Node K V) → ℕ → Type 0
  LeavesRoots m m2 root = (r : ℕ) → r ≢ root → (word_at m2 (Root r) ≡ word_at m (Root r)) × (word_at m2 (Used r) ≡ word_at m (Used r))

  -- one that is refused gives its root up, if it has one, and else changes nothing
  abbrev pub GivesUp : World (Node K V) → World (Node K V) → ℕ → Opening → Type 0
  GivesUp w w2 root (at.Frees fault) = IsFreeRoot w2 root
  GivesUp w w2 root _ = w2.memory ≡ w.memory

  -- where a step of it led, from this point
  abbrev pub BeginOutcome : Setting → Opening → World (Node K V) → World (Node K V) → NewMap × Advance Setting → Type 0
  BeginOutcome setting stage w w2 (n, progress.Goes) = BeginFacts w2 setting n
  BeginOutcome setting stage w w2 (n, progress.Waits) = ⊥
  BeginOutcome setting stage w w2 (n, progress.Done end) =
      (end ≡ n.setting) × (n.setting ≡ with_counter (at_root setting n.setting.root) n.setting.counter) × HasBegun w2 n.setting n.len
  BeginOutcome setting stage w w2 (n, progress.Refused fault) = GivesUp w w2 n.setting.root stage

  -- A step of the beginning of a map came to this memory.
  pub record BeginStepSpec (setting : Setting) (stage : Opening) (w : World (Node K V)) (root : ℕ) (m2 : Mem (Node K V)) (end : NewMap × Advance Setting) : Type 0 where
    pub w2 : World (Node K V)
    pub events : List (Event (Node K V))
    pub users : AllUsers events
    pub runs : Runs deferred_word setting.batch_size events w w2
    pub memory : w2.memory ≡ m2
    pub others : LeavesRoots w.memory w2.memory root
    pub spares : SparesPairs w w2
    pub told : BeginOutcome setting stage w w2 end
