-- The beginning of a map over a memory that has one owner, who is caller 0: it takes its own steps, and begins no row of the collector.
use Rattle.std.specs.Prelude.{◌≡◌, ℕ, ◌*◌, ◌<◌, ◌≤◌, Bool, false, Some, None, ◌⊎◌}
use Rattle.many_maps.specs.Given.SeizeWordsDeclared.at.At.TheVariants.{Root, Used, Word}
use Rattle.many_maps.specs.Given.SeizeWordsMem.{Mem, value_at, word_at}
use Rattle.many_maps.specs.Given.SeizeWorld.{Making}
use Rattle.many_maps.specs.Given.SeizeAloneAlone.{History, IsHistory, at_rest}
use Rattle.many_maps.specs.Given.SeizeDeclared.advance.Advance.{Advance}
use Rattle.many_maps.specs.Given.SeizeDeclared.advance.Advance.TheVariants as progress
use Rattle.many_maps.specs.Given.TablesNodes.{deferred_word}
use Rattle.many_maps.specs.Given.TablesChunks.{is_incremental}
use Rattle.many_maps.specs.Given.ResizeNewMap.{at_root, with_counter}
use Rattle.many_maps.specs.Given.TablesDeclared.node.Node.{Node}
use Rattle.many_maps.specs.Given.TablesDeclared.setting.Setting.{Setting}
use Rattle.many_maps.specs.Given.ResizeDeclared.new_map.NewMap.{NewMap}
use Rattle.many_maps.specs.Given.ResizeDeclared.new_map.Opening.{Opening}
use Rattle.many_maps.specs.Given.ResizeDeclared.new_map.Opening.TheVariants as at
use Rattle.many_maps.specs.Given.RuleChart.{Chart}
use Rattle.many_maps.specs.Given.RuleRule.{no_table}
use Rattle.many_maps.specs.Given.RuleWords.{Blocks}
use Rattle.owner_facts.specs.Alone.Counting.{IsCounted}
use Rattle.owner_facts.specs.Alone.FactsAloneCalls.{AloneBetweenCalls}
use Rattle.owner_facts.specs.Maps.FactsBegins.{IsNew, BeginFacts, LeavesRoots}
use Rattle.owner_facts.specs.Alone.Alone.{MapRests}
use Rattle.owner_facts.specs.Alone.Values.{HasCome, IsComing, IsMadeByOpening, IsLinkedSince}

module _ {K V : Type 0} (m0 : Mem (Node K V)) where
  -- all roots are as they were
  abbrev pub HasSameRoots : Mem (Node K V) → Type 0
  HasSameRoots m = (r : ℕ) → (word_at m (Root r) ≡ word_at m0 (Root r)) × (word_at m (Used r) ≡ word_at m0 (Used r))

  -- all blocks are as they were, with their values
  abbrev pub HasSameValues : Mem (Node K V) → Type 0
  HasSameValues m = (b : ℕ) → value_at m b ≡ value_at m0 b

  module _ (same : K → K → Bool) (hash : K → ℕ) where
    -- all but this one, which was free
    abbrev pub HasTaken : Mem (Node K V) → ℕ → Type 0
    HasTaken m root = LeavesRoots same hash 0 m0 m root × (word_at m0 (Used root) ≡ Some 0) × (word_at m0 (Root root) ≡ Some 0)

    -- which it is, at each point
    abbrev pub RootsAt : Mem (Node K V) → ℕ → Opening → Type 0
    RootsAt m root at.Takes = HasSameRoots m
    RootsAt m root (at.Refused fault) = HasSameRoots m
    RootsAt m root _ = HasTaken m root

module _ {T : Type 0} (m : Mem T) where
  -- the root leads to this block
  abbrev pub IsAtRoot : ℕ → ℕ → Type 0
  IsAtRoot root b = (0 < b) × (word_at m (Root root) ≡ Some (b * 2048))

  -- once the map has begun
  abbrev pub HasLinked : ℕ → Opening → ℕ → Type 0
  HasLinked root at.Over b = IsAtRoot root b
  HasLinked root _ b = ⊥

module _ {T : Type 0} (m : Mem T) (setting : Setting) where
  -- nothing is counted yet
  abbrev pub IsUncounted : Type 0
  IsUncounted = (shard : ℕ) → shard ≤ setting.mask → word_at m (Word setting.counter shard) ≡ Some 0

  -- once the shards are made
  abbrev pub UncountedAt : Opening → Type 0
  UncountedAt (at.Tables making) = IsUncounted
  UncountedAt at.Over = IsUncounted
  UncountedAt _ = Unit {0}

-- no slot has changed, and nothing was handed to the collector
abbrev pub HasHandedNone : History → History → Type 0
HasHandedNone h0 h = (h.before ≡ h0.before) × (h.uses ≡ h0.uses)

module _ {K V : Type 0} (same : K → K → Bool) (hash : K → ℕ) (setting : Setting) (roots len : ℕ) (m0 : Mem (Node K V)) (h0 : History) where
  -- A map is to begin with this setting, but for the root and the counter, which it finds, and with so many places.
  pub record IsOpening (n : NewMap) (m : Mem (Node K V)) (h : History) : Type 0 where
    pub history : IsHistory deferred_word setting.batch_size roots m h
    pub facts : BeginFacts same hash 0 (at_rest deferred_word m h) setting n
    pub len_is : n.len ≡ len
    pub roots_are : RootsAt m0 same hash m n.setting.root n.stands
    -- which blocks are in the memory, and with what values
    pub holds : IsComing m0 m (HasLinked m n.setting.root n.stands) (IsMadeByOpening n.setting.counter n.stands)
    pub uncounted : UncountedAt m n.setting n.stands
    pub handed : HasHandedNone h0 h

  -- It has begun, with this setting: it rests, with no pair, and with no table or a first one. Nobody has a part in a copying, its root is taken, and
  -- its caller has the block of its counter.
  pub record HasOpened (begun : Setting) (m : Mem (Node K V)) (h : History) : Type 0 where
    pub setting_is : begun ≡ with_counter (at_root setting begun.root) begun.counter
    pub chart : Chart K
    pub blocks : Blocks
    pub rests : MapRests same hash begun roots m h chart blocks
    pub new : IsNew hash begun len chart
    pub empty : (n : ℕ) → chart.current n ≡ false
    pub alone : AloneBetweenCalls (is_incremental begun.mode) 0 chart
    pub used : word_at m (Used begun.root) ≡ Some 1
    pub taken : HasTaken m0 same hash m begun.root
    pub counter : h.hand begun.counter ≡ Making 0
    -- no blocks have come but those of the counter, for which none is used that was there, and of the first table
    pub holds : HasCome m0 m (λ b. (b ≡ begun.counter) ⊎ IsLinkedSince no_table chart blocks b)
    pub fresh : value_at m0 begun.counter ≡ None
    -- the shards say how many pairs the map has
    pub counted : IsCounted begun m chart
    pub handed : HasHandedNone h0 h

  -- After a step, by what it tells. It never waits, and where it is refused it has given its root up again.
  abbrev pub OpensTo : NewMap → Mem (Node K V) → Advance Setting → Type 0
  OpensTo n m progress.Goes = (h : History) × IsOpening n m h
  OpensTo n m progress.Waits = ⊥
  OpensTo n m (progress.Done begun) = (h : History) × HasOpened begun m h
  OpensTo n m (progress.Refused fault) = (h : History) × IsHistory deferred_word setting.batch_size roots m h × HasSameRoots m0 m × HasHandedNone h0 h × HasSameValues m0 m
