-- A map in the collector's world: who has its blocks, and what one step of a call of the map comes to there.
use Rattle.std.specs.Prelude.{◌≡◌, ◌≢◌, ℕ, suc, ◌<◌, ◌≤◌, Bool, true, List, [], ◌∷◌, Option, Some, None, ◌⊎◌}
use Rattle.map_machines.specs.Given.SeizeWordsDeclared.at.At.{At}
use Rattle.map_machines.specs.Given.SeizeWordsDeclared.at.At.TheVariants.{Root, Entry, Word}
use Rattle.map_machines.specs.Given.SeizeWordsMem.{Mem, value_at, word_at}
use Rattle.seize_rule.specs.Given.SeizeLaw.{With, where_is}
use Rattle.seize_rule.specs.Given.SeizeWorld.{World, Hand, NoBlock, Making, InUse, Cutting, Handed, LeftTo, Event, Makes, Drops, Links, Parts, Unlinks, Rewrites, Operates, Chooses, Runs, Parting}
use Rattle.seize_rule.specs.Given.SeizeSequence.{IsUsers}
use Rattle.map_machines.specs.Given.TablesNodes.{deferred_word}
use Rattle.map_machines.specs.Given.TablesChunks.{is_incremental}
use Rattle.map_machines.specs.Given.TablesDeclared.node.Node.{Node}
use Rattle.map_machines.specs.Given.TablesDeclared.node.Node.TheVariants as node
use Rattle.map_machines.specs.Given.TablesDeclared.resize_mode.ResizeMode.{ResizeMode}
use Rattle.map_machines.specs.Given.TablesDeclared.setting.Setting.{Setting}
use Rattle.map_rule.specs.Chart.{Phase, Holds, Chart}
use Rattle.map_rule.specs.Moves.{Move, after, Allowed}
use Rattle.map_rule.specs.Lasts.{IsBy}
use Rattle.map_rule.specs.Words.{Blocks}
use Rattle.map_rule.specs.Maps.{spot_of, IsMap}

-- the block was linked, and is neither reclaimed nor left over from what has ended
abbrev pub IsOut : Hand → Type 0
IsOut NoBlock = ⊥
IsOut (Making i) = ⊥
IsOut (InUse o) = Unit {0}
IsOut (Parting i) = Unit {0}
IsOut (Cutting i) = Unit {0}
IsOut Handed = Unit {0}
IsOut (LeftTo i) = ⊥

-- the block is in use, or whoever took it out of its map has yet to unlink or defer it
abbrev pub StandsIn : ℕ → Hand → Type 0
StandsIn o hand = (hand ≡ InUse o) ⊎ ((i : ℕ) × (hand ≡ Parting i))

module _ {K : Type 0} (same : K → K → Bool) (hash : K → ℕ) (mode : ResizeMode) where
  -- no move was made, or one that was allowed, and if it is some caller's own it is this one's
  abbrev pub Moved : ℕ → Chart K → Chart K → Type 0
  Moved caller c c2 =
      (c2 ≡ c)
      ⊎ ((move : Move K) × Allowed same (spot_of hash) (is_incremental mode) move c × (c2 ≡ after (spot_of hash) (is_incremental mode) move c)
      × ((i : ℕ) → IsBy i move → i ≡ caller))

-- blocks that can be looked at are those that they were
pub record SameBlocks {K : Type 0} (c : Chart K) (blocks blocks2 : Blocks) : Type 0 where
  pub tables : (t : ℕ) → t < c.past → blocks.table_known t ≡ true → (blocks2.table t ≡ blocks.table t) × (blocks2.table_known t ≡ true)
  pub pairs : (n : ℕ) → n < c.stored → blocks.pair_known n ≡ true → (blocks2.pair n ≡ blocks.pair n) × (blocks2.pair_known n ≡ true)
  -- and no others of those that there were
  pub tables_back : (t : ℕ) → t < c.past → blocks2.table_known t ≡ true → blocks.table_known t ≡ true
  pub pairs_back : (n : ℕ) → n < c.stored → blocks2.pair_known n ≡ true → blocks.pair_known n ≡ true

-- tables that cannot be looked at are as they were
abbrev pub SparesTables : {K : Type 0} → Chart K → Blocks → Chart K → Type 0
SparesTables c blocks c2 =
    (t : ℕ) → t < c.past → (blocks.table_known t ≡ true → ⊥)
    → ((p : ℕ) → c2.place t p ≡ c.place t p) × (c2.status t ≡ c.status t) × (c2.claim t ≡ c.claim t) × (c2.copied t ≡ c.copied t)

-- and what can be looked at could be before, or is a linked table, or a pair of the map
pub record KnownSince {K : Type 0} (c : Chart K) (blocks : Blocks) (c2 : Chart K) (blocks2 : Blocks) : Type 0 where
  pub tables : (t : ℕ) → t < c2.past → blocks2.table_known t ≡ true
      → ((t < c.past) × (blocks.table_known t ≡ true) × (blocks2.table t ≡ blocks.table t)) ⊎ (c2.first ≤ t)
  pub pairs : (n : ℕ) → n < c2.stored → blocks2.pair_known n ≡ true
      → ((n < c.stored) × (blocks.pair_known n ≡ true) × (blocks2.pair n ≡ blocks.pair n)) ⊎ (c2.current n ≡ true)

module _ {K V : Type 0} (same : K → K → Bool) (hash : K → ℕ) (setting : Setting) where
  -- a block of a pair can be reached through this table: it is in use, or parting, or a linked table carries it, this one or one behind it
  abbrev pub IsReached : World (Node K V) → Chart K → Blocks → ℕ → ℕ → Type 0
  IsReached w c blocks t n =
      StandsIn setting.counter (w.hand (blocks.pair n))
      ⊎ ((u : ℕ) × (t ≤ u) × (u < c.past) × (w.hand (blocks.pair n) ≡ Handed) × (where_is (blocks.pair n) w.log ≡ With (blocks.table u)))

  -- a map stands in the collector's world
  pub record IsMapIn (w : World (Node K V)) (c : Chart K) (blocks : Blocks) : Type 0 where
    pub map : IsMap same hash setting.mode setting.root w.memory c blocks
    -- the shards of its counter
    pub counter : value_at w.memory setting.counter ≡ Some node.Shards
    pub shards : (shard : ℕ) → shard ≤ setting.mask → (count : ℕ) × (word_at w.memory (Word setting.counter shard) ≡ Some count)
    -- linked tables, and the pairs of the map, are in use
    pub tables : (t : ℕ) → c.first ≤ t → t < c.past → w.hand (blocks.table t) ≡ InUse setting.counter
    pub pairs : (n : ℕ) → c.current n ≡ true → w.hand (blocks.pair n) ≡ InUse setting.counter
    -- what a linked table names can be reached
    pub named : (t i n : ℕ) (phase : Phase) (borrowed : Bool) → c.first ≤ t → t < c.past → c.place t i ≡ Holds n phase borrowed → IsReached w c blocks t n
    -- a call's own blocks are none of those that can be looked at
    pub tables_out : (t : ℕ) → t < c.past → blocks.table_known t ≡ true → IsOut (w.hand (blocks.table t))
    pub pairs_out : (n : ℕ) → n < c.stored → blocks.pair_known n ≡ true → IsOut (w.hand (blocks.pair n))

-- this holder has the block: it was made, taken out of its map, or unlinked by it
abbrev pub IsHeldBy : ℕ → Hand → Type 0
IsHeldBy j NoBlock = ⊥
IsHeldBy j (Making i) = i ≡ j
IsHeldBy j (InUse o) = ⊥
IsHeldBy j (Parting i) = i ≡ j
IsHeldBy j (Cutting i) = i ≡ j
IsHeldBy j Handed = ⊥
IsHeldBy j (LeftTo i) = ⊥

module _ {K V : Type 0} where
  -- What a holder has it has still, and the blocks that it made are as they were; but for counters, in which all callers count.
  pub record PreservesBlocks (j : ℕ) (m : Mem (Node K V)) (hand : ℕ → Hand) (m2 : Mem (Node K V)) (hand2 : ℕ → Hand) : Type 0 where
    pub blocks : (b : ℕ) (value : Node K V) → value_at m b ≡ Some value → value ≢ node.Shards → IsHeldBy j (hand b) → (hand2 b ≡ hand b) × (value_at m2 b ≡ Some value)
    pub words : (b field : ℕ) (value : Node K V) → value_at m b ≡ Some value → value ≢ node.Shards → hand b ≡ Making j → word_at m2 (Word b field) ≡ word_at m (Word b field)

  -- a step of this caller spares what all others have
  abbrev pub SparesOthers : ℕ → World (Node K V) → World (Node K V) → Type 0
  SparesOthers caller w w2 = (j : ℕ) → j ≢ caller → PreservesBlocks j w.memory w.hand w2.memory w2.hand

-- a table or a pair of a map that can be looked at
abbrev pub IsKnownBlock : {K : Type 0} → Chart K → Blocks → ℕ → Type 0
IsKnownBlock c blocks b =
    ((t : ℕ) × (t < c.past) × (blocks.table_known t ≡ true) × (b ≡ blocks.table t)) ⊎ ((n : ℕ) × (n < c.stored) × (blocks.pair_known n ≡ true) × (b ≡ blocks.pair n))

-- What is linked by a step of this caller it has made before, and what was linked, or was before, is not made anew. What it had made, and is out then,
-- is a table or a pair of the map.
pub record LinksItsOwn {K V : Type 0} (caller : ℕ) (w w2 : World (Node K V)) (c c2 : Chart K) (blocks2 : Blocks) : Type 0 where
  pub tables : (t : ℕ) → c.past ≤ t → t < c2.past → w.hand (blocks2.table t) ≡ Making caller
  pub pairs : (n : ℕ) → c.stored ≤ n → n < c2.stored → w.hand (blocks2.pair n) ≡ Making caller
  pub outs : (b : ℕ) (value : Node K V) → value_at w.memory b ≡ Some value → IsOut (w.hand b) → IsOut (w2.hand b)
  pub known : (b : ℕ) → w.hand b ≡ Making caller → IsOut (w2.hand b) → IsKnownBlock c2 blocks2 b

-- each of these events is one of users, none of a row
abbrev pub AllUsers : {T : Type 0} → List (Event T) → Type 0
AllUsers [] = Unit {0}
AllUsers (e ∷ events) = IsUsers e × AllUsers events

-- a block of the caller's own: it has made it, as a table or a pair to come, and not as the counter of a map
abbrev pub IsOwnBlock : {K V : Type 0} → ℕ → World (Node K V) → ℕ → Type 0
IsOwnBlock caller w b = (w.hand b ≡ Making caller) × (value_at w.memory b ≢ Some node.Shards)

-- such a block, or one of its map's that can be looked at
abbrev pub IsIts : {K V : Type 0} → ℕ → World (Node K V) → Chart K → Blocks → ℕ → Type 0
IsIts caller w c blocks b = IsOwnBlock caller w b ⊎ IsKnownBlock c blocks b

module _ {K V : Type 0} (setting : Setting) (caller : ℕ) (w : World (Node K V)) (c : Chart K) (blocks : Blocks) where
  -- such blocks alone are dropped, linked, taken out, unlinked and rewritten, and what is linked is this map's
  abbrev pub IsItsEvent : Event (Node K V) → Type 0
  IsItsEvent (Makes i value words) = Unit {0}
  IsItsEvent (Drops i b) = IsIts caller w c blocks b
  IsItsEvent (Links i b o) = IsIts caller w c blocks b × (o ≡ setting.counter)
  IsItsEvent (Parts i b) = IsIts caller w c blocks b
  IsItsEvent (Unlinks i b) = IsIts caller w c blocks b
  IsItsEvent (Rewrites i b value) = IsIts caller w c blocks b
  IsItsEvent (Operates op) = Unit {0}
  IsItsEvent (Chooses choice) = Unit {0}
  IsItsEvent _ = ⊥

  -- so does each of these events
  abbrev pub AllIts : List (Event (Node K V)) → Type 0
  AllIts [] = Unit {0}
  AllIts (e ∷ events) = IsItsEvent e × AllIts events

-- what was a table with places is that table, and nothing else becomes one, while it is there
abbrev pub StaysTable : {K V : Type 0} → Option (Node K V) → Option (Node K V) → Type 0
StaysTable (Some (node.Table (suc len) limit turn)) (Some value) = value ≡ node.Table (suc len) limit turn
StaysTable (Some before) (Some value) = deferred_word value ≡ None
StaysTable _ _ = Unit {0}

module _ {K V : Type 0} (setting : Setting) (caller : ℕ) (w : World (Node K V)) (c : Chart K) (blocks : Blocks) where
  -- What a step of this caller may write: the link to its map's root, the words of tables that can be looked at, those of its own blocks, and
  -- those of its map's counter.
  abbrev pub InFootprint : At → Type 0
  InFootprint (Root r) = r ≡ setting.root
  InFootprint (Word b field) = ((t : ℕ) × (t < c.past) × (blocks.table_known t ≡ true) × (b ≡ blocks.table t)) ⊎ IsOwnBlock caller w b ⊎ (b ≡ setting.counter)
  InFootprint (Entry b field) = w.hand b ≡ Making caller
  InFootprint _ = ⊥

  -- All else that was there is there, as it was: what others have made, other maps, the words of rows.
  pub record IsFramed (m2 : Mem (Node K V)) : Type 0 where
    pub words : (at : At) (word : ℕ) → word_at w.memory at ≡ Some word → (InFootprint at → ⊥) → word_at m2 at ≡ Some word
    pub values : (b : ℕ) (value : Node K V) → value_at w.memory b ≡ Some value → (IsOwnBlock caller w b → ⊥) → value_at m2 b ≡ Some value
    -- a table is the same one, while it is there
    pub tables : (b : ℕ) → StaysTable (value_at w.memory b) (value_at m2 b)

module _ {K V : Type 0} (same : K → K → Bool) (hash : K → ℕ) (setting : Setting) where
  -- A step of this caller came to this memory. Users' events alone lead there, one move at most was made, and more is told of where it led.
  pub record StepSpec (caller : ℕ) (w : World (Node K V)) (c : Chart K) (blocks : Blocks) (m2 : Mem (Node K V)) (Told : World (Node K V) → Chart K → Blocks → Type 0) : Type 0 where
    pub w2 : World (Node K V)
    pub c2 : Chart K
    pub blocks2 : Blocks
    pub events : List (Event (Node K V))
    pub users : AllUsers events
    pub its : AllIts setting caller w c blocks events
    pub runs : Runs deferred_word setting.batch_size events w w2
    pub memory : w2.memory ≡ m2
    pub frame : IsFramed setting caller w c blocks m2
    pub tables : SparesTables c blocks c2
    pub links : LinksItsOwn caller w w2 c c2 blocks2
    pub spares : SparesOthers caller w w2
    pub moved : Moved same hash setting.mode caller c c2
    pub map : IsMapIn same hash setting w2 c2 blocks2
    pub blocks_same : SameBlocks c blocks blocks2
    pub told : Told w2 c2 blocks2

-- Pairs that callers made and have not linked are as they were.
module _ {K V : Type 0} where
  abbrev pub SparesPairs : World (Node K V) → World (Node K V) → Type 0
  SparesPairs w w2 =
      (b j : ℕ) (k : K) (v : V) → w.hand b ≡ Making j → value_at w.memory b ≡ Some (node.Pair k v)
      → (w2.hand b ≡ Making j) × (value_at w2.memory b ≡ value_at w.memory b)
