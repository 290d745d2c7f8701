-- How a map ends while others take their steps: what is known at each of its points, of its own blocks, its root, and what waits behind it.
use Rattle.std.specs.Prelude.{◌≡◌, ◌≢◌, ℕ, suc, ◌-◌, ◌*◌, ◌/◌, ◌<◌, ◌≤◌, Bool, true, false, cond, List, [], ◌∷◌, ◌++◌, map, Some, None, IsSome, ◌⊎◌}
use Rattle.many_calls.specs.Given.SeizeWordsDeclared.at.At.{At}
use Rattle.many_calls.specs.Given.SeizeWordsDeclared.at.At.TheVariants.{Root, Used, Entry, Word}
use Rattle.many_calls.specs.Given.SeizeWordsOp.{Store}
use Rattle.many_calls.specs.Given.SeizeWordsMem.{Mem, value_at, word_at}
use Rattle.many_calls.specs.Given.SeizeDeclared.states.TheConstants.{NEXT}
use Rattle.many_calls.specs.Given.SeizeDeclared.rows.settle.Settled.{Settled}
use Rattle.many_calls.specs.Given.SeizeDeclared.rows.settle.Settled.TheVariants as settled
use Rattle.many_calls.specs.Given.SeizeFurther.{ListFrom, FurtherAre}
use Rattle.many_calls.specs.Given.SeizeLaw.{With, where_is, holds, is_over, is_orphan, owner_of, Standing}
use Rattle.many_calls.specs.Given.SeizeWorld.{World, Handed, LeftTo, InUse, IsOnto, Event, Unlinks, LeavesOver, Clears, Relinks, Drops, Operates, Runs, times}
use Rattle.many_calls.specs.Given.TablesNodes.{deferred_word}
use Rattle.many_calls.specs.Given.TablesChunks.{is_incremental}
use Rattle.many_calls.specs.Given.TablesDeclared.node.Node.{Node}
use Rattle.many_calls.specs.Given.TablesDeclared.node.Node.TheVariants as node
use Rattle.many_calls.specs.Given.TablesDeclared.setting.Setting.{Setting}
use Rattle.many_calls.specs.Given.TablesDeclared.table.Table.{Table}
use Rattle.many_calls.specs.Given.TablesDeclared.table_words.TheConstants.{DEFERRED}
use Rattle.many_calls.specs.Given.RawDeclared.machines.end_map.EndMap.{EndMap}
use Rattle.many_calls.specs.Given.RawDeclared.machines.end_map.Ending.{Ending}
use Rattle.many_calls.specs.Given.RawDeclared.machines.end_map.Ending.TheVariants as at
use Rattle.many_calls.specs.Given.RuleChart.{Chart}
use Rattle.many_calls.specs.Given.RuleWords.{Blocks, next_word, root_word}
use Rattle.many_calls.specs.Given.RuleInWorld.{IsMapIn}
use Rattle.many_calls.specs.Kept.{IsMaking, IsPairOf}
use Rattle.many_maps.specs.Orders.{pairs_from, pairs_behind, tables_from, waits_from, waits_in, all_back}

-- what a step of the end of a map does, beside reading
pub data Deed : Type 0 where
  Looks : Deed  -- nothing
  TakesPair : ℕ → Deed  -- it reclaims a pair that was in use
  LeavesTable : ℕ → List ℕ → Deed  -- it leaves a table over, with the pairs that it carries
  JoinsPair : ℕ → ℕ → Deed  -- it writes the link of a pair that waits
  TakesLeft : ℕ → Deed  -- it reclaims a block that was left over
  TakesCounter : ℕ → Deed  -- it reclaims the counter
  WritesRoot : At → ℕ → Deed  -- it writes a word of its root

-- the events that it is made up of, by this caller
abbrev pub events_of : {T : Type 0} → ℕ → Deed → List (Event T)
events_of i Looks = []
events_of i (TakesPair b) = Unlinks i b ∷ LeavesOver i b [] ∷ Clears i b ∷ []
events_of i (LeavesTable b further) = Unlinks i b ∷ LeavesOver i b further ∷ []
events_of i (JoinsPair b word) = Relinks i b word ∷ []
events_of i (TakesLeft b) = Clears i b ∷ []
events_of i (TakesCounter b) = Drops i b ∷ []
events_of i (WritesRoot at word) = Operates (Store at word) ∷ []

-- the blocks that it reclaims
abbrev pub taken_by : Deed → List ℕ
taken_by (TakesPair b) = b ∷ []
taken_by (TakesLeft b) = b ∷ []
taken_by (TakesCounter b) = b ∷ []
taken_by _ = []

-- those that it leaves over
abbrev pub left_by : Deed → List ℕ
left_by (LeavesTable b further) = b ∷ further
left_by _ = []

-- those that it unlinks
abbrev pub cut_by : Deed → List ℕ
cut_by (TakesPair b) = b ∷ []
cut_by (LeavesTable b further) = b ∷ []
cut_by _ = []

-- those whose link it writes
abbrev pub joined_by : Deed → List ℕ
joined_by (JoinsPair b word) = b ∷ []
joined_by _ = []

-- What a deed of this caller, for a map of this setting, leaves to all others: all but the blocks that it reclaims, leaves over or links, and its root.
pub record Spares {T : Type 0} (setting : Setting) (caller : ℕ) (w w2 : World T) (deed : Deed) : Type 0 where
  pub values : (x : ℕ) → times x (taken_by deed) ≡ 0 → value_at w2.memory x ≡ value_at w.memory x
  pub words : (x i : ℕ) → times x (taken_by deed) ≡ 0 → word_at w2.memory (Word x i) ≡ word_at w.memory (Word x i)
  pub links : (x : ℕ) → times x (taken_by deed) ≡ 0 → times x (joined_by deed) ≡ 0 → word_at w2.memory (Entry x NEXT) ≡ word_at w.memory (Entry x NEXT)
  pub gone : (x : ℕ) → 0 < times x (taken_by deed) → value_at w2.memory x ≡ None
  pub hands : (x : ℕ) → times x (taken_by deed) ≡ 0 → times x (left_by deed) ≡ 0 → w2.hand x ≡ w.hand x
  pub left : (x : ℕ) → 0 < times x (left_by deed) → w2.hand x ≡ LeftTo caller
  -- a block can be reached as before, but through one that was unlinked
  pub places : (x : ℕ) → times x (taken_by deed) ≡ 0 → times x (cut_by deed) ≡ 0 → ((b : ℕ) → where_is x w.log ≡ With b → times b (cut_by deed) ≡ 0) → where_is x w2.log ≡ where_is x w.log
  pub behind : (x b : ℕ) → where_is x w2.log ≡ With b → where_is x w.log ≡ With b
  pub held : (s x : ℕ) → times x (taken_by deed) ≡ 0 → holds s x w2.log ≡ holds s x w.log
  pub freed : (s x : ℕ) → 0 < times x (taken_by deed) → holds s x w2.log ≡ false
  pub owners : (x : ℕ) → owner_of x w2.log ≡ owner_of x w.log
  pub orphans : (x : ℕ) → is_orphan x w2.log ≡ is_orphan x w.log
  pub overs : (x : ℕ) → is_over x w2.log ≡ is_over x w.log
  pub roots : (r : ℕ) → r ≢ setting.root → (word_at w2.memory (Root r) ≡ word_at w.memory (Root r)) × (word_at w2.memory (Used r) ≡ word_at w.memory (Used r))
  pub slots : w2.memory.slots ≡ w.memory.slots
  pub uses : w2.uses ≡ w.uses
  pub rows : w2.row ≡ w.row

-- a list of blocks begins with the word `first`, and `last` links to its last block
abbrev pub IsJoined : {T : Type 0} → Mem T → ℕ → ℕ → List ℕ → Type 0
IsJoined m first last list =
    ((list ≡ []) × (first ≡ 0)) ⊎ ((done : List ℕ) × (p : ℕ) × (list ≡ done ++ p ∷ []) × (last ≡ p * 2048) × ListFrom m first (done ++ p ∷ []))

-- what waits, waits behind the root of this setting; without it the root is free
module _ {K V : Type 0} (setting : Setting) where
  abbrev pub RootIs : Mem (Node K V) → List ℕ → Type 0
  RootIs m [] = (word_at m (Root setting.root) ≡ Some 0) × (word_at m (Used setting.root) ≡ Some 0)
  RootIs m (x ∷ list) = (word : ℕ) × (word_at m (Root setting.root) ≡ Some word) × ListFrom m word (x ∷ list) × (word_at m (Used setting.root) ≡ Some 1)

-- the root leads to the map until it is written, and it is taken until it is given up
abbrev pub RootAt : {K V : Type 0} → (K → ℕ) → Setting → Chart K → Blocks → Mem (Node K V) → Ending → Type 0
RootAt hash setting c blocks m at.Frees = (word_at m (Root setting.root) ≡ Some 0) × (word_at m (Used setting.root) ≡ Some 1)
RootAt hash setting c blocks m at.Over = Unit {0}
RootAt hash setting c blocks m _ = (word_at m (Root setting.root) ≡ Some (root_word hash c blocks)) × (word_at m (Used setting.root) ≡ Some 1)

-- a block in use has this list of further values, which the collector has, each once
pub record HasDeferred {K V : Type 0} (w : World (Node K V)) (b : ℕ) (list : List ℕ) : Type 0 where
  pub are : FurtherAre deferred_word w.memory b list
  pub once : (x : ℕ) → times x list ≤ 1
  pub theirs : (x : ℕ) → 0 < times x list → (w.hand x ≡ Handed) × (where_is x w.log ≡ With b) × IsSome (value_at w.memory x)
  pub all : (x : ℕ) → where_is x w.log ≡ With b → 0 < times x list

module _ {K V : Type 0} (owner : ℕ) where
  -- from one world to another the block has its value; its owner is this one, which has ended, and nobody looks at the block any more
  pub record IsOverStill (w0 w : World (Node K V)) (b : ℕ) : Type 0 where
    pub value : value_at w.memory b ≡ value_at w0.memory b
    pub owner_is : owner_of b w.log ≡ owner
    pub orphan : is_orphan b w.log ≡ true
    pub over : is_over b w.log ≡ true

  -- it is in use, and no row is putting another block behind it
  abbrev pub IsUsedYet : World (Node K V) → ℕ → Type 0
  IsUsedYet w b = (w.hand b ≡ InUse owner) × ((j : ℕ) → IsOnto b (w.row j) → ⊥)

module _ {K : Type 0} (setting : Setting) (c : Chart K) (blocks : Blocks) (lists : ℕ → List ℕ) (owns : Bool) where
  -- all blocks that are reclaimed, in order
  abbrev pub back_of : List ℕ
  back_of = all_back c blocks lists (is_incremental setting.mode) owns setting.counter

  -- those from this table on
  abbrev pub from_table : ℕ → List ℕ
  from_table t = tables_from c blocks lists owns setting.counter t

  -- the pairs from this place on, and the tables
  abbrev pub from_place : ℕ → ℕ → List ℕ
  from_place t i =
      map blocks.pair (pairs_from (is_incremental setting.mode) c t i (c.len t - i) ++ pairs_behind (is_incremental setting.mode) c t) ++ from_table c.first

  -- what waits from this table on, and of those before it
  abbrev pub wait_from : ℕ → List ℕ
  wait_from t = waits_from c blocks lists owns t

  abbrev pub wait_before : ℕ → List ℕ
  wait_before t = waits_in blocks.table lists owns c.first (t - c.first)

  -- the table with this turn
  abbrev pub table_of : ℕ → Table
  table_of t = record { link = blocks.table t * 2048; len = c.len t; limit = c.limit t; turn = t }

  -- it has come to this table
  pub record IsAt (e : EndMap) (t : ℕ) : Type 0 where
    pub table : e.table ≡ table_of t
    pub from : c.first ≤ t
    pub made : t < c.past

  -- and to its pairs
  pub record AtPairs (e : EndMap) (past t : ℕ) : Type 0 where
    pub here : IsAt e t
    pub home : cond (is_incremental setting.mode) (c.first ≤ t) (t ≡ c.first)
    pub root : e.root ≡ table_of c.first
    pub none_left : past ≡ c.first
    pub none_joined : e.first ≡ 0

  -- What a step does, it does to what the map has: a table that it leaves over is the next one, with what that carries.
  abbrev pub IsItsDeed : {V : Type 0} → ℕ → World (Node K V) → ℕ → ℕ → Deed → Type 0
  IsItsDeed i w past past2 Looks = past2 ≡ past
  IsItsDeed i w past past2 (TakesPair b) = (past2 ≡ past) × (w.hand b ≡ InUse setting.counter) × (n : ℕ) × (c.current n ≡ true) × (b ≡ blocks.pair n)
  IsItsDeed i w past past2 (LeavesTable b further) =
      (past2 ≡ suc past) × (w.hand b ≡ InUse setting.counter) × HasDeferred w b further × (c.first ≤ past) × (past < c.past) × (b ≡ blocks.table past) × (further ≡ lists past)
  IsItsDeed i w past past2 (JoinsPair b word) = (past2 ≡ past) × (w.hand b ≡ LeftTo i) × (0 < times b (wait_before past))
  IsItsDeed i w past past2 (TakesLeft b) =
      (past2 ≡ past) × (w.hand b ≡ LeftTo i) × ((owns ≡ true) ⊎ ((t : ℕ) × (c.first ≤ t) × (t < c.past) × (b ≡ blocks.table t)))
  IsItsDeed i w past past2 (TakesCounter b) = (past2 ≡ past) × (b ≡ setting.counter) × IsMaking (w.hand b)
  IsItsDeed i w past past2 (WritesRoot at word) = (past2 ≡ past) × ((at ≡ Root setting.root) ⊎ (at ≡ Used setting.root))

  module _ {V : Type 0} (caller : ℕ) (w0 w : World (Node K V)) (past : ℕ) where
    -- A table that is still there: the tables before this one are left over, and the later ones are in use, with what they carry now.
    pub record IsTableYet (t : ℕ) : Type 0 where
      pub still : IsOverStill setting.counter w0 w (blocks.table t)
      pub words : (i word : ℕ) → i ≢ DEFERRED → word_at w0.memory (Word (blocks.table t) i) ≡ Some word → word_at w.memory (Word (blocks.table t) i) ≡ Some word
      pub used : past ≤ t → IsUsedYet setting.counter w (blocks.table t)
      pub carries : past ≤ t → HasDeferred w (blocks.table t) (lists t)
      pub left : t < past → (w.hand (blocks.table t) ≡ LeftTo caller) × (times (blocks.table t) (wait_before past) ≡ 0)

    -- Since the map was to end these blocks were reclaimed, and its others are still there. What waits is left to this caller, each block once.
    pub record Since (back : List ℕ) : Type 0 where
      pub tables : (t : ℕ) → c.first ≤ t → t < c.past → times (blocks.table t) back ≡ 0 → IsTableYet t
      pub pairs : (n : ℕ) → c.current n ≡ true → times (blocks.pair n) back ≡ 0
          → IsOverStill setting.counter w0 w (blocks.pair n) × IsUsedYet setting.counter w (blocks.pair n)
      pub counter : times setting.counter back ≡ 0 → (value_at w.memory setting.counter ≡ Some node.Shards) × IsMaking (w.hand setting.counter)
      pub once : (x : ℕ) → times x (wait_before past) ≤ 1
      pub waits : (x : ℕ) → 0 < times x (wait_before past) → w.hand x ≡ LeftTo caller
      -- what tables carry is reclaimed at once where the map owns its collector: no section holds anything
      pub free : owns ≡ true → (s x : ℕ) → holds s x w.log ≡ false

  -- whatever can be reached through a table of the map, from this one on, is a pair of the map's
  abbrev pub CarryTheirs : {V : Type 0} → World (Node K V) → ℕ → Type 0
  CarryTheirs w past = (t x : ℕ) → c.first ≤ t → past ≤ t → t < c.past → where_is x w.log ≡ With (blocks.table t) → IsPairOf w setting.counter x

  module _ {V : Type 0} where
    -- a list that is joined to those before: it has come to this block of it
    pub record Joins (m : Mem (Node K V)) (e : EndMap) (t : ℕ) (back : List ℕ) (pair : ℕ) : Type 0 where
      pub shared : owns ≡ false
      pub before : List ℕ
      pub here : ℕ
      pub rest : List ℕ
      pub pair_is : pair ≡ here * 2048
      pub last_is : e.last ≡ pair
      pub there : ListFrom m e.first (before ++ here ∷ rest)
      pub waiting : wait_before (suc t) ≡ before ++ here ∷ rest
      pub all : back_of ≡ back ++ blocks.table t ∷ from_table (suc t)

    -- one is to be joined to those before
    pub record IsToJoin (m : Mem (Node K V)) (e : EndMap) (t : ℕ) (back : List ℕ) (pair : ℕ) : Type 0 where
      pub shared : owns ≡ false
      pub before : List ℕ
      pub here : ℕ
      pub first : ℕ
      pub rest : List ℕ
      pub last_is : e.last ≡ here * 2048
      pub there : ListFrom m e.first (before ++ here ∷ [])
      pub list_there : ListFrom m pair (first ∷ rest)
      pub waiting : wait_before (suc t) ≡ (before ++ here ∷ []) ++ first ∷ rest
      pub all : back_of ≡ back ++ blocks.table t ∷ from_table (suc t)

  -- what a step reclaims or leaves over was not reclaimed before, nor was the counter
  abbrev pub IsFresh : List ℕ → Deed → Type 0
  IsFresh back (TakesPair b) = (times b back ≡ 0) × (times setting.counter back ≡ 0)
  IsFresh back (LeavesTable b further) = (times b back ≡ 0) × (times setting.counter back ≡ 0)
  IsFresh back (TakesLeft b) = times b back ≡ 0
  IsFresh back (TakesCounter b) = times b back ≡ 0
  IsFresh back _ = Unit {0}

  module _ {V : Type 0} (caller : ℕ) where
    -- a list that is reclaimed stands in the memory, from this word on
    pub record Gives (w : World (Node K V)) (e : EndMap) (t : ℕ) (back : List ℕ) (word : ℕ) (list : List ℕ) : Type 0 where
      pub owned : owns ≡ true
      pub theirs : (x : ℕ) → 0 < times x list → (w.hand x ≡ LeftTo caller) × IsSome (value_at w.memory x)
      pub there : ListFrom w.memory word list
      pub all : back_of ≡ back ++ (list ++ blocks.table t ∷ from_table (suc t))
      pub none_joined : e.first ≡ 0

    module _ (hash : K → ℕ) (w : World (Node K V)) (e : EndMap) (past : ℕ) (back : List ℕ) where
      -- what it knows at a point
      abbrev pub EndingFacts : Ending → Type 0
      EndingFacts at.Reads = (past ≡ c.first) × (back ≡ []) × (e.place ≡ 0) × (e.first ≡ 0)
      EndingFacts at.Words = (t : ℕ) × AtPairs e past t × (e.place < c.len t) × (back_of ≡ back ++ from_place t e.place)
      EndingFacts (at.Takes pair) =
          (t : ℕ) × (n : ℕ) × AtPairs e past t × (e.place < c.len t) × (pair / 2048 ≡ blocks.pair n) × (c.current n ≡ true) × (n < c.stored)
          × (back_of ≡ back ++ blocks.pair n ∷ from_place t (suc e.place))
      EndingFacts at.Nexts =
          (t : ℕ) × AtPairs e past t × (back_of ≡ back ++ (map blocks.pair (pairs_behind (is_incremental setting.mode) c t) ++ from_table c.first))
      EndingFacts at.Carries = IsAt e past × IsJoined w.memory e.first e.last (wait_before past) × (back_of ≡ back ++ from_table past)
      EndingFacts (at.Joins pair) = (t : ℕ) × IsAt e t × (past ≡ suc t) × IsToJoin w.memory e t back pair
      EndingFacts (at.Follows pair) =
          (t : ℕ) × IsAt e t × (past ≡ suc t) × (((q : ℕ) × (rest : List ℕ) × (pair ≡ q * 2048) × Gives w e t back pair (q ∷ rest)) ⊎ Joins w.memory e t back pair)
      EndingFacts (at.Gives pair next) =
          (t : ℕ) × IsAt e t × (past ≡ suc t) × (q : ℕ) × (rest : List ℕ) × (pair ≡ q * 2048) × Gives w e t back pair (q ∷ rest) × ListFrom w.memory next rest
      EndingFacts at.Afters =
          (t : ℕ) × IsAt e t × (past ≡ suc t) × IsJoined w.memory e.first e.last (wait_before past) × (back_of ≡ back ++ blocks.table t ∷ from_table past)
      EndingFacts (at.Drops next) =
          (t : ℕ) × IsAt e t × (past ≡ suc t) × (next ≡ next_word hash c blocks t) × IsJoined w.memory e.first e.last (wait_before past)
          × (back_of ≡ back ++ blocks.table t ∷ from_table past)
      EndingFacts at.Shards = (past ≡ c.past) × IsJoined w.memory e.first e.last (wait_before past) × (back_of ≡ back ++ setting.counter ∷ [])
      EndingFacts at.Sets = (past ≡ c.past) × IsJoined w.memory e.first e.last (wait_before past) × (back_of ≡ back)
      EndingFacts at.Frees = (past ≡ c.past) × (wait_before past ≡ []) × (back_of ≡ back)
      EndingFacts at.Over = ⊥

    module _ (hash : K → ℕ) (w0 : World (Node K V)) where
      -- what is known of a map that ends, of which these blocks were reclaimed, and the tables before this one are left over
      pub record EndFacts (w : World (Node K V)) (e : EndMap) (past : ℕ) (back : List ℕ) : Type 0 where
        pub setting_is : e.setting ≡ setting
        pub owns_is : e.owns ≡ owns
        pub since : Since caller w0 w past back
        pub root : RootAt hash setting c blocks w.memory e.stands
        pub point : EndingFacts hash w e past back e.stands

      -- It has ended: all was reclaimed that was to be, and what waits, waits behind the root.
      pub record HasEnded (w : World (Node K V)) (past : ℕ) (back : List ℕ) : Type 0 where
        pub since : Since caller w0 w past back
        pub past_is : past ≡ c.past
        pub back_is : back_of ≡ back
        pub root : RootIs setting w.memory (wait_before past)

      -- where a step of it led, by what it did
      abbrev pub EndOutcome : World (Node K V) → World (Node K V) → Deed → ℕ → List ℕ → EndMap × Settled (Node K V) → Type 0
      EndOutcome w w2 deed past2 back (e, settled.Goes) = (taken_by deed ≡ []) × EndFacts w2 e past2 back
      EndOutcome w w2 deed past2 back (e, settled.Waits) = ⊥
      EndOutcome w w2 deed past2 back (e, settled.Gave value) = (b : ℕ) × (taken_by deed ≡ b ∷ []) × (value_at w.memory b ≡ Some value) × EndFacts w2 e past2 (back ++ b ∷ [])
      EndOutcome w w2 deed past2 back (e, settled.Done) = (taken_by deed ≡ []) × HasEnded w2 past2 back

      -- A step of the end of a map came to this memory.
      pub record EndStepSpec (w : World (Node K V)) (past : ℕ) (back : List ℕ) (m2 : Mem (Node K V)) (end : EndMap × Settled (Node K V)) : Type 0 where
        pub w2 : World (Node K V)
        pub deed : Deed
        pub past2 : ℕ
        pub runs : Runs deferred_word setting.batch_size (events_of caller deed) w w2
        pub memory : w2.memory ≡ m2
        pub fresh : IsFresh back deed
        pub spares : Spares setting caller w w2 deed
        pub its : IsItsDeed caller w past past2 deed
        pub told : EndOutcome w w2 deed past2 back end

  module _ {V : Type 0} (same : K → K → Bool) (hash : K → ℕ) where
    -- The map stood in this world, in which its end began. Where it owns its collector, its tables carry what they carried then.
    pub record BeganIn (w0 : World (Node K V)) : Type 0 where
      pub map : IsMapIn same hash setting w0 c blocks
      pub counter : IsMaking (w0.hand setting.counter)
      pub owned : owns ≡ true → (t : ℕ) → c.first ≤ t → t < c.past → HasDeferred w0 (blocks.table t) (lists t)

    -- a block is the map's, it can be reached, and no row is putting another one behind it
    abbrev pub StandsFree : World (Node K V) → ℕ → Type 0
    StandsFree w x = (owner_of x w.log ≡ setting.counter) × (where_is x w.log ≡ Standing) × ((j : ℕ) → IsOnto x (w.row j) → ⊥)

    -- The map stands in the world, and no row is putting a block behind one of its own: it may end. Where it is to give back what its tables carry, no
    -- section holds anything.
    pub record MayEnd (w : World (Node K V)) : Type 0 where
      pub map : IsMapIn same hash setting w c blocks
      pub counter : IsMaking (w.hand setting.counter)
      pub used : word_at w.memory (Used setting.root) ≡ Some 1
      pub tables : (t : ℕ) → c.first ≤ t → t < c.past → StandsFree w (blocks.table t)
      pub pairs : (n : ℕ) → c.current n ≡ true → StandsFree w (blocks.pair n)
      pub carries : (t : ℕ) → c.first ≤ t → t < c.past → HasDeferred w (blocks.table t) (lists t)
      pub free : owns ≡ true → (s x : ℕ) → holds s x w.log ≡ false
