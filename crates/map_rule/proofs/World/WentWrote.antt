-- A step of a call that wrote a word of its map, made a block of its own, or took one away.
use Rattle.std.specs.Prelude.{◌≡◌, ◌≢◌, ℕ, ◌<◌, ◌≤◌, Bool, true, false, List, [], ◌∷◌, Some, IsSome, cond}
use Rattle.std.proofs.Common.{refl, ap, sym, subst, ◌∙◌, inr, arith}
use Rattle.map_machines.specs.Given.SeizeWordsDeclared.at.At.{At}
use Rattle.map_machines.specs.Given.SeizeWordsDeclared.at.At.TheVariants.{Word}
use Rattle.map_machines.specs.Given.SeizeWordsOp.{Op, Out}
use Rattle.map_machines.specs.Given.SeizeWordsMem.{Mem, same_at, block_of, value_in, word_in, value_at, word_at, with_word, Took, Gives, after as mem_after}
use Rattle.map_machines.proofs.Given.SeizeWordsOneOwner.AfterWrites.{word_at-with_word, value_at-with_word}
use Rattle.seize_rule.specs.Given.SeizeWorld.{World, Event, Operates, IsOwn, IsOwnOp, Runs}
use Rattle.map_machines.specs.Given.TablesChunks.{is_incremental}
use Rattle.map_machines.specs.Given.TablesNodes.{deferred_word}
use Rattle.map_machines.specs.Given.TablesDeclared.node.Node.{Node}
use Rattle.map_machines.specs.Given.TablesDeclared.node.Node.TheVariants as node
use Rattle.map_machines.specs.Given.TablesDeclared.setting.Setting.{Setting}
use Rattle.map_machines.specs.Given.TablesDeclared.table_words.TheConstants.{DEFERRED}
use Rattle.map_machines.proofs.Given.TablesLists.{its_list}
use Rattle.map_rule.specs.Chart.{Chart}
use Rattle.map_rule.specs.Rule.{IsLawful}
use Rattle.map_rule.specs.Moves.{Move, after, Allowed}
use Rattle.map_rule.specs.Words.{Blocks, Represents}
use Rattle.map_rule.specs.Maps.{spot_of, IsMap}
use Rattle.map_rule.specs.InWorld.{IsMapIn, AllUsers, AllIts, Moved, SameBlocks, SparesOthers, IsFramed, SparesTables, LinksItsOwn, StepSpec}
use Rattle.map_rule.proofs.World.Hands.{Hands}
use Rattle.map_rule.proofs.Words.LinksOwn.{outs_same, known_same, links_none, none_stored}
use Rattle.map_rule.proofs.World.MovesKnown.{IsItsMove, spares_moved}
use Rattle.map_rule.proofs.World.OthersSpared.{keeps_written}
use Rattle.map_rule.proofs.World.Footprints.{MayWriteBy, framed_written, aside_of}
use Rattle.map_rule.proofs.Moves.Promised.{moves_keep}

-- a written word is there, and so is what was there before
pub word_stays : {T : Type 0} (m : Mem T) (at : At) (word : ℕ) → IsSome (word_at m at) → (x : At) → (old : ℕ) → word_at m x ≡ Some old
    → (new : ℕ) × (word_at (with_word m at word) x ≡ Some new)
word_stays m at word some x old is = by (same_at x at) (word_at-with_word m at word x some)
  where
    by : (q : Bool) → word_at (with_word m at word) x ≡ cond q (Some word) (word_at m x) → (new : ℕ) × (word_at (with_word m at word) x ≡ Some new)
    by true e = (word, e)
    by false e = (old, e ∙ is)

module _ {K : Type 0} where
  -- with a table that can be looked at, so can all those behind it
  abbrev pub IsLater : Chart K → Blocks → Type 0
  IsLater c blocks = (t u : ℕ) → t < u → u < c.past → blocks.table_known t ≡ true → blocks.table_known u ≡ true

  -- where no table is new
  pub later_kept : (c c2 : Chart K) (blocks blocks2 : Blocks) → c2.past ≡ c.past → ((t : ℕ) → blocks2.table_known t ≡ blocks.table_known t) → IsLater c blocks → IsLater c2 blocks2
  later_kept c c2 blocks blocks2 past known later t u l made seen = known u ∙ later t u l (omega arith) (sym (known t) ∙ seen)

module _ {K V : Type 0} (setting : Setting) where
  -- the counter of a map, with its shards
  pub record HasCounter (m : Mem (Node K V)) : Type 0 where
    pub counter : value_at m setting.counter ≡ Some node.Shards
    pub shards : (shard : ℕ) → shard ≤ setting.mask → (count : ℕ) × (word_at m (Word setting.counter shard) ≡ Some count)

  pub counter_written : (m : Mem (Node K V)) (at : At) (word : ℕ) → IsSome (word_at m at) → HasCounter m → HasCounter (with_word m at word)
  counter_written m at word some h = record {
    counter = value_at-with_word m at word setting.counter some ∙ h.counter;
    shards = λ shard l. let w = h.shards shard l in word_stays m at word some (Word setting.counter shard) w.0 w.1;
  }

  -- its block is as it was
  pub counter_stays : (m n : Mem (Node K V)) → block_of n setting.counter ≡ block_of m setting.counter → HasCounter m → HasCounter n
  counter_stays m n is h = record {
    counter = ap value_in is ∙ h.counter;
    shards = λ shard l. let w = h.shards shard l in (w.0, ap (λ o. word_in o shard) is ∙ w.1);
  }

module _ {K V : Type 0} (same : K → K → Bool) (hash : K → ℕ) (setting : Setting) where
  pub counter_of : (w : World (Node K V)) (c : Chart K) (blocks : Blocks) → IsMapIn same hash setting w c blocks → HasCounter setting w.memory
  counter_of w c blocks map = record { counter = map.counter; shards = map.shards }

  -- a map in the world, from its parts
  pub map_in : (w : World (Node K V)) (c : Chart K) (blocks : Blocks) → IsMap same hash setting.mode setting.root w.memory c blocks → HasCounter setting w.memory
      → Hands same hash setting w c blocks → IsMapIn same hash setting w c blocks
  map_in w c blocks map h hands = record {
    map = map;
    counter = h.counter;
    shards = h.shards;
    tables = hands.tables;
    pairs = hands.pairs;
    named = hands.named;
    tables_out = hands.tables_out;
    pairs_out = hands.pairs_out;
  }

  -- the map after a move that is shown
  pub map_moved : IsLawful same (spot_of hash) → (m n : Mem (Node K V)) (c : Chart K) (blocks blocks2 : Blocks) (move : Move K) → IsMap same hash setting.mode setting.root m c blocks
      → Allowed same (spot_of hash) (is_incremental setting.mode) move c
      → Represents hash n (after (spot_of hash) (is_incremental setting.mode) move c) blocks2 setting.root
      → IsLater (after (spot_of hash) (is_incremental setting.mode) move c) blocks2
      → IsMap same hash setting.mode setting.root n (after (spot_of hash) (is_incremental setting.mode) move c) blocks2
  map_moved lawful m n c blocks blocks2 move map allowed shows later = record {
    rule = (moves_keep same (spot_of hash) (is_incremental setting.mode) lawful move c map.rule allowed).0;
    shows = shows;
    later = later;
  }

  module _ (caller : ℕ) (w : World (Node K V)) (c : Chart K) (blocks : Blocks) (map : IsMapIn same hash setting w c blocks) where
    -- An operation wrote a word, and further events of the users followed.
    pub went_after : (op : Op (Node K V)) (out : Out (Node K V)) → IsOwnOp deferred_word w.memory op → (m2 : Mem (Node K V)) → Took w.memory op out m2
        → (events : List (Event (Node K V))) → AllUsers events → AllIts setting caller w c blocks events → (w2 : World (Node K V)) → Runs deferred_word setting.batch_size events (record w { memory = m2 }) w2
        → w2.memory ≡ m2 → IsFramed setting caller w c blocks m2 → SparesOthers caller w w2 → (c2 : Chart K) (blocks2 : Blocks) → SparesTables c blocks c2 → LinksItsOwn caller w w2 c c2 blocks2 → Moved same hash setting.mode caller c c2 → IsMapIn same hash setting w2 c2 blocks2
        → SameBlocks c blocks blocks2 → (Told : World (Node K V) → Chart K → Blocks → Type 0) → Told w2 c2 blocks2
        → StepSpec same hash setting caller w c blocks m2 Told
    went_after op out own m2 took events users its w2 runs memory frame spares c2 blocks2 tables links moved map2 blocks_same Told told = record {
      w2 = w2;
      c2 = c2;
      blocks2 = blocks2;
      events = Operates op ∷ events;
      users = (tt, users);
      its = (tt, its);
      runs = (record w { memory = m2 }, (out, m2, own, took, refl), runs);
      memory = memory;
      frame = frame;
      tables = tables;
      links = links;
      spares = spares;
      moved = moved;
      map = map2;
      blocks_same = blocks_same;
      told = told;
    }

    -- the map after a word was written: the hands are as they were
    pub wrote_in : (at : At) (word : ℕ) → IsSome (word_at w.memory at) → (c2 : Chart K) (blocks2 : Blocks)
        → IsMap same hash setting.mode setting.root (with_word w.memory at word) c2 blocks2 → Hands same hash setting w c2 blocks2
        → IsMapIn same hash setting (record w { memory = with_word w.memory at word }) c2 blocks2
    wrote_in at word some c2 blocks2 map2 hands =
        map_in (record w { memory = with_word w.memory at word }) c2 blocks2 map2 (counter_written setting w.memory at word some (counter_of w c blocks map))
        (record { tables = hands.tables; pairs = hands.pairs; named = hands.named; tables_out = hands.tables_out; pairs_out = hands.pairs_out })

    -- An operation wrote a word by an allowed move, and nothing else happened.
    pub went_wrote : IsLawful same (spot_of hash) → (op : Op (Node K V)) (out : Out (Node K V)) (at : At) (word : ℕ) → MayWriteBy setting caller w c blocks op at → IsSome (word_at w.memory at)
        → (m2 : Mem (Node K V)) → Gives w.memory op out → m2 ≡ with_word w.memory at word → with_word w.memory at word ≡ mem_after w.memory op out
        → (move : Move K) → IsItsMove caller blocks move → (after (spot_of hash) (is_incremental setting.mode) move c).past ≡ c.past
        → (after (spot_of hash) (is_incremental setting.mode) move c).current ≡ c.current → (blocks2 : Blocks) → Allowed same (spot_of hash) (is_incremental setting.mode) move c
        → Represents hash (with_word w.memory at word) (after (spot_of hash) (is_incremental setting.mode) move c) blocks2 setting.root
        → IsLater (after (spot_of hash) (is_incremental setting.mode) move c) blocks2
        → Hands same hash setting w (after (spot_of hash) (is_incremental setting.mode) move c) blocks2
        → SameBlocks c blocks blocks2 → (Told : World (Node K V) → Chart K → Blocks → Type 0)
        → Told (record w { memory = with_word w.memory at word }) (after (spot_of hash) (is_incremental setting.mode) move c) blocks2
        → StepSpec same hash setting caller w c blocks m2 Told
    went_wrote lawful op out at word own some m2 gives is wrote move by past current blocks2 allowed shows later hands blocks_same Told told =
        subst (λ (n : Mem (Node K V)). StepSpec same hash setting caller w c blocks n Told) (sym is)
        (went_after op out own.0 (with_word w.memory at word) (gives, wrote) [] tt tt (record w { memory = with_word w.memory at word }) refl refl
        (framed_written setting caller w c blocks at word some own.1) (λ j other. keeps_written caller w j other at word some (aside_of same hash setting caller w c blocks map at own.1))
        (after (spot_of hash) (is_incremental setting.mode) move c) blocks2 (spares_moved (spot_of hash) (is_incremental setting.mode) c blocks map.map.shows.linked move by.1)
        (links_none caller w (record w { memory = with_word w.memory at word }) c (after (spot_of hash) (is_incremental setting.mode) move c) blocks2 past
        (none_stored same (spot_of hash) (is_incremental setting.mode) c map.map.rule.common move current) (outs_same w.memory w.hand)
        (known_same caller w.hand (after (spot_of hash) (is_incremental setting.mode) move c) blocks2)) (inr (move, allowed, refl, by.0))
        (wrote_in at word some (after (spot_of hash) (is_incremental setting.mode) move c) blocks2
        (map_moved lawful w.memory (with_word w.memory at word) c blocks blocks2 move map.map allowed shows later)
        hands)
        blocks_same Told told)

    -- by a move that makes nothing
    pub went_moved : IsLawful same (spot_of hash) → (op : Op (Node K V)) (out : Out (Node K V)) (at : At) (word : ℕ) → MayWriteBy setting caller w c blocks op at → IsSome (word_at w.memory at)
        → (m2 : Mem (Node K V)) → Gives w.memory op out → m2 ≡ with_word w.memory at word → with_word w.memory at word ≡ mem_after w.memory op out
        → (move : Move K) → IsItsMove caller blocks move → Allowed same (spot_of hash) (is_incremental setting.mode) move c
        → (after (spot_of hash) (is_incremental setting.mode) move c).past ≡ c.past → (after (spot_of hash) (is_incremental setting.mode) move c).current ≡ c.current
        → Represents hash (with_word w.memory at word) (after (spot_of hash) (is_incremental setting.mode) move c) blocks setting.root
        → Hands same hash setting w (after (spot_of hash) (is_incremental setting.mode) move c) blocks
        → (Told : World (Node K V) → Chart K → Blocks → Type 0)
        → Told (record w { memory = with_word w.memory at word }) (after (spot_of hash) (is_incremental setting.mode) move c) blocks
        → StepSpec same hash setting caller w c blocks m2 Told
    went_moved lawful op out at word own some m2 gives is wrote move by allowed past current shows hands Told told =
        went_wrote lawful op out at word own some m2 gives is wrote move by past current blocks allowed shows
        (later_kept c (after (spot_of hash) (is_incremental setting.mode) move c) blocks blocks past (λ t. refl) map.map.later)
        hands (record { tables = λ t made known. (refl, known); pairs = λ n was known. (refl, known); tables_back = λ t made known. known; pairs_back = λ n was known. known }) Told told

module _ {K V : Type 0} (hash : K → ℕ) (m : Mem (Node K V)) (c : Chart K) (blocks : Blocks) (root : ℕ) (shows : Represents hash m c blocks root) where
  -- the words of a known table are the users' own, but for the head of the list that it carries
  pub own_word : (t d : ℕ) → t < c.past → blocks.table_known t ≡ true → d ≢ DEFERRED → IsOwn deferred_word m (Word (blocks.table t) d)
  own_word t d made known other = (node.Table (c.len t) (c.limit t) t, (shows.tables t made known).value, λ e. other (its_list {K = K} {V = V} (node.Table (c.len t) (c.limit t) t) d e))
