-- What a step of another caller leaves of a map as it is, block by block and word by word: with it the map stands on.
use Rattle.std.specs.Prelude.{◌≡◌, ◌<◌, ◌≤◌, ℕ, Bool, true, Option, Some}
use Rattle.std.proofs.Common.{refl, sym, subst, ◌∙◌, inl, inr, arith}
use Rattle.many_calls.specs.Given.SeizeWordsDeclared.at.At.TheVariants.{Root, Word}
use Rattle.many_calls.specs.Given.SeizeWordsMem.{value_at, word_at}
use Rattle.many_calls.specs.Given.SeizeLaw.{With, holds, owner_of, where_is}
use Rattle.many_calls.specs.Given.SeizeWorld.{World, Hand, InUse, Handed, IsInside, IsOnto}
use Rattle.many_calls.specs.Given.TablesDeclared.node.Node.{Node}
use Rattle.many_calls.specs.Given.TablesDeclared.setting.Setting.{Setting}
use Rattle.many_calls.specs.Given.RuleChart.{Chart}
use Rattle.many_calls.specs.Given.RuleWords.{Blocks}
use Rattle.many_calls.specs.Given.RuleInWorld.{IsOut, StandsIn, IsReached, IsKnownBlock, PreservesBlocks, IsMapIn}
use Rattle.many_calls.proofs.Given.RuleLaws.{current_is_known}
use Rattle.many_calls.proofs.Given.RuleWorld.Framed.{Keeps, shows_kept}
use Rattle.many_calls.proofs.Given.RuleWorld.Hands.{Hands}
use Rattle.many_calls.proofs.Given.RuleWorld.WentWrote.{HasCounter, map_in}
use Rattle.many_calls.specs.Kept.{IsMaking, IsKeptBy}
use Rattle.many_calls.specs.Sights.{Visible}
use Rattle.many_calls.specs.Together.{UnderWay, CameAbout, Together}
use Rattle.many_maps.proofs.Beside.Maps.Stays.{Spared}
use Rattle.many_calls.proofs.Rows.Behind.{LaySo}

module _ {K V Q : Type 0} (setting : Setting) (w : World (Node K V)) (c : Chart K) (blocks : Blocks) (calls : ℕ → Option (UnderWay K V Q)) (w2 : World (Node K V)) where
  -- a block that may be looked at is as it was: its value and its words, who has it, whose it is, and through which table of the map it is reached
  pub record IsLeft (b : ℕ) : Type 0 where
    pub value : value_at w2.memory b ≡ value_at w.memory b
    pub words : (field word : ℕ) → word_at w.memory (Word b field) ≡ Some word → word_at w2.memory (Word b field) ≡ Some word
    pub hand : w2.hand b ≡ w.hand b
    pub owner : owner_of b w2.log ≡ owner_of b w.log
    pub carried : (t : ℕ) → IsKnownBlock c blocks t → where_is b w.log ≡ With t → where_is b w2.log ≡ With t
    pub kept : IsKeptBy w b → IsKeptBy w2 b
    pub held : (r : ℕ) → IsInside (w.uses r) → holds r b w.log ≡ true → holds r b w2.log ≡ true

  -- So is each, and the counter, and the link to the root. Nothing came behind a linked table, and no row onto one. Nobody enters or leaves, and who has
  -- a call has what it had, and its row.
  pub record Leaves : Type 0 where
    pub came : CameAbout setting.batch_size w2
    pub known : (b : ℕ) → IsKnownBlock c blocks b → IsLeft b
    pub behind : (t x : ℕ) → c.first ≤ t → t < c.past → LaySo x (blocks.table t) w w2
    pub onto : (t j : ℕ) → c.first ≤ t → t < c.past → IsOnto (blocks.table t) (w2.row j) → IsOnto (blocks.table t) (w.row j)
    pub root : (word : ℕ) → word_at w.memory (Root setting.root) ≡ Some word → word_at w2.memory (Root setting.root) ≡ Some word
    pub counter_value : value_at w2.memory setting.counter ≡ value_at w.memory setting.counter
    pub counter_hand : w2.hand setting.counter ≡ w.hand setting.counter
    pub counter_words : (field word : ℕ) → word_at w.memory (Word setting.counter field) ≡ Some word → word_at w2.memory (Word setting.counter field) ≡ Some word
    pub inside : (r : ℕ) → IsInside (w.uses r) → IsInside (w2.uses r)
    pub inside_before : (r : ℕ) → IsInside (w2.uses r) → IsInside (w.uses r)
    pub rows : (j : ℕ) (u : UnderWay K V Q) → calls j ≡ Some u → w2.row j ≡ w.row j
    pub own : (j : ℕ) (u : UnderWay K V Q) → calls j ≡ Some u → PreservesBlocks j w.memory w.hand w2.memory w2.hand

module _ {K V Q : Type 0} (same : K → K → Bool) (hash : K → ℕ) (asks : Q → K → Bool) (setting : Setting) (slot : ℕ → ℕ)
    (w : World (Node K V)) (c : Chart K) (blocks : Blocks) (sights : ℕ → Visible) (calls : ℕ → Option (UnderWay K V Q)) (s : Together V same hash asks setting slot w c blocks sights calls)
    (w2 : World (Node K V)) (left : Leaves setting w c blocks calls w2) where
  table_known : (t : ℕ) → t < c.past → blocks.table_known t ≡ true → IsKnownBlock c blocks (blocks.table t)
  table_known t made known = inl (t, made, known, refl)

  pair_known : (n : ℕ) → n < c.stored → blocks.pair_known n ≡ true → IsKnownBlock c blocks (blocks.pair n)
  pair_known n was known = inr (n, was, known, refl)

  keeps : Keeps w.memory w2.memory c blocks setting.root
  keeps = record {
    root_word = left.root;
    table_values = λ t made known. (left.known (blocks.table t) (table_known t made known)).value;
    pair_values = λ n was known. (left.known (blocks.pair n) (pair_known n was known)).value;
    words = λ t d word made known other is. (left.known (blocks.table t) (table_known t made known)).words d word is;
  }

  has_counter : HasCounter setting w2.memory
  has_counter = record {
    counter = left.counter_value ∙ s.ground.map.counter;
    shards = λ shard l. let is = s.ground.map.shards shard l in (is.0, left.counter_words shard is.0 is.1);
  }

  linked_known : (t : ℕ) → c.first ≤ t → t < c.past → blocks.table_known t ≡ true
  linked_known t l made = s.ground.map.map.shows.linked t l made

  hand_stays : (b : ℕ) → IsKnownBlock c blocks b → (h : Hand) → w.hand b ≡ h → w2.hand b ≡ h
  hand_stays b known h is = (left.known b known).hand ∙ is

  hands : Hands same hash setting w2 c blocks
  hands = record {
    tables = λ t l made. hand_stays (blocks.table t) (table_known t made (linked_known t l made)) (InUse setting.counter) (s.ground.map.tables t l made);
    pairs = λ n is. let known = current_is_known same hash setting w.memory c blocks s.ground.map.map.rule s.ground.map.map.shows n is in
        hand_stays (blocks.pair n) (pair_known n known.0 known.1) (InUse setting.counter) (s.ground.map.pairs n is);
    named = λ t j n phase borrowed l made e. named t n l
        (pair_known n (s.ground.map.map.rule.common.keyed t j n phase borrowed e).0 (s.ground.map.map.shows.named t j n phase borrowed made (linked_known t l made) e))
        (s.ground.map.named t j n phase borrowed l made e);
    tables_out = λ t made known. subst IsOut (sym (left.known (blocks.table t) (table_known t made known)).hand) (s.ground.map.tables_out t made known);
    pairs_out = λ n was known. subst IsOut (sym (left.known (blocks.pair n) (pair_known n was known)).hand) (s.ground.map.pairs_out n was known);
  }
    where
      named : (t n : ℕ) → c.first ≤ t → IsKnownBlock c blocks (blocks.pair n) → IsReached same hash setting w c blocks t n → IsReached same hash setting w2 c blocks t n
      named t n l known (inl stands) = inl (subst (StandsIn setting.counter) (sym (left.known (blocks.pair n) known).hand) stands)
      named t n l known (inr (u, behind, made, handed, at)) =
          inr (
            u,
            behind,
            made,
            hand_stays (blocks.pair n) known Handed handed,
            (left.known (blocks.pair n) known).carried (blocks.table u) (table_known u made (linked_known u (omega (arith, l, behind)) made)) at,
          )

  map2 : IsMapIn same hash setting w2 c blocks
  map2 =
      map_in same hash setting w2 c blocks
      (record { rule = s.ground.map.map.rule; shows = shows_kept hash w.memory w2.memory c blocks setting.root s.ground.map.map.shows keeps; later = s.ground.map.map.later })
      has_counter hands

  -- the map is spared
  pub left_spared : Spared setting w c blocks calls same hash w2
  left_spared = record {
    came = left.came;
    map = map2;
    kept = λ b known. (left.known b known).kept;
    owner = λ b known. (left.known b known).owner;
    held = λ b known. (left.known b known).held;
    behind = left.behind;
    onto = left.onto;
    value = λ n was known. (left.known (blocks.pair n) (pair_known n was known)).value;
    counter = subst IsMaking (sym left.counter_hand) s.ground.counter;
    inside = left.inside;
    inside_before = left.inside_before;
    rows = left.rows;
    own = left.own;
  }
