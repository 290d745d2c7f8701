-- Memories whose words and values of a map's tables are the same show the same map.
use Rattle.std.specs.Prelude.{Some}
use Rattle.std.proofs.Common.{◌≡◌, ◌≢◌, ℕ, ◌+◌, ◌<◌, Bool, true, arith, ◌∙◌}
use Rattle.map_machines.specs.Given.SeizeWordsDeclared.at.At.TheVariants.{Root, Word}
use Rattle.map_machines.specs.Given.SeizeWordsMem.{Mem, value_at, word_at}
use Rattle.map_machines.specs.Given.TablesDeclared.node.Node.{Node}
use Rattle.map_machines.specs.Given.TablesDeclared.table_words.TheConstants.{NEXT, CLAIM, COPIED, STATUS, DEFERRED, PLACES}
use Rattle.map_rule.specs.Chart.{Chart, Share}
use Rattle.map_rule.specs.Words.{Blocks, RepresentsTable, Represents}

module _ {K V : Type 0} where
  -- what a map shows is the same in both memories
  pub record Frames (m n : Mem (Node K V)) (c : Chart K) (blocks : Blocks) (root : ℕ) : Type 0 where
    pub root_word : word_at n (Root root) ≡ word_at m (Root root)
    pub table_values : (t : ℕ) → t < c.past → blocks.table_known t ≡ true → value_at n (blocks.table t) ≡ value_at m (blocks.table t)
    pub pair_values : (p : ℕ) → p < c.stored → blocks.pair_known p ≡ true → value_at n (blocks.pair p) ≡ value_at m (blocks.pair p)
    pub words : (t d : ℕ) → t < c.past → blocks.table_known t ≡ true → d ≢ DEFERRED → word_at n (Word (blocks.table t) d) ≡ word_at m (Word (blocks.table t) d)

  -- what it shows in the one is there in the other
  pub record Keeps (m n : Mem (Node K V)) (c : Chart K) (blocks : Blocks) (root : ℕ) : Type 0 where
    pub root_word : (word : ℕ) → word_at m (Root root) ≡ Some word → word_at n (Root root) ≡ Some word
    pub table_values : (t : ℕ) → t < c.past → blocks.table_known t ≡ true → value_at n (blocks.table t) ≡ value_at m (blocks.table t)
    pub pair_values : (p : ℕ) → p < c.stored → blocks.pair_known p ≡ true → value_at n (blocks.pair p) ≡ value_at m (blocks.pair p)
    pub words : (t d word : ℕ) → t < c.past → blocks.table_known t ≡ true → d ≢ DEFERRED → word_at m (Word (blocks.table t) d) ≡ Some word → word_at n (Word (blocks.table t) d) ≡ Some word

  module _ (hash : K → ℕ) (m n : Mem (Node K V)) (c : Chart K) (blocks : Blocks) (root : ℕ) where
    pub shows_kept : Represents hash m c blocks root → Keeps m n c blocks root → Represents hash n c blocks root
    shows_kept s f = record {
      root_there = f.root_word _ s.root_there;
      tables = λ t made known. table t made known (s.tables t made known);
      pairs = λ p made known. let q = s.pairs p made known in (q.0, q.1, f.pair_values p made known ∙ q.2, q.3);
      sized = s.sized;
      linked = s.linked;
      named = s.named;
      table_numbers = s.table_numbers;
      pair_numbers = s.pair_numbers;
      tables_apart = s.tables_apart;
      pairs_apart = s.pairs_apart;
    }
      where
        table : (t : ℕ) → t < c.past → blocks.table_known t ≡ true → RepresentsTable hash m c blocks t → RepresentsTable hash n c blocks t
        table t made known h = record {
          value = f.table_values t made known ∙ h.value;
          next = f.words t NEXT _ made known (omega arith) h.next;
          claim = f.words t CLAIM _ made known (omega arith) h.claim;
          copied = f.words t COPIED _ made known (omega arith) h.copied;
          status = f.words t STATUS _ made known (omega arith) h.status;
          places = λ i inside. f.words t (i + PLACES) _ made known (omega arith) (h.places i inside);
        }

    pub shows_framed : Represents hash m c blocks root → Frames m n c blocks root → Represents hash n c blocks root
    shows_framed s f = shows_kept s (record {
      root_word = λ word is. f.root_word ∙ is;
      table_values = f.table_values;
      pair_values = f.pair_values;
      words = λ t d word made known other is. f.words t d made known other ∙ is;
    })

  -- no word says who copies what, nor which pairs are in the map
  module _ (hash : K → ℕ) (m : Mem (Node K V)) (c : Chart K) (blocks : Blocks) (root : ℕ) where
    pub shows_beside : (share : ℕ → ℕ → Share) (current : ℕ → Bool) {now : ℕ} {was : ℕ → ℕ → Bool} {passed from : ℕ → ℕ} → Represents hash m c blocks root
        → Represents hash m (record c { share = share; current = current; now = now; was = was; passed = passed; from = from }) blocks root
    shows_beside share current {now} {was} {passed} {from} s = record {
      root_there = s.root_there;
      tables = λ t made known. table t (s.tables t made known);
      pairs = s.pairs;
      sized = s.sized;
      linked = s.linked;
      named = s.named;
      table_numbers = s.table_numbers;
      pair_numbers = s.pair_numbers;
      tables_apart = s.tables_apart;
      pairs_apart = s.pairs_apart;
    }
      where
        table : (t : ℕ) → RepresentsTable hash m c blocks t → RepresentsTable hash m (record c { share = share; current = current; now = now; was = was; passed = passed; from = from }) blocks t
        table t h = record { value = h.value; next = h.next; claim = h.claim; copied = h.copied; status = h.status; places = h.places }
