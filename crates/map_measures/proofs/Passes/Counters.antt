-- A caller that counts in its map's counter keeps the words that say which table is the last.
use Rattle.std.specs.Prelude.{◌&&◌, IsSome, Option}
use Rattle.std.proofs.Common.{◌≡◌, ◌≢◌, ℕ, suc, Bool, true, false, cond, eqb, Some, ap, ◌∙◌, arith}
use Rattle.std.proofs.lemmas.Bool.{ne_eqb}
use Rattle.seize_words.specs.declared.at.At.TheVariants.{Root, Word}
use Rattle.seize_words.specs.OneMemory.Mem.{Mem, value_at, word_at, with_word}
use Rattle.seize_words.proofs.OneMemory.OneOwner.AfterWrites.{word_at-with_word}
use Rattle.map_tables.specs.declared.node.Node.{Node}
use Rattle.map_tables.specs.declared.node.Node.TheVariants as node
use Rattle.map_tables.specs.declared.table_words.TheConstants.{NEXT}
use Rattle.many_calls.specs.Given.RuleChart.{Chart}
use Rattle.many_calls.specs.Given.RuleWords.{Blocks, Represents}
use Rattle.map_measures.proofs.Falls.Onward.{KeepsLinks}

module _ {K V : Type 0} {hash : K → ℕ} (root : ℕ) (c : Chart K) (blocks : Blocks) (m : Mem (Node K V)) (shows : Represents hash m c blocks root) (counter : ℕ)
    (is_counter : value_at m counter ≡ Some node.Shards) where
  pub keeps_counted : (shard word : ℕ) (m2 : Mem (Node K V)) → m2 ≡ with_word m (Word counter shard) word → IsSome (word_at m (Word counter shard))
      → KeepsLinks root c blocks m m2
  keeps_counted shard word m2 is some = record {
    root_kept = λ none. ap (λ x. word_at x (Root root)) is ∙ word_at-with_word m (Word counter shard) word (Root root) some;
    next_kept =
        λ t last known. ap (λ x. word_at x (Word (blocks.table t) NEXT)) is ∙ word_at-with_word m (Word counter shard) word (Word (blocks.table t) NEXT) some
        ∙ other (eqb (blocks.table t) counter) (eqb NEXT shard) (word_at m (Word (blocks.table t) NEXT)) (ne_eqb (blocks.table t) counter (apart t last known));
  }
    where
      apart : (t : ℕ) → suc t ≡ c.past → blocks.table_known t ≡ true → blocks.table t ≢ counter
      apart t last known e = let table = (shows.tables t (omega (arith, last)) known).value in absurd (cc (ap (value_at m) e, table, is_counter))

      other : (x y : Bool) (found : Option ℕ) → x ≡ false → cond (x && y) (Some word) found ≡ found
      other x y found e = ap (λ b. cond (b && y) (Some word) found) e
