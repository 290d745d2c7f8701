-- With a root that leads nowhere, and a counter, a map without a table is there.
use Rattle.std.specs.Prelude.{◌≡◌, ℕ, ◌≤◌, Bool, Some}
use Rattle.std.proofs.Common.{arith}
use Rattle.seize_model.specs.Given.SeizeWordsDeclared.at.At.TheVariants.{Root, Word}
use Rattle.seize_model.specs.Given.SeizeWordsMem.{value_at, word_at}
use Rattle.seize_model.specs.Given.SeizeWorld.{World}
use Rattle.map_facts_late.specs.Given.TablesChunks.{is_incremental}
use Rattle.map_facts_late.specs.Given.TablesDeclared.node.Node.{Node}
use Rattle.map_facts_late.specs.Given.TablesDeclared.node.Node.TheVariants as node
use Rattle.map_facts_late.specs.Given.TablesDeclared.setting.Setting.{Setting}
use Rattle.map_facts_late.specs.Given.RuleRule.{no_table}
use Rattle.map_facts_late.specs.Given.RuleMaps.{spot_of}
use Rattle.map_facts_late.specs.Given.RuleInWorld.{IsMapIn}
use Rattle.many_calls.specs.Together.{no_blocks}
use Rattle.map_facts_late.proofs.Given.RuleMoves.RuleBegins.{rule_begins}

module _ {K V : Type 0} (same : K → K → Bool) (hash : K → ℕ) where
  pub map_begins : (setting : Setting) (w : World (Node K V)) → word_at w.memory (Root setting.root) ≡ Some 0 → value_at w.memory setting.counter ≡ Some node.Shards
      → ((shard : ℕ) → shard ≤ setting.mask → (count : ℕ) × (word_at w.memory (Word setting.counter shard) ≡ Some count)) → IsMapIn same hash setting w no_table no_blocks
  map_begins setting w root counter counts = record {
    map = record {
      rule = rule_begins same (spot_of hash) (is_incremental setting.mode);
      shows = record {
        root_there = root;
        tables = λ t l known. absurd (omega (arith, l));
        pairs = λ n l known. absurd (omega (arith, l));
        sized = λ t l. absurd (omega (arith, l));
        linked = λ t first l. absurd (omega (arith, l));
        named = λ t i n phase borrowed l known is. absurd (omega (arith, l));
        table_numbers = λ t l known. absurd (omega (arith, l));
        pair_numbers = λ n l known. absurd (omega (arith, l));
        tables_apart = λ t u l m known also is. absurd (omega (arith, l));
        pairs_apart = λ n o l m known also is. absurd (omega (arith, l));
      };
      later = λ t u l m known. absurd (omega (arith, m));
    };
    counter = counter;
    shards = counts;
    tables = λ t first l. absurd (omega (arith, l));
    pairs = λ n is. absurd (cc);
    named = λ t i n phase borrowed first l is. absurd (omega (arith, l));
    tables_out = λ t l known. absurd (omega (arith, l));
    pairs_out = λ n l known. absurd (omega (arith, l));
  }
