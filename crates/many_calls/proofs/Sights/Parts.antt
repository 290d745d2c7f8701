-- What may be looked at of a map, less and less.
use Rattle.std.specs.Prelude.{ℕ}
use Rattle.std.proofs.Common.{refl, ◌∙◌}
use Rattle.map_facts_late.specs.Given.RuleChart.{Chart}
use Rattle.map_facts_late.specs.Given.RuleWords.{Blocks}
use Rattle.many_calls.specs.Sights.{IsPartOf}

module _ {K : Type 0} (c : Chart K) where
  pub part_same : (blocks : Blocks) → IsPartOf c blocks blocks
  part_same blocks = record { tables = λ t. refl; pairs = λ n. refl; tables_known = λ t l known. known; pairs_known = λ n l known. known }

  pub part_then : (blocks then before : Blocks) → IsPartOf c then before → IsPartOf c blocks then → IsPartOf c blocks before
  part_then blocks then before first next = record {
    tables = λ t. next.tables t ∙ first.tables t;
    pairs = λ n. next.pairs n ∙ first.pairs n;
    tables_known = λ t l known. first.tables_known t l (next.tables_known t l known);
    pairs_known = λ n l known. first.pairs_known n l (next.pairs_known n l known);
  }
