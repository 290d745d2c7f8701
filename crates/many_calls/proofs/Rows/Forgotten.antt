-- Blocks that nobody looks at any more may be forgotten.
use Rattle.std.proofs.Common.{◌≡◌, ℕ, ◌<◌, ◌≤◌, Bool, true}
use Rattle.seize_model.specs.Given.SeizeWordsMem.{Mem}
use Rattle.map_facts_late.specs.Given.TablesDeclared.node.Node.{Node}
use Rattle.map_facts_late.specs.Given.RuleChart.{Chart, Phase, Holds}
use Rattle.map_facts_late.specs.Given.RuleWords.{Blocks, RepresentsTable, Represents}

-- what is still known was known, and it is enough
pub record Forgets {K : Type 0} (c : Chart K) (blocks : Blocks) (table_known pair_known : ℕ → Bool) : Type 0 where
  pub tables : (t : ℕ) → t < c.past → table_known t ≡ true → blocks.table_known t ≡ true
  pub pairs : (p : ℕ) → p < c.stored → pair_known p ≡ true → blocks.pair_known p ≡ true
  pub linked : (t : ℕ) → c.first ≤ t → t < c.past → table_known t ≡ true
  pub named : (t i p : ℕ) (phase : Phase) (borrowed : Bool) → t < c.past → table_known t ≡ true → c.place t i ≡ Holds p phase borrowed → pair_known p ≡ true

module _ {K V : Type 0} (hash : K → ℕ) (m : Mem (Node K V)) (c : Chart K) (blocks : Blocks) (root : ℕ) (table_known pair_known : ℕ → Bool) where
  pub shows_forgotten : Represents hash m c blocks root → Forgets c blocks table_known pair_known
      → Represents hash m c (record blocks { table_known = table_known; pair_known = pair_known }) root
  shows_forgotten s f = record {
    root_there = s.root_there;
    tables = λ t made known. table t (s.tables t made (f.tables t made known));
    pairs = λ p made known. s.pairs p made (f.pairs p made known);
    sized = s.sized;
    linked = f.linked;
    named = f.named;
    table_numbers = λ t made known. s.table_numbers t made (f.tables t made known);
    pair_numbers = λ p made known. s.pair_numbers p made (f.pairs p made known);
    tables_apart = λ t u made made2 known known2. s.tables_apart t u made made2 (f.tables t made known) (f.tables u made2 known2);
    pairs_apart = λ p o made made2 known known2. s.pairs_apart p o made made2 (f.pairs p made known) (f.pairs o made2 known2);
  }
    where
      table : (t : ℕ) → RepresentsTable hash m c blocks t → RepresentsTable hash m c (record blocks { table_known = table_known; pair_known = pair_known }) t
      table t h = record { value = h.value; next = h.next; claim = h.claim; copied = h.copied; status = h.status; places = h.places }
