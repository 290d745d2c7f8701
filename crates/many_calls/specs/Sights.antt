-- What a caller looks at: some of the tables and pairs that can be looked at, with all that it may come to from there.
use Rattle.map_facts_late.specs.Given.TablesDeclared.status.TheConstants.Status.{ABORTED}
use Rattle.std.specs.Prelude.{◌≡◌, ℕ, ◌<◌, ◌≤◌, Bool, true}
use Rattle.map_facts_late.specs.Given.RuleChart.{Phase, Holds, Chart}
use Rattle.map_facts_late.specs.Given.RuleWords.{Blocks}

-- by turn, and by pair
pub record Visible : Type 0 where
  pub tables : ℕ → Bool
  pub pairs : ℕ → Bool

-- the blocks that are seen
abbrev pub seen_by : Blocks → Visible → Blocks
seen_by blocks sight = record blocks { table_known = sight.tables; pair_known = sight.pairs }

-- With a table that was aborted, the one is seen that was the root as it was linked: pairs are put into it from there, also when that comes too late.
abbrev pub SourcesAreVisible : {K : Type 0} → Chart K → (ℕ → Bool) → Type 0
SourcesAreVisible c tables = (t : ℕ) → t < c.past → tables t ≡ true → c.status t ≡ ABORTED → tables (c.from t) ≡ true

-- What may be looked at of a map could be before, and stands in the same blocks.
pub record IsPartOf {K : Type 0} (c : Chart K) (blocks before : Blocks) : Type 0 where
  pub tables : (t : ℕ) → blocks.table t ≡ before.table t
  pub pairs : (n : ℕ) → blocks.pair n ≡ before.pair n
  pub tables_known : (t : ℕ) → t < c.past → blocks.table_known t ≡ true → before.table_known t ≡ true
  pub pairs_known : (n : ℕ) → n < c.stored → blocks.pair_known n ≡ true → before.pair_known n ≡ true

-- A step has led on from there: what may be looked at is what could be before, and what is new is what its caller sees then.
pub record IsGrown {K : Type 0} (c : Chart K) (before seen blocks : Blocks) : Type 0 where
  pub tables : (t : ℕ) → t < c.past → (blocks.table t ≡ before.table t) × (blocks.table_known t ≡ before.table_known t)
  pub pairs : (n : ℕ) → n < c.stored → (blocks.pair n ≡ before.pair n) × (blocks.pair_known n ≡ before.pair_known n)
  pub new_tables : (t : ℕ) → c.past ≤ t → (blocks.table t ≡ seen.table t) × (blocks.table_known t ≡ seen.table_known t)
  pub new_pairs : (n : ℕ) → c.stored ≤ n → (blocks.pair n ≡ seen.pair n) × (blocks.pair_known n ≡ seen.pair_known n)

-- It is closed: what is linked is seen, and with a table what stands in it, and the tables behind.
pub record IsVisibility {K : Type 0} (c : Chart K) (blocks : Blocks) (sight : Visible) : Type 0 where
  pub tables : (t : ℕ) → t < c.past → sight.tables t ≡ true → blocks.table_known t ≡ true
  pub pairs : (n : ℕ) → n < c.stored → sight.pairs n ≡ true → blocks.pair_known n ≡ true
  pub linked : (t : ℕ) → c.first ≤ t → t < c.past → sight.tables t ≡ true
  pub named : (t p n : ℕ) (phase : Phase) (borrowed : Bool) → t < c.past → sight.tables t ≡ true → c.place t p ≡ Holds n phase borrowed → sight.pairs n ≡ true
  pub later : (t u : ℕ) → t < u → u < c.past → sight.tables t ≡ true → sight.tables u ≡ true
  pub sources : SourcesAreVisible c sight.tables
