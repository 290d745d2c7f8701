-- In which order a map that ends reclaims what it has: its pairs, then table by table the pairs that a table carries and the table, then its counter.
use Rattle.std.specs.Prelude.{ℕ, zero, suc, ◌-◌, Bool, true, false, cond, List, [], ◌∷◌, ◌++◌, map, if◌then◌else◌, ◌&&◌}
use Rattle.many_calls.specs.Given.RuleChart.{Place, Holds, Chart, is_marked}
use Rattle.many_calls.specs.Given.RuleWords.{Blocks}

-- the pair that a place reclaims: in incremental mode none that is marked, since a later table has it
abbrev pub pair_at : Bool → Place → List ℕ
pair_at incremental (Holds n phase borrowed) = if incremental && is_marked (Holds n phase borrowed) then [] else n ∷ []
pair_at incremental _ = []

-- of so many tables, those that reclaim pairs: at once the first one alone
abbrev pub with_pairs : Bool → ℕ → ℕ
with_pairs true tables = tables
with_pairs false zero = zero
with_pairs false (suc tables) = 1

-- what is behind a table of a map that ends is reclaimed, where the map owns its collector, or waits
abbrev pub given_of : Bool → List ℕ → List ℕ
given_of owns list = if owns then list else []

abbrev pub waits_of : Bool → List ℕ → List ℕ
waits_of owns list = if owns then [] else list

module _ {K : Type 0} (incremental : Bool) (c : Chart K) where
  -- the pairs of so many places of a table, from this one on
  abbrev pub pairs_from : ℕ → ℕ → ℕ → List ℕ
  pairs_from t i zero = []
  pairs_from t i (suc places) = pair_at incremental (c.place t i) ++ pairs_from t (suc i) places

  -- and of so many tables
  abbrev pub pairs_in : ℕ → ℕ → List ℕ
  pairs_in t zero = []
  pairs_in t (suc tables) = pairs_from t 0 (c.len t) ++ pairs_in (suc t) tables

  -- of all tables behind this one
  abbrev pub pairs_behind : ℕ → List ℕ
  pairs_behind t = pairs_in (suc t) (cond incremental (c.past - suc t) 0)

  -- all pairs of the map, table by table from the root, by ascending place
  abbrev pub pairs_of : List ℕ
  pairs_of = pairs_in c.first (with_pairs incremental (c.past - c.first))

-- by the lists of the pairs that tables carry
module _ (table : ℕ → ℕ) (lists : ℕ → List ℕ) (owns : Bool) where
  -- the blocks of so many tables, each behind those that it carries
  abbrev pub tables_in : ℕ → ℕ → List ℕ
  tables_in t zero = []
  tables_in t (suc tables) = given_of owns (lists t) ++ table t ∷ tables_in (suc t) tables

  -- those that wait, in one list
  abbrev pub waits_in : ℕ → ℕ → List ℕ
  waits_in t zero = []
  waits_in t (suc tables) = waits_of owns (lists t) ++ waits_in (suc t) tables

module _ {K : Type 0} (c : Chart K) (blocks : Blocks) (lists : ℕ → List ℕ) where
  module _ (owns : Bool) where
    -- what waits from this table on, and what changes in the waiting sets
    abbrev pub waits_from : ℕ → List ℕ
    waits_from t = waits_in blocks.table lists owns t (c.past - t)

    module _ (counter : ℕ) where
      -- what is reclaimed from this table on
      abbrev pub tables_from : ℕ → List ℕ
      tables_from t = tables_in blocks.table lists owns t (c.past - t) ++ counter ∷ []

  -- all blocks that are reclaimed, in order
  abbrev pub all_back : Bool → Bool → ℕ → List ℕ
  all_back incremental owns counter = map blocks.pair (pairs_of incremental c) ++ tables_from owns counter c.first
