-- A map of which some blocks are looked at no more.
use Rattle.std.specs.Prelude.{ltb}
use Rattle.std.proofs.Common.{◌≡◌, ℕ, ◌≤◌, Bool, true, false, cond, arith}
use Rattle.seize_model.specs.Given.SeizeWorld.{World}
use Rattle.map_facts_late.specs.Given.TablesDeclared.node.Node.{Node}
use Rattle.map_facts_late.specs.Given.TablesDeclared.setting.Setting.{Setting}
use Rattle.map_facts_late.specs.Given.RuleChart.{Chart}
use Rattle.map_facts_late.specs.Given.RuleWords.{Blocks}
use Rattle.map_facts_late.specs.Given.RuleInWorld.{IsMapIn}
use Rattle.map_facts_late.proofs.Given.RuleWorld.WentWrote.{IsLater}
use Rattle.many_calls.proofs.Rows.Forgotten.{Forgets, shows_forgotten}

-- the tables before this one are known no more
abbrev pub known_from : ℕ → (ℕ → Bool) → ℕ → Bool
known_from first known t = cond (ltb t first) false (known t)

pub known_later : (first : ℕ) (known : ℕ → Bool) (t : ℕ) → known_from first known t ≡ true → (first ≤ t) × (known t ≡ true)
known_later first known t h = (grind (arith, h), grind (arith, h))

pub known_still : (first : ℕ) (known : ℕ → Bool) (t : ℕ) → first ≤ t → known t ≡ true → known_from first known t ≡ true
known_still first known t l h = grind (arith, l, h)

-- blocks of which the tables before this one are forgotten
abbrev pub known_on : Blocks → ℕ → Blocks
known_on blocks first = record blocks { table_known = known_from first blocks.table_known }

module _ {K V : Type 0} (same : K → K → Bool) (hash : K → ℕ) (setting : Setting) (w : World (Node K V)) (c : Chart K) (blocks : Blocks)
    (map : IsMapIn same hash setting w c blocks) where
  module _ (table_known pair_known : ℕ → Bool) (forgets : Forgets c blocks table_known pair_known) where
    -- the blocks that are still known
    abbrev pub fewer : Blocks
    fewer = record blocks { table_known = table_known; pair_known = pair_known }

    pub forgotten_in : IsLater c fewer → IsMapIn same hash setting w c fewer
    forgotten_in later = record {
      map = record { rule = map.map.rule; shows = shows_forgotten hash w.memory c blocks setting.root table_known pair_known map.map.shows forgets; later = later };
      counter = map.counter;
      shards = map.shards;
      tables = map.tables;
      pairs = map.pairs;
      named = map.named;
      tables_out = λ t made known. map.tables_out t made (forgets.tables t made known);
      pairs_out = λ n was known. map.pairs_out n was (forgets.pairs n was known);
    }

  pub old_later : (first : ℕ) → IsLater c (known_on blocks first)
  old_later first t u l made known =
      let k = known_later first blocks.table_known t known in
      known_still first blocks.table_known u (let f = k.0 in omega arith) (map.map.later t u l made k.1)
