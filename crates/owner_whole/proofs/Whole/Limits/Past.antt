-- A map has as many tables after a step as before it, where the step leaves the link of its last table as it is; and a table that none is linked behind is the last.
use Rattle.std.specs.Prelude.{◌≡◌, ℕ, suc, ◌*◌, ◌<◌, ◌≤◌, Bool, true, cond, Some}
use Rattle.std.proofs.Common.{refl, ap, ◌∙◌, inl, inr, arith}
use Rattle.std.proofs.lemmas.Bool.{le-ltb}
use Rattle.seize_words.specs.OneMemory.Mem.{word_at}
use Rattle.seize_words.specs.declared.at.At.TheVariants.{Word}
use Rattle.seize.specs.World.{World}
use Rattle.map_tables.specs.Chunks.{is_incremental}
use Rattle.map_tables.specs.TablePlaces.{at_word}
use Rattle.map_tables.specs.declared.node.Node.{Node}
use Rattle.map_tables.specs.declared.setting.Setting.{Setting}
use Rattle.map_tables.specs.declared.table.Table.{Table}
use Rattle.map_tables.specs.declared.table_words.TheConstants.{NEXT}
use Rattle.map_measures.specs.Given.RuleChart.{Chart}
use Rattle.map_measures.specs.Given.RuleWords.{Blocks}
use Rattle.map_measures.specs.Given.RuleLasts.{Lasts}
use Rattle.map_measures.specs.Given.RuleLinks.{LeadsTo}
use Rattle.map_measures.specs.Given.RuleMaps.{spot_of, IsTable}
use Rattle.map_measures.specs.Given.RuleInWorld.{IsMapIn, SameBlocks}
use Rattle.map_measures.proofs.Given.RuleWords.LinksSeen.{next_leads}
use Rattle.map_measures.proofs.Given.RuleWords.TablesSeen.{word_stands}

module _ {K V : Type 0} (same : K → K → Bool) (hash : K → ℕ) (setting : Setting) (w : World (Node K V)) (c : Chart K) (blocks : Blocks) (map : IsMapIn same hash setting w c blocks) where
  -- no table is behind one whose link is 0
  none_behind : (t : ℕ) → LeadsTo c blocks 0 (suc t) → c.past ≤ suc t
  none_behind t (inl none) = none.1
  none_behind t (inr some) = absurd (let number = map.map.shows.table_numbers (suc t) some.1 some.2 in let zero = some.0 in let positive = number.0 in omega (arith, zero, positive))

  pub is_last : (table : Table) (t : ℕ) → IsTable c blocks table t → word_at w.memory (at_word table NEXT) ≡ Some 0 → suc t ≡ c.past
  is_last table t entered read =
      let few = none_behind t (next_leads same hash setting.mode setting.root w.memory c blocks map.map table t 0 entered read) in let made = entered.made in omega (arith, few, made)

  -- the last table
  module _ (t : ℕ) (last : suc t ≡ c.past) where
    pub made : t < c.past
    made = omega (arith, last)

    pub linked : c.first ≤ t
    linked = let first = map.map.rule.common.rooted (omega (arith, last)) in omega (arith, first, last)

    pub known : blocks.table_known t ≡ true
    known = map.map.shows.linked t linked made

    pub its_link : word_at w.memory (Word (blocks.table t) NEXT) ≡ Some 0
    its_link =
        (map.map.shows.tables t made known).next ∙ ap (λ (q : Bool). Some (cond q (blocks.table (suc t) * 2048) 0)) (le-ltb (suc t) c.past (omega (arith, last)))

module _ {K V : Type 0} (same : K → K → Bool) (hash : K → ℕ) (setting : Setting) (w w2 : World (Node K V)) (c c2 : Chart K) (blocks blocks2 : Blocks)
    (map : IsMapIn same hash setting w c blocks) (map2 : IsMapIn same hash setting w2 c2 blocks2) (lasts : Lasts same (spot_of hash) (is_incremental setting.mode) c c2)
    (blocks_same : SameBlocks c blocks blocks2) (t : ℕ) (last : suc t ≡ c.past) (still : word_at w2.memory (Word (blocks.table t) NEXT) ≡ Some 0) where
  -- that table, as it is then
  abbrev then_table : Table
  then_table = record { link = blocks2.table t * 2048; len = c2.len t; limit = c2.limit t; turn = t }

  kept : (blocks2.table t ≡ blocks.table t) × (blocks2.table_known t ≡ true)
  kept = blocks_same.tables t (made same hash setting w c blocks map t last) (known same hash setting w c blocks map t last)

  entered : IsTable c2 blocks2 then_table t
  entered = record { made = (let more = lasts.past in omega (arith, more, last)); known = kept.1; is = refl }

  pub past_same : c2.past ≡ c.past
  past_same =
      let end = is_last same hash setting w2 c2 blocks2 map2 then_table t entered
      (ap (word_at w2.memory) (word_stands hash w2.memory c2 blocks2 setting.root map2.map.shows then_table t entered NEXT) ∙ ap (λ (b : ℕ). word_at w2.memory (Word b NEXT)) kept.0 ∙ still) in
      omega (arith, end, last)
