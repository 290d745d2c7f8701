-- The shards of a map's counter: their words are no words of tables, and a step that writes none of them leaves what they say.
use Rattle.std.specs.Prelude.{◌≡◌, ◌≢◌, ℕ, suc, ◌==◌, ◌&&◌, ◌<◌, Bool, true, false}
use Rattle.std.proofs.Common.{ap, sym, ◌∙◌, arith}
use Rattle.std.proofs.lemmas.Bool.{ne_eqb}
use Rattle.many_maps.specs.Given.SeizeWordsDeclared.at.At.TheVariants.{Word}
use Rattle.many_maps.specs.Given.SeizeWordsMem.{Mem, Can, Took, same_at, value_at, word_at}
use Rattle.many_maps.specs.Given.SeizeWordsPlan.{Plan, May, Steps}
use Rattle.many_maps.specs.Given.SeizeWorld.{World}
use Rattle.many_maps.specs.Given.TablesDeclared.node.Node.{Node}
use Rattle.many_maps.specs.Given.TablesDeclared.setting.Setting.{Setting}
use Rattle.many_maps.specs.Given.TablesDeclared.table_words.TheConstants.{NEXT}
use Rattle.many_maps.specs.Given.RuleChart.{Chart}
use Rattle.many_maps.specs.Given.RuleWords.{Blocks}
use Rattle.many_maps.specs.Given.RuleInWorld.{IsMapIn}
use Rattle.owner_facts.specs.Alone.Counting.{shards_sum}
use Rattle.owner_facts.proofs.Alone.Shards.Sums.{shards_words}
use Rattle.many_maps.proofs.Given.RuleSpared.{PlanSpares, step_spares}
use Rattle.owner_facts.proofs.Alone.Spared.Calls.{IsApart}

module _ {K V : Type 0} (same : K → K → Bool) (hash : K → ℕ) (w : World (Node K V)) (setting : Setting) (c : Chart K) (blocks : Blocks) (map : IsMapIn same hash setting w c blocks) where
  counter_table : (t : ℕ) → t < c.past → blocks.table_known t ≡ true → setting.counter ≢ blocks.table t
  counter_table t made known e =
      let shards = map.counter in
      let table = (map.map.shows.tables t made known).value in
      let same_value : value_at w.memory setting.counter ≡ value_at w.memory (blocks.table t) = ap (value_at w.memory) e in
      cc (shards, table, same_value)

  pub counter_apart : (caller shard : ℕ) → IsApart same hash w caller setting c blocks (Word setting.counter shard)
  counter_apart caller shard = record {
    fixed = tt;
    tables = λ t field made known some. ap (λ (q : Bool). q && (shard == field)) (ne_eqb setting.counter (blocks.table t) (counter_table t made known));
    own = λ b hand other e. other (ap (value_at w.memory) (sym e) ∙ map.counter);
  }

  pub counter_no_next : (shard t : ℕ) → t < c.past → blocks.table_known t ≡ true → same_at (Word setting.counter shard) (Word (blocks.table t) NEXT) ≡ false
  counter_no_next shard t made known = ap (λ (q : Bool). q && (shard == NEXT)) (ne_eqb setting.counter (blocks.table t) (counter_table t made known))

  -- each of their words is as it was
  pub shard_stays : {R : Type 0} (plan : Plan (Node K V) R) → May Can Took value_at w.memory plan → (m2 : Mem (Node K V)) (end : R) → Steps Took value_at w.memory plan m2 end
      → (shard : ℕ) → shard < suc setting.mask → PlanSpares (Word setting.counter shard) plan → word_at m2 (Word setting.counter shard) ≡ word_at w.memory (Word setting.counter shard)
  shard_stays plan may m2 end steps shard l spares =
      let there = map.shards shard (omega (arith, l)) in
      step_spares (Word setting.counter shard) tt w.memory there.0 there.1 plan m2 end spares may steps ∙ sym there.1

  -- so is what they say
  pub shards_spared : {R : Type 0} (plan : Plan (Node K V) R) → ((shard : ℕ) → PlanSpares (Word setting.counter shard) plan) → May Can Took value_at w.memory plan
      → (m2 : Mem (Node K V)) (end : R) → Steps Took value_at w.memory plan m2 end → shards_sum m2 setting.counter (suc setting.mask) ≡ shards_sum w.memory setting.counter (suc setting.mask)
  shards_spared plan spares may m2 end steps =
      shards_words w.memory m2 setting.counter (suc setting.mask) (λ shard l. shard_stays plan may m2 end steps shard l (spares shard))
