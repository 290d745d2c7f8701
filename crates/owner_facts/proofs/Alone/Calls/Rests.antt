-- A map stands as well by what of it can be reached: the tables from its root on, and pairs.
use Rattle.std.proofs.Common.{◌≡◌, ℕ, ◌<◌, Bool, true, false, cond, inl, inr, refl, ap, ◌∙◌}
use Rattle.many_maps.specs.Given.SeizeLaw.{reachable, is_somewhere}
use Rattle.many_maps.specs.Given.SeizeWorld.{World, InUse}
use Rattle.many_maps.proofs.Given.SeizeAloneHistories.Reached.{Reached}
use Rattle.many_maps.specs.Given.TablesNodes.{deferred_word}
use Rattle.many_maps.specs.Given.TablesDeclared.node.Node.{Node}
use Rattle.many_maps.specs.Given.TablesDeclared.setting.Setting.{Setting}
use Rattle.many_maps.specs.Given.RuleChart.{Chart}
use Rattle.many_maps.specs.Given.RuleWords.{Blocks}
use Rattle.many_maps.specs.Given.RuleInWorld.{IsReached, IsMapIn}
use Rattle.many_maps.proofs.Given.CallersRows.Forgotten.{Forgets}
use Rattle.many_maps.proofs.Given.CallersRows.Defers.{used_stands, standing_stands}
use Rattle.many_maps.proofs.Given.CallersRows.Forgets.{known_from, known_later, known_still, forgotten_in, old_later}

module _ {K V : Type 0} (w : World (Node K V)) where
  -- the pairs that can be reached
  abbrev pub reached_pairs : Blocks → ℕ → Bool
  reached_pairs blocks n = cond (blocks.pair_known n) (reachable (blocks.pair n) w.log) false

  reached_was : (blocks : Blocks) (n : ℕ) → reached_pairs blocks n ≡ true → (blocks.pair_known n ≡ true) × (reachable (blocks.pair n) w.log ≡ true)
  reached_was blocks n e = by (blocks.pair_known n) e
    where
      by : (z : Bool) → cond z (reachable (blocks.pair n) w.log) false ≡ true → (z ≡ true) × (reachable (blocks.pair n) w.log ≡ true)
      by true k = (refl, k)
      by false k = absurd (cc k)

  still_reached : (blocks : Blocks) (n : ℕ) → blocks.pair_known n ≡ true → reachable (blocks.pair n) w.log ≡ true → reached_pairs blocks n ≡ true
  still_reached blocks n known k = ap (λ (z : Bool). cond z (reachable (blocks.pair n) w.log) false) known ∙ k

  -- the tables from the root on, and the pairs that can be reached
  abbrev pub reached_on : Chart K → Blocks → Blocks
  reached_on c blocks = record blocks { table_known = known_from c.first blocks.table_known; pair_known = reached_pairs blocks }

module _ {K V : Type 0} (same : K → K → Bool) (hash : K → ℕ) (setting : Setting) (w : World (Node K V)) (c : Chart K) (blocks : Blocks)
    (r : Reached deferred_word setting.batch_size w) (map : IsMapIn same hash setting w c blocks) where
  used_reached : (b : ℕ) → w.hand b ≡ InUse setting.counter → reachable b w.log ≡ true
  used_reached b e = ap is_somewhere (used_stands deferred_word setting.batch_size w r b e)

  pair_reached : (t n : ℕ) → IsReached same hash setting w c blocks t n → reachable (blocks.pair n) w.log ≡ true
  pair_reached t n (inl stands) = ap is_somewhere (standing_stands deferred_word setting.batch_size w r (blocks.pair n) stands)
  pair_reached t n (inr at) = ap is_somewhere at.4

  forgets : Forgets c blocks (known_from c.first blocks.table_known) (reached_pairs w blocks)
  forgets = record {
    tables = λ t made known. (known_later c.first blocks.table_known t known).1;
    pairs = λ n was known. (reached_was w blocks n known).0;
    linked = λ t later made. known_still c.first blocks.table_known t later (map.map.shows.linked t later made);
    named = λ t i n phase borrowed made known e.
        let k = known_later c.first blocks.table_known t known in
        still_reached w blocks n (map.map.shows.named t i n phase borrowed made k.1 e) (pair_reached t n (map.named t i n phase borrowed k.0 made e));
  }

  pub reached_in : IsMapIn same hash setting w c (reached_on w c blocks)
  reached_in = forgotten_in same hash setting w c blocks map (known_from c.first blocks.table_known) (reached_pairs w blocks) forgets (old_later same hash setting w c blocks map c.first)

  pub tables_reached : (t : ℕ) → t < c.past → known_from c.first blocks.table_known t ≡ true → reachable (blocks.table t) w.log ≡ true
  tables_reached t made known = used_reached (blocks.table t) (map.tables t (known_later c.first blocks.table_known t known).0 made)

  pub pairs_reached : (n : ℕ) → reached_pairs w blocks n ≡ true → reachable (blocks.pair n) w.log ≡ true
  pairs_reached n known = (reached_was w blocks n known).1
