-- Where a step leaves the word of the root as it is, the root is the same table.
use Rattle.std.proofs.Common.{◌≡◌, ℕ, zero, suc, ◌*◌, ◌<◌, Bool, true, Some, inl, inr, refl, arith, ap, sym, ◌∙◌}
use Rattle.many_maps.specs.Given.SeizeWordsDeclared.at.At.TheVariants.{Root}
use Rattle.many_maps.specs.Given.SeizeWordsMem.{word_at}
use Rattle.many_maps.specs.Given.SeizeWorld.{World}
use Rattle.many_maps.specs.Given.TablesChunks.{is_incremental}
use Rattle.many_maps.specs.Given.TablesDeclared.node.Node.{Node}
use Rattle.many_maps.specs.Given.TablesDeclared.setting.Setting.{Setting}
use Rattle.many_maps.specs.Given.RuleChart.{Chart}
use Rattle.many_maps.specs.Given.RuleLasts.{Lasts}
use Rattle.many_maps.specs.Given.RuleWords.{Blocks, root_word}
use Rattle.many_maps.specs.Given.RuleMaps.{spot_of}
use Rattle.many_maps.specs.Given.RuleInWorld.{SameBlocks, IsMapIn}
use Rattle.many_maps.specs.Given.RuleLinks.{LeadsTo}
use Rattle.many_maps.proofs.Given.RuleWords.LinksSeen.{root_leads}

module _ {K V : Type 0} (same : K → K → Bool) (hash : K → ℕ) (setting : Setting) (w : World (Node K V)) (c : Chart K) (blocks : Blocks) (map : IsMapIn same hash setting w c blocks) where
  -- what the word of the root names is the root
  pub root_named : (t : ℕ) → t < c.past → blocks.table_known t ≡ true → word_at w.memory (Root setting.root) ≡ Some (blocks.table t * 2048) → c.first ≡ t
  root_named t made known read = by (root_leads same hash setting.mode setting.root w.memory c blocks map.map (blocks.table t * 2048) read)
    where
      by : LeadsTo c blocks (blocks.table t * 2048) c.first → c.first ≡ t
      by (inl none) = absurd (let some = (map.map.shows.table_numbers t made known).0 in omega (arith, none.0, some))
      by (inr leads) = map.map.shows.tables_apart c.first t leads.1 made leads.2 known (let e = leads.0 in omega (arith, e))

module _ {K V : Type 0} (same : K → K → Bool) (hash : K → ℕ) (setting : Setting) (w w2 : World (Node K V)) (c c2 : Chart K) (blocks blocks2 : Blocks)
    (map : IsMapIn same hash setting w c blocks) (map2 : IsMapIn same hash setting w2 c2 blocks2) (lasts : Lasts same (spot_of hash) (is_incremental setting.mode) c c2)
    (since : SameBlocks c blocks blocks2) where
  -- a table that was there is the root once the word names it
  pub root_becomes : (t : ℕ) → t < c.past → blocks.table_known t ≡ true → word_at w2.memory (Root setting.root) ≡ Some (blocks.table t * 2048) → c2.first ≡ t
  root_becomes t made known read =
      let there = since.tables t made known in
      root_named same hash setting w2 c2 blocks2 map2 t (let more = lasts.past in omega (arith, made, more)) there.1 (read ∙ ap (λ (b : ℕ). Some (b * 2048)) (sym there.0))

  -- where it names none, there is none
  pub none_then : word_at w2.memory (Root setting.root) ≡ Some 0 → c2.past ≡ 0
  none_then read = by (root_leads same hash setting.mode setting.root w2.memory c2 blocks2 map2.map 0 read)
    where
      by_past : c2.past < suc c2.first → (n : ℕ) → c2.past ≡ n → c2.past ≡ 0
      by_past l zero e = e
      by_past l (suc n) e = absurd (let rooted = map2.map.rule.common.rooted (omega (arith, e)) in omega (arith, rooted, l))

      by : LeadsTo c2 blocks2 0 c2.first → c2.past ≡ 0
      by (inl none) = by_past (let l = none.1 in omega (arith, l)) c2.past refl
      by (inr leads) = absurd (let some = (map2.map.shows.table_numbers c2.first leads.1 leads.2).0 in let e = leads.0 in omega (arith, some, e))

  pub root_same : word_at w2.memory (Root setting.root) ≡ word_at w.memory (Root setting.root) → c2.first ≡ c.first
  root_same kept = by (root_leads same hash setting.mode setting.root w.memory c blocks map.map (root_word hash c blocks) map.map.shows.root_there)
    where
      read : word_at w2.memory (Root setting.root) ≡ Some (root_word hash c blocks)
      read = kept ∙ map.map.shows.root_there

      by : LeadsTo c blocks (root_word hash c blocks) c.first → c2.first ≡ c.first
      by (inl none) =
          let past2 = none_then (read ∙ ap Some none.0) in
          let past : c.past ≡ 0 = let more = lasts.past in omega (arith, more, past2) in
          map2.map.rule.common.rootless past2 ∙ sym (map.map.rule.common.rootless past)
      by (inr leads) = root_becomes c.first leads.1 leads.2 (read ∙ ap Some leads.0)
