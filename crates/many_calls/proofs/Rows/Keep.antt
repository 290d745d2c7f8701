-- A step of a row keeps the map that its collector is used for, and all blocks of it that are kept.
use Rattle.std.specs.Prelude.{slice_get}
use Rattle.std.proofs.Common.{◌≡◌, ℕ, ◌<◌, Bool, true, List, ap, sym, subst, ◌∙◌, inl, inr}
use Rattle.seize_model.specs.Given.SeizeWordsDeclared.at.At.TheVariants.{Word}
use Rattle.seize_model.specs.Given.SeizeWordsMem.{value_at, word_at}
use Rattle.seize_model.specs.Given.SeizeLaw.{With, where_is, is_somewhere}
use Rattle.seize_model.specs.Given.SeizeWorld.{World, Hand, NoBlock, Making, InUse, Cutting, Handed, LeftTo, IsOwn, Steps', Parting}
use Rattle.seize_model.specs.Alone.Alone.{IsOfUsers}
use Rattle.seize_model.proofs.Alone.Histories.NotTaken.{IsKept, CanBeReached, IsHad, did, kept_value, kept_word, kept_hand, still_reached}
use Rattle.seize_model.proofs.Alone.Histories.Reached.{Reached}
use Rattle.seize_model.proofs.Given.SeizeRuleRows.Effects.{place_kept}
use Rattle.map_facts_late.specs.Given.TablesNodes.{deferred_word}
use Rattle.map_facts_late.specs.Given.TablesDeclared.node.Node.{Node}
use Rattle.map_facts_late.specs.Given.TablesDeclared.node.Node.TheVariants as node
use Rattle.map_facts_late.specs.Given.TablesDeclared.setting.Setting.{Setting}
use Rattle.map_facts_late.specs.Given.RuleChart.{Chart}
use Rattle.map_facts_late.specs.Given.RuleWords.{Blocks}
use Rattle.map_facts_late.specs.Given.RuleInWorld.{IsOut, StandsIn, IsReached, IsMapIn}
use Rattle.map_facts_late.proofs.Given.RuleWorld.Framed.{Frames, shows_framed}
use Rattle.map_facts_late.proofs.Given.RuleWorld.Hands.{Hands}
use Rattle.map_facts_late.proofs.Given.RuleWorld.WentWrote.{HasCounter, map_in, own_word}
use Rattle.many_calls.specs.Kept.{IsUsersOwn, IsKeptBlock}

module _ {K V : Type 0} (w : World (Node K V)) where
  had_by_user : (h : Hand) → IsUsersOwn h → IsOfUsers h
  had_by_user NoBlock u = u
  had_by_user (Making i) u = u
  had_by_user (InUse o) u = u
  had_by_user (Parting i) u = u
  had_by_user (Cutting i) u = u
  had_by_user Handed u = u
  had_by_user (LeftTo i) u = u

  -- a block that is kept is one that rows don't take
  pub kept_block : (b : ℕ) → IsKeptBlock w b → IsKept b w
  kept_block b (inl own) = IsHad (had_by_user (w.hand b) own)
  kept_block b (inr reached) = CanBeReached reached

  pub used_kept : (b : ℕ) → {o : ℕ} → w.hand b ≡ InUse o → IsKeptBlock w b
  used_kept b used = inl (subst IsUsersOwn (sym used) tt)

  pub standing_block_kept : (b : ℕ) → {o : ℕ} → StandsIn o (w.hand b) → IsKeptBlock w b
  standing_block_kept b (inl used) = used_kept b used
  standing_block_kept b (inr parting) = inl (subst IsUsersOwn (sym parting.1) tt)

  pub deferred_kept : (b t : ℕ) → where_is b w.log ≡ With t → IsKeptBlock w b
  deferred_kept b t at = inr (ap is_somewhere at)

-- where no row takes what can be looked at
module _ {K V : Type 0} (same : K → K → Bool) (hash : K → ℕ) (setting : Setting) (w : World (Node K V)) (c : Chart K) (blocks : Blocks) (r : Reached deferred_word setting.batch_size w)
    (map : IsMapIn same hash setting w c blocks)
    (tables_kept : (t : ℕ) → t < c.past → blocks.table_known t ≡ true → IsKept (blocks.table t) w)
    (pairs_kept : (n : ℕ) → n < c.stored → blocks.pair_known n ≡ true → IsKept (blocks.pair n) w)
    (counter_kept : IsKept setting.counter w) (i : ℕ) (w2 : World (Node K V)) (step : Steps' deferred_word i (w.row i) w w2) where
  hand_stays : (b : ℕ) → IsKept b w → w2.hand b ≡ w.hand b
  hand_stays b k = kept_hand deferred_word setting.batch_size w r i w2 step b k

  value_stays : (b : ℕ) → IsKept b w → value_at w2.memory b ≡ value_at w.memory b
  value_stays b k = kept_value deferred_word setting.batch_size w r i w2 step b k

  word_stays : (b f : ℕ) → IsKept b w → IsOwn deferred_word w.memory (Word b f) → word_at w2.memory (Word b f) ≡ word_at w.memory (Word b f)
  word_stays b f k own = (kept_word deferred_word setting.batch_size w r i w2 step b f k own).0

  place_stays : (b : ℕ) → where_is b w2.log ≡ where_is b w.log
  place_stays b = let d = did deferred_word setting.batch_size w r i w2 step in ap (where_is b) d.logged ∙ place_kept b d.effects w.log d.one

  frames : Frames w.memory w2.memory c blocks setting.root
  frames = record {
    root_word = ap (λ (l : List ℕ). slice_get l setting.root) (did deferred_word setting.batch_size w r i w2 step).frames.roots;
    table_values = λ t made known. value_stays (blocks.table t) (tables_kept t made known);
    pair_values = λ n was known. value_stays (blocks.pair n) (pairs_kept n was known);
    words = λ t d made known other. word_stays (blocks.table t) d (tables_kept t made known)
        (own_word hash w.memory c blocks setting.root map.map.shows t d made known other);
  }

  shard_own : (shard : ℕ) → IsOwn deferred_word w.memory (Word setting.counter shard)
  shard_own shard = (node.Shards, map.counter, λ e. cc e)

  has_counter : HasCounter setting w2.memory
  has_counter = record {
    counter = value_stays setting.counter counter_kept ∙ map.counter;
    shards = λ shard l. let s = map.shards shard l in (s.0, word_stays setting.counter shard counter_kept (shard_own shard) ∙ s.1);
  }

  used_stays : (b : ℕ) → w.hand b ≡ InUse setting.counter → w2.hand b ≡ InUse setting.counter
  used_stays b used = hand_stays b (kept_block w b (used_kept w b used)) ∙ used

  reached_stays : (t n : ℕ) → IsReached same hash setting w c blocks t n → IsReached same hash setting w2 c blocks t n
  reached_stays t n (inl stands) = inl (subst (StandsIn setting.counter) (sym (hand_stays (blocks.pair n) (kept_block w (blocks.pair n) (standing_block_kept w (blocks.pair n) stands)))) stands)
  reached_stays t n (inr at) =
      inr (at.0, at.1, at.2, hand_stays (blocks.pair n) (kept_block w (blocks.pair n) (deferred_kept w (blocks.pair n) (blocks.table at.0) at.4)) ∙ at.3, place_stays (blocks.pair n) ∙ at.4)

  hands_stay : Hands same hash setting w2 c blocks
  hands_stay = record {
    tables = λ t l made. used_stays (blocks.table t) (map.tables t l made);
    pairs = λ n is. used_stays (blocks.pair n) (map.pairs n is);
    named = λ t j n phase borrowed l made e. reached_stays t n (map.named t j n phase borrowed l made e);
    tables_out = λ t made known. subst IsOut (sym (hand_stays (blocks.table t) (tables_kept t made known))) (map.tables_out t made known);
    pairs_out = λ n was known. subst IsOut (sym (hand_stays (blocks.pair n) (pairs_kept n was known))) (map.pairs_out n was known);
  }

  pub row_keeps_map : IsMapIn same hash setting w2 c blocks
  row_keeps_map =
      map_in same hash setting w2 c blocks
      (record { rule = map.map.rule; shows = shows_framed hash w.memory w2.memory c blocks setting.root map.map.shows frames; later = map.map.later })
      has_counter hands_stay

module _ {K V : Type 0} (setting : Setting) (w : World (Node K V)) (r : Reached deferred_word setting.batch_size w) (i : ℕ) (w2 : World (Node K V)) (step : Steps' deferred_word i (w.row i) w w2) where
  -- what is kept stays kept
  pub row_keeps_block : (b : ℕ) → IsKeptBlock w b → IsKeptBlock w2 b
  row_keeps_block b (inl own) = inl (subst IsUsersOwn (sym (kept_hand deferred_word setting.batch_size w r i w2 step b (kept_block w b (inl own)))) own)
  row_keeps_block b (inr reached) = inr (still_reached deferred_word setting.batch_size w r i w2 step b ∙ reached)
