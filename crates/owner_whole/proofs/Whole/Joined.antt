-- By all that is seen after a step, the blocks are the old ones as they were seen before, and the new ones as the step has left them: what it has linked its caller had
-- made, so too.
use Rattle.std.specs.Prelude.{◌≡◌, ℕ, ◌<◌, ◌≤◌, true, cond, ltb, ◌⊎◌}
use Rattle.std.proofs.Common.{ap, sym, ◌∙◌, inl, inr}
use Rattle.std.proofs.lemmas.Bool.{cases_lt}
use Rattle.seize.specs.World.{World}
use Rattle.map_tables.specs.declared.node.Node.{Node}
use Rattle.map_measures.specs.Given.RuleChart.{Chart}
use Rattle.map_measures.specs.Given.RuleWords.{Blocks}
use Rattle.map_measures.specs.Given.RuleInWorld.{SameBlocks, IsKnownBlock, LinksItsOwn}
use Rattle.owner_facts.proofs.Given.CallersSights.Sources.{below, above}

module _ {K : Type 0} (c : Chart K) (before after : Blocks) where
  abbrev pub joined : Blocks
  joined = record {
    table = λ t. cond (ltb t c.past) (before.table t) (after.table t);
    pair = λ n. cond (ltb n c.stored) (before.pair n) (after.pair n);
    table_known = λ t. cond (ltb t c.past) (before.table_known t) (after.table_known t);
    pair_known = λ n. cond (ltb n c.stored) (before.pair_known n) (after.pair_known n);
  }

  pub same_joined : SameBlocks c before joined
  same_joined = record {
    tables = λ t l known. (below t c.past (before.table t) (after.table t) l, below t c.past (before.table_known t) (after.table_known t) l ∙ known);
    pairs = λ n l known. (below n c.stored (before.pair n) (after.pair n) l, below n c.stored (before.pair_known n) (after.pair_known n) l ∙ known);
    tables_back = λ t l known. sym (below t c.past (before.table_known t) (after.table_known t) l) ∙ known;
    pairs_back = λ n l known. sym (below n c.stored (before.pair_known n) (after.pair_known n) l) ∙ known;
  }

  -- what can be looked at after the step is the same block so
  module _ (same : SameBlocks c before after) where
    table_joined : (t : ℕ) → after.table_known t ≡ true → (joined.table t ≡ after.table t) × (joined.table_known t ≡ true)
    table_joined t known = by (cases_lt t c.past)
      where
        by : (t < c.past) ⊎ (c.past ≤ t) → (joined.table t ≡ after.table t) × (joined.table_known t ≡ true)
        by (inl l) =
            let was = same.tables_back t l known in
            (below t c.past (before.table t) (after.table t) l ∙ sym (same.tables t l was).0, below t c.past (before.table_known t) (after.table_known t) l ∙ was)
        by (inr new) = (above t c.past (before.table t) (after.table t) new, above t c.past (before.table_known t) (after.table_known t) new ∙ known)

    pair_joined : (n : ℕ) → after.pair_known n ≡ true → (joined.pair n ≡ after.pair n) × (joined.pair_known n ≡ true)
    pair_joined n known = by (cases_lt n c.stored)
      where
        by : (n < c.stored) ⊎ (c.stored ≤ n) → (joined.pair n ≡ after.pair n) × (joined.pair_known n ≡ true)
        by (inl l) =
            let was = same.pairs_back n l known in
            (below n c.stored (before.pair n) (after.pair n) l ∙ sym (same.pairs n l was).0, below n c.stored (before.pair_known n) (after.pair_known n) l ∙ was)
        by (inr new) = (above n c.stored (before.pair n) (after.pair n) new, above n c.stored (before.pair_known n) (after.pair_known n) new ∙ known)

    known_joined : (c2 : Chart K) (b : ℕ) → IsKnownBlock c2 after b → IsKnownBlock c2 joined b
    known_joined c2 b (inl (t, made, known, at)) = let k = table_joined t known in inl (t, made, k.1, at ∙ sym k.0)
    known_joined c2 b (inr (n, was, known, at)) = let k = pair_joined n known in inr (n, was, k.1, at ∙ sym k.0)

    pub links_joined : {V : Type 0} (caller : ℕ) (w w2 : World (Node K V)) (c2 : Chart K) → LinksItsOwn caller w w2 c c2 after → LinksItsOwn caller w w2 c c2 joined
    links_joined caller w w2 c2 links = record {
      tables = λ t new made. ap w.hand (above t c.past (before.table t) (after.table t) new) ∙ links.tables t new made;
      pairs = λ n new was. ap w.hand (above n c.stored (before.pair n) (after.pair n) new) ∙ links.pairs n new was;
      outs = links.outs;
      known = λ b own out. known_joined c2 b (links.known b own out);
    }
