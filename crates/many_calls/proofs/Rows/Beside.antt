-- What a step of a row, whoever takes it, leaves to callers: the blocks that they have made, those in use, and those that they have unlinked.
use Rattle.std.proofs.Common.{◌≡◌, ℕ, inl, sym, subst, ◌∙◌}
use Rattle.seize_model.specs.Given.SeizeWordsMem.{value_at, word_at}
use Rattle.seize_model.specs.Given.SeizeWordsDeclared.at.At.TheVariants.{Word}
use Rattle.seize_model.specs.Given.SeizeWorld.{World, Making, Cutting, Steps', Hand, NoBlock, InUse, Handed, LeftTo, Parting}
use Rattle.seize_model.proofs.Alone.Histories.NotTaken.{did, not_taken, kept_value, kept_hand}
use Rattle.seize_model.proofs.Alone.Histories.Reached.{Reached}
use Rattle.map_facts_late.specs.Given.TablesNodes.{deferred_word}
use Rattle.map_facts_late.specs.Given.TablesDeclared.node.Node.{Node}
use Rattle.map_facts_late.specs.Given.RuleInWorld.{IsHeldBy, PreservesBlocks}
use Rattle.many_calls.specs.Kept.{IsUsersOwn, IsMaking}
use Rattle.many_calls.proofs.Rows.Keep.{kept_block}

-- what its maker has a user has
pub making_own : (h : Hand) → IsMaking h → IsUsersOwn h
making_own NoBlock own = absurd own
making_own (Making i) own = tt
making_own (InUse o) own = absurd own
making_own (Parting i) own = absurd own
making_own (Cutting i) own = absurd own
making_own Handed own = absurd own
making_own (LeftTo i) own = absurd own

held_own : (j : ℕ) (h : Hand) → IsHeldBy j h → IsUsersOwn h
held_own j NoBlock held = absurd held
held_own j (Making i) held = tt
held_own j (InUse o) held = absurd held
held_own j (Parting i) held = tt
held_own j (Cutting i) held = tt
held_own j Handed held = absurd held
held_own j (LeftTo i) held = absurd held

module _ {K V : Type 0} (size : ℕ) (w : World (Node K V)) (r : Reached deferred_word size w) (i : ℕ) (w2 : World (Node K V)) (step : Steps' deferred_word i (w.row i) w w2) where
  -- a block that a user has stays with that user, and its value and its words stay
  pub users_hand : (b : ℕ) → IsUsersOwn (w.hand b) → w2.hand b ≡ w.hand b
  users_hand b own = kept_hand deferred_word size w r i w2 step b (kept_block w b (inl own))

  pub users_value : (b : ℕ) → IsUsersOwn (w.hand b) → value_at w2.memory b ≡ value_at w.memory b
  users_value b own = kept_value deferred_word size w r i w2 step b (kept_block w b (inl own))

  -- all words of what a caller has made stay, too
  pub users_word : (b caller f : ℕ) → w.hand b ≡ Making caller → word_at w2.memory (Word b f) ≡ word_at w.memory (Word b f)
  users_word b caller f making = (did deferred_word size w r i w2 step).made b caller f making (not_taken deferred_word size w r i w2 step b (kept_block w b (inl (subst IsUsersOwn (sym making) tt))))

  pub row_keeps_blocks : (j : ℕ) → PreservesBlocks j w.memory w.hand w2.memory w2.hand
  row_keeps_blocks j = record {
    blocks = λ b value is other held. (users_hand b (held_own j (w.hand b) held), users_value b (held_own j (w.hand b) held) ∙ is);
    words = λ b field value is other making. users_word b j field making;
  }
