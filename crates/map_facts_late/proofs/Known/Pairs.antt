-- What a caller knows of pairs that it can look at, and of those that it took out, lasts over steps of others, in either mode.
use Rattle.std.specs.Prelude.{◌≡◌, ℕ, ◌<◌, Bool, true}
use Rattle.std.proofs.Common.{refl, ap, sym, subst, ◌∙◌}
use Rattle.map_facts.specs.Given.SeizeWorld.{World, Parting, Cutting}
use Rattle.map_facts.specs.Given.TablesDeclared.node.Node.{Node}
use Rattle.map_facts.specs.Given.TablesDeclared.setting.Setting.{Setting}
use Rattle.map_facts.specs.Given.RuleChart.{Still, Holds, Chart}
use Rattle.map_facts.specs.Given.RuleWords.{Blocks, place_word}
use Rattle.map_facts.specs.Given.RuleInWorld.{IsHeldBy, IsMapIn}
use Rattle.map_facts.specs.FactsDisposes.{HasLeft}
use Rattle.map_facts.specs.Others.{OthersStep}
use Rattle.map_facts_late.proofs.Known.Tables.{stored_on, word_on}

module _ {K V : Type 0} (same : K → K → Bool) (hash : K → ℕ) (setting : Setting) (caller : ℕ) (w w2 : World (Node K V)) (c c2 : Chart K)
    (blocks blocks2 : Blocks) (map : IsMapIn same hash setting w c blocks) (others : OthersStep same hash setting caller w c blocks w2 c2 blocks2) where
  pub pair_block : (n : ℕ) → n < c.stored → blocks.pair_known n ≡ true → blocks2.pair n ≡ blocks.pair n
  pair_block n was known = (others.pairs n was known).0

  pub word_here : (n : ℕ) → n < c.stored → blocks.pair_known n ≡ true → (borrowed : Bool) (word : ℕ) → word ≡ place_word hash c blocks (Holds n Still borrowed) → word ≡ place_word hash c2 blocks2 (Holds n Still borrowed)
  word_here n was known borrowed word e = e ∙ sym (word_on same hash setting caller w w2 c c2 blocks blocks2 others n was known Still borrowed)

  -- a pair that was taken out
  pub left_here : (n : ℕ) → HasLeft w caller setting c blocks n → HasLeft w2 caller setting c2 blocks2 n
  left_here n h = (stored_on same hash setting caller w w2 c c2 blocks blocks2 others n h.0, (others.pairs n h.0 h.1).1, others.leaves.gone n h.0 h.2)

  module _ (n : ℕ) (left : HasLeft w caller setting c blocks n) where
    its_hand : IsHeldBy caller (w.hand (blocks.pair n)) → w2.hand (blocks2.pair n) ≡ w.hand (blocks.pair n)
    its_hand held = let p = map.map.shows.pairs n left.0 left.1 in ap w2.hand (pair_block n left.0 left.1) ∙ (others.own.blocks (blocks.pair n) _ p.2 (λ e. absurd (cc e)) held).0

    pub parts_here : w.hand (blocks.pair n) ≡ Parting caller → w2.hand (blocks2.pair n) ≡ Parting caller
    parts_here h = its_hand (subst (IsHeldBy caller) (sym h) refl) ∙ h

    pub cuts_here : w.hand (blocks.pair n) ≡ Cutting caller → w2.hand (blocks2.pair n) ≡ Cutting caller
    cuts_here h = its_hand (subst (IsHeldBy caller) (sym h) refl) ∙ h
