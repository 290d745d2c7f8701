-- The words of the pairs of a map: a word for a pair that the map has names that pair, with the key and the value of its block.
use Rattle.std.specs.Prelude.{◌≡◌, ℕ, ◌<◌, Bool, true}
use Rattle.std.proofs.Common.{ap, ◌∙◌}
use Rattle.seize_words.specs.OneMemory.Word.{block_in}
use Rattle.seize.specs.World.{World}
use Rattle.map_tables.specs.declared.node.Node.{Node}
use Rattle.map_tables.specs.declared.setting.Setting.{Setting}
use Rattle.map_measures.specs.Given.RuleChart.{Phase, Holds, Chart}
use Rattle.map_measures.specs.Given.RuleWords.{Blocks, byte_of, place_word}
use Rattle.map_measures.specs.Given.RuleInWorld.{IsMapIn}
use Rattle.map_measures.proofs.Given.RuleWords.PlaceWords.{pair_block}
use Rattle.map_measures.proofs.Given.RuleWords.PlacesShown.{byte_of-few}
use Rattle.map_measures.proofs.Given.RuleWorld.Hands.{current_known}
use Rattle.owner_facts.specs.Given.PointsSteps.{AreLawful}
use Rattle.map_measures.specs.Given.LateCovers.{NamesPair}
use Rattle.owner_facts.proofs.Given.LateSwept.Covers.Shows.{names_one}
use Rattle.owner_whole.specs.Whole.WholeSweeps.{NamesPairOf}
use Rattle.owner_whole.proofs.Whole.Contents.Below.{has_pair}

module _ {K V : Type 0} (same : K → K → Bool) (hash : K → ℕ) (lawful : AreLawful same hash) (setting : Setting) (w : World (Node K V)) (c : Chart K) (blocks : Blocks)
    (map : IsMapIn same hash setting w c blocks) where
  -- what the map has can be looked at
  pub known : (n : ℕ) → c.current n ≡ true → (n < c.stored) × (blocks.pair_known n ≡ true)
  known n is = current_known same hash setting w c blocks map.map.rule map.map.shows n is

  -- a word for it names it
  pub named : (word n : ℕ) (phase : Phase) (borrowed : Bool) → c.current n ≡ true → word ≡ place_word hash c blocks (Holds n phase borrowed) → (k : K) × (v : V) × NamesPairOf hash w.memory c blocks word n k v
  named word n phase borrowed is word_is =
      let p = has_pair same hash lawful setting w c blocks map n is in (
        p.key,
        p.value,
        record {
          stored = (known n is).0;
          is_there = is;
          value = p.block;
          block = ap block_in word_is ∙ pair_block blocks.pair (λ o. byte_of hash (c.key o)) n phase borrowed (byte_of-few hash lawful.fits (c.key n));
          phase = phase;
          borrowed = borrowed;
          word_is = word_is;
        },
      )

  pub names_pair : (word n : ℕ) (phase : Phase) (borrowed : Bool) → c.current n ≡ true → word ≡ place_word hash c blocks (Holds n phase borrowed) → NamesPair hash c blocks word n
  names_pair word n phase borrowed is word_is = let k = known n is in (k.0, k.1, phase, borrowed, word_is)

  -- and no other
  pub one_named : (word n o : ℕ) → NamesPair hash c blocks word n → NamesPair hash c blocks word o → n ≡ o
  one_named word n o a e = names_one hash lawful.fits w.memory c blocks setting.root map.map.shows word n o a e
