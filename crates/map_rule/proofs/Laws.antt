-- What the laws promise, clause by clause, as far as crates above cite it in proofs.
use Rattle.std.proofs.Common.{ℕ, ◌/◌, Bool, ap, sym, ◌∙◌}
use Rattle.map_machines.specs.Given.SeizeWordsMem.{value_at}
use Rattle.seize_rule.specs.Given.SeizeWorld.{at_start}
use Rattle.map_machines.specs.Given.TablesChunks.{is_incremental}
use Rattle.map_machines.specs.Given.TablesNodes.{deferred_word}
use Rattle.map_rule.specs.Known.{BytesAreFew, CurrentIsKnown, PlacesHavePairs, WordsNamePairs, WordsTellMarks, WordsWithBlocks}
use Rattle.map_rule.specs.Links.{RootsLead, NextsLead, LinksHaveTables}
use Rattle.map_rule.specs.Maps.{spot_of}
use Rattle.map_rule.proofs.World.Hands.{current_known}
use Rattle.map_rule.proofs.Words.LinksSeen.{root_leads, next_leads}
use Rattle.map_rule.proofs.Words.PlaceWords.{pair_block}
use Rattle.map_rule.proofs.Words.PlaceWordsMarks.{has_copying}
use Rattle.map_rule.proofs.Words.PlaceWordsRead.{word-pair}
use Rattle.map_rule.proofs.Words.PlacesShown.{are_stored, byte_of-few, shown_block}
use Rattle.map_rule.proofs.Words.TablesSeen.{link_value, link_not_zero, next_there}

pub current_is_known : {K V : Type 0} (same : K → K → Bool) (hash : K → ℕ) → CurrentIsKnown K V same hash
current_is_known {K} {V} same hash setting m c blocks rule shows n is =
    current_known same hash setting (at_start (deferred_word {K = K} {V = V}) 0) c blocks rule shows n is

pub words_name_pairs : WordsNamePairs
words_name_pairs = pair_block

pub bytes_are_few : {K : Type 0} (hash : K → ℕ) → BytesAreFew K hash
bytes_are_few = byte_of-few

pub words_with_blocks : WordsWithBlocks
words_with_blocks = word-pair

pub words_tell_marks : WordsTellMarks
words_tell_marks = has_copying

module _ {K V : Type 0} (same : K → K → Bool) (hash : K → ℕ) where
  pub places_have_pairs : PlacesHavePairs K V same hash
  places_have_pairs mode root m c blocks map t i n phase borrowed made known holds =
      let stored = are_stored same (spot_of hash) (is_incremental mode) c map.rule.common in
      let there = map.shows.pairs n (stored t i n phase borrowed holds) (map.shows.named t i n phase borrowed made known holds) in
      (shown_block hash m c blocks root map.shows stored t i made known n phase borrowed holds, there.0, there.1, there.2, there.3)

  pub roots_lead : RootsLead K V same hash
  roots_lead mode root m c blocks map link read = root_leads same hash mode root m c blocks map link read

  pub nexts_lead : NextsLead K V same hash
  nexts_lead mode root m c blocks map table t entered =
      (next_there hash m c blocks root map.shows table t entered, λ link read. next_leads same hash mode root m c blocks map table t link entered read)

  pub links_have_tables : LinksHaveTables K V same hash
  links_have_tables mode root m c blocks map link t there = (
    λ e. link_not_zero hash m c blocks root map.shows t there.1 there.2 (sym there.0 ∙ e),
    ap (λ (x : ℕ). value_at m (x / 2048)) there.0 ∙ link_value hash m c blocks root map.shows t there.1 there.2,
  )
