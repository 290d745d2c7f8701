-- A place of the root is written, and keeps its pair: what the memory shows then, and who has the blocks.
use Rattle.std.proofs.Common.{◌≡◌, ℕ, ◌+◌, ◌<◌, Bool, true, refl, sym, subst, arith}
use Rattle.map_machines.specs.Given.SeizeWordsDeclared.at.At.{At}
use Rattle.map_machines.specs.Given.SeizeWordsDeclared.at.At.TheVariants.{Word}
use Rattle.map_machines.specs.Given.SeizeWordsMem.{with_word}
use Rattle.seize_rule.specs.Given.SeizeWorld.{World}
use Rattle.map_machines.specs.Given.TablesTablePlaces.{at_place}
use Rattle.map_machines.specs.Given.TablesDeclared.node.Node.{Node}
use Rattle.map_machines.specs.Given.TablesDeclared.setting.Setting.{Setting}
use Rattle.map_machines.specs.Given.TablesDeclared.table.Table.{Table}
use Rattle.map_machines.specs.Given.TablesDeclared.table_words.TheConstants.{PLACES}
use Rattle.map_rule.specs.Chart.{Phase, Place, Holds, Share, Chart, put_in}
use Rattle.map_rule.specs.Words.{Blocks, Represents, place_word}
use Rattle.map_rule.specs.Maps.{IsTable}
use Rattle.map_rule.specs.InWorld.{IsMapIn}
use Rattle.map_rule.proofs.World.Framed.{shows_beside}
use Rattle.map_rule.proofs.World.Hands.{Hands, hands_of, hands_kept}
use Rattle.map_rule.proofs.Moves.SamePairs.{SamePair, same_pairs}
use Rattle.map_rule.proofs.Words.TablesSeen.{place_stands}
use Rattle.map_rule.proofs.Words.WritesPlaces.{place_written}

module _ {K V : Type 0} (same : K → K → Bool) (hash : K → ℕ) (setting : Setting) (w : World (Node K V)) (c : Chart K) (blocks : Blocks)
    (map : IsMapIn same hash setting w c blocks) (table : Table) (entered : IsTable c blocks table c.first) (i : ℕ) (place : Place)
    (keeps : SamePair (c.place c.first i) place) (share : ℕ → ℕ → Share) where
  -- the chart with it
  abbrev pub placed : Chart K
  placed = record c { place = put_in c.place c.first i place; share = share }

  pub placed_hands : Hands same hash setting w placed blocks
  placed_hands =
      let h = hands_of same hash setting w c blocks map in
      hands_kept same hash setting w c blocks placed (omega arith) refl refl (λ n is. is)
      (λ t j n phase borrowed l made e. let was = (same_pairs c.place c.first i place keeps t j).earlier n phase borrowed e in h.named t j n was.0 borrowed l made was.1) h

  pub placed_shows : i < c.len c.first → Represents hash (with_word w.memory (at_place table i) (place_word hash c blocks place)) placed blocks setting.root
  placed_shows inside =
      subst (λ (a : At). Represents hash (with_word w.memory a (place_word hash c blocks place)) placed blocks setting.root)
      (sym (place_stands hash w.memory c blocks setting.root map.map.shows table c.first entered i inside))
      (shows_beside hash (with_word w.memory (Word (blocks.table c.first) (i + PLACES)) (place_word hash c blocks place))
      (record c { place = put_in c.place c.first i place }) blocks setting.root share c.current
      (place_written hash w.memory c blocks setting.root map.map.shows c.first i place entered.made entered.known inside known))
    where
      known : (n : ℕ) (phase : Phase) (borrowed : Bool) → place ≡ Holds n phase borrowed → blocks.pair_known n ≡ true
      known n phase borrowed e = let was = keeps.earlier n phase borrowed e in map.map.shows.named c.first i n was.0 borrowed entered.made entered.known was.1
