-- Where the last table of one owner's map cannot be followed, its memory shows that.
use Rattle.std.specs.Prelude.{◌≡◌, ℕ, Bool}
use Rattle.std.proofs.Common.{subst}
use Rattle.seize_words.specs.OneMemory.Mem.{Mem}
use Rattle.seize.specs.World.{World}
use Rattle.map_tables.specs.declared.node.Node.{Node}
use Rattle.map_tables.specs.declared.setting.Setting.{Setting}
use Rattle.map_straight.specs.Shown.Chain.{CannotGrowIn}
use Rattle.map_straight.specs.Shown.Shown.{HasMap}
use Rattle.map_straight.proofs.Shown.Shapes.{grows_no_more}
use Rattle.map_straight.specs.Given.RuleChart.{Chart}
use Rattle.map_straight.specs.Given.RuleWords.{Blocks, root_word}
use Rattle.map_straight.specs.Given.RuleMaps.{IsMap}
use Rattle.map_straight.specs.Given.RuleInWorld.{IsMapIn}
use Rattle.owner_whole.specs.Given.PointsSteps.{AreLawful}
use Rattle.owner_whole.specs.Whole.Limits.{LastEnds}

module _ {K V : Type 0} (same : K → K → Bool) (hash : K → ℕ) (lawful : AreLawful same hash) (setting : Setting) (w : World (Node K V)) (c : Chart K) (blocks : Blocks)
    (map : IsMapIn same hash setting w c blocks) (m : Mem (Node K V)) (memory : w.memory ≡ m) (last : LastEnds c) where
  stands : HasMap same hash m setting c blocks
  stands = record {
    map = subst (λ (x : Mem (Node K V)). IsMap same hash setting.mode setting.root x c blocks) memory map.map;
    classes = lawful.lawful.classes;
    fits = lawful.fits;
  }

  pub last_shown : CannotGrowIn m setting
  last_shown = grows_no_more same hash m setting c blocks stands last.0 last.1 last.2 (root_word hash c blocks) stands.map.shows.root_there
