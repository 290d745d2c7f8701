-- What is told of a step, told otherwise.
use Rattle.std.specs.Prelude.{ℕ, Bool}
use Rattle.map_machines.specs.Given.SeizeWordsMem.{Mem}
use Rattle.seize_rule.specs.Given.SeizeWorld.{World}
use Rattle.map_machines.specs.Given.TablesDeclared.node.Node.{Node}
use Rattle.map_machines.specs.Given.TablesDeclared.setting.Setting.{Setting}
use Rattle.map_rule.specs.Chart.{Chart}
use Rattle.map_rule.specs.Words.{Blocks}
use Rattle.map_rule.specs.InWorld.{IsMapIn, Moved, SameBlocks, StepSpec}

abbrev pub went_as : {K V : Type 0} (same : K → K → Bool) (hash : K → ℕ) (setting : Setting) (caller : ℕ) (w : World (Node K V)) (c : Chart K) (blocks : Blocks) (m2 : Mem (Node K V))
    (Told Other : World (Node K V) → Chart K → Blocks → Type 0)
    → ((w2 : World (Node K V)) (c2 : Chart K) (blocks2 : Blocks) → IsMapIn same hash setting w2 c2 blocks2 → Moved same hash setting.mode caller c c2 → SameBlocks c blocks blocks2
    → Told w2 c2 blocks2 → Other w2 c2 blocks2)
    → StepSpec same hash setting caller w c blocks m2 Told → StepSpec same hash setting caller w c blocks m2 Other
went_as same hash setting caller w c blocks m2 Told Other turns went = record {
  w2 = went.w2;
  c2 = went.c2;
  blocks2 = went.blocks2;
  events = went.events;
  users = went.users;
  its = went.its;
  runs = went.runs;
  memory = went.memory;
  frame = went.frame;
  tables = went.tables;
  links = went.links;
  spares = went.spares;
  moved = went.moved;
  map = went.map;
  blocks_same = went.blocks_same;
  told = turns went.w2 went.c2 went.blocks2 went.map went.moved went.blocks_same went.told;
}
