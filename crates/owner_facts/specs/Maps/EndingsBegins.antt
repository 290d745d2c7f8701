-- Beginnings of maps terminate.
use Rattle.std.specs.Prelude.{◌<◌}
use Rattle.many_maps.specs.Given.SeizeWordsMem.{Mem, Took, value_at}
use Rattle.many_maps.specs.Given.SeizeWordsPlan.{Steps}
use Rattle.many_maps.specs.Given.SeizeDeclared.advance.Advance.TheVariants as progress
use Rattle.many_maps.specs.Given.ResizeNewMap.{new_map_plan}
use Rattle.many_maps.specs.Given.TablesDeclared.node.Node.{Node}
use Rattle.many_maps.specs.Given.ResizeDeclared.new_map.NewMap.{NewMap}
use Rattle.owner_facts.specs.Alone.Endings.{RunsEnd}
use Rattle.owner_facts.specs.Maps.MeasuresBegins.{new_map_left}

module _ (K V : Type 0) where
  -- a step that goes on: in any memory, whatever others did there since its last step
  abbrev pub NewMapGoes : NewMap → NewMap → Type 0
  NewMapGoes n n2 = (m : Mem (Node K V)) × (m2 : Mem (Node K V)) × Steps Took value_at m (new_map_plan n) m2 (n2, progress.Goes)

  -- each run of such steps terminates
  abbrev pub BeginningsEnd : Type 0
  BeginningsEnd = (n : NewMap) → RunsEnd NewMap NewMapGoes n

  -- each of them leaves less to do
  abbrev pub BeginningsLeaveLess : Type 0
  BeginningsLeaveLess = (n n2 : NewMap) → NewMapGoes n n2 → new_map_left n2 < new_map_left n
