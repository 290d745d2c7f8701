-- What is promised of the beginnings of maps over a memory that has one owner.
use Rattle.std.specs.Prelude.{ℕ, ◌+◌, ◌^◌, ◌<◌, ◌≤◌, Bool, max}
use Rattle.std.specs.Int.{IsPowerOfTwo}
use Rattle.many_maps.specs.Given.SeizeWordsMem.{Mem, Can, Took, value_at}
use Rattle.many_maps.specs.Given.SeizeWordsPlan.{May, Steps}
use Rattle.many_maps.specs.Given.SeizeAloneAlone.{History, IsHistory, at_rest}
use Rattle.many_maps.specs.Given.SeizeDeclared.advance.Advance.{Advance}
use Rattle.many_maps.specs.Given.TablesLengths.{IsTableLen}
use Rattle.many_maps.specs.Given.ResizeNewMap.{opening, new_map_plan}
use Rattle.many_maps.specs.Given.TablesNodes.{deferred_word}
use Rattle.many_maps.specs.Given.TablesDeclared.node.Node.{Node}
use Rattle.many_maps.specs.Given.TablesDeclared.setting.Setting.{Setting}
use Rattle.many_maps.specs.Given.ResizeDeclared.new_map.NewMap.{NewMap}
use Rattle.many_maps.specs.Given.PointsSteps.{AreLawful}
use Rattle.many_maps.specs.Makings.{HasRoots}
use Rattle.owner_facts.specs.Maps.AloneBegins.{IsOpening, OpensTo}

module _ {K : Type 0} (V : Type 0) (same : K → K → Bool) (hash : K → ℕ) where
  -- Where there are roots, and those that are free lead nowhere, a map may begin, with a first table of this length if it is none too long.
  abbrev pub MapsBeginAlone : Type 0
  MapsBeginAlone =
      (setting : Setting) (roots len : ℕ) (m : Mem (Node K V)) (h : History) → IsHistory deferred_word setting.batch_size roots m h → 0 < roots
      → HasRoots (at_rest deferred_word m h) roots → (max len 8 ≤ 2 ^ 48 → IsTableLen (max len 8))
      → IsOpening same hash setting roots len m h (opening setting roots len) m h

  -- One that is to begin may take its next step, and then is to begin still, or has begun, or is refused.
  abbrev pub MapsContinueAlone : Type 0
  MapsContinueAlone =
      AreLawful same hash → (setting : Setting) → IsPowerOfTwo setting.initial → setting.mask + 1 < 2 ^ 64 → (roots len : ℕ) (m0 : Mem (Node K V)) (h0 : History)
      → (n : NewMap) (m : Mem (Node K V)) (h : History) → IsOpening same hash setting roots len m0 h0 n m h
      → May Can Took value_at m (new_map_plan n)
      × ((m2 : Mem (Node K V)) (n2 : NewMap) (end : Advance Setting) → Steps Took value_at m (new_map_plan n) m2 (n2, end) → OpensTo same hash setting roots len m0 h0 n2 m2 end)
