-- Why a map is refused as it begins: where the first root is free, and its first table none too long, it needs nothing but memory.
use Rattle.std.specs.Prelude.{◌≡◌, ◌≤◌, ◌^◌, ℕ, max, Some}
use Rattle.many_maps.specs.Given.SeizeWordsDeclared.at.At.TheVariants.{Root, Used}
use Rattle.many_maps.specs.Given.SeizeWordsDeclared.fault.Fault.TheVariants.{Memory}
use Rattle.many_maps.specs.Given.SeizeWordsMem.{Mem, Took, value_at, word_at}
use Rattle.many_maps.specs.Given.SeizeWordsPlan.{Steps}
use Rattle.many_maps.specs.Given.SeizeDeclared.advance.Advance.{Advance}
use Rattle.many_maps.specs.Given.SeizeDeclared.advance.Advance.TheVariants as progress
use Rattle.many_maps.specs.Given.ResizeNewMap.{opening, new_map_plan}
use Rattle.many_maps.specs.Given.TablesDeclared.node.Node.{Node}
use Rattle.many_maps.specs.Given.TablesDeclared.setting.Setting.{Setting}
use Rattle.many_maps.specs.Given.ResizeDeclared.new_table.NewTable.{NewTable}
use Rattle.many_maps.specs.Given.ResizeDeclared.new_table.Making.{Making}
use Rattle.many_maps.specs.Given.ResizeDeclared.new_table.Making.TheVariants as makes
use Rattle.many_maps.specs.Given.ResizeDeclared.new_map.NewMap.{NewMap}
use Rattle.many_maps.specs.Given.ResizeDeclared.new_map.Opening.{Opening}
use Rattle.many_maps.specs.Given.ResizeDeclared.new_map.Opening.TheVariants as at

-- no table stands before the one that is made, and no fault is another one
abbrev pub IsFirst : Making → Type 0
IsFirst (makes.Sums before reason sum) = ⊥
IsFirst (makes.Refused fault) = fault ≡ Memory
IsFirst _ = Unit {0}

-- it is made for a root
abbrev pub IsForRoot : NewTable → Type 0
IsForRoot n = ((root : ℕ) × (n.link ≡ Root root)) × IsFirst n.stands

-- What is known at each point: the root that is to be taken is free, a table that is to be made none too long, and a fault that is to be told is that
-- memory was refused.
abbrev pub NeedsMemoryAlone : {T : Type 0} → Mem T → NewMap → Opening → Type 0
NeedsMemoryAlone m n at.Takes = (word_at m (Used n.setting.root) ≡ Some 0) × (max n.len 8 ≤ 2 ^ 48)
NeedsMemoryAlone m n at.Shards = max n.len 8 ≤ 2 ^ 48
NeedsMemoryAlone m n (at.Tables making) = IsForRoot making
NeedsMemoryAlone m n (at.Unmakes fault) = fault ≡ Memory
NeedsMemoryAlone m n (at.Frees fault) = fault ≡ Memory
NeedsMemoryAlone m n at.Over = Unit {0}
NeedsMemoryAlone m n (at.Refused fault) = fault ≡ Memory

-- after a step, by what it tells
abbrev pub NeedsOn : {T : Type 0} → Mem T → NewMap × Advance Setting → Type 0
NeedsOn m (n, progress.Goes) = NeedsMemoryAlone m n n.stands
NeedsOn m (n, progress.Refused fault) = fault ≡ Memory
NeedsOn m _ = Unit {0}

module _ (K V : Type 0) where
  -- Where the first root is free, and the first table none too long, a map needs nothing but memory to begin.
  abbrev pub FreeRootsSuffice : Type 0
  FreeRootsSuffice =
      (setting : Setting) (roots len : ℕ) (m : Mem (Node K V)) → word_at m (Used 0) ≡ Some 0 → max len 8 ≤ 2 ^ 48
      → NeedsMemoryAlone m (opening setting roots len) (opening setting roots len).stands

  -- So it is after each step, which leaves the words of slots as they are; and where it is refused, it is for want of memory.
  abbrev pub MemoryAloneIsRefused : Type 0
  MemoryAloneIsRefused =
      (m m2 : Mem (Node K V)) (n : NewMap) (end : NewMap × Advance Setting) → NeedsMemoryAlone m n n.stands → Steps Took value_at m (new_map_plan n) m2 end
      → (m2.slots ≡ m.slots) × NeedsOn m2 end
