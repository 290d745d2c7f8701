use Rattle.std.proofs.Common.{◌≡◌, ◌++◌, take}
use Rattle.std.specs.Prelude.{codes}
use Rattle.std.specs.List.{flat_map}
use Rattle.reclaimed_engine.specs.PrintedText.Text.{entry}
use Rattle.reclaimed_engine.proofs.finals.append_map_line.Given as goal

abbrev pub invariant-loop-pair : goal.invariant-loop-pair
invariant-loop-pair l = l.out.items ≡ l.fn.out.items ++ codes "map " ++ l.living.name ++ flat_map (λ pair. entry pair.now) (take l.pair-index l.pair-items)
