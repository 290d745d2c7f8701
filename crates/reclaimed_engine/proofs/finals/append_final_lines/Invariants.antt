use Rattle.std.proofs.Common.{◌≡◌, ◌++◌, take}
use Rattle.std.specs.List.{flat_map}
use Rattle.reclaimed_engine.specs.PrintedText.Text.{map_line}
use Rattle.reclaimed_engine.proofs.finals.append_final_lines.Given as goal

abbrev pub invariant-loop-living : goal.invariant-loop-living
invariant-loop-living l = l.out.items ≡ l.fn.out.items ++ flat_map (λ living. map_line l.run living.now) (take l.living-index l.living-items)
