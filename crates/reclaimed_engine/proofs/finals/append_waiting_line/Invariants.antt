use Rattle.std.proofs.Common.{◌≡◌, ◌++◌, take}
use Rattle.std.specs.Prelude.{codes}
use Rattle.std.specs.List.{flat_map}
use Rattle.reclaimed_engine.specs.PrintedText.Text.{tag}
use Rattle.reclaimed_engine.proofs.finals.append_waiting_line.Given as goal

abbrev pub invariant-loop-number : goal.invariant-loop-number
invariant-loop-number l = l.out.items ≡ l.fn.out.items ++ codes "waiting" ++ flat_map tag (take l.number-index l.waiting)
