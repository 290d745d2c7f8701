use Rattle.std.proofs.Common.{◌≡◌, ◌++◌, take}
use Rattle.reclaimed_engine.specs.PrintedText.Text.{back_lines}
use Rattle.reclaimed_engine.proofs.events.append_back_lines.Given as goal

abbrev pub invariant-loop-effect : goal.invariant-loop-effect
invariant-loop-effect l = l.out.items ≡ l.fn.out.items ++ back_lines l.run (take l.effect-index l.effects)
