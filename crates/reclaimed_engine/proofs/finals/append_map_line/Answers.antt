use Rattle.std.proofs.Common.{arith}
use Rattle.std.proofs.lemmas.Grind.{common_steps}
use Rattle.std.proofs.lemmas.List.Folds.{flat_map-map}
use Rattle.reclaimed_engine.specs.PrintedText.Text.{entry}
use Rattle.reclaimed_engine.proofs.finals.append_map_line.Goals as goal

pub returns : goal.returns
returns c =
    let read = flat_map-map entry (λ pair. pair.now) c.in_ok-in_order.field-0.items in
    grind (arith, common_steps, read, c.in_ok-in_order.ensures)
