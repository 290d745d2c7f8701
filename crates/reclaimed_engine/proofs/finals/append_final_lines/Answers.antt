use Rattle.std.proofs.Common.{arith}
use Rattle.std.proofs.lemmas.Grind.{common_steps}
use Rattle.std.proofs.lemmas.List.Folds.{flat_map-map}
use Rattle.reclaimed_engine.specs.PrintedText.Text.{map_line}
use Rattle.reclaimed_engine.proofs.finals.append_final_lines.Goals as goal

pub returns : goal.returns
returns c =
    let read = flat_map-map (map_line c.args.run.now) (λ living. living.now) c.in_ok-by_name.field-0.items in
    grind (arith, common_steps, read, c.in_ok-by_name.ensures)
