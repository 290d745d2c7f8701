use Rattle.std.proofs.Common.{◌+◌, ◌-◌, arith, sym, length, drop, length-drop}
use Rattle.std.proofs.lemmas.List.{take_all}
use Rattle.std.specs.Prelude.{◌==◌}
use Rattle.reclaimed_script.proofs.WordLemmas.{slice_split-position_none, slice_split-position_some}
use Rattle.reclaimed_script.proofs.words.cut.Goals as goal

pub returns-in-None : goal.returns-in-None
returns-in-None c = slice_split-position_none (λ b. b == 32) c.args.line.now (sym c.in-None.ensures)

pub returns-in-Some : goal.returns-in-Some
returns-in-Some c =
    let rest = drop (c.in-Some.end + 1) c.args.line.now in
    rw (take_all (length c.args.line.now - (c.in-Some.end + 1)) rest (omega (arith, length-drop (c.in-Some.end + 1) c.args.line.now))) (slice_split-position_some (λ b. b == 32) c.args.line.now c.in-Some.end (sym c.in-Some.ensures)).1
