-- The table has its flag.
use Rattle.std.specs.Prelude.{◌≤◌, length, slice_set}
use Rattle.std.proofs.Common.{sym, ap, ◌∙◌, arith}
use Rattle.std.proofs.lemmas.List.{set_past}
use Rattle.run_effects.specs.Tallies.Tally.{flagged}
use Rattle.run_effects.specs.declared.tally.Flagged.{Flagged}
use Rattle.run_effects.proofs.Tallies.Leading.{flag_there}
use Rattle.run_effects.proofs.tally.flag.Goals as goal

pub returns-then-place-len : goal.returns-then-place-len
returns-then-place-len c = λ leads.
    ap (slice_set c.args.tables.now.items c.in-Some.place) (c.with_flag.ensures ∙ ap (flagged c.args.table c.args.is_retired) c.index.ensures)
    ∙ sym (flag_there c.args.places.now c.args.table c.args.is_retired c.args.tables.now.items c.in-Some.place c.index.result.now (sym c.get.ensures ∙ c.in-Some.is) leads)

pub returns-else-place-len : goal.returns-else-place-len
returns-else-place-len c = λ leads.
    let none : Flagged = record { table = c.args.table; is_retired = c.args.is_retired } in
    let past : length c.args.tables.now.items ≤ c.in-Some.place = (let test = c.if-place-len.false in let long = c.len.ensures in omega (arith, test, long)) in
    sym (flag_there c.args.places.now c.args.table c.args.is_retired c.args.tables.now.items c.in-Some.place none (sym c.get.ensures ∙ c.in-Some.is) leads
    ∙ set_past c.args.tables.now.items c.in-Some.place _ past)
