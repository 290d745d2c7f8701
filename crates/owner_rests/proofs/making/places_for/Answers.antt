-- Both lengths fit a table.
use Rattle.std.proofs.Common.{arith}
use Rattle.std.proofs.lemmas.Result.{err_from_is_err_and}
use Rattle.owner_calls.proofs.Owned.Owned.Places.{first_table, no_table_yet}
use Rattle.owner_rests.proofs.Rests.Makes.{few_told, many_told, no_table_for, one_table_for}
use Rattle.owner_rests.proofs.making.places_for.Goals as goal

pub returns-then-capacity-eq0-clause-table : goal.returns-then-capacity-eq0-clause-table
returns-then-capacity-eq0-clause-table c = no_table_yet

pub returns-else-capacity-eq0-clause-table : goal.returns-else-capacity-eq0-clause-table
returns-else-capacity-eq0-clause-table c = let e = c.in_ok-entries.ensures.in_words in first_table c.in_ok-entries.entries e.0.0 e.1

pub returns-then-capacity-eq0-clause-few : goal.returns-then-capacity-eq0-clause-few
returns-then-capacity-eq0-clause-few c = few_told _ _ _ c.in_ok-entries.ensures.formula

pub returns-else-capacity-eq0-clause-few : goal.returns-else-capacity-eq0-clause-few
returns-else-capacity-eq0-clause-few c = few_told _ _ _ c.in_ok-entries.ensures.formula

pub returns-then-capacity-eq0-clause-made : goal.returns-then-capacity-eq0-clause-made
returns-then-capacity-eq0-clause-made c = no_table_for c.args.capacity (omega arith)

pub returns-else-capacity-eq0-clause-made : goal.returns-else-capacity-eq0-clause-made
returns-else-capacity-eq0-clause-made c =
    let e = c.in_ok-entries.ensures.in_words in
    one_table_for c.args.capacity c.in_ok-entries.entries (λ none. omega (arith, none)) c.in_ok-entries.ensures.formula e.0.1

pub returns-in_err-entries-clause-fault : goal.returns-in_err-entries-clause-fault
returns-in_err-entries-clause-fault c =
    let p = err_from_is_err_and c.from_residual.result c.from_residual.ensures.1 in rw (p.1, p.2) (many_told _ _ _ c.in_err-entries.ensures.formula)
