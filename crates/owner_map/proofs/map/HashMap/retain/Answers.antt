-- By what the retaining comes to in the order in which its pairs were stored.
use Rattle.std.specs.Prelude.{[]}
use Rattle.owner_rests.specs.Given.{KeepsOf}
use Rattle.owner_rests.proofs.Rests.Lasts.{none_in, none_named}
use Rattle.owner_rests.proofs.ShowsPairs.Shows.{one_shown, capacity_shown, counts, few_shown, seen_held, seen_keeps, shows_kept, shows_passing, shows_refused, some_rest}
use Rattle.owner_map.proofs.map.HashMap.retain.Goals as goal

pub retain-requires-clause-holds : goal.retain-requires-clause-holds
retain-requires-clause-holds g c = c.self.invariant

pub invariant_of-self-inside : goal.invariant_of-self-inside
invariant_of-self-inside g c = record { tables = c.self.inside.resting.tables; takes = none_named _; meets = none_named _ }

pub invariant_of-self-inside-2 : goal.invariant_of-self-inside-2
invariant_of-self-inside-2 g c =
    let held = c.self.invariant in
    let rests = some_rest _ _ _ _ (KeepsOf g.F.FnMut c.args.keep held.0) c.retain.result _ (c.retain.ensures.done held.0 held.1) (c.retain.ensures.refused held.0 held.1) in
    record { tables = counts _ _ _ _ rests.0 rests.1; takes = none_named _; meets = none_named _ }

pub invariant_of-self : goal.invariant_of-self
invariant_of-self g c =
    let held = c.self.invariant in
    some_rest _ _ _ _ (KeepsOf g.F.FnMut c.args.keep held.0) c.retain.result _ (c.retain.ensures.done held.0 held.1) (c.retain.ensures.refused held.0 held.1)

pub returns-clause-done : goal.returns-clause-done
returns-clause-done g c =
    let held = c.self.invariant in
    shows_kept _ _ _ _ _ g.F.FnMut c.args.keep held.0 _ (seen_held _ _ _ _ held.0 held.1 c.self.inside.resting.tables _ _ _ _ c.self.view_is) c.retain.result (c.retain.ensures.done held.0 held.1)

pub returns-clause-by_test : goal.returns-clause-by_test
returns-clause-by_test g c = λ test so.
    let held = c.self.invariant in
    shows_passing _ _ _ _ _ g.F.FnMut c.args.keep held.0 _ (seen_held _ _ _ _ held.0 held.1 c.self.inside.resting.tables _ _ _ _ c.self.view_is) test so c.retain.result (c.retain.ensures.done held.0 held.1)

pub returns-clause-refused : goal.returns-clause-refused
returns-clause-refused g c =
    let held = c.self.invariant in
    shows_refused _ _ _ _ _ c.retain.result held.0 _ (seen_held _ _ _ _ held.0 held.1 c.self.inside.resting.tables _ _ _ _ c.self.view_is) (c.retain.ensures.refused held.0 held.1)

pub returns-clause-last : goal.returns-clause-last
returns-clause-last g c = (none_in _, none_in _)

pub returns-clause-capacity : goal.returns-clause-capacity
returns-clause-capacity g c =
    let held = c.self.invariant in capacity_shown _ _ _ (λ r. r) c.retain.result (c.retain.ensures.capacity held.0 held.1)

pub returns-clause-keeps : goal.returns-clause-keeps
returns-clause-keeps g c =
    let held = c.self.invariant in seen_keeps _ _ _ _ held.0 held.1 c.self.inside.resting.tables _ _ _ _ c.self.view_is [] _ (c.retain.ensures.keeps held.0 held.1)

pub returns-clause-steady : goal.returns-clause-steady
returns-clause-steady g c = λ few.
    let held = c.self.invariant in c.retain.ensures.steady held.0 held.1 (one_shown _ _ c.self.inside.resting.tables _ c.self.view_is few)

pub returns-clause-steady_then : goal.returns-clause-steady_then
returns-clause-steady_then g c = λ few.
    let held = c.self.invariant in few_shown _ _ _ (c.retain.ensures.steady_then held.0 held.1 (one_shown _ _ c.self.inside.resting.tables _ c.self.view_is few))
