-- By what the clearing comes to.
use Rattle.std.specs.Prelude.{[]}
use Rattle.owner_rests.proofs.Rests.Lasts.{none_in, none_named}
use Rattle.owner_rests.proofs.ShowsPairs.Shows.{one_shown, capacity_shown, counts, few_shown, either_rests, seen_held, seen_keeps, shows_none, shows_refused}
use Rattle.owner_map.proofs.map.HashMap.clear.Goals as goal

pub clear-requires : goal.clear-requires
clear-requires g c = c.self.invariant

pub invariant_of-self-inside : goal.invariant_of-self-inside
invariant_of-self-inside g c = record { tables = c.self.inside.resting.tables; takes = none_named _; meets = none_named _ }

pub invariant_of-self-inside-2 : goal.invariant_of-self-inside-2
invariant_of-self-inside-2 g c =
    let held = c.self.invariant in
    let rests = either_rests _ _ _ _ c.clear.result _ _ (c.clear.ensures.done held.0 held.1) (c.clear.ensures.refused held.0 held.1) in
    record { tables = counts _ _ _ _ rests.0 rests.1; takes = none_named _; meets = none_named _ }

pub invariant_of-self : goal.invariant_of-self
invariant_of-self g c =
    let held = c.self.invariant in
    either_rests _ _ _ _ c.clear.result _ _ (c.clear.ensures.done held.0 held.1) (c.clear.ensures.refused held.0 held.1)

pub returns-clause-done : goal.returns-clause-done
returns-clause-done g c =
    let held = c.self.invariant in
    shows_none _ _ _ _ _ c.clear.result (c.clear.ensures.done held.0 held.1)

pub returns-clause-refused : goal.returns-clause-refused
returns-clause-refused g c =
    let held = c.self.invariant in
    shows_refused _ _ _ _ _ c.clear.result held.0 _ (seen_held _ _ _ _ held.0 held.1 c.self.inside.resting.tables _ _ _ _ c.self.view_is) (c.clear.ensures.refused held.0 held.1)

pub returns-clause-last : goal.returns-clause-last
returns-clause-last g c = (none_in _, none_in _)

pub returns-clause-capacity : goal.returns-clause-capacity
returns-clause-capacity g c =
    let held = c.self.invariant in capacity_shown _ _ _ (λ r. r) c.clear.result (c.clear.ensures.capacity held.0 held.1)

pub returns-clause-keeps : goal.returns-clause-keeps
returns-clause-keeps g c =
    let held = c.self.invariant in seen_keeps _ _ _ _ held.0 held.1 c.self.inside.resting.tables _ _ _ _ c.self.view_is [] _ (c.clear.ensures.keeps held.0 held.1)

pub returns-clause-steady : goal.returns-clause-steady
returns-clause-steady g c = λ few.
    let held = c.self.invariant in c.clear.ensures.steady held.0 held.1 (one_shown _ _ c.self.inside.resting.tables _ c.self.view_is few)

pub returns-clause-steady_then : goal.returns-clause-steady_then
returns-clause-steady_then g c = λ few.
    let held = c.self.invariant in few_shown _ _ _ (c.clear.ensures.steady_then held.0 held.1 (one_shown _ _ c.self.inside.resting.tables _ c.self.view_is few))
