-- By what the removal comes to in the order in which its pairs were stored.
use Rattle.std.specs.Prelude.{[]}
use Rattle.owner_asks.proofs.Pairs.Orders.{left_same}
use Rattle.owner_rests.proofs.ShowsPairs.Kept.{either_rested, either_shown, holds_err, holds_ok}
use Rattle.owner_rests.proofs.ShowsPairs.Shows.{one_shown, capacity_shown, counts, few_shown, seen_first, seen_held, seen_keeps, shows_done, shows_refused, told_same}
use Rattle.map_tables.proofs.Classes.{one_class}
use Rattle.owner_map.proofs.changes.take.Goals as goal

pub remove-requires : goal.remove-requires
remove-requires g c = c.map.invariant

pub invariant_of-map-inside : goal.invariant_of-map-inside
invariant_of-map-inside g c =
    let held = c.map.invariant in
    let rests = either_rested _ _ _ _ _ c.remove.result _ _ _ _ _ _ (c.remove.ensures.removed held.0 held.1) (c.remove.ensures.refused held.0 held.1) in
    record { tables = counts _ _ _ _ rests.pairs rests.holds; takes = rests.takes; meets = rests.meets }

pub invariant_of-map : goal.invariant_of-map
invariant_of-map g c =
    let held = c.map.invariant in
    let rests = either_rested _ _ _ _ _ c.remove.result _ _ _ _ _ _ (c.remove.ensures.removed held.0 held.1) (c.remove.ensures.refused held.0 held.1) in
    (rests.pairs, rests.holds)

pub returns-clause-some : goal.returns-clause-some
returns-clause-some g c =
    let held = c.map.invariant in
    told_same (g.Q.Equivalent.equivalent c.args.asked.now) held.0 _ (seen_first _ _ _ _ held.0 held.1 c.map.inside.resting.tables _ _ _ _ c.map.view_is (g.Q.Equivalent.equivalent c.args.asked.now) (one_class g.K.PartialEq.eq g.met.K.Eq.laws g.Q.Equivalent.stands_for g.Q.Equivalent.equivalent g.met.Q.Equivalent.stands c.args.asked.now)) c.remove.result (c.remove.ensures.some held.0 held.1)

pub returns-clause-removed : goal.returns-clause-removed
returns-clause-removed g c =
    let held = c.map.invariant in
    shows_done _ _ _ _ _ c.remove.result _ _ (left_same (g.Q.Equivalent.equivalent c.args.asked.now) held.0 _ (seen_held _ _ _ _ held.0 held.1 c.map.inside.resting.tables _ _ _ _ c.map.view_is)) (holds_ok _ _ _ _ _ c.remove.result _ _ _ (c.remove.ensures.removed held.0 held.1))

pub returns-clause-refused : goal.returns-clause-refused
returns-clause-refused g c =
    let held = c.map.invariant in
    shows_refused _ _ _ _ _ c.remove.result held.0 _ (seen_held _ _ _ _ held.0 held.1 c.map.inside.resting.tables _ _ _ _ c.map.view_is) (holds_err _ _ _ _ _ c.remove.result _ _ _ (c.remove.ensures.refused held.0 held.1))

pub returns-clause-last : goal.returns-clause-last
returns-clause-last g c =
    let held = c.map.invariant in
    either_shown _ _ _ _ _ c.remove.result _ _ _ _ _ _ (c.remove.ensures.removed held.0 held.1) (c.remove.ensures.refused held.0 held.1) _
    (seen_first _ _ _ _ held.0 held.1 c.map.inside.resting.tables _ _ _ _ c.map.view_is (g.Q.Equivalent.equivalent c.args.asked.now) (one_class g.K.PartialEq.eq g.met.K.Eq.laws g.Q.Equivalent.stands_for g.Q.Equivalent.equivalent g.met.Q.Equivalent.stands c.args.asked.now))

pub returns-clause-keeps : goal.returns-clause-keeps
returns-clause-keeps g c =
    let held = c.map.invariant in seen_keeps _ _ _ _ held.0 held.1 c.map.inside.resting.tables _ _ _ _ c.map.view_is [] _ (c.remove.ensures.keeps held.0 held.1)

pub returns-clause-capacity : goal.returns-clause-capacity
returns-clause-capacity g c =
    let held = c.map.invariant in capacity_shown _ _ _ (λ r. r) c.remove.result (c.remove.ensures.capacity held.0 held.1)

pub returns-clause-steady : goal.returns-clause-steady
returns-clause-steady g c = λ few.
    let held = c.map.invariant in c.remove.ensures.steady held.0 held.1 (one_shown _ _ c.map.inside.resting.tables _ c.map.view_is few)

pub returns-clause-steady_then : goal.returns-clause-steady_then
returns-clause-steady_then g c = λ few.
    let held = c.map.invariant in few_shown _ _ _ (c.remove.ensures.steady_then held.0 held.1 (one_shown _ _ c.map.inside.resting.tables _ c.map.view_is few))
