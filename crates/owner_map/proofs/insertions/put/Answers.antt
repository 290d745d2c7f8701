-- By what the insertion comes to in the order in which its pairs were stored.
use Rattle.seize_words.specs.declared.refused.Refused.{Refused}
use Rattle.owner_rests.proofs.ShowsPairs.Kept.{either_rested, either_shown, holds_err, holds_ok, ok_taken}
use Rattle.owner_rests.proofs.ShowsPairs.Shows.{capacity_shown, counts, seen_first, seen_found, seen_held, seen_keeps, shows_done, shows_refused, told_same}
use Rattle.owner_map.proofs.insertions.put.Goals as goal
use Rattle.owner_asks.proofs.Pairs.Orders.{left_and}

pub insert-requires : goal.insert-requires
insert-requires g c = c.map.invariant

pub invariant_of-map-inside : goal.invariant_of-map-inside
invariant_of-map-inside g c =
    let held = c.map.invariant in
    let rests = either_rested _ _ _ _ _ c.insert.result _ _ _ _ _ _ (c.insert.ensures.stored held.0 held.1) (c.insert.ensures.refused held.0 held.1) in
    record { tables = counts _ _ _ _ rests.pairs rests.holds; takes = rests.takes; meets = rests.meets }

pub invariant_of-map : goal.invariant_of-map
invariant_of-map g c =
    let held = c.map.invariant in
    let rests = either_rested _ _ _ _ _ c.insert.result _ _ _ _ _ _ (c.insert.ensures.stored held.0 held.1) (c.insert.ensures.refused held.0 held.1) in
    (rests.pairs, rests.holds)

pub returns-clause-some : goal.returns-clause-some
returns-clause-some g c =
    let held = c.map.invariant in
    told_same (g.K.PartialEq.eq c.args.key) held.0 _ (seen_first _ _ _ _ held.0 held.1 c.map.inside.resting.tables _ _ _ _ c.map.view_is (g.K.PartialEq.eq c.args.key) (g.met.K.Eq.laws.congr c.args.key)) c.insert.result (c.insert.ensures.some held.0 held.1)

pub returns-clause-stored : goal.returns-clause-stored
returns-clause-stored g c =
    let held = c.map.invariant in
    shows_done _ _ _ _ _ c.insert.result _ _ (left_and (g.K.PartialEq.eq c.args.key) held.0 _ _ (seen_held _ _ _ _ held.0 held.1 c.map.inside.resting.tables _ _ _ _ c.map.view_is)) (holds_ok _ _ _ _ _ c.insert.result _ _ _ (c.insert.ensures.stored held.0 held.1))

pub returns-clause-refused : goal.returns-clause-refused
returns-clause-refused g c =
    let held = c.map.invariant in
    shows_refused _ _ _ _ _ c.insert.result held.0 _ (seen_held _ _ _ _ held.0 held.1 c.map.inside.resting.tables _ _ _ _ c.map.view_is) (holds_err _ _ _ _ _ c.insert.result _ _ _ (c.insert.ensures.refused held.0 held.1))

pub returns-clause-last : goal.returns-clause-last
returns-clause-last g c =
    let held = c.map.invariant in
    either_shown _ _ _ _ _ c.insert.result _ _ _ _ _ _ (c.insert.ensures.stored held.0 held.1) (c.insert.ensures.refused held.0 held.1) _
    (seen_first _ _ _ _ held.0 held.1 c.map.inside.resting.tables _ _ _ _ c.map.view_is (g.K.PartialEq.eq c.args.key) (g.met.K.Eq.laws.congr c.args.key))

pub returns-clause-in_any_order : goal.returns-clause-in_any_order
returns-clause-in_any_order g c = λ xs order.
    let held = c.map.invariant in
    ok_taken _ _ _ _ _ c.insert.result _ _ _ (c.insert.ensures.stored held.0 held.1) _
    (seen_found _ _ _ _ held.0 held.1 c.map.inside.resting.tables _ _ _ _ c.map.view_is (g.K.PartialEq.eq c.args.key) (g.met.K.Eq.laws.congr c.args.key) xs order)

pub returns-clause-keeps : goal.returns-clause-keeps
returns-clause-keeps g c =
    let held = c.map.invariant in seen_keeps _ _ _ _ held.0 held.1 c.map.inside.resting.tables _ _ _ _ c.map.view_is _ _ (c.insert.ensures.keeps held.0 held.1)

pub returns-clause-capacity : goal.returns-clause-capacity
returns-clause-capacity g c =
    let held = c.map.invariant in capacity_shown _ _ _ (λ (e : Refused _ _). e.fault) c.insert.result (c.insert.ensures.capacity held.0 held.1)
