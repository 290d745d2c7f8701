-- By what the insertion comes to in the order in which its pairs were stored.
use Rattle.seize_words.specs.declared.refused.Refused.{Refused}
use Rattle.owner_rests.proofs.ShowsPairs.Kept.{each_rested, each_shown, holds_err, holds_found, holds_stored}
use Rattle.owner_rests.proofs.ShowsPairs.Shows.{capacity_shown, counts, seen_first, seen_held, seen_keeps, shows_found, shows_refused, shows_stored}
use Rattle.owner_map.proofs.insertions.try_put.Goals as goal

pub try_insert-requires : goal.try_insert-requires
try_insert-requires g c = c.map.invariant

pub invariant_of-map-inside : goal.invariant_of-map-inside
invariant_of-map-inside g c =
    let held = c.map.invariant in
    let rests = each_rested _ _ _ _ _ _ _ c.try_insert.result _ _ _ _ _ _ _ _ _ (c.try_insert.ensures.stored held.0 held.1) (c.try_insert.ensures.found held.0 held.1) (c.try_insert.ensures.refused held.0 held.1) in
    record { tables = counts _ _ _ _ rests.pairs rests.holds; takes = rests.takes; meets = rests.meets }

pub invariant_of-map : goal.invariant_of-map
invariant_of-map g c =
    let held = c.map.invariant in
    let rests = each_rested _ _ _ _ _ _ _ c.try_insert.result _ _ _ _ _ _ _ _ _ (c.try_insert.ensures.stored held.0 held.1) (c.try_insert.ensures.found held.0 held.1) (c.try_insert.ensures.refused held.0 held.1) in
    (rests.pairs, rests.holds)

pub returns-clause-stored : goal.returns-clause-stored
returns-clause-stored g c =
    let held = c.map.invariant in
    shows_stored _ _ _ _ _ (g.K.PartialEq.eq c.args.key) held.0 _ _ (seen_first _ _ _ _ held.0 held.1 c.map.inside.resting.tables _ _ _ _ c.map.view_is (g.K.PartialEq.eq c.args.key) (g.met.K.Eq.laws.congr c.args.key)) (seen_held _ _ _ _ held.0 held.1 c.map.inside.resting.tables _ _ _ _ c.map.view_is) c.try_insert.result (holds_stored _ _ _ _ _ _ c.try_insert.result _ _ _ (c.try_insert.ensures.stored held.0 held.1))

pub returns-clause-found : goal.returns-clause-found
returns-clause-found g c =
    let held = c.map.invariant in
    shows_found _ _ _ _ _ (g.K.PartialEq.eq c.args.key) held.0 _ (seen_first _ _ _ _ held.0 held.1 c.map.inside.resting.tables _ _ _ _ c.map.view_is (g.K.PartialEq.eq c.args.key) (g.met.K.Eq.laws.congr c.args.key)) (seen_held _ _ _ _ held.0 held.1 c.map.inside.resting.tables _ _ _ _ c.map.view_is) c.try_insert.result (holds_found _ _ _ _ _ _ c.try_insert.result _ _ _ (c.try_insert.ensures.found held.0 held.1))

pub returns-clause-refused : goal.returns-clause-refused
returns-clause-refused g c =
    let held = c.map.invariant in
    shows_refused _ _ _ _ _ c.try_insert.result held.0 _ (seen_held _ _ _ _ held.0 held.1 c.map.inside.resting.tables _ _ _ _ c.map.view_is) (holds_err _ _ _ _ _ c.try_insert.result _ _ _ (c.try_insert.ensures.refused held.0 held.1))

pub returns-clause-last : goal.returns-clause-last
returns-clause-last g c =
    let held = c.map.invariant in
    each_shown _ _ _ _ _ _ _ c.try_insert.result _ _ _ _ _ _ _ _ _ (c.try_insert.ensures.stored held.0 held.1) (c.try_insert.ensures.found held.0 held.1) (c.try_insert.ensures.refused held.0 held.1) _
    (seen_first _ _ _ _ held.0 held.1 c.map.inside.resting.tables _ _ _ _ c.map.view_is (g.K.PartialEq.eq c.args.key) (g.met.K.Eq.laws.congr c.args.key))

pub returns-clause-keeps : goal.returns-clause-keeps
returns-clause-keeps g c =
    let held = c.map.invariant in seen_keeps _ _ _ _ held.0 held.1 c.map.inside.resting.tables _ _ _ _ c.map.view_is _ _ (c.try_insert.ensures.keeps held.0 held.1)

pub returns-clause-capacity : goal.returns-clause-capacity
returns-clause-capacity g c =
    let held = c.map.invariant in capacity_shown _ _ _ (λ (e : Refused _ _). e.fault) c.try_insert.result (c.try_insert.ensures.capacity held.0 held.1)
