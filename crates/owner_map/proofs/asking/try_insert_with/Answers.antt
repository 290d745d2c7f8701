-- By what the call comes to in the order in which its pairs were stored.
use Rattle.std.specs.Prelude.{Some}
use Rattle.std.specs.Fn.{FnOnceReturns}
use Rattle.std.proofs.Common.{◌∙◌}
use Rattle.owner_asks.specs.Asks.Closures.{Storing}
use Rattle.seize_words.specs.declared.refused.RefusedKey.{RefusedKey}
use Rattle.owner_rests.specs.Given.{hashed_by}
use Rattle.owner_rests.proofs.ShowsPairs.Done.{comes_rests, room_alone, shows_changed, shows_unchanged}
use Rattle.owner_rests.proofs.ShowsPairs.Shows.{capacity_shown, counts, seen_first, seen_held, seen_keeps}
use Rattle.owner_map.proofs.asking.try_insert_with.Goals as goal

pub try_insert_with-requires : goal.try_insert_with-requires
try_insert_with-requires g c =
    let held = c.map.invariant in
    let first = seen_first _ _ _ _ held.0 held.1 c.map.inside.resting.tables _ _ _ _ c.map.view_is (g.K.PartialEq.eq c.args.key) (g.met.K.Eq.laws.congr c.args.key) in
    record { holds = (held.0, held.1, λ none. c.requires.callable (first ∙ none)) }

pub invariant_of-map-inside : goal.invariant_of-map-inside
invariant_of-map-inside g c =
    let held = c.map.invariant in
    let rests = comes_rests g.K.PartialEq.eq (hashed_by g.S.Hasher.Hasher.finish g.S.Hasher.Hasher.write g.S.BuildHasher.build_hasher g.K.Hash.hash_input c.map.inside.hasher) c.map.inside.resting.setting c.try_insert_with.new.memory c.try_insert_with.new.last (g.K.PartialEq.eq c.args.key) (Some c.args.key) held.0
    (Storing (λ value. FnOnceReturns g.B.FnOnce c.args.begin tt value)) (λ (e : RefusedKey _). e.fault) c.try_insert_with.result (c.try_insert_with.ensures.comes held.0 held.1) in
    record { tables = counts _ _ _ _ rests.pairs rests.holds; takes = rests.takes; meets = rests.meets }

pub invariant_of-map : goal.invariant_of-map
invariant_of-map g c =
    let held = c.map.invariant in
    let rests = comes_rests g.K.PartialEq.eq (hashed_by g.S.Hasher.Hasher.finish g.S.Hasher.Hasher.write g.S.BuildHasher.build_hasher g.K.Hash.hash_input c.map.inside.hasher) c.map.inside.resting.setting c.try_insert_with.new.memory c.try_insert_with.new.last (g.K.PartialEq.eq c.args.key) (Some c.args.key) held.0
    (Storing (λ value. FnOnceReturns g.B.FnOnce c.args.begin tt value)) (λ (e : RefusedKey _). e.fault) c.try_insert_with.result (c.try_insert_with.ensures.comes held.0 held.1) in
    (rests.pairs, rests.holds)

pub returns-clause-done : goal.returns-clause-done
returns-clause-done g c =
    let held = c.map.invariant in
    shows_changed g.K.PartialEq.eq (hashed_by g.S.Hasher.Hasher.finish g.S.Hasher.Hasher.write g.S.BuildHasher.build_hasher g.K.Hash.hash_input c.map.inside.hasher) c.map.inside.resting.setting c.try_insert_with.new.memory c.try_insert_with.new.last (g.K.PartialEq.eq c.args.key) (Some c.args.key) held.0 _ _
    (seen_first _ _ _ _ held.0 held.1 c.map.inside.resting.tables _ _ _ _ c.map.view_is (g.K.PartialEq.eq c.args.key) (g.met.K.Eq.laws.congr c.args.key))
    (seen_held _ _ _ _ held.0 held.1 c.map.inside.resting.tables _ _ _ _ c.map.view_is)
    (Storing (λ value. FnOnceReturns g.B.FnOnce c.args.begin tt value)) (λ (e : RefusedKey _). e.fault) c.try_insert_with.result (c.try_insert_with.ensures.comes held.0 held.1)

pub returns-clause-refused : goal.returns-clause-refused
returns-clause-refused g c =
    let held = c.map.invariant in
    shows_unchanged g.K.PartialEq.eq (hashed_by g.S.Hasher.Hasher.finish g.S.Hasher.Hasher.write g.S.BuildHasher.build_hasher g.K.Hash.hash_input c.map.inside.hasher) c.map.inside.resting.setting c.try_insert_with.new.memory c.try_insert_with.new.last (g.K.PartialEq.eq c.args.key) (Some c.args.key) held.0 _ _
    (seen_first _ _ _ _ held.0 held.1 c.map.inside.resting.tables _ _ _ _ c.map.view_is (g.K.PartialEq.eq c.args.key) (g.met.K.Eq.laws.congr c.args.key))
    (seen_held _ _ _ _ held.0 held.1 c.map.inside.resting.tables _ _ _ _ c.map.view_is)
    (Storing (λ value. FnOnceReturns g.B.FnOnce c.args.begin tt value)) (λ (e : RefusedKey _). e.fault) c.try_insert_with.result (c.try_insert_with.ensures.comes held.0 held.1)

pub returns-clause-fault : goal.returns-clause-fault
returns-clause-fault g c =
    let held = c.map.invariant in
    room_alone g.K.PartialEq.eq (hashed_by g.S.Hasher.Hasher.finish g.S.Hasher.Hasher.write g.S.BuildHasher.build_hasher g.K.Hash.hash_input c.map.inside.hasher) c.map.inside.resting.setting c.try_insert_with.new.memory c.try_insert_with.new.last (g.K.PartialEq.eq c.args.key) (Some c.args.key) held.0
    (Storing (λ value. FnOnceReturns g.B.FnOnce c.args.begin tt value)) (λ (e : RefusedKey _). e.fault) c.try_insert_with.result (c.try_insert_with.ensures.comes held.0 held.1) (λ x. x)

pub returns-clause-capacity : goal.returns-clause-capacity
returns-clause-capacity g c =
    let held = c.map.invariant in capacity_shown _ _ _ (λ (e : RefusedKey _). e.fault) c.try_insert_with.result (c.try_insert_with.ensures.capacity held.0 held.1)

pub returns-clause-keeps : goal.returns-clause-keeps
returns-clause-keeps g c =
    let held = c.map.invariant in seen_keeps _ _ _ _ held.0 held.1 c.map.inside.resting.tables _ _ _ _ c.map.view_is _ _ (c.try_insert_with.ensures.keeps held.0 held.1)
