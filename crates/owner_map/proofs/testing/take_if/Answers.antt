-- By what the call comes to in the order in which its pairs were stored.
use Rattle.std.specs.Prelude.{[], None}
use Rattle.std.proofs.Common.{◌∙◌}
use Rattle.owner_asks.specs.Asks.Closures.{Removing, TestsAs}
use Rattle.seize_words.specs.declared.fault.Fault.{Fault}
use Rattle.owner_rests.specs.Given.{hashed_by}
use Rattle.owner_rests.proofs.ShowsPairs.Done.{comes_rests, room_alone, shows_changed, shows_unchanged}
use Rattle.owner_rests.proofs.ShowsPairs.Shows.{one_shown, capacity_shown, counts, few_shown, seen_first, seen_held, seen_keeps}
use Rattle.map_tables.proofs.Classes.{one_class}
use Rattle.owner_map.proofs.testing.take_if.Goals as goal

pub remove_if-requires : goal.remove_if-requires
remove_if-requires g c =
    let held = c.map.invariant in
    let first = seen_first _ _ _ _ held.0 held.1 c.map.inside.resting.tables _ _ _ _ c.map.view_is (g.Q.Equivalent.equivalent c.args.asked.now) (one_class g.K.PartialEq.eq g.met.K.Eq.laws g.Q.Equivalent.stands_for g.Q.Equivalent.equivalent g.met.Q.Equivalent.stands c.args.asked.now) in
    record { holds = (held.0, held.1, λ x there. c.requires.callable x (first ∙ there)) }

pub invariant_of-map-inside : goal.invariant_of-map-inside
invariant_of-map-inside g c =
    let held = c.map.invariant in
    let rests = comes_rests g.K.PartialEq.eq (hashed_by g.S.Hasher.Hasher.finish g.S.Hasher.Hasher.write g.S.BuildHasher.build_hasher g.K.Hash.hash_input c.map.inside.hasher) c.map.inside.resting.setting c.remove_if.new.memory c.remove_if.new.last (g.Q.Equivalent.equivalent c.args.asked.now) None held.0
    (Removing (TestsAs g.F.FnOnce c.args.test)) (λ (e : Fault). e) c.remove_if.result (c.remove_if.ensures.comes held.0 held.1) in
    record { tables = counts _ _ _ _ rests.pairs rests.holds; takes = rests.takes; meets = rests.meets }

pub invariant_of-map : goal.invariant_of-map
invariant_of-map g c =
    let held = c.map.invariant in
    let rests = comes_rests g.K.PartialEq.eq (hashed_by g.S.Hasher.Hasher.finish g.S.Hasher.Hasher.write g.S.BuildHasher.build_hasher g.K.Hash.hash_input c.map.inside.hasher) c.map.inside.resting.setting c.remove_if.new.memory c.remove_if.new.last (g.Q.Equivalent.equivalent c.args.asked.now) None held.0
    (Removing (TestsAs g.F.FnOnce c.args.test)) (λ (e : Fault). e) c.remove_if.result (c.remove_if.ensures.comes held.0 held.1) in
    (rests.pairs, rests.holds)

pub returns-clause-done : goal.returns-clause-done
returns-clause-done g c =
    let held = c.map.invariant in
    shows_changed g.K.PartialEq.eq (hashed_by g.S.Hasher.Hasher.finish g.S.Hasher.Hasher.write g.S.BuildHasher.build_hasher g.K.Hash.hash_input c.map.inside.hasher) c.map.inside.resting.setting c.remove_if.new.memory c.remove_if.new.last (g.Q.Equivalent.equivalent c.args.asked.now) None held.0 _ _
    (seen_first _ _ _ _ held.0 held.1 c.map.inside.resting.tables _ _ _ _ c.map.view_is (g.Q.Equivalent.equivalent c.args.asked.now) (one_class g.K.PartialEq.eq g.met.K.Eq.laws g.Q.Equivalent.stands_for g.Q.Equivalent.equivalent g.met.Q.Equivalent.stands c.args.asked.now))
    (seen_held _ _ _ _ held.0 held.1 c.map.inside.resting.tables _ _ _ _ c.map.view_is)
    (Removing (TestsAs g.F.FnOnce c.args.test)) (λ (e : Fault). e) c.remove_if.result (c.remove_if.ensures.comes held.0 held.1)

pub returns-clause-refused : goal.returns-clause-refused
returns-clause-refused g c =
    let held = c.map.invariant in
    shows_unchanged g.K.PartialEq.eq (hashed_by g.S.Hasher.Hasher.finish g.S.Hasher.Hasher.write g.S.BuildHasher.build_hasher g.K.Hash.hash_input c.map.inside.hasher) c.map.inside.resting.setting c.remove_if.new.memory c.remove_if.new.last (g.Q.Equivalent.equivalent c.args.asked.now) None held.0 _ _
    (seen_first _ _ _ _ held.0 held.1 c.map.inside.resting.tables _ _ _ _ c.map.view_is (g.Q.Equivalent.equivalent c.args.asked.now) (one_class g.K.PartialEq.eq g.met.K.Eq.laws g.Q.Equivalent.stands_for g.Q.Equivalent.equivalent g.met.Q.Equivalent.stands c.args.asked.now))
    (seen_held _ _ _ _ held.0 held.1 c.map.inside.resting.tables _ _ _ _ c.map.view_is)
    (Removing (TestsAs g.F.FnOnce c.args.test)) (λ (e : Fault). e) c.remove_if.result (c.remove_if.ensures.comes held.0 held.1)

pub returns-clause-fault : goal.returns-clause-fault
returns-clause-fault g c =
    let held = c.map.invariant in
    room_alone g.K.PartialEq.eq (hashed_by g.S.Hasher.Hasher.finish g.S.Hasher.Hasher.write g.S.BuildHasher.build_hasher g.K.Hash.hash_input c.map.inside.hasher) c.map.inside.resting.setting c.remove_if.new.memory c.remove_if.new.last (g.Q.Equivalent.equivalent c.args.asked.now) None held.0
    (Removing (TestsAs g.F.FnOnce c.args.test)) (λ (e : Fault). e) c.remove_if.result (c.remove_if.ensures.comes held.0 held.1) (λ x. x)

pub returns-clause-capacity : goal.returns-clause-capacity
returns-clause-capacity g c =
    let held = c.map.invariant in capacity_shown _ _ _ (λ r. r) c.remove_if.result (c.remove_if.ensures.capacity held.0 held.1)

pub returns-clause-keeps : goal.returns-clause-keeps
returns-clause-keeps g c =
    let held = c.map.invariant in seen_keeps _ _ _ _ held.0 held.1 c.map.inside.resting.tables _ _ _ _ c.map.view_is [] _ (c.remove_if.ensures.keeps held.0 held.1)

pub returns-clause-steady : goal.returns-clause-steady
returns-clause-steady g c = λ few.
    let held = c.map.invariant in c.remove_if.ensures.steady held.0 held.1 (one_shown _ _ c.map.inside.resting.tables _ c.map.view_is few)

pub returns-clause-steady_then : goal.returns-clause-steady_then
returns-clause-steady_then g c = λ few.
    let held = c.map.invariant in few_shown _ _ _ (c.remove_if.ensures.steady_then held.0 held.1 (one_shown _ _ c.map.inside.resting.tables _ c.map.view_is few))
