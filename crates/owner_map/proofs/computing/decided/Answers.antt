-- By what the call comes to in the order in which its pairs were stored.
use Rattle.std.specs.Prelude.{Some}
use Rattle.std.proofs.Common.{◌∙◌, sym}
use Rattle.owner_asks.specs.Asks.Closures.{ComputesAs}
use Rattle.seize_words.specs.declared.refused.RefusedKey.{RefusedKey}
use Rattle.owner_rests.specs.Given.{hashed_by}
use Rattle.owner_rests.proofs.ShowsPairs.Done.{computes_rests, shows_computed, shows_uncomputed, shows_why}
use Rattle.owner_rests.proofs.ShowsPairs.Shows.{capacity_shown, counts, seen_first, seen_held, seen_keeps}
use Rattle.owner_map.proofs.computing.decided.Goals as goal

pub compute-requires : goal.compute-requires
compute-requires g c =
    let held = c.map.invariant in
    let first = seen_first _ _ _ _ held.0 held.1 c.map.inside.resting.tables _ _ _ _ c.map.view_is (g.K.PartialEq.eq c.args.key) (g.met.K.Eq.laws.congr c.args.key) in
    record { holds = (held.0, held.1, λ shown is. c.requires.callable shown (is ∙ sym first)) }

pub invariant_of-map-inside : goal.invariant_of-map-inside
invariant_of-map-inside g c =
    let held = c.map.invariant in
    let rests = computes_rests g.K.PartialEq.eq (hashed_by g.S.Hasher.Hasher.finish g.S.Hasher.Hasher.write g.S.BuildHasher.build_hasher g.K.Hash.hash_input c.map.inside.hasher) c.map.inside.resting.setting c.compute.new.memory c.compute.new.last (g.K.PartialEq.eq c.args.key) (Some c.args.key) held.0
    (ComputesAs g.F.FnOnce c.args.decide) (λ (e : RefusedKey _). e.fault) c.compute.result (c.compute.ensures.comes held.0 held.1) in
    record { tables = counts _ _ _ _ rests.pairs rests.holds; takes = rests.takes; meets = rests.meets }

pub invariant_of-map : goal.invariant_of-map
invariant_of-map g c =
    let held = c.map.invariant in
    let rests = computes_rests g.K.PartialEq.eq (hashed_by g.S.Hasher.Hasher.finish g.S.Hasher.Hasher.write g.S.BuildHasher.build_hasher g.K.Hash.hash_input c.map.inside.hasher) c.map.inside.resting.setting c.compute.new.memory c.compute.new.last (g.K.PartialEq.eq c.args.key) (Some c.args.key) held.0
    (ComputesAs g.F.FnOnce c.args.decide) (λ (e : RefusedKey _). e.fault) c.compute.result (c.compute.ensures.comes held.0 held.1) in
    (rests.pairs, rests.holds)

pub returns-clause-done : goal.returns-clause-done
returns-clause-done g c =
    let held = c.map.invariant in
    shows_computed g.K.PartialEq.eq (hashed_by g.S.Hasher.Hasher.finish g.S.Hasher.Hasher.write g.S.BuildHasher.build_hasher g.K.Hash.hash_input c.map.inside.hasher) c.map.inside.resting.setting c.compute.new.memory c.compute.new.last (g.K.PartialEq.eq c.args.key) (Some c.args.key) held.0 _ _
    (seen_first _ _ _ _ held.0 held.1 c.map.inside.resting.tables _ _ _ _ c.map.view_is (g.K.PartialEq.eq c.args.key) (g.met.K.Eq.laws.congr c.args.key))
    (seen_held _ _ _ _ held.0 held.1 c.map.inside.resting.tables _ _ _ _ c.map.view_is)
    (ComputesAs g.F.FnOnce c.args.decide) (λ (e : RefusedKey _). e.fault) c.compute.result (c.compute.ensures.comes held.0 held.1)

pub returns-clause-refused : goal.returns-clause-refused
returns-clause-refused g c =
    let held = c.map.invariant in
    shows_uncomputed g.K.PartialEq.eq (hashed_by g.S.Hasher.Hasher.finish g.S.Hasher.Hasher.write g.S.BuildHasher.build_hasher g.K.Hash.hash_input c.map.inside.hasher) c.map.inside.resting.setting c.compute.new.memory c.compute.new.last (g.K.PartialEq.eq c.args.key) (Some c.args.key) held.0 _ _
    (seen_first _ _ _ _ held.0 held.1 c.map.inside.resting.tables _ _ _ _ c.map.view_is (g.K.PartialEq.eq c.args.key) (g.met.K.Eq.laws.congr c.args.key))
    (seen_held _ _ _ _ held.0 held.1 c.map.inside.resting.tables _ _ _ _ c.map.view_is)
    (ComputesAs g.F.FnOnce c.args.decide) (λ (e : RefusedKey _). e.fault) c.compute.result (c.compute.ensures.comes held.0 held.1)

pub returns-clause-fault : goal.returns-clause-fault
returns-clause-fault g c =
    let held = c.map.invariant in
    shows_why g.K.PartialEq.eq (hashed_by g.S.Hasher.Hasher.finish g.S.Hasher.Hasher.write g.S.BuildHasher.build_hasher g.K.Hash.hash_input c.map.inside.hasher) c.map.inside.resting.setting c.compute.new.memory c.compute.new.last (g.K.PartialEq.eq c.args.key) (Some c.args.key) held.0 _
    (seen_first _ _ _ _ held.0 held.1 c.map.inside.resting.tables _ _ _ _ c.map.view_is (g.K.PartialEq.eq c.args.key) (g.met.K.Eq.laws.congr c.args.key))
    (ComputesAs g.F.FnOnce c.args.decide) (λ (e : RefusedKey _). e.fault) c.compute.result (c.compute.ensures.comes held.0 held.1)

pub returns-clause-capacity : goal.returns-clause-capacity
returns-clause-capacity g c =
    let held = c.map.invariant in capacity_shown _ _ _ (λ (e : RefusedKey _). e.fault) c.compute.result (c.compute.ensures.capacity held.0 held.1)

pub returns-clause-keeps : goal.returns-clause-keeps
returns-clause-keeps g c =
    let held = c.map.invariant in seen_keeps _ _ _ _ held.0 held.1 c.map.inside.resting.tables _ _ _ _ c.map.view_is _ _ (c.compute.ensures.keeps held.0 held.1)
