-- It comes to its end, what it comes to, and what comes back.
use Rattle.std.proofs.Common.{subst}
use Rattle.owner_calls.specs.Owned.Owned.{IsReturned, hashed_by}
use Rattle.std.specs.Prelude.{Some}
use Rattle.map_tables.specs.declared.node.Node.TheVariants as node
use Rattle.owner_rests.proofs.Rests.Stores.{insertion_ends, insertion_by, insertion_back, insertion_ran}
use Rattle.owner_rests.proofs.insertions.store.Goals as goal

pub store-requires : goal.store-requires
store-requires g c =
    let r = c.requires in
    insertion_ends g.K.PartialEq.eq (hashed_by g.S.Hasher.Hasher.finish g.S.Hasher.Hasher.write g.S.BuildHasher.build_hasher g.K.Hash.hash_input) c.args.hasher c.args.setting _ r.map.0 r.map.1 r.call.1 r.call.2 r.call.0
    _ r.call.3

pub returns-clause-ends : goal.returns-clause-ends
returns-clause-ends g c = λ xs kind key value has stores.
    insertion_by g.K.PartialEq.eq (hashed_by g.S.Hasher.Hasher.finish g.S.Hasher.Hasher.write g.S.BuildHasher.build_hasher g.K.Hash.hash_input) c.args.hasher c.args.setting _ xs has key value kind
    _ stores _ _ _ c.store.ensures.1

pub returns-clause-back : goal.returns-clause-back
returns-clause-back g c = λ xs kind key value has stores.
    subst (IsReturned (Some (node.Pair key value)) c.store.result.0) c.store.ensures.2
    (insertion_back g.K.PartialEq.eq (hashed_by g.S.Hasher.Hasher.finish g.S.Hasher.Hasher.write g.S.BuildHasher.build_hasher g.K.Hash.hash_input) c.args.hasher c.args.setting _ xs has key value kind
    _ stores _ _ _ c.store.ensures.1)

pub returns-clause-ran : goal.returns-clause-ran
returns-clause-ran g c = λ kind key value stores.
    insertion_ran g.K.PartialEq.eq (hashed_by g.S.Hasher.Hasher.finish g.S.Hasher.Hasher.write g.S.BuildHasher.build_hasher g.K.Hash.hash_input) c.args.hasher c.args.setting _ key value kind _ stores _ _ _ c.store.ensures.1
