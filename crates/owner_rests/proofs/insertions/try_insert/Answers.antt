-- By what the insertion comes to, after the refresh.
use Rattle.std.specs.Prelude.{Some}
use Rattle.std.proofs.Common.{◌∙◌, refl, subst, sym}
use Rattle.map_tables.specs.declared.node.Node.TheVariants as node
use Rattle.owner_calls.specs.Given.CallersKind.{tries_to_insert}
use Rattle.owner_calls.specs.Given.LateFaults.{IsRoom}
use Rattle.owner_calls.specs.Owned.Owned.{hashed_by}
use Rattle.owner_rests.proofs.Rests.Removals.{room_of}
use Rattle.std.proofs.lemmas.Result.{on_ok_weaker, on_err_weaker}
use Rattle.owner_rests.proofs.Rests.Stores.{tried_so, back_found, refused_so, back_so, tries_this, same_pair, value_back}
use Rattle.owner_rests.proofs.Rests.Keeps.{refused, try_holds_on}
use Rattle.owner_calls.specs.Given.CallersPairs.{Begun}
use Rattle.owner_calls.specs.Owned.Calling.{HasStopped}
use Rattle.owner_rests.specs.Rests.Refreshed.{OnceRefreshed}
use Rattle.owner_rests.proofs.Rests.Because.{storing_because}
use Rattle.owner_rests.proofs.insertions.try_insert.Goals as goal

pub store-requires-clause-call : goal.store-requires-clause-call
store-requires-clause-call g c = (tries_to_insert, c.args.key, c.args.value, tries_this (hashed_by g.S.Hasher.Hasher.finish g.S.Hasher.Hasher.write g.S.BuildHasher.build_hasher g.K.Hash.hash_input c.args.hasher.now) c.args.setting c.args.key c.args.value _ _ c.hash_of-hash.ensures refl)

pub refused-requires : goal.refused-requires
refused-requires g c =
    let r = c.requires in (
      c.args.key,
      c.args.value,
      back_so (Some (node.Pair c.args.key c.args.value)) c.store.result.0 c.store.result.1
          (c.store.ensures.back r.0 tries_to_insert c.args.key c.args.value (c.refresh.ensures.holds r.0 r.1)
          (tries_this (hashed_by g.S.Hasher.Hasher.finish g.S.Hasher.Hasher.write g.S.BuildHasher.build_hasher g.K.Hash.hash_input c.args.hasher.now) c.args.setting c.args.key c.args.value _ _ c.hash_of-hash.ensures refl)) c.in-Err-default.fault c.in-Err-default.is-0,
    )

pub returns-in-Err-default-clause-refused : goal.returns-in-Err-default-clause-refused
returns-in-Err-default-clause-refused g c = λ xs has. record {
  holds = (refused_so g.K.PartialEq.eq (hashed_by g.S.Hasher.Hasher.finish g.S.Hasher.Hasher.write g.S.BuildHasher.build_hasher g.K.Hash.hash_input c.args.hasher.now) c.args.setting c.store.new.memory (g.K.PartialEq.eq c.args.key)
      xs c.args.key c.args.value tries_to_insert c.store.result.0 (c.store.ensures.ends xs tries_to_insert c.args.key c.args.value (c.refresh.ensures.holds xs has)
      (tries_this (hashed_by g.S.Hasher.Hasher.finish g.S.Hasher.Hasher.write g.S.BuildHasher.build_hasher g.K.Hash.hash_input c.args.hasher.now) c.args.setting c.args.key c.args.value _ _ c.hash_of-hash.ensures refl)) c.in-Err-default.fault c.in-Err-default.is-0).1;
  taken_is = tt;
  met_is = tt;
}

pub returns-in-Err-default-clause-capacity : goal.returns-in-Err-default-clause-capacity
returns-in-Err-default-clause-capacity g c = λ xs has long.
    (refused_so g.K.PartialEq.eq (hashed_by g.S.Hasher.Hasher.finish g.S.Hasher.Hasher.write g.S.BuildHasher.build_hasher g.K.Hash.hash_input c.args.hasher.now) c.args.setting c.store.new.memory (g.K.PartialEq.eq c.args.key)
    xs c.args.key c.args.value tries_to_insert c.store.result.0 (c.store.ensures.ends xs tries_to_insert c.args.key c.args.value (c.refresh.ensures.holds xs has)
    (tries_this (hashed_by g.S.Hasher.Hasher.finish g.S.Hasher.Hasher.write g.S.BuildHasher.build_hasher g.K.Hash.hash_input c.args.hasher.now) c.args.setting c.args.key c.args.value _ _ c.hash_of-hash.ensures refl)) c.in-Err-default.fault c.in-Err-default.is-0).2 (sym c.refused.ensures.fault ∙ long)

pub returns-in-Err-default-clause-fault : goal.returns-in-Err-default-clause-fault
returns-in-Err-default-clause-fault g c =
    let r = c.requires in
    subst IsRoom (sym c.refused.ensures.fault) (room_of tries_to_insert c.in-Err-default.fault refl
    (refused_so g.K.PartialEq.eq (hashed_by g.S.Hasher.Hasher.finish g.S.Hasher.Hasher.write g.S.BuildHasher.build_hasher g.K.Hash.hash_input c.args.hasher.now) c.args.setting c.store.new.memory (g.K.PartialEq.eq c.args.key)
    r.0 c.args.key c.args.value tries_to_insert c.store.result.0 (c.store.ensures.ends r.0 tries_to_insert c.args.key c.args.value (c.refresh.ensures.holds r.0 r.1)
    (tries_this (hashed_by g.S.Hasher.Hasher.finish g.S.Hasher.Hasher.write g.S.BuildHasher.build_hasher g.K.Hash.hash_input c.args.hasher.now) c.args.setting c.args.key c.args.value _ _ c.hash_of-hash.ensures refl)) c.in-Err-default.fault c.in-Err-default.is-0).0)

pub returns-in-Err-default-clause-back : goal.returns-in-Err-default-clause-back
returns-in-Err-default-clause-back g c =
    let r = c.requires in
    same_pair c.store.result.1 c.args.key c.refused.result.key c.args.value c.refused.result.value
    (back_so (Some (node.Pair c.args.key c.args.value)) c.store.result.0 c.store.result.1
    (c.store.ensures.back r.0 tries_to_insert c.args.key c.args.value (c.refresh.ensures.holds r.0 r.1)
    (tries_this (hashed_by g.S.Hasher.Hasher.finish g.S.Hasher.Hasher.write g.S.BuildHasher.build_hasher g.K.Hash.hash_input c.args.hasher.now) c.args.setting c.args.key c.args.value _ _ c.hash_of-hash.ensures refl)) c.in-Err-default.fault c.in-Err-default.is-0) c.refused.ensures.pair

pub tried-requires : goal.tried-requires
tried-requires g c = λ found. let r = c.requires in (
  c.args.key,
  c.args.value,
  back_found (Some (node.Pair c.args.key c.args.value)) c.store.result.0 c.store.result.1
      (c.store.ensures.back r.0 tries_to_insert c.args.key c.args.value (c.refresh.ensures.holds r.0 r.1)
      (tries_this (hashed_by g.S.Hasher.Hasher.finish g.S.Hasher.Hasher.write g.S.BuildHasher.build_hasher g.K.Hash.hash_input c.args.hasher.now) c.args.setting c.args.key c.args.value _ _ c.hash_of-hash.ensures refl)) c.in-Ok-default.stop c.in-Ok-default.is-0 found,
)

pub returns-in-Ok-default-clause-stored : goal.returns-in-Ok-default-clause-stored
returns-in-Ok-default-clause-stored g c = λ xs has.
    on_ok_weaker c.tried.result ((tried_so g.K.PartialEq.eq (hashed_by g.S.Hasher.Hasher.finish g.S.Hasher.Hasher.write g.S.BuildHasher.build_hasher g.K.Hash.hash_input c.args.hasher.now) c.args.setting c.store.new.memory (g.K.PartialEq.eq c.args.key)
    xs c.args.key c.args.value c.store.result.0 (c.store.ensures.ends xs tries_to_insert c.args.key c.args.value (c.refresh.ensures.holds xs has)
    (tries_this (hashed_by g.S.Hasher.Hasher.finish g.S.Hasher.Hasher.write g.S.BuildHasher.build_hasher g.K.Hash.hash_input c.args.hasher.now) c.args.setting c.args.key c.args.value _ _ c.hash_of-hash.ensures refl)) c.in-Ok-default.stop c.in-Ok-default.is-0 _ c.told_at.ensures).0) c.tried.ensures.stored

pub returns-in-Ok-default-clause-found : goal.returns-in-Ok-default-clause-found
returns-in-Ok-default-clause-found g c = λ xs has.
    on_err_weaker c.tried.result ((tried_so g.K.PartialEq.eq (hashed_by g.S.Hasher.Hasher.finish g.S.Hasher.Hasher.write g.S.BuildHasher.build_hasher g.K.Hash.hash_input c.args.hasher.now) c.args.setting c.store.new.memory (g.K.PartialEq.eq c.args.key)
    xs c.args.key c.args.value c.store.result.0 (c.store.ensures.ends xs tries_to_insert c.args.key c.args.value (c.refresh.ensures.holds xs has)
    (tries_this (hashed_by g.S.Hasher.Hasher.finish g.S.Hasher.Hasher.write g.S.BuildHasher.build_hasher g.K.Hash.hash_input c.args.hasher.now) c.args.setting c.args.key c.args.value _ _ c.hash_of-hash.ensures refl)) c.in-Ok-default.stop c.in-Ok-default.is-0 _ c.told_at.ensures).1) c.tried.ensures.found

pub returns-in-Ok-default-clause-kept : goal.returns-in-Ok-default-clause-kept
returns-in-Ok-default-clause-kept g c =
    let r = c.requires in
    value_back c.store.result.1 c.args.key c.args.value _ c.tried.result c.tried.ensures.found c.tried.ensures.back (λ found.
    back_found (Some (node.Pair c.args.key c.args.value)) c.store.result.0 c.store.result.1
    (c.store.ensures.back r.0 tries_to_insert c.args.key c.args.value (c.refresh.ensures.holds r.0 r.1)
    (tries_this (hashed_by g.S.Hasher.Hasher.finish g.S.Hasher.Hasher.write g.S.BuildHasher.build_hasher g.K.Hash.hash_input c.args.hasher.now) c.args.setting c.args.key c.args.value _ _ c.hash_of-hash.ensures refl)) c.in-Ok-default.stop c.in-Ok-default.is-0 found)

pub returns-in-Err-default-clause-keeps : goal.returns-in-Err-default-clause-keeps
returns-in-Err-default-clause-keeps g c = λ xs has.
    refused _ _ c.refresh.ensures.none g.K.PartialEq.eq (hashed_by g.S.Hasher.Hasher.finish g.S.Hasher.Hasher.write g.S.BuildHasher.build_hasher g.K.Hash.hash_input) c.args.hasher c.args.setting xs (c.refresh.ensures.holds xs has) _ _ _ _ c.store.result.0 _ c.in-Err-default.is-0 (c.store.ensures.ran tries_to_insert c.args.key c.args.value (tries_this ((hashed_by g.S.Hasher.Hasher.finish g.S.Hasher.Hasher.write g.S.BuildHasher.build_hasher g.K.Hash.hash_input) c.args.hasher.now) c.args.setting c.args.key c.args.value _ _ c.hash_of-hash.ensures refl))

pub returns-in-Ok-default-clause-keeps : goal.returns-in-Ok-default-clause-keeps
returns-in-Ok-default-clause-keeps g c = λ xs has.
    try_holds_on _ _ c.refresh.ensures.none g.K.PartialEq.eq (hashed_by g.S.Hasher.Hasher.finish g.S.Hasher.Hasher.write g.S.BuildHasher.build_hasher g.K.Hash.hash_input) c.args.hasher c.args.setting xs (c.refresh.ensures.holds xs has) _ _ _ _ c.args.key c.args.value c.store.result.0 (c.store.ensures.ends xs tries_to_insert c.args.key c.args.value (c.refresh.ensures.holds xs has) (tries_this ((hashed_by g.S.Hasher.Hasher.finish g.S.Hasher.Hasher.write g.S.BuildHasher.build_hasher g.K.Hash.hash_input) c.args.hasher.now) c.args.setting c.args.key c.args.value _ _ c.hash_of-hash.ensures refl)) (c.store.ensures.ran tries_to_insert c.args.key c.args.value (tries_this ((hashed_by g.S.Hasher.Hasher.finish g.S.Hasher.Hasher.write g.S.BuildHasher.build_hasher g.K.Hash.hash_input) c.args.hasher.now) c.args.setting c.args.key c.args.value _ _ c.hash_of-hash.ensures refl)) c.in-Ok-default.stop c.in-Ok-default.is-0 c.tried.result c.tried.ensures.stored c.tried.ensures.found

pub returns-in-Err-default-clause-because : goal.returns-in-Err-default-clause-because
returns-in-Err-default-clause-because g c =
    storing_because (λ end. OnceRefreshed c.args.setting c.args.memory.now (λ m. HasStopped g.K.PartialEq.eq g.K.PartialEq.eq (hashed_by g.S.Hasher.Hasher.finish g.S.Hasher.Hasher.write g.S.BuildHasher.build_hasher g.K.Hash.hash_input) c.args.hasher c.args.setting m (g.K.PartialEq.eq c.args.key) (Begun tries_to_insert (Some (node.Pair c.args.key c.args.value))) c.store.new.memory end))
    c.store.result.0 c.in-Err-default.fault _ c.in-Err-default.is-0 c.refused.ensures.fault
    (_, c.refresh.ensures.ran, c.store.ensures.ran tries_to_insert c.args.key c.args.value (tries_this ((hashed_by g.S.Hasher.Hasher.finish g.S.Hasher.Hasher.write g.S.BuildHasher.build_hasher g.K.Hash.hash_input) c.args.hasher.now) c.args.setting c.args.key c.args.value _ _ c.hash_of-hash.ensures refl))
