-- By what the call comes to, after the refresh.
use Rattle.std.specs.Fn.{FnOnceReturns, FnOnceReturnsAt}
use Rattle.owner_asks.specs.Asks.Closures.{UpdatingOrStoring}
use Rattle.owner_calls.specs.Owned.Owned.{hashed_by}
use Rattle.owner_rests.proofs.Rests.Done.{comes_as, key_comes_back, key_capacity}
use Rattle.seize_words.specs.declared.refused.RefusedKey.{RefusedKey}
use Rattle.owner_rests.proofs.Rests.Keeps.{change_holds_on}
use Rattle.std.specs.Prelude.{[], Some}
use Rattle.owner_calls.specs.Given.CallersKind.{updates_or_inserts}
use Rattle.owner_calls.specs.Given.CallersPairs.{IsTold}
use Rattle.owner_calls.specs.Owned.Calling.{HasStopped}
use Rattle.owner_rests.specs.Rests.Refreshed.{OnceRefreshed}
use Rattle.owner_rests.proofs.Rests.Because.{refused_because}
use Rattle.owner_rests.proofs.asking.update_or_insert_with.Goals as goal

pub refresh-requires : goal.refresh-requires
refresh-requires g c = (c.requires.holds.0, c.requires.holds.1)

pub update_or_insert_with-requires : goal.update_or_insert_with-requires
update_or_insert_with-requires g c = let r = c.requires.holds in record { holds = (r.0, c.refresh.ensures.holds r.0 r.1, r.2, r.3) }

pub returns-clause-comes : goal.returns-clause-comes
returns-clause-comes g c = λ xs has.
    comes_as g.K.PartialEq.eq (hashed_by g.S.Hasher.Hasher.finish g.S.Hasher.Hasher.write g.S.BuildHasher.build_hasher g.K.Hash.hash_input c.args.hasher.now) c.args.setting c.update_or_insert_with.new.memory c.args.key xs
    (UpdatingOrStoring (FnOnceReturnsAt g.F.FnOnce c.args.make) (λ value. FnOnceReturns g.B.FnOnce c.args.begin tt value)) c.update_or_insert_with.result (c.update_or_insert_with.ensures.comes xs (c.refresh.ensures.holds xs has)) c.ended.new.last c.ended.ensures.words c.ended.result c.ended.ensures.done

pub returns-clause-back : goal.returns-clause-back
returns-clause-back g c =
    let r = c.requires in
    key_comes_back g.K.PartialEq.eq (hashed_by g.S.Hasher.Hasher.finish g.S.Hasher.Hasher.write g.S.BuildHasher.build_hasher g.K.Hash.hash_input c.args.hasher.now) c.args.setting c.update_or_insert_with.new.memory c.args.key r.holds.0
    (UpdatingOrStoring (FnOnceReturnsAt g.F.FnOnce c.args.make) (λ value. FnOnceReturns g.B.FnOnce c.args.begin tt value)) c.update_or_insert_with.result (c.update_or_insert_with.ensures.comes r.holds.0 (c.refresh.ensures.holds r.holds.0 r.holds.1)) c.ended.result c.ended.ensures.done

pub returns-clause-capacity : goal.returns-clause-capacity
returns-clause-capacity g c = λ xs has.
    key_capacity g.K.PartialEq.eq (hashed_by g.S.Hasher.Hasher.finish g.S.Hasher.Hasher.write g.S.BuildHasher.build_hasher g.K.Hash.hash_input c.args.hasher.now) c.args.setting c.update_or_insert_with.new.memory c.args.key xs
    (UpdatingOrStoring (FnOnceReturnsAt g.F.FnOnce c.args.make) (λ value. FnOnceReturns g.B.FnOnce c.args.begin tt value)) c.update_or_insert_with.result (c.update_or_insert_with.ensures.comes xs (c.refresh.ensures.holds xs has)) c.ended.result c.ended.ensures.done

pub returns-clause-keeps : goal.returns-clause-keeps
returns-clause-keeps g c = λ xs has.
    change_holds_on _ _ c.refresh.ensures.none g.K.PartialEq.eq (hashed_by g.S.Hasher.Hasher.finish g.S.Hasher.Hasher.write g.S.BuildHasher.build_hasher g.K.Hash.hash_input) c.args.hasher c.args.setting xs (c.refresh.ensures.holds xs has) _ _ _ _ (λ (e : RefusedKey _). e.fault) c.update_or_insert_with.result c.update_or_insert_with.ensures.ran c.ended.new.last c.ended.ensures.words c.ended.result c.ended.ensures.done

pub returns-clause-because : goal.returns-clause-because
returns-clause-because g c =
    refused_because (λ end. OnceRefreshed c.args.setting c.args.memory.now (λ m. HasStopped g.K.PartialEq.eq g.K.PartialEq.eq (hashed_by g.S.Hasher.Hasher.finish g.S.Hasher.Hasher.write g.S.BuildHasher.build_hasher g.K.Hash.hash_input) c.args.hasher c.args.setting m (g.K.PartialEq.eq c.args.key) (IsTold updates_or_inserts (Some c.args.key) []) c.update_or_insert_with.new.memory end))
    (λ (e : RefusedKey _). e.fault) c.update_or_insert_with.result (_, c.refresh.ensures.ran, c.update_or_insert_with.ensures.ran) c.ended.result c.ended.ensures.done
