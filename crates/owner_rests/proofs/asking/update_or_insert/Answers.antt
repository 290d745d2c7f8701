-- By what the call comes to, after the refresh.
use Rattle.std.specs.Prelude.{◌≡◌, [], Some}
use Rattle.std.specs.Fn.{FnOnceReturnsAt}
use Rattle.owner_asks.specs.Asks.Closures.{UpdatingOrStoring}
use Rattle.owner_calls.specs.Owned.Owned.{hashed_by}
use Rattle.owner_rests.proofs.Rests.Done.{with_as, pair_comes_back, pair_capacity}
use Rattle.seize_words.specs.declared.refused.Refused.{Refused}
use Rattle.owner_rests.proofs.Rests.Keeps.{change_holds_on}
use Rattle.owner_calls.specs.Given.CallersKind.{updates_or_inserts}
use Rattle.owner_calls.specs.Given.CallersPairs.{IsTold}
use Rattle.owner_calls.specs.Owned.Calling.{HasStopped}
use Rattle.owner_rests.specs.Rests.Refreshed.{OnceRefreshed}
use Rattle.owner_rests.proofs.Rests.Because.{refused_because}
use Rattle.owner_rests.proofs.asking.update_or_insert.Goals as goal

pub refresh-requires : goal.refresh-requires
refresh-requires g c = (c.requires.holds.0, c.requires.holds.1)

pub update_or_insert-requires : goal.update_or_insert-requires
update_or_insert-requires g c = let r = c.requires.holds in record { holds = (r.0, c.refresh.ensures.holds r.0 r.1, r.2) }

pub returns-clause-comes : goal.returns-clause-comes
returns-clause-comes g c = λ xs has.
    with_as g.K.PartialEq.eq (hashed_by g.S.Hasher.Hasher.finish g.S.Hasher.Hasher.write g.S.BuildHasher.build_hasher g.K.Hash.hash_input c.args.hasher.now) c.args.setting c.update_or_insert.new.memory c.args.key xs
    (UpdatingOrStoring (FnOnceReturnsAt g.F.FnOnce c.args.make) (λ new. new ≡ c.args.value)) c.args.value c.update_or_insert.result (c.update_or_insert.ensures.comes xs (c.refresh.ensures.holds xs has)) c.ended.new.last c.ended.ensures.words c.ended.result c.ended.ensures.done

pub returns-clause-back : goal.returns-clause-back
returns-clause-back g c =
    let r = c.requires in
    pair_comes_back g.K.PartialEq.eq (hashed_by g.S.Hasher.Hasher.finish g.S.Hasher.Hasher.write g.S.BuildHasher.build_hasher g.K.Hash.hash_input c.args.hasher.now) c.args.setting c.update_or_insert.new.memory c.args.key r.holds.0
    (UpdatingOrStoring (FnOnceReturnsAt g.F.FnOnce c.args.make) (λ new. new ≡ c.args.value)) c.args.value c.update_or_insert.result (c.update_or_insert.ensures.comes r.holds.0 (c.refresh.ensures.holds r.holds.0 r.holds.1)) c.ended.result c.ended.ensures.done

pub returns-clause-capacity : goal.returns-clause-capacity
returns-clause-capacity g c = λ xs has.
    pair_capacity g.K.PartialEq.eq (hashed_by g.S.Hasher.Hasher.finish g.S.Hasher.Hasher.write g.S.BuildHasher.build_hasher g.K.Hash.hash_input c.args.hasher.now) c.args.setting c.update_or_insert.new.memory c.args.key xs
    (UpdatingOrStoring (FnOnceReturnsAt g.F.FnOnce c.args.make) (λ new. new ≡ c.args.value)) c.args.value c.update_or_insert.result (c.update_or_insert.ensures.comes xs (c.refresh.ensures.holds xs has)) c.ended.result c.ended.ensures.done

pub returns-clause-keeps : goal.returns-clause-keeps
returns-clause-keeps g c = λ xs has.
    change_holds_on _ _ c.refresh.ensures.none g.K.PartialEq.eq (hashed_by g.S.Hasher.Hasher.finish g.S.Hasher.Hasher.write g.S.BuildHasher.build_hasher g.K.Hash.hash_input) c.args.hasher c.args.setting xs (c.refresh.ensures.holds xs has) _ _ _ _ (λ (e : Refused _ _). e.fault) c.update_or_insert.result c.update_or_insert.ensures.ran c.ended.new.last c.ended.ensures.words c.ended.result c.ended.ensures.done

pub returns-clause-because : goal.returns-clause-because
returns-clause-because g c =
    refused_because (λ end. OnceRefreshed c.args.setting c.args.memory.now (λ m. HasStopped g.K.PartialEq.eq g.K.PartialEq.eq (hashed_by g.S.Hasher.Hasher.finish g.S.Hasher.Hasher.write g.S.BuildHasher.build_hasher g.K.Hash.hash_input) c.args.hasher c.args.setting m (g.K.PartialEq.eq c.args.key) (IsTold updates_or_inserts (Some c.args.key) []) c.update_or_insert.new.memory end))
    (λ (e : Refused _ _). e.fault) c.update_or_insert.result (_, c.refresh.ensures.ran, c.update_or_insert.ensures.ran) c.ended.result c.ended.ensures.done
