-- By what the call comes to, after the refresh.
use Rattle.owner_asks.specs.Asks.Closures.{ComputesAs}
use Rattle.owner_calls.specs.Owned.Owned.{hashed_by}
use Rattle.owner_rests.proofs.Rests.Done.{computes_as, computing_capacity, key_of_computing}
use Rattle.owner_rests.proofs.Rests.Keeps.{computing_holds_on}
use Rattle.std.specs.Prelude.{[], Some}
use Rattle.owner_calls.specs.Given.CallersKind.{computes}
use Rattle.owner_calls.specs.Given.CallersPairs.{IsTold}
use Rattle.owner_calls.specs.Owned.Calling.{HasStopped}
use Rattle.owner_rests.specs.Rests.Refreshed.{OnceRefreshed}
use Rattle.owner_rests.proofs.Rests.Because.{computing_because}
use Rattle.owner_rests.proofs.computing.compute.Goals as goal

pub refresh-requires : goal.refresh-requires
refresh-requires g c = (c.requires.holds.0, c.requires.holds.1)

pub compute-requires : goal.compute-requires
compute-requires g c = let r = c.requires.holds in record { holds = (r.0, c.refresh.ensures.holds r.0 r.1, r.2) }

pub returns-clause-comes : goal.returns-clause-comes
returns-clause-comes g c = λ xs has.
    computes_as g.K.PartialEq.eq (hashed_by g.S.Hasher.Hasher.finish g.S.Hasher.Hasher.write g.S.BuildHasher.build_hasher g.K.Hash.hash_input c.args.hasher.now) c.args.setting c.compute.new.memory c.args.key xs
    (ComputesAs g.F.FnOnce c.args.decide) c.compute.result (c.compute.ensures.comes xs (c.refresh.ensures.holds xs has)) c.computed.new.last c.computed.ensures.words c.computed.result c.computed.ensures.done

pub returns-clause-back : goal.returns-clause-back
returns-clause-back g c =
    let r = c.requires in
    key_of_computing g.K.PartialEq.eq (hashed_by g.S.Hasher.Hasher.finish g.S.Hasher.Hasher.write g.S.BuildHasher.build_hasher g.K.Hash.hash_input c.args.hasher.now) c.args.setting c.compute.new.memory c.args.key r.holds.0
    (ComputesAs g.F.FnOnce c.args.decide) c.compute.result (c.compute.ensures.comes r.holds.0 (c.refresh.ensures.holds r.holds.0 r.holds.1)) c.computed.result c.computed.ensures.done

pub returns-clause-capacity : goal.returns-clause-capacity
returns-clause-capacity g c = λ xs has.
    computing_capacity g.K.PartialEq.eq (hashed_by g.S.Hasher.Hasher.finish g.S.Hasher.Hasher.write g.S.BuildHasher.build_hasher g.K.Hash.hash_input c.args.hasher.now) c.args.setting c.compute.new.memory c.args.key xs
    (ComputesAs g.F.FnOnce c.args.decide) c.compute.result (c.compute.ensures.comes xs (c.refresh.ensures.holds xs has)) c.computed.result c.computed.ensures.done

pub returns-clause-keeps : goal.returns-clause-keeps
returns-clause-keeps g c = λ xs has.
    computing_holds_on _ _ c.refresh.ensures.none g.K.PartialEq.eq (hashed_by g.S.Hasher.Hasher.finish g.S.Hasher.Hasher.write g.S.BuildHasher.build_hasher g.K.Hash.hash_input) c.args.hasher c.args.setting xs (c.refresh.ensures.holds xs has) _ _ _ _ c.args.key (ComputesAs g.F.FnOnce c.args.decide) c.compute.result (c.compute.ensures.comes xs (c.refresh.ensures.holds xs has)) c.compute.ensures.ran c.computed.new.last c.computed.ensures.words c.computed.result c.computed.ensures.done

pub returns-clause-because : goal.returns-clause-because
returns-clause-because g c =
    computing_because (λ end. OnceRefreshed c.args.setting c.args.memory.now (λ m. HasStopped g.K.PartialEq.eq g.K.PartialEq.eq (hashed_by g.S.Hasher.Hasher.finish g.S.Hasher.Hasher.write g.S.BuildHasher.build_hasher g.K.Hash.hash_input) c.args.hasher c.args.setting m (g.K.PartialEq.eq c.args.key) (IsTold computes (Some c.args.key) []) c.compute.new.memory end))
    c.compute.result (_, c.refresh.ensures.ran, c.compute.ensures.ran) c.computed.result c.computed.ensures.done
