-- By what the call comes to, after the refresh.
use Rattle.std.specs.Prelude.{[], None}
use Rattle.std.proofs.Common.{refl, inr}
use Rattle.owner_asks.specs.Asks.Closures.{Removing, TestsAs}
use Rattle.owner_calls.specs.Owned.Owned.{hashed_by}
use Rattle.owner_rests.proofs.Rests.Done.{ends_as, end_capacity}
use Rattle.owner_rests.proofs.Rests.Keeps.{chosen_holds_on}
use Rattle.owner_calls.specs.Given.CallersKind.{removes_if}
use Rattle.owner_calls.specs.Given.CallersPairs.{IsTold}
use Rattle.owner_calls.specs.Owned.Calling.{HasStopped}
use Rattle.owner_rests.specs.Rests.Refreshed.{OnceRefreshed}
use Rattle.owner_asks.specs.Asks.Asking.{by_lent}
use Rattle.owner_rests.proofs.Rests.Because.{refused_because}
use Rattle.owner_rests.proofs.Rests.Steady.{done_ok, removal_steady}
use Rattle.owner_rests.proofs.testing.remove_if.Goals as goal

pub refresh-requires : goal.refresh-requires
refresh-requires g c = (c.requires.holds.0, c.requires.holds.1)

pub remove_if-requires : goal.remove_if-requires
remove_if-requires g c = let r = c.requires.holds in record { holds = (r.0, c.refresh.ensures.holds r.0 r.1, r.2) }

pub returns-clause-comes : goal.returns-clause-comes
returns-clause-comes g c = λ xs has.
    ends_as g.K.PartialEq.eq (hashed_by g.S.Hasher.Hasher.finish g.S.Hasher.Hasher.write g.S.BuildHasher.build_hasher g.K.Hash.hash_input c.args.hasher.now) c.args.setting c.remove_if.new.memory (g.Q.Equivalent.equivalent c.args.asked.now) None xs
    (Removing (TestsAs g.F.FnOnce c.args.test)) c.remove_if.result (c.remove_if.ensures.comes xs (c.refresh.ensures.holds xs has)) c.ended.new.last c.ended.ensures.words c.ended.result c.ended.ensures.done

pub returns-clause-capacity : goal.returns-clause-capacity
returns-clause-capacity g c = λ xs has.
    end_capacity g.K.PartialEq.eq (hashed_by g.S.Hasher.Hasher.finish g.S.Hasher.Hasher.write g.S.BuildHasher.build_hasher g.K.Hash.hash_input c.args.hasher.now) c.args.setting c.remove_if.new.memory (g.Q.Equivalent.equivalent c.args.asked.now) None xs
    (Removing (TestsAs g.F.FnOnce c.args.test)) c.remove_if.result (c.remove_if.ensures.comes xs (c.refresh.ensures.holds xs has)) c.ended.result c.ended.ensures.done

pub returns-clause-keeps : goal.returns-clause-keeps
returns-clause-keeps g c = λ xs has.
    chosen_holds_on _ _ c.refresh.ensures.none g.K.PartialEq.eq (hashed_by g.S.Hasher.Hasher.finish g.S.Hasher.Hasher.write g.S.BuildHasher.build_hasher g.K.Hash.hash_input) c.args.hasher c.args.setting xs (c.refresh.ensures.holds xs has) _ _ _ _ (g.Q.Equivalent.equivalent c.args.asked.now) (Removing (TestsAs g.F.FnOnce c.args.test)) c.remove_if.result (c.remove_if.ensures.comes xs (c.refresh.ensures.holds xs has)) c.remove_if.ensures.ran

pub returns-clause-because : goal.returns-clause-because
returns-clause-because g c =
    refused_because (λ end. OnceRefreshed c.args.setting c.args.memory.now (λ m. HasStopped (by_lent g.Q.Equivalent.equivalent) g.K.PartialEq.eq (hashed_by g.S.Hasher.Hasher.finish g.S.Hasher.Hasher.write g.S.BuildHasher.build_hasher g.K.Hash.hash_input) c.args.hasher c.args.setting m (g.Q.Equivalent.equivalent c.args.asked.now) (IsTold removes_if None []) c.remove_if.new.memory end))
    (λ fault. fault) c.remove_if.result (_, c.refresh.ensures.ran, c.remove_if.ensures.ran) c.ended.result c.ended.ensures.done

pub returns-clause-steady : goal.returns-clause-steady
returns-clause-steady g c = λ xs has one.
    done_ok c.remove_if.result
    (removal_steady g.K.PartialEq.eq (hashed_by g.S.Hasher.Hasher.finish g.S.Hasher.Hasher.write g.S.BuildHasher.build_hasher g.K.Hash.hash_input) c.args.hasher c.args.setting _ xs has one _ c.refresh.ensures.ran (c.refresh.ensures.holds xs has) _ _ _ _ (inr refl) _ c.remove_if.ensures.ran).0
    c.ended.result c.ended.ensures.done

pub returns-clause-steady_then : goal.returns-clause-steady_then
returns-clause-steady_then g c = λ xs has one.
    (removal_steady g.K.PartialEq.eq (hashed_by g.S.Hasher.Hasher.finish g.S.Hasher.Hasher.write g.S.BuildHasher.build_hasher g.K.Hash.hash_input) c.args.hasher c.args.setting _ xs has one _ c.refresh.ensures.ran (c.refresh.ensures.holds xs has) _ _ _ _ (inr refl) _ c.remove_if.ensures.ran).1
