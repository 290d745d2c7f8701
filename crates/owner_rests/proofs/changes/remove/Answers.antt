-- By what the removal comes to, after the refresh.
use Rattle.std.proofs.Common.{◌∙◌, refl, inl}
use Rattle.owner_calls.specs.Given.CallersKind.{removes}
use Rattle.owner_calls.specs.Owned.Owned.{hashed_by}
use Rattle.owner_rests.proofs.Rests.Removals.{removed_so, room_of}
use Rattle.owner_rests.proofs.Rests.Keeps.{refused, removal_holds_on}
use Rattle.owner_rests.proofs.Rests.Steady.{removal_steady}
use Rattle.owner_rests.proofs.changes.remove.Goals as goal

pub returns-in-Ok-clause-some : goal.returns-in-Ok-clause-some
returns-in-Ok-clause-some g c = λ xs has.
    c.removed.ensures
    ∙ (removed_so g.K.PartialEq.eq (hashed_by g.S.Hasher.Hasher.finish g.S.Hasher.Hasher.write g.S.BuildHasher.build_hasher g.K.Hash.hash_input c.args.hasher.now) c.args.setting c.remove.new.memory
    (g.Q.Equivalent.equivalent c.args.asked.now) xs c.in-Ok.stop (c.in-Ok.ensures.comes xs (c.refresh.ensures.holds xs has)) _ c.told_at.ensures).0

pub returns-in-Ok-clause-removed : goal.returns-in-Ok-clause-removed
returns-in-Ok-clause-removed g c = λ xs has.
    (removed_so g.K.PartialEq.eq (hashed_by g.S.Hasher.Hasher.finish g.S.Hasher.Hasher.write g.S.BuildHasher.build_hasher g.K.Hash.hash_input c.args.hasher.now) c.args.setting c.remove.new.memory
    (g.Q.Equivalent.equivalent c.args.asked.now) xs c.in-Ok.stop (c.in-Ok.ensures.comes xs (c.refresh.ensures.holds xs has)) _ c.told_at.ensures).1

pub returns-in-Err-clause-refused : goal.returns-in-Err-clause-refused
returns-in-Err-clause-refused g c = λ xs has. record { holds = (c.in-Err.ensures.comes xs (c.refresh.ensures.holds xs has)).1; taken_is = tt; met_is = tt }

pub returns-in-Err-clause-fault : goal.returns-in-Err-clause-fault
returns-in-Err-clause-fault g c = let r = c.requires in room_of removes _ refl (c.in-Err.ensures.comes r.0 (c.refresh.ensures.holds r.0 r.1)).0

pub returns-in-Err-clause-capacity : goal.returns-in-Err-clause-capacity
returns-in-Err-clause-capacity g c = λ xs has. (c.in-Err.ensures.comes xs (c.refresh.ensures.holds xs has)).2

pub returns-in-Ok-clause-keeps : goal.returns-in-Ok-clause-keeps
returns-in-Ok-clause-keeps g c = λ xs has.
    removal_holds_on _ _ c.refresh.ensures.none g.K.PartialEq.eq (hashed_by g.S.Hasher.Hasher.finish g.S.Hasher.Hasher.write g.S.BuildHasher.build_hasher g.K.Hash.hash_input) c.args.hasher c.args.setting xs (c.refresh.ensures.holds xs has) _ _ _ _ (g.Q.Equivalent.equivalent c.args.asked.now) c.in-Ok.stop (c.in-Ok.ensures.comes xs (c.refresh.ensures.holds xs has)) c.in-Ok.ensures.ran

pub returns-in-Err-clause-keeps : goal.returns-in-Err-clause-keeps
returns-in-Err-clause-keeps g c = λ xs has.
    refused _ _ c.refresh.ensures.none g.K.PartialEq.eq (hashed_by g.S.Hasher.Hasher.finish g.S.Hasher.Hasher.write g.S.BuildHasher.build_hasher g.K.Hash.hash_input) c.args.hasher c.args.setting xs (c.refresh.ensures.holds xs has) _ _ _ _ _ _ refl c.in-Err.ensures.ran

pub returns-in-Err-clause-because : goal.returns-in-Err-clause-because
returns-in-Err-clause-because g c = (_, c.refresh.ensures.ran, c.in-Err.ensures.ran)

pub returns-in-Err-clause-steady : goal.returns-in-Err-clause-steady
returns-in-Err-clause-steady g c = λ xs has one.
    (removal_steady g.K.PartialEq.eq (hashed_by g.S.Hasher.Hasher.finish g.S.Hasher.Hasher.write g.S.BuildHasher.build_hasher g.K.Hash.hash_input) c.args.hasher c.args.setting _ xs has one _ c.refresh.ensures.ran (c.refresh.ensures.holds xs has) _ _ _ _ (inl refl) _ c.in-Err.ensures.ran).0

pub returns-in-Ok-clause-steady_then : goal.returns-in-Ok-clause-steady_then
returns-in-Ok-clause-steady_then g c = λ xs has one.
    (removal_steady g.K.PartialEq.eq (hashed_by g.S.Hasher.Hasher.finish g.S.Hasher.Hasher.write g.S.BuildHasher.build_hasher g.K.Hash.hash_input) c.args.hasher c.args.setting _ xs has one _ c.refresh.ensures.ran (c.refresh.ensures.holds xs has) _ _ _ _ (inl refl) _ c.in-Ok.ensures.ran).1

pub returns-in-Err-clause-steady_then : goal.returns-in-Err-clause-steady_then
returns-in-Err-clause-steady_then g c = λ xs has one.
    (removal_steady g.K.PartialEq.eq (hashed_by g.S.Hasher.Hasher.finish g.S.Hasher.Hasher.write g.S.BuildHasher.build_hasher g.K.Hash.hash_input) c.args.hasher c.args.setting _ xs has one _ c.refresh.ensures.ran (c.refresh.ensures.holds xs has) _ _ _ _ (inl refl) _ c.in-Err.ensures.ran).1
