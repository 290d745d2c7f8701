-- By what the clearing comes to, after the refresh.
use Rattle.owner_calls.proofs.Holds.Changes.{sweep_holds_on}
use Rattle.std.proofs.Common.{refl}
use Rattle.papaya_raw.specs.Given.ReservesDeclared.sweep.Purpose.TheVariants.{Clears}
use Rattle.owner_calls.specs.Owned.Owned.{hashed_by}
use Rattle.owner_rests.proofs.Rests.Steady.{sweep_steady}
use Rattle.owner_rests.proofs.sweeps.clear.Goals as goal

pub returns-clause-done : goal.returns-clause-done
returns-clause-done g c = λ xs has. c.empty.ensures.done xs (c.refresh.ensures.holds xs has)

pub returns-clause-refused : goal.returns-clause-refused
returns-clause-refused g c = λ xs has. c.empty.ensures.refused xs (c.refresh.ensures.holds xs has)

pub returns-clause-capacity : goal.returns-clause-capacity
returns-clause-capacity g c = λ xs has. c.empty.ensures.capacity xs (c.refresh.ensures.holds xs has)

pub returns-clause-keeps : goal.returns-clause-keeps
returns-clause-keeps g c = λ xs has.
    sweep_holds_on _ _ c.refresh.ensures.none g.K.PartialEq.eq (hashed_by g.S.Hasher.Hasher.finish g.S.Hasher.Hasher.write g.S.BuildHasher.build_hasher g.K.Hash.hash_input) c.args.hasher c.args.setting xs (c.refresh.ensures.holds xs has) _ c.empty.ensures.ran

pub returns-clause-ran : goal.returns-clause-ran
returns-clause-ran g c = (_, c.refresh.ensures.ran, c.empty.ensures.ran)

pub returns-clause-steady : goal.returns-clause-steady
returns-clause-steady g c = λ xs has one.
    (sweep_steady g.K.PartialEq.eq (hashed_by g.S.Hasher.Hasher.finish g.S.Hasher.Hasher.write g.S.BuildHasher.build_hasher g.K.Hash.hash_input) c.args.hasher c.args.setting _ xs has one _ c.refresh.ensures.ran (c.refresh.ensures.holds xs has) _ Clears refl _ c.empty.ensures.ran).0

pub returns-clause-steady_then : goal.returns-clause-steady_then
returns-clause-steady_then g c = λ xs has one.
    (sweep_steady g.K.PartialEq.eq (hashed_by g.S.Hasher.Hasher.finish g.S.Hasher.Hasher.write g.S.BuildHasher.build_hasher g.K.Hash.hash_input) c.args.hasher c.args.setting _ xs has one _ c.refresh.ensures.ran (c.refresh.ensures.holds xs has) _ Clears refl _ c.empty.ensures.ran).1
