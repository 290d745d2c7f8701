use Rattle.std.specs.Prelude.{fold}
use Rattle.threads_steps.proofs.Given.PointsLawful.{are_lawful}
use Rattle.threads_steps.proofs.Given.ViewsLaws.{rules_start}
use Rattle.threads_steps.specs.Given.OwnedOwned.{hashed_by}
use Rattle.threads_errands.proofs.memory.memory_for.Goals as goal

pub open-requires-clause-starts : goal.open-requires-clause-starts
open-requires-clause-starts g c =
    rules_start g.row.V.Denot g.K.PartialEq.eq (hashed_by g.S.Hasher.Hasher.finish g.S.Hasher.Hasher.write g.S.BuildHasher.build_hasher g.K.Hash.hash_input)
    (λ hasher. are_lawful g.K.PartialEq.eq g.K.Hash.hash_input g.met.K.Eq.laws g.met.K.Hash.respects_eq
    (λ writes. g.S.Hasher.Hasher.finish (fold g.S.Hasher.Hasher.write (g.S.BuildHasher.build_hasher hasher) writes)))
    c.args.chosen.now
