use Rattle.std.proofs.Common.{ap, refl}
use Rattle.threads_updates.specs.Given.OwnedOwned.{hashed_by}
use Rattle.papaya_sessions.proofs.Compared.{compared_all}
use Rattle.papaya_sessions.proofs.session.comparing.all_there.Goals as goal

pub returns-in-Ok-clause-compared : goal.returns-in-Ok-clause-compared
returns-in-Ok-clause-compared g c =
    let told = c.shows_to-end in let by = hashed_by g.T.Hasher.Hasher.finish g.T.Hasher.Hasher.write g.T.BuildHasher.build_hasher g.K.Hash.hash_input in
    compared_all g.K.PartialEq.eq by g.V.PartialEq.eq (λ s. s.now.base.caller) (λ w. w.pin.session) (λ w. w.alike) (λ w. w.pin.pass.base.seat.view) g.S.Hashes.hash c.args.session.now.base.caller
    told.new.self.base.caller c.args.other.now.base.caller _ told.result.1 told.ensures.told refl c.pin.ensures.none (ap (λ s. s.base.caller) c.pin.ensures.session) told.result.0 tt c.in-Ok.is
    told.ensures.shown
