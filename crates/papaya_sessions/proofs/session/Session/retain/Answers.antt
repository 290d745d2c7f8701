use Rattle.papaya_raw.specs.Given.ReservesDeclared.sweep.Purpose.TheVariants.{Retains}
use Rattle.papaya_sessions.proofs.OneMap.{not_gone, was_sifted}
use Rattle.papaya_sessions.proofs.session.Session.retain.Goals as goal

pub returns-clause-sifted : goal.returns-clause-sifted
returns-clause-sifted g c =
    let y = c.retain in
    was_sifted g.K.PartialEq.eq g.S.Hashes.hash c.args.self.now y.new.session y.ensures.inside y.ensures.slot y.ensures.map y.ensures.blocks y.result y.ensures.gone

pub returns-clause-refused : goal.returns-clause-refused
returns-clause-refused g c =
    let y = c.retain in
    not_gone g.K.PartialEq.eq g.S.Hashes.hash c.args.self.now y.new.session y.ensures.inside y.ensures.slot y.ensures.map y.ensures.blocks Retains y.result y.ensures.gone

pub returns-clause-heeded : goal.returns-clause-heeded
returns-clause-heeded g c = c.retain.ensures.heeded
