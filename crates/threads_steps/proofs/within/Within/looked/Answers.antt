use Rattle.threads_steps.proofs.Shown.{is_looked}
use Rattle.threads_steps.proofs.within.Within.looked.Goals as goal

pub value-requires-clause-shown : goal.value-requires-clause-shown
value-requires-clause-shown g c =
    let x = c.args.self.now in (is_looked g.K.PartialEq.eq g.S.Hashes.hash x.blocks.now.words.fixed x.seat.now.id x.seat.now.view c.args.block c.requires).0

pub returns : goal.returns
returns g c =
    let x = c.args.self.now in
    (is_looked g.K.PartialEq.eq g.S.Hashes.hash x.blocks.now.words.fixed x.seat.now.id x.seat.now.view c.args.block c.requires).1 c.value.result.now c.value.ensures
