use Rattle.seize_callers.proofs.Drives.{is_looked}
use Rattle.seize_callers.proofs.within.settling.WithinLook.value.Goals as goal

pub value-requires-clause-shown : goal.value-requires-clause-shown
value-requires-clause-shown g c =
    let x = c.args.self.now in
    (is_looked g.C.Rule.holds g.C.Rule.keeps g.C.Content.notes g.C.Content.beside c.goes_on.ensures.looked x.blocks.now.words.fixed x.seat.now.id
    x.seat.now.view c.args.block c.requires).0

pub returns : goal.returns
returns g c =
    let x = c.args.self.now in
    (is_looked g.C.Rule.holds g.C.Rule.keeps g.C.Content.notes g.C.Content.beside c.goes_on.ensures.looked x.blocks.now.words.fixed x.seat.now.id
    x.seat.now.view c.args.block c.requires).1 c.value.result.now c.value.ensures
