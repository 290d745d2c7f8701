use Rattle.seize_callers.proofs.Keeping.{still_kept}
use Rattle.seize_callers.proofs.Making.{may_make, has_told}
use Rattle.seize_callers.proofs.within.settling.WithinMemory.add.Goals as goal

pub add-requires-clause-may : goal.add-requires-clause-may
add-requires-clause-may g c =
    let x = c.args.self.now in
    may_make g.C.Rule.holds g.C.Rule.keeps g.C.Content.notes g.C.Content.beside g.T.Defers.defers g.C.Rule.then x.blocks.now.words.fixed x.seat.now.id x.seat.now.view c.goes_on.ensures.rows _ c.requires

pub returns : goal.returns
returns g c =
    let x = c.args.self.now in
    let k = has_told g.C.Rule.holds g.C.Rule.keeps g.C.Content.notes g.C.Content.beside g.T.Defers.defers g.C.Rule.then x.blocks.now.words.fixed x.seat.now.id x.seat.now.view c.goes_on.ensures.told _ c.requires _ c.add.new.seat.view c.add.ensures.goes in
    (still_kept _ _ c.add.ensures.same.1 c.add.ensures.errand, k.1, k.0)
