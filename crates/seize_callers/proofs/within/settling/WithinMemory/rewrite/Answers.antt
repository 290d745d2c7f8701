use Rattle.seize_callers.proofs.Keeping.{still_kept}
use Rattle.seize_callers.proofs.Making.{may_make, has_told, has_alone}
use Rattle.seize_callers.proofs.within.settling.WithinMemory.rewrite.Goals as goal

pub rewrite-requires-clause-may : goal.rewrite-requires-clause-may
rewrite-requires-clause-may g c =
    let x = c.args.self.now in
    may_make g.C.Rule.holds g.C.Rule.keeps g.C.Content.notes g.C.Content.beside g.T.Defers.defers g.C.Rule.then x.blocks.now.words.fixed x.seat.now.id x.seat.now.view c.goes_on.ensures.rows _ c.requires

pub rewrite-requires-clause-alone : goal.rewrite-requires-clause-alone
rewrite-requires-clause-alone g c =
    let x = c.args.self.now in
    has_alone g.C.Rule.holds g.C.Rule.keeps g.C.Content.notes g.C.Content.beside g.T.Defers.defers g.C.Rule.then x.blocks.now.words.fixed x.seat.now.id x.seat.now.view c.args.block c.args.value c.requires

pub returns : goal.returns
returns g c =
    let x = c.args.self.now in
    let k = has_told g.C.Rule.holds g.C.Rule.keeps g.C.Content.notes g.C.Content.beside g.T.Defers.defers g.C.Rule.then x.blocks.now.words.fixed x.seat.now.id x.seat.now.view c.goes_on.ensures.told _ c.requires _ c.rewrite.new.seat.view c.rewrite.ensures.goes in
    (still_kept _ _ c.rewrite.ensures.same.1 c.rewrite.ensures.errand, k.1, k.0)
