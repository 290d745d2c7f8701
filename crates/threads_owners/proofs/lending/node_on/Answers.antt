use Rattle.std.proofs.Common.{inr}
use Rattle.seize_words.proofs.General.{some_there as what}
use Rattle.threads_errands.proofs.Given.ViewsLaws.{seats_come}
use Rattle.threads_errands.proofs.Given.StepsShown.{is_shown}
use Rattle.threads_errands.specs.Given.ViewsLooks.{shown_in}
use Rattle.threads_owners.proofs.lending.node_on.Goals as goal

pub value_by-requires-clause-own : goal.value_by-requires-clause-own
value_by-requires-clause-own g c = (c.requires.own, c.args.guard.now.own, c.requires.one)

pub value_by-requires-clause-kept : goal.value_by-requires-clause-kept
value_by-requires-clause-kept g c =
    let s = c.args.seat.now in let k = c.args.guard.now.seat in let o = c.args.owner.now.seat in let x = what (shown_in s.view.held c.args.block) c.requires.shown in
    c.leanings_begin.ensures.kept g.K.PartialEq.eq g.S.Hashes.hash c.args.guard.now.blocks.now.words.fixed s.id k.id c.requires.under.0 o.id c.args.block s.view k.view o.view x.0
    c.requires.under.1 c.requires.free (inr c.requires.map) x.1

pub value_by-requires-clause-there : goal.value_by-requires-clause-there
value_by-requires-clause-there g c = c.leanings_begin.ensures.there g.K.PartialEq.eq g.S.Hashes.hash c.args.guard.now.blocks.now.words.fixed

pub value_by-requires-clause-comes : goal.value_by-requires-clause-comes
value_by-requires-clause-comes g c = seats_come g.row.V.Denot g.K.PartialEq.eq g.S.Hashes.hash c.args.guard.now.blocks.now.words.fixed

pub returns-clause-shown : goal.returns-clause-shown
returns-clause-shown g c =
    let s = c.args.seat.now in let e = c.value_by.ensures in
    (is_shown g.K.PartialEq.eq g.S.Hashes.hash c.args.guard.now.blocks.now.words.fixed s.id s.view c.args.block c.requires.shown).1 c.value_by.result.now (e.0, e.1, e.4, e.5)
