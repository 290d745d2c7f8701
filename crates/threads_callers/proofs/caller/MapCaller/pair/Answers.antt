use Rattle.threads_errands.proofs.Given.StepsShown.{is_shown}
use Rattle.threads_callers.proofs.caller.MapCaller.pair.Goals as goal

pub value-requires-clause-shown : goal.value-requires-clause-shown
value-requires-clause-shown g c =
    let x = c.args.self.now in (is_shown g.K.PartialEq.eq g.S.Hashes.hash x.blocks.now.words.fixed x.seat.id x.seat.view c.args.block c.requires.shown).0

pub returns-clause-shown : goal.returns-clause-shown
returns-clause-shown g c =
    let x = c.args.self.now in
    (is_shown g.K.PartialEq.eq g.S.Hashes.hash x.blocks.now.words.fixed x.seat.id x.seat.view c.args.block c.requires.shown).1 c.value.result.now c.value.ensures
