use Rattle.seize_callers.proofs.Keeping.{still_kept}
use Rattle.threads_rule.proofs.Errands.Beginnings.{may_tell, told_leans}
use Rattle.threads_steps.proofs.within.Within.tells_as.Goals as goal

pub turn-requires-clause-may : goal.turn-requires-clause-may
turn-requires-clause-may g c =
    let x = c.args.self.now in
    may_tell g.K.PartialEq.eq g.S.Hashes.hash x.blocks.now.words.fixed x.seat.now.id x.seat.now.view c.requires.knows.0 g.B.Says.machine g.B.Says.reply c.requires.knows.1 c.requires.works

pub turn-requires-clause-errand : goal.turn-requires-clause-errand
turn-requires-clause-errand g c = λ home rests w so. absurd (c.args.self.now.away home)

pub turn-requires-clause-leans : goal.turn-requires-clause-leans
turn-requires-clause-leans g c = λ w told n leans. told_leans g.B.Says.machine g.B.Says.reply c.args.self.now.seat.now.view w n told.1 leans

pub returns-clause-told : goal.returns-clause-told
returns-clause-told g c = c.turn.ensures.goes.1

pub returns-clause-same : goal.returns-clause-same
returns-clause-same g c = still_kept _ _ c.turn.ensures.same.1 c.turn.ensures.errand
