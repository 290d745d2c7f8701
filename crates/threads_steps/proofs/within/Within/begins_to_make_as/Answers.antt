use Rattle.seize_callers.proofs.Keeping.{still_kept}
use Rattle.threads_rule.proofs.Errands.Beginnings.{making_leans, may_make}
use Rattle.threads_steps.proofs.within.Within.begins_to_make_as.Goals as goal

pub turn-requires-clause-may : goal.turn-requires-clause-may
turn-requires-clause-may g c =
    let x = c.args.self.now in
    may_make g.K.PartialEq.eq g.S.Hashes.hash x.blocks.now.words.fixed x.seat.now.id x.seat.now.view g.B.Plans.plans c.args._own c.args._hasher.now c.args._opening.now c.requires.plans
    c.requires.may c.requires.rests c.requires.free

pub turn-requires-clause-errand : goal.turn-requires-clause-errand
turn-requires-clause-errand g c = λ home rests w so. absurd (c.args.self.now.away home)

pub turn-requires-clause-leans : goal.turn-requires-clause-leans
turn-requires-clause-leans g c = λ w told n leans. making_leans g.B.Plans.plans c.args.self.now.seat.now.view w n told leans

pub returns-clause-same : goal.returns-clause-same
returns-clause-same g c = still_kept _ _ c.turn.ensures.same.1 c.turn.ensures.errand
