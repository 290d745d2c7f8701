use Rattle.std.proofs.Common.{sym, ap, ◌∙◌}
use Rattle.papaya_raw.specs.declared.machines.machine.Machine.{Machine}
use Rattle.threads_rule.specs.Views.Begun.{asked}
use Rattle.threads_rule.specs.declared.view.SeatWork.TheVariants.{Calls}
use Rattle.seize_callers.proofs.Keeping.{still_kept}
use Rattle.threads_rule.proofs.Errands.Beginnings.{asked_leans, may_ask}
use Rattle.threads_steps.proofs.within.Within.asks_as.Goals as goal

pub turn-requires-clause-may : goal.turn-requires-clause-may
turn-requires-clause-may g c =
    let x = c.args.self.now in
    may_ask g.K.PartialEq.eq g.S.Hashes.hash x.blocks.now.words.fixed x.seat.now.id x.seat.now.view c.requires.knows.0 g.B.Asks.machine c.requires.knows.1
    (c.requires.works ∙ ap (λ (m : Machine g.row.K.Denot g.row.V.Denot g.row.K.Denot). Calls m) (sym c.requires.machine))

pub turn-requires-clause-errand : goal.turn-requires-clause-errand
turn-requires-clause-errand g c = λ home rests w so. absurd (c.args.self.now.away home)

pub turn-requires-clause-leans : goal.turn-requires-clause-leans
turn-requires-clause-leans g c = λ w told n leans. asked_leans g.B.Asks.machine c.args.self.now.seat.now.view w n told.1 leans

pub returns-clause-asked : goal.returns-clause-asked
returns-clause-asked g c =
    c.turn.ensures.goes.1 ∙ ap (λ (m : Machine g.row.K.Denot g.row.V.Denot g.row.K.Denot). asked c.args.self.now.seat.now.view m) c.requires.machine

pub returns-clause-same : goal.returns-clause-same
returns-clause-same g c = still_kept _ _ c.turn.ensures.same.1 c.turn.ensures.errand
