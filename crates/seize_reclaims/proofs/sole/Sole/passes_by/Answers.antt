use Rattle.seize_reclaims.proofs.Empties.Steps.{turns_at}
use Rattle.seize_reclaims.proofs.sole.Sole.passes_by.Goals as goal

pub turn-requires-clause-may : goal.turn-requires-clause-may
turn-requires-clause-may g c =
    let x = c.args.self.now in let row = c.args.row.now in let u = c.requires.under in
    let k = turns_at g.T.Defers.defers g.R.Leftovers.left row row.stands c.requires.passes in
    c.acts_alone.ensures.turns x.blocks.now.words.fixed x.seat.id x.seat.view row k.0.0 k.0.1 u.0 u.1 x.sized u.2 c.requires.not k.1

pub turn-requires-clause-errand : goal.turn-requires-clause-errand
turn-requires-clause-errand g c = λ home rested w told. c.acts_alone.ensures.rest w

pub turn-requires-clause-leans : goal.turn-requires-clause-leans
turn-requires-clause-leans g c = λ w told n leaning. absurd (c.acts_alone.ensures.aside w n leaning)

pub returns-clause-beside : goal.returns-clause-beside
returns-clause-beside g c = c.turn.ensures.goes.5
