use Rattle.seize_seats.specs.Seats.State.{Allows, Owns}
use Rattle.seize_reclaims.proofs.Empties.Steps.{does_at, may_step, has_stepped}
use Rattle.seize_reclaims.proofs.sole.Sole.makes.Goals as goal

pub step_by-requires : goal.step_by-requires
step_by-requires g c =
    let row = c.args.row.now in let x = c.args.self.now in
    may_step g.T.Defers.defers g.R.Leftovers.left (λ m. m.blocks) (λ m. m.seat.view) g.R.One.acts g.R.One.all g.R.One.none g.R.One.beside g.R.Rule.then
    (λ m. Owns (g.R.Rule.holds m.blocks.now.words.fixed) g.R.Rule.keeps m.seat.id m.seat.view)
    (λ m op. Allows (g.R.Rule.holds m.blocks.now.words.fixed) g.R.Rule.keeps m.seat.id m.seat.view op (g.R.Rule.then m.seat.view op))
    c.acts_alone.ensures.tells x
    (λ a op is e. c.acts_alone.ensures.goes x.blocks.now.words.fixed x.seat.id x.seat.view a op x.sized is e)
    row c.requires.under (does_at g.T.Defers.defers g.R.Leftovers.left row row.stands c.requires.not c.requires.makes)

pub returns-in_default : goal.returns-in_default
returns-in_default g c =
    let row = c.args.row.now in let x = c.args.self.now in let k =
    has_stepped g.T.Defers.defers g.R.Leftovers.left (λ m. m.blocks) (λ m. m.seat.view) g.R.One.acts g.R.One.all g.R.One.none g.R.One.beside g.R.Rule.then
    (λ m. Owns (g.R.Rule.holds m.blocks.now.words.fixed) g.R.Rule.keeps m.seat.id m.seat.view)
    (λ m op. Allows (g.R.Rule.holds m.blocks.now.words.fixed) g.R.Rule.keeps m.seat.id m.seat.view op (g.R.Rule.then m.seat.view op))
    c.acts_alone.ensures.tells x
    (λ a op is e. c.acts_alone.ensures.goes x.blocks.now.words.fixed x.seat.id x.seat.view a op x.sized is e)
    row c.requires.under (does_at g.T.Defers.defers g.R.Leftovers.left row row.stands c.requires.not c.requires.makes)
    c.step_by.new.memory (c.step_by.new.self, c.step_by.result) c.step_by.ensures in
    record { under = k.0; falls = k.1; beside = k.3; blocks = k.2 }

pub returns-in-Gave : goal.returns-in-Gave
returns-in-Gave g c =
    let row = c.args.row.now in let x = c.args.self.now in let k =
    has_stepped g.T.Defers.defers g.R.Leftovers.left (λ m. m.blocks) (λ m. m.seat.view) g.R.One.acts g.R.One.all g.R.One.none g.R.One.beside g.R.Rule.then
    (λ m. Owns (g.R.Rule.holds m.blocks.now.words.fixed) g.R.Rule.keeps m.seat.id m.seat.view)
    (λ m op. Allows (g.R.Rule.holds m.blocks.now.words.fixed) g.R.Rule.keeps m.seat.id m.seat.view op (g.R.Rule.then m.seat.view op))
    c.acts_alone.ensures.tells x
    (λ a op is e. c.acts_alone.ensures.goes x.blocks.now.words.fixed x.seat.id x.seat.view a op x.sized is e)
    row c.requires.under (does_at g.T.Defers.defers g.R.Leftovers.left row row.stands c.requires.not c.requires.makes)
    c.step_by.new.memory (c.step_by.new.self, c.step_by.result) c.step_by.ensures in
    record { under = k.0; falls = k.1; beside = k.3; blocks = k.2 }
