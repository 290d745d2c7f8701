use Rattle.std.proofs.Common.{◌∙◌}
use Rattle.seize_seats.specs.Seats.State.{Allows, Owns}
use Rattle.seize_reclaims.proofs.Empties.Steps.{may_pass, has_passed}
use Rattle.seize_reclaims.proofs.sole.Sole.skips.Goals as goal

pub step_by-requires : goal.step_by-requires
step_by-requires g c =
    may_pass g.T.Defers.defers g.R.Leftovers.left (λ m. m.blocks) (λ m. m.seat.view) g.R.One.acts g.R.One.all g.R.One.none g.R.One.beside g.R.Rule.then
    (λ m. Owns (g.R.Rule.holds m.blocks.now.words.fixed) g.R.Rule.keeps m.seat.id m.seat.view)
    (λ m op. Allows (g.R.Rule.holds m.blocks.now.words.fixed) g.R.Rule.keeps m.seat.id m.seat.view op (g.R.Rule.then m.seat.view op))
    c.passes_by.new.self c.args.row.now c.args.self.now.seat.view c.requires.under c.passes_by.ensures.passed

pub returns-in_default : goal.returns-in_default
returns-in_default g c =
    let k = has_passed g.T.Defers.defers g.R.Leftovers.left (λ m. m.blocks) (λ m. m.seat.view) g.R.One.acts g.R.One.all g.R.One.none g.R.One.beside g.R.Rule.then
    (λ m. Owns (g.R.Rule.holds m.blocks.now.words.fixed) g.R.Rule.keeps m.seat.id m.seat.view)
    (λ m op. Allows (g.R.Rule.holds m.blocks.now.words.fixed) g.R.Rule.keeps m.seat.id m.seat.view op (g.R.Rule.then m.seat.view op))
    c.passes_by.new.self c.args.row.now c.args.self.now.seat.view c.requires.under c.passes_by.ensures.passed
    c.step_by.new.memory (c.step_by.new.self, c.step_by.result) c.step_by.ensures in
    record { under = k.0; falls = k.1; beside = k.3; blocks = k.2 ∙ c.passes_by.ensures.blocks }

pub returns-in-Gave : goal.returns-in-Gave
returns-in-Gave g c =
    let k = has_passed g.T.Defers.defers g.R.Leftovers.left (λ m. m.blocks) (λ m. m.seat.view) g.R.One.acts g.R.One.all g.R.One.none g.R.One.beside g.R.Rule.then
    (λ m. Owns (g.R.Rule.holds m.blocks.now.words.fixed) g.R.Rule.keeps m.seat.id m.seat.view)
    (λ m op. Allows (g.R.Rule.holds m.blocks.now.words.fixed) g.R.Rule.keeps m.seat.id m.seat.view op (g.R.Rule.then m.seat.view op))
    c.passes_by.new.self c.args.row.now c.args.self.now.seat.view c.requires.under c.passes_by.ensures.passed
    c.step_by.new.memory (c.step_by.new.self, c.step_by.result) c.step_by.ensures in
    record { under = k.0; falls = k.1; beside = k.3; blocks = k.2 ∙ c.passes_by.ensures.blocks }
