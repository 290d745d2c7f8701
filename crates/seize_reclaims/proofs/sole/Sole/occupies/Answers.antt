use Rattle.std.proofs.Common.{refl, sym, ◌∙◌}
use Rattle.seize_seats.specs.Seats.State.{Allows, Owns}
use Rattle.seize_words.specs.OneMemory.Op.{Exchange, Exchanged}
use Rattle.seize_words.specs.declared.at.At.TheVariants.{Slot}
use Rattle.seize.specs.declared.states.TheConstants.{HEAD, IDLE}
use Rattle.seize.specs.declared.rows.register.Registering.TheVariants.{Take}
use Rattle.seize_views.specs.Views.Begun.{seeker_at}
use Rattle.seize_reclaims.specs.declared.alone.Alone.TheVariants.{Registers}
use Rattle.seize_reclaims.proofs.Empties.Seeking.{occupied, stays}
use Rattle.seize_reclaims.proofs.Empties.Steps.{can_make}
use Rattle.seize_reclaims.proofs.sole.Sole.occupies.Goals as goal

pub exchange-requires : goal.exchange-requires
exchange-requires g c =
    let x = c.args.self.now in
    can_make g.T.Defers.defers g.R.Leftovers.left (λ m. m.blocks) (λ m. m.seat.view) g.R.One.acts g.R.One.all g.R.One.none g.R.One.beside g.R.Rule.then
    (λ m. Owns (g.R.Rule.holds m.blocks.now.words.fixed) g.R.Rule.keeps m.seat.id m.seat.view)
    (λ m op. Allows (g.R.Rule.holds m.blocks.now.words.fixed) g.R.Rule.keeps m.seat.id m.seat.view op (g.R.Rule.then m.seat.view op)) x
    (λ a op is e. c.acts_alone.ensures.goes x.blocks.now.words.fixed x.seat.id x.seat.view a op x.sized is e)
    (Registers (seeker_at c.args.slot (Take c.args.seen)) c.args.all.now.batch_size) (Exchange (Slot c.args.slot HEAD) c.args.seen IDLE) c.requires.0 refl

pub returns-clause-ends : goal.returns-clause-ends
returns-clause-ends g c = λ yes.
    (occupied g.T.Defers.defers g.R.Leftovers.left g.R.One.acts g.R.One.all g.R.One.none g.R.One.beside g.R.Rule.then c.acts_alone.ensures.tells c.args.self.now.seat.view c.exchange.new.self.seat.view c.args.all.now
    c.args.slot c.args.seen c.exchange.result c.requires c.exchange.ensures.1).0 (sym c.is_ok.ensures.value ∙ yes)

pub returns-clause-on : goal.returns-clause-on
returns-clause-on g c = λ no.
    (occupied g.T.Defers.defers g.R.Leftovers.left g.R.One.acts g.R.One.all g.R.One.none g.R.One.beside g.R.Rule.then c.acts_alone.ensures.tells c.args.self.now.seat.view c.exchange.new.self.seat.view c.args.all.now
    c.args.slot c.args.seen c.exchange.result c.requires c.exchange.ensures.1).1 (sym c.is_ok.ensures.value ∙ no)

pub returns-clause-beside : goal.returns-clause-beside
returns-clause-beside g c =
    stays g.T.Defers.defers g.R.Leftovers.left g.R.One.acts g.R.One.all g.R.One.none g.R.One.beside g.R.Rule.then c.acts_alone.ensures.tells c.args.self.now.seat.view c.exchange.new.self.seat.view c.args.all.now
    (seeker_at c.args.slot (Take c.args.seen)) (Exchange (Slot c.args.slot HEAD) c.args.seen IDLE) (Exchanged c.exchange.result) c.requires.0 c.exchange.ensures.1
