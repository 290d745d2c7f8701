use Rattle.std.proofs.Common.{refl, sym, ◌∙◌}
use Rattle.seize_seats.specs.Seats.State.{Allows, Owns}
use Rattle.seize_words.specs.OneMemory.Op.{Room, Roomed}
use Rattle.seize.specs.declared.rows.register.Registering.TheVariants.{Begin}
use Rattle.seize_views.specs.Views.Begun.{seeker_at}
use Rattle.seize_reclaims.specs.declared.alone.Alone.TheVariants.{Registers}
use Rattle.seize_reclaims.proofs.Empties.Seeking.{has_begun, stays}
use Rattle.seize_reclaims.proofs.Empties.Steps.{can_make}
use Rattle.seize_reclaims.proofs.sole.Sole.begins.Goals as goal

pub room-requires : goal.room-requires
room-requires g c =
    let x = c.args.self.now in
    can_make g.T.Defers.defers g.R.Leftovers.left (λ m. m.blocks) (λ m. m.seat.view) g.R.One.acts g.R.One.all g.R.One.none g.R.One.beside g.R.Rule.then
    (λ m. Owns (g.R.Rule.holds m.blocks.now.words.fixed) g.R.Rule.keeps m.seat.id m.seat.view)
    (λ m op. Allows (g.R.Rule.holds m.blocks.now.words.fixed) g.R.Rule.keeps m.seat.id m.seat.view op (g.R.Rule.then m.seat.view op)) x
    (λ a op is e. c.acts_alone.ensures.goes x.blocks.now.words.fixed x.seat.id x.seat.view a op x.sized is e)
    (Registers (seeker_at 0 Begin) c.args.all.now.batch_size) (Room 0) c.requires.0 refl

pub returns-clause-there : goal.returns-clause-there
returns-clause-there g c = λ yes.
    (has_begun g.T.Defers.defers g.R.Leftovers.left g.R.One.acts g.R.One.all g.R.One.none g.R.One.beside g.R.Rule.then c.acts_alone.ensures.tells c.args.self.now.seat.view c.room.new.self.seat.view c.args.all.now c.room.result c.requires
    c.room.ensures.1).0 (sym c.is_ok.ensures.value ∙ yes)

pub returns-clause-none : goal.returns-clause-none
returns-clause-none g c = λ no.
    (has_begun g.T.Defers.defers g.R.Leftovers.left g.R.One.acts g.R.One.all g.R.One.none g.R.One.beside g.R.Rule.then c.acts_alone.ensures.tells c.args.self.now.seat.view c.room.new.self.seat.view c.args.all.now c.room.result c.requires
    c.room.ensures.1).1 (sym c.is_ok.ensures.value ∙ no)

pub returns-clause-beside : goal.returns-clause-beside
returns-clause-beside g c =
    stays g.T.Defers.defers g.R.Leftovers.left g.R.One.acts g.R.One.all g.R.One.none g.R.One.beside g.R.Rule.then c.acts_alone.ensures.tells c.args.self.now.seat.view c.room.new.self.seat.view c.args.all.now
    (seeker_at 0 Begin) (Room 0) (Roomed c.room.result) c.requires.0 c.room.ensures.1
