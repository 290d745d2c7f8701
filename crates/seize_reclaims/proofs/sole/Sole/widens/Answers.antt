use Rattle.std.proofs.Common.{refl, sym, ◌∙◌}
use Rattle.seize_seats.specs.Seats.State.{Allows, Owns}
use Rattle.seize_words.specs.OneMemory.Op.{Room, Roomed}
use Rattle.seize.specs.declared.rows.register.Registering.TheVariants.{Widen}
use Rattle.seize_views.specs.Views.Begun.{seeker_at}
use Rattle.seize_reclaims.specs.declared.alone.Alone.TheVariants.{Registers}
use Rattle.seize_reclaims.proofs.Empties.Seeking.{widened, stays}
use Rattle.seize_reclaims.proofs.Empties.Steps.{can_make}
use Rattle.seize_reclaims.proofs.sole.Sole.widens.Goals as goal

pub room-requires : goal.room-requires
room-requires g c =
    let x = c.args.self.now in
    can_make g.T.Defers.defers g.R.Leftovers.left (λ m. m.blocks) (λ m. m.seat.view) g.R.One.acts g.R.One.all g.R.One.none g.R.One.beside g.R.Rule.then
    (λ m. Owns (g.R.Rule.holds m.blocks.now.words.fixed) g.R.Rule.keeps m.seat.id m.seat.view)
    (λ m op. Allows (g.R.Rule.holds m.blocks.now.words.fixed) g.R.Rule.keeps m.seat.id m.seat.view op (g.R.Rule.then m.seat.view op)) x
    (λ a op is e. c.acts_alone.ensures.goes x.blocks.now.words.fixed x.seat.id x.seat.view a op x.sized is e)
    (Registers (seeker_at c.args.slot (Widen c.args.bucket c.args.seen)) c.args.all.now.batch_size) (Room c.args.bucket) c.requires.seeks.0 refl

pub returns-clause-ends : goal.returns-clause-ends
returns-clause-ends g c = λ yes.
    (widened g.T.Defers.defers g.R.Leftovers.left g.R.One.acts g.R.One.all g.R.One.none g.R.One.beside g.R.Rule.then c.acts_alone.ensures.tells c.args.self.now.seat.view c.room.new.self.seat.view c.args.all.now
    c.args.slot c.args.seen c.args.bucket c.room.result c.requires.needs c.requires.seeks c.room.ensures.1).0 (sym c.is_err.ensures.value ∙ yes)

pub returns-clause-on : goal.returns-clause-on
returns-clause-on g c = λ no.
    (widened g.T.Defers.defers g.R.Leftovers.left g.R.One.acts g.R.One.all g.R.One.none g.R.One.beside g.R.Rule.then c.acts_alone.ensures.tells c.args.self.now.seat.view c.room.new.self.seat.view c.args.all.now
    c.args.slot c.args.seen c.args.bucket c.room.result c.requires.needs c.requires.seeks c.room.ensures.1).1 (sym c.is_err.ensures.value ∙ no)

pub returns-clause-beside : goal.returns-clause-beside
returns-clause-beside g c =
    stays g.T.Defers.defers g.R.Leftovers.left g.R.One.acts g.R.One.all g.R.One.none g.R.One.beside g.R.Rule.then c.acts_alone.ensures.tells c.args.self.now.seat.view c.room.new.self.seat.view c.args.all.now
    (seeker_at c.args.slot (Widen c.args.bucket c.args.seen)) (Room c.args.bucket) (Roomed c.room.result) c.requires.seeks.0 c.room.ensures.1
