use Rattle.std.proofs.Common.{refl, sym, ◌∙◌}
use Rattle.seize_seats.specs.Seats.State.{Allows, Owns}
use Rattle.seize_words.specs.OneMemory.Op.{Load, Found}
use Rattle.seize_words.specs.declared.at.At.TheVariants.{Slot}
use Rattle.seize.specs.declared.states.TheConstants.{HEAD}
use Rattle.seize.specs.declared.rows.register.Registering.TheVariants.{Look}
use Rattle.seize_views.specs.Views.Begun.{seeker_at}
use Rattle.seize_reclaims.specs.declared.alone.Alone.TheVariants.{Registers}
use Rattle.seize_reclaims.proofs.Empties.Seeking.{seen_needs, seen_free, seen_taken, free_head, taken_head, stays}
use Rattle.seize_reclaims.proofs.Empties.Steps.{can_make}
use Rattle.seize_reclaims.proofs.sole.Sole.tries.Goals as goal

pub load-seen-requires : goal.load-seen-requires
load-seen-requires g c =
    let x = c.args.self.now in
    can_make g.T.Defers.defers g.R.Leftovers.left (λ m. m.blocks) (λ m. m.seat.view) g.R.One.acts g.R.One.all g.R.One.none g.R.One.beside g.R.Rule.then
    (λ m. Owns (g.R.Rule.holds m.blocks.now.words.fixed) g.R.Rule.keeps m.seat.id m.seat.view)
    (λ m op. Allows (g.R.Rule.holds m.blocks.now.words.fixed) g.R.Rule.keeps m.seat.id m.seat.view op (g.R.Rule.then m.seat.view op)) x
    (λ a op is e. c.acts_alone.ensures.goes x.blocks.now.words.fixed x.seat.id x.seat.view a op x.sized is e)
    (Registers (seeker_at c.args.slot Look) c.args.all.now.batch_size) (Load (Slot c.args.slot HEAD)) c.requires.seeks.0 refl

pub returns-then-seen-ne-FREE-clause-on : goal.returns-then-seen-ne-FREE-clause-on
returns-then-seen-ne-FREE-clause-on g c = λ _.
    seen_taken g.T.Defers.defers g.R.Leftovers.left g.R.One.acts g.R.One.all g.R.One.none g.R.One.beside g.R.Rule.then c.acts_alone.ensures.tells c.args.self.now.seat.view c.load-seen.new.self.seat.view c.args.all.now c.args.slot c.load-seen.result
    (taken_head c.load-seen.result c.if-seen-ne-NEVER.true c.if-seen-ne-FREE.true) c.requires.seeks c.load-seen.ensures.1

pub returns-then-seen-ne-FREE-clause-beside : goal.returns-then-seen-ne-FREE-clause-beside
returns-then-seen-ne-FREE-clause-beside g c =
    (stays g.T.Defers.defers g.R.Leftovers.left g.R.One.acts g.R.One.all g.R.One.none g.R.One.beside g.R.Rule.then c.acts_alone.ensures.tells c.args.self.now.seat.view c.load-seen.new.self.seat.view c.args.all.now
    (seeker_at c.args.slot Look) (Load (Slot c.args.slot HEAD)) (Found c.load-seen.result) c.requires.seeks.0 c.load-seen.ensures.1)

pub widens-requires-clause-seeks : goal.widens-requires-clause-seeks
widens-requires-clause-seeks g c =
    seen_needs g.T.Defers.defers g.R.Leftovers.left g.R.One.acts g.R.One.all g.R.One.none g.R.One.beside g.R.Rule.then c.acts_alone.ensures.tells c.args.self.now.seat.view c.load-seen.new.self.seat.view c.args.all.now c.args.slot c.load-seen.result c.in-Some.bucket
    (sym c.in-Some.is ∙ c.needed_bucket.ensures) (free_head c.load-seen.result c.else-seen-ne-NEVER.either) c.requires.seeks c.load-seen.ensures.1

pub occupies-requires-in-None : goal.occupies-requires-in-None
occupies-requires-in-None g c =
    seen_free g.T.Defers.defers g.R.Leftovers.left g.R.One.acts g.R.One.all g.R.One.none g.R.One.beside g.R.Rule.then c.acts_alone.ensures.tells c.args.self.now.seat.view c.load-seen.new.self.seat.view c.args.all.now c.args.slot c.load-seen.result
    (sym c.needed_bucket.ensures ∙ c.in-None.is) (free_head c.load-seen.result c.else-seen-ne-NEVER.either) c.requires.seeks c.load-seen.ensures.1

pub returns-then-widens-clause-beside : goal.returns-then-widens-clause-beside
returns-then-widens-clause-beside g c =
    c.widens.ensures.beside ∙ (stays g.T.Defers.defers g.R.Leftovers.left g.R.One.acts g.R.One.all g.R.One.none g.R.One.beside g.R.Rule.then c.acts_alone.ensures.tells c.args.self.now.seat.view c.load-seen.new.self.seat.view c.args.all.now
    (seeker_at c.args.slot Look) (Load (Slot c.args.slot HEAD)) (Found c.load-seen.result) c.requires.seeks.0 c.load-seen.ensures.1)

pub returns-else-widens-clause-beside : goal.returns-else-widens-clause-beside
returns-else-widens-clause-beside g c =
    c.occupies.ensures.beside ∙ c.widens.ensures.beside ∙ (stays g.T.Defers.defers g.R.Leftovers.left g.R.One.acts g.R.One.all g.R.One.none g.R.One.beside g.R.Rule.then c.acts_alone.ensures.tells c.args.self.now.seat.view c.load-seen.new.self.seat.view c.args.all.now
    (seeker_at c.args.slot Look) (Load (Slot c.args.slot HEAD)) (Found c.load-seen.result) c.requires.seeks.0 c.load-seen.ensures.1)

pub returns-in-None-clause-beside : goal.returns-in-None-clause-beside
returns-in-None-clause-beside g c =
    c.occupies-in-None.ensures.beside ∙ (stays g.T.Defers.defers g.R.Leftovers.left g.R.One.acts g.R.One.all g.R.One.none g.R.One.beside g.R.Rule.then c.acts_alone.ensures.tells c.args.self.now.seat.view c.load-seen.new.self.seat.view c.args.all.now
    (seeker_at c.args.slot Look) (Load (Slot c.args.slot HEAD)) (Found c.load-seen.result) c.requires.seeks.0 c.load-seen.ensures.1)
