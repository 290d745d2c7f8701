use Rattle.std.proofs.Common.{◌≡◌, ℕ, sym, subst, ◌∙◌, inr}
use Rattle.seize_seats.specs.Seats.Errands.{Away, Lends}
use Rattle.seize_words.specs.OneMemory.Word.{block_in}
use Rattle.std.specs.Prelude.{IfSome}
use Rattle.seize_seats.specs.Seats.Lendings.{IsValueOf}
use Rattle.seize_views.specs.Views.Notes.{NotedHolds}
use Rattle.seize_views.specs.Views.Rows.{IsQuiescent}
use Rattle.seize_views.specs.declared.view.Fixed.{Fixed}
use Rattle.seize_views.specs.Views.Watched.{LeansOn}
use Rattle.seize_views.specs.declared.view.SlotView.{SlotView}
use Rattle.seize_views.specs.declared.view.SlotView.TheVariants.{Under}
use Rattle.seize_views.proofs.Views.Passing.{leanings_begin, leanings_end}
use Rattle.seize_callers.proofs.caller.pass.ProtectsErrandWithOfRows.run.Given as given
use Rattle.seize_callers.proofs.caller.pass.ProtectsErrandWithOfRows.run.Goals as goal
use Rattle.seize_callers.proofs.caller.pass.ProtectsErrandWithOfRows.run.Goals.{After-learn, After-finds-word}

pub learn-requires-clause-own : goal.learn-requires-clause-own
learn-requires-clause-own g c = (c.requires.0, c.requires.1.3.2 ∙ c.requires.0)

pub learn-requires-clause-may : goal.learn-requires-clause-may
learn-requires-clause-may g c =
    let asks = c.requires.1.3 in let k = c.args.self.guard.now in let s = c.args.seat.now in
    leanings_begin g.row.T.Denot g.T.Defers.defers c.args.blocks.now.words.fixed s.id k.id asks.4.0 s.view k.view asks.6 asks.4.1

pub learn-requires-clause-errand : goal.learn-requires-clause-errand
learn-requires-clause-errand g c = λ home rests w told. absurd (subst (λ (e : Away). Lends e c.requires.1.0) home c.requires.1.2)

-- it is lent to this errand
pub learn-requires-clause-leans : goal.learn-requires-clause-leans
learn-requires-clause-leans g c = λ w told n leans.
    let asks = c.requires.1.3 in
    let here : c.args.self.guard.now.id ≡ n = subst (λ (x : SlotView g.row.T.Denot). LeansOn x n) (told asks.4.0 asks.4.1).0 leans in
    inr (subst (λ (k : ℕ). Lends c.args.seat.now.away k) (sym asks.3 ∙ here) c.requires.1.2)

under : (g : given.Over) (c : After-learn g) → c.learn.new.seat.view.knows ≡ Under c.args.self.guard.now.id c.requires.1.3.4.0 0
under g c = (c.learn.ensures.goes c.requires.1.3.4.0 c.requires.1.3.4.1).0

pub finds-word-requires-clause-own : goal.finds-word-requires-clause-own
finds-word-requires-clause-own g c = c.learn.ensures.same.0 ∙ c.requires.0

pub finds-word-requires-clause-under : goal.finds-word-requires-clause-under
finds-word-requires-clause-under g c =
    (c.args.self.guard.now.id, c.requires.1.3.4.0, 0, under g (goal.at.finds-word-requires-clause-under g c).After-learn)

pub finds-word-requires-clause-there : goal.finds-word-requires-clause-there
finds-word-requires-clause-there g c = c.requires.1.3.5

pub finds-word-requires-clause-small : goal.finds-word-requires-clause-small
finds-word-requires-clause-small g c = c.requires.1.3.7

-- what it knows then
found : (g : given.Over) (c : After-finds-word g)
    → c.finds-word.new.seat.view.knows ≡ Under c.args.self.guard.now.id c.requires.1.3.4.0 (block_in c.finds-word.result)
found g c =
    let asks = c.requires.1.3 in
    c.finds-word.ensures.found c.args.self.guard.now.id asks.4.0 0 (c.learn.ensures.goes asks.4.0 asks.4.1).0

pub lent-value-requires-clause-own : goal.lent-value-requires-clause-own
lent-value-requires-clause-own g c =
    let asks = c.requires.1.3 in (
      c.finds-word.ensures.same.0 ∙ c.learn.ensures.same.0 ∙ sym asks.0,
      asks.2 ∙ sym asks.0,
    )

pub lent-value-requires-clause-under : goal.lent-value-requires-clause-under
lent-value-requires-clause-under g c = (c.requires.1.3.4.0, found g (goal.at.lent-value-requires-clause-under g c).After-finds-word)

pub turn-requires-clause-own : goal.turn-requires-clause-own
turn-requires-clause-own g c = c.finds-word.ensures.same.0 ∙ c.learn.ensures.same.0 ∙ c.requires.0

pub turn-requires-clause-may : goal.turn-requires-clause-may
turn-requires-clause-may g c =
    let s = c.finds-word.new.seat in
    leanings_end g.row.T.Denot g.T.Defers.defers c.args.blocks.now.words.fixed s.id c.args.self.guard.now.id c.requires.1.3.4.0 (block_in c.finds-word.result) s.view
    (found g (goal.at.turn-requires-clause-may g c).After-finds-word)

pub turn-requires-clause-errand : goal.turn-requires-clause-errand
turn-requires-clause-errand g c = λ home rests w so. subst IsQuiescent (sym so.0) tt

pub turn-requires-clause-leans : goal.turn-requires-clause-leans
turn-requires-clause-leans g c = λ w so n leans. absurd (subst (λ (x : SlotView g.row.T.Denot). LeansOn x n) so.0 leans)

pub returns : goal.returns
returns g c =
    let asks = c.requires.1.3 in let guard = c.args.self.guard.now in let block = block_in c.finds-word.result in (
      c.turn.ensures.same.0 ∙ c.finds-word.ensures.same.0 ∙ c.learn.ensures.same.0,
      c.turn.ensures.same.1 ∙ c.finds-word.ensures.same.1 ∙ c.learn.ensures.same.1,
      c.turn.ensures.errand ∙ c.finds-word.ensures.same.2 ∙ c.learn.ensures.errand,
      (
        c.turn.ensures.goes.0,
        c.turn.ensures.goes.1.0 ∙ c.finds-word.ensures.did,
        subst (λ (f : Fixed). IfSome c.lent-value.result (λ value. IsValueOf (NotedHolds g.T.Defers.defers f) guard.id guard.view block value.now)) asks.1 c.lent-value.ensures.lent,
        c.lent-value.ensures.none,
      ),
    )
