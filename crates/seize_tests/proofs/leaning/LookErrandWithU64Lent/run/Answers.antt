use Rattle.std.specs.Prelude.{◌≡◌, ℕ}
use Rattle.std.proofs.Common.{sym, subst, ◌∙◌, inr}
use Rattle.seize_words.specs.OneMemory.Op.{Load, Found}
use Rattle.seize_words.specs.declared.at.At.TheVariants.{Root}
use Rattle.seize_seats.specs.Seats.State.{Allows, Learns, Turns}
use Rattle.seize_seats.specs.Seats.Errands.{Away, Lends}
use Rattle.seize_tests.specs.declared.part.Part.{Part}
use Rattle.seize_tests.specs.declared.part.Part.TheVariants.{Nothing, Looks}
use Rattle.seize_tests.specs.BlocksTests.Leaned.{IsUpright, Leans, IsLeaned, leaned}
use Rattle.seize_tests.proofs.BlocksTests.Leaners.{NoneKept, learns, loads, ends}
use Rattle.seize_tests.proofs.leaning.LookErrandWithU64Lent.run.Goals as goal
use Rattle.seize_tests.proofs.leaning.LookErrandWithU64Lent.run.Goals.{After-load-found}

pub learn-requires-clause-may : goal.learn-requires-clause-may
learn-requires-clause-may c =
    let i = c.args.seat.now.id in let k = c.args.self.keeper.now in let asks = c.requires.1.3 in
    subst (λ (p : Part × Part). Learns IsLeaned NoneKept i p.0 k.id p.1 (λ w. w ≡ Looks k.id)) (λ j. (sym asks.3 j, sym asks.2 j)) (learns i k.id)

pub learn-requires-clause-errand : goal.learn-requires-clause-errand
learn-requires-clause-errand c = λ home rests w told. absurd (subst (λ (e : Away). Lends e c.requires.1.0) home c.requires.1.2)

-- it is lent to this errand
pub learn-requires-clause-leans : goal.learn-requires-clause-leans
learn-requires-clause-leans c = λ w told n leans.
    let here : c.args.self.keeper.now.id ≡ n = subst (λ (x : Part). Leans x n) told leans in
    inr (subst (λ (k : ℕ). Lends c.args.seat.now.away k) (sym c.requires.1.3.1 ∙ here) c.requires.1.2)

pub load-found-requires-clause-may : goal.load-found-requires-clause-may
load-found-requires-clause-may c =
    let s = c.learn.new.seat in let n = c.args.self.keeper.now.id in
    subst (λ (v : Part). Allows IsLeaned NoneKept s.id v (Load (Root 0)) (leaned v (Load (Root 0)))) (sym c.learn.ensures.goes) (loads s.id n)

found : (c : After-load-found) → (c.load-found.result ≡ 1) × (c.load-found.new.seat.view ≡ Looks c.args.self.keeper.now.id)
found c = subst (λ (v : Part). leaned v (Load (Root 0)) (Found c.load-found.result) c.load-found.new.seat.view) c.learn.ensures.goes c.load-found.ensures.goes

pub turn-requires-clause-may : goal.turn-requires-clause-may
turn-requires-clause-may c =
    let s = c.load-found.new.seat in let n = c.args.self.keeper.now.id in let told = found (goal.at.turn-requires-clause-may c).After-load-found in
    subst (λ (v : Part). Turns IsLeaned NoneKept s.id v (λ w. w ≡ Nothing)) (sym told.1) (ends s.id n)

pub turn-requires-clause-errand : goal.turn-requires-clause-errand
turn-requires-clause-errand c = λ home rests w told. subst IsUpright (sym told) tt

pub turn-requires-clause-leans : goal.turn-requires-clause-leans
turn-requires-clause-leans c = λ w told n leans. absurd (subst (λ (x : Part). Leans x n) told leans)

pub returns : goal.returns
returns c =
    let told = found (goal.at.returns c).After-load-found in (
      c.turn.ensures.same.0 ∙ c.load-found.ensures.same.0 ∙ c.learn.ensures.same.0,
      c.turn.ensures.same.1 ∙ c.load-found.ensures.same.1 ∙ c.learn.ensures.same.1,
      c.turn.ensures.errand ∙ c.load-found.ensures.errand ∙ c.learn.ensures.errand,
      (told.0, c.turn.ensures.goes),
    )
