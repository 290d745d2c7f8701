use Rattle.std.specs.Prelude.{◌≡◌, ℕ, Some, None, IfSome}
use Rattle.std.proofs.Common.{subst, sym, ap, ◌∙◌}
use Rattle.seize_seats.specs.Seats.Errands.{Away, Lends}
use Rattle.seize_views.specs.declared.view.Fixed.{Fixed}
use Rattle.threads_errands.specs.Given.ViewsDeclared.view.View.{View}
use Rattle.threads_callers.specs.Passing.{IsLentBy}
use Rattle.threads_callers.proofs.Passing.{leans_so, may_lean, may_look_under, stands_under, found_under, comes_back}
use Rattle.threads_callers.proofs.caller.pass.FindsByErrandWithNodeOfMaps.run.Goals as goal

pub learn-requires-clause-own : goal.learn-requires-clause-own
learn-requires-clause-own g c = (c.requires.0, c.requires.1.3.2 ∙ c.requires.0)

pub learn-requires-clause-may : goal.learn-requires-clause-may
learn-requires-clause-may g c =
    let asks = c.requires.1.3 in let k = c.args.self.guard.now in let s = c.args.seat.now in
    may_lean g.K.PartialEq.eq g.S.Hashes.hash c.args.blocks.now.words.fixed (c.leanings_begin.ensures.begin g.K.PartialEq.eq g.S.Hashes.hash) s.id k.id s.view k.view
    (g.Q.Equivalent.stands_for c.args.self.key.now) c.args.self.lookup asks.7 asks.4 asks.6

pub learn-requires-clause-errand : goal.learn-requires-clause-errand
learn-requires-clause-errand g c = λ home rests w told. absurd (subst (λ (e : Away). Lends e c.requires.1.0) home c.requires.1.2)

-- it is lent to this errand
pub learn-requires-clause-leans : goal.learn-requires-clause-leans
learn-requires-clause-leans g c = λ w told n leans.
    leans_so c.args.seat.now.view w (Some (c.args.self.guard.now.id, told.0)) n told.2
    (λ (here : c.args.self.guard.now.id ≡ n). subst (λ (k : ℕ). Lends c.args.seat.now.away k) (sym c.requires.1.3.3 ∙ here) c.requires.1.2) leans

-- on the way, and as it has come back
pub run-found-requires : goal.run-found-requires
run-found-requires g c =
    let asks = c.requires.1.3 in let k = c.args.self.guard.now in let s = c.args.seat.now in (
      c.learn.ensures.same.0 ∙ c.requires.0,
      (λ home. subst (λ (e : Away). Lends e c.requires.1.0) (sym c.learn.ensures.errand ∙ home) c.requires.1.2),
      may_look_under g.S.Hashes.hash (g.Q.Equivalent.stands_for c.args.self.key.now) c.args.self.lookup k.view s.view c.learn.new.seat.view k.id asks.4 asks.6 c.learn.ensures.goes asks.7 asks.5,
    )

pub lent-pair-requires : goal.lent-pair-requires
lent-pair-requires g c =
    let asks = c.requires.1.3 in let k = c.args.self.guard.now in let s = c.args.seat.now in let has = c.run-found.ensures.3 in record {
      own = (c.run-found.ensures.0 ∙ c.learn.ensures.same.0 ∙ sym asks.0, asks.2 ∙ sym asks.0);
      under = (
        c.learn.ensures.goes.0,
        (stands_under g.S.Hashes.hash (g.Q.Equivalent.stands_for c.args.self.key.now) c.args.self.lookup k.view s.view c.learn.new.seat.view k.id asks.4 asks.6 c.learn.ensures.goes g.K.PartialEq.eq
            c.run-found.result c.run-found.new.seat.view has).0,
      );
      map = asks.5 ∙ sym (has.stays.map ∙ ap (λ (x : View g.row.K.Denot g.row.V.Denot g.row.S.Denot). x.map) c.learn.ensures.goes.2);
      looked = has.looked;
    }

pub turn-requires-clause-own : goal.turn-requires-clause-own
turn-requires-clause-own g c = c.run-found.ensures.0 ∙ c.learn.ensures.same.0 ∙ c.requires.0

pub turn-requires-clause-may : goal.turn-requires-clause-may
turn-requires-clause-may g c =
    let asks = c.requires.1.3 in let k = c.args.self.guard.now in let s = c.args.seat.now in let n = c.run-found.new.seat in let has = c.run-found.ensures.3 in
    c.leanings_begin.ensures.end g.K.PartialEq.eq g.S.Hashes.hash c.args.blocks.now.words.fixed n.id n.view
    ((stands_under g.S.Hashes.hash (g.Q.Equivalent.stands_for c.args.self.key.now) c.args.self.lookup k.view s.view c.learn.new.seat.view k.id asks.4 asks.6 c.learn.ensures.goes g.K.PartialEq.eq
    c.run-found.result n.view has).1 ∙ asks.7.rests) has.looked.free

pub turn-requires-clause-errand : goal.turn-requires-clause-errand
turn-requires-clause-errand g c = λ home rests w so.
    absurd (subst (λ (e : Away). Lends e c.requires.1.0) (sym c.learn.ensures.errand ∙ sym c.run-found.ensures.2 ∙ home) c.requires.1.2)

pub turn-requires-clause-leans : goal.turn-requires-clause-leans
turn-requires-clause-leans g c = λ w so n leans. leans_so c.run-found.new.seat.view w None n so (λ none. absurd none) leans

pub returns : goal.returns
returns g c =
    let asks = c.requires.1.3 in let k = c.args.self.guard.now in let s = c.args.seat.now in let n = c.run-found.new.seat in let has = c.run-found.ensures.3 in
    let found =
    found_under g.S.Hashes.hash (g.Q.Equivalent.stands_for c.args.self.key.now) c.args.self.lookup k.view s.view c.learn.new.seat.view k.id asks.4 asks.6 c.learn.ensures.goes g.K.PartialEq.eq asks.5
    n.view c.turn.new.seat.view c.turn.ensures.goes c.args.blocks.now.words.fixed n.id c.run-found.result has (λ pair. (pair.0.now, pair.1.now)) c.lent-pair.result
    (subst (λ (f : Fixed). IfSome c.lent-pair.result (λ pair. (word : ℕ) × (c.run-found.result ≡ Some word) × IsLentBy g.K.PartialEq.eq g.S.Hashes.hash f n.id n.view k.id k.view word (pair.0.now, pair.1.now))) asks.1
    c.lent-pair.ensures.lent) c.lent-pair.ensures.none in (
      c.turn.ensures.same.0 ∙ c.run-found.ensures.0 ∙ c.learn.ensures.same.0,
      c.turn.ensures.same.1 ∙ c.run-found.ensures.1 ∙ c.learn.ensures.same.1,
      c.turn.ensures.errand ∙ c.run-found.ensures.2 ∙ c.learn.ensures.errand,
      (
        comes_back g.S.Hashes.hash (g.Q.Equivalent.stands_for c.args.self.key.now) c.args.self.lookup k.view s.view c.learn.new.seat.view k.id asks.4 asks.6 c.learn.ensures.goes g.K.PartialEq.eq
            c.run-found.result n.view c.turn.new.seat.view asks.7 has c.turn.ensures.goes,
        found.0,
        found.1,
      ),
    )
