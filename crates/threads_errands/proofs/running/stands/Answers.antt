use Rattle.std.proofs.Common.{◌≡◌, sym, subst, ◌∙◌}
use Rattle.threads_steps.specs.Given.ByKey.{by_key}
use Rattle.threads_steps.specs.Given.ViewsDeclared.view.View.{View}
use Rattle.threads_steps.proofs.Given.Keeping.{kept_same}
use Rattle.threads_errands.specs.Ahead.{LiesAhead, StandsAt}
use Rattle.threads_errands.proofs.running.stands.Goals as goal

pub stands-requires : goal.stands-requires
stands-requires g c =
    let was = c.new-ahead.ensures.seat in
    let before : c.args.seat.now.view ≡ c.new-ahead.result.seat.now.view = cc was in record {
      ahead = subst (λ (v : View g.row.K.Denot g.row.V.Denot g.row.S.Denot). LiesAhead g.K.PartialEq.eq g.S.Hashes.hash c.args.hasher.now (by_key g.Q.Equivalent.stands_for c.args.machine.now) v) before c.requires.ahead;
    }

-- the seat is the one that was lent
pub returns-clause-same : goal.returns-clause-same
returns-clause-same g c =
    let s = kept_same _ _ _ _ _ _ _ _ c.stands.ensures.same in
    let blocks = s.0 in let name = s.1 in let id = s.2 in let away = s.3 in
    let is = c.seat-1.given.1 (sym (name ∙ c.new-ahead.ensures.name)) in
    let was = c.new-ahead.ensures.seat in let own = c.stands.new.self.own in let first = c.new-ahead.result.own in
    (cc (is, own, blocks, first, was), cc (is, id, was), cc (is, away, was))

pub returns-clause-stands : goal.returns-clause-stands
returns-clause-stands g c =
    let s = kept_same _ _ _ _ _ _ _ _ c.stands.ensures.same in
    let is = c.seat-1.given.1 (sym (s.1 ∙ c.new-ahead.ensures.name)) in
    let was = c.new-ahead.ensures.seat in
    let before : c.new-ahead.result.seat.now.view ≡ c.args.seat.now.view = cc was in
    let after : c.stands.new.self.seat.now.view ≡ c.seat-1.given.0.view = cc is in
    subst (λ (v : View g.row.K.Denot g.row.V.Denot g.row.S.Denot). StandsAt (by_key g.Q.Equivalent.stands_for c.args.machine.now) v c.seat-1.given.0.view) before
    (subst (λ (w : View g.row.K.Denot g.row.V.Denot g.row.S.Denot). StandsAt (by_key g.Q.Equivalent.stands_for c.args.machine.now) c.new-ahead.result.seat.now.view w) after c.stands.ensures.stands)
