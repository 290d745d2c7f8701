use Rattle.std.proofs.Common.{◌≡◌, sym, subst, ◌∙◌}
use Rattle.threads_steps.specs.Given.ByKey.{key_call}
use Rattle.threads_steps.specs.Given.ViewsDeclared.view.View.{View}
use Rattle.threads_steps.proofs.Given.Keeping.{kept_same}
use Rattle.threads_errands.specs.Ahead.{IsAhead}
use Rattle.threads_steps.specs.Given.ErrandsLooking.{IsOfThem, StaysThere}
use Rattle.threads_errands.proofs.running.copies.Goals as goal

pub helps-requires : goal.helps-requires
helps-requires g c =
    let was = c.new-ahead.ensures.seat in
    let before : c.args.seat.now.view ≡ c.new-ahead.result.seat.now.view = cc was in record {
      ahead = subst (λ (v : View g.row.K.Denot g.row.V.Denot g.row.S.Denot). IsAhead g.K.PartialEq.eq g.S.Hashes.hash c.args.hasher.now (key_call g.Q.Equivalent.stands_for c.args.call.now) v) before c.requires.ahead;
    }

-- the seat is the one that was lent
pub returns-clause-same : goal.returns-clause-same
returns-clause-same g c =
    let s = kept_same _ _ _ _ _ _ _ _ c.helps.ensures.same in
    let blocks = s.0 in let name = s.1 in let id = s.2 in let away = s.3 in
    let is = c.seat-1.given.1 (sym (name ∙ c.new-ahead.ensures.name)) in
    let was = c.new-ahead.ensures.seat in let own = c.helps.new.self.own in let first = c.new-ahead.result.own in
    (cc (is, own, blocks, first, was), cc (is, id, was), cc (is, away, was))

pub returns-clause-ahead : goal.returns-clause-ahead
returns-clause-ahead g c =
    let s = kept_same _ _ _ _ _ _ _ _ c.helps.ensures.same in
    let is = c.seat-1.given.1 (sym (s.1 ∙ c.new-ahead.ensures.name)) in
    let after : c.helps.new.self.seat.now.view ≡ c.seat-1.given.0.view = cc is in
    subst (λ (w : View g.row.K.Denot g.row.V.Denot g.row.S.Denot). IsAhead g.K.PartialEq.eq g.S.Hashes.hash c.args.hasher.now (key_call g.Q.Equivalent.stands_for c.helps.new.call) w) after c.helps.ensures.ahead

pub returns-clause-stays : goal.returns-clause-stays
returns-clause-stays g c =
    let s = kept_same _ _ _ _ _ _ _ _ c.helps.ensures.same in
    let is = c.seat-1.given.1 (sym (s.1 ∙ c.new-ahead.ensures.name)) in
    let was = c.new-ahead.ensures.seat in
    let before : c.new-ahead.result.seat.now.view ≡ c.args.seat.now.view = cc was in
    let after : c.helps.new.self.seat.now.view ≡ c.seat-1.given.0.view = cc is in
    subst (λ (v : View g.row.K.Denot g.row.V.Denot g.row.S.Denot). StaysThere v c.seat-1.given.0.view) before
    (subst (λ (w : View g.row.K.Denot g.row.V.Denot g.row.S.Denot). StaysThere c.new-ahead.result.seat.now.view w) after c.helps.ensures.stays)

pub returns-clause-them : goal.returns-clause-them
returns-clause-them g c =
    let s = kept_same _ _ _ _ _ _ _ _ c.helps.ensures.same in
    let is = c.seat-1.given.1 (sym (s.1 ∙ c.new-ahead.ensures.name)) in
    let was = c.new-ahead.ensures.seat in
    let before : c.new-ahead.result.seat.now.view ≡ c.args.seat.now.view = cc was in
    let after : c.helps.new.self.seat.now.view ≡ c.seat-1.given.0.view = cc is in
    subst (λ (v : View g.row.K.Denot g.row.V.Denot g.row.S.Denot). IsOfThem v c.seat-1.given.0.view) before
    (subst (λ (w : View g.row.K.Denot g.row.V.Denot g.row.S.Denot). IsOfThem c.new-ahead.result.seat.now.view w) after c.helps.ensures.them)

pub returns-clause-back : goal.returns-clause-back
returns-clause-back g c = c.helps.ensures.back
