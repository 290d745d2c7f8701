use Rattle.std.proofs.Common.{◌≡◌, sym, subst, ◌∙◌}
use Rattle.map_straight.specs.Straight.Looking.{looks}
use Rattle.threads_rule.specs.Errands.Looking.{HasLooked, HasProgressed, LooksFor, StaysThere, found_of}
use Rattle.threads_rule.specs.declared.view.View.{View}
use Rattle.seize_callers.proofs.Keeping.{kept_same}
use Rattle.threads_steps.proofs.finding.goes_on.Goals as goal

pub goes_through-requires : goal.goes_through-requires
goes_through-requires g c =
    let was = c.new-within.ensures.seat in
    let before : c.args.seat.now.view ≡ c.new-within.result.seat.now.view = cc was in record {
      looks =
          subst (λ (v : View g.row.K.Denot g.row.V.Denot g.row.S.Denot). LooksFor (g.Q.Equivalent.stands_for c.args.key.now) (looks c.args.root c.args.mode c.args.hash c.args.stands) v) before c.requires.looks;
    }

-- the seat is the one that was lent
pub returns-clause-same : goal.returns-clause-same
returns-clause-same g c =
    let s = kept_same _ _ _ _ _ _ _ _ c.goes_through.ensures.same in
    let blocks = s.0 in let name = s.1 in let id = s.2 in let away = s.3 in
    let is = c.seat-1.given.1 (sym (name ∙ c.new-within.ensures.name)) in
    let was = c.new-within.ensures.seat in let own = c.goes_through.new.self.own in let first = c.new-within.result.own in
    (cc (is, own, blocks, first, was), cc (is, id, was), cc (is, away, was))

pub returns-clause-looked : goal.returns-clause-looked
returns-clause-looked g c =
    let s = kept_same _ _ _ _ _ _ _ _ c.goes_through.ensures.same in
    let is = c.seat-1.given.1 (sym (s.1 ∙ c.new-within.ensures.name)) in
    let after : c.goes_through.new.self.seat.now.view ≡ c.seat-1.given.0.view = cc is in
    subst (λ (w : View g.row.K.Denot g.row.V.Denot g.row.S.Denot). HasLooked g.K.PartialEq.eq (g.Q.Equivalent.stands_for c.args.key.now) c.goes_through.result w) after c.goes_through.ensures.looked

pub returns-clause-told : goal.returns-clause-told
returns-clause-told g c =
    let s = kept_same _ _ _ _ _ _ _ _ c.goes_through.ensures.same in
    let is = c.seat-1.given.1 (sym (s.1 ∙ c.new-within.ensures.name)) in
    let was = c.new-within.ensures.seat in
    let before : c.new-within.result.seat.now.view ≡ c.args.seat.now.view = cc was in
    let after : c.goes_through.new.self.seat.now.view ≡ c.seat-1.given.0.view = cc is in
    subst (λ (v : View g.row.K.Denot g.row.V.Denot g.row.S.Denot). HasProgressed (found_of c.goes_through.result) v c.seat-1.given.0.view) before
    (subst (λ (w : View g.row.K.Denot g.row.V.Denot g.row.S.Denot). HasProgressed (found_of c.goes_through.result) c.new-within.result.seat.now.view w) after c.goes_through.ensures.told)

pub returns-clause-stays : goal.returns-clause-stays
returns-clause-stays g c =
    let s = kept_same _ _ _ _ _ _ _ _ c.goes_through.ensures.same in
    let is = c.seat-1.given.1 (sym (s.1 ∙ c.new-within.ensures.name)) in
    let was = c.new-within.ensures.seat in
    let before : c.new-within.result.seat.now.view ≡ c.args.seat.now.view = cc was in
    let after : c.goes_through.new.self.seat.now.view ≡ c.seat-1.given.0.view = cc is in
    subst (λ (v : View g.row.K.Denot g.row.V.Denot g.row.S.Denot). StaysThere v c.seat-1.given.0.view) before
    (subst (λ (w : View g.row.K.Denot g.row.V.Denot g.row.S.Denot). StaysThere c.new-within.result.seat.now.view w) after c.goes_through.ensures.stays)
