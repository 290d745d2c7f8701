use Rattle.std.proofs.Common.{◌≡◌, sym, subst, ◌∙◌}
use Rattle.threads_rule.specs.Errands.Looking.{HasSeen}
use Rattle.threads_rule.specs.declared.view.View.{View}
use Rattle.seize_callers.proofs.Keeping.{kept_same}
use Rattle.threads_steps.proofs.finding.sees.Goals as goal

-- the seat is the one that was lent
pub returns-clause-same : goal.returns-clause-same
returns-clause-same g c =
    let s = kept_same _ _ _ _ _ _ _ _ c.sees.ensures.same in
    let blocks = s.0 in let name = s.1 in let id = s.2 in let away = s.3 in
    let is = c.seat-1.given.1 (sym (name ∙ c.new-within.ensures.name)) in
    let was = c.new-within.ensures.seat in let own = c.sees.new.self.own in let first = c.new-within.result.own in
    (cc (is, own, blocks, first, was), cc (is, id, was), cc (is, away, was))

pub returns-clause-seen : goal.returns-clause-seen
returns-clause-seen g c =
    let s = kept_same _ _ _ _ _ _ _ _ c.sees.ensures.same in
    let is = c.seat-1.given.1 (sym (s.1 ∙ c.new-within.ensures.name)) in
    let was = c.new-within.ensures.seat in
    let before : c.new-within.result.seat.now.view ≡ c.args.seat.now.view = cc was in
    let after : c.sees.new.self.seat.now.view ≡ c.seat-1.given.0.view = cc is in
    subst (λ (v : View g.row.K.Denot g.row.V.Denot g.row.S.Denot). HasSeen g.K.PartialEq.eq g.S.Hashes.hash (g.Q.Equivalent.stands_for c.args.key.now) c.args.root c.args.mode c.args.hash c.sees.result v c.seat-1.given.0.view) before
    (subst (λ (w : View g.row.K.Denot g.row.V.Denot g.row.S.Denot). HasSeen g.K.PartialEq.eq g.S.Hashes.hash (g.Q.Equivalent.stands_for c.args.key.now) c.args.root c.args.mode c.args.hash c.sees.result c.new-within.result.seat.now.view w) after
    c.sees.ensures.seen)
