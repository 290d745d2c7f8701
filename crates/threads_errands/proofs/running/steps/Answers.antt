use Rattle.std.proofs.Common.{◌≡◌, sym, subst, ◌∙◌}
use Rattle.threads_steps.specs.Given.ByKey.{by_key}
use Rattle.threads_steps.specs.Given.ViewsDeclared.view.View.{View}
use Rattle.threads_steps.proofs.Given.Keeping.{kept_same}
use Rattle.threads_steps.specs.Given.ErrandsCalling.{CalledSo, IsCalling, StepsTo}
use Rattle.threads_errands.proofs.running.steps.Goals as goal

pub calls_by-told-requires : goal.calls_by-told-requires
calls_by-told-requires g c =
    let was = c.new-within.ensures.seat in
    let before : c.args.seat.now.view ≡ c.new-within.result.seat.now.view = cc was in record {
      calls = subst (λ (v : View g.row.K.Denot g.row.V.Denot g.row.S.Denot). IsCalling c.args.hasher.now (by_key g.Q.Equivalent.stands_for c.args.machine.now) v) before c.requires.calls;
    }

-- the seat is the one that was lent
pub returns-clause-same : goal.returns-clause-same
returns-clause-same g c =
    let s = kept_same _ _ _ _ _ _ _ _ c.calls_by-told.ensures.same in
    let blocks = s.0 in let name = s.1 in let id = s.2 in let away = s.3 in
    let is = c.seat-1.given.1 (sym (name ∙ c.new-within.ensures.name)) in
    let was = c.new-within.ensures.seat in let own = c.calls_by-told.new.self.own in let first = c.new-within.result.own in
    (cc (is, own, blocks, first, was), cc (is, id, was), cc (is, away, was))

pub returns-clause-told : goal.returns-clause-told
returns-clause-told g c =
    let s = kept_same _ _ _ _ _ _ _ _ c.calls_by-told.ensures.same in
    let is = c.seat-1.given.1 (sym (s.1 ∙ c.new-within.ensures.name)) in
    let after : c.calls_by-told.new.self.seat.now.view ≡ c.seat-1.given.0.view = cc is in
    subst (λ (w : View g.row.K.Denot g.row.V.Denot g.row.S.Denot). CalledSo c.args.hasher.now (by_key g.Q.Equivalent.stands_for c.calls_by-told.new.machine) c.calls_by-told.result w) after c.calls_by-told.ensures.told

pub returns-clause-stepped : goal.returns-clause-stepped
returns-clause-stepped g c =
    let s = kept_same _ _ _ _ _ _ _ _ c.calls_by-told.ensures.same in
    let is = c.seat-1.given.1 (sym (s.1 ∙ c.new-within.ensures.name)) in
    let was = c.new-within.ensures.seat in
    let before : c.new-within.result.seat.now.view ≡ c.args.seat.now.view = cc was in
    let after : c.calls_by-told.new.self.seat.now.view ≡ c.seat-1.given.0.view = cc is in
    subst (λ (v : View g.row.K.Denot g.row.V.Denot g.row.S.Denot). StepsTo g.K.PartialEq.eq g.S.Hashes.hash c.args.hasher.now (by_key g.Q.Equivalent.stands_for c.args.machine.now) (by_key g.Q.Equivalent.stands_for c.calls_by-told.new.machine) c.calls_by-told.result v c.seat-1.given.0.view) before
    (subst (λ (w : View g.row.K.Denot g.row.V.Denot g.row.S.Denot). StepsTo g.K.PartialEq.eq g.S.Hashes.hash c.args.hasher.now (by_key g.Q.Equivalent.stands_for c.args.machine.now) (by_key g.Q.Equivalent.stands_for c.calls_by-told.new.machine) c.calls_by-told.result c.new-within.result.seat.now.view w) after c.calls_by-told.ensures.stepped)

pub returns-clause-like : goal.returns-clause-like
returns-clause-like g c = c.calls_by-told.ensures.like
