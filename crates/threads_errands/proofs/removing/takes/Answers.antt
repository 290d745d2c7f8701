use Rattle.std.proofs.Common.{◌≡◌, sym, subst, ◌∙◌}
use Rattle.threads_steps.specs.Given.ViewsDeclared.view.View.{View}
use Rattle.threads_steps.proofs.Given.Keeping.{kept_same}
use Rattle.papaya_raw.specs.CallPoints.{untried}
use Rattle.papaya_raw.specs.declared.machines.call.Calling.TheVariants as at
use Rattle.map_straight.specs.Straight.Removing.{seeking}
use Rattle.threads_errands.specs.Ahead.{IsAhead}
use Rattle.threads_errands.specs.Takes.{HasTakenOut}
use Rattle.threads_errands.proofs.removing.takes.Goals as goal

pub removes-requires : goal.removes-requires
removes-requires g c =
    let x = c.args in let was = c.new-ahead.ensures.seat in
    let before : x.seat.now.view ≡ c.new-ahead.result.seat.now.view = cc was in record {
      ahead = subst (λ (v : View g.row.K.Denot g.row.V.Denot g.row.S.Denot). IsAhead g.K.PartialEq.eq g.S.Hashes.hash x.hasher.now (seeking x.setting x.hash (g.Q.Equivalent.stands_for x.key.now) untried at.Roots) v) before c.requires.ahead;
    }

-- the seat is the one that was lent
pub returns-clause-same : goal.returns-clause-same
returns-clause-same g c =
    let s = kept_same _ _ _ _ _ _ _ _ c.removes.ensures.same in
    let blocks = s.0 in let name = s.1 in let id = s.2 in let away = s.3 in
    let is = c.seat-1.given.1 (sym (name ∙ c.new-ahead.ensures.name)) in
    let was = c.new-ahead.ensures.seat in let own = c.removes.new.self.own in let first = c.new-ahead.result.own in
    (cc (is, own, blocks, first, was), cc (is, id, was), cc (is, away, was))

pub returns-clause-taken : goal.returns-clause-taken
returns-clause-taken g c =
    let s = kept_same _ _ _ _ _ _ _ _ c.removes.ensures.same in
    let is = c.seat-1.given.1 (sym (s.1 ∙ c.new-ahead.ensures.name)) in
    let x = c.args in let was = c.new-ahead.ensures.seat in
    let before : c.new-ahead.result.seat.now.view ≡ x.seat.now.view = cc was in
    let after : c.removes.new.self.seat.now.view ≡ c.seat-1.given.0.view = cc is in
    subst (λ (v : View g.row.K.Denot g.row.V.Denot g.row.S.Denot). HasTakenOut g.K.PartialEq.eq g.S.Hashes.hash x.hasher.now x.setting x.hash (g.Q.Equivalent.stands_for x.key.now) c.removes.result v c.seat-1.given.0.view) before
    (subst (λ (w : View g.row.K.Denot g.row.V.Denot g.row.S.Denot). HasTakenOut g.K.PartialEq.eq g.S.Hashes.hash x.hasher.now x.setting x.hash (g.Q.Equivalent.stands_for x.key.now) c.removes.result c.new-ahead.result.seat.now.view w) after
    c.removes.ensures.taken)
