use Rattle.std.proofs.Common.{◌≡◌, sym, subst, ◌∙◌}
use Rattle.threads_steps.specs.Given.ViewsDeclared.view.View.{View}
use Rattle.threads_steps.proofs.Given.Keeping.{kept_same}
use Rattle.threads_steps.specs.Storing.{making}
use Rattle.threads_errands.specs.Ahead.{IsAhead}
use Rattle.threads_errands.specs.Puts.{HasStored}
use Rattle.threads_errands.proofs.storing.puts.Goals as goal

pub stores-put-requires : goal.stores-put-requires
stores-put-requires g c =
    let x = c.args in let was = c.new-ahead.ensures.seat in
    let before : x.seat.now.view ≡ c.new-ahead.result.seat.now.view = cc was in record {
      ahead = subst (λ (v : View g.row.K.Denot g.row.V.Denot g.row.S.Denot). IsAhead g.K.PartialEq.eq g.S.Hashes.hash x.hasher.now (making x.setting x.hash x.there x.pair) v) before c.requires.ahead;
    }

-- the seat is the one that was lent
pub returns-clause-same : goal.returns-clause-same
returns-clause-same g c =
    let s = kept_same _ _ _ _ _ _ _ _ c.stores-put.ensures.same in
    let blocks = s.0 in let name = s.1 in let id = s.2 in let away = s.3 in
    let is = c.seat-1.given.1 (sym (name ∙ c.new-ahead.ensures.name)) in
    let was = c.new-ahead.ensures.seat in let own = c.stores-put.new.self.own in let first = c.new-ahead.result.own in
    (cc (is, own, blocks, first, was), cc (is, id, was), cc (is, away, was))

pub returns-clause-stored : goal.returns-clause-stored
returns-clause-stored g c =
    let s = kept_same _ _ _ _ _ _ _ _ c.stores-put.ensures.same in
    let is = c.seat-1.given.1 (sym (s.1 ∙ c.new-ahead.ensures.name)) in
    let x = c.args in let was = c.new-ahead.ensures.seat in
    let before : c.new-ahead.result.seat.now.view ≡ x.seat.now.view = cc was in
    let after : c.stores-put.new.self.seat.now.view ≡ c.seat-1.given.0.view = cc is in
    subst (λ (v : View g.row.K.Denot g.row.V.Denot g.row.S.Denot). HasStored g.K.PartialEq.eq g.S.Hashes.hash x.hasher.now x.setting x.hash x.there (making x.setting x.hash x.there x.pair) c.stores-put.result v c.seat-1.given.0.view) before
    (subst (λ (w : View g.row.K.Denot g.row.V.Denot g.row.S.Denot). HasStored g.K.PartialEq.eq g.S.Hashes.hash x.hasher.now x.setting x.hash x.there (making x.setting x.hash x.there x.pair) c.stores-put.result c.new-ahead.result.seat.now.view w) after
    c.stores-put.ensures.stored)
