use Rattle.std.proofs.Common.{◌≡◌, sym, subst, ◌∙◌}
use Rattle.threads_steps.specs.Given.ViewsDeclared.view.View.{View}
use Rattle.threads_steps.specs.Given.ErrandsCalling.{HasCalled, wanted_of}
use Rattle.threads_steps.proofs.Given.Keeping.{kept_same}
use Rattle.threads_errands.proofs.errands.DoesErrandNodeOfMaps.run.Goals as goal

-- the seat is the one that was lent
pub returns : goal.returns
returns g c =
    let s = kept_same _ _ _ _ _ _ _ _ c.does.ensures.same in
    let blocks = s.0 in let name = s.1 in let id = s.2 in let away = s.3 in
    let is = c.seat-1.given.1 (sym (name ∙ c.new-within.ensures.name)) in
    let was = c.new-within.ensures.seat in let own = c.does.new.self.own in let first = c.new-within.result.own in
    let before : c.new-within.result.seat.now.view ≡ c.args.seat.now.view = cc was in
    let after : c.does.new.self.seat.now.view ≡ c.seat-1.given.0.view = cc is in (
      cc (is, own, blocks, first, was),
      cc (is, id, was),
      cc (is, away, was),
      (
        subst (λ (v : View g.row.K.Denot g.row.V.Denot g.row.S.Denot). HasCalled g.K.PartialEq.eq g.S.Hashes.hash (wanted_of c.args.self.machine.now) c.does.result.told c.does.result.unstored v c.seat-1.given.0.view) before
            (subst (λ (w : View g.row.K.Denot g.row.V.Denot g.row.S.Denot). HasCalled g.K.PartialEq.eq g.S.Hashes.hash (wanted_of c.args.self.machine.now) c.does.result.told c.does.result.unstored c.new-within.result.seat.now.view w) after c.does.ensures.called),
        c.does.ensures.fits,
      ),
    )
