-- The map shows its pairs to a closure that calls the one of elements.
use denote.Param.Always.{always_mut, mut_by, mut_next}
use Rattle.std.proofs.Common.{of_calls, refl}
use Rattle.papaya.proofs.Swept.{elements_shown}
use Rattle.papaya.proofs.session.SetSession.each.Goals as goal

pub each-requires : goal.each-requires
each-requires g c = record { callable = mut_by _ (λ s. always_mut g.F.FnMut s.0) (λ s a i. i) (λ s a r t i e. mut_next g.F.FnMut s.0 (a.0, tt) r t.0 t.0 (search of_calls) refl i) _ c.requires.callable }

pub returns-clause-each : goal.returns-clause-each
returns-clause-each g c =
    elements_shown (λ s. s.0) _ g.F.FnMut (λ s next p q r e. search of_calls) g.K.PartialEq.eq g.S.Hashes.hash _ c.args.self.now.session.base.caller.seat.view c.each.new.self.base.caller.seat.view c.each.ensures.each
