use Rattle.std.proofs.Common.{inl, subst, sym}
use Rattle.papaya_raw.specs.declared.machines.answer.KeyAnswer.{KeyAnswer}
use Rattle.threads_steps.proofs.Given.Keeping.{still_kept}
use Rattle.threads_errands.specs.Ahead.{HasEndedSo, IsEnding}
use Rattle.threads_errands.proofs.Behind.{leans_still, may_end}
use Rattle.threads_errands.proofs.ahead.Ahead.ends_as.Goals as goal

pub turn-requires-clause-may : goal.turn-requires-clause-may
turn-requires-clause-may g c = let x = c.args.self.now in
    may_end g.K.PartialEq.eq g.S.Hashes.hash x.seat.now.view x.blocks.now.words.fixed x.seat.now.id g.B.Ends.answer
    (subst (λ (a : KeyAnswer). IsEnding g.K.PartialEq.eq g.S.Hashes.hash a x.seat.now.view) (sym c.requires.picked) c.requires.ends)

pub turn-requires-clause-errand : goal.turn-requires-clause-errand
turn-requires-clause-errand g c = λ home rests w so. absurd (c.args.self.now.away home)

pub turn-requires-clause-leans : goal.turn-requires-clause-leans
turn-requires-clause-leans g c = let v = c.args.self.now.seat.now.view in λ w ended n leans. inl (leans_still v w ended.stays n leans)

pub returns-clause-ended : goal.returns-clause-ended
returns-clause-ended g c = subst (λ (a : KeyAnswer). HasEndedSo a c.args.self.now.seat.now.view c.turn.new.seat.view) c.requires.picked c.turn.ensures.goes

pub returns-clause-same : goal.returns-clause-same
returns-clause-same g c = still_kept _ _ c.turn.ensures.same.1 c.turn.ensures.errand
