use Rattle.std.proofs.Common.{inl}
use Rattle.threads_steps.proofs.Given.Keeping.{still_kept}
use Rattle.threads_errands.proofs.Behind.{leans_still, may_catch_up}
use Rattle.threads_errands.proofs.ahead.Ahead.catches_up.Goals as goal

pub turn-requires-clause-may : goal.turn-requires-clause-may
turn-requires-clause-may g c = let x = c.args.self.now in
    may_catch_up g.K.PartialEq.eq g.S.Hashes.hash x.seat.now.view x.blocks.now.words.fixed x.seat.now.id c.requires.next

pub turn-requires-clause-errand : goal.turn-requires-clause-errand
turn-requires-clause-errand g c = λ home rests w so. absurd (c.args.self.now.away home)

pub turn-requires-clause-leans : goal.turn-requires-clause-leans
turn-requires-clause-leans g c = let v = c.args.self.now.seat.now.view in let m = c.requires.next in
    λ w caught n leans. inl (leans_still v w (caught m.0 m.1 m.2 m.3 m.4).stays n leans)

pub returns-clause-same : goal.returns-clause-same
returns-clause-same g c = still_kept _ _ c.turn.ensures.same.1 c.turn.ensures.errand
