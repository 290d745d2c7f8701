use Rattle.std.proofs.Common.{inl, subst}
use Rattle.papaya_raw.specs.declared.machines.machine.Machine.{Machine}
use Rattle.threads_steps.specs.Given.ByKey.{by_key}
use Rattle.threads_steps.proofs.Given.Keeping.{still_kept}
use Rattle.threads_errands.specs.Ahead.{StandsAt}
use Rattle.threads_errands.proofs.Behind.{leans_still, may_stand}
use Rattle.threads_errands.proofs.ahead.Ahead.stands_as.Goals as goal

pub turn-requires-clause-may : goal.turn-requires-clause-may
turn-requires-clause-may g c = let x = c.args.self.now in
    may_stand g.K.PartialEq.eq g.S.Hashes.hash x.seat.now.view x.blocks.now.words.fixed x.seat.now.id g.B.Points.point c.args._hasher.now (by_key g.Q.Equivalent.stands_for c.args._machine.now) c.requires.picked.0 c.requires.ahead

pub turn-requires-clause-errand : goal.turn-requires-clause-errand
turn-requires-clause-errand g c = λ home rests w so. absurd (c.args.self.now.away home)

pub turn-requires-clause-leans : goal.turn-requires-clause-leans
turn-requires-clause-leans g c = let v = c.args.self.now.seat.now.view in λ w comes n leans. inl (leans_still v w comes.2.stays n leans)

pub returns-clause-stands : goal.returns-clause-stands
returns-clause-stands g c = let t = c.turn.ensures.goes in
    subst (λ (m : Machine g.row.K.Denot g.row.V.Denot g.row.K.Denot). StandsAt m c.args.self.now.seat.now.view c.turn.new.seat.view) (c.requires.picked.1 t.0 t.1) t.2

pub returns-clause-same : goal.returns-clause-same
returns-clause-same g c = still_kept _ _ c.turn.ensures.same.1 c.turn.ensures.errand
