use Rattle.std.proofs.Common.{Bool, subst}
use Rattle.threads_updates.specs.Computing.{Asks, computes}
use Rattle.threads_updates.proofs.Asked.{stands_told, was_left}
use Rattle.threads_updates.proofs.computing.tells.Goals as goal

pub tells-requires : goal.tells-requires
tells-requires g c = let is = c.requires.asks in record { asks = (computes, is.0, is.2, tt) }

pub returns-then-value-clause-goes : goal.returns-then-value-clause-goes
returns-then-value-clause-goes g c =
    let is = c.requires.asks in stands_told c.args.hasher.now c.tells.new.machine c.tells.new.self.seat.now.view _ (c.tells.ensures.goes computes is.0 is.2 tt)

pub returns-then-value-clause-told : goal.returns-then-value-clause-told
returns-then-value-clause-told g c =
    let is = c.requires.asks in
    was_left is.0 c.args.hasher.now c.args.within.now.seat.now.view (g.D.Decides.gives c.args.decider.now) c.args.pair c.args.machine.now is.2 c.tells.new.self.seat.now.view c.tells.ensures.told

pub replies-requires-clause-asks : goal.replies-requires-clause-asks
replies-requires-clause-asks g c =
    subst (λ (value : Bool). Asks value c.args.hasher.now c.args.pair c.args.machine.now c.args.within.now.seat.now.view) c.if-value.false c.requires.asks
