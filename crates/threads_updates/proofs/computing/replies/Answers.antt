use Rattle.std.proofs.Common.{refl, subst}
use Rattle.seize_words.specs.declared.operation.Operation.TheVariants as operation
use Rattle.threads_updates.specs.Computing.{computes}
use Rattle.threads_updates.proofs.Asked.{shows_asked, stage_left, stage_removed, stands_still, stands_told, was_told}
use Rattle.threads_updates.proofs.computing.replies.Goals as goal

pub decided-requires-clause-shown : goal.decided-requires-clause-shown
decided-requires-clause-shown g c = let is = c.requires.asks in shows_asked is.0 c.args.hasher.now c.args.within.now.seat.now.view c.args.pair c.args.machine.now is.2

pub tells-requires : goal.tells-requires
tells-requires g c = let is = c.requires.asks in record { asks = (computes, is.0, is.2, (tt, is.1 refl)) }

pub tells-requires-in-Remove : goal.tells-requires-in-Remove
tells-requires-in-Remove g c = let is = c.requires.asks in record { asks = (computes, is.0, is.2, tt) }

pub tells-requires-in-Abort : goal.tells-requires-in-Abort
tells-requires-in-Abort g c = let is = c.requires.asks in record { asks = (computes, is.0, is.2, tt) }

pub returns-in-Insert-clause-goes : goal.returns-in-Insert-clause-goes
returns-in-Insert-clause-goes g c =
    let is = c.requires.asks in
    stands_told c.args.hasher.now c.tells.new.machine c.tells.new.self.seat.now.view _ (c.tells.ensures.goes computes is.0 is.2 (tt, is.1 refl))

pub returns-in-Insert-clause-told : goal.returns-in-Insert-clause-told
returns-in-Insert-clause-told g c =
    let is = c.requires.asks in let said = c.decided.ensures.gives in
    was_told is.0 c.args.hasher.now c.args.within.now.seat.now.view (g.D.Decides.gives c.args.decider.now) c.args.pair said.0 c.args.machine.now is.2 said.1 (operation.Insert c.in-Insert.value)
    (subst (g.D.Decides.gives c.args.decider.now said.0) c.in-Insert.is said.2) c.tells.new.self.seat.now.view c.tells.ensures.told

pub returns-in-Remove-clause-goes : goal.returns-in-Remove-clause-goes
returns-in-Remove-clause-goes g c =
    let is = c.requires.asks in
    stands_still c.args.hasher.now c.tells-in-Remove.new.machine c.tells-in-Remove.new.self.seat.now.view is.0 _ (stage_removed g.row.V.Denot is.0 c.args.pair) (is.1 refl) (c.tells-in-Remove.ensures.goes computes is.0 is.2 tt)

pub returns-in-Remove-clause-told : goal.returns-in-Remove-clause-told
returns-in-Remove-clause-told g c =
    let is = c.requires.asks in let said = c.decided.ensures.gives in
    was_told is.0 c.args.hasher.now c.args.within.now.seat.now.view (g.D.Decides.gives c.args.decider.now) c.args.pair said.0 c.args.machine.now is.2 said.1 operation.Remove
    (subst (g.D.Decides.gives c.args.decider.now said.0) c.in-Remove.is said.2) c.tells-in-Remove.new.self.seat.now.view c.tells-in-Remove.ensures.told

pub returns-in-Abort-clause-goes : goal.returns-in-Abort-clause-goes
returns-in-Abort-clause-goes g c =
    let is = c.requires.asks in
    stands_still c.args.hasher.now c.tells-in-Abort.new.machine c.tells-in-Abort.new.self.seat.now.view is.0 _ (stage_left g.row.V.Denot is.0 c.args.pair) (is.1 refl) (c.tells-in-Abort.ensures.goes computes is.0 is.2 tt)

pub returns-in-Abort-clause-told : goal.returns-in-Abort-clause-told
returns-in-Abort-clause-told g c =
    let is = c.requires.asks in let said = c.decided.ensures.gives in
    was_told is.0 c.args.hasher.now c.args.within.now.seat.now.view (g.D.Decides.gives c.args.decider.now) c.args.pair said.0 c.args.machine.now is.2 said.1 (operation.Abort c.in-Abort.with)
    (subst (g.D.Decides.gives c.args.decider.now said.0) c.in-Abort.is said.2) c.tells-in-Abort.new.self.seat.now.view c.tells-in-Abort.ensures.told

pub returns-in-Abort-clause-last : goal.returns-in-Abort-clause-last
returns-in-Abort-clause-last g c = let said = c.decided.ensures.gives in (said.0, subst (g.D.Decides.gives c.args.decider.now said.0) c.in-Abort.is said.2)
