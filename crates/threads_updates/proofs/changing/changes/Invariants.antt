use Rattle.std.specs.Prelude.{◌≡◌, ℕ}
use Rattle.threads_calls.specs.Given.SeizeViewsDeclared.view.Has.TheVariants.{Nothing}
use Rattle.threads_calls.specs.Given.SeizeViewsDeclared.view.SlotView.TheVariants.{Inside}
use Rattle.threads_updates.specs.Updated.{HasLeft}
use Rattle.threads_updates.proofs.changing.changes.Given as goal

-- so many calls have changed nothing, within the section that was open
abbrev pub invariant-loop : goal.invariant-loop
invariant-loop g l =
    ((n : ℕ)
    × HasLeft g.K.PartialEq.eq g.S.Hashes.hash (g.K.Clone.is_clone l.fn.key) (g.D.Decides.gives l.fn.decider) n l.initial.session.caller.seat.view l.session.caller.seat.view)
    × (l.session.caller.seat.view.slot ≡ Inside l.session.slot Nothing) × (l.session.slot ≡ l.initial.session.slot) × (l.session.caller.seat.view.map ≡ l.initial.session.caller.seat.view.map)
    × (l.session.caller.blocks ≡ l.initial.session.caller.blocks)
