-- What the iterator has given so far is in the set.
use Rattle.std.specs.Prelude.{◌≡◌}
use Rattle.papaya.specs.OneSet.{PutsKey}
use Rattle.papaya_map.specs.Given.SessionsExtended.{PutsAll}
use Rattle.papaya.proofs.session.SetSession.extend.Given as goal

abbrev pub invariant-loop-key : goal.invariant-loop-key
invariant-loop-key g l =
    PutsAll (PutsKey g.K.PartialEq.eq g.S.Hashes.hash) l.yielded l.fn.self.session.base.caller l.self.session.base.caller × (l.self.session.number ≡ l.fn.self.session.number)
