-- What the iterator has given so far is stored.
use Rattle.std.specs.Prelude.{◌≡◌}
use Rattle.papaya_sessions.specs.Extended.{PutsAll, PutsPair}
use Rattle.papaya_sessions.proofs.session.Session.extend.Given as goal

abbrev pub invariant-loop-key : goal.invariant-loop-key
invariant-loop-key g l = PutsAll (PutsPair g.K.PartialEq.eq g.S.Hashes.hash) l.yielded l.fn.self.base.caller l.self.base.caller × (l.self.number ≡ l.fn.self.number)
