-- Whatever the walk comes to from here on, it has come to from its beginning.
use Rattle.std.specs.Prelude.{◌≡◌, ◌≤◌, Option, List}
use Rattle.std.specs.Vec.Iter.{into_iter_items, into_iter_len}
use Rattle.papaya_sessions.specs.Walked.{GoesOn}
use Rattle.play_moves.specs.Given.ViewsDeclared.view.View.{View}
use Rattle.papaya_sessions.proofs.walk.Walk.next.Given as goal

abbrev pub invariant-loop-key : goal.invariant-loop-key
invariant-loop-key g l = record {
  session : l.self.pin.session ≡ l.fn.self.pin.session;
  shorter : into_iter_len l.self.keys ≤ into_iter_len l.fn.self.keys;
  goes : (found : Option (g.row.K.Denot × g.row.V.Denot)) (rest : List g.row.Q.Denot) (w : View g.row.K.Denot g.row.V.Denot g.row.S.Denot)
      → GoesOn g.K.PartialEq.eq g.S.Hashes.hash g.Q.Equivalent.stands_for l.fn.self.pin.session.now.base.caller found (into_iter_items l.self.keys) l.self.pin.pass.base.seat.view rest w
      → GoesOn g.K.PartialEq.eq g.S.Hashes.hash g.Q.Equivalent.stands_for l.fn.self.pin.session.now.base.caller found (into_iter_items l.fn.self.keys) l.fn.self.pin.pass.base.seat.view rest w;
}

abbrev pub decreases-loop-key : goal.decreases-loop-key
decreases-loop-key g l = into_iter_len l.self.keys
