-- That a session stays on its map, whatever it does.
use Rattle.std.specs.Prelude.{◌≡◌}
use Rattle.std.specs.declared.hash.Hash as hashing
use Rattle.papaya_sessions.specs.Sessions.{IsOnSameMap}
use Rattle.papaya_sessions.specs.declared.session.Session.{Session}

-- a session is on the same map, whose collector has its number still
abbrev pub KeepsMap : {K V S : Type 0} {h : hashing.Ghosts K} → Session K V S h → Session K V S h → Type 0
KeepsMap x y = (y.number ≡ x.number) × IsOnSameMap x.base.caller y.base.caller
