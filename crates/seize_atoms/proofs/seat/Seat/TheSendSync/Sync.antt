-- A seat may be looked at from another thread.
use Rattle.seize_atoms.specs.Visiting.{seat_coded}
use denote.RattleType.{RattleType}
use denote.Param.Send.{IsSync, sendable}
use denote.Struct.Struct.{Struct}
use denote.Struct.Owning.{shape}
use Rattle.seize_seats.proofs.Seats.Views.Sent.{seat_shares_keyless}
use Rattle.seize_atoms.specs.declared.rule.Rule.{Ghosts}
use Rattle.seize_atoms.specs.contracts.seat.Seat.{the_row, the_type}

pub sync : (T R V F : RattleType) (g : Ghosts R.Denot T.Denot V.Denot F.Denot) → IsSync (the_row T R V F g)
sync T R V F g = let fields : IsSync (Struct (shape (the_type T R V F g))) = search sendable depth 20 in
    record { shared = λ d b o ν. (fields.shared (tt, tt) b o ν, seat_shares_keyless (seat_coded V.coded).code d.base d.id ((d.view, d.visit), d.away) d.stretch d.mark ν) }
