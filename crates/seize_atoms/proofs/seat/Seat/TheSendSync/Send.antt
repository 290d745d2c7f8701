-- A seat may go to another thread.
use Rattle.seize_atoms.specs.Visiting.{seat_coded}
use denote.RattleType.{RattleType}
use denote.Param.Send.{IsSend}
use Rattle.seize_seats.proofs.Seats.Views.Sent.{seat_keyless}
use Rattle.seize_atoms.specs.declared.rule.Rule.{Ghosts}
use Rattle.seize_atoms.specs.contracts.seat.Seat.{the_row}

pub send : (T R V F : RattleType) (g : Ghosts R.Denot T.Denot V.Denot F.Denot) → IsSend (the_row T R V F g)
send T R V F g = record { owned = λ d vs. ((λ vss. (tt, ((λ uss. (tt, tt)), tt))), seat_keyless (seat_coded V.coded).code d.base d.id ((d.view, d.visit), d.away) d.stretch d.mark); leaving = λ k d w. tt }
