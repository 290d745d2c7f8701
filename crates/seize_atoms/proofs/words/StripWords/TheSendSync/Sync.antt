-- The words may go to another thread.
use Rattle.seize_atoms.specs.Visiting.{HoldsSince, seat_coded}
use denote.RattleType.{RattleType}
use denote.Param.Send.{IsSend, IsSync, sendable}
use denote.Struct.Struct.{Struct}
use Rattle.core.specs.contracts.option.Option.{the_row as OptionOf}
use denote.Struct.Owning.{shape}
use Rattle.seize_seats.proofs.Seats.Views.Sent.{shares_keyless}
use Rattle.seize_atoms.specs.declared.rule.Rule.{Ghosts}
use Rattle.seize_atoms.specs.contracts.words.StripWords.{the_row, the_type}
use Rattle.seize_seats.specs.contracts.kept.Kept as kept_of
use Rattle.seize_seats.specs.Plots.Pieces.{kept_words}

pub sync : (T R V F : RattleType) (g : Ghosts R.Denot T.Denot V.Denot F.Denot) → IsSend T → IsSync T → IsSync (the_row T R V F g)
sync T R V F g s y = let fields : IsSync (Struct (shape (the_type T R V F g))) = search sendable depth 20 in
    let sent : IsSend (OptionOf (kept_of.the_row T)) = search sendable depth 20 in let synced : IsSync (OptionOf (kept_of.the_row T)) = search sendable depth 20 in
    record { shared = λ d b o ν. (fields.shared (d.words, (tt, tt)) b o ν, shares_keyless (kept_of.the_row T) kept_words sent synced (seat_coded V.coded) (HoldsSince g.rests g.leans d.start (g.holds d.fixed) g.keeps) d.words d.id ν) }
