-- It comes to its end, and what it comes to.
use Rattle.std.proofs.Common.{subst}
use Rattle.papaya_raw.specs.Given.ReservesDeclared.reserve.Reserve.{Reserve}
use Rattle.owner_whole.specs.Strides.Ending.{HasCome}
use Rattle.owner_calls.specs.Owned.Machines.{for_room_plan}
use Rattle.owner_calls.proofs.Owned.Owned.Rooms.{making_room_ends, making_room_by}
use Rattle.owner_calls.proofs.Owned.Owned.TooMany.{too_much_room}
use Rattle.owner_calls.proofs.rooms.make_room.Goals as goal

pub run-requires : goal.run-requires
run-requires g c = let r = c.requires in making_room_ends {S = g.row.S.Denot} _ _ c.args.hasher c.args.setting _ r.0 r.1 _ _ c.new-reserve.ensures

pub returns-clause-room : goal.returns-clause-room
returns-clause-room g c = λ xs has. making_room_by {S = g.row.S.Denot} _ _ c.args.hasher c.args.setting _ xs has _ _ c.new-reserve.ensures _ _ _ c.run.ensures

pub returns-clause-refused : goal.returns-clause-refused
returns-clause-refused g c = λ xs has. too_much_room {S = g.row.S.Denot} _ _ c.args.hasher c.args.setting _ xs has _ _ c.new-reserve.ensures _ _ _ c.run.ensures

pub returns-clause-ran : goal.returns-clause-ran
returns-clause-ran g c =
    let r = c.requires in
    subst (λ (x : Reserve). HasCome (for_room_plan g.S.Hashes.hash) (record { reserve = x; hasher = c.args.hasher }) c.args.memory.now c.run.new.memory c.run.result) c.new-reserve.ensures
    (_, making_room_ends {S = g.row.S.Denot} _ _ c.args.hasher c.args.setting _ r.0 r.1 _ _ c.new-reserve.ensures, c.run.ensures)
