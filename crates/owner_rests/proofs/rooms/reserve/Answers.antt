-- By what the reservation comes to, after the refresh.
use Rattle.owner_calls.specs.Owned.Owned.{hashed_by}
use Rattle.owner_rests.proofs.Rests.Reservations.{room_holds, room_there, room_fault, room_capacity}
use Rattle.owner_calls.proofs.Holds.Changes.{room_holds_on}
use Rattle.owner_rests.proofs.rooms.reserve.Goals as goal

pub returns-clause-holds : goal.returns-clause-holds
returns-clause-holds g c = λ xs has. room_holds _ _ _ _ _ xs _ (c.make_room.ensures.room xs (c.refresh.ensures.holds xs has))

pub returns-clause-room : goal.returns-clause-room
returns-clause-room g c = λ xs has. room_there _ _ _ _ _ xs _ (c.make_room.ensures.room xs (c.refresh.ensures.holds xs has))

pub returns-clause-fault : goal.returns-clause-fault
returns-clause-fault g c = let r = c.requires in room_fault _ _ _ _ _ r.0 _ (c.make_room.ensures.room r.0 (c.refresh.ensures.holds r.0 r.1))

pub returns-clause-capacity : goal.returns-clause-capacity
returns-clause-capacity g c = λ xs has. room_capacity _ _ _ _ _ xs _ (c.make_room.ensures.room xs (c.refresh.ensures.holds xs has))

pub returns-clause-refused : goal.returns-clause-refused
returns-clause-refused g c = λ xs has. c.make_room.ensures.refused xs (c.refresh.ensures.holds xs has)

pub returns-clause-keeps : goal.returns-clause-keeps
returns-clause-keeps g c = λ xs has.
    room_holds_on _ _ c.refresh.ensures.none g.K.PartialEq.eq (hashed_by g.S.Hasher.Hasher.finish g.S.Hasher.Hasher.write g.S.BuildHasher.build_hasher g.K.Hash.hash_input) c.args.hasher c.args.setting xs (c.refresh.ensures.holds xs has) _ c.make_room.ensures.ran (room_holds _ _ _ _ _ xs _ (c.make_room.ensures.room xs (c.refresh.ensures.holds xs has)))

pub returns-clause-ran : goal.returns-clause-ran
returns-clause-ran g c = (_, c.refresh.ensures.ran, c.make_room.ensures.ran)
