-- What the laws promise, clause by clause, as far as crates above cite it in proofs.
use Rattle.map_facts_late.specs.Faults.{ReservesRefuseRoom, ReservesAskOn, SweepsRefuseRoom, RepliedSweepsRefuseRoom}
use Rattle.map_facts_late.specs.Kinds.{CallsPreserveTheirKind, RepliesPreserveTheKind}
use Rattle.map_facts_late.proofs.KindsKept.Calls.Asked.{replies_kept}
use Rattle.map_facts_late.proofs.KindsKept.Calls.Kept.{kinds_kept}
use Rattle.map_facts_late.proofs.KindsKept.Rooms.Asks.{reserve_asks}
use Rattle.map_facts_late.proofs.KindsKept.Rooms.Reserving.{reserve_rooms}
use Rattle.map_facts_late.proofs.KindsKept.Rooms.Sweeping.{sweep_rooms, told_rooms}

pub calls_keep_their_kind : {K V Q : Type 0} → CallsPreserveTheirKind K V Q
calls_keep_their_kind {K} {V} {Q} = kinds_kept K V Q

pub replies_keep_the_kind : {K V Q : Type 0} → RepliesPreserveTheKind K V Q
replies_keep_the_kind {K} {V} {Q} = replies_kept K V Q

pub reserves_refuse_room : {K V : Type 0} → ReservesRefuseRoom K V
reserves_refuse_room {K} {V} hash p room m m2 end s = reserve_rooms K V hash p room m m2 end s

pub reserves_ask_on : {K V : Type 0} → ReservesAskOn K V
reserves_ask_on {K} {V} hash p m m2 end s = reserve_asks K V hash p m m2 end s

pub sweeps_refuse_room : {K V : Type 0} → SweepsRefuseRoom K V
sweeps_refuse_room {K} {V} hash p room m m2 end s = sweep_rooms K V hash p room m m2 end s

pub told_sweeps_refuse_room : RepliedSweepsRefuseRoom
told_sweeps_refuse_room = told_rooms
