-- What a `&` to a seat holds is made of a borrow of it, and lasts. Assumes `Logic`.
use Rattle.seize_atoms.specs.Visiting.{seat_coded}
use Rattle.seize_seats.specs.Seats.Errands.{coded_of}
use Rattle.std.proofs.Common.{[], ◌∷◌}
use denote.Struct.Tuple.{Tuple}
use denote.RattleType.{RattleType}
use denote.Param.Laws.{Laws}
use denote.Param.Shared.{copy_shared}
use denote.Struct.Laws.{field_copy}
use denote.Struct.Lending.{of_Lends}
use Rattle.std.specs.contracts.marker.PhantomData as marker
use Rattle.seize_seats.proofs.Seats.Views.Shown.{seat_laws, lends_seat}
use Rattle.seize_atoms.specs.declared.rule.Rule.{Ghosts}
use Rattle.seize_atoms.specs.contracts.seat.Seat as seat
use Rattle.seize_atoms.proofs.seat.Seat.TheLaw.Statement.{statement}

pub shares : (T R V F : RattleType) (g : Ghosts R.Denot T.Denot V.Denot F.Denot) (LT : Laws T) (LR : Laws R) (LV : Laws V) (LF : Laws F)
    → statement T R V F g LT LR LV LF
shares T R V F g LT LR LV LF = let All = Tuple (T ∷ R ∷ []) in
    of_Lends (seat.struct T R V F g) (seat.the_codes T.Denot R.Denot V.Denot F.Denot T.coded R.coded V.coded F.coded (marker.the_row All).coded)
    (seat.the_heap T R V F g) (seat.the_lent T R V F g)
    (λ d p. seat_laws (coded_of (seat_coded V.coded)) d.base d.id ((d.view, d.visit), d.away) d.stretch d.mark)
    (copy_shared (marker.the_field All) (field_copy (marker.the_type All) tt), tt)
    (λ M 𝓤 𝓛 d p. lends_seat (coded_of (seat_coded V.coded)) d.base d.id ((d.view, d.visit), d.away) d.stretch d.mark 𝓛 (seat.the_row T R V F g).lives)
