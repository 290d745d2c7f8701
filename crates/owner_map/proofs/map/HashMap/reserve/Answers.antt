-- No pair has changed.
use Rattle.std.specs.Prelude.{[]}
use Rattle.std.proofs.Common.{subst, sym}
use Rattle.std.proofs.lemmas.Result.{on_ok_weaker}
use Rattle.owner_asks.specs.Given.OwnedRooms.{NeedTooMany}
use Rattle.owner_rests.proofs.Rests.Lasts.{none_in, none_named}
use Rattle.owner_rests.proofs.ShowsPairs.Shows.{counts, first_has, room_shown, seen_as_many, seen_held, seen_keeps, shown_as}
use Rattle.owner_map.proofs.map.HashMap.reserve.Goals as goal

pub reserve-requires : goal.reserve-requires
reserve-requires g c = c.self.invariant

pub invariant_of-self-inside : goal.invariant_of-self-inside
invariant_of-self-inside g c = record { tables = c.self.inside.resting.tables; takes = none_named _; meets = none_named _ }

pub invariant_of-self-inside-2 : goal.invariant_of-self-inside-2
invariant_of-self-inside-2 g c = let held = c.self.invariant in record { tables = counts _ _ _ _ held.0 (c.reserve.ensures.holds held.0 held.1); takes = none_named _; meets = none_named _ }

pub invariant_of-self : goal.invariant_of-self
invariant_of-self g c = let held = c.self.invariant in (held.0, c.reserve.ensures.holds held.0 held.1)

pub returns-clause-pairs : goal.returns-clause-pairs
returns-clause-pairs g c =
    let held = c.self.invariant in
    shown_as _ _ _ _ held.0 (c.reserve.ensures.holds held.0 held.1) _ _ (seen_held _ _ _ _ held.0 held.1 c.self.inside.resting.tables _ _ _ _ c.self.view_is)

pub returns-clause-last : goal.returns-clause-last
returns-clause-last g c = (none_in _, none_in _)

pub returns-clause-room : goal.returns-clause-room
returns-clause-room g c =
    let held = c.self.invariant in
    on_ok_weaker c.reserve.result
    (λ room. first_has _ _ _ _ _ _ (seen_as_many _ _ _ _ held.0 held.1 c.self.inside.resting.tables _ _ _ _ c.self.view_is) room) (c.reserve.ensures.room held.0 held.1)

pub returns-clause-capacity : goal.returns-clause-capacity
returns-clause-capacity g c =
    let held = c.self.invariant in
    room_shown _ _ _ _ _ _ (seen_as_many _ _ _ _ held.0 held.1 c.self.inside.resting.tables _ _ _ _ c.self.view_is) c.reserve.result (c.reserve.ensures.capacity held.0 held.1)

pub returns-clause-refused : goal.returns-clause-refused
returns-clause-refused g c = λ many.
    let held = c.self.invariant in
    c.reserve.ensures.refused held.0 held.1
    (subst (NeedTooMany c.args.additional) (sym (seen_as_many _ _ _ _ held.0 held.1 c.self.inside.resting.tables _ _ _ _ c.self.view_is)) many)

pub returns-clause-keeps : goal.returns-clause-keeps
returns-clause-keeps g c =
    let held = c.self.invariant in seen_keeps _ _ _ _ held.0 held.1 c.self.inside.resting.tables _ _ _ _ c.self.view_is [] _ (c.reserve.ensures.keeps held.0 held.1)
