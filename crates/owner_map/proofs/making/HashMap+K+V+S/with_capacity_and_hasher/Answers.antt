-- Nothing has happened to its memory before.
use Rattle.seize_model.specs.Alone.Alone.{nothing_yet, registered}
use Rattle.std.proofs.Common.{◌∙◌, refl, true, inr}
use Rattle.std.proofs.lemmas.Result.{err_from_is_err_and}
use Rattle.owner_rests.proofs.Rests.Makes.{nothing_happened, nothing_there, slot_refused, taken_inside}
use Rattle.owner_rests.proofs.Rests.Lasts.{none_in, none_named}
use Rattle.owner_asks.proofs.Pairs.Orders.{none_left}
use Rattle.owner_rests.proofs.ShowsPairs.Shows.{counts, made_shown, shown}
use Rattle.owner_map.proofs.making.HashMap+K+V+S.with_capacity_and_hasher.Goals as goal

pub register-requires : goal.register-requires
register-requires g c = (32, 1, nothing_yet, nothing_happened {K = g.row.K.Denot} {V = g.row.V.Denot} c.in_ok-memory.memory c.in_ok-memory.ensures)

pub begin-requires-clause-history : goal.begin-requires-clause-history
begin-requires-clause-history g c =
    let t = c.in_ok-slot.ensures.told 32 1 nothing_yet (nothing_happened {K = g.row.K.Denot} {V = g.row.V.Denot} c.in_ok-memory.memory c.in_ok-memory.ensures) in
    (registered true c.in_ok-slot.slot nothing_yet, t.1, taken_inside c.in_ok-slot.slot)

-- it has no pair
pub invariant_of-result : goal.invariant_of-result
invariant_of-result g c = record { tables = counts _ _ _ _ _ c.in_ok-setting.ensures.held; takes = none_named _; meets = none_named _ }

pub returns-clause-pairs : goal.returns-clause-pairs
returns-clause-pairs g c = none_left _ (shown _ _ _ _ _ c.in_ok-setting.ensures.held _)

pub returns-clause-tables : goal.returns-clause-tables
returns-clause-tables g c = made_shown _ _ _ _ _ c.in_ok-setting.ensures.tables c.in_ok-places.ensures.made

pub returns-in_err-slot-clause-fault : goal.returns-in_err-slot-clause-fault
returns-in_err-slot-clause-fault g c =
    let t = c.in_err-slot.ensures.told 32 1 nothing_yet (nothing_happened {K = g.row.K.Denot} {V = g.row.V.Denot} c.in_ok-memory.memory c.in_ok-memory.ensures) in
    let p = err_from_is_err_and c.from_residual-in_err-slot.result c.from_residual-in_err-slot.ensures.1 in rw (p.1, p.2) (inr (slot_refused c.register.new.memory _ t.0, c.in_ok-places.ensures.few))

pub returns-clause-last : goal.returns-clause-last
returns-clause-last g c = (none_in _, none_in _)

pub returns-clause-held : goal.returns-clause-held
returns-clause-held g c = c.in_ok-setting.ensures.bare (λ b. c.in_ok-slot.ensures.spares.values b refl ∙ nothing_there {K = g.row.K.Denot} {V = g.row.V.Denot} c.in_ok-memory.memory c.in_ok-memory.ensures b)

pub returns-in_err-setting-clause-fault : goal.returns-in_err-setting-clause-fault
returns-in_err-setting-clause-fault g c =
    let p = err_from_is_err_and c.from_residual-in_err-setting.result c.from_residual-in_err-setting.ensures.1 in rw (p.1, p.2) (inr (c.in_err-setting.ensures.fault, c.in_ok-places.ensures.few))
