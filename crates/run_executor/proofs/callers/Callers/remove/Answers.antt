use Rattle.std.specs.Prelude.{option_map, position, slice_set, take, None}
use Rattle.std.specs.List.{remove}
use Rattle.std.proofs.Common.{◌≡◌, ◌-◌, ◌+◌, ap, sym, subst, arith, ◌∙◌}
use Rattle.run_names.specs.Presence.Crowd.{StandsAt}
use Rattle.run_names.proofs.Presence.Crowds.Homes.{OthersLead, stands_read, stands_within}
use Rattle.run_executor.specs.Named.Roll.{AreKept, IsTrimmedAt, called, name_of, newest}
use Rattle.run_executor.specs.Named.Seen.{is_named}
use Rattle.run_executor.proofs.Named.Roll.Comes.{left_kept, some_count, some_on, some_under, trimmed_kept}
use Rattle.run_executor.proofs.Named.Roll.Found.{absent_none, called_here, called_none, gone_here, stands_here}
use Rattle.run_executor.proofs.Named.Roll.Trims.{take_kept, take_newest, take_stands}
use Rattle.run_executor.proofs.callers.Callers.remove.Goals as goal
use Rattle.seize_words.proofs.General.{same_some as the_one}

pub returns-in_err-place-clause-who : goal.returns-in_err-place-clause-who
returns-in_err-place-clause-who g c =
    c.from_residual.ensures
    ∙ ap (λ o. option_map (λ caller. (caller.kind, caller.value)) o)
    (sym (called_none c.args.name.now c.deref.result.now c.self.inside.comers.items c.self.inside.places c.deref.ensures.value c.self.invariant.leads c.in_err-place.ensures) ∙ ap (called c.args.name.now) c.self.view_is)

pub returns-in_err-place-clause-left : goal.returns-in_err-place-clause-left
returns-in_err-place-clause-left g c = λ k is.
    let placed = ap (position (is_named c.args.name.now)) c.self.view_is ∙ is in
    let none = absent_none c.args.name.now c.deref.result.now c.self.inside.comers.items c.self.inside.places c.deref.ensures.value c.self.invariant.leads c.in_err-place.ensures in
    absurd (cc (placed, none))

pub index_mut-requires : goal.index_mut-requires
index_mut-requires g c =
    let h = c.in_ok-place.ensures in
    omega (arith, stands_within c.deref.result.now c.in_ok-place.place h.0 h.1, c.deref.ensures.len)

pub returns-in_err-caller-clause-who : goal.returns-in_err-caller-clause-who
returns-in_err-caller-clause-who g c =
    let comers = c.self.inside.comers.items in
    let place = c.in_ok-place.place in
    let d = c.in_ok-place.ensures.0 in
    let there = stands_here c.args.name.now c.deref.result.now c.self.inside.comers.items c.self.inside.places c.deref.ensures.value c.self.invariant.leads place c.in_ok-place.ensures in
    let took = c.take.ensures.value ∙ stands_read comers place d c.index_mut.result.now there c.index_mut.ensures.value in
    let none = c.in_err-caller.was in
    absurd (cc (took, none))

pub returns-in_err-caller-clause-left : goal.returns-in_err-caller-clause-left
returns-in_err-caller-clause-left g c = λ k at.
    let comers = c.self.inside.comers.items in
    let place = c.in_ok-place.place in
    let d = c.in_ok-place.ensures.0 in
    let there = stands_here c.args.name.now c.deref.result.now c.self.inside.comers.items c.self.inside.places c.deref.ensures.value c.self.invariant.leads place c.in_ok-place.ensures in
    let took = c.take.ensures.value ∙ stands_read comers place d c.index_mut.result.now there c.index_mut.ensures.value in
    let none = c.in_err-caller.was in
    absurd (cc (took, none))

pub lessen-requires : goal.lessen-requires
lessen-requires g c =
    let comers = c.self.inside.comers.items in
    let place = c.in_ok-place.place in
    let d = c.in_ok-place.ensures.0 in
    let there = stands_here c.args.name.now c.deref.result.now c.self.inside.comers.items c.self.inside.places c.deref.ensures.value c.self.invariant.leads place c.in_ok-place.ensures in
    let took = c.take.ensures.value ∙ stands_read comers place d c.index_mut.result.now there c.index_mut.ensures.value in
    let is = the_one c.in_ok-caller.caller d (sym c.in_ok-caller.was ∙ took) in
    let stands = subst (λ x. StandsAt comers place x) (sym is) there in
    some_under c.self.inside.comers.items c.self.inside.places c.self.inside.under c.self.inside.on c.self.inside.count c.in_ok-place.place c.in_ok-caller.caller c.self.invariant stands

pub lessen-requires-2 : goal.lessen-requires-2
lessen-requires-2 g c =
    let comers = c.self.inside.comers.items in
    let place = c.in_ok-place.place in
    let d = c.in_ok-place.ensures.0 in
    let there = stands_here c.args.name.now c.deref.result.now c.self.inside.comers.items c.self.inside.places c.deref.ensures.value c.self.invariant.leads place c.in_ok-place.ensures in
    let took = c.take.ensures.value ∙ stands_read comers place d c.index_mut.result.now there c.index_mut.ensures.value in
    let is = the_one c.in_ok-caller.caller d (sym c.in_ok-caller.was ∙ took) in
    let stands = subst (λ x. StandsAt comers place x) (sym is) there in
    some_on c.self.inside.comers.items c.self.inside.places c.self.inside.under c.self.inside.on c.self.inside.count c.in_ok-place.place c.in_ok-caller.caller c.self.invariant stands

pub overflow_sub-self : goal.overflow_sub-self
overflow_sub-self g c =
    let comers = c.self.inside.comers.items in
    let place = c.in_ok-place.place in
    let d = c.in_ok-place.ensures.0 in
    let there = stands_here c.args.name.now c.deref.result.now c.self.inside.comers.items c.self.inside.places c.deref.ensures.value c.self.invariant.leads place c.in_ok-place.ensures in
    let took = c.take.ensures.value ∙ stands_read comers place d c.index_mut.result.now there c.index_mut.ensures.value in
    let is = the_one c.in_ok-caller.caller d (sym c.in_ok-caller.was ∙ took) in
    let stands = subst (λ x. StandsAt comers place x) (sym is) there in
    some_count c.self.inside.comers.items c.self.inside.places c.self.inside.under c.self.inside.on c.self.inside.count c.in_ok-place.place c.in_ok-caller.caller c.self.invariant stands

pub invariant_of-self-2 : goal.invariant_of-self-2
invariant_of-self-2 g c =
    let comers = c.self.inside.comers.items in
    let place = c.in_ok-place.place in
    let d = c.in_ok-place.ensures.0 in
    let there = stands_here c.args.name.now c.deref.result.now c.self.inside.comers.items c.self.inside.places c.deref.ensures.value c.self.invariant.leads place c.in_ok-place.ensures in
    let took = c.take.ensures.value ∙ stands_read comers place d c.index_mut.result.now there c.index_mut.ensures.value in
    let is = the_one c.in_ok-caller.caller d (sym c.in_ok-caller.was ∙ took) in
    let stands = subst (λ x. StandsAt comers place x) (sym is) there in
    let named = ap name_of is ∙ c.in_ok-place.ensures.2 in
    let others = subst (λ n. OthersLead (name_of {V = g.row.V.Denot}) n c.self.inside.places c.remove.new.self) (sym named) c.remove.ensures in
    let some = some_count c.self.inside.comers.items c.self.inside.places c.self.inside.under c.self.inside.on c.self.inside.count c.in_ok-place.place c.in_ok-caller.caller c.self.invariant stands in
    let one : c.self.inside.count - 1 + 1 ≡ c.self.inside.count = omega (arith, some) in
    let gone = ap (λ x. slice_set comers place x) c.take.ensures.after in
    let trimmed = subst (λ l. IsTrimmedAt c.length_of-length.result l) (c.deref-2.ensures.value ∙ gone) c.length_of-length.ensures in
    let items = c.truncate.ensures.items ∙ ap (λ l. take c.length_of-length.result l) gone in
    subst (λ l. AreKept l c.remove.new.self c.lessen.new.self c.lessen-2.new.self (c.self.inside.count - 1)) (sym items)
    (trimmed_kept (slice_set comers place None) (take c.length_of-length.result (slice_set comers place None)) c.remove.new.self c.lessen.new.self c.lessen-2.new.self (c.self.inside.count - 1)
    (left_kept comers c.self.inside.places c.remove.new.self c.self.inside.under c.lessen.new.self c.self.inside.on c.lessen-2.new.self c.self.inside.count (c.self.inside.count - 1) place
    c.in_ok-caller.caller c.self.invariant stands others c.lessen.ensures.here c.lessen.ensures.others c.lessen-2.ensures one)
    (take_kept (slice_set comers place None) c.length_of-length.result trimmed) (take_stands (slice_set comers place None) c.length_of-length.result))

pub returns-clause-who : goal.returns-clause-who
returns-clause-who g c =
    let comers = c.self.inside.comers.items in
    let place = c.in_ok-place.place in
    let d = c.in_ok-place.ensures.0 in
    let there = stands_here c.args.name.now c.deref.result.now c.self.inside.comers.items c.self.inside.places c.deref.ensures.value c.self.invariant.leads place c.in_ok-place.ensures in
    let took = c.take.ensures.value ∙ stands_read comers place d c.index_mut.result.now there c.index_mut.ensures.value in
    ap (λ o. option_map (λ caller. (caller.kind, caller.value)) o)
    (sym c.in_ok-caller.was ∙ took ∙ sym (called_here c.args.name.now c.deref.result.now c.self.inside.comers.items c.self.inside.places c.deref.ensures.value c.self.invariant.leads place c.in_ok-place.ensures)
    ∙ ap (called c.args.name.now) c.self.view_is)

pub returns-clause-left : goal.returns-clause-left
returns-clause-left g c = λ k at.
    let comers = c.self.inside.comers.items in
    let place = c.in_ok-place.place in
    let placed = ap (position (is_named c.args.name.now)) c.self.view_is ∙ at in
    let gone = ap (λ x. slice_set comers place x) c.take.ensures.after in
    let trimmed = subst (λ l. IsTrimmedAt c.length_of-length.result l) (c.deref-2.ensures.value ∙ gone) c.length_of-length.ensures in
    let items = c.truncate.ensures.items ∙ ap (λ l. take c.length_of-length.result l) gone in
    ap (λ l. newest l) items ∙ take_newest (slice_set comers place None) c.length_of-length.result trimmed
    ∙ gone_here c.args.name.now c.deref.result.now c.self.inside.comers.items c.self.inside.places c.deref.ensures.value c.self.invariant.leads place c.in_ok-place.ensures k placed
    ∙ ap (λ l. remove l k) c.self.view_is
