use Rattle.std.specs.Prelude.{None, find, slice_set}
use Rattle.std.proofs.Common.{◌≡◌, ◌+◌, List, length, ap, sym, arith, ◌∙◌}
use Rattle.run_names.specs.Presence.Crowd.{is_named, kept, weigh}
use Rattle.run_names.proofs.Presence.Crowds.Homes.{here, here_counted, here_found, here_leads, here_left, some_told, stands_read, stands_within}
use Rattle.run_names.proofs.Presence.Crowds.Kept.{absent_found, absent_left, others}
use Rattle.run_names.proofs.Presence.Crowds.Weights.{weigh_left}
use Rattle.run_names.proofs.crowd.Crowd.remove.Goals as goal

pub returns-in_err-place-clause-who : goal.returns-in_err-place-clause-who
returns-in_err-place-clause-who g c =
    let named = is_named g.T.HasName.name_of c.args.name.now in
    c.from_residual.ensures ∙ sym (absent_found g.T.HasName.name_of c.args.name.now c.deref.result.now c.in_err-place.ensures)
    ∙ ap (λ l. find named (kept l)) c.deref.ensures.value ∙ ap (λ l. find named l) c.self.view_is

pub returns-in_err-place-clause-others : goal.returns-in_err-place-clause-others
returns-in_err-place-clause-others g c =
    let among : List g.row.T.Denot → List g.row.T.Denot = others g.T.HasName.name_of c.args.name.now in
    sym c.self.view_is ∙ ap (λ l. kept l) (sym c.deref.ensures.value)
    ∙ sym (absent_left g.T.HasName.name_of c.args.name.now c.deref.result.now c.in_err-place.ensures)
    ∙ ap (λ l. among (kept l)) c.deref.ensures.value ∙ ap among c.self.view_is

pub overflow_sub-self : goal.overflow_sub-self
overflow_sub-self g c =
    let one = here_counted g.T.HasName.name_of _ _ c.self.inside.places _ _ c.deref.ensures.value c.self.invariant.0 c.in_ok-place.ensures in
    omega (arith, one, c.self.invariant.1)

pub index_mut-requires : goal.index_mut-requires
index_mut-requires g c =
    let h = c.in_ok-place.ensures in
    omega (arith, stands_within c.deref.result.now c.in_ok-place.place h.0 h.1, c.deref.ensures.len)

pub invariant_of-self : goal.invariant_of-self
invariant_of-self g c =
    let name_of = g.T.HasName.name_of in
    let comers = c.self.inside.comers.items in
    let place = c.in_ok-place.place in
    let leads = here_leads name_of _ comers c.self.inside.places c.args.name.now place c.deref.ensures.value c.self.invariant.0 c.in_ok-place.ensures
    c.remove.new.self c.remove.ensures in
    let one = here_counted name_of _ comers c.self.inside.places c.args.name.now place c.deref.ensures.value c.self.invariant.0 c.in_ok-place.ensures in
    let counted : length (kept (slice_set comers place c.take.new.self)) ≡ length (kept (slice_set comers place None)) = ap
    (λ x. length (kept (slice_set comers place x))) c.take.ensures.after in
    (rw c.take.ensures.after leads, omega (arith, one, counted, c.self.invariant.1))

pub returns-clause-who : goal.returns-clause-who
returns-clause-who g c =
    let name_of = g.T.HasName.name_of in
    let comers = c.self.inside.comers.items in
    let place = c.in_ok-place.place in
    let there = here name_of _ comers c.self.inside.places c.args.name.now place c.deref.ensures.value c.self.invariant.0 c.in_ok-place.ensures in
    c.take.ensures.value ∙ stands_read comers place _ c.index_mut.result.now there c.index_mut.ensures.value
    ∙ sym (here_found name_of _ comers c.self.inside.places c.args.name.now place c.deref.ensures.value c.self.invariant.0 c.in_ok-place.ensures)
    ∙ ap (λ l. find (is_named name_of c.args.name.now) l) c.self.view_is

pub returns-clause-others : goal.returns-clause-others
returns-clause-others g c =
    let name_of = g.T.HasName.name_of in
    let comers = c.self.inside.comers.items in
    let place = c.in_ok-place.place in
    ap (λ x. kept (slice_set comers place x)) c.take.ensures.after
    ∙ here_left name_of _ comers c.self.inside.places c.args.name.now place c.deref.ensures.value c.self.invariant.0 c.in_ok-place.ensures
    ∙ ap (λ l. others name_of c.args.name.now l) c.self.view_is

pub returns-clause-weights : goal.returns-clause-weights
returns-clause-weights g c =
    let name_of = g.T.HasName.name_of in
    let comers = c.self.inside.comers.items in
    let place = c.in_ok-place.place in
    let there = here name_of _ comers c.self.inside.places c.args.name.now place c.deref.ensures.value c.self.invariant.0 c.in_ok-place.ensures in
    some_told _ _ c.take.result _ (c.take.ensures.value ∙ stands_read comers place _ c.index_mut.result.now there c.index_mut.ensures.value)
    (λ weight. ap (λ x. weight c.in_ok-place.ensures.0 + weigh weight (kept (slice_set comers place x))) c.take.ensures.after
    ∙ weigh_left weight comers place _ there
    ∙ ap (λ l. weigh weight l) c.self.view_is)
