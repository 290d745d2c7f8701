use Rattle.std.specs.Prelude.{slice_set, Option, Some}
use Rattle.std.proofs.Common.{◌≡◌, ◌+◌, ℕ, List, length, refl, ap, sym, arith, ◌∙◌}
use Rattle.run_schedules.specs.Runs.Present.{forgotten_if, guard_of, guards_on, living_on, living_slot}
use Rattle.run_schedules.specs.declared.holders.NamedGuard.{NamedGuard}
use Rattle.run_names.specs.Presence.Crowd.{count_of, count_some, is_living, kept, weigh}
use Rattle.run_names.proofs.Presence.Crowds.Guards.{forgotten, forgotten_all, forgotten_living, forgotten_on}
use Rattle.run_names.proofs.Presence.Crowds.Homes.{here, here_alone, here_found, here_kept, stands_read, stands_within}
use Rattle.run_names.proofs.Presence.Crowds.Kept.{absent_changed, absent_found, home_changed}
use Rattle.run_names.proofs.Presence.Crowds.Weights.{counted_changed}
use Rattle.run_names.proofs.crowd.Crowd+NamedGuard.forget.Goals as goal

abbrev name_of : NamedGuard → List ℕ
name_of g = g.name

pub returns-in_err-place-clause-slot : goal.returns-in_err-place-clause-slot
returns-in_err-place-clause-slot c =
    c.from_residual.ensures ∙ ap (λ o. living_slot o) (sym (absent_found _ c.args.name.now c.deref.result.now c.in_err-place.ensures)
    ∙ ap (λ (l : List (Option NamedGuard)). guard_of c.args.name.now (kept l)) c.deref.ensures.value
    ∙ ap (λ (l : List NamedGuard). guard_of c.args.name.now l) c.self.view_is)

pub returns-in_err-place-clause-forgotten : goal.returns-in_err-place-clause-forgotten
returns-in_err-place-clause-forgotten c =
    sym c.self.view_is ∙ ap (λ (l : List (Option NamedGuard)). kept l) (sym c.deref.ensures.value)
    ∙ sym (absent_changed _ c.args.name.now forgotten c.deref.result.now c.in_err-place.ensures)
    ∙ ap (λ (l : List (Option NamedGuard)). forgotten_if c.args.name.now (kept l)) c.deref.ensures.value
    ∙ ap (λ (l : List NamedGuard). forgotten_if c.args.name.now l) c.self.view_is

pub index_mut-requires : goal.index_mut-requires
index_mut-requires c =
    let h = c.in_ok-place.ensures in
    omega (arith, stands_within c.deref.result.now c.in_ok-place.place h.0 h.1, c.deref.ensures.len)

pub invariant_of-self : goal.invariant_of-self
invariant_of-self c =
    let comers = c.self.inside.comers.items in
    let place = c.in_ok-place.place in
    let g = c.in_ok-place.ensures.0 in
    let there = here name_of c.deref.result.now comers c.self.inside.places c.args.name.now place c.deref.ensures.value c.self.invariant.0
    c.in_ok-place.ensures in
    let told = c.forget_one.ensures g (stands_read comers place g c.index_mut.result.now there c.index_mut.ensures.value) in
    let leads = here_kept name_of c.deref.result.now comers c.self.inside.places c.args.name.now place c.deref.ensures.value c.self.invariant.0
    c.in_ok-place.ensures (forgotten g) refl in
    let counted : length (kept (slice_set comers place c.forget_one.new.place)) ≡ length (kept comers) =
    ap (λ (x : Option NamedGuard). length (kept (slice_set comers place x))) told.0 ∙ counted_changed comers place g (forgotten g) there in
    (rw told.0 leads, c.self.invariant.1 ∙ sym counted)

pub returns-clause-slot : goal.returns-clause-slot
returns-clause-slot c =
    let comers = c.self.inside.comers.items in
    let place = c.in_ok-place.place in
    let g = c.in_ok-place.ensures.0 in
    let there = here name_of c.deref.result.now comers c.self.inside.places c.args.name.now place c.deref.ensures.value c.self.invariant.0
    c.in_ok-place.ensures in
    let told = c.forget_one.ensures g (stands_read comers place g c.index_mut.result.now there c.index_mut.ensures.value) in
    told.1 ∙ ap (λ (o : Option NamedGuard). living_slot o)
    (sym (here_found name_of c.deref.result.now comers c.self.inside.places c.args.name.now place c.deref.ensures.value c.self.invariant.0
    c.in_ok-place.ensures)
    ∙ ap (λ (l : List NamedGuard). guard_of c.args.name.now l) c.self.view_is)

pub returns-clause-forgotten : goal.returns-clause-forgotten
returns-clause-forgotten c =
    let comers = c.self.inside.comers.items in
    let place = c.in_ok-place.place in
    let g = c.in_ok-place.ensures.0 in
    let there = here name_of c.deref.result.now comers c.self.inside.places c.args.name.now place c.deref.ensures.value c.self.invariant.0
    c.in_ok-place.ensures in
    let told = c.forget_one.ensures g (stands_read comers place g c.index_mut.result.now there c.index_mut.ensures.value) in
    let alone = here_alone name_of c.deref.result.now comers c.self.inside.places c.args.name.now place c.deref.ensures.value c.self.invariant.0
    c.in_ok-place.ensures in
    ap (λ (x : Option NamedGuard). kept (slice_set comers place x)) told.0
    ∙ home_changed name_of c.args.name.now forgotten comers place g there c.in_ok-place.ensures.2 alone
    ∙ ap (λ (l : List NamedGuard). forgotten_if c.args.name.now l) c.self.view_is

pub returns-clause-on : goal.returns-clause-on
returns-clause-on c = λ slot.
    let comers = c.self.inside.comers.items in
    let place = c.in_ok-place.place in
    let g = c.in_ok-place.ensures.0 in
    let there = here name_of c.deref.result.now comers c.self.inside.places c.args.name.now place c.deref.ensures.value c.self.invariant.0
    c.in_ok-place.ensures in
    let told = c.forget_one.ensures g (stands_read comers place g c.index_mut.result.now there c.index_mut.ensures.value) in
    ap (λ (x : Option NamedGuard). guards_on slot (kept (slice_set comers place x))) told.0 ∙ forgotten_on comers place g there slot
    ∙ ap (λ (l : List NamedGuard). guards_on slot l) c.self.view_is

pub returns-clause-living : goal.returns-clause-living
returns-clause-living c = λ slot.
    let comers = c.self.inside.comers.items in
    let place = c.in_ok-place.place in
    let g = c.in_ok-place.ensures.0 in
    let there = here name_of c.deref.result.now comers c.self.inside.places c.args.name.now place c.deref.ensures.value c.self.invariant.0
    c.in_ok-place.ensures in
    let told = c.forget_one.ensures g (stands_read comers place g c.index_mut.result.now there c.index_mut.ensures.value) in
    ap (λ (o : Option ℕ). count_of slot o + living_on slot (kept (slice_set comers place c.forget_one.new.place))) told.1
    ∙ ap (λ (x : Option NamedGuard). count_of slot (living_slot (Some g)) + living_on slot (kept (slice_set comers place x))) told.0
    ∙ forgotten_living comers place g there slot ∙ ap (λ (l : List NamedGuard). living_on slot l) c.self.view_is

pub returns-clause-all : goal.returns-clause-all
returns-clause-all c =
    let comers = c.self.inside.comers.items in
    let place = c.in_ok-place.place in
    let g = c.in_ok-place.ensures.0 in
    let there = here name_of c.deref.result.now comers c.self.inside.places c.args.name.now place c.deref.ensures.value c.self.invariant.0
    c.in_ok-place.ensures in
    let told = c.forget_one.ensures g (stands_read comers place g c.index_mut.result.now there c.index_mut.ensures.value) in
    ap (λ (o : Option ℕ). count_some o + weigh is_living (kept (slice_set comers place c.forget_one.new.place))) told.1
    ∙ ap (λ (x : Option NamedGuard). count_some (living_slot (Some g)) + weigh is_living (kept (slice_set comers place x))) told.0
    ∙ forgotten_all comers place g there ∙ ap (λ (l : List NamedGuard). weigh is_living l) c.self.view_is
