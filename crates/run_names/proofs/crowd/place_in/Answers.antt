-- Where the item of a name stands, by the place to which the name leads.
use Rattle.std.specs.Prelude.{Option, MatchOption}
use Rattle.std.proofs.Common.{ℕ, sym, subst, ◌∙◌}
use Rattle.run_names.specs.Presence.Crowd.{IsAbsent, IsHome}
use Rattle.run_names.proofs.Presence.Crowds.Homes.{leads_nowhere, leads_out, leads_to_other, none_held, told_by_name}
use Rattle.run_names.proofs.crowd.place_in.Goals as goal

pub returns-in_err-place : goal.returns-in_err-place
returns-in_err-place g c =
    none_held (IsHome g.T.HasName.name_of c.args.name.now c.args.comers.now) c.from_residual.result c.from_residual.ensures
    (leads_nowhere g.T.HasName.name_of c.args.comers.now c.args.places.now c.args.name.now c.requires (sym c.get.ensures ∙ c.in_err-place.was))

pub returns-in_err-held : goal.returns-in_err-held
returns-in_err-held g c =
    none_held (IsHome g.T.HasName.name_of c.args.name.now c.args.comers.now) c.from_residual-in_err-held.result c.from_residual-in_err-held.ensures
    (leads_out g.T.HasName.name_of c.args.comers.now c.args.places.now c.args.name.now c.in_ok-place.place c.requires (sym c.get.ensures ∙ c.in_ok-place.was)
    c.in_err-held.ensures.lookup.3)

pub returns-in_err-comer : goal.returns-in_err-comer
returns-in_err-comer g c =
    let empty = c.in_err-comer.ensures.value in
    none_held (IsHome g.T.HasName.name_of c.args.name.now c.args.comers.now) c.from_residual-in_err-comer.result c.from_residual-in_err-comer.ensures
    (leads_to_other g.T.HasName.name_of c.args.comers.now c.args.places.now c.args.name.now c.in_ok-place.place c.in_ok-held.held.now c.requires
    (sym c.get.ensures ∙ c.in_ok-place.was) c.in_ok-held.ensures.lookup.3.0 c.in_ok-held.ensures.lookup.1 (λ t e named. cc (empty, e)))

pub returns : goal.returns
returns g c =
    let B : Option ℕ → Type 0 = λ r. MatchOption r (IsAbsent g.T.HasName.name_of c.args.name.now c.args.comers.now)
    (IsHome g.T.HasName.name_of c.args.name.now c.args.comers.now) in
    subst B (sym c.then_some.ensures)
    (told_by_name g.T.HasName.name_of c.args.comers.now c.args.places.now c.args.name.now c.in_ok-place.place c.in_ok-held.held.now c.in_ok-comer.comer.now
    c.name.result.now c.is.result c.requires (sym c.get.ensures ∙ c.in_ok-place.was) c.in_ok-held.ensures.lookup.3.0 c.in_ok-held.ensures.lookup.1
    c.in_ok-comer.ensures.value c.name.ensures c.is.ensures.words)
