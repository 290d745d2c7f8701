use Rattle.std.specs.Prelude.{find, option_copied, slice_get}
use Rattle.std.proofs.Common.{ap, sym, arith, ◌∙◌}
use Rattle.run_names.specs.Presence.Crowd.{StandsAt, is_named, kept}
use Rattle.run_names.proofs.Presence.Crowds.Homes.{home_alone, stands_read, stands_within}
use Rattle.run_names.proofs.Presence.Crowds.Kept.{absent_found, home_found}
use Rattle.run_names.proofs.crowd.Crowd.get.Goals as goal

pub returns-in_err-place : goal.returns-in_err-place
returns-in_err-place g c =
    let named = is_named g.T.HasName.name_of c.args.name.now in
    ap (λ r. option_copied r) c.from_residual.ensures ∙ sym (absent_found g.T.HasName.name_of c.args.name.now c.deref.result.now c.in_err-place.ensures)
    ∙ ap (λ l. find named (kept l)) c.deref.ensures.value ∙ ap (λ l. find named l) c.self.view_is

pub index-requires : goal.index-requires
index-requires g c =
    let h = c.in_ok-place.ensures in
    omega (arith, stands_within c.deref.result.now c.in_ok-place.place h.0 h.1, c.deref.ensures.len)

pub returns : goal.returns
returns g c =
    let h = c.in_ok-place.ensures in
    let name_of = g.T.HasName.name_of in
    let here : StandsAt c.self.inside.comers.items c.in_ok-place.place h.0 = ap (λ l. slice_get l c.in_ok-place.place) (sym c.deref.ensures.value) ∙ h.1 in
    let alone = home_alone name_of c.self.inside.comers.items c.self.inside.places c.args.name.now c.in_ok-place.place c.self.invariant.0 (h.0, here, h.2) in
    c.as_ref.ensures.value ∙ stands_read c.self.inside.comers.items c.in_ok-place.place h.0 c.index.result.now here c.index.ensures
    ∙ sym (home_found name_of c.args.name.now c.self.inside.comers.items c.in_ok-place.place h.0 here h.2 alone)
    ∙ ap (λ l. find (is_named name_of c.args.name.now) l) c.self.view_is
