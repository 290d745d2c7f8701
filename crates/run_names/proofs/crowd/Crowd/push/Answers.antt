use Rattle.std.specs.Prelude.{Some}
use Rattle.std.proofs.Common.{◌≡◌, ◌∷◌, ◌++◌, ◌+◌, ◌<◌, ◌^◌, [], length, ap, sym, subst, arith, ◌∙◌}
use Rattle.run_names.specs.Presence.Crowd.{IsAbsent, kept}
use Rattle.run_names.specs.Presence.Places.{place_of}
use Rattle.run_names.proofs.Presence.Crowds.Homes.{come_leads, none_told, put_leads}
use Rattle.run_names.proofs.Presence.Crowds.Kept.{kept_few, kept_more}
use Rattle.run_names.proofs.Presence.Crowds.Weights.{counted_more}
use Rattle.run_names.proofs.crowd.Crowd.push.Goals as goal

pub overflow_add-self : goal.overflow_add-self
overflow_add-self g c = omega (
  arith,
  kept_few c.self.inside.comers.items,
  c.self.invariant.1,
  ap length c.deref.ensures.value,
  c.deref.ensures.len,
  c.in_ok-push.ensures.len,
  c.push.new.self.small,
)

pub invariant_of-self-2 : goal.invariant_of-self-2
invariant_of-self-2 g c =
    let name_of = g.T.HasName.name_of in
    let comers = c.self.inside.comers.items in
    let old = c.self.inside.places in
    let new = c.put.new.self in
    let shown : IsAbsent name_of c.name-name.result.now c.deref.result.now = none_told _ c.place_in.result (sym c.is_some.ensures
    ∙ c.if-is_some.false) c.place_in.ensures in
    let absent : IsAbsent name_of c.name-name.result.now comers = subst (λ l. IsAbsent name_of c.name-name.result.now l) c.deref.ensures.value shown in
    let led = put_leads name_of comers old new c.name-name.result.now c.self.invariant.0 absent c.in_ok-put.ensures.others in
    let at : length comers ≡ c.len.result = omega (arith, ap length c.deref.ensures.value, c.deref.ensures.len, c.len.ensures) in
    let here : place_of (name_of c.args.comer) new ≡ Some (length comers) =
    ap (λ n. place_of n new) (sym c.name-name.ensures) ∙ c.in_ok-put.ensures.here ∙ ap (λ k. Some k) (sym at) in
    let counted : length (kept c.push.new.self.items) ≡ length (kept comers) + 1 = ap (λ l. length (kept l)) c.in_ok-push.ensures.items
    ∙ counted_more comers c.args.comer in
    (rw c.in_ok-push.ensures.items (come_leads name_of comers new c.args.comer led here), omega (arith, counted, c.self.invariant.1))

pub returns-clause-came : goal.returns-clause-came
returns-clause-came g c =
    ap kept c.in_ok-push.ensures.items ∙ kept_more c.self.inside.comers.items c.args.comer ∙ ap (λ l. l ++ (c.args.comer ∷ [])) c.self.view_is

pub returns-clause-few : goal.returns-clause-few
returns-clause-few g c =
    let more : length (kept c.push.new.self.items) ≡ length (kept c.self.inside.comers.items) + 1 =
    ap (λ l. length (kept l)) c.in_ok-push.ensures.items ∙ counted_more c.self.inside.comers.items c.args.comer in
    let few : length (kept c.self.inside.comers.items) + 1 < 2 ^ 64 =
    omega (arith, kept_few c.self.inside.comers.items, ap length c.deref.ensures.value, c.deref.ensures.len, c.in_ok-push.ensures.len, c.push.new.self.small) in
    omega (arith, more, few)
