use Rattle.std.specs.Prelude.{is_some, position, slice_get, slice_set}
use Rattle.std.proofs.Common.{refl, sym, ap, subst, ◌∙◌}
use Rattle.run_names.proofs.Presence.Crowds.Homes.{none_told, stands_read}
use Rattle.run_executor.specs.Named.Roll.{AreKept, newest}
use Rattle.run_executor.specs.Named.Seen.{is_named}
use Rattle.run_executor.specs.Named.Telling.{kept_by}
use Rattle.run_executor.proofs.Named.Roll.Comes.{changed_kept}
use Rattle.run_executor.proofs.Named.Roll.Found.{absent_none, set_here, stands_here, who_here}
use Rattle.run_executor.proofs.callers.Callers.change.Goals as goal

pub invariant_of-self : goal.invariant_of-self
invariant_of-self g c =
    let comers = c.self.inside.comers.items in
    let place = c.in-Some.place in
    let d = c.in-Some.ensures.0 in
    let there = stands_here c.args.name.now c.deref.result.now comers c.self.inside.places c.deref.ensures.value c.self.invariant.leads place c.in-Some.ensures in
    let told = c.change.ensures d (stands_read comers place d c.index_mut.result.now there c.index_mut.ensures.value) in
    subst (λ x. AreKept (slice_set comers place x) c.self.inside.places c.self.inside.under c.self.inside.on c.self.inside.count) (sym told)
    (changed_kept comers c.self.inside.places c.self.inside.under c.self.inside.on c.self.inside.count place d (record d { stands = c.args.stands; value = kept_by c.args.keeps d.kind d.value })
    c.self.invariant there refl refl refl)

pub returns-in-Some : goal.returns-in-Some
returns-in-Some g c = λ k caller is at.
    let comers = c.self.inside.comers.items in
    let place = c.in-Some.place in
    let d = c.in-Some.ensures.0 in
    let there = stands_here c.args.name.now c.deref.result.now comers c.self.inside.places c.deref.ensures.value c.self.invariant.leads place c.in-Some.ensures in
    let told = c.change.ensures d (stands_read comers place d c.index_mut.result.now there c.index_mut.ensures.value) in
    let placed = ap (position (is_named c.args.name.now)) c.self.view_is ∙ is in
    let got = ap (λ l. slice_get l k) c.self.view_is ∙ at in
    let who = who_here c.args.name.now c.deref.result.now comers c.self.inside.places c.deref.ensures.value c.self.invariant.leads place c.in-Some.ensures k caller placed got in
    ap (λ x. newest (slice_set comers place x)) told
    ∙ set_here c.args.name.now c.deref.result.now comers c.self.inside.places c.deref.ensures.value c.self.invariant.leads place c.in-Some.ensures
    (record d { stands = c.args.stands; value = kept_by c.args.keeps d.kind d.value }) k placed
    ∙ ap (λ l. slice_set l k (record d { stands = c.args.stands; value = kept_by c.args.keeps d.kind d.value })) c.self.view_is
    ∙ ap (λ e. slice_set c.args.self.now k (record e { stands = c.args.stands; value = kept_by c.args.keeps e.kind e.value })) who

pub returns-in_default : goal.returns-in_default
returns-in_default g c = λ k caller is at.
    let placed = ap (position (is_named c.args.name.now)) c.self.view_is ∙ is in
    let none = absent_none c.args.name.now c.deref.result.now c.self.inside.comers.items c.self.inside.places c.deref.ensures.value c.self.invariant.leads
    (none_told _ c.place_of.result (ap is_some c.in_default.is) c.place_of.ensures) in
    absurd (cc (placed, none))
