use Rattle.std.specs.Prelude.{option_copied}
use Rattle.std.proofs.Common.{ap, sym, arith, ◌∙◌}
use Rattle.run_names.proofs.Presence.Crowds.Homes.{stands_read, stands_within}
use Rattle.run_executor.specs.Named.Roll.{called}
use Rattle.run_executor.proofs.Named.Roll.Found.{called_here, called_none, stands_here}
use Rattle.run_executor.proofs.Named.Roll.Kept.{nobody_there}
use Rattle.run_executor.proofs.callers.Callers.get.Goals as goal

pub returns-then-self-eq0 : goal.returns-then-self-eq0
returns-then-self-eq0 g c =
    ap (λ l. called c.args.name.now l) (sym (nobody_there c.self.inside.comers.items c.args.self.now c.self.view_is (sym c.self.invariant.count_so ∙ c.if-self-eq0.true)))

pub returns-in_err-place : goal.returns-in_err-place
returns-in_err-place g c =
    ap (λ r. option_copied r) c.from_residual.ensures
    ∙ sym (called_none c.args.name.now c.deref.result.now c.self.inside.comers.items c.self.inside.places c.deref.ensures.value c.self.invariant.leads c.in_err-place.ensures)
    ∙ ap (λ l. called c.args.name.now l) c.self.view_is

pub index-requires : goal.index-requires
index-requires g c =
    let h = c.in_ok-place.ensures in
    omega (arith, stands_within c.deref.result.now c.in_ok-place.place h.0 h.1, c.deref.ensures.len)

pub returns : goal.returns
returns g c =
    let comers = c.self.inside.comers.items in
    let here = stands_here c.args.name.now c.deref.result.now comers c.self.inside.places c.deref.ensures.value c.self.invariant.leads c.in_ok-place.place c.in_ok-place.ensures in
    c.as_ref.ensures.value ∙ stands_read comers c.in_ok-place.place c.in_ok-place.ensures.0 c.index.result.now here c.index.ensures
    ∙ sym (called_here c.args.name.now c.deref.result.now comers c.self.inside.places c.deref.ensures.value c.self.invariant.leads c.in_ok-place.place c.in_ok-place.ensures)
    ∙ ap (λ l. called c.args.name.now l) c.self.view_is
