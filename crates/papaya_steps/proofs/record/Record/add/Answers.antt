-- An event is written down: one that was out of turn is a single event itself.
use Rattle.std.specs.Prelude.{◌≡◌, ◌++◌, ◌∷◌, [], ℕ, Bool, List, length, if◌then◌else◌}
use Rattle.std.proofs.Common.{sym, ap, ◌∙◌}
use Rattle.run_schedules.specs.declared.shapes.Single.{Single}
use Rattle.run_schedules.specs.declared.shapes.Single.TheVariants as single
use Rattle.papaya_steps.specs.WholeRuns.Acting.{singles_as}
use Rattle.papaya_steps.specs.declared.acting.Traced.{Traced}
use Rattle.papaya_steps.specs.declared.acting.Traced.TheVariants.{Whole}
use Rattle.papaya_steps.proofs.WholeRuns.Logs.{by_turn}
use Rattle.papaya_steps.proofs.record.Record.add.Goals as goal
use Rattle.papaya_steps.proofs.record.Record.add.Goals.{then-is_busy, else-is_busy}

pub returns-clause-trace : goal.returns-clause-trace
returns-clause-trace g c =
    let place = length c.args.self.now.outcomes.items in
    let place_is : c.len-place.result ≡ place = c.len-place.ensures ∙ c.args.self.now.outcomes.ok.0 in
    let so : c.if-is_busy.traced ≡ (if c.is_busy.result then Whole else c.args.traced) =
    elim c.if-is_busy.branch [
      | then-is_busy w ↦ w.traced-is ∙ ap (λ (b : Bool). if b then Whole else c.args.traced) (sym w.if-is_busy.true)
      | else-is_busy w ↦ w.traced-is ∙ ap (λ (b : Bool). if b then Whole else c.args.traced) (sym w.if-is_busy.false)
    ] in
    c.in_ok-add_singles.ensures
    ∙ ap (λ (l : List Single). c.args.self.now.trace.items ++ l)
    (ap (λ (n : ℕ). singles_as n c.if-is_busy.traced c.args.played.steps) place_is ∙ ap (λ (t : Traced). singles_as place t c.args.played.steps) so
    ∙ by_turn place c.args.played.steps c.args.traced c.is_busy.result ∙ ap (λ (b : Bool). if b then single.Whole place ∷ [] else singles_as place c.args.traced c.args.played.steps) c.is_busy.ensures)
