-- No event is kept yet.
use Rattle.std.specs.Prelude.{List, [], length}
use Rattle.std.proofs.Common.{◌≡◌, ap, sym, subst, ◌∙◌}
use Rattle.run_schedules.specs.declared.setup.Setup.{Setup}
use Rattle.run_names.specs.Crews.Crew.{events_of}
use Rattle.run_names.proofs.locked.Locked.new.Goals as goal

pub invariant_of-result : goal.invariant_of-result
invariant_of-result g c =
    let none : c.new-schedule.result.items ≡ [] = c.new-schedule.ensures.items in (
      (c.requires.setup, c.requires.copies),
      ap length none ∙ sym c.requires.none,
      λ whole. subst (λ (l : List g.row.E.Denot). g.R.Runner.has_come g.N.CrewName.setup l c.in_ok-runner.runner) (sym (ap events_of none))
          (subst (λ (s : Setup). g.R.Runner.has_come s [] c.in_ok-runner.runner) c.requires.setup c.in_ok-runner.ensures),
    )
