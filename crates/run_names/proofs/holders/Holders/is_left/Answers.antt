use Rattle.std.specs.Prelude.{◌==◌, ◌&&◌}
use Rattle.std.proofs.Common.{ℕ, Bool, length, ap, ◌∙◌}
use Rattle.run_schedules.specs.Runs.Present.{Present, all_forgotten}
use Rattle.run_names.proofs.Presence.Crowds.Counts.{none_lives}
use Rattle.run_names.proofs.holders.Holders.is_left.Goals as goal

pub returns-then-is_empty : goal.returns-then-is_empty
returns-then-is_empty c =
    ap (λ (n : ℕ). n == 0) c.self.invariant.all_so ∙ none_lives c.self.inside.guards
    ∙ ap (λ (b : Bool). b && all_forgotten c.self.inside.guards) c.if-is_empty.ensures
    ∙ ap (λ (p : Present). (length p.registrations == 0) && all_forgotten p.guards) c.self.view_is
