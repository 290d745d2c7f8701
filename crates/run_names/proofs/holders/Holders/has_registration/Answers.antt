use Rattle.std.specs.Prelude.{nat_lt}
use Rattle.std.proofs.Common.{ℕ, ap, ◌∙◌}
use Rattle.run_schedules.specs.Runs.Present.{Present, has_registration}
use Rattle.run_names.proofs.Presence.Crowds.Counts.{some_registered}
use Rattle.run_names.proofs.holders.Holders.has_registration.Goals as goal

pub returns : goal.returns
returns c =
    ap (λ (n : ℕ). nat_lt 0 n) (c.of.ensures ∙ c.self.invariant.registered_so c.args.slot) ∙ some_registered c.args.slot c.self.inside.registrations
    ∙ ap (λ (p : Present). has_registration c.args.slot p.registrations) c.self.view_is
