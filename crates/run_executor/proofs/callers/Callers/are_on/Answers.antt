use Rattle.std.specs.Prelude.{nat_lt, ◌==◌}
use Rattle.std.specs.List.{list_any}
use Rattle.std.proofs.Common.{ap, ◌∙◌}
use Rattle.run_executor.proofs.Named.Roll.Kept.{any_counted}
use Rattle.run_executor.proofs.callers.Callers.are_on.Goals as goal

pub returns : goal.returns
returns g c =
    ap (λ n. nat_lt 0 n) (c.of.ensures ∙ c.self.invariant.on_so c.args.map) ∙ any_counted (λ d. d.map == c.args.map) c.self.inside.comers.items
    ∙ ap (λ l. list_any (λ d. d.map == c.args.map) l) c.self.view_is
