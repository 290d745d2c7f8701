use Rattle.std.specs.Prelude.{◌==◌}
use Rattle.std.proofs.Common.{length, ap, sym, ◌∙◌}
use Rattle.run_executor.proofs.Named.Roll.Kept.{newest_length}
use Rattle.run_executor.proofs.callers.Callers.is_empty.Goals as goal

pub returns : goal.returns
returns g c =
    ap (λ n. n == 0) (c.self.invariant.count_so ∙ sym (newest_length c.self.inside.comers.items)) ∙ ap (λ l. length l == 0) c.self.view_is
