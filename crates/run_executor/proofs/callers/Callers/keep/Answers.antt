use Rattle.std.specs.Prelude.{slice_set}
use Rattle.std.proofs.Common.{ap, ◌∙◌}
use Rattle.run_executor.specs.Named.Telling.{kept_by}
use Rattle.run_executor.specs.declared.callers.Keeps.TheVariants.{Unstored}
use Rattle.run_executor.specs.declared.caller.Stands.TheVariants.{Goes}
use Rattle.run_executor.proofs.Named.Roll.Keeps.{unstored_kept}
use Rattle.run_executor.proofs.callers.Callers.keep.Goals as goal

pub returns : goal.returns
returns g c = λ place caller is at.
    c.change.ensures place caller is at
    ∙ ap (λ v. slice_set c.args.self.now place (record caller { stands = Goes; value = v }))
    (ap (λ o. kept_by (Unstored o) caller.kind caller.value) c.value_of.ensures ∙ unstored_kept caller.kind c.args.unstored caller.value)
