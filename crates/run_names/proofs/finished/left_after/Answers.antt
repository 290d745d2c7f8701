-- An event of another driver.
use Rattle.std.specs.Prelude.{Bool, ◌∷◌, if◌then◌else◌}
use Rattle.std.proofs.Common.{ap}
use Rattle.std.proofs.lemmas.Bool.{ne_eqb}
use Rattle.run_names.specs.Crews.Crew.{same_list}
use Rattle.run_names.proofs.finished.left_after.Goals as goal

pub returns-else-kept-number-clause-rest : goal.returns-else-kept-number-clause-rest
returns-else-kept-number-clause-rest g c = λ later.
    ap (λ (b : Bool). same_list g.R.Runner.same_event g.R.Runner.same_outcome (if b then record { event = c.args.kept.now.event; outcome = c.args.outcome.now } ∷ later else later) c.args.list.now)
    (ne_eqb c.args.kept.now.driver c.args.number c.if-kept-number.false)
