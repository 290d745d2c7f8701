-- On which map a call is.
use Rattle.std.specs.Prelude.{option_copied, option_map}
use Rattle.std.proofs.Common.{sym, ap, ◌∙◌}
use Rattle.papaya_steps.proofs.WholeRuns.CallerFound.{called_found}
use Rattle.papaya_steps.proofs.acting.called_map.Goals as goal

pub returns-in-Some : goal.returns-in-Some
returns-in-Some g c = ap (option_map (λ d. d.map)) (c.in-Some.ensures ∙ called_found c.args.caller.now c.args.scheduler.now.calls)

pub returns-in-None : goal.returns-in-None
returns-in-None g c = ap (option_map (λ d. d.map)) (sym (ap option_copied c.in-None.is) ∙ c.get.ensures ∙ called_found c.args.caller.now c.args.scheduler.now.calls)
