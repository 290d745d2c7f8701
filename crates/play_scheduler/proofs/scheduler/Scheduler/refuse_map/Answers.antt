-- A map is not made that is kept out.
use Rattle.std.proofs.Common.{refl, sym, ◌∙◌}
use Rattle.play_scheduler.proofs.Refused.{making_busy, making_faulty}
use Rattle.play_scheduler.proofs.scheduler.Scheduler.refuse_map.Goals as goal

pub returns-in_default : goal.returns-in_default
returns-in_default g c = record {
  outcome = making_busy c.args.mode c.args.capacity c.busy.result.outcome (sym c.fault_of.ensures ∙ c.in_default.is) c.busy.ensures.outcome;
  steps = c.busy.ensures.steps;
  effects = c.busy.ensures.effects;
  mapped = refl;
}

pub returns : goal.returns
returns g c = record {
  outcome = making_faulty c.args.mode c.args.capacity c.quietly.result.outcome c.in-Some.fault (sym c.fault_of.ensures ∙ c.in-Some.is) c.quietly.ensures.outcome;
  steps = c.quietly.ensures.steps;
  effects = c.quietly.ensures.effects;
  mapped = refl;
}
