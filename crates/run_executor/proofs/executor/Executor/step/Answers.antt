-- A step of a call that a caller has under way.
use Rattle.std.proofs.Common.{length, refl, ap}
use Rattle.run_executor.proofs.executor.Executor.step.Goals as goal
use Rattle.run_executor.proofs.Executing.Steps.{leads_on, may_step}
use Rattle.run_executor.proofs.Executing.Taken.{has_place, taken_call}

pub take_call-slot-requires : goal.take_call-slot-requires
take_call-slot-requires g c = has_place _ _ _ _ c.requires.1 c.args.caller c.requires.2

pub step_out-requires-clause-may : goal.step_out-requires-clause-may
step_out-requires-clause-may g c =
    let taken = taken_call _ _ _ _ c.requires.1 c.args.caller c.requires.2.0 c.requires.2.1 c.requires.2.2 _ _ c.take_call-slot.result.machine c.take_call-slot.ensures.before in
    rw taken.2 (may_step _ _ _ _ c.requires.1 c.requires.2.0 c.args.caller c.requires.2.1 c.requires.2.2)

pub returns-clause-leads : goal.returns-clause-leads
returns-clause-leads g c = λ s at m u here.
    leads_on _ _ _ s at m c.args.caller u here _ c.step_out.new.self refl c.take_call-slot.ensures.after refl refl refl refl refl c.step_out.result _ _ c.take_call-slot.result.machine
    (taken_call _ _ _ s at c.args.caller m u here _ _ c.take_call-slot.result.machine c.take_call-slot.ensures.before) c.step_out.ensures.stepped

pub returns-clause-given : goal.returns-clause-given
returns-clause-given g c = (c.step_out.ensures.stepped.2.hasher, c.step_out.ensures.stepped.2.batch_size, c.step_out.ensures.stepped.2.roots, ap length c.step_out.ensures.stepped.2.maps)

pub returns-clause-refused : goal.returns-clause-refused
returns-clause-refused g c = c.step_out.ensures.refused
