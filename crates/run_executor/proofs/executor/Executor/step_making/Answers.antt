-- A step of the making of a map.
use Rattle.std.proofs.Common.{length, refl, ap, ◌∙◌}
use Rattle.std.specs.Prelude.{None, slice_set}
use Rattle.run_executor.proofs.executor.Executor.step_making.Goals as goal
use Rattle.run_executor.proofs.Executing.Makings.{has_making, has_number, making_leads, may_taken, same_count, taken_making}
use Rattle.run_executor.specs.Executing.IsThere.{place_of}

pub take_making-slot-requires : goal.take_making-slot-requires
take_making-slot-requires g c = has_making c.requires.0 c.requires.1 _ _ c.requires.3 c.args.caller c.requires.4

pub step_telling-progress-requires : goal.step_telling-progress-requires
step_telling-progress-requires g c =
    may_taken c.requires.0 c.requires.1 _ _ c.requires.3 c.args.caller c.requires.4 _ _ c.take_making-slot.result.opening c.take_making-slot.ensures.before

pub keep-requires : goal.keep-requires
keep-requires g c = has_number c.requires.0 c.requires.1 _ _ c.requires.3 c.args.caller c.requires.4 _ _ c.take_making-slot.result.opening c.take_making-slot.ensures.before

pub returns-clause-numbers : goal.returns-clause-numbers
returns-clause-numbers g c = ap length c.keep.ensures ∙ same_count _ _ _

pub returns-clause-leads : goal.returns-clause-leads
returns-clause-leads g c = λ same hash s at b here.
    making_leads same hash _ s at c.args.caller b here _ _ c.step_telling-progress.result _ _ c.take_making-slot.result.opening
    (taken_making same hash _ s at c.args.caller b here _ _ c.take_making-slot.result.opening c.take_making-slot.ensures.before)
    c.take_making-slot.ensures.there c.step_telling-progress.ensures
    (c.put_at.ensures ∙ ap (λ xs. slice_set xs (place_of c.args.caller) c.going_on-next.result) c.take_making-slot.ensures.after
    ∙ ap (λ x. slice_set (slice_set c.args.self.now.workers.items (place_of c.args.caller) None) (place_of c.args.caller) x) c.going_on-next.ensures)
    refl refl refl refl c.keep.ensures

pub returns-clause-given : goal.returns-clause-given
returns-clause-given g c = (refl, refl, refl, ap length c.keep.ensures ∙ same_count _ _ _)
