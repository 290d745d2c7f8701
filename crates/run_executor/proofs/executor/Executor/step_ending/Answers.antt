-- A step of the end of a map.
use Rattle.std.proofs.Common.{refl, ap, ◌∙◌}
use Rattle.std.specs.Prelude.{None, slice_set}
use Rattle.run_executor.proofs.executor.Executor.step_ending.Goals as goal
use Rattle.run_executor.proofs.Executing.Endings.{ending_leads, has_ending, may_taken, taken_ending}
use Rattle.run_executor.specs.Executing.IsThere.{place_of}

pub take_ending-slot-requires : goal.take_ending-slot-requires
take_ending-slot-requires g c = has_ending c.requires.0 c.requires.1 _ _ c.requires.3 c.args.caller c.requires.4

pub step_telling-told-requires : goal.step_telling-told-requires
step_telling-told-requires g c =
    may_taken c.requires.0 c.requires.1 _ _ c.requires.3 c.args.caller c.requires.4 _ c.take_ending-slot.result.ending c.take_ending-slot.ensures.before

pub returns-clause-leads : goal.returns-clause-leads
returns-clause-leads g c = λ same hash s at f here.
    ending_leads same hash _ s at c.args.caller f here _ _ c.step_telling-told.result _ c.take_ending-slot.result.ending
    (taken_ending same hash _ s at c.args.caller f here _ c.take_ending-slot.result.ending c.take_ending-slot.ensures.before)
    c.take_ending-slot.ensures.there c.step_telling-told.ensures
    (c.put_at.ensures ∙ ap (λ xs. slice_set xs (place_of c.args.caller) c.going_on-next.result) c.take_ending-slot.ensures.after
    ∙ ap (λ x. slice_set (slice_set c.args.self.now.workers.items (place_of c.args.caller) None) (place_of c.args.caller) x) c.going_on-next.ensures)
    refl refl refl refl refl
