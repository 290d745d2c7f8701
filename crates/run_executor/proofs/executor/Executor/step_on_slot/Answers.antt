-- A step of a row on a slot.
use Rattle.std.proofs.Common.{refl, ap, ◌∙◌}
use Rattle.std.specs.Prelude.{None, slice_set}
use Rattle.run_executor.proofs.executor.Executor.step_on_slot.Goals as goal
use Rattle.run_executor.proofs.Executing.OnSlots.{may_taken, row_at, row_leads, taken_row}
use Rattle.run_executor.specs.Executing.IsThere.{place_of}
use Rattle.run_places.specs.Given.ScenesRows.{uses_after}
use Rattle.run_places.specs.Given.ScenesScene.{slot_of}

pub take_row-slot-requires : goal.take_row-slot-requires
take_row-slot-requires g c =
    (slot_of c.args.caller, c.requires.4, row_at c.requires.0 c.requires.1 _ _ c.requires.3 c.args.caller c.requires.4 c.requires.5)

pub step_row-row-requires : goal.step_row-row-requires
step_row-row-requires g c =
    may_taken c.requires.0 c.requires.1 _ _ c.requires.3 c.args.caller c.requires.4 c.requires.5 _ c.take_row-slot.result.row c.take_row-slot.ensures.before

pub returns-clause-leads : goal.returns-clause-leads
returns-clause-leads g c = λ same hash s at row here.
    row_leads same hash _ s at c.args.caller row here _ _ _ _ c.take_row-slot.result.row
    (taken_row same hash _ s at c.args.caller row here _ c.take_row-slot.result.row c.take_row-slot.ensures.before)
    c.take_row-slot.ensures.there c.step_row-row.ensures
    (c.put_at.ensures ∙ ap (λ xs. slice_set xs (place_of c.args.caller) c.going_on-next.result) c.take_row-slot.ensures.after
    ∙ ap (λ x. slice_set (slice_set c.args.self.now.workers.items (place_of c.args.caller) None) (place_of c.args.caller) x) c.going_on-next.ensures)
    refl refl refl refl (c.note.ensures ∙ ap (λ x. uses_after x c.step_row-row.result.1 c.args.self.now.slots.items) c.change-change.ensures)
