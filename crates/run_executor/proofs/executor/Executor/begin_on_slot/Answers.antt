-- The beginning of a row on a slot.
use Rattle.std.proofs.Common.{rules, ◌≡◌, ◌+◌, ◌*◌, ◌++◌, ◌∷◌, [], ℕ, length, refl, sym, ap, subst, ◌∙◌}
use Rattle.std.specs.Prelude.{Some}
use Rattle.run_places.specs.Given.ScenesDeclared.row.SlotRow.{SlotRow}
use Rattle.run_places.specs.Given.ScenesDeclared.callers.TheConstants.{SLOTS}
use Rattle.run_executor.specs.declared.worker.Work.TheVariants as work
use Rattle.run_executor.proofs.executor.Executor.begin_on_slot.Goals as goal
use Rattle.run_executor.proofs.Executing.OnSlotBegun.{row_begins}
use Rattle.run_executor.specs.Executing.OnSlots.{RowBeginsThere}

pub returns-clause-leads : goal.returns-clause-leads
returns-clause-leads g c = λ same hash s at.
    let count : c.len-place.result ≡ length c.args.self.now.workers.items = search (rules, c.len-place.ensures) in
    let new = record c.args.self.now { workers = c.push.new.self; slots = c.note_begun.new.slots } in
    let items = c.in_ok-push.ensures.items
    ∙ ap (λ (x : SlotRow). c.args.self.now.workers.items ++ Some (record { slot = c.args.slot; work = work.OnSlot x }) ∷ []) c.begin-row.ensures in
    subst (λ (n : ℕ). RowBeginsThere same hash c.args.called (n * SLOTS + c.args.slot) s c.args.self.now new) (sym count)
    (row_begins same hash c.args.self.now s at c.args.slot c.requires c.args.called new refl items refl refl refl refl c.note_begun.ensures)
