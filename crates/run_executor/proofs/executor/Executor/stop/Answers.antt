-- A walk is given up.
use Rattle.std.proofs.Common.{refl, ap, ◌∙◌}
use Rattle.std.specs.Prelude.{None, slice_set}
use Rattle.run_executor.proofs.executor.Executor.stop.Goals as goal
use Rattle.run_executor.proofs.Executing.Makings.{set_there}
use Rattle.run_executor.proofs.Executing.Stops.{stop_leads}
use Rattle.run_executor.proofs.Executing.Taken.{has_place, taken_call}
use Rattle.run_executor.specs.Executing.IsThere.{place_of}

pub take_call-slot-requires : goal.take_call-slot-requires
take_call-slot-requires g c = has_place _ _ _ _ c.requires.3 c.args.caller c.requires.4

pub returns-clause-leads : goal.returns-clause-leads
returns-clause-leads g c = λ same hash s at. (
  λ has. refl,
  λ m u here.
      stop_leads same hash c.args.self.now s at m c.args.caller u here _ refl _ _ c.take_call-slot.result.machine
      (taken_call same hash _ s at c.args.caller m u here _ _ c.take_call-slot.result.machine c.take_call-slot.ensures.before) c.is_ready-ready.result c.is_ready-ready.ensures
      (set_there c.args.self.now _ (place_of c.args.caller) _ c.take_call-slot.ensures.there
      (c.put_at.ensures ∙ ap (λ xs. slice_set xs (place_of c.args.caller) c.unless_stopped-next.result) c.take_call-slot.ensures.after
      ∙ ap (λ x. slice_set (slice_set c.args.self.now.workers.items (place_of c.args.caller) None) (place_of c.args.caller) x) c.unless_stopped-next.ensures)
      refl refl refl refl refl),
)
