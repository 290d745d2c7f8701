-- Calls hand over in order, step by step, and event by event.
use Rattle.play_events.proofs.Folded.Steps.{call_events_hand_in_order, steps_hand_in_order}
use Rattle.play_events.proofs.law.calls_hand_in_order.Goals as goal

pub returns : goal.returns
returns c d = record { steps = steps_hand_in_order _ _; events = call_events_hand_in_order _ _ }
