-- Which event one of a call, of maps or of slots is.
use Rattle.run_schedules.specs.declared.event.Event.{Event}
use Rattle.run_schedules.specs.declared.event.Event.TheVariants as event
use Rattle.papaya_steps.specs.declared.kinds.CallEvent.{CallEvent}
use Rattle.papaya_steps.specs.declared.kinds.CallEvent.TheVariants as call
use Rattle.papaya_steps.specs.declared.kinds.MapEvent.{MapEvent}
use Rattle.papaya_steps.specs.declared.kinds.MapEvent.TheVariants as maps
use Rattle.papaya_steps.specs.declared.kinds.SlotEvent.{SlotEvent}
use Rattle.papaya_steps.specs.declared.kinds.SlotEvent.TheVariants as slots
use Rattle.papaya_steps.specs.declared.kinds.Kind.{Kind}
use Rattle.papaya_steps.specs.declared.kinds.Kind.TheVariants.{OfCall, OfMaps, OfSlots}

module _ {K V : Type 0} where
  abbrev pub event_of_call : CallEvent K V → Event K V
  event_of_call (call.Begin caller guard map call) = event.Begin caller guard map call
  event_of_call (call.Step caller refuse) = event.Step caller refuse
  event_of_call (call.Go caller refuse) = event.Go caller refuse
  event_of_call (call.Replied caller reply) = event.Replied caller reply
  event_of_call (call.OneCall guard map call) = event.OneCall guard map call
  event_of_call (call.Next caller) = event.Next caller
  event_of_call (call.Stop caller) = event.Stop caller

  abbrev pub event_of_maps : MapEvent → Event K V
  event_of_maps (maps.MakeMap map mode capacity) = event.MakeMap map mode capacity
  event_of_maps (maps.EndMap map) = event.EndMap map
  event_of_maps (maps.ShowShape map) = event.ShowShape map
  event_of_maps maps.ReclaimAll = event.ReclaimAll
  event_of_maps maps.Close = event.Close

  abbrev pub event_of_slots : SlotEvent → Event K V
  event_of_slots (slots.Collector setup) = event.Collector setup
  event_of_slots (slots.Hash by) = event.Hash by
  event_of_slots (slots.Choose choice) = event.Choose choice
  event_of_slots (slots.Register registration) = event.Register registration
  event_of_slots (slots.Unregister registration) = event.Unregister registration
  event_of_slots (slots.Enter guard registration) = event.Enter guard registration
  event_of_slots (slots.Own guard) = event.Own guard
  event_of_slots (slots.Refresh guard) = event.Refresh guard
  event_of_slots (slots.Flush guard) = event.Flush guard
  event_of_slots (slots.DropGuard guard) = event.DropGuard guard
  event_of_slots (slots.Forget guard) = event.Forget guard

  abbrev pub event_of : Kind K V → Event K V
  event_of (OfCall e) = event_of_call e
  event_of (OfMaps e) = event_of_maps e
  event_of (OfSlots e) = event_of_slots e
