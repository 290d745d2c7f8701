-- Which kinds are of calls and of maps.
use Rattle.std.specs.Prelude.{◌≡◌, true, false}
use Rattle.std.proofs.Common.{refl}
use Rattle.play_events.specs.Events.Asked.{is_of_calls, is_of_maps}
use Rattle.papaya_steps.specs.WholeRuns.Kinds.{event_of_call, event_of_maps, event_of_slots}
use Rattle.papaya_steps.specs.declared.kinds.CallEvent.{CallEvent}
use Rattle.papaya_steps.specs.declared.kinds.CallEvent.TheVariants.{Begin, Step, Go, Replied, OneCall, Next, Stop}
use Rattle.papaya_steps.specs.declared.kinds.MapEvent.{MapEvent}
use Rattle.papaya_steps.specs.declared.kinds.MapEvent.TheVariants.{MakeMap, EndMap, ShowShape, ReclaimAll, Close}
use Rattle.papaya_steps.specs.declared.kinds.SlotEvent.{SlotEvent}
use Rattle.papaya_steps.specs.declared.kinds.SlotEvent.TheVariants.{Collector, Hash, Choose, Register, Unregister, Enter, Own, Refresh, Flush, DropGuard, Forget}

module _ {K V : Type 0} where
  pub a_call : (e : CallEvent K V) → is_of_calls {K = K} {V = V} (event_of_call e) ≡ true
  a_call (Begin c g n call) = refl
  a_call (Step c refuse) = refl
  a_call (Go c refuse) = refl
  a_call (Replied c reply) = refl
  a_call (OneCall g n call) = refl
  a_call (Next c) = refl
  a_call (Stop c) = refl

pub maps_no_call : (K V : Type 0) (e : MapEvent) → is_of_calls {K = K} {V = V} (event_of_maps e) ≡ false
maps_no_call K V (MakeMap n mode capacity) = refl
maps_no_call K V (EndMap n) = refl
maps_no_call K V (ShowShape n) = refl
maps_no_call K V ReclaimAll = refl
maps_no_call K V Close = refl

pub slots_no_call : (K V : Type 0) (e : SlotEvent) → is_of_calls {K = K} {V = V} (event_of_slots e) ≡ false
slots_no_call K V (Collector setup) = refl
slots_no_call K V (Hash by) = refl
slots_no_call K V (Choose choice) = refl
slots_no_call K V (Register r) = refl
slots_no_call K V (Unregister r) = refl
slots_no_call K V (Enter g r) = refl
slots_no_call K V (Own g) = refl
slots_no_call K V (Refresh g) = refl
slots_no_call K V (Flush g) = refl
slots_no_call K V (DropGuard g) = refl
slots_no_call K V (Forget g) = refl

pub no_maps : (K V : Type 0) (e : SlotEvent) → is_of_maps {K = K} {V = V} (event_of_slots e) ≡ false
no_maps K V (Collector setup) = refl
no_maps K V (Hash by) = refl
no_maps K V (Choose choice) = refl
no_maps K V (Register r) = refl
no_maps K V (Unregister r) = refl
no_maps K V (Enter g r) = refl
no_maps K V (Own g) = refl
no_maps K V (Refresh g) = refl
no_maps K V (Flush g) = refl
no_maps K V (DropGuard g) = refl
no_maps K V (Forget g) = refl
