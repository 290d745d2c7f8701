-- What rows on slots do, from their beginnings on: some do nothing, registering asks for buckets of slots alone, and what leaves a slot reclaims alone.
use Rattle.std.specs.Prelude.{◌≡◌, ℕ, Bool, true, false, List, []}
use Rattle.std.specs.List.{list_all}
use Rattle.run_grows.specs.Given.SeizeWorld.{Begin, IsInside}
use Rattle.run_grows.specs.Given.RunsDeclared.effect.Effect.{Effect}
use Rattle.run_grows.specs.Given.RunsDeclared.event.Event.{Event}
use Rattle.run_grows.specs.Given.SchedulesAfter.{moment}
use Rattle.run_grows.specs.Given.SchedulesEntry.{Entry}
use Rattle.run_grows.specs.Given.SchedulesHanding.{asks_for_bucket, is_reclaiming}
use Rattle.run_grows.specs.Given.SchedulesTerms.{Terms}
use Rattle.run_grows.specs.Given.EffectsKnown.{Known}
use Rattle.run_grows.specs.Given.ScenesDeclared.row.SlotCall.{SlotCall}
use Rattle.run_grows.specs.Given.ScenesDeclared.row.SlotCall.TheVariants as call
use Rattle.run_grows.specs.Given.OthersRows.{scene_then}
use Rattle.run_legal.specs.Chains.{Chain, Come, RowSteps}
use Rattle.run_legal.specs.SlotEvents.{InSlotEvent}
use Rattle.run_grows.specs.Given.ScenesHeld.{Held, IsAt}
use Rattle.run_grows.specs.Given.ScenesOnSlots.{RowBegins}
use Rattle.run_grows.specs.Given.ScenesRows.{request_of}
use Rattle.run_grows.specs.Given.ScenesScene.{Scene, slot_of}

-- what a caller's row may do on its slot
abbrev pub may_row : SlotCall → Effect → Bool
may_row (call.Register enters) f = asks_for_bucket f
may_row call.Leave f = is_reclaiming f
may_row call.LeaveOwned f = is_reclaiming f
may_row call.Refresh f = is_reclaiming f
may_row _ f = false

module _ {K V : Type 0} (same : K → K → Bool) (hash : ℕ → K → ℕ) where
  -- how far an event has come whose row has just begun
  abbrev pub row_begun : (log : List (Entry K V)) (known : Known) (s : Scene K V) (called : SlotCall) (i : ℕ) (old new : Held K V) → RowBegins same hash called i s old new → Come K V
  row_begun log known s called i old new leads = record {
    held = new;
    did = [];
    now = moment log;
    notes = known;
    scene = scene_then same hash (Begin i (request_of (slot_of i) called)) s old new leads.2;
  }

module _ (K V : Type 0) (same : K → K → Bool) (hash : ℕ → K → ℕ) where
  -- The promise: all that an event does whose work is such a row, which has begun in the scene, the row may do; one that flushes its slot does so within a section.
  abbrev pub RowsDoTheirs : Type 0
  RowsDoTheirs =
      (name : ℕ → List ℕ) (terms : Terms) (log : List (Entry K V)) (known : Known) (s : Scene K V) (old new : Held K V) → IsAt same hash old s
      → (event : Event K V) (i : ℕ) (called : SlotCall) (leads : RowBegins same hash called i s old new)
      → (called ≡ call.Flush → IsInside (s.world.uses (slot_of i)))
      → (let begun = row_begun same hash log known s called i old new leads in
      InSlotEvent same name terms log event i called known s.world begun.did begun.now begun.notes begun.scene
      → (n : ℕ) (to : Come K V) → Chain (RowSteps same hash terms i) n begun to → list_all (may_row called) to.did ≡ true)
