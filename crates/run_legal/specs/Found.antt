-- What a row on a slot finds, and what is retired while no row is under way.
use Rattle.std.specs.Prelude.{◌≡◌, ℕ, Bool, true, false, ◌||◌, List, [], None}
use Rattle.std.specs.List.{list_all}
use Rattle.run_grows.specs.Given.SeizeWorld.{World, Rests, SlotsTaken}
use Rattle.run_grows.specs.Given.TablesDeclared.node.Node.{Node}
use Rattle.run_grows.specs.Given.RunsDeclared.effect.Effect.{Effect}
use Rattle.run_grows.specs.Given.RunsDeclared.effect.Effect.TheVariants.{Asked}
use Rattle.run_grows.specs.Given.RunsDeclared.effect.Growth.TheVariants.{ABucket}
use Rattle.run_grows.specs.Given.RunsDeclared.event.Event.{Event}
use Rattle.run_grows.specs.Given.SchedulesAfter.{moment}
use Rattle.run_grows.specs.Given.SchedulesEffects.{AtEachEffect}
use Rattle.run_grows.specs.Given.SchedulesEntry.{Entry}
use Rattle.run_grows.specs.Given.SchedulesGrowing.{AsksForBucket}
use Rattle.run_grows.specs.Given.SchedulesHanding.{asks_for_bucket, is_reclaiming}
use Rattle.run_grows.specs.Given.SchedulesInUse.{used_slots}
use Rattle.run_grows.specs.Given.SchedulesLists.{least_free}
use Rattle.run_grows.specs.Given.SchedulesLives.{Finds}
use Rattle.run_grows.specs.Given.SchedulesMoment.{Moment}
use Rattle.run_grows.specs.Given.SchedulesTerms.{Terms}
use Rattle.run_grows.specs.Given.EffectsEffects.{effects_of}
use Rattle.run_grows.specs.Given.EffectsKnown.{Known}
use Rattle.run_grows.specs.Given.EffectsDeclared.acting.Acting.TheVariants as acts
use Rattle.run_grows.specs.Given.ScenesDeclared.row.RowTold.{RowTold}
use Rattle.run_grows.specs.Given.ScenesDeclared.row.SlotCall.{SlotCall}
use Rattle.run_grows.specs.Given.ScenesDeclared.row.SlotRow.{SlotRow}
use Rattle.run_grows.specs.Given.MomentsWhole.{RefinesWhole}
use Rattle.run_grows.specs.Given.FindsBounded.{RefinesRetired, TablesApart}
use Rattle.run_grows.specs.Given.KeptKept.{RefinesKept}
use Rattle.run_legal.specs.Chains.{Chain, Come, RowSteps}
use Rattle.run_legal.specs.SlotEvents.{InSlotEvent}
use Rattle.run_grows.specs.Given.ScenesHeld.{Held, IsAt}
use Rattle.run_grows.specs.Given.ScenesOnSlots.{RowLeads}
use Rattle.run_grows.specs.Given.ScenesScene.{IsOnSlot, Scene}

-- where a bucket of slots is asked for, the slot needs it
abbrev pub AsksInNeed : {K V : Type 0} → Moment K V → Effect → Type 0
AsksInNeed m (Asked ABucket) = AsksForBucket m.slots (least_free (used_slots m.there))
AsksInNeed m _ = Unit {0}

module _ (K V : Type 0) (same : K → K → Bool) (hash : ℕ → K → ℕ) where
  -- The promise: the effects of a step of a row on a slot find what they must, if they reclaim, or ask for a bucket of slots in need, and do nothing else.
  abbrev pub RowsFindTheirs : Type 0
  RowsFindTheirs =
      (name : ℕ → List ℕ) (m : Moment K V) (known : Known) (s : Scene K V) (old new : Held K V) → IsAt same hash old s → RefinesWhole same name m known s → RefinesKept name m known s
      → (i : ℕ) (told : RowTold (Node K V)) → RowLeads same hash i told s old new → (row : SlotRow) → IsOnSlot s i row → (terms : Terms)
      → (let effects = effects_of acts.Row known new.changed in
      list_all (λ f. is_reclaiming f || asks_for_bucket f) effects ≡ true → AtEachEffect AsksInNeed None None effects m → AtEachEffect (Finds terms None None false []) None None effects m)

  -- The promise: while no row is under way the moment shows what is retired, if no table is there twice, and as many slots were taken as it says.
  abbrev pub RestShowsRetired : Type 0
  RestShowsRetired =
      (name : ℕ → List ℕ) (m : Moment K V) (known : Known) (s : Scene K V) (e : Held K V) → IsAt same hash e s → RefinesKept name m known s → ((i : ℕ) → s.world.row i ≡ Rests)
      → TablesApart m.tables → SlotsTaken s.world.memory m.slots → RefinesRetired m known s.world

  -- So it is of all that an event has done whose work is a row on a slot, wherever its steps have led.
  abbrev pub RowChainsFind : Type 0
  RowChainsFind =
      (name : ℕ → List ℕ) (terms : Terms) (log : List (Entry K V)) (event : Event K V) (i : ℕ) (called : SlotCall) (first : Known) (began : World (Node K V)) (n : ℕ) (from to : Come K V)
      → Chain (RowSteps same hash terms i) n from to → InSlotEvent same name terms log event i called first began from.did from.now from.notes from.scene → from.did ≡ []
      → list_all (λ f. is_reclaiming f || asks_for_bucket f) to.did ≡ true → AtEachEffect AsksInNeed None None to.did (moment log)
      → AtEachEffect (Finds terms None None false []) None None to.did (moment log)
