-- What is promised of guards that come and go: those that are there are within sections, and these shelter what they do.
use Rattle.std.specs.Prelude.{◌≡◌, ℕ, List, Some}
use Rattle.run_places.specs.Given.SeizeWorld.{World, IsInside}
use Rattle.run_places.specs.Given.TablesDeclared.node.Node.{Node}
use Rattle.run_places.specs.Given.RunsPresent.{Present, HaveNames, guard_of, guards_on, slot_of_registration, drops}
use Rattle.run_places.specs.Given.RunsDeclared.holders.NamedGuard.{NamedGuard}
use Rattle.run_places.specs.Given.RunsDeclared.event.Event.{Event}
use Rattle.run_places.specs.Given.RunsDeclared.event.Event.TheVariants.{Enter, Own}
use Rattle.run_places.specs.Given.RunsDeclared.outcome.Outcome.{Outcome}
use Rattle.run_places.specs.Given.RunsDeclared.outcome.Outcome.TheVariants.{Done, Slot}
use Rattle.run_places.specs.Given.SchedulesAfter.{there_on, sheltered_on}
use Rattle.run_places.specs.Given.SchedulesMoment.{Sheltered}
use Rattle.run_places.specs.Given.EffectsKnown.{Known}
use Rattle.run_histories.specs.Promises.Others.{NobodyOn}
use Rattle.run_histories.specs.Promises.Sheltered.{GuardsAreInside, AreSheltered}

module _ {K V : Type 0} (w : World (Node K V)) where
  -- a guard that enters has a slot that is within a section
  abbrev pub EntersInside : Event K V → Outcome V → Present → Type 0
  EntersInside (Enter guard registration) Done there = IsInside (w.uses (slot_of_registration registration there))
  EntersInside (Own guard) (Slot s) there = IsInside (w.uses s)
  EntersInside _ _ there = Unit {0}

module _ (K V : Type 0) where
  -- The promises: so it is after an event by which guards come or go,
  abbrev pub GuardsComeAndGo : Type 0
  GuardsComeAndGo =
      (w : World (Node K V)) (known : Known) (there : Present) (sheltered : List Sheltered) → GuardsAreInside there w → AreSheltered there w known sheltered
      → (event : Event K V) (outcome : Outcome V) → EntersInside w event outcome there
      → GuardsAreInside (there_on event outcome there) w × AreSheltered (there_on event outcome there) w known (sheltered_on event outcome sheltered)

  -- and of that one, too, once its section is open again.
  abbrev pub OneIsInsideAgain : Type 0
  OneIsInsideAgain =
      (w : World (Node K V)) (known : Known) (there : Present) (sheltered : List Sheltered) (guard : List ℕ)
      → (g : NamedGuard) → guard_of guard there.guards ≡ Some g → IsInside (w.uses g.slot)
      → GuardsAreInside (drops guard there) w → AreSheltered (drops guard there) w known sheltered
      → GuardsAreInside there w × AreSheltered there w known sheltered

-- The slot of the only guard on it has nobody without that one.
abbrev pub OnlyGuardsLeaveNobody : Type 0
OnlyGuardsLeaveNobody =
    (there : Present) → HaveNames there → (guard : List ℕ) (g : NamedGuard) → guard_of guard there.guards ≡ Some g → guards_on g.slot there.guards ≡ 1
    → NobodyOn g.slot (drops guard there)
