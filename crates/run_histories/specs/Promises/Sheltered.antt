-- What left its map while guards were there: their critical sections hold it still.
use Rattle.std.specs.Prelude.{◌≡◌, ℕ, ◌≤◌, true, List, Some}
use Rattle.std.specs.List.{AllByRecursion}
use Rattle.run_places.specs.Given.SeizeLaw.{holds}
use Rattle.run_places.specs.Given.SeizeWorld.{World, IsInside}
use Rattle.run_places.specs.Given.TablesDeclared.node.Node.{Node}
use Rattle.run_places.specs.Given.RunsPresent.{Present, guard_of}
use Rattle.run_places.specs.Given.RunsDeclared.holders.NamedGuard.{NamedGuard}
use Rattle.run_places.specs.Given.RunsDeclared.effect.Thing.{Thing}
use Rattle.run_places.specs.Given.RunsDeclared.effect.Thing.TheVariants.{APair, ATable}
use Rattle.run_places.specs.Given.SchedulesMoment.{Sheltered, Moment}
use Rattle.run_places.specs.Given.EffectsKnown.{Known}
use Rattle.run_places.specs.Given.EffectsDeclared.role.Role.{Role}
use Rattle.run_places.specs.Given.EffectsDeclared.role.Role.TheVariants as role

-- a block with this role is that thing
abbrev pub IsOfThing : Thing → Role → Type 0
IsOfThing (APair n) r = r ≡ role.Pair n
IsOfThing (ATable t) r = (len : ℕ) × (r ≡ role.Table t len)

-- a pair has a number that was given
abbrev pub HasCome : Known → Thing → Type 0
HasCome known (APair n) = n ≤ known.stored
HasCome known (ATable t) = Unit {0}

-- each guard that is there is on a slot of such a kind
abbrev pub GuardsAreOn : (ℕ → Type 0) → Present → Type 0
GuardsAreOn IsOn there = (own : List ℕ) (g : NamedGuard) → guard_of own there.guards ≡ Some g → IsOn g.slot

module _ {K V : Type 0} (IsOn : ℕ → Type 0) (there : Present) (w : World (Node K V)) where
  -- The guard is there, on such a slot, and the section of that holds each block that is the thing.
  abbrev pub IsShelteredOn : Known → Sheltered → Type 0
  IsShelteredOn known x =
      HasCome known x.thing × (g : NamedGuard) × (guard_of x.guard there.guards ≡ Some g) × IsOn g.slot
      × ((b : ℕ) → IsOfThing x.thing (known.roles b) → holds g.slot b w.log ≡ true)

  abbrev pub AreShelteredOn : Known → List Sheltered → Type 0
  AreShelteredOn known sheltered = AllByRecursion (IsShelteredOn known) sheltered

module _ {K V : Type 0} (there : Present) (w : World (Node K V)) where
  -- each guard that is there is within a critical section
  abbrev pub GuardsAreInside : Type 0
  GuardsAreInside = GuardsAreOn (λ s. IsInside (w.uses s)) there

  -- the guard is there, within its section, and that holds each block that is the thing
  abbrev pub IsSheltered : Known → Sheltered → Type 0
  IsSheltered known x = IsShelteredOn (λ s. IsInside (w.uses s)) there w known x

  abbrev pub AreSheltered : Known → List Sheltered → Type 0
  AreSheltered known sheltered = AllByRecursion (IsSheltered known) sheltered

-- So it is of all guards of a moment, and of all that left its map while they were there: their sections hold it.
abbrev pub SectionsHold : {K V : Type 0} → Moment K V → Known → World (Node K V) → Type 0
SectionsHold m known w = GuardsAreInside m.there w × AreSheltered m.there w known m.sheltered
