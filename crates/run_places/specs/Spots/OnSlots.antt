-- Where pairs lie, which blocks are unreclaimed, and what waits behind tables, after a step of a row on a slot.
use Rattle.std.specs.Prelude.{◌≡◌, ℕ, Bool, true, List, None}
use Rattle.run_shows.specs.Given.SeizeWorld.{Step}
use Rattle.run_shows.specs.Given.RunsDeclared.effect.Effect.{Effect}
use Rattle.run_shows.specs.Given.RunsDeclared.effect.Effect.TheVariants.{Reclaimed}
use Rattle.run_shows.specs.Given.RunsDeclared.effect.Thing.TheVariants.{ATable}
use Rattle.run_shows.specs.Given.SchedulesEffects.{with_effects, AtEachEffect}
use Rattle.run_shows.specs.Given.SchedulesLists.{is_among}
use Rattle.run_shows.specs.Given.SchedulesMoment.{Moment}
use Rattle.run_shows.specs.Given.SchedulesViews.{behind}
use Rattle.run_shows.specs.Given.TablesDeclared.node.Node.{Node}
use Rattle.run_shows.specs.Given.EffectsEffects.{effects_of, known_after}
use Rattle.run_shows.specs.Given.EffectsKnown.{Known}
use Rattle.run_shows.specs.Given.EffectsDeclared.acting.Acting.TheVariants.{Row}
use Rattle.run_shows.specs.declared.row.RowTold.{RowTold}
use Rattle.run_shows.specs.declared.row.SlotRow.{SlotRow}
use Rattle.run_shows.specs.Follows.Shows.{Refines}
use Rattle.run_shows.specs.Others.Rows.{scene_then}
use Rattle.run_places.specs.Spots.Deferred.{WaitOutside}
use Rattle.run_places.specs.Spots.Spots.{RefinesPlaces}
use Rattle.run_places.specs.Spots.Unreclaimed.{is_unreclaimed, RefinesUnreclaimed}
use Rattle.run_shows.specs.Scenes.Held.{Held}
use Rattle.run_shows.specs.Scenes.OnSlots.{RowLeads}
use Rattle.run_shows.specs.Scenes.Scene.{IsOnSlot, Scene}

-- what waits behind a table that is reclaimed is not reclaimed itself
abbrev pub WaitUnreclaimed : {K V : Type 0} → Moment K V → Effect → Type 0
WaitUnreclaimed m (Reclaimed (ATable t)) = (n : ℕ) → is_among n (behind t m.deferred) ≡ true → is_unreclaimed (m.place n) ≡ true
WaitUnreclaimed m _ = Unit {0}

module _ (K V : Type 0) (same : K → K → Bool) (hash : ℕ → K → ℕ) where
  -- The promise: pairs lie where they lay, and what waits behind tables stays outside of maps.
  abbrev pub RowsLeavePlaces : Type 0
  RowsLeavePlaces =
      (m : Moment K V) (known : Known) (s : Scene K V) (old new : Held K V) (i : ℕ) (told : RowTold (Node K V)) (leads : RowLeads same hash i told s old new) (row : SlotRow)
      (here : IsOnSlot s i row) → RefinesPlaces m known s.maps → WaitOutside m
      → RefinesPlaces (with_effects None None (effects_of Row known new.changed) m) (known_after Row new.changed known) (scene_then same hash (Step i) s old new (leads row here).2).maps
      × WaitOutside (with_effects None None (effects_of Row known new.changed) m)

  -- And the same blocks are unreclaimed as are pairs and tables of maps, where what waits behind a table that the row reclaims is not reclaimed.
  abbrev pub RowsPreserveBlocks : Type 0
  RowsPreserveBlocks =
      (name : ℕ → List ℕ) (m : Moment K V) (known : Known) (s : Scene K V) (old new : Held K V) → Refines same name m known s
      → (i : ℕ) (told : RowTold (Node K V)) → RowLeads same hash i told s old new → (row : SlotRow) → IsOnSlot s i row
      → AtEachEffect WaitUnreclaimed None None (effects_of Row known new.changed) m → RefinesUnreclaimed m known
      → RefinesUnreclaimed (with_effects None None (effects_of Row known new.changed) m) (known_after Row new.changed known)
