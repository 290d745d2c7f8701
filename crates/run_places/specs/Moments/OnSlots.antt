-- Rows on slots: where one begins, and takes its steps, the moment shows all of the scene then.
use Rattle.std.specs.Prelude.{◌≡◌, ℕ, Bool, true, List, None}
use Rattle.run_shows.specs.Given.SeizeWorld.{Begin, Step}
use Rattle.run_shows.specs.Given.TablesDeclared.node.Node.{Node}
use Rattle.run_shows.specs.Given.RunsDeclared.effect.Effect.{Effect}
use Rattle.run_shows.specs.Given.RunsDeclared.effect.Effect.TheVariants.{Reclaimed}
use Rattle.run_shows.specs.Given.RunsDeclared.effect.Thing.TheVariants.{ATable}
use Rattle.run_shows.specs.Given.SchedulesEffects.{with_effects, AtEachEffect}
use Rattle.run_shows.specs.Given.SchedulesMoment.{Moment}
use Rattle.run_shows.specs.Given.SchedulesViews.{is_retired, is_stage}
use Rattle.run_shows.specs.Given.EffectsEffects.{effects_of, known_after}
use Rattle.run_shows.specs.Given.EffectsKnown.{Known}
use Rattle.run_shows.specs.Given.EffectsDeclared.acting.Acting.TheVariants.{Row}
use Rattle.run_shows.specs.declared.row.RowTold.{RowTold}
use Rattle.run_shows.specs.declared.row.SlotCall.{SlotCall}
use Rattle.run_shows.specs.declared.row.SlotRow.{SlotRow}
use Rattle.run_shows.specs.Others.Rows.{scene_then}
use Rattle.run_places.specs.Spots.OnSlots.{WaitUnreclaimed}
use Rattle.run_places.specs.Moments.Whole.{RefinesWhole}
use Rattle.run_shows.specs.Scenes.Held.{Held, IsAt}
use Rattle.run_shows.specs.Scenes.OnSlots.{RowBegins, RowLeads}
use Rattle.run_shows.specs.Scenes.Rows.{request_of}
use Rattle.run_shows.specs.Scenes.Scene.{IsOnSlot, Scene, slot_of}

-- a table that is reclaimed was retired
abbrev pub HadRetired : {K V : Type 0} → Moment K V → Effect → Type 0
HadRetired m (Reclaimed (ATable t)) = is_stage is_retired t m ≡ true
HadRetired m _ = Unit {0}

module _ (K V : Type 0) (same : K → K → Bool) (hash : ℕ → K → ℕ) where
  -- The promises: so it is where a row begins on a slot,
  abbrev pub RowsBeginWhole : Type 0
  RowsBeginWhole =
      (name : ℕ → List ℕ) (m : Moment K V) (known : Known) (s : Scene K V) (old new : Held K V) → IsAt same hash old s → RefinesWhole same name m known s
      → (called : SlotCall) (i : ℕ) (leads : RowBegins same hash called i s old new)
      → RefinesWhole same name m known (scene_then same hash (Begin i (request_of (slot_of i) called)) s old new leads.2)

  -- and after a step of it: a table that it reclaims was retired, and what waits behind that is not reclaimed.
  abbrev pub RowsPreserveWhole : Type 0
  RowsPreserveWhole =
      (name : ℕ → List ℕ) (m : Moment K V) (known : Known) (s : Scene K V) (old new : Held K V) → IsAt same hash old s → RefinesWhole same name m known s
      → (i : ℕ) (told : RowTold (Node K V)) (leads : RowLeads same hash i told s old new) (row : SlotRow) (here : IsOnSlot s i row)
      → AtEachEffect HadRetired None None (effects_of Row known new.changed) m → AtEachEffect WaitUnreclaimed None None (effects_of Row known new.changed) m
      → RefinesWhole same name (with_effects None None (effects_of Row known new.changed) m) (known_after Row new.changed known)
      (scene_then same hash (Step i) s old new (leads row here).2)
