-- Rows on slots: where one begins, and takes its steps, the scene refines the moment then.
use Rattle.std.specs.Prelude.{ℕ, Bool, List, None}
use Rattle.seize.specs.World.{Event, Begin, Step}
use Rattle.run_effects.specs.Given.TablesDeclared.node.Node.{Node}
use Rattle.run_effects.specs.Given.SchedulesEffects.{with_effects, AtEachEffect}
use Rattle.run_effects.specs.Given.SchedulesMoment.{Moment}
use Rattle.run_effects.specs.Effects.Effects.{effects_of, known_after}
use Rattle.run_effects.specs.Effects.Known.{Known}
use Rattle.run_effects.specs.declared.acting.Acting.TheVariants.{Row}
use Rattle.run_shows.specs.declared.row.RowTold.{RowTold}
use Rattle.run_shows.specs.declared.row.SlotCall.{SlotCall}
use Rattle.run_shows.specs.declared.row.SlotRow.{SlotRow}
use Rattle.run_shows.specs.Follows.Shows.{Refines}
use Rattle.run_shows.specs.Others.After.{RefinesAfter}
use Rattle.run_shows.specs.Others.Gone.{WasRetired}
use Rattle.run_shows.specs.Scenes.Held.{Held, IsAt}
use Rattle.run_shows.specs.Scenes.OnSlots.{HappensAt, RowBegins, RowLeads}
use Rattle.run_shows.specs.Scenes.Rows.{request_of}
use Rattle.run_shows.specs.Scenes.Scene.{IsOnSlot, Scene, slot_of}

-- the scene once this has happened
abbrev pub scene_then : {K V : Type 0} (same : K → K → Bool) (hash : ℕ → K → ℕ) (event : Event (Node K V)) (s : Scene K V) (old new : Held K V) → HappensAt same hash event s old new → Scene K V
scene_then same hash event s old new happened = record s { world = happened.0; maps = happened.2 }

module _ (K V : Type 0) (same : K → K → Bool) (hash : ℕ → K → ℕ) where
  -- The promises: a row that begins on a slot changes nothing that is shown,
  abbrev pub RowsBeginShown : Type 0
  RowsBeginShown =
      (name : ℕ → List ℕ) (m : Moment K V) (known : Known) (s : Scene K V) (old new : Held K V) → IsAt same hash old s → (shown : Refines same name m known s)
      → (called : SlotCall) (i : ℕ) (leads : RowBegins same hash called i s old new)
      → RefinesAfter same name m known s shown m known (scene_then same hash (Begin i (request_of (slot_of i) called)) s old new leads.2)

  -- and a step of it, which may reclaim a pair or a table, leads on: a table that it reclaims was retired, and what waits behind that is in no map.
  abbrev pub RowsOnSlotsAreShown : Type 0
  RowsOnSlotsAreShown =
      (name : ℕ → List ℕ) (m : Moment K V) (known : Known) (s : Scene K V) (old new : Held K V) → IsAt same hash old s → (shown : Refines same name m known s)
      → (i : ℕ) (told : RowTold (Node K V)) (leads : RowLeads same hash i told s old new) (row : SlotRow) (here : IsOnSlot s i row)
      → AtEachEffect WasRetired None None (effects_of Row known new.changed) m
      → RefinesAfter same name m known s shown (with_effects None None (effects_of Row known new.changed) m) (known_after Row new.changed known)
      (scene_then same hash (Step i) s old new (leads row here).2)
