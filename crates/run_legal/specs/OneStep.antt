-- What a moment shows of calls, whoever tells of it: after a step of a call, where it comes to an outcome, where a row begins on a slot, and after a step of that, of the making of a map, and of
-- its end.
use Rattle.std.specs.Prelude.{◌≡◌, ◌<◌, ℕ, Bool, List, Some, None}
use Rattle.run_grows.specs.Given.SeizeWorld.{Begin, Step}
use Rattle.run_grows.specs.Given.TablesDeclared.node.Node.{Node}
use Rattle.run_grows.specs.Given.SchedulesEffects.{AtEachEffect, with_effects}
use Rattle.run_grows.specs.Given.SchedulesMoment.{Moment}
use Rattle.run_grows.specs.Given.SchedulesTransition.{Past}
use Rattle.run_grows.specs.Given.EffectsEffects.{effects_of, known_after}
use Rattle.run_grows.specs.Given.EffectsKnown.{Known}
use Rattle.run_grows.specs.Given.EffectsDeclared.acting.Acting.TheVariants as acts
use Rattle.run_grows.specs.Given.OthersRows.{scene_then}
use Rattle.run_grows.specs.Given.ScenesHeld.{Held, IsAt}
use Rattle.run_grows.specs.Given.ScenesDeclared.row.RowTold.{RowTold}
use Rattle.run_grows.specs.Given.ScenesDeclared.row.SlotCall.{SlotCall}
use Rattle.run_grows.specs.Given.ScenesDeclared.row.SlotRow.{SlotRow}
use Rattle.run_grows.specs.Given.ScenesOnSlots.{RowBegins, RowLeads}
use Rattle.run_grows.specs.Given.ScenesRows.{request_of}
use Rattle.run_grows.specs.Given.ScenesScene.{IsOnSlot, Scene, slot_of}
use Rattle.run_legal.specs.Carried.{RefinesAllCalls}
use Rattle.run_legal.specs.MapEvents.{FindsItsMap}
use Rattle.run_grows.specs.Given.ScenesMaking.{MakingLeads}
use Rattle.run_grows.specs.Given.ScenesEnding.{EndingLeads}
use Rattle.run_grows.specs.Sources.Stays.{NoneBorn}
use Rattle.run_grows.specs.Given.OthersMakings.{making_after, WasNew}
use Rattle.run_grows.specs.Given.OthersEndings.{ending_after}
use Rattle.run_grows.specs.Given.FinishesMakings.{Beginning}
use Rattle.run_grows.specs.Given.MomentsEndings.{IsOfIts}
use Rattle.run_grows.specs.Given.FinishesEndings.{Finishing}
use Rattle.run_grows.specs.Given.TablesDeclared.setting.Setting.{Setting}
use Rattle.run_grows.specs.Given.SeizeDeclared.rows.settle.Settled.{Settled}
use Rattle.run_grows.specs.Given.SeizeDeclared.advance.Advance.{Advance as Making}

module _ (K V : Type 0) (same : K → K → Bool) (hash : ℕ → K → ℕ) where
  -- where a row begins on a slot,
  abbrev pub RowsBegin : Type 0
  RowsBegin =
      (name : ℕ → List ℕ) (log : Past K V) (m : Moment K V) (known : Known) (s : Scene K V) (old new : Held K V) → IsAt same hash old s → RefinesAllCalls same name log m known s
      → (called : SlotCall) (i : ℕ) (leads : RowBegins same hash called i s old new)
      → RefinesAllCalls same name log m known (scene_then same hash (Begin i (request_of (slot_of i) called)) s old new leads.2)

  -- after each step of it,
  abbrev pub RowsStep : Type 0
  RowsStep =
      (name : ℕ → List ℕ) (log : Past K V) (m : Moment K V) (known : Known) (s : Scene K V) (old new : Held K V) → IsAt same hash old s → RefinesAllCalls same name log m known s
      → (i : ℕ) (said : RowTold (Node K V)) (leads : RowLeads same hash i said s old new) (row : SlotRow) (here : IsOnSlot s i row)
      → RefinesAllCalls same name log (with_effects None None (effects_of acts.Row known new.changed) m) (known_after acts.Row new.changed known) (scene_then same hash (Step i) s old new (leads row here).2)

  -- after one of a making, whose map is there, made for its capacity, or which just asks for blocks,
  abbrev pub MakingsStep : Type 0
  MakingsStep =
      (name : ℕ → List ℕ) (log : Past K V) (m : Moment K V) (known : Known) (s : Scene K V) (old new : Held K V) → IsAt same hash old s → RefinesAllCalls same name log m known s
      → (i : ℕ) (said : Making Setting) (leads : MakingLeads same hash i said s old new) (b : Beginning K) (here : s.makers i ≡ Some b) → WasNew b.map said m → NoneBorn b.map m
      → FindsItsMap b said (effects_of (acts.Making b.map) known new.changed) m
      → (let to = leads b here in
      RefinesAllCalls same name log (with_effects None (Some b.map) (effects_of (acts.Making b.map) known new.changed) m) (known_after (acts.Making b.map) new.changed known)
      (making_after same hash s old new i b to.0 to.2.step.w2 said to.3))

  -- and after one of an end, which takes tables of its map alone;
  abbrev pub EndsStep : Type 0
  EndsStep =
      (name : ℕ → List ℕ) (log : Past K V) (m : Moment K V) (known : Known) (s : Scene K V) (old new : Held K V) → IsAt same hash old s → RefinesAllCalls same name log m known s
      → (i : ℕ) (said : Settled (Node K V)) (leads : EndingLeads same hash i said s old new) (f : Finishing K V) (here : s.enders i ≡ Some f) (map : ℕ) → s.maps map ≡ None → map < m.made
      → (let to = leads f here in
      let effects = effects_of (acts.Ending map) known new.changed in
      AtEachEffect (IsOfIts map) None (Some map) effects m
      → RefinesAllCalls same name log (with_effects None (Some map) effects m) (known_after (acts.Ending map) new.changed known) (ending_after same hash s new i f to.0 to.2.w2 to.2.deed said to.3))
