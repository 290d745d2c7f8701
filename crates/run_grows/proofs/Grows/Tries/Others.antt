-- After each step of what is no call, calls have met what their tries meet.
use Rattle.std.specs.Prelude.{◌≡◌, ℕ, Bool, List, Some, None}
use Rattle.std.proofs.Common.{refl}
use Rattle.papaya_raw.specs.Given.SeizeWorld.{Begin, Step}
use Rattle.papaya_raw.specs.Given.SeizeDeclared.advance.Advance.{Advance as Making}
use Rattle.papaya_raw.specs.Given.SeizeDeclared.rows.settle.Settled.{Settled}
use Rattle.papaya_raw.specs.Given.TablesDeclared.node.Node.{Node}
use Rattle.papaya_raw.specs.Given.TablesDeclared.setting.Setting.{Setting}
use Rattle.run_schedules.specs.Schedules.Effects.{with_effects}
use Rattle.run_schedules.specs.Schedules.Moment.{Moment}
use Rattle.run_finds.specs.Given.EffectsEffects.{effects_of, known_after}
use Rattle.run_finds.specs.Given.EffectsKnown.{Known}
use Rattle.run_finds.specs.Given.EffectsDeclared.acting.Acting.TheVariants as acts
use Rattle.run_kept.specs.Given.ScenesDeclared.row.RowTold.{RowTold}
use Rattle.run_kept.specs.Given.ScenesDeclared.row.SlotCall.{SlotCall}
use Rattle.run_kept.specs.Given.ScenesDeclared.row.SlotRow.{SlotRow}
use Rattle.run_kept.specs.Given.FinishesEndings.{Finishing}
use Rattle.run_kept.specs.Given.FinishesMakings.{Beginning}
use Rattle.run_kept.specs.Given.OthersEndings.{ending_after}
use Rattle.run_kept.specs.Given.OthersMakings.{WasNew, making_after}
use Rattle.run_kept.specs.Given.OthersRows.{scene_then}
use Rattle.run_finds.specs.Given.MomentsWhole.{RefinesWhole}
use Rattle.run_finds.proofs.Given.MomentsEnds.{end_beside}
use Rattle.run_finds.proofs.Given.MomentsMakingSteps.{makings_go_beside}
use Rattle.run_finds.proofs.Given.MomentsOnSlots.{row_beside, rows_begin_beside}
use Rattle.run_finds.specs.Within.{many_of}
use Rattle.run_finds.proofs.Grows.Steps.{tables_have_been}
use Rattle.run_grows.proofs.Grows.Finding.Aside.{endings_leave_spots, makings_leave_spots, rows_leave_spots}
use Rattle.run_grows.specs.Sources.Sources.{RefinesSources}
use Rattle.run_grows.specs.Grows.Tries.{RefinesTries}
use Rattle.run_grows.proofs.Grows.Finding.Others.{ended, ended_calls, ended_maps, ended_world}
use Rattle.run_grows.proofs.Grows.Tries.Shows.{tries_beside}
use Rattle.run_kept.specs.Given.ScenesEnding.{EndingLeads}
use Rattle.run_finds.specs.Given.ScenesHeld.{Held, IsAt}
use Rattle.run_kept.specs.Given.ScenesMaking.{MakingLeads}
use Rattle.run_kept.specs.Given.ScenesOnSlots.{RowBegins, RowLeads}
use Rattle.run_kept.specs.Given.ScenesRows.{request_of}
use Rattle.run_finds.specs.Given.ScenesScene.{IsOnSlot, Scene, slot_of}
use Rattle.run_schedules.specs.Schedules.Transition.{Past}
use Rattle.run_finds.proofs.Given.General.{at_most_itself as itself}

module _ (K V : Type 0) (same : K → K → Bool) (hash : ℕ → K → ℕ) (name : ℕ → List ℕ) (log : Past K V) (m : Moment K V) (known : Known) (s : Scene K V) (old new : Held K V)
    (sources : RefinesSources same name m known s) (tries : RefinesTries name log m s) where
  -- a row begins on a slot
  pub rows_begin_tries : (called : SlotCall) (i : ℕ) (leads : RowBegins same hash called i s old new)
      → RefinesWhole same name m known (scene_then same hash (Begin i (request_of (slot_of i) called)) s old new leads.2)
      → RefinesTries name log m (scene_then same hash (Begin i (request_of (slot_of i) called)) s old new leads.2)
  rows_begin_tries called i leads whole2 =
      let to = leads.2 in
      let t = scene_then same hash (Begin i (request_of (slot_of i) called)) s old new to in
      tries_beside same hash name log m m known known s t new to.4 (rows_begin_beside K V same hash m known s old new called i leads) refl (λ of. itself (many_of of m)) sources whole2.all.shown tries

  module _ (at : IsAt same hash old s) (whole : RefinesWhole same name m known s) where
    -- a step of one
    pub rows_keep_tries : (i : ℕ) (said : RowTold (Node K V)) (leads : RowLeads same hash i said s old new) (row : SlotRow) (here : IsOnSlot s i row)
        → (let v = with_effects None None (effects_of acts.Row known new.changed) m in
        let t = scene_then same hash (Step i) s old new (leads row here).2 in
        RefinesWhole same name v (known_after acts.Row new.changed known) t → RefinesTries name log v t)
    rows_keep_tries i said leads row here whole2 =
        let to = leads row here in
        let effects = effects_of acts.Row known new.changed in
        let v = with_effects None None effects m in
        let t = scene_then same hash (Step i) s old new to.2 in
        tries_beside same hash name log m v known (known_after acts.Row new.changed known) s t new to.2.4 (row_beside same hash m known s old new at i row here (to.0, said) to.1 to.2)
        (rows_leave_spots same hash name m known s old new at i said leads row here) (tables_have_been K V None None effects m) sources whole2.all.shown tries

    -- of the making of a map
    pub makings_keep_tries : (i : ℕ) (said : Making Setting) (leads : MakingLeads same hash i said s old new) (b : Beginning K) (here : s.makers i ≡ Some b) → WasNew b.map said m
        → (let v = with_effects None (Some b.map) (effects_of (acts.Making b.map) known new.changed) m in
        let t = making_after same hash s old new i b (leads b here).0 (leads b here).2.step.w2 said (leads b here).3 in
        IsAt same hash new t → RefinesWhole same name v (known_after (acts.Making b.map) new.changed known) t → RefinesTries name log v t)
    makings_keep_tries i said leads b here was_new at2 whole2 =
        let effects = effects_of (acts.Making b.map) known new.changed in
        let v = with_effects None (Some b.map) effects m in
        let t = making_after same hash s old new i b (leads b here).0 (leads b here).2.step.w2 said (leads b here).3 in
        tries_beside same hash name log m v known (known_after (acts.Making b.map) new.changed known) s t new at2
        (makings_go_beside K V same hash name m known s old new at whole i said leads b here (Some b.map) was_new)
        (makings_leave_spots same hash name m known s old new at whole.all.shown i said leads b here (Some b.map)) (tables_have_been K V None (Some b.map) effects m) sources whole2.all.shown tries

    -- and of the end of one
    module _ (i : ℕ) (f : Finishing K V) (here : s.enders i ≡ Some f) where
      pub endings_keep_tries : (said : Settled (Node K V)) (leads : EndingLeads same hash i said s old new) (map : ℕ) → s.maps map ≡ None
          → (let v = with_effects None (Some map) (effects_of (acts.Ending map) known new.changed) m in
          let t = ending_after same hash s new i f (leads f here).0 (leads f here).2.w2 (leads f here).2.deed said (leads f here).3 in
          IsAt same hash new t → RefinesWhole same name v (known_after (acts.Ending map) new.changed known) t → RefinesTries name log v t)
      endings_keep_tries said leads map not_there at2 whole2 =
          let to = leads f here in
          let effects = effects_of (acts.Ending map) known new.changed in
          let v = with_effects None (Some map) effects m in
          tries_beside same hash name log m v known (known_after (acts.Ending map) new.changed known) s (ended same hash s old new i f here said leads) new at2
          (end_beside same hash name m known s old new at whole i f here to.0 said to.1 to.2 map not_there to.3 (ended same hash s old new i f here said leads) (ended_world same hash s old new i f here said leads) (ended_calls same hash s old new i f here said leads) (ended_maps same hash s old new i f here said leads))
          (endings_leave_spots same hash name m known s old new at whole i said leads f here map not_there) (tables_have_been K V None (Some map) effects m) sources whole2.all.shown tries
