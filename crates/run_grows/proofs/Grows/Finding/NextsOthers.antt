-- Where a copier makes a table its map has a second table, or had one, after each step of what is no call, too.
use Rattle.std.specs.Prelude.{◌≡◌, ℕ, Bool, List, Option, Some, None}
use Rattle.std.proofs.Common.{ap, sym, ◌∙◌}
use Rattle.papaya_raw.specs.Given.SeizeWorld.{Begin, Step}
use Rattle.papaya_raw.specs.Given.SeizeDeclared.advance.Advance.{Advance as Making}
use Rattle.papaya_raw.specs.Given.SeizeDeclared.rows.settle.Settled.{Settled}
use Rattle.papaya_raw.specs.Given.TablesDeclared.node.Node.{Node}
use Rattle.papaya_raw.specs.Given.TablesDeclared.setting.Setting.{Setting}
use Rattle.run_schedules.specs.Schedules.Effects.{with_effects}
use Rattle.run_schedules.specs.Schedules.Moment.{Moment}
use Rattle.run_finds.specs.Given.CallersTogether.{UnderWay}
use Rattle.run_finds.specs.Given.EffectsEffects.{effects_of, known_after}
use Rattle.run_finds.specs.Given.EffectsKnown.{Known}
use Rattle.run_finds.specs.Given.EffectsDeclared.acting.Acting.TheVariants as acts
use Rattle.run_kept.specs.Given.ScenesDeclared.row.RowTold.{RowTold}
use Rattle.run_kept.specs.Given.ScenesDeclared.row.SlotCall.{SlotCall}
use Rattle.run_kept.specs.Given.ScenesDeclared.row.SlotRow.{SlotRow}
use Rattle.run_kept.specs.Given.FinishesEndings.{Finishing}
use Rattle.run_kept.specs.Given.FinishesMakings.{Beginning}
use Rattle.run_kept.specs.Given.OthersEndings.{ending_after}
use Rattle.run_kept.specs.Given.OthersMakings.{WasNew, making_after}
use Rattle.run_kept.specs.Given.OthersRows.{scene_then}
use Rattle.run_finds.specs.Given.MomentsWhole.{RefinesWhole}
use Rattle.run_finds.proofs.Given.MomentsEnds.{end_beside}
use Rattle.run_finds.proofs.Given.MomentsMakingSteps.{makings_go_beside}
use Rattle.run_finds.proofs.Given.MomentsOnSlots.{row_beside, rows_begin_beside}
use Rattle.run_schedules.specs.Schedules.Growing.{HasNext}
use Rattle.run_finds.proofs.Given.MomentsBeside.{IsBeside}
use Rattle.run_grows.specs.Grows.Nexts.{RefinesNexts}
use Rattle.run_grows.proofs.Grows.Finding.Making.Unpromoted.{same_maps_keep_next}
use Rattle.run_grows.proofs.Grows.Finding.Nexts.{nexts_alike}
use Rattle.run_grows.proofs.Grows.Finding.Others.{ended, ended_calls, ended_maps, ended_world}
use Rattle.run_kept.specs.Given.ScenesEnding.{EndingLeads}
use Rattle.run_finds.specs.Given.ScenesHeld.{Held, IsAt}
use Rattle.run_kept.specs.Given.ScenesMaking.{MakingLeads}
use Rattle.run_kept.specs.Given.ScenesOnSlots.{RowBegins, RowLeads}
use Rattle.run_kept.specs.Given.ScenesRows.{request_of}
use Rattle.run_finds.specs.Given.ScenesScene.{IsOnSlot, Scene, slot_of}
use Rattle.run_schedules.specs.Schedules.Transition.{Past}

-- where calls and maps are as they were
nexts_beside : {K V : Type 0} (name : ℕ → List ℕ) (log : Past K V) (m v : Moment K V) (known known2 : Known) (s t : Scene K V) → IsBeside m v known known2 s t → ((n : ℕ) → HasNext n m → HasNext n v) → RefinesNexts name log m s
    → RefinesNexts name log v t
nexts_beside {K} {V} name log m v known known2 s t beside keeps nexts = nexts_alike name log m v s t nexts beside.calls keeps (λ n j x is. ap (λ (f : ℕ → ℕ → Option (UnderWay K V K)). f n j) (sym beside.same_calls) ∙ is)

module _ (K V : Type 0) (same : K → K → Bool) (hash : ℕ → K → ℕ) (name : ℕ → List ℕ) (log : Past K V) (m : Moment K V) (known : Known) (s : Scene K V) (old new : Held K V) (nexts : RefinesNexts name log m s) where
  -- a row begins on a slot
  pub rows_begin_nexts : (called : SlotCall) (i : ℕ) (leads : RowBegins same hash called i s old new)
      → RefinesNexts name log m (scene_then same hash (Begin i (request_of (slot_of i) called)) s old new leads.2)
  rows_begin_nexts called i leads =
      let t = scene_then same hash (Begin i (request_of (slot_of i) called)) s old new leads.2 in
      nexts_beside name log m m known known s t (rows_begin_beside K V same hash m known s old new called i leads) (λ n has. has) nexts

  module _ (at : IsAt same hash old s) (whole : RefinesWhole same name m known s) where
    -- a step of one
    pub rows_keep_nexts : (i : ℕ) (said : RowTold (Node K V)) (leads : RowLeads same hash i said s old new) (row : SlotRow) (here : IsOnSlot s i row)
        → RefinesNexts name log (with_effects None None (effects_of acts.Row known new.changed) m) (scene_then same hash (Step i) s old new (leads row here).2)
    rows_keep_nexts i said leads row here =
        let to = leads row here in
        let effects = effects_of acts.Row known new.changed in
        let v = with_effects None None effects m in
        let t = scene_then same hash (Step i) s old new to.2 in
        let beside = row_beside same hash m known s old new at i row here (to.0, said) to.1 to.2 in
        nexts_beside name log m v known (known_after acts.Row new.changed known) s t beside (same_maps_keep_next None None effects m beside.maps) nexts

    -- of the making of a map
    pub makings_keep_nexts : (i : ℕ) (said : Making Setting) (leads : MakingLeads same hash i said s old new) (b : Beginning K) (here : s.makers i ≡ Some b) → WasNew b.map said m
        → RefinesNexts name log (with_effects None (Some b.map) (effects_of (acts.Making b.map) known new.changed) m) (making_after same hash s old new i b (leads b here).0 (leads b here).2.step.w2 said (leads b here).3)
    makings_keep_nexts i said leads b here was_new =
        let effects = effects_of (acts.Making b.map) known new.changed in
        let v = with_effects None (Some b.map) effects m in
        let t = making_after same hash s old new i b (leads b here).0 (leads b here).2.step.w2 said (leads b here).3 in
        let beside = makings_go_beside K V same hash name m known s old new at whole i said leads b here (Some b.map) was_new in
        nexts_beside name log m v known (known_after (acts.Making b.map) new.changed known) s t beside (same_maps_keep_next None (Some b.map) effects m beside.maps) nexts

    -- and of the end of one
    module _ (i : ℕ) (f : Finishing K V) (here : s.enders i ≡ Some f) where
      pub endings_keep_nexts : (said : Settled (Node K V)) (leads : EndingLeads same hash i said s old new) (map : ℕ) → s.maps map ≡ None
          → RefinesNexts name log (with_effects None (Some map) (effects_of (acts.Ending map) known new.changed) m) (ending_after same hash s new i f (leads f here).0 (leads f here).2.w2 (leads f here).2.deed said (leads f here).3)
      endings_keep_nexts said leads map not_there =
          let to = leads f here in
          let effects = effects_of (acts.Ending map) known new.changed in
          let v = with_effects None (Some map) effects m in
          let t = ended same hash s old new i f here said leads in
          let beside = end_beside same hash name m known s old new at whole i f here to.0 said to.1 to.2 map not_there to.3 t (ended_world same hash s old new i f here said leads)
          (ended_calls same hash s old new i f here said leads) (ended_maps same hash s old new i f here said leads) in
          nexts_beside name log m v known (known_after (acts.Ending map) new.changed known) s t beside (same_maps_keep_next None (Some map) effects m beside.maps) nexts
