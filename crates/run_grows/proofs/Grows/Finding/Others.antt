-- What steps of calls find by is so after each step of what is no call: of a row on a slot, of the making of a map, of the end of one, and of the reclaiming of all.
use Rattle.std.specs.Prelude.{◌≡◌, ℕ, Bool, List, Some, None}
use Rattle.std.proofs.Common.{refl}
use Rattle.papaya_raw.specs.Given.SeizeWorld.{Begin, Step}
use Rattle.papaya_raw.specs.Given.SeizeDeclared.advance.Advance.{Advance as Making}
use Rattle.papaya_raw.specs.Given.SeizeDeclared.rows.settle.Settled.{Settled}
use Rattle.papaya_raw.specs.Given.SeizeDeclared.rows.settle.Settled.TheVariants as settled
use Rattle.papaya_raw.specs.Given.TablesDeclared.node.Node.{Node}
use Rattle.papaya_raw.specs.Given.TablesDeclared.setting.Setting.{Setting}
use Rattle.run_schedules.specs.declared.effect.Effect.{Effect}
use Rattle.run_schedules.specs.Schedules.Effects.{with_effects}
use Rattle.run_schedules.specs.Schedules.Moment.{Moment}
use Rattle.run_finds.specs.Given.CallersTogether.{OnKey, UnderWay}
use Rattle.run_finds.specs.Given.EffectsEffects.{effects_of, known_after}
use Rattle.run_finds.specs.Given.EffectsKnown.{Known}
use Rattle.run_finds.specs.Given.EffectsDeclared.acting.Acting.TheVariants as acts
use Rattle.run_kept.specs.Given.ScenesDeclared.row.RowTold.{RowTold}
use Rattle.run_kept.specs.Given.ScenesDeclared.row.SlotCall.{SlotCall}
use Rattle.run_kept.specs.Given.ScenesDeclared.row.SlotRow.{SlotRow}
use Rattle.run_kept.specs.Given.FinishesEndings.{Finishing}
use Rattle.run_kept.specs.Given.FinishesMakings.{Beginning}
use Rattle.run_finds.specs.Given.FinishesMaps.{IsSameMap}
use Rattle.run_kept.specs.Given.OthersEndings.{ending_after}
use Rattle.run_kept.specs.Given.OthersMakings.{WasNew, making_after}
use Rattle.run_kept.specs.Given.OthersRows.{scene_then}
use Rattle.run_finds.specs.Given.MomentsWhole.{RefinesWhole}
use Rattle.run_finds.proofs.Given.MomentsEnds.{end_beside}
use Rattle.run_finds.proofs.Given.MomentsMakingSteps.{makings_go_beside}
use Rattle.run_finds.proofs.Given.MomentsOnSlots.{row_beside, rows_begin_beside}
use Rattle.run_finds.specs.Linking.{IsMadeFor}
use Rattle.run_finds.specs.Within.{many_of}
use Rattle.run_finds.proofs.Capacities.{capacities_stay, effects_keep_capacities, makings_keep_capacities, same_maps_stood}
use Rattle.run_finds.proofs.Grows.Steps.{tables_have_been}
use Rattle.run_grows.proofs.Grows.Finding.Making.Lengths.{effects_keep_lengths}
use Rattle.run_grows.specs.Grows.Finding.{RefinesFinding}
use Rattle.run_grows.proofs.Grows.Finding.Alike.{stood_as}
use Rattle.run_grows.proofs.Grows.Finding.Aside.{endings_leave_spots, makings_leave_spots, rows_leave_spots}
use Rattle.run_grows.proofs.Grows.Finding.Beside.{finding_beside}
use Rattle.run_kept.specs.Given.ScenesEnding.{EndingLeads}
use Rattle.run_finds.specs.Given.ScenesHeld.{Held, IsAt}
use Rattle.run_kept.specs.Given.ScenesMaking.{MakingLeads}
use Rattle.run_kept.specs.Given.ScenesOnSlots.{RowBegins, RowLeads}
use Rattle.run_kept.specs.Given.ScenesRows.{request_of}
use Rattle.run_finds.specs.Given.ScenesScene.{IsOnSlot, Scene, slot_of}
use Rattle.run_finds.proofs.Given.General.{at_most_itself as itself}

-- the scene after a step of the end of a map
module _ {K V : Type 0} (same : K → K → Bool) (hash : ℕ → K → ℕ) (s : Scene K V) (old new : Held K V) (i : ℕ) (f : Finishing K V) (here : s.enders i ≡ Some f) where
  abbrev pub ended : (said : Settled (Node K V)) → EndingLeads same hash i said s old new → Scene K V
  ended said leads = ending_after same hash s new i f (leads f here).0 (leads f here).2.w2 (leads f here).2.deed said (leads f here).3

  pub ended_world : (said : Settled (Node K V)) (leads : EndingLeads same hash i said s old new) → (ended said leads).world ≡ (leads f here).2.w2
  ended_world settled.Goes leads = refl
  ended_world settled.Waits leads = absurd (leads f here).3
  ended_world (settled.Gave value) leads = refl
  ended_world settled.Done leads = refl

  pub ended_calls : (said : Settled (Node K V)) (leads : EndingLeads same hash i said s old new) → (ended said leads).calls ≡ s.calls
  ended_calls settled.Goes leads = refl
  ended_calls settled.Waits leads = refl
  ended_calls (settled.Gave value) leads = refl
  ended_calls settled.Done leads = refl

  pub ended_maps : (said : Settled (Node K V)) (leads : EndingLeads same hash i said s old new) → (ended said leads).maps ≡ s.maps
  ended_maps settled.Goes leads = refl
  ended_maps settled.Waits leads = refl
  ended_maps (settled.Gave value) leads = refl
  ended_maps settled.Done leads = refl

module _ (K V : Type 0) (same : K → K → Bool) (hash : ℕ → K → ℕ) (name : ℕ → List ℕ) (m : Moment K V) (known : Known) (s : Scene K V) (old new : Held K V) where
  -- a row begins on a slot
  pub rows_begin_finding : RefinesFinding name m known s → (called : SlotCall) (i : ℕ) (leads : RowBegins same hash called i s old new)
      → RefinesWhole same name m known (scene_then same hash (Begin i (request_of (slot_of i) called)) s old new leads.2)
      → RefinesFinding name m known (scene_then same hash (Begin i (request_of (slot_of i) called)) s old new leads.2)
  rows_begin_finding finding called i leads whole2 =
      let to = leads.2 in
      let t = scene_then same hash (Begin i (request_of (slot_of i) called)) s old new to in
      finding_beside same hash name m m known known s t new to.4 whole2 (rows_begin_beside K V same hash m known s old new called i leads) finding refl (λ of. itself (many_of of m)) (λ map t n is. is)
      (capacities_stay K V m m s t finding.capacities (λ n st is. refl) (same_maps_stood K V s t to.3))

  module _ (at : IsAt same hash old s) (whole : RefinesWhole same name m known s) (finding : RefinesFinding name m known s) where
    -- a step of one
    pub rows_keep_finding : (i : ℕ) (said : RowTold (Node K V)) (leads : RowLeads same hash i said s old new) (row : SlotRow) (here : IsOnSlot s i row)
        → (let v = with_effects None None (effects_of acts.Row known new.changed) m in
        let t = scene_then same hash (Step i) s old new (leads row here).2 in
        RefinesWhole same name v (known_after acts.Row new.changed known) t → RefinesFinding name v (known_after acts.Row new.changed known) t)
    rows_keep_finding i said leads row here whole2 =
        let to = leads row here in
        let effects = effects_of acts.Row known new.changed in
        let v = with_effects None None effects m in
        let t = scene_then same hash (Step i) s old new to.2 in
        finding_beside same hash name m v known (known_after acts.Row new.changed known) s t new to.2.4 whole2 (row_beside same hash m known s old new at i row here (to.0, said) to.1 to.2) finding
        (rows_leave_spots same hash name m known s old new at i said leads row here) (tables_have_been K V None None effects m) (effects_keep_lengths None None effects m)
        (capacities_stay K V m v s t finding.capacities (λ n st is. effects_keep_capacities K V None None effects m n) (same_maps_stood K V s t to.2.3))

    -- of the making of a map, that began for its capacity
    pub makings_keep_finding : (i : ℕ) (said : Making Setting) (leads : MakingLeads same hash i said s old new) (b : Beginning K) (here : s.makers i ≡ Some b) → WasNew b.map said m → IsMadeFor b.map m b.given
        → (let v = with_effects None (Some b.map) (effects_of (acts.Making b.map) known new.changed) m in
        let t = making_after same hash s old new i b (leads b here).0 (leads b here).2.step.w2 said (leads b here).3 in
        IsAt same hash new t → RefinesWhole same name v (known_after (acts.Making b.map) new.changed known) t → RefinesFinding name v (known_after (acts.Making b.map) new.changed known) t)
    makings_keep_finding i said leads b here was_new made_for at2 whole2 =
        let effects = effects_of (acts.Making b.map) known new.changed in
        let v = with_effects None (Some b.map) effects m in
        let t = making_after same hash s old new i b (leads b here).0 (leads b here).2.step.w2 said (leads b here).3 in
        finding_beside same hash name m v known (known_after (acts.Making b.map) new.changed known) s t new at2 whole2
        (makings_go_beside K V same hash name m known s old new at whole i said leads b here (Some b.map) was_new) finding
        (makings_leave_spots same hash name m known s old new at whole.all.shown i said leads b here (Some b.map)) (tables_have_been K V None (Some b.map) effects m) (effects_keep_lengths None (Some b.map) effects m)
        (makings_keep_capacities K V same hash m known s old new finding.capacities i said leads b here (Some b.map) made_for)

    -- and of the end of one
    module _ (i : ℕ) (f : Finishing K V) (here : s.enders i ≡ Some f) where
      pub endings_keep_finding : (said : Settled (Node K V)) (leads : EndingLeads same hash i said s old new) (map : ℕ) → s.maps map ≡ None
          → (let v = with_effects None (Some map) (effects_of (acts.Ending map) known new.changed) m in
          let t = ending_after same hash s new i f (leads f here).0 (leads f here).2.w2 (leads f here).2.deed said (leads f here).3 in
          IsAt same hash new t → RefinesWhole same name v (known_after (acts.Ending map) new.changed known) t → RefinesFinding name v (known_after (acts.Ending map) new.changed known) t)
      endings_keep_finding said leads map not_there at2 whole2 =
          let to = leads f here in
          let effects = effects_of (acts.Ending map) known new.changed in
          let v = with_effects None (Some map) effects m in
          finding_beside same hash name m v known (known_after (acts.Ending map) new.changed known) s (ended same hash s old new i f here said leads) new at2 whole2
          (end_beside same hash name m known s old new at whole i f here to.0 said to.1 to.2 map not_there to.3 (ended same hash s old new i f here said leads) (ended_world same hash s old new i f here said leads) (ended_calls same hash s old new i f here said leads) (ended_maps same hash s old new i f here said leads)) finding
          (endings_leave_spots same hash name m known s old new at whole i said leads f here map not_there) (tables_have_been K V None (Some map) effects m) (effects_keep_lengths None (Some map) effects m)
          (capacities_stay K V m v s (ended same hash s old new i f here said leads) finding.capacities (λ n st is. effects_keep_capacities K V None (Some map) effects m n) (stood_as s (ended same hash s old new i f here said leads) (ended_maps same hash s old new i f here said leads)))

-- where no call is under way, and maps stand as they stood
module _ (K V : Type 0) (name : ℕ → List ℕ) (m : Moment K V) (known known2 : Known) (s t : Scene K V) where
  pub finding_of_none : ((map i : ℕ) (u : UnderWay K V K) → t.calls map i ≡ Some u → ⊥) → (effects : List Effect) → ((n : ℕ) → IsSameMap (s.maps n) (t.maps n)) → RefinesFinding name m known s
      → RefinesFinding name (with_effects None None effects m) known2 t
  finding_of_none none effects maps finding = record {
    growing = λ map i u is. absurd (none map i (OnKey u) is);
    further = λ map i u is. absurd (none map i u is);
    capacities = capacities_stay K V m (with_effects None None effects m) s t finding.capacities (λ n st is. effects_keep_capacities K V None None effects m n) (same_maps_stood K V s t maps);
    waits = λ map i u is word some c c_is k owed. absurd (none map i u is);
    puts = λ map i u is word place due. absurd (none map i u is);
  }
