-- Steps of an event, one after another.
use Rattle.std.specs.Prelude.{◌≡◌, ◌∷◌, true, List, ℕ, Bool, zero, suc, ◌++◌, Some, None}
use Rattle.std.proofs.Common.{refl, sym, subst}
use Rattle.run_grows.specs.Given.RunsDeclared.effect.Effect.{Effect}
use Rattle.run_grows.specs.Given.SchedulesAfter.{moment}
use Rattle.run_grows.specs.Given.SchedulesEffects.{with_effects}
use Rattle.run_grows.specs.Given.PromisesSheltered.{SectionsHold}
use Rattle.run_grows.specs.Given.ModelsFollows.{FollowsModel}
use Rattle.run_grows.specs.Given.EffectsEffects.{effects_of, known_after}
use Rattle.run_grows.specs.Given.EffectsDeclared.acting.Acting.TheVariants as acts
use Rattle.run_grows.specs.Given.OthersMakings.{making_after}
use Rattle.run_legal.specs.Chains.{Chain, Come, EndsChain, EndsRunToTheirEnds, EndSteps, MakingsChain, MakingsRunToTheirEnds, MakingSteps, RowsChain, RowsRunToTheirEnds, RowSteps}
use Rattle.run_legal.specs.CallEvents.{IsLegalBut}
use Rattle.run_legal.specs.MapEvents.{InEndEvent, InMakingEvent}
use Rattle.run_legal.specs.SlotEvents.{InSlotEvent}
use Rattle.run_legal.proofs.Maps.{end_events_go_on_so, making_events_go_on_so}
use Rattle.run_grows.specs.Given.RunsDeclared.event.Event.TheVariants.{EndMap, MakeMap}
use Rattle.run_grows.specs.Given.RunsDeclared.outcome.Outcome.TheVariants.{Done}
use Rattle.run_grows.specs.Given.SchedulesBeginning.{with_map}
use Rattle.run_grows.specs.Given.SchedulesEntry.{Entry}
use Rattle.run_grows.specs.Given.SchedulesModel.{IsByModel}
use Rattle.run_grows.proofs.Given.ModelsMapEvents.{moments_note_once}
use Rattle.run_legal.proofs.MapsEnd.{map_events_are_legal}
use Rattle.run_legal.proofs.MapsOver.{end_events_begin_so, end_events_end_so, end_events_follow, making_events_begin_so, making_events_end_so, making_events_follow}
use Rattle.run_legal.proofs.Slots.{slot_events_begin_so, slot_events_go_on_so}
use Rattle.run_legal.proofs.SlotsAfter.{slot_events_end_so}
use Rattle.run_legal.proofs.SlotsEnd.{slot_events_are_legal}

-- what each step keeps, a chain of them does
pub chains_keep : {X : Type 0} (P : X → Type 0) (Steps : X → X → Type 0) → ((x y : X) → Steps x y → P x → P y) → (n : ℕ) (from to : X) → Chain Steps n from to → P from → P to
chains_keep P Steps keeps zero from to chain so = subst P chain so
chains_keep P Steps keeps (suc n) from to chain so = keeps chain.0 to chain.2 (chains_keep P Steps keeps n from chain.0 chain.1 so)

module _ (K V : Type 0) (same : K → K → Bool) (hash : ℕ → K → ℕ) where
  pub rows_chain : RowsChain K V same hash
  rows_chain name terms log event i called first began n from to chain so = chains_keep Midst (RowSteps same hash terms i) keeps n from to chain so
    where
      Midst : Come K V → Type 0
      Midst x = InSlotEvent same name terms log event i called first began x.did x.now x.notes x.scene

      keeps : (x y : Come K V) → RowSteps same hash terms i x y → Midst x → Midst y
      keeps x y step midst = subst Midst (sym step.comes)
          (slot_events_go_on_so K V same hash name terms log event i called first began x.did x.now x.notes x.scene midst x.held y.held step.is_at step.size step.said step.leads step.row step.here)

  pub makings_chain : MakingsChain K V same hash
  makings_chain name terms log event i map beginning n from to chain so = chains_keep Midst (MakingSteps same hash terms i map) keeps n from to chain so
    where
      Midst : Come K V → Type 0
      Midst x = InMakingEvent same name terms log event map beginning x.did x.now x.notes x.scene

      keeps : (x y : Come K V) → MakingSteps same hash terms i map x y → Midst x → Midst y
      keeps x y step midst = subst Midst (sym step.comes)
          (subst (λ (of : ℕ). InMakingEvent same name terms log event of beginning (after_step x y step).did (after_step x y step).now (after_step x y step).notes (after_step x y step).scene) step.map_is
          (making_events_go_on_so K V same hash name terms log event beginning x.did x.now x.notes x.scene i step.making step.here
          (subst (λ (of : ℕ). InMakingEvent same name terms log event of beginning x.did x.now x.notes x.scene) (sym step.map_is) midst) x.held y.held step.is_at step.size step.said
          step.leads step.was_new step.finds))
        where
          after_step : (x y : Come K V) → MakingSteps same hash terms i map x y → Come K V
          after_step x y step = record {
            held = y.held;
            did = x.did ++ effects_of (acts.Making step.making.map) x.notes y.held.changed;
            now = with_effects None (Some step.making.map) (effects_of (acts.Making step.making.map) x.notes y.held.changed) x.now;
            notes = known_after (acts.Making step.making.map) y.held.changed x.notes;
            scene = making_after same hash x.scene x.held y.held i step.making (step.leads step.making step.here).0 (step.leads step.making step.here).2.step.w2 step.said
                (step.leads step.making step.here).3;
          }

  pub ends_chain : EndsChain K V same hash
  ends_chain name terms log event i map beginning first n from to chain so = chains_keep Midst (EndSteps same hash terms i map) keeps n from to chain so
    where
      Midst : Come K V → Type 0
      Midst x = InEndEvent same name terms log event map beginning first i x.did x.now x.notes x.scene

      keeps : (x y : Come K V) → EndSteps same hash terms i map x y → Midst x → Midst y
      keeps x y step midst = subst Midst (sym step.comes)
          (end_events_go_on_so K V same hash name terms log event map beginning first x.did x.now x.notes x.scene i step.ending step.here step.gone midst x.held y.held step.is_at step.size
          step.below step.said step.leads step.its)

  pub rows_run_to_their_ends : RowsRunToTheirEnds K V same hash
  rows_run_to_their_ends name terms log known s old new at size small run e on i called leads spares before n to chain did rests ends busy allowed finds is_row right reclaims =
      (legal.0, slot_events_end_so K V same name terms log i called known s.world to.now to.notes s to.scene e midst run right legal.0 legal.1 legal.2 reclaims)
    where
      midst : InSlotEvent same name terms log e.event i called known s.world e.effects to.now to.notes to.scene
      midst = subst (λ (fs : List Effect). InSlotEvent same name terms log e.event i called known s.world fs to.now to.notes to.scene) did
          (rows_chain name terms log e.event i called known s.world n _ to chain (slot_events_begin_so K V same hash name terms log known s old new at size run e.event on i called leads spares before))

      legal : IsLegalBut same terms log e × SectionsHold (moment (e ∷ log)) to.notes to.scene.world
          × ((moment (e ∷ log)).is_alone ≡ true → FollowsModel terms.batch_size terms.roots (e ∷ log) to.notes to.scene.world)
      legal = slot_events_are_legal K V same name terms log i called known s.world to.now to.notes to.scene e midst allowed finds small rests ends busy is_row

  pub makings_run_to_their_ends : MakingsRunToTheirEnds K V same hash
  makings_run_to_their_ends name terms log known s old new at run own mode capacity there number i b idle map_is not_made before at2 n to chain steps effects did begins acted allowed finds whole right = (
    legal.0,
    making_events_end_so K V same name terms log b.map (with_map there (moment log)) to.now known to.notes s to.scene own mode capacity Done steps effects midst.0 begins acted run right legal.0.life
        legal.1 by_model.1,
  )
    where
      e : Entry K V
      e = record { event = MakeMap own mode capacity; outcome = Done; steps = steps; effects = effects }

      midst : InMakingEvent same name terms log (MakeMap own mode capacity) b.map (with_map there (moment log)) effects to.now to.notes to.scene
      midst = subst (λ (fs : List Effect). InMakingEvent same name terms log (MakeMap own mode capacity) b.map (with_map there (moment log)) fs to.now to.notes to.scene) did
          (makings_chain name terms log (MakeMap own mode capacity) i b.map (with_map there (moment log)) n _ to chain
          (making_events_begin_so K V same hash name terms log known s old new at run own mode capacity there number i b idle map_is not_made before at2))

      by_model : IsByModel terms log e × ((moment (e ∷ log)).is_alone ≡ true → FollowsModel terms.batch_size terms.roots (e ∷ log) to.notes to.scene.world)
      by_model = making_events_follow K V same name terms log b.map (with_map there (moment log)) to.now to.notes to.scene e midst refl

      legal : IsLegalBut same terms log e × SectionsHold (moment (e ∷ log)) to.notes to.scene.world
      legal = map_events_are_legal K V same name terms log b.map (with_map there (moment log)) to.now to.notes to.scene e midst.0 allowed finds refl begins acted whole by_model.0

  pub ends_run_to_their_ends : EndsRunToTheirEnds K V same hash
  ends_run_to_their_ends name terms log known s old new at run small own map i standing there idle at2 before n to chain at_end steps effects did number over apart allowed finds whole right =
      (legal.0, end_events_end_so K V same hash name terms log map to.now known to.notes s to.scene to.held at_end own steps effects midst.0 number apart run right legal.0.life legal.1 by_model.1)
    where
      e : Entry K V
      e = record { event = EndMap own; outcome = Done; steps = steps; effects = effects }

      midst : InEndEvent same name terms log (EndMap own) map (moment log) known i effects to.now to.notes to.scene
      midst = subst (λ (fs : List Effect). InEndEvent same name terms log (EndMap own) map (moment log) known i fs to.now to.notes to.scene) did
          (ends_chain name terms log (EndMap own) i map (moment log) known n _ to chain
          (end_events_begin_so K V same hash name terms log known s old new at run small own map i standing there idle at2 before))

      by_model : IsByModel terms log e × ((moment (e ∷ log)).is_alone ≡ true → FollowsModel terms.batch_size terms.roots (e ∷ log) to.notes to.scene.world)
      by_model = end_events_follow K V same name terms log map (moment log) to.now known to.notes i to.scene e midst small (moments_note_once K V same name (moment log) known s run.calls.whole) over refl

      legal : IsLegalBut same terms log e × SectionsHold (moment (e ∷ log)) to.notes to.scene.world
      legal = map_events_are_legal K V same name terms log map (moment log) to.now to.notes to.scene e midst.0 allowed finds refl refl number whole by_model.0
