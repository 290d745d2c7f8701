-- Each kind of step leaves sheltered, in sections that are open, what is so.
use Rattle.std.specs.Prelude.{◌≡◌, ℕ, Bool, List, [], Some, None, Option, flat_map}
use Rattle.std.proofs.Common.{ap, ◌∙◌}
use Rattle.run_logged.specs.Given.SeizeLaw.{is_open}
use Rattle.seize_acts.specs.Given.SeizeWorld.{Runs, World}
use Rattle.seize_acts.specs.Given.SeizeDeclared.advance.Advance.{Advance}
use Rattle.seize_acts.specs.Given.SeizeDeclared.rows.settle.Settled.{Settled}
use Rattle.play_lists.specs.Given.TablesNodes.{deferred_word}
use Rattle.play_lists.specs.Given.TablesDeclared.node.Node.{Node}
use Rattle.play_lists.specs.Given.TablesDeclared.setting.Setting.{Setting}
use Rattle.run_logged.specs.Given.RawDeclared.machines.progress.Progress.{Progress as CallProgress}
use Rattle.run_schedules.specs.Runs.Present.{Present}
use Rattle.run_schedules.specs.Schedules.Effects.{with_effects}
use Rattle.run_schedules.specs.Schedules.Model.{thing_back}
use Rattle.run_schedules.specs.Schedules.Moment.{Moment, Sheltered}
use Rattle.run_logged.specs.Given.CallersTogether.{UnderWay}
use Rattle.play_lists.specs.Given.EffectsEffects.{effects_of, known_after}
use Rattle.play_lists.specs.Given.EffectsKnown.{Known}
use Rattle.play_lists.specs.Given.EffectsDeclared.acting.Acting.TheVariants as acts
use Rattle.play_lists.specs.Given.FinishesEndings.{Finishing}
use Rattle.play_lists.specs.Given.FinishesFactsEnds.{Deed, JoinsPair, LeavesTable, Looks, TakesCounter, TakesLeft, TakesPair, WritesRoot, events_of}
use Rattle.play_lists.specs.Given.FinishesMakings.{Beginning}
use Rattle.run_logged.specs.Given.MomentsWhole.{RefinesWhole}
use Rattle.play_lists.specs.Given.OthersMakings.{WasNew}
use Rattle.play_lists.specs.Given.ScenesEnding.{EndingLeads}
use Rattle.play_lists.specs.Given.ScenesHeld.{Held, IsAt}
use Rattle.play_lists.specs.Given.ScenesMaking.{MakingLeads}
use Rattle.play_lists.specs.Given.ScenesOnSlots.{RowLeads}
use Rattle.play_lists.specs.Given.ScenesScene.{IsOnSlot, Scene}
use Rattle.play_lists.specs.Given.ScenesStepping.{StepLeads}
use Rattle.play_lists.specs.Given.ScenesDeclared.row.RowTold.{RowTold}
use Rattle.play_lists.specs.Given.ScenesDeclared.row.SlotRow.{SlotRow}
use Rattle.play_lists.specs.Given.PromisesSheltered.{AreShelteredOn, GuardsAreOn}
use Rattle.play_lists.specs.Given.PromisesShelters.{NoneIsBack}
use Rattle.play_lists.proofs.Given.PromisesShelters.Calls.{call_shelters}
use Rattle.play_lists.proofs.Given.PromisesShelters.Ends.{endings_shelter_on}
use Rattle.play_lists.proofs.Given.PromisesShelters.Makings.{makings_shelter_on}
use Rattle.play_lists.proofs.Given.PromisesShelters.Rows.{row_shelters}
use Rattle.play_linear.specs.Protects.Shelters.{IsOpen, SectionsShelter}
use Rattle.play_linear.proofs.Protects.Goes.{IsSpared, open_sections, spared_by_rows, spared_sections}
use Rattle.play_linear.proofs.Protects.Sections.{step_keeps}

module _ {K V : Type 0} (size i t : ℕ) where
  -- no step of an end ends a section
  pub end_opens : (deed : Deed) (w w2 : World (Node K V)) → Runs deferred_word size (events_of i deed) w w2 → IsOpen w t → IsOpen w2 t
  end_opens Looks w w2 runs o = ap (λ (v : World (Node K V)). is_open t v.log) runs ∙ o
  end_opens (TakesPair b) w w2 (v, first, (u, second, (x, third, is))) o =
      ap (λ (y : World (Node K V)). is_open t y.log) is ∙ ap (λ (y : World (Node K V)). is_open t y.log) third.5 ∙ ap (λ (y : World (Node K V)). is_open t y.log) second.4
      ∙ ap (λ (y : World (Node K V)). is_open t y.log) first.1 ∙ o
  end_opens (LeavesTable b further) w w2 (v, first, (u, second, is)) o =
      ap (λ (y : World (Node K V)). is_open t y.log) is ∙ ap (λ (y : World (Node K V)). is_open t y.log) second.4 ∙ ap (λ (y : World (Node K V)). is_open t y.log) first.1 ∙ o
  end_opens (JoinsPair b word) w w2 (v, first, is) o = ap (λ (y : World (Node K V)). is_open t y.log) is ∙ ap (λ (y : World (Node K V)). is_open t y.log) first.4 ∙ o
  end_opens (TakesLeft b) w w2 (v, first, is) o = ap (λ (y : World (Node K V)). is_open t y.log) is ∙ ap (λ (y : World (Node K V)). is_open t y.log) first.5 ∙ o
  end_opens (TakesCounter b) w w2 (v, first, is) o = ap (λ (y : World (Node K V)). is_open t y.log) is ∙ ap (λ (y : World (Node K V)). is_open t y.log) first.4 ∙ o
  end_opens (WritesRoot at word) w w2 (v, first, is) o = ap (λ (y : World (Node K V)). is_open t y.log) is ∙ ap (λ (y : World (Node K V)). is_open t y.log) first.4 ∙ o

module _ {K V : Type 0} (same : K → K → Bool) (hash : ℕ → K → ℕ) (name : ℕ → List ℕ) (m : Moment K V) (known : Known) (s : Scene K V) (old new : Held K V) (at : IsAt same hash old s)
    (whole : RefinesWhole same name m known s) where
  -- of a call: the sections of guards that its caller's row spares
  pub call_step_shelters : (map i : ℕ) (u : UnderWay K V K) (here : s.calls map i ≡ Some u) (told : CallProgress (Node K V)) (leads : StepLeads same hash i told s old new)
      → GuardsAreOn (IsSpared i s.world) m.there → AreShelteredOn (IsSpared i s.world) m.there s.world known m.sheltered
      → (let to = leads map u here in
      let effects = effects_of (acts.Call i map) known new.changed in
      GuardsAreOn (IsOpen to.4.w2) m.there
      × AreShelteredOn (IsOpen to.4.w2) m.there to.4.w2 (known_after (acts.Call i map) new.changed known) (with_effects (Some (name i)) (Some map) effects m).sheltered
      × (flat_map thing_back effects ≡ []))
  call_step_shelters map i u here told leads guards held =
      call_shelters same hash name m known s old new at whole map i u here told leads (IsSpared i) IsOpen (spared_sections i) (spared_by_rows i) guards held

  module _ (shelter : SectionsShelter m known s.world) where
    -- of a making
    pub making_step_shelters : (i : ℕ) (told : Advance Setting) (leads : MakingLeads same hash i told s old new) (b : Beginning K) (here : s.makers i ≡ Some b) (of : Option ℕ) → WasNew b.map told m
        → (let to = leads b here in
        let effects = effects_of (acts.Making b.map) known new.changed in
        GuardsAreOn (IsOpen to.2.step.w2) m.there
        × AreShelteredOn (IsOpen to.2.step.w2) m.there to.2.step.w2 (known_after (acts.Making b.map) new.changed known) (with_effects None of effects m).sheltered
        × (flat_map thing_back effects ≡ []))
    making_step_shelters i told leads b here of was_new =
        makings_shelter_on K V same hash IsOpen IsOpen open_sections name m known s old new at whole i told leads b here of was_new shelter.guards shelter.held

    -- and of an end
    pub ending_step_shelters : (i : ℕ) (told : Settled (Node K V)) (leads : EndingLeads same hash i told s old new) (f : Finishing K V) (here : s.enders i ≡ Some f) (map : ℕ) → s.maps map ≡ None
        → (let to = leads f here in
        let effects = effects_of (acts.Ending map) known new.changed in
        GuardsAreOn (IsOpen to.2.w2) m.there
        × AreShelteredOn (IsOpen to.2.w2) m.there to.2.w2 (known_after (acts.Ending map) new.changed known) (with_effects None (Some map) effects m).sheltered
        × (flat_map thing_back effects ≡ []))
    ending_step_shelters i told leads f here map not_there =
        let to = leads f here in
        endings_shelter_on K V same hash (IsOpen s.world) (IsOpen to.2.w2) name m known s old new at whole i told leads f here map not_there
        (λ t o. end_opens old.batch_size i t to.2.deed s.world to.2.w2 to.2.runs o) shelter.guards shelter.held

-- A step of a row leaves sheltered in the sections that it does not end what is so, and reclaims nothing of that.
module _ {K V : Type 0} (same : K → K → Bool) (hash : ℕ → K → ℕ) (m : Moment K V) (known : Known) (s : Scene K V) (old new : Held K V) (at : IsAt same hash old s) where
  pub row_step_shelters : (i : ℕ) (told : RowTold (Node K V)) (leads : RowLeads same hash i told s old new) (row : SlotRow) (here : IsOnSlot s i row) (there : Present) (xs : List Sheltered)
      → AreShelteredOn (IsSpared i s.world) there s.world known xs
      → (let w2 = (leads row here).2.0 in
      (GuardsAreOn (IsSpared i s.world) there → GuardsAreOn (IsOpen w2) there) × AreShelteredOn (IsOpen w2) there w2 (known_after acts.Row new.changed known) xs
      × NoneIsBack (effects_of acts.Row known new.changed) xs)
  row_step_shelters i told leads row here there xs all =
      let to = leads row here in
      row_shelters same hash m known s old new at i row here (to.0, told) to.1 to.2 (IsSpared i s.world) (IsOpen to.2.0)
      (record {
        inside = λ t on. (step_keeps deferred_word i t s.world to.2.0 (s.world.row i) on.1 to.2.1).stays on.0;
        held = λ t b on. (step_keeps deferred_word i t s.world to.2.0 (s.world.row i) on.1 to.2.1).held b;
      }) there xs all
