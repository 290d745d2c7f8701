-- A step of the making of a map leaves sheltered what is so, and reclaims nothing.
use Rattle.std.specs.Prelude.{◌≡◌, ℕ, Bool, true, false, List, [], ◌∷◌, flat_map, Option, Some, None, ◌⊎◌, if◌then◌else◌}
use Rattle.std.proofs.Common.{refl, ap, sym, subst, inl, inr}
use Rattle.run_places.specs.Given.SeizeWordsMem.{value_at}
use Rattle.run_places.specs.Given.SeizeWordsWord.{block_in}
use Rattle.run_places.specs.Given.SeizeWordsDeclared.at.At.TheVariants.{Root, Used, Slot, Entry, Word}
use Rattle.run_places.specs.Given.SeizeLaw.{holds, is_somewhere}
use Rattle.run_places.specs.Given.SeizeWorld.{World, InUse}
use Rattle.run_places.specs.Given.SeizeDeclared.advance.Advance.{Advance}
use Rattle.run_places.specs.Given.SeizeDeclared.advance.Advance.TheVariants as progress
use Rattle.run_places.proofs.Given.SeizeMovesState.Logs.{reached_held}
use Rattle.run_places.proofs.Given.SeizeAloneHistories.Reached.{Reached, runs_reached}
use Rattle.run_places.specs.Given.TablesNodes.{deferred_word}
use Rattle.run_places.specs.Given.TablesDeclared.node.Node.{Node}
use Rattle.run_places.specs.Given.TablesDeclared.setting.Setting.{Setting}
use Rattle.run_places.specs.Given.ResizeDeclared.new_map.NewMap.{NewMap}
use Rattle.run_places.specs.Given.RunsDeclared.effect.Effect.{Effect}
use Rattle.run_places.specs.Given.RunsDeclared.effect.Effect.TheVariants.{Asked}
use Rattle.run_places.specs.Given.RunsDeclared.effect.Growth.TheVariants.{ABlock}
use Rattle.run_places.specs.Given.SchedulesEffects.{with_effects}
use Rattle.run_places.specs.Given.SchedulesModel.{thing_back}
use Rattle.run_places.specs.Given.SchedulesMoment.{Moment}
use Rattle.run_places.specs.Given.EffectsDeclared.changed.Changed.{Changed}
use Rattle.run_places.specs.Given.EffectsDeclared.changed.Changed.TheVariants as changed
use Rattle.run_places.specs.Given.EffectsDeclared.changed.Kind.{Kind}
use Rattle.run_places.specs.Given.EffectsDeclared.changed.Kind.TheVariants as kind
use Rattle.run_places.proofs.Given.CallersRows.Defers.{used_stands}
use Rattle.run_places.proofs.Given.CallersTogether.Came.{came_reached}
use Rattle.run_places.specs.Given.EffectsEffects.{names_same, named, made_by, taken_by, led_to, effects_of, known_after}
use Rattle.run_places.specs.Given.EffectsKnown.{Known}
use Rattle.run_places.specs.Given.EffectsDeclared.acting.Acting.{Acting}
use Rattle.run_places.specs.Given.EffectsDeclared.acting.Acting.TheVariants as acts
use Rattle.run_places.specs.Given.EffectsDeclared.role.Role.{Role}
use Rattle.run_places.specs.Given.EffectsDeclared.role.Role.TheVariants as role
use Rattle.run_places.specs.Given.FinishesEndings.{MakingStepsWithEndings}
use Rattle.run_places.specs.Given.FinishesMakings.{Beginning}
use Rattle.run_places.proofs.Given.FollowsOperations.{LeavesBy}
use Rattle.run_places.specs.Given.OthersMakings.{WasNew, making_after}
use Rattle.run_places.proofs.Given.OthersLeads.{word_says}
use Rattle.run_places.proofs.Given.OthersMakingPlans.{TellsMaking}
use Rattle.run_places.proofs.Given.OthersMakes.{no_table_word, tells, left}
use Rattle.run_places.specs.Moments.Whole.{RefinesWhole}
use Rattle.run_places.proofs.Moments.Beside.{IsBeside}
use Rattle.run_places.proofs.Moments.Makings.{not_of_map, before_free}
use Rattle.run_places.proofs.Moments.MakingSteps.{makings_go_beside}
use Rattle.run_histories.specs.Promises.Others.{MakingsShelter}
use Rattle.run_histories.specs.Promises.Sheltered.{AreShelteredOn, GuardsAreOn}
use Rattle.run_histories.proofs.Promises.Shelters.Lasting.{Lasts, of_map, all_last, guards_last}
use Rattle.run_histories.proofs.Promises.Shelters.Noted.{more_noted}
use Rattle.run_histories.proofs.Promises.Shelters.Outs.{TakeNothing, calm_nothing, keep_all}
use Rattle.run_histories.proofs.Promises.Shelters.Within.{GoOn, Sections, Within, within_sections}
use Rattle.run_places.specs.Given.ScenesHeld.{Held, IsAt}
use Rattle.run_places.specs.Given.ScenesMaking.{MakingHasOutcome, MakingLeads, MakingStepsFrom}
use Rattle.run_places.specs.Given.ScenesScene.{Scene, slot_of}

module _ {K V : Type 0} (same : K → K → Bool) (hash : ℕ → K → ℕ) (name : ℕ → List ℕ) (m : Moment K V) (known : Known) (s : Scene K V) (old new : Held K V) (at : IsAt same hash old s)
    (whole : RefinesWhole same name m known s) (i : ℕ) (b : Beginning K) (here : s.makers i ≡ Some b) (end : NewMap) (said : Advance Setting) (steps : MakingStepsFrom b.machine old new end said)
    (did : MakingStepsWithEndings V same same old.batch_size old.roots slot_of s.world s.maps s.calls s.makers s.enders i b new.memory (end, said)) (of : Option ℕ) where
  abbrev w : World (Node K V)
  w = s.world

  abbrev w2 : World (Node K V)
  w2 = did.step.w2

  abbrev told : Changed
  told = new.changed

  abbrev its : Acting
  its = acts.Making b.map

  abbrev effects : List Effect
  effects = effects_of its known told

  abbrev known2 : Known
  known2 = known_after its told known

  abbrev v : Moment K V
  v = with_effects None of effects m

  -- what it does takes nothing out of a map, and reclaims nothing

  root_takes : (q : Bool) (r : Role) → TakeNothing (if q then [] else led_to its role.Free r)
  root_takes true r = (tt, refl)
  root_takes false role.Free = (tt, refl)
  root_takes false (role.OwnPair c) = (tt, refl)
  root_takes false (role.OwnTable turn shape) = ((tt, tt), refl)
  root_takes false (role.Pair n) = (tt, refl)
  root_takes false (role.Table t len) = (tt, refl)
  root_takes false (role.Counter map) = (tt, refl)

  made_takes : (k : Kind) → TakeNothing (Asked ABlock ∷ made_by its k)
  made_takes kind.Pair = ((tt, (tt, tt)), refl)
  made_takes (kind.Table len limit turn) = ((tt, (tt, tt)), refl)
  made_takes kind.Shards = ((tt, tt), refl)

  taken_takes : (x : ℕ) → value_at w2.memory x ≡ None → (r : Role) → known.roles x ≡ r → TakeNothing (taken_by its r)
  taken_takes x gone role.Free e = (tt, refl)
  taken_takes x gone (role.OwnPair c) e = ((tt, tt), refl)
  taken_takes x gone (role.OwnTable turn shape) e = ((tt, tt), refl)
  taken_takes x gone (role.Pair n) e = absurd (not_of_map same hash name m known s old new at whole.all.shown whole.blocks i b here end said steps did of x gone (role.Pair n) e tt)
  taken_takes x gone (role.Table t len) e = absurd (not_of_map same hash name m known s old new at whole.all.shown whole.blocks i b here end said steps did of x gone (role.Table t len) e tt)
  taken_takes x gone (role.Counter map) e = (tt, refl)

  takes : (x : Changed) → TellsMaking w i b.machine.setting.root x → LeavesBy w.memory w2.memory x → TakeNothing (effects_of its known x)
  takes changed.Nothing so l = (tt, refl)
  takes (changed.Wrote (Root r) before after) so l =
      subst (λ (y : Role). TakeNothing (if names_same before after then [] else led_to its y (named known after)))
      (sym (before_free same hash name m known s old new at whole.all.shown whole.blocks i b here end said steps did of r before after so l))
      (root_takes (names_same before after) (named known after))
  takes (changed.Wrote (Used r) before after) so l = (tt, refl)
  takes (changed.Wrote (Slot t field) before after) so l = absurd so
  takes (changed.Wrote (Entry x field) before after) so l = absurd so
  takes (changed.Wrote (Word x field) before after) so l =
      calm_nothing (effects_of its known (changed.Wrote (Word x field) before after))
      (word_says its known field (block_in after) (known.roles x) (names_same before after) (named known before) (named known after)
      (no_table_word same hash name m known s old new at whole.all.shown i b here end said steps did of x (names_same before after) so)).0
  takes (changed.Made k x) so l = made_takes k
  takes (changed.Unmade k) so l = ((tt, tt), refl)
  takes (changed.Took x) so l = taken_takes x l.1 (known.roles x) refl
  takes (changed.Roomed bucket had) so l = absurd so

  take_nothing : TakeNothing effects
  take_nothing = takes told (tells same hash name m known s old new at whole.all.shown i b here end said steps did of) (left same hash name m known s old new at whole.all.shown i b here end said steps did of)

  reached : Reached deferred_word old.batch_size w
  reached = came_reached old.batch_size w at.together.makings.standing.came

  reached2 : Reached deferred_word old.batch_size w2
  reached2 = runs_reached deferred_word old.batch_size did.step.events w w2 reached did.step.runs

  pub comes_there : (t : Advance Setting) (comes : MakingHasOutcome same hash s old new i b end w2 t) → (making_after same hash s old new i b end w2 t comes).world ≡ w2
  comes_there progress.Goes comes = refl
  comes_there progress.Waits comes = absurd comes
  comes_there (progress.Done setting) comes = refl
  comes_there (progress.Refused fault) comes = refl

  module _ (On On2 : World (Node K V) → ℕ → Type 0) (sections : Sections On On2) where
    goes : GoOn (On w) (On2 w2) w w2
    goes = sections.events old.batch_size w w2 reached did.step.events did.step.users did.step.runs

    -- the first table of its map is held at once
    used_held : (x o t : ℕ) → w2.hand x ≡ InUse o → On w t → holds t x w2.log ≡ true
    used_held x o t used inside =
        reached_held t x w2.log (ap is_somewhere (used_stands deferred_word old.batch_size w2 reached2 x used)) (sections.opens_then old.batch_size w2 reached2 t (goes.inside t inside))

    module _ (s2 : Scene K V) (world : s2.world ≡ w2) (beside : IsBeside m v known known2 s s2) where
      lasts : Lasts (On w) (On2 w2) known known2 w w2
      lasts = record {
        inside = goes.inside;
        held = λ t x inside is_of h. goes.held t x inside h;
        more = more_noted its known told;
        back = λ x y come is_of. elim (beside.back y (of_map x (known2.roles y) is_of)) as (λ _. (known.roles y ≡ known2.roles y) ⊎ ((t : ℕ) → On w t → holds t y w2.log ≡ true)) [
          | inl was ↦ inl (sym was)
          | inr came ↦ inr (λ t inside. used_held y came.used.0 t (subst (λ (u : World (Node K V)). u.hand y ≡ InUse came.used.0) world came.used.1) inside)
        ];
      }

      pub making_shelters : GuardsAreOn (On w) m.there → AreShelteredOn (On w) m.there w known m.sheltered
          → GuardsAreOn (On2 w2) m.there × AreShelteredOn (On2 w2) m.there w2 known2 v.sheltered × (flat_map thing_back effects ≡ [])
      making_shelters inside so = (
        guards_last (On w) (On2 w2) m.there known known2 w w2 lasts inside,
        subst (AreShelteredOn (On2 w2) m.there w2 known2) (sym (keep_all None of effects m take_nothing.0)) (all_last (On w) (On2 w2) m.there known known2 w w2 lasts m.sheltered so),
        take_nothing.1,
      )

module _ (K V : Type 0) (same : K → K → Bool) (hash : ℕ → K → ℕ) where
  -- it leaves such sections as they are, and sheltered in them what is so
  pub makings_shelter_on : (On On2 : World (Node K V) → ℕ → Type 0) → Sections On On2 → (name : ℕ → List ℕ) (m : Moment K V) (known : Known) (s : Scene K V) (old new : Held K V) → IsAt same hash old s
      → RefinesWhole same name m known s → (i : ℕ) (told : Advance Setting) (leads : MakingLeads same hash i told s old new) (b : Beginning K) (here : s.makers i ≡ Some b) (of : Option ℕ) → WasNew b.map told m
      → GuardsAreOn (On s.world) m.there → AreShelteredOn (On s.world) m.there s.world known m.sheltered
      → (let to = leads b here in
      let effects = effects_of (acts.Making b.map) known new.changed in
      GuardsAreOn (On2 to.2.step.w2) m.there
      × AreShelteredOn (On2 to.2.step.w2) m.there to.2.step.w2 (known_after (acts.Making b.map) new.changed known) (with_effects None of effects m).sheltered
      × (flat_map thing_back effects ≡ []))
  makings_shelter_on On On2 sections name m known s old new at whole i told leads b here of was_new inside so =
      let to = leads b here in
      making_shelters same hash name m known s old new at whole i b here to.0 told to.1 to.2 of On On2 sections (making_after same hash s old new i b to.0 to.2.step.w2 told to.3)
      (comes_there same hash name m known s old new at whole i b here to.0 told to.1 to.2 of told to.3)
      (makings_go_beside K V same hash name m known s old new at whole i told leads b here of was_new) inside so

  pub makings_shelter : MakingsShelter K V same hash
  makings_shelter name m known s old new at whole i told leads b here of was_new hold =
      makings_shelter_on Within Within within_sections name m known s old new at whole i told leads b here of was_new hold.0 hold.1
