-- A step of the making of a map leaves the waiting sets as they were.
use Rattle.std.specs.Prelude.{◌≡◌, ℕ, Bool, true, false, List, [], ◌∷◌, Option, Some, IsSome, if◌then◌else◌, None}
use Rattle.std.proofs.Common.{refl, sym, subst}
use Rattle.run_schedules.specs.Given.SeizeWordsMem.{value_at}
use Rattle.run_schedules.specs.Given.SeizeWordsWord.{block_in}
use Rattle.run_schedules.specs.Given.SeizeWordsDeclared.at.At.TheVariants.{Root, Used, Slot, Entry, Word}
use Rattle.seize.specs.WaitingSets.{Change, Sets, all_changed}
use Rattle.seize.specs.World.{World}
use Rattle.seize.specs.declared.advance.Advance.{Advance}
use Rattle.papaya_raw.specs.Given.TablesNodes.{deferred_word}
use Rattle.papaya_raw.specs.Given.TablesDeclared.node.Node.{Node}
use Rattle.papaya_raw.specs.Given.TablesDeclared.setting.Setting.{Setting}
use Rattle.run_blocks.specs.Given.ResizeDeclared.new_map.NewMap.{NewMap}
use Rattle.run_schedules.specs.Schedules.Moment.{Moment}
use Rattle.run_schedules.specs.declared.effect.Effect.{Effect}
use Rattle.run_schedules.specs.declared.effect.Effect.TheVariants.{Asked, Reclaimed}
use Rattle.run_schedules.specs.declared.effect.Growth.TheVariants.{ABlock}
use Rattle.run_schedules.specs.declared.effect.Thing.{Thing}
use Rattle.run_executor.specs.Given.EffectsDeclared.changed.Changed.{Changed}
use Rattle.run_executor.specs.Given.EffectsDeclared.changed.Changed.TheVariants as changed
use Rattle.run_executor.specs.Given.EffectsDeclared.changed.Kind.{Kind}
use Rattle.run_executor.specs.Given.EffectsDeclared.changed.Kind.TheVariants as kind
use Rattle.run_executor.specs.Given.EffectsEffects.{names_same, named, made_by, taken_by, led_to, effects_of, known_after}
use Rattle.run_executor.specs.Given.EffectsKnown.{Known}
use Rattle.run_executor.specs.Given.EffectsDeclared.acting.Acting.{Acting}
use Rattle.run_executor.specs.Given.EffectsDeclared.acting.Acting.TheVariants as acts
use Rattle.run_executor.specs.Given.EffectsDeclared.role.Role.{Role}
use Rattle.run_executor.specs.Given.EffectsDeclared.role.Role.TheVariants as role
use Rattle.run_executor.specs.Given.FinishesEndings.{MakingStepsWithEndings}
use Rattle.run_executor.specs.Given.FinishesMakings.{Beginning}
use Rattle.run_executor.proofs.Given.FollowsAlike.{is_calm, AllCalm}
use Rattle.run_executor.proofs.Given.FollowsOperations.{LeavesBy}
use Rattle.run_executor.specs.Given.OthersMakings.{making_after}
use Rattle.run_executor.proofs.Given.OthersLeads.{word_says}
use Rattle.run_executor.proofs.Given.OthersMakingPlans.{TellsMaking}
use Rattle.run_executor.proofs.Given.OthersMakes.{no_table_word, tells, left}
use Rattle.run_executor.proofs.Given.SpotsHanding.{AllKeep, calm_keep}
use Rattle.run_executor.specs.Given.MomentsWhole.{RefinesWhole}
use Rattle.run_executor.proofs.Given.MomentsBeside.{IsBeside}
use Rattle.run_executor.proofs.Given.MomentsMakings.{before_free, not_of_map}
use Rattle.run_executor.proofs.Given.MomentsMakingSteps.{makings_go_beside}
use Rattle.run_blocks.specs.Given.PromisesSheltered.{IsOfThing}
use Rattle.run_blocks.proofs.Given.PromisesShelters.Makings.{comes_there}
use Rattle.run_kept.specs.Models.Alike.{SetsAlike}
use Rattle.run_kept.specs.Models.Calls.{sets_on}
use Rattle.run_kept.specs.Models.Follows.{FollowsSets}
use Rattle.run_kept.specs.Models.Numbers.{HasNumber, NotBack, NoneBack}
use Rattle.run_kept.specs.Models.Others.{MakingsFollow}
use Rattle.run_kept.specs.Models.Turns.{sets_of, CameByTurns}
use Rattle.run_kept.proofs.Models.Alike.Again.{alike_again}
use Rattle.run_kept.proofs.Models.Handing.{nothing_handed}
use Rattle.run_kept.proofs.Models.Turns.{users_follow, all_there}
use Rattle.run_executor.specs.Given.ScenesHeld.{Held, IsAt}
use Rattle.run_executor.specs.Given.ScenesMaking.{MakingStepsFrom}
use Rattle.run_executor.specs.Given.ScenesScene.{Scene, slot_of}
use Rattle.run_blocks.proofs.Given.PromisesShelters.Lasting.{of_map as thing_of_map}

-- what is calm reclaims nothing
calm_back : (effects : List Effect) → AllCalm effects → NoneBack effects
calm_back [] all = tt
calm_back (e ∷ effects) all = (by e all.0, calm_back effects all.1)
  where
    by : (e : Effect) → is_calm e ≡ true → NotBack e
    by (Reclaimed x) is = absurd (cc is)
    by _ is = tt

module _ {K V : Type 0} (same : K → K → Bool) (hash : ℕ → K → ℕ) (name : ℕ → List ℕ) (m : Moment K V) (known : Known) (s : Scene K V) (old new : Held K V) (at : IsAt same hash old s)
    (whole : RefinesWhole same name m known s) (i : ℕ) (b : Beginning K) (here : s.makers i ≡ Some b) (end : NewMap) (said : Advance Setting) (steps : MakingStepsFrom b.machine old new end said)
    (did : MakingStepsWithEndings V same same old.batch_size old.roots slot_of s.world s.maps s.calls s.makers s.enders i b new.memory (end, said)) (of : Option ℕ) where
  abbrev w : World (Node K V)
  w = s.world

  abbrev w2 : World (Node K V)
  w2 = did.step.w2

  abbrev told : Changed
  told = new.changed

  abbrev its : Acting
  its = acts.Making b.map

  abbrev known2 : Known
  known2 = known_after its told known

  root_keeps : (q : Bool) (r : Role) → AllKeep (if q then [] else led_to its role.Free r)
  root_keeps true r = tt
  root_keeps false role.Free = tt
  root_keeps false (role.OwnPair c) = tt
  root_keeps false (role.OwnTable turn shape) = (tt, tt)
  root_keeps false (role.Pair n) = tt
  root_keeps false (role.Table t len) = tt
  root_keeps false (role.Counter map) = tt

  made_keeps : (k : Kind) → AllKeep (Asked ABlock ∷ made_by its k)
  made_keeps kind.Pair = (tt, (tt, tt))
  made_keeps (kind.Table len limit turn) = (tt, (tt, tt))
  made_keeps kind.Shards = (tt, tt)

  taken_keeps : (r : Role) → AllKeep (taken_by its r)
  taken_keeps role.Free = tt
  taken_keeps (role.OwnPair c) = (tt, tt)
  taken_keeps (role.OwnTable turn shape) = (tt, tt)
  taken_keeps (role.Pair n) = (tt, tt)
  taken_keeps (role.Table t len) = (tt, tt)
  taken_keeps (role.Counter map) = tt

  keeps : (x : Changed) → TellsMaking w i b.machine.setting.root x → LeavesBy w.memory w2.memory x → AllKeep (effects_of its known x)
  keeps changed.Nothing so l = tt
  keeps (changed.Wrote (Root r) before after) so l =
      subst (λ (y : Role). AllKeep (if names_same before after then [] else led_to its y (named known after)))
      (sym (before_free same hash name m known s old new at whole.all.shown whole.blocks i b here end said steps did of r before after so l))
      (root_keeps (names_same before after) (named known after))
  keeps (changed.Wrote (Used r) before after) so l = tt
  keeps (changed.Wrote (Slot t field) before after) so l = absurd so
  keeps (changed.Wrote (Entry x field) before after) so l = absurd so
  keeps (changed.Wrote (Word x field) before after) so l =
      calm_keep (effects_of its known (changed.Wrote (Word x field) before after))
      (word_says its known field (block_in after) (known.roles x) (names_same before after) (named known before) (named known after)
      (no_table_word same hash name m known s old new at whole.all.shown i b here end said steps did of x (names_same before after) so)).0
  keeps (changed.Made k x) so l = made_keeps k
  keeps (changed.Unmade k) so l = (tt, tt)
  keeps (changed.Took x) so l = taken_keeps (known.roles x)
  keeps (changed.Roomed bucket had) so l = absurd so

  pub all_keep : AllKeep (effects_of its known told)
  all_keep = keeps told (tells same hash name m known s old new at whole.all.shown i b here end said steps did of) (left same hash name m known s old new at whole.all.shown i b here end said steps did of)

  -- nor is anything reclaimed that was handed over

  root_back : (q : Bool) (r : Role) → NoneBack (if q then [] else led_to its role.Free r)
  root_back true r = tt
  root_back false role.Free = tt
  root_back false (role.OwnPair c) = tt
  root_back false (role.OwnTable turn shape) = (tt, tt)
  root_back false (role.Pair n) = tt
  root_back false (role.Table t len) = tt
  root_back false (role.Counter map) = tt

  made_back : (k : Kind) → NoneBack (Asked ABlock ∷ made_by its k)
  made_back kind.Pair = (tt, (tt, tt))
  made_back (kind.Table len limit turn) = (tt, (tt, tt))
  made_back kind.Shards = (tt, tt)

  taken_back : (x : ℕ) → value_at w2.memory x ≡ None → (r : Role) → known.roles x ≡ r → NoneBack (taken_by its r)
  taken_back x gone role.Free e = tt
  taken_back x gone (role.OwnPair c) e = (tt, tt)
  taken_back x gone (role.OwnTable turn shape) e = (tt, tt)
  taken_back x gone (role.Counter map) e = tt
  taken_back x gone (role.Pair n) e = absurd (not_of_map same hash name m known s old new at whole.all.shown whole.blocks i b here end said steps did of x gone (role.Pair n) e tt)
  taken_back x gone (role.Table t len) e = absurd (not_of_map same hash name m known s old new at whole.all.shown whole.blocks i b here end said steps did of x gone (role.Table t len) e tt)

  back : (x : Changed) → TellsMaking w i b.machine.setting.root x → LeavesBy w.memory w2.memory x → NoneBack (effects_of its known x)
  back changed.Nothing so l = tt
  back (changed.Wrote (Root r) before after) so l =
      subst (λ (y : Role). NoneBack (if names_same before after then [] else led_to its y (named known after)))
      (sym (before_free same hash name m known s old new at whole.all.shown whole.blocks i b here end said steps did of r before after so l))
      (root_back (names_same before after) (named known after))
  back (changed.Wrote (Used r) before after) so l = tt
  back (changed.Wrote (Slot t field) before after) so l = absurd so
  back (changed.Wrote (Entry x field) before after) so l = absurd so
  back (changed.Wrote (Word x field) before after) so l =
      calm_back (effects_of its known (changed.Wrote (Word x field) before after))
      (word_says its known field (block_in after) (known.roles x) (names_same before after) (named known before) (named known after)
      (no_table_word same hash name m known s old new at whole.all.shown i b here end said steps did of x (names_same before after) so)).0
  back (changed.Made k x) so l = made_back k
  back (changed.Unmade k) so l = (tt, tt)
  back (changed.Took x) so l = taken_back x l.1 (known.roles x) refl
  back (changed.Roomed bucket had) so l = absurd so

  pub all_back : NoneBack (effects_of its known told)
  all_back = back told (tells same hash name m known s old new at whole.all.shown i b here end said steps did of) (left same hash name m known s old new at whole.all.shown i b here end said steps did of)

  module _ (s2 : Scene K V) (world : s2.world ≡ w2) (v : Moment K V) (beside : IsBeside m v known known2 s s2) (roots : ℕ) (things : List Thing) (sets : Sets)
      (f : FollowsSets old.batch_size roots things sets known s.world) (slot : ℕ) where
    came2 : CameByTurns deferred_word old.batch_size roots w2 f.before
    came2 = users_follow deferred_word old.batch_size roots s.world w2 f.before f.came did.step.events did.step.users did.step.runs

    -- what is there has its number still
    still : (x n : ℕ) → IsSome (value_at w2.memory x) → HasNumber known things x n → HasNumber known2 things x n
    still x n some h = (
      h.0,
      subst (IsOfThing h.0) (sym (beside.roles x (subst (λ (u : World (Node K V)). IsSome (value_at u.memory x)) (sym world) some) (thing_of_map h.0 (known.roles x) h.1))) h.1,
      h.2,
      h.3,
    )

    pub making_follows : FollowsSets old.batch_size roots things (sets_on old.batch_size things slot (effects_of its known told) sets) known2 w2
    making_follows = record {
      before = f.before;
      came = came2;
      alike =
          subst (λ (cs : List Change). SetsAlike (HasNumber known2 things) (sets_of old.batch_size f.before) (all_changed old.batch_size cs sets).sets)
          (sym (nothing_handed things slot (effects_of its known told) all_keep))
          (alike_again (HasNumber known things) (HasNumber known2 things) (λ x. IsSome (value_at w2.memory x)) still (sets_of old.batch_size f.before) sets
          (all_there deferred_word old.batch_size roots at.small w2 f.before came2) f.alike);
    }

module _ (K V : Type 0) (same : K → K → Bool) (hash : ℕ → K → ℕ) where
  pub makings_follow : MakingsFollow K V same hash
  makings_follow name m known s old new at whole i told leads b here of is_new roots things sets f slot =
      let to = leads b here in
      making_follows same hash name m known s old new at whole i b here to.0 told to.1 to.2 of (making_after same hash s old new i b to.0 to.2.step.w2 told to.3)
      (comes_there same hash name m known s old new at whole i b here to.0 told to.1 to.2 of told to.3) _
      (makings_go_beside K V same hash name m known s old new at whole i told leads b here of is_new) roots things sets f slot
