-- After each step what is left over is noted as the pairs as which it was.
use Rattle.std.specs.Prelude.{◌≡◌, ◌+◌, ℕ, Bool, List, Option, None, Some, IsSome}
use Rattle.std.proofs.Common.{refl, sym, subst, ◌∙◌, inl, inr}
use Rattle.run_schedules.specs.Given.SeizeWordsMem.{value_at}
use Rattle.seize.specs.declared.advance.Advance.{Advance}
use Rattle.seize.specs.declared.rows.settle.Settled.{Settled}
use Rattle.seize.specs.declared.rows.settle.Settled.TheVariants as settled
use Rattle.seize.specs.declared.states.TheConstants.{LAST_SLOT}
use Rattle.seize.specs.World.{World, Hand, LeftTo, Step}
use Rattle.run_executor.proofs.Given.SeizeRulePoints.Aside.{HandFits}
use Rattle.run_executor.proofs.Given.SeizeMemoryWords.There.{value_there}
use Rattle.run_executor.proofs.Given.SeizeAloneHistories.Reached.{Reached, runs_reached, steps_reached}
use Rattle.papaya_raw.specs.Given.TablesNodes.{deferred_word}
use Rattle.papaya_raw.specs.Given.TablesDeclared.node.Node.{Node}
use Rattle.papaya_raw.specs.Given.TablesDeclared.setting.Setting.{Setting}
use Rattle.papaya_raw.specs.declared.machines.progress.Progress.{Progress as CallTold}
use Rattle.run_schedules.specs.Schedules.Moment.{Moment}
use Rattle.run_executor.specs.Given.CallersTogether.{UnderWay}
use Rattle.run_executor.proofs.Given.CallersTogether.Came.{came_reached}
use Rattle.run_executor.specs.Given.EffectsEffects.{known_after}
use Rattle.run_executor.specs.Given.EffectsKnown.{Known}
use Rattle.run_executor.specs.Given.EffectsDeclared.acting.Acting.TheVariants as acts
use Rattle.run_executor.specs.Given.EffectsDeclared.role.Role.TheVariants as role
use Rattle.run_executor.specs.Given.FinishesEndings.{Finishing}
use Rattle.run_executor.specs.Given.FinishesFactsEnds.{events_of}
use Rattle.run_executor.specs.Given.FinishesMakings.{Beginning}
use Rattle.run_executor.specs.Given.ScenesDeclared.row.RowTold.{RowTold}
use Rattle.run_executor.specs.Given.ScenesDeclared.row.SlotRow.{SlotRow}
use Rattle.run_executor.proofs.Given.FollowsOnward.{IsLasting, IsOfMap}
use Rattle.run_executor.proofs.Given.FollowsSteps.{step_shown, went_to}
use Rattle.run_executor.proofs.Given.HandsSteps.{calls_store_theirs}
use Rattle.run_executor.specs.Given.OthersEndings.{ending_after}
use Rattle.run_executor.specs.Given.OthersMakings.{WasNew}
use Rattle.run_executor.specs.Given.OthersRows.{scene_then}
use Rattle.run_executor.proofs.Given.OthersRowPlans.{row_tells}
use Rattle.run_executor.proofs.Given.MomentsEnds.{end_keeps}
use Rattle.run_executor.specs.Given.MomentsWhole.{RefinesWhole}
use Rattle.run_blocks.proofs.Given.SettlesHand.All.{own_or_row}
use Rattle.run_waiting.proofs.Lives.CallRows.{role_kept}
use Rattle.run_waiting.proofs.Lives.Lying.{row_pair}
use Rattle.run_waiting.proofs.Lives.Makings.{role_kept as made_kept}
use Rattle.run_waiting.proofs.Lives.Users.{left_lives}
use Rattle.run_waiting.proofs.Lives.Waiting.{left, reached}
use Rattle.run_kept.specs.Kept.Kept.{RefinesKept}
use Rattle.run_kept.proofs.Kept.Calls.{own_made}
use Rattle.run_waiting.specs.Remains.Remains.{LeftNoted}
use Rattle.run_executor.specs.Given.ScenesEnding.{EndingHasOutcome, EndingLeads}
use Rattle.run_executor.specs.Given.ScenesHeld.{Held, IsAt}
use Rattle.run_executor.specs.Given.ScenesMaking.{MakingLeads}
use Rattle.run_executor.specs.Given.ScenesOnSlots.{RowLeads}
use Rattle.run_executor.specs.Given.ScenesScene.{IsOnSlot, Scene}
use Rattle.run_executor.specs.Given.ScenesStepping.{StepLeads}

-- a block that is left over is there
module _ {K V : Type 0} (size : ℕ) (w : World (Node K V)) (r : Reached deferred_word size w) (b j : ℕ) (left_over : w.hand b ≡ LeftTo j) where
  pub left_there : IsSome (value_at w.memory b)
  left_there =
      value_there deferred_word (LAST_SLOT + 1) w.memory r.good.state r.good.extra b r.good.shows
      (left_lives (LeftTo j) (r.good.state.life b) tt (subst (λ (h : Hand). HandFits h (r.good.state.life b)) left_over (r.good.hands b)))

  left_value : (value : Node K V) × (value_at w.memory b ≡ Some value)
  left_value = of (value_at w.memory b) left_there refl
    where
      of : (p : Option (Node K V)) → IsSome p → value_at w.memory b ≡ p → (value : Node K V) × (value_at w.memory b ≡ Some value)
      of None some e = absurd (cc some)
      of (Some value) some e = (value, e)

-- So it is after a step of a row on a slot,
pub rows_note_left : {K V : Type 0} (same : K → K → Bool) (hash : ℕ → K → ℕ) (known : Known) (s : Scene K V) (old new : Held K V) (at : IsAt same hash old s) (i : ℕ) (said : RowTold (Node K V))
    (leads : RowLeads same hash i said s old new) (row : SlotRow) (here : IsOnSlot s i row)
    → LeftNoted known (known_after acts.Row new.changed known) s.world (scene_then same hash (Step i) s old new (leads row here).2).world
rows_note_left {K} {V} same hash known s old new at i said leads row here b n is before after =
    let to = leads row here in
    let r = reached K V same hash s old new at i row here (to.0, said) to.1 to.2 in
    row_pair known s.world to.2.0 b n is
    (left_value old.batch_size to.2.0 (steps_reached deferred_word old.batch_size i s.world to.2.0 r to.2.1) b after.0 after.1) new.changed
    (row_tells old.memory new.memory new.changed (to.0, said) row to.1)
    (left K V same hash s old new at i row here (to.0, said) to.1 to.2)

module _ {K V : Type 0} (same : K → K → Bool) (hash : ℕ → K → ℕ) (name : ℕ → List ℕ) (m : Moment K V) (known : Known) (s : Scene K V) (old new : Held K V) (at : IsAt same hash old s)
    (whole : RefinesWhole same name m known s) where
  -- of a call
  pub calls_note_left : RefinesKept name m known s → (map i : ℕ) (u : UnderWay K V K) (here : s.calls map i ≡ Some u) (said : CallTold (Node K V)) (leads : StepLeads same hash i said s old new)
      → (w2 : World (Node K V)) → LeftNoted known (known_after (acts.Call i map) new.changed known) s.world w2
  calls_note_left kept map i u here said leads w2 b n is before after =
      elim (own_or_row same hash name m known s old new at whole.all.shown map i u here said leads u (went_to same hash name m known s old new at whole.all.shown map i u here said leads).4.did)
      as (λ _. (known_after (acts.Call i map) new.changed known).roles b ≡ role.Pair n) [
        | inl own ↦
            let stores = (calls_store_theirs K V same hash name m known s old new at whole.all map i u here said leads own).0 in
            (step_shown same hash name m known s old new at whole.all.shown map i u here said leads own stores).1.keeps b (subst IsLasting (sym is) tt) ∙ is
        | inr other ↦ role_kept same hash name m known s old new at whole kept.entries (own_made K V same hash name m known s old at whole kept) kept.waiting map i u here said leads other b (role.Pair n) is tt
      ]

  -- of the making of a map
  pub makings_note_left : (i : ℕ) (said : Advance Setting) (leads : MakingLeads same hash i said s old new) (b : Beginning K) (here : s.makers i ≡ Some b) → Option ℕ → WasNew b.map said m
      → (w2 : World (Node K V)) → LeftNoted known (known_after (acts.Making b.map) new.changed known) s.world w2
  makings_note_left i said leads b here of was_new w2 x n is before after = made_kept same hash name m known s old new at whole i said leads b here of was_new x (role.Pair n) is tt

  -- of the end of one
  pub endings_note_left : (i map : ℕ) (said : Settled (Node K V)) (leads : EndingLeads same hash i said s old new) (f : Finishing K V) (here : s.enders i ≡ Some f) → s.maps map ≡ None
      → LeftNoted known (known_after (acts.Ending map) new.changed known) s.world
      (ending_after same hash s new i f (leads f here).0 (leads f here).2.w2 (leads f here).2.deed said (leads f here).3).world
  endings_note_left i map said leads f here not_there b n is before after =
      let to = leads f here in
      (end_keeps same hash name m known s old new at whole i f here to.0 said to.1 to.2 map not_there to.3).1 b (there said to.3 after) (subst IsOfMap (sym is) tt) ∙ is
    where
      r2 : Reached deferred_word old.batch_size (leads f here).2.w2
      r2 =
          runs_reached deferred_word old.batch_size (events_of i (leads f here).2.deed) s.world (leads f here).2.w2 (came_reached old.batch_size s.world at.together.makings.standing.came) (leads f here).2.runs

      there : (t : Settled (Node K V)) (c : EndingHasOutcome same hash s new i f (leads f here).0 (leads f here).2.w2 (leads f here).2.deed t)
          → ((j : ℕ) × ((ending_after same hash s new i f (leads f here).0 (leads f here).2.w2 (leads f here).2.deed t c).world.hand b ≡ LeftTo j)) → IsSome (value_at (leads f here).2.w2.memory b)
      there settled.Goes c l = left_there old.batch_size (leads f here).2.w2 r2 b l.0 l.1
      there settled.Waits c l = absurd c
      there (settled.Gave value) c l = left_there old.batch_size (leads f here).2.w2 r2 b l.0 l.1
      there settled.Done c l = left_there old.batch_size (leads f here).2.w2 r2 b l.0 l.1
