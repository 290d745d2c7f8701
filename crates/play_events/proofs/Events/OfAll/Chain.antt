-- The steps by which all was reclaimed are a chain of steps from the scene in which that began.
use Rattle.std.specs.Prelude.{◌≡◌, ◌++◌, ℕ, zero, suc, Bool, true, false, List, None, option_map}
use Rattle.std.proofs.Common.{refl, ap, subst, ◌∙◌}
use Rattle.play_stepping.specs.Given.SeizeDeclared.rows.reclaim_all.ReclaimAll.{ReclaimAll}
use Rattle.play_stepping.specs.Given.SeizeDeclared.rows.settle.Settled.{Settled}
use Rattle.play_stepping.specs.Given.SeizeDeclared.rows.settle.Settled.TheVariants as settled
use Rattle.play_lists.specs.Given.TablesDeclared.node.Node.{Node}
use Rattle.play_lists.specs.Given.EffectsEffects.{effects_of, known_after}
use Rattle.play_lists.specs.Given.EffectsDeclared.acting.Acting.TheVariants as acts
use Rattle.run_schedules.specs.declared.effect.Effect.{Effect}
use Rattle.run_schedules.specs.Schedules.Effects.{with_effects}
use Rattle.run_schedules.specs.Schedules.Moment.{Moment}
use Rattle.run_schedules.specs.Schedules.Terms.{Terms}
use Rattle.play_lists.specs.Given.EffectsKnown.{known}
use Rattle.run_legal.specs.Given.ReclaimsReclaims.{AllIsReclaimed}
use Rattle.play_stepping.specs.Given.ReclaimingReclaiming.{IsReclaimingThere, ReclaimsThere}
use Rattle.play_lists.specs.Given.ScenesReclaiming.{ReclaimingOutcomeHolds, ReclaimingLeads}
use Rattle.play_lists.proofs.Given.ShedsHeld.{reclaim_held}
use Rattle.play_stepping.specs.Given.LoggedEnds.{is_done}
use Rattle.play_stepping.specs.Given.LoggedGoes.{Far, GoesFor, ReclaimingGoes, ReclaimingOn}
use Rattle.run_legal.proofs.Given.LogReclaimsRun.{same_setting}
use Rattle.run_legal.specs.AllEvents.{AllCome, AllSteps, scene_in}
use Rattle.run_legal.specs.Chains.{Chain, Come}
use Rattle.play_events.proofs.Events.OfRows.Chain.{come_as, come_by}
use Rattle.play_stepping.specs.Given.ExecutorIsThere.{IsThere, held_by}
use Rattle.play_lists.specs.Given.ScenesScene.{Scene}

module _ {K V S : Type 0} where
  -- how far an event has come that has run so far, at this moment, in this scene, with these lists behind the roots
  abbrev pub all_come : Far K V S × ReclaimAll → Moment K V → Scene K V → (ℕ → List ℕ) → AllCome K V
  all_come f now s lists = record { come = come_by f.0 now s; all = f.1; lists = lists }

pub is_over : {K V : Type 0} (said : Settled (Node K V)) → is_done said ≡ true → said ≡ settled.Done
is_over settled.Goes over = absurd (cc over)
is_over settled.Waits over = absurd (cc over)
is_over (settled.Gave value) over = absurd (cc over)
is_over settled.Done over = refl

module _ {K V S : Type 0} (same : K → K → Bool) (hash : K → ℕ) (terms : Terms) (i : ℕ) where
  -- a step that was noted is one of the chain
  module _ (from to : Far K V S × ReclaimAll) (now : Moment K V) (s : Scene K V) (lists : ℕ → List ℕ) (under : IsReclaimingThere same hash from.0.logged.executor s i lists from.1)
      (roots : from.0.logged.executor.roots ≡ terms.roots) (step : ReclaimingGoes from to) where
    abbrev went : ReclaimsThere same hash s i lists from.0.logged.executor to.0.logged.executor from.1 to.1 step.1
    went = step.2 same hash s i lists under

    abbrev pub leads : ReclaimingLeads same (λ map. hash) s i lists (held_by from.0.logged.executor) (held_by to.0.logged.executor) from.1 to.1 step.1
    leads = reclaim_held same hash s from.0.logged.executor to.0.logged.executor i lists from.1 to.1 step.1 went

    abbrev effects : List Effect
    effects = effects_of acts.Row (known from.0.logged.notes) to.0.logged.executor.memory.changed

    abbrev pub then_now : Moment K V
    then_now = with_effects None None effects now

    abbrev pub then_scene : Scene K V
    then_scene = scene_in s leads.1.w2 leads.1.maps2

    abbrev pub step_so : from.0.logged.executor.batch_size ≡ terms.batch_size → AllSteps same (λ map. hash) terms i (all_come from now s lists) (all_come to then_now then_scene leads.1.lists2)
    step_so size = record {
      under_way = under.held;
      roots_are = roots;
      size = size;
      said = step.1;
      leads = leads;
      comes = ap (λ (c : Come K V). record { come = c; all = to.1; lists = leads.1.lists2 })
          (come_as to.0.logged.executor then_now then_scene to.0.effects (from.0.effects ++ effects) (known to.0.logged.notes)
          (known_after acts.Row to.0.logged.executor.memory.changed (known from.0.logged.notes)) step.0.did step.0.noted);
    }

    abbrev Comes : Settled (Node K V) → Type 0
    Comes said =
        ReclaimingOutcomeHolds same s i lists (λ s2 lists2 all. IsReclaimingThere same hash to.0.logged.executor s2 i lists2 all) (IsThere same hash to.0.logged.executor)
        (held_by from.0.logged.executor) (held_by to.0.logged.executor) then_scene leads.1.lists2 to.1 said

    -- after which it goes on,
    pub still_under : is_done step.1 ≡ false → IsReclaimingThere same hash to.0.logged.executor then_scene i leads.1.lists2 to.1
    still_under more = by step.1 more went.2
      where
        by : (said : Settled (Node K V)) → is_done said ≡ false → Comes said → IsReclaimingThere same hash to.0.logged.executor then_scene i leads.1.lists2 to.1
        by settled.Goes more comes = comes
        by settled.Waits more comes = comes
        by (settled.Gave value) more comes = comes
        by settled.Done more comes = absurd (cc more)

    -- or all is back,
    pub all_back : step.1 ≡ settled.Done → AllIsReclaimed from.0.logged.executor.roots then_scene.world then_scene.maps
    all_back done = (subst Comes done went.2).0

    -- and the executor is there
    pub over_there : step.1 ≡ settled.Done → IsThere same hash to.0.logged.executor then_scene
    over_there done = (subst Comes done went.2).1

  -- So many steps have led to where the run is: all is being reclaimed in the scene, in which each map stands as it stood.
  pub record AllComes (s0 : Scene K V) (n : ℕ) (x : AllCome K V) (f : Far K V S × ReclaimAll) : Type 0 where
    pub now : Moment K V
    pub scene : Scene K V
    pub lists : ℕ → List ℕ
    pub chain : Chain (AllSteps same (λ map. hash) terms i) n x (all_come f now scene lists)
    pub under_way : IsReclaimingThere same hash f.0.logged.executor scene i lists f.1
    pub roots : f.0.logged.executor.roots ≡ terms.roots
    pub size : f.0.logged.executor.batch_size ≡ terms.batch_size
    pub calls : scene.calls ≡ s0.calls
    pub settings : (k : ℕ) → option_map (λ standing. standing.setting) (scene.maps k) ≡ option_map (λ standing. standing.setting) (s0.maps k)

  pub all_comes : (s0 : Scene K V) (n : ℕ) (from to : Far K V S × ReclaimAll) (now : Moment K V) (s : Scene K V) (lists : ℕ → List ℕ) → IsReclaimingThere same hash from.0.logged.executor s i lists from.1
      → from.0.logged.executor.roots ≡ terms.roots → from.0.logged.executor.batch_size ≡ terms.batch_size
      → s.calls ≡ s0.calls → ((k : ℕ) → option_map (λ standing. standing.setting) (s.maps k) ≡ option_map (λ standing. standing.setting) (s0.maps k)) → GoesFor ReclaimingOn n from to
      → AllComes s0 n (all_come from now s lists) to
  all_comes s0 zero from to now s lists under roots size calls settings is =
      subst (λ (f : Far K V S × ReclaimAll). AllComes s0 0 (all_come from now s lists) f) is
      (record { now = now; scene = s; lists = lists; chain = refl; under_way = under; roots = roots; size = size; calls = calls; settings = settings })
  all_comes s0 (suc n) from to now s lists under roots size calls settings (mid, gone, step) =
      let y = all_comes s0 n from mid now s lists under roots size calls settings gone in
      record {
        now = then_now mid to y.now y.scene y.lists y.under_way y.roots step.0;
        scene = then_scene mid to y.now y.scene y.lists y.under_way y.roots step.0;
        lists = (leads mid to y.now y.scene y.lists y.under_way y.roots step.0).1.lists2;
        chain = (all_come mid y.now y.scene y.lists, y.chain, step_so mid to y.now y.scene y.lists y.under_way y.roots step.0 y.size);
        under_way = still_under mid to y.now y.scene y.lists y.under_way y.roots step.0 step.1;
        roots = step.0.0.given.2 ∙ y.roots;
        size = step.0.0.given.1 ∙ y.size;
        calls = y.calls;
        settings = λ k. same_setting (y.scene.maps k) ((leads mid to y.now y.scene y.lists y.under_way y.roots step.0).1.maps2 k)
            ((leads mid to y.now y.scene y.lists y.under_way y.roots step.0).1.as_they_were k) ∙ y.settings k;
      }
