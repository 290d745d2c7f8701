-- The steps that a row took are a chain of steps from the scene in which it began.
use Rattle.std.specs.Prelude.{◌≡◌, ℕ, zero, suc, Bool, List, ◌++◌, None}
use Rattle.std.proofs.Common.{refl, subst, ◌∙◌}
use Rattle.play_stepping.specs.Given.SeizeWorld.{Step}
use Rattle.play_stepping.specs.Given.ExecutorDeclared.executor.Executor.{Executor}
use Rattle.play_lists.specs.Given.OthersRows.{scene_then}
use Rattle.run_schedules.specs.declared.effect.Effect.{Effect}
use Rattle.run_schedules.specs.Schedules.Effects.{with_effects}
use Rattle.run_schedules.specs.Schedules.Moment.{Moment}
use Rattle.run_schedules.specs.Schedules.Terms.{Terms}
use Rattle.play_lists.specs.Given.EffectsEffects.{effects_of, known_after}
use Rattle.play_lists.specs.Given.EffectsKnown.{Known, known}
use Rattle.play_lists.specs.Given.EffectsDeclared.acting.Acting.TheVariants as acts
use Rattle.play_stepping.specs.Given.LoggedGoes.{Far, GoesFor, RowGoes}
use Rattle.play_stepping.specs.Given.LoggedShown.{IsCounted}
use Rattle.play_stepping.proofs.Given.LoggedCounted.{counted_row_steps}
use Rattle.play_lists.proofs.Given.ShedsLeftNoted.{rows_note_left}
use Rattle.run_legal.specs.Chains.{Chain, Come, RowSteps}
use Rattle.play_stepping.specs.Given.ExecutorIsThere.{IsThere, held_by}
use Rattle.play_lists.specs.Given.ScenesScene.{Scene}
use Rattle.play_stepping.proofs.Given.ExecutorRowLeads.{has_row, held_row}

module _ {K V S : Type 0} where
  -- how far an event has come that has run so far, at this moment, in this scene
  abbrev pub come_by : Far K V S → Moment K V → Scene K V → Come K V
  come_by f now s = record { held = held_by f.logged.executor; did = f.effects; now = now; notes = known f.logged.notes; scene = s }

  -- so it is by what it did, and by what is known then
  pub come_as : (e : Executor K V S) (now : Moment K V) (s : Scene K V) (a b : List Effect) (c d : Known) → a ≡ b → c ≡ d
      → ◌≡◌ {A = Come K V} (record { held = held_by e; did = a; now = now; notes = c; scene = s }) (record { held = held_by e; did = b; now = now; notes = d; scene = s })
  come_as e now s a b c d did noted = λ j. record { held = held_by e; did = did j; now = now; notes = noted j; scene = s }

module _ {K V S : Type 0} (same : K → K → Bool) (hash : K → ℕ) (terms : Terms) (i : ℕ) where
  -- So many steps have led to where the run is: the executor is there in the scene, and calls are under way as they were.
  pub record RowComes (n : ℕ) (x : Come K V) (f : Far K V S) : Type 0 where
    pub now : Moment K V
    pub scene : Scene K V
    pub chain : Chain (RowSteps same (λ map. hash) terms i) n x (come_by f now scene)
    pub is_at : IsThere same hash f.logged.executor scene
    pub size : f.logged.executor.batch_size ≡ terms.batch_size
    pub calls : scene.calls ≡ x.scene.calls
    pub counted : IsCounted now f.logged scene

  pub rows_come : (n : ℕ) (from to : Far K V S) (now : Moment K V) (s : Scene K V) → IsThere same hash from.logged.executor s → from.logged.executor.batch_size ≡ terms.batch_size
      → IsCounted now from.logged s → GoesFor (RowGoes i) n from to → RowComes n (come_by from now s) to
  rows_come zero from to now s at size counted is =
      subst (λ (f : Far K V S). RowComes 0 (come_by from now s) f) is (record { now = now; scene = s; chain = refl; is_at = at; size = size; calls = refl; counted = counted })
  rows_come (suc n) from to now s at size counted (mid, gone, step) =
      let y = rows_come n from mid now s at size counted gone in
      let went = step.leads same hash y.scene y.is_at in
      let leads = held_row same hash y.scene mid.logged.executor to.logged.executor y.is_at i step.said went in
      let row = step.under.0 in
      let here = (went row step.under.1).0 in
      let effects = effects_of acts.Row (known mid.logged.notes) to.logged.executor.memory.changed in
      let next = scene_then same (λ map. hash) (Step i) y.scene (held_by mid.logged.executor) (held_by to.logged.executor) (leads row here).2 in
      let w = with_effects None None effects y.now in
      record {
        now = w;
        scene = next;
        chain = (
          come_by mid y.now y.scene,
          y.chain,
          record {
            is_at = y.is_at.held;
            size = y.size;
            said = step.said;
            leads = leads;
            row = row;
            here = here;
            comes = come_as to.logged.executor w next to.effects (mid.effects ++ effects) (known to.logged.notes) (known_after acts.Row to.logged.executor.memory.changed (known mid.logged.notes))
                step.is_noted.did step.is_noted.noted;
          },
        );
        is_at = (went row (has_row same hash mid.logged.executor y.scene y.is_at i row here)).5.4;
        size = step.is_noted.given.1 ∙ y.size;
        calls = y.calls;
        counted = counted_row_steps same (λ map. hash) mid.logged to.logged.executor to.logged.notes step.is_noted.given y.now y.scene y.is_at.held y.counted i step.said leads row here step.is_noted.noted
            (rows_note_left same (λ map. hash) (known mid.logged.notes) y.scene (held_by mid.logged.executor) (held_by to.logged.executor) y.is_at.held i step.said leads row here);
      }
