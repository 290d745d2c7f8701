-- A step of a call is written down.
use Rattle.std.specs.Prelude.{◌≡◌, ℕ, Bool, true, false, ◌||◌, List, ◌++◌, Some}
use Rattle.std.specs.List.{list_any}
use Rattle.std.proofs.Common.{ap, subst, sym, ◌∙◌}
use Rattle.std.proofs.Math.Bool.{or-false}
use Rattle.std.proofs.lemmas.List.Folds.{list_any-append}
use Rattle.papaya_raw.specs.Given.TablesDeclared.node.Node.{Node}
use Rattle.papaya_raw.specs.declared.machines.progress.Progress.{Progress}
use Rattle.run_schedules.specs.declared.effect.Effect.{Effect}
use Rattle.run_schedules.specs.Schedules.Effects.{with_effects}
use Rattle.run_schedules.specs.Schedules.Handing.{is_made}
use Rattle.run_schedules.specs.Schedules.Moment.{Moment}
use Rattle.run_effects.specs.Effects.Effects.{effects_of, known_after}
use Rattle.run_effects.specs.Effects.Known.{Known, known}
use Rattle.run_effects.specs.declared.notes.Notes.{Notes}
use Rattle.run_effects.specs.declared.acting.Acting.{Acting}
use Rattle.run_effects.specs.declared.acting.Acting.TheVariants as acts
use Rattle.run_executor.specs.declared.executor.Executor.{Executor}
use Rattle.run_executor.proofs.Given.MomentsCalls.{calls_keep_whole}
use Rattle.run_executor.specs.Given.MomentsWhole.{RefinesWhole}
use Rattle.run_kept.specs.Kept.Kept.{RefinesKept}
use Rattle.run_kept.proofs.Kept.Calls.{calls_keep_kept}
use Rattle.run_kept.proofs.Kept.NoneMade.{none_made}
use Rattle.run_effects.specs.ReportingMemory.Changed.{is_made as is_block_made}
use Rattle.run_effects.specs.declared.changed.Changed.{Changed}
use Rattle.run_logged.specs.Log.Calling.{CallContinues, MakesNoMore}
use Rattle.run_logged.specs.Log.Shown.{IsShown}
use Rattle.run_logged.specs.declared.logged.Logged.{Logged}
use Rattle.run_logged.proofs.Log.Counted.{counted_call_steps}
use Rattle.run_kept.proofs.Sheds.LeftNoted.{calls_note_left}
use Rattle.run_executor.specs.Executing.IsThere.{IsThere, PreservesSettings, held_by}
use Rattle.run_executor.specs.Executing.Stepping.{StepsThere}
use Rattle.run_shows.specs.Scenes.Scene.{Scene}
use Rattle.run_shows.specs.Scenes.Stepping.{scene_after}
use Rattle.run_kept.proofs.Sheds.Held.{call_held, maps_below}

module _ {K V S : Type 0} (same : K → K → Bool) (hash : K → ℕ) where
  goes_so : (old : Logged K V S) (stepped : Executor K V S) (notes : Notes) (i map : ℕ) (told : Progress (Node K V)) (before after : List Effect)
      → ((s : Scene K V) → IsThere same hash old.executor s → StepsThere same hash i told s old.executor stepped)
      → after ≡ before ++ effects_of (acts.Call i map) (known old.notes) stepped.memory.changed
      → known notes ≡ known_after (acts.Call i map) stepped.memory.changed (known old.notes) → PreservesSettings old.executor stepped
      → (name : ℕ → List ℕ) (m : Moment K V) (s : Scene K V) → IsShown same hash name m old s
      → CallContinues same hash name m s i map told before after old (record { executor = stepped; notes = notes })
  goes_so old stepped notes i map told before after stepping did noted given name m s shown u here =
      let went = stepping s shown.is_at in
      let leads = call_held same hash s old.executor stepped i told went in
      let to = leads map u here in
      let effects = effects_of (acts.Call i map) (known old.notes) stepped.memory.changed in (
        leads,
        did,
        noted,
        record {
          is_at = (went map u here).5;
          shows = subst (λ (k : Known). RefinesWhole {K = K} {V = V} same name (with_effects (Some (name i)) (Some map) effects m) k (scene_after same s (held_by old.executor) (held_by stepped) map i to.0 u to.1 told to.4)) (sym noted)
              (calls_keep_whole K V same (λ map. hash) name m (known old.notes) s (held_by old.executor) (held_by stepped) shown.is_at.held shown.shows map i u here told leads);
          kept = subst (λ (k : Known). RefinesKept {K = K} {V = V} name (with_effects (Some (name i)) (Some map) effects m) k (scene_after same s (held_by old.executor) (held_by stepped) map i to.0 u to.1 told to.4)) (sym noted)
              (calls_keep_kept K V same (λ map. hash) name m (known old.notes) s (held_by old.executor) (held_by stepped) shown.is_at.held shown.shows shown.kept map i u here told leads);
          counted = counted_call_steps same (λ map. hash) old stepped notes given m s shown.is_at.held (maps_below same hash old.executor s shown.is_at) shown.counted map i u here told leads (name i) noted
              (calls_note_left same (λ map. hash) name m (known old.notes) s (held_by old.executor) (held_by stepped) shown.is_at.held shown.shows shown.kept map i u here told leads
              (scene_after same s (held_by old.executor) (held_by stepped) map i to.0 u to.1 told to.4).world);
        },
      )

  -- The executor has taken the step, and then its memory was noted: the executor stayed as it was.
  pub goes_on : (old new : Logged K V S) (stepped : Executor K V S) (i map : ℕ) (told : Progress (Node K V)) (before after : List Effect)
      → ((s : Scene K V) → IsThere same hash old.executor s → StepsThere same hash i told s old.executor stepped)
      → after ≡ before ++ effects_of (acts.Call i map) (known old.notes) stepped.memory.changed
      → known new.notes ≡ known_after (acts.Call i map) stepped.memory.changed (known old.notes)
      → new.executor ≡ stepped → PreservesSettings old.executor stepped
      → (name : ℕ → List ℕ) (m : Moment K V) (s : Scene K V) → IsShown same hash name m old s → CallContinues same hash name m s i map told before after old new
  goes_on old new stepped i map told before after stepping did noted executor given name m s shown =
      subst (λ (e : Executor K V S). CallContinues same hash name m s i map told before after old (record { executor = e; notes = new.notes })) (sym executor)
      (goes_so old stepped new.notes i map told before after stepping did noted given name m s shown)

-- where it made no block, it makes no pair, and no table
pub makes_no_more : (refuse : Bool) (its : Acting) (noted : Known) (told : Changed) (before after : List Effect) → after ≡ before ++ effects_of its noted told
    → (refuse ≡ true → is_block_made told ≡ false) → MakesNoMore refuse before after
makes_no_more refuse its noted told before after did unmade refused =
    ap (list_any is_made) did ∙ list_any-append is_made before (effects_of its noted told)
    ∙ ap (λ (q : Bool). list_any is_made before || q) (none_made its noted told (unmade refused)) ∙ or-false (list_any is_made before)
