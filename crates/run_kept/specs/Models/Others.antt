-- Makings and ends of maps, where calls come one after another.
use Rattle.std.specs.Prelude.{◌≡◌, ℕ, Bool, List, [], ◌∷◌, flat_map, Option, Some}
use Rattle.seize.specs.WaitingSets.{Sets}
use Rattle.seize.specs.declared.advance.Advance.{Advance}
use Rattle.papaya_raw.specs.Given.TablesDeclared.setting.Setting.{Setting}
use Rattle.run_schedules.specs.Schedules.After.{moment}
use Rattle.run_schedules.specs.Schedules.Entry.{Entry}
use Rattle.run_schedules.specs.Schedules.Model.{IsByModel, thing_back, handing, things_in, changes_of, left_last}
use Rattle.run_schedules.specs.Schedules.Moment.{Moment}
use Rattle.run_schedules.specs.Schedules.Terms.{Terms}
use Rattle.run_schedules.specs.declared.effect.Effect.{Effect}
use Rattle.run_schedules.specs.declared.effect.Effect.TheVariants.{Retired, Deferred}
use Rattle.run_schedules.specs.declared.effect.Thing.{Thing}
use Rattle.run_executor.specs.Given.EffectsEffects.{effects_of, known_after}
use Rattle.run_executor.specs.Given.EffectsKnown.{Known}
use Rattle.run_executor.specs.Given.EffectsDeclared.acting.Acting.TheVariants.{Making}
use Rattle.run_executor.specs.Given.FinishesMakings.{Beginning}
use Rattle.run_executor.specs.Given.MomentsWhole.{RefinesWhole}
use Rattle.run_kept.specs.Models.Calls.{sets_on}
use Rattle.run_executor.specs.Given.OthersMakings.{WasNew}
use Rattle.run_kept.specs.Models.Follows.{FollowsSets}
use Rattle.run_executor.specs.Given.ScenesHeld.{Held, IsAt}
use Rattle.run_executor.specs.Given.ScenesMaking.{MakingLeads}
use Rattle.run_executor.specs.Given.ScenesScene.{Scene}

-- it hands nothing over
abbrev pub HandsNone : Effect → Type 0
HandsNone (Retired x) = ⊥
HandsNone (Deferred n t) = ⊥
HandsNone _ = Unit {0}

abbrev pub HandNone : List Effect → Type 0
HandNone [] = Unit {0}
HandNone (e ∷ effects) = HandsNone e × HandNone effects

-- The promises: an event that hands nothing over and reclaims nothing is by the model, as the making of a map, or its end,
abbrev pub MapsAreByModel : Type 0 → Type 0 → Type 0
MapsAreByModel K V =
    (terms : Terms) (log : List (Entry K V)) (e : Entry K V) (slot : ℕ) → changes_of log e ≡ flat_map (handing (things_in (e ∷ log)) slot) e.effects
    → left_last e.event e.outcome (moment log) ≡ [] → HandNone e.effects → flat_map thing_back e.effects ≡ [] → IsByModel terms log e

-- and after each step of a making the sets are alike still.
module _ (K V : Type 0) (same : K → K → Bool) (hash : ℕ → K → ℕ) where
  abbrev pub MakingsFollow : Type 0
  MakingsFollow =
      (name : ℕ → List ℕ) (m : Moment K V) (known : Known) (s : Scene K V) (old new : Held K V) → IsAt same hash old s → RefinesWhole same name m known s
      → (i : ℕ) (told : Advance Setting) (leads : MakingLeads same hash i told s old new) (b : Beginning K) (here : s.makers i ≡ Some b) → Option ℕ → WasNew b.map told m
      → (roots : ℕ) (things : List Thing) (sets : Sets) → FollowsSets old.batch_size roots things sets known s.world → (slot : ℕ)
      → (let effects = effects_of (Making b.map) known new.changed in
      FollowsSets old.batch_size roots things (sets_on old.batch_size things slot effects sets) (known_after (Making b.map) new.changed known) (leads b here).2.step.w2)
