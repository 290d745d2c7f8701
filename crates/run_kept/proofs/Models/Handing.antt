-- A step of a call that is none of a row hands nothing over, whichever kind of call it is.
use Rattle.std.specs.Prelude.{◌≡◌, ℕ, Bool, List, [], ◌∷◌, ◌++◌, flat_map, Some}
use Rattle.std.proofs.Common.{refl, ap, ◌∙◌}
use Rattle.std.proofs.lemmas.List.Concat.{flat_map-cons}
use Rattle.seize.specs.WaitingSets.{Change}
use Rattle.papaya_raw.specs.Given.TablesDeclared.node.Node.{Node}
use Rattle.run_schedules.specs.Schedules.Model.{handing}
use Rattle.run_schedules.specs.Schedules.Moment.{Moment}
use Rattle.run_schedules.specs.declared.effect.Effect.{Effect}
use Rattle.run_schedules.specs.declared.effect.Effect.TheVariants.{Retired, Deferred, Taken}
use Rattle.run_schedules.specs.declared.effect.Thing.{Thing}
use Rattle.papaya_raw.specs.declared.machines.progress.Progress.{Progress}
use Rattle.run_executor.specs.Given.CallersTogether.{UnderWay}
use Rattle.run_executor.specs.Given.EffectsEffects.{effects_of}
use Rattle.run_executor.specs.Given.EffectsKnown.{Known}
use Rattle.run_executor.specs.Given.EffectsDeclared.acting.Acting.TheVariants.{Call}
use Rattle.run_executor.specs.Given.FollowsShows.{Refines}
use Rattle.run_executor.proofs.Given.FollowsSteps.{WentTo, went_to, DidSo, OfNoRow}
use Rattle.run_executor.proofs.Given.SpotsHanding.{KeepsAll, AllKeep, nothing_keep}
use Rattle.run_executor.proofs.Given.SpotsSteps.{hands_nothing}
use Rattle.run_kept.specs.Models.Numbers.{IsOfThings, AreOfThings}
use Rattle.run_executor.specs.Given.ScenesHeld.{Held, IsAt}
use Rattle.run_executor.specs.Given.ScenesScene.{Scene}
use Rattle.run_executor.specs.Given.ScenesStepping.{StepLeads}

pub nothing_handed : (things : List Thing) (slot : ℕ) (effects : List Effect) → AllKeep effects → flat_map (handing things slot) effects ≡ []
nothing_handed things slot [] all = refl
nothing_handed things slot (e ∷ effects) all =
    flat_map-cons (handing things slot) e effects ∙ ap (λ (cs : List Change). cs ++ flat_map (handing things slot) effects) (by e all.0) ∙ nothing_handed things slot effects all.1
  where
    by : (e : Effect) → KeepsAll e → handing things slot e ≡ []
    by (Retired x) is = absurd is
    by (Deferred n t) is = absurd is
    by (Taken t) is = absurd is
    by _ is = refl

-- nor is there anything that has not come into a map
pub keep_of : (things : List Thing) (effects : List Effect) → AllKeep effects → AreOfThings things effects
keep_of things [] all = tt
keep_of things (e ∷ effects) all = (by e all.0, keep_of things effects all.1)
  where
    by : (e : Effect) → KeepsAll e → IsOfThings things e
    by (Retired x) is = absurd is
    by (Deferred n t) is = absurd is
    by (Taken t) is = absurd is
    by _ is = tt

-- whichever kind of call it is
module _ {K V : Type 0} (same : K → K → Bool) (hash : ℕ → K → ℕ) (name : ℕ → List ℕ) (m : Moment K V) (known : Known) (s : Scene K V) (old new : Held K V) (at : IsAt same hash old s)
    (shown : Refines same name m known s) (map i : ℕ) (u : UnderWay K V K) (here : s.calls map i ≡ Some u) (told : Progress (Node K V)) (leads : StepLeads same hash i told s old new) where
  abbrev to : WentTo same hash name m known s old new at shown map i u here told leads
  to = went_to same hash name m known s old new at shown map i u here told leads

  abbrev Did : UnderWay K V K → Type 0
  Did x = DidSo same hash name m known s old new at shown map i u here told leads x

  abbrev NoRow : (x : UnderWay K V K) → Did x → Type 0
  NoRow x did = OfNoRow same hash name m known s old new at shown map i u here told leads x did

  pub keeps_all : NoRow u to.4.did → AllKeep (effects_of (Call i map) known new.changed)
  keeps_all own = nothing_keep (effects_of (Call i map) known new.changed) (hands_nothing same hash name m known s old new at shown map i u here told leads own)
