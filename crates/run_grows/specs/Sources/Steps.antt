-- A step of a call, whichever it is: where pairs were copied from is so after it; and what it puts behind a table finds room there.
use Rattle.std.specs.Prelude.{◌≡◌, ℕ, Bool, List, Some}
use Rattle.run_finds.specs.Given.TablesDeclared.node.Node.{Node}
use Rattle.run_finds.specs.Given.RawDeclared.machines.progress.Progress.{Progress}
use Rattle.run_finds.specs.Given.SchedulesEffects.{with_effects}
use Rattle.run_finds.specs.Given.SchedulesMoment.{Moment}
use Rattle.run_finds.specs.Given.CallersTogether.{UnderWay}
use Rattle.run_finds.specs.Given.EffectsEffects.{effects_of, known_after}
use Rattle.run_finds.specs.Given.EffectsKnown.{Known}
use Rattle.run_finds.specs.Given.EffectsDeclared.acting.Acting.TheVariants as acts
use Rattle.run_finds.specs.Given.MomentsWhole.{RefinesWhole}
use Rattle.run_finds.specs.Given.SettlesDue.{OwnAreMade}
use Rattle.run_finds.specs.Given.SettlesEntries.{EntriesAreBlank}
use Rattle.run_finds.specs.Given.SettlesHand.{RefinesObligations}
use Rattle.run_finds.specs.Waits.{FindPast, FindDeferrals, FindSpace}
use Rattle.run_finds.specs.Within.{AllIsInOrder}
use Rattle.run_grows.specs.Sources.Sources.{RefinesSources}
use Rattle.run_finds.specs.Given.ScenesHeld.{Held, IsAt}
use Rattle.run_finds.specs.Given.ScenesScene.{Scene}
use Rattle.run_finds.specs.Given.ScenesStepping.{StepLeads, scene_after}

module _ (K V : Type 0) (same : K → K → Bool) (hash : ℕ → K → ℕ) where
  abbrev pub CallsPreserveSources : Type 0
  CallsPreserveSources =
      (name : ℕ → List ℕ) (m : Moment K V) (known : Known) (s : Scene K V) (old new : Held K V) → IsAt same hash old s → RefinesWhole same name m known s → RefinesSources same name m known s
      → (map i : ℕ) (u : UnderWay K V K) (here : s.calls map i ≡ Some u) (said : Progress (Node K V)) (leads : StepLeads same hash i said s old new)
      → (let to = leads map u here in
      RefinesSources same name (with_effects (Some (name i)) (Some map) (effects_of (acts.Call i map) known new.changed) m) (known_after (acts.Call i map) new.changed known)
      (scene_after same s old new map i to.0 u to.1 said to.4))

  -- At a moment at which all is in order, if a pair that it puts behind a table was copied past that one, in a map that grows in chunks.
  abbrev pub CallsFindSpace : Type 0
  CallsFindSpace =
      (name : ℕ → List ℕ) (m : Moment K V) (known : Known) (s : Scene K V) (old new : Held K V) → IsAt same hash old s → RefinesWhole same name m known s → EntriesAreBlank s → OwnAreMade known s.world
      → RefinesObligations name m known s → RefinesSources same name m known s → AllIsInOrder m
      → (map i : ℕ) (u : UnderWay K V K) (here : s.calls map i ≡ Some u) (said : Progress (Node K V)) (leads : StepLeads same hash i said s old new)
      → (let effects = effects_of (acts.Call i map) known new.changed in FindPast (name i) map effects m → FindDeferrals (name i) map effects m → FindSpace (name i) map effects m)
