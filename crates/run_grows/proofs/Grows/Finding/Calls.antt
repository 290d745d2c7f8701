-- What steps of calls find by is so after each step of a call, whichever it is.
use Rattle.std.specs.Prelude.{◌≡◌, ℕ, Bool, List, Some}
use Rattle.papaya_raw.specs.Given.TablesDeclared.node.Node.{Node}
use Rattle.papaya_raw.specs.declared.machines.progress.Progress.{Progress}
use Rattle.run_schedules.specs.Schedules.Effects.{with_effects}
use Rattle.run_schedules.specs.Schedules.Moment.{Moment}
use Rattle.run_finds.specs.Given.CallersTogether.{UnderWay}
use Rattle.run_finds.specs.Given.EffectsEffects.{effects_of, known_after}
use Rattle.run_finds.specs.Given.EffectsKnown.{Known}
use Rattle.run_finds.specs.Given.EffectsDeclared.acting.Acting.TheVariants as acts
use Rattle.run_finds.specs.Given.MomentsWhole.{RefinesWhole}
use Rattle.run_finds.specs.Given.SettlesDue.{OwnAreMade}
use Rattle.run_kept.specs.Kept.Kept.{RefinesKept}
use Rattle.run_kept.proofs.Kept.Calls.{own_made}
use Rattle.run_finds.proofs.Capacities.{calls_keep_capacities}
use Rattle.run_finds.proofs.Grows.Steps.{calls_keep_growing}
use Rattle.run_grows.proofs.Waits.Puts.{calls_keep_puts}
use Rattle.run_grows.proofs.Waits.Steps.{calls_keep_waits}
use Rattle.run_grows.specs.Grows.Finding.{RefinesFinding}
use Rattle.run_grows.proofs.Grows.Finding.Making.Steps.{further_then}
use Rattle.run_finds.specs.Given.ScenesHeld.{Held, IsAt}
use Rattle.run_finds.specs.Given.ScenesScene.{Scene}
use Rattle.run_finds.specs.Given.ScenesStepping.{StepLeads, scene_after}

module _ (K V : Type 0) (same : K → K → Bool) (hash : ℕ → K → ℕ) (name : ℕ → List ℕ) (m : Moment K V) (known : Known) (s : Scene K V) (old new : Held K V) (at : IsAt same hash old s)
    (whole : RefinesWhole same name m known s) (kept : RefinesKept name m known s) (finding : RefinesFinding name m known s) (map i : ℕ) (u : UnderWay K V K) (here : s.calls map i ≡ Some u)
    (said : Progress (Node K V)) (leads : StepLeads same hash i said s old new) where
  pub calls_keep_finding : (let to = leads map u here in
      RefinesFinding name (with_effects (Some (name i)) (Some map) (effects_of (acts.Call i map) known new.changed) m) (known_after (acts.Call i map) new.changed known)
      (scene_after same s old new map i to.0 u to.1 said to.4))
  calls_keep_finding = record {
    growing = calls_keep_growing K V same hash name m known s old new at whole finding.growing map i u here said leads;
    further = further_then same hash name m known s old new at whole finding.further map i u here said leads;
    capacities = calls_keep_capacities K V same hash name m known s old new finding.capacities map i u here said leads;
    waits = calls_keep_waits K V same hash name m known s old new at whole kept.entries owning kept.owed finding.waits map i u here said leads;
    puts = calls_keep_puts K V same hash name m known s old new at whole kept.entries owning finding.puts map i u here said leads;
  }
    where
      owning : OwnAreMade known s.world
      owning = own_made K V same hash name m known s old at whole kept
