-- What is promised of the effects of a step of a call, by what a moment shows: they find what is left of what they must.
use Rattle.std.specs.Prelude.{◌≡◌, ℕ, ◌+◌, Bool, List, ◌∷◌, Some}
use Rattle.papaya_raw.specs.Given.TablesDeclared.node.Node.{Node}
use Rattle.run_finds.specs.Given.ResizeDeclared.new_table.NewTable.{NewTable}
use Rattle.papaya_raw.specs.declared.machines.progress.Progress.{Progress}
use Rattle.run_schedules.specs.Schedules.Growing.{HasNext}
use Rattle.run_schedules.specs.Schedules.Lists.{OneOf}
use Rattle.run_schedules.specs.Schedules.Moment.{UnderWay as CallThere, Moment}
use Rattle.run_schedules.specs.Schedules.Terms.{Terms, shards_of}
use Rattle.run_schedules.specs.Schedules.Views.{call_of}
use Rattle.run_finds.specs.Given.CallersTogether.{UnderWay}
use Rattle.run_finds.specs.Given.EffectsEffects.{effects_of}
use Rattle.run_finds.specs.Given.EffectsKnown.{Known}
use Rattle.run_finds.specs.Given.EffectsDeclared.acting.Acting.TheVariants as acts
use Rattle.run_finds.specs.Given.FinishesMachines.{machine_of}
use Rattle.run_finds.specs.Given.MomentsWhole.{RefinesWhole}
use Rattle.run_kept.specs.Kept.Kept.{RefinesKept}
use Rattle.run_finds.specs.Linking.{FoundFull}
use Rattle.run_grows.specs.Grows.Copiers.{making_of_copier}
use Rattle.run_finds.specs.Parts.{FindRest}
use Rattle.run_finds.specs.Within.{AllIsInOrder, many_of}
use Rattle.run_grows.specs.Sources.Sources.{RefinesSources}
use Rattle.run_finds.specs.Purposes.Purposes.{RefinesPurposes}
use Rattle.run_grows.specs.Grows.Finding.{RefinesFinding}
use Rattle.run_finds.specs.Given.ScenesHeld.{Held, IsAt}
use Rattle.run_finds.specs.Given.ScenesScene.{Scene}
use Rattle.run_finds.specs.Given.ScenesStepping.{StepLeads}
use Rattle.run_schedules.specs.Schedules.Transition.{Past}

-- The promise, of a step of a call, at a moment at which all is in order, where the map of each copier that makes a table has a second one, or had one, and a call on one key that
-- makes one behind the newest has found that full.
abbrev pub StepsFindRest : (K V : Type 0) (same : K → K → Bool) (hash : ℕ → K → ℕ) → Type 0
StepsFindRest K V same hash =
    (name : ℕ → List ℕ) (log : Past K V) (m : Moment K V) (known : Known) (s : Scene K V) (old new : Held K V) → IsAt same hash old s → RefinesWhole same name m known s
    → RefinesKept name m known s → RefinesFinding name m known s → RefinesSources same name m known s → AllIsInOrder m → RefinesPurposes same name log m known s
    → (map i : ℕ) (u : UnderWay K V K) (here : s.calls map i ≡ Some u) (said : Progress (Node K V)) (leads : StepLeads same hash i said s old new)
    → (terms : Terms) (c : CallThere K V) → call_of (name i) m ≡ Some c → (leads map u here).0.setting.mask + 1 ≡ shards_of terms
    → (let effects = effects_of (acts.Call i map) known new.changed in
    let moments = log.since c.begun in
    ((n : NewTable) → making_of_copier (machine_of u) ≡ Some n → OneOf (HasNext map) (m ∷ moments)) → FoundFull map (many_of map m) (m ∷ moments) u
    → FindRest terms moments (name i) map effects m)
