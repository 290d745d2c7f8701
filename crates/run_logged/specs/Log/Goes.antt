-- Which steps ran, one after another, each as it was noted.
use Rattle.std.specs.Prelude.{◌≡◌, ℕ, zero, suc, Bool, true, false, List, ◌++◌, Some, if◌then◌else◌}
use Rattle.seize.specs.declared.advance.Advance.{Advance}
use Rattle.seize.specs.declared.rows.reclaim_all.ReclaimAll.{ReclaimAll}
use Rattle.seize.specs.declared.rows.settle.Settled.{Settled}
use Rattle.seize.specs.ReclaimAll.{reclaiming_all, clearing}
use Rattle.papaya_raw.specs.Given.TablesDeclared.node.Node.{Node}
use Rattle.papaya_raw.specs.Given.TablesDeclared.setting.Setting.{Setting}
use Rattle.run_effects.specs.Given.ResizeDeclared.new_map.NewMap.{NewMap}
use Rattle.papaya_raw.specs.declared.machines.end_map.EndMap.{EndMap}
use Rattle.run_schedules.specs.declared.effect.Effect.{Effect}
use Rattle.run_schedules.specs.Schedules.Moment.{Moment}
use Rattle.run_effects.specs.Effects.Effects.{effects_of, known_after}
use Rattle.run_effects.specs.Effects.Known.{known}
use Rattle.run_effects.specs.declared.acting.Acting.{Acting}
use Rattle.run_effects.specs.declared.acting.Acting.TheVariants as acts
use Rattle.run_executor.specs.declared.executor.Executor.{Executor}
use Rattle.run_shows.specs.declared.row.RowTold.{RowTold}
use Rattle.run_shows.specs.declared.row.SlotRow.{SlotRow}
use Rattle.run_executor.specs.declared.worker.Work.TheVariants.{OnSlot}
use Rattle.run_executor.specs.ReclaimsAll.Reclaiming.{IsReclaimingThere, MayReclaim, NobodyHas, ReclaimsThere}
use Rattle.run_logged.specs.Log.Ends.{is_done}
use Rattle.run_logged.specs.Log.Makings.{given_back, is_over}
use Rattle.run_logged.specs.Log.OnSlots.{StepsOn}
use Rattle.run_logged.specs.Log.Shown.{IsShown}
use Rattle.run_logged.specs.declared.logged.Logged.{Logged}
use Rattle.run_executor.specs.Executing.Ending.{EndsThere}
use Rattle.run_executor.specs.Executing.IsThere.{IsThere, PreservesSettings, ending_in, making_in, work_of}
use Rattle.run_executor.specs.Executing.Making.{MakesThere}
use Rattle.run_shows.specs.Scenes.Scene.{Scene}

-- How far a run has come: with which executor and notes, and with what in the list.
pub record Far (K V S : Type 0) : Type 0 where
  pub logged : Logged K V S
  pub effects : List Effect

module _ {X : Type 0} where
  -- so many of these steps lead from there to here
  abbrev pub GoesFor : (X → X → Type 0) → ℕ → X → X → Type 0
  GoesFor Goes zero from to = from ≡ to
  GoesFor Goes (suc n) from to = (mid : X) × GoesFor Goes n from mid × Goes mid to

  -- some of them do
  abbrev pub GoesTo : (X → X → Type 0) → X → X → Type 0
  GoesTo Goes from to = (n : ℕ) × GoesFor Goes n from to

module _ {K V S : Type 0} where
  -- A step by this one was noted: what it did follows in the list, and is known from then on; and what the executor was given stays.
  pub record IsNotedAs (acting : Acting) (from to : Far K V S) : Type 0 where
    pub did : to.effects ≡ from.effects ++ effects_of acting (known from.logged.notes) to.logged.executor.memory.changed
    pub noted : known to.logged.notes ≡ known_after acting to.logged.executor.memory.changed (known from.logged.notes)
    pub given : PreservesSettings from.logged.executor to.logged.executor

  -- what a step of a making leads to, in whatever scene the executor is there, and one of an end
  abbrev pub StepsMaking : ℕ → Advance Setting → (old new : Executor K V S) → Type 0
  StepsMaking i said old new = (same : K → K → Bool) (hash : K → ℕ) (s : Scene K V) → IsThere same hash old s → MakesThere same hash i said s old new

  abbrev pub StepsEnd : ℕ → Settled (Node K V) → (old new : Executor K V S) → Type 0
  StepsEnd i said old new = (same : K → K → Bool) (hash : K → ℕ) (s : Scene K V) → IsThere same hash old s → EndsThere same hash i said s old new

  -- A step of the row of caller i on its slot, which was under way,
  pub record RowGoes (i : ℕ) (from to : Far K V S) : Type 0 where
    pub under : (row : SlotRow) × (work_of from.logged.executor i ≡ Some (OnSlot row))
    pub is_noted : IsNotedAs acts.Row from to
    pub said : RowTold (Node K V)
    pub leads : StepsOn i said from.logged.executor to.logged.executor

  -- of its making of this map,
  pub record MakingGoes (i map : ℕ) (from to : Far K V S) : Type 0 where
    pub under : (opening : NewMap) × (making_in (work_of from.logged.executor i) ≡ Some (map, opening))
    pub is_noted : IsNotedAs (acts.Making map) from to
    pub said : Advance Setting
    pub leads : StepsMaking i said from.logged.executor to.logged.executor

  -- of its end of this map,
  pub record EndGoes (i map : ℕ) (from to : Far K V S) : Type 0 where
    pub under : (ending : EndMap) × (ending_in (work_of from.logged.executor i) ≡ Some ending)
    pub is_noted : IsNotedAs (acts.Ending map) from to
    pub said : Settled (Node K V)
    pub leads : StepsEnd i said from.logged.executor to.logged.executor

  -- after which they go on,
  abbrev pub MakingOn : (i map : ℕ) → (from to : Far K V S) → Type 0
  MakingOn i map from to = (step : MakingGoes i map from to) × (is_over step.said ≡ false)

  abbrev pub EndOn : (i map : ℕ) → (from to : Far K V S) → Type 0
  EndOn i map from to = (step : EndGoes i map from to) × (is_done step.said ≡ false)

  -- and one of reclaiming all, which is so far.
  abbrev pub ReclaimingGoes : (from to : Far K V S × ReclaimAll) → Type 0
  ReclaimingGoes from to =
      IsNotedAs acts.Row from.0 to.0 × (said : Settled (Node K V))
      × ((same : K → K → Bool) (hash : K → ℕ) (s : Scene K V) (i : ℕ) (lists : ℕ → List ℕ) → IsReclaimingThere same hash from.0.logged.executor s i lists from.1
      → ReclaimsThere same hash s i lists from.0.logged.executor to.0.logged.executor from.1 to.1 said)

  -- after which it goes on
  abbrev pub ReclaimingOn : (from to : Far K V S × ReclaimAll) → Type 0
  ReclaimingOn from to = (step : ReclaimingGoes from to) × (is_done step.1 ≡ false)

  -- Where a run has come in its list of effects, and with its executor and notes.
  abbrev pub far : List Effect → Logged K V S → Far K V S
  far effects logged = record { logged = logged; effects = effects }

  -- A row has run by its steps, of which the last one told this.
  abbrev pub RowGone : ℕ → RowTold (Node K V) → (before after : List Effect) → (old new : Logged K V S) → Type 0
  RowGone i told before after old new = (prev : Far K V S) × GoesTo (RowGoes i) (far before old) prev × (step : RowGoes i prev (far after new)) × (step.said ≡ told)

  -- A making has run by its steps, which told this at last; then its number was given back, if it was refused.
  abbrev pub MakingGone : (i map : ℕ) → Advance Setting → (before after : List Effect) → (old new : Logged K V S) → Type 0
  MakingGone i map told before after old new =
      (prev : Far K V S) × GoesTo (MakingOn i map) (far before old) prev × (mid : Logged K V S) × (step : MakingGoes i map prev (far after mid)) × (step.said ≡ told) × (new.notes ≡ mid.notes)
      × (new.executor ≡ record mid.executor { maps = new.executor.maps })
      × (new.executor.maps.items ≡ given_back map told mid.executor.maps.items)

  -- An end has run by its steps, of which the last one ended it.
  abbrev pub EndGone : (i map : ℕ) → (before after : List Effect) → (old new : Logged K V S) → Type 0
  EndGone i map before after old new = (prev : Far K V S) × GoesTo (EndOn i map) (far before old) prev × (step : EndGoes i map prev (far after new)) × (is_done step.said ≡ true)

  -- Reclaiming all has run by its steps, of which the last one ended it, from where it begins in whatever scene the executor is shown, and nobody has anything under way: with the slots, if one was
  -- taken, else with the roots.
  abbrev pub ReclaimingGone : Bool → (before after : List Effect) → (old new : Logged K V S) → Type 0
  ReclaimingGone taken before after old new =
      (first : ReclaimAll)
      × ((same : K → K → Bool) (hash : K → ℕ) (name : ℕ → List ℕ) (m : Moment K V) (s : Scene K V) (i : ℕ) (lists : ℕ → List ℕ) → IsShown same hash name m old s
      → NobodyHas old.executor → MayReclaim old.executor s lists taken → IsReclaimingThere same hash old.executor s i lists first)
      × (mid : Far K V S × ReclaimAll) × GoesTo ReclaimingOn (far before old, first) mid × (last : ReclaimAll) × (step : ReclaimingGoes mid (far after new, last)) × (is_done step.1 ≡ true)
      × (first ≡ (if taken then reclaiming_all old.executor.batch_size old.executor.roots else clearing old.executor.roots))
