-- Steps that ran lead on by one more.
use Rattle.std.specs.Prelude.{◌≡◌, ℕ, suc, Bool, false, List, ◌++◌, Some}
use Rattle.std.proofs.Common.{refl}
use Rattle.seize.specs.declared.advance.Advance.{Advance}
use Rattle.seize.specs.declared.rows.reclaim_all.ReclaimAll.{ReclaimAll}
use Rattle.seize.specs.declared.rows.settle.Settled.{Settled}
use Rattle.papaya_raw.specs.Given.TablesDeclared.node.Node.{Node}
use Rattle.papaya_raw.specs.Given.TablesDeclared.setting.Setting.{Setting}
use Rattle.run_effects.specs.Given.ResizeDeclared.new_map.NewMap.{NewMap}
use Rattle.papaya_raw.specs.declared.machines.end_map.EndMap.{EndMap}
use Rattle.run_schedules.specs.declared.effect.Effect.{Effect}
use Rattle.run_effects.specs.Effects.Effects.{effects_of, known_after}
use Rattle.run_effects.specs.Effects.Known.{known}
use Rattle.run_effects.specs.declared.acting.Acting.{Acting}
use Rattle.run_effects.specs.declared.acting.Acting.TheVariants as acts
use Rattle.run_shows.specs.declared.row.RowTold.{RowTold}
use Rattle.run_shows.specs.declared.row.SlotRow.{SlotRow}
use Rattle.run_executor.specs.declared.worker.Work.TheVariants.{OnSlot}
use Rattle.run_executor.specs.ReclaimsAll.Reclaiming.{IsReclaimingThere, ReclaimsThere}
use Rattle.run_logged.specs.Log.Goes.{EndGoes, GoesTo, IsNotedAs, MakingGoes, ReclaimingGoes, ReclaimingOn, RowGoes, StepsEnd, StepsMaking, far}
use Rattle.run_logged.specs.Log.Ends.{is_done}
use Rattle.run_logged.specs.Log.OnSlots.{StepsOn}
use Rattle.run_logged.specs.declared.logged.Logged.{Logged}
use Rattle.run_executor.specs.Executing.IsThere.{PreservesSettings, ending_in, making_in, work_of}
use Rattle.run_shows.specs.Scenes.Scene.{Scene}

module _ {X : Type 0} (Goes : X → X → Type 0) where
  -- none leads from there to there,
  pub goes_none : (from : X) → GoesTo Goes from from
  goes_none from = (0, refl)

  -- and one more from where some have led
  pub goes_more : (from mid to : X) → GoesTo Goes from mid → Goes mid to → GoesTo Goes from to
  goes_more from mid to gone step = (suc gone.0, (mid, gone.1, step))

-- So it is of a step as it was noted, whichever it is.
module _ {K V S : Type 0} (first old new : Logged K V S) (xs ys zs : List Effect) where
  module _ (acting : Acting) (did : zs ≡ ys ++ effects_of acting (known old.notes) new.executor.memory.changed)
      (noted : known new.notes ≡ known_after acting new.executor.memory.changed (known old.notes)) (given : PreservesSettings old.executor new.executor) where
    pub noted_as : IsNotedAs acting (far ys old) (far zs new)
    noted_as = record { did = did; noted = noted; given = given }

  pub row_more : (i : ℕ) (said : RowTold (Node K V)) → ((row : SlotRow) × (work_of old.executor i ≡ Some (OnSlot row))) → GoesTo (RowGoes i) (far xs first) (far ys old) → zs ≡ ys ++ effects_of acts.Row (known old.notes) new.executor.memory.changed
      → known new.notes ≡ known_after acts.Row new.executor.memory.changed (known old.notes) → PreservesSettings old.executor new.executor → StepsOn i said old.executor new.executor
      → GoesTo (RowGoes i) (far xs first) (far zs new)
  row_more i said under gone did noted given leads =
      goes_more (RowGoes i) (far xs first) (far ys old) (far zs new) gone (record { under = under; is_noted = noted_as acts.Row did noted given; said = said; leads = leads })

  abbrev pub row_step : (i : ℕ) (said : RowTold (Node K V)) → ((row : SlotRow) × (work_of old.executor i ≡ Some (OnSlot row))) → zs ≡ ys ++ effects_of acts.Row (known old.notes) new.executor.memory.changed
      → known new.notes ≡ known_after acts.Row new.executor.memory.changed (known old.notes) → PreservesSettings old.executor new.executor → StepsOn i said old.executor new.executor → RowGoes i (far ys old) (far zs new)
  row_step i said under did noted given leads = record { under = under; is_noted = noted_as acts.Row did noted given; said = said; leads = leads }

  abbrev pub making_step : (i map : ℕ) (said : Advance Setting) → ((opening : NewMap) × (making_in (work_of old.executor i) ≡ Some (map, opening)))
      → zs ≡ ys ++ effects_of (acts.Making map) (known old.notes) new.executor.memory.changed → known new.notes ≡ known_after (acts.Making map) new.executor.memory.changed (known old.notes)
      → PreservesSettings old.executor new.executor → StepsMaking i said old.executor new.executor → MakingGoes i map (far ys old) (far zs new)
  making_step i map said under did noted given leads = record { under = under; is_noted = noted_as (acts.Making map) did noted given; said = said; leads = leads }

  abbrev pub end_step : (i map : ℕ) (said : Settled (Node K V)) → ((ending : EndMap) × (ending_in (work_of old.executor i) ≡ Some ending))
      → zs ≡ ys ++ effects_of (acts.Ending map) (known old.notes) new.executor.memory.changed → known new.notes ≡ known_after (acts.Ending map) new.executor.memory.changed (known old.notes)
      → PreservesSettings old.executor new.executor → StepsEnd i said old.executor new.executor → EndGoes i map (far ys old) (far zs new)
  end_step i map said under did noted given leads = record { under = under; is_noted = noted_as (acts.Ending map) did noted given; said = said; leads = leads }

  pub all_more : (begun before after : ReclaimAll) (said : Settled (Node K V)) → is_done said ≡ false → GoesTo ReclaimingOn (far xs first, begun) (far ys old, before)
      → zs ≡ ys ++ effects_of acts.Row (known old.notes) new.executor.memory.changed → known new.notes ≡ known_after acts.Row new.executor.memory.changed (known old.notes)
      → PreservesSettings old.executor new.executor
      → ((same : K → K → Bool) (hash : K → ℕ) (s : Scene K V) (i : ℕ) (lists : ℕ → List ℕ) → IsReclaimingThere same hash old.executor s i lists before
      → ReclaimsThere same hash s i lists old.executor new.executor before after said)
      → GoesTo ReclaimingOn (far xs first, begun) (far zs new, after)
  all_more begun before after said on gone did noted given leads =
      goes_more ReclaimingOn (far xs first, begun) (far ys old, before) (far zs new, after) gone ((noted_as acts.Row did noted given, said, leads), on)

  abbrev pub all_last : (before after : ReclaimAll) (said : Settled (Node K V)) → zs ≡ ys ++ effects_of acts.Row (known old.notes) new.executor.memory.changed
      → known new.notes ≡ known_after acts.Row new.executor.memory.changed (known old.notes) → PreservesSettings old.executor new.executor
      → ((same : K → K → Bool) (hash : K → ℕ) (s : Scene K V) (i : ℕ) (lists : ℕ → List ℕ) → IsReclaimingThere same hash old.executor s i lists before
      → ReclaimsThere same hash s i lists old.executor new.executor before after said)
      → ReclaimingGoes (far ys old, before) (far zs new, after)
  all_last before after said did noted given leads = (noted_as acts.Row did noted given, said, leads)
