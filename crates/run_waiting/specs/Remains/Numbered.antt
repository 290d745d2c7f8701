-- Numbers of maps, as they are given: those that are there and those of all tables are below the next one, while maps are made, too.
use Rattle.std.specs.Prelude.{◌≡◌, ◌+◌, ℕ, Bool, List, Option, Some, None}
use Rattle.run_debts.specs.Given.TablesDeclared.node.Node.{Node}
use Rattle.run_debts.specs.Given.RawDeclared.machines.progress.Progress.{Progress as CallTold}
use Rattle.run_debts.specs.Given.SchedulesEffects.{with_effects}
use Rattle.run_debts.specs.Given.SchedulesMoment.{Moment}
use Rattle.run_debts.specs.Given.CallersTogether.{UnderWay}
use Rattle.run_debts.specs.Given.EffectsEffects.{effects_of, taken_by}
use Rattle.run_debts.specs.Given.EffectsKnown.{Known}
use Rattle.run_debts.specs.Given.EffectsDeclared.acting.Acting.TheVariants as acts
use Rattle.run_debts.specs.Given.EffectsDeclared.role.Role.{Role}
use Rattle.run_debts.specs.Given.ScenesDeclared.row.RowTold.{RowTold}
use Rattle.run_debts.specs.Given.ScenesDeclared.row.SlotRow.{SlotRow}
use Rattle.run_debts.specs.Given.FinishesMakings.{Beginning}
use Rattle.run_debts.specs.Given.MomentsNumbers.{MapsAreBelow, NumbersMaps}
use Rattle.run_debts.specs.Given.ScenesHeld.{Held}
use Rattle.run_debts.specs.Given.ScenesOnSlots.{RowLeads}
use Rattle.run_debts.specs.Given.ScenesScene.{IsOnSlot, Scene}
use Rattle.run_debts.specs.Given.ScenesStepping.{StepLeads}

-- numbers are as they are where so many have been given
abbrev pub NumbersUpTo : {K V : Type 0} → ℕ → Moment K V → Type 0
NumbersUpTo count m = NumbersMaps (record m { made = count })

module _ (K V : Type 0) (same : K → K → Bool) (hash : ℕ → K → ℕ) where
  -- The promises: so it is after each step of a call,
  abbrev pub CallsPreserveCount : Type 0
  CallsPreserveCount =
      (m : Moment K V) (known : Known) (s : Scene K V) (old new : Held K V) → (count : ℕ) → MapsAreBelow count s → NumbersUpTo count m
      → (map i : ℕ) (u : UnderWay K V K) → s.calls map i ≡ Some u → (said : CallTold (Node K V)) → StepLeads same hash i said s old new
      → (caller : Option (List ℕ)) (acted : Option ℕ) → NumbersUpTo count (with_effects caller acted (effects_of (acts.Call i map) known new.changed) m)

  -- of a row on a slot,
  abbrev pub RowsPreserveCount : Type 0
  RowsPreserveCount =
      (m : Moment K V) (known : Known) (s : Scene K V) (old new : Held K V) → (count : ℕ) → NumbersUpTo count m
      → (i : ℕ) (said : RowTold (Node K V)) → RowLeads same hash i said s old new → (row : SlotRow) → IsOnSlot s i row
      → NumbersUpTo count (with_effects None None (effects_of acts.Row known new.changed) m)

  -- of the making of a map,
  abbrev pub MakingsPreserveCount : Type 0
  MakingsPreserveCount =
      (m : Moment K V) (known : Known) (s : Scene K V) (new : Held K V) (count : ℕ) → MapsAreBelow count s → NumbersUpTo count m
      → (i : ℕ) (b : Beginning K) → s.makers i ≡ Some b → (caller : Option (List ℕ)) (acted : Option ℕ)
      → NumbersUpTo count (with_effects caller acted (effects_of (acts.Making b.map) known new.changed) m)

module _ (K V : Type 0) where
  -- and where what a block was ends with its map;
  abbrev pub EndsPreserveCount : Type 0
  EndsPreserveCount =
      (m : Moment K V) (count : ℕ) → NumbersUpTo count m → (map : ℕ) (was : Role) (caller : Option (List ℕ)) (acted : Option ℕ)
      → NumbersUpTo count (with_effects caller acted (taken_by (acts.Ending map) was) m)

  -- also where one number more is given.
  abbrev pub MoreAreCounted : Type 0
  MoreAreCounted = (m : Moment K V) (count more : ℕ) → NumbersUpTo count m → NumbersUpTo (count + more) m
