-- What is to be so of a table that is reclaimed, or that ends with its map.
use Rattle.std.specs.Prelude.{◌≡◌, ℕ, true, false}
use Rattle.run_effects.specs.Given.RunsDeclared.effect.Effect.{Effect}
use Rattle.run_effects.specs.Given.RunsDeclared.effect.Effect.TheVariants.{Reclaimed, Taken}
use Rattle.run_effects.specs.Given.RunsDeclared.effect.TableId.{TableId}
use Rattle.run_effects.specs.Given.RunsDeclared.effect.Thing.TheVariants.{ATable}
use Rattle.run_effects.specs.Given.SchedulesLists.{is_among}
use Rattle.run_effects.specs.Given.SchedulesMoment.{Moment}
use Rattle.run_effects.specs.Given.SchedulesViews.{is_in_a_map, is_retired, is_stage, behind}

module _ {K V : Type 0} (m : Moment K V) where
  -- what waits behind the table is in no map
  abbrev pub WaitOutside : TableId → Type 0
  WaitOutside t = (n : ℕ) → is_among n (behind t m.deferred) ≡ true → is_in_a_map (m.place n) ≡ false

  -- a table that is reclaimed was retired
  abbrev pub WasRetired : Effect → Type 0
  WasRetired (Reclaimed (ATable t)) = (is_stage is_retired t m ≡ true) × WaitOutside t
  WasRetired _ = Unit {0}

  -- one that ends with this map is one of it
  abbrev pub EndsWith : ℕ → Effect → Type 0
  EndsWith map (Taken t) = (t.map ≡ map) × WaitOutside t
  EndsWith map _ = Unit {0}
