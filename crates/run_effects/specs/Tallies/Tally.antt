-- Where pairs and tables are, as what was done says, and that this tells a moment of a run.
use Rattle.std.specs.Prelude.{◌≡◌, ℕ, suc, ◌==◌, Bool, true, false, List, [], ◌∷◌, length, filter, map, Option, Some, None, slice_index_or, if◌then◌else◌}
use Rattle.run_schedules.specs.declared.effect.Effect.{Effect}
use Rattle.run_schedules.specs.declared.effect.TableId.{TableId}
use Rattle.run_schedules.specs.Schedules.Effects.{deferred_by, place_by, tables_by}
use Rattle.run_schedules.specs.Schedules.Moment.{Place, Deferral, TableThere, Moment}
use Rattle.run_schedules.specs.Schedules.Moment as at
use Rattle.run_schedules.specs.Schedules.Things.{same_table}
use Rattle.run_schedules.specs.Schedules.Views.{is_retired}
use Rattle.run_effects.specs.Tallies.Places.{Leads}
use Rattle.run_effects.specs.declared.tally.Behind.{Behind}
use Rattle.run_effects.specs.declared.tally.Flagged.{Flagged}
use Rattle.run_effects.specs.declared.tally.Tally.{Tally}
use Rattle.run_effects.specs.declared.tally.Whereabouts.{Whereabouts}
use Rattle.run_effects.specs.declared.tally.Whereabouts.TheVariants.{Unborn, InMap, Waits, Back}

-- so much is told of where a pair is
abbrev pub whereabouts_of : Place → Whereabouts
whereabouts_of at.Unborn = Unborn
whereabouts_of (at.InMap map) = InMap map
whereabouts_of at.Out = Waits
whereabouts_of at.Handed = Waits
whereabouts_of at.Behind = Waits
whereabouts_of at.Left = Waits
whereabouts_of at.GivenBack = Back

-- of a pair that is stored by an event on this map
abbrev pub stored_in : Option ℕ → Whereabouts
stored_in (Some map) = InMap map
stored_in None = Unborn

abbrev pub waits : Whereabouts → Bool
waits Waits = true
waits _ = false

abbrev pub is_there : ℕ → Whereabouts → Bool
is_there number (InMap map) = number == map
is_there number _ = false

-- it is in this map, or, without one, waits
abbrev pub passes : Option ℕ → Whereabouts → Bool
passes (Some number) there = is_there number there
passes None there = waits there

-- the numbers, from this one on, of those that pass the test
abbrev pub numbers_at : (Whereabouts → Bool) → ℕ → List Whereabouts → List ℕ
numbers_at test n [] = []
numbers_at test n (there ∷ pairs) = if test there then n ∷ numbers_at test (suc n) pairs else numbers_at test (suc n) pairs

-- what waits behind a table
abbrev pub numbers_behind : TableId → List Behind → List ℕ
numbers_behind t behind = map (λ w. w.pair) (filter (λ w. same_table w.table t) behind)

-- a table with another flag, if it is this one
abbrev pub flagged : TableId → Bool → Flagged → Flagged
flagged t flag u = if same_table u.table t then record u { is_retired = flag } else u

-- how many tables are flagged
abbrev pub counted : List Flagged → ℕ
counted tables = length (filter (λ u. u.is_retired) tables)

-- the same of a moment's deferrals and tables
abbrev pub deferral : Behind → Deferral
deferral w = record { pair = w.pair; behind = w.table }

abbrev pub flag_of : TableThere → Flagged
flag_of u = record { table = u.table; is_retired = is_retired u.stage }

-- It tells where pairs are, what waits behind tables, and which tables wait; each table is found at its place.
pub record Records (tally : Tally) (place : ℕ → Place) (deferred : List Deferral) (tables : List TableThere) : Type 0 where
  pub pairs : (n : ℕ) → slice_index_or tally.pairs.items n Unborn ≡ whereabouts_of (place n)
  pub behind : map deferral tally.behind.items ≡ deferred
  pub flags : tally.tables.items ≡ map flag_of tables
  pub places : Leads tally.places tally.tables.items

abbrev pub RecordsMoment : {K V : Type 0} → Tally → Moment K V → Type 0
RecordsMoment tally m = Records tally m.place m.deferred m.tables

-- so it does after an effect
abbrev pub RecordsNext : Option ℕ → Effect → (old new : Tally) → Type 0
RecordsNext map effect old new =
    (place : ℕ → Place) (deferred : List Deferral) (tables : List TableThere) → Records old place deferred tables
    → Records new (place_by map deferred effect place) (deferred_by effect deferred) (tables_by effect tables)

-- and after all of an event, in their order
abbrev pub all_recorded : Option ℕ → List Effect → (ℕ → Place) × List Deferral × List TableThere → (ℕ → Place) × List Deferral × List TableThere
all_recorded map [] so = so
all_recorded map (f ∷ effects) so = all_recorded map effects (place_by map so.1 f so.0, deferred_by f so.1, tables_by f so.2)

abbrev pub RecordsAll : Option ℕ → List Effect → (old new : Tally) → Type 0
RecordsAll map effects old new =
    (place : ℕ → Place) (deferred : List Deferral) (tables : List TableThere) → Records old place deferred tables
    → (let so = all_recorded map effects (place, deferred, tables) in Records new so.0 so.1 so.2)
