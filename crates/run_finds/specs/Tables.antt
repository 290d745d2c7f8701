-- What waits is in order after any effects: tables that roots have passed are owed still, and what waits behind a table waits behind one that is there.
use Rattle.std.specs.Prelude.{◌≡◌, ℕ, ◌+◌, ◌<◌, ◌≤◌, ◌==◌, nat_le, ◌&&◌, Bool, true, false, List, length, Option, Some}
use Rattle.std.specs.List.{AllByRecursion, list_any}
use Rattle.run_executor.specs.Given.RunsDeclared.effect.Effect.{Effect}
use Rattle.run_executor.specs.Given.RunsDeclared.effect.Effect.TheVariants.{Linked, Promoted, Deferred}
use Rattle.run_executor.specs.Given.RunsDeclared.effect.TableId.{TableId}
use Rattle.run_executor.specs.Given.RunsDeclared.effect.Thing.TheVariants.{ATable}
use Rattle.run_executor.specs.Given.SchedulesEffects.{with_effects, AtEachEffect}
use Rattle.run_executor.specs.Given.SchedulesEntry.{acting, ByCall}
use Rattle.run_executor.specs.Given.SchedulesLists.{is_in}
use Rattle.run_executor.specs.Given.SchedulesMoment.{MapThere, TableThere, Deferral, Moment}
use Rattle.run_executor.specs.Given.SchedulesReclaims.{is_kept}
use Rattle.run_executor.specs.Given.SchedulesThings.{same_thing}
use Rattle.run_executor.specs.Given.SchedulesViews.{map_at, is_there, is_stage, tables_of}
use Rattle.run_executor.specs.Given.MomentsNumbers.{AreFound}

module _ {K V : Type 0} where
  -- a call under way owes the table
  abbrev pub is_owed_table : Moment K V → TableId → Bool
  is_owed_table m t = list_any (λ c. is_in same_thing (ATable t) c.owes) m.calls

  -- a table that is linked, though the root of its map has left it, is owed by a call under way
  abbrev pub SupersededIsObligation : Moment K V → TableThere → Type 0
  SupersededIsObligation m u = is_kept m u ≡ false → is_owed_table m u.table ≡ true

  -- what waits behind a table waits behind one that is there, and has a next one
  abbrev pub IsDeferredOnOne : Moment K V → Deferral → Type 0
  IsDeferredOnOne m d = (is_stage is_there d.behind m ≡ true) × (d.behind.turn + 1 < length (tables_of d.behind.map m))

  pub record TablesAreInOrder (m : Moment K V) : Type 0 where
    pub passed : AllByRecursion (SupersededIsObligation m) m.tables
    pub behind : AllByRecursion (IsDeferredOnOne m) m.deferred

  -- a map is there whose root is this table, or an earlier one
  abbrev pub is_rooted : Moment K V → TableId → Bool
  is_rooted m t = list_any (λ (f : MapThere). (f.number == t.map) && nat_le f.first t.turn) m.maps

  -- What an effect finds of that: a table that is linked is from the root of a map on; a root is passed by a call, and comes to no earlier table; and what is put
  -- behind a table is behind one that is there and has a next one.
  abbrev pub FindsTables : Option (List ℕ) → Moment K V → Effect → Type 0
  FindsTables caller m (Linked t shape) = is_rooted m t ≡ true
  FindsTables caller m (Promoted t) = ByCall (λ c. Unit {0}) (acting caller m) × AreFound m × (f : MapThere) × (map_at t.map m ≡ Some f) × (f.first ≤ t.turn)
  FindsTables caller m (Deferred n t) = (is_stage is_there t m ≡ true) × (t.turn + 1 < length (tables_of t.map m))
  FindsTables caller m _ = Unit {0}

-- The promises: any effects that find that leave tables in order;
abbrev pub EffectsPreserveTables : Type 0 → Type 0 → Type 0
EffectsPreserveTables K V =
    (caller : Option (List ℕ)) (acted : Option ℕ) (effects : List Effect) (m : Moment K V) → AtEachEffect (FindsTables caller) caller acted effects m → TablesAreInOrder m
    → TablesAreInOrder (with_effects caller acted effects m)

-- and so does whatever leaves tables as they are, with a root before each that had one, and what is owed: as where calls come to something, or a map goes all of whose
-- tables were taken.
abbrev pub OthersPreserveTables : Type 0 → Type 0 → Type 0
OthersPreserveTables K V =
    (m v : Moment K V) → TablesAreInOrder m → v.tables ≡ m.tables → v.deferred ≡ m.deferred → AllByRecursion (λ u. is_kept m u ≡ true → is_kept v u ≡ true) m.tables
    → ((t : TableId) → is_owed_table m t ≡ true → is_owed_table v t ≡ true) → TablesAreInOrder v
