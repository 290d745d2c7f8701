-- What is left of a map that ends: all of it is next, one after another, and then nothing of the map is there.
use Rattle.std.specs.Prelude.{◌≡◌, ◌≢◌, ℕ, ◌≤◌, ◌<◌, true, false, List, [], length, Option, None, Some}
use Rattle.std.specs.List.{AllByRecursion}
use Rattle.run_schedules.specs.declared.effect.Effect.{Effect}
use Rattle.run_schedules.specs.declared.effect.Effect.TheVariants.{Copied, Deferred, Ended, Linked, Promoted, Reclaimed, Removed, Replaced, Retired, Stored, Taken}
use Rattle.run_schedules.specs.declared.effect.TableId.{TableId}
use Rattle.run_schedules.specs.declared.effect.Thing.TheVariants.{APair, ATable}
use Rattle.run_schedules.specs.Schedules.Effects.{AtEachEffect, is_chunked, with_effects}
use Rattle.run_schedules.specs.Schedules.Lists.{is_among}
use Rattle.run_schedules.specs.Schedules.Moment.{Moment}
use Rattle.run_schedules.specs.Schedules.Things.{same_table}
use Rattle.run_schedules.specs.Schedules.Views.{behind, is_in_map, map_at, size_of}
use Rattle.run_schedules.specs.Deeds.History.{EndFinds, left_tables}

module _ {K V : Type 0} (map : ℕ) where
  -- By these effects, one after another, the map ends from this moment on.
  pub record EndsWell (effects : List Effect) (m : Moment K V) : Type 0 where
    pub finds : AtEachEffect (EndFinds map) None (Some map) effects m
    pub no_pair : size_of map (with_effects None (Some map) effects m) ≡ 0
    pub no_table : left_tables map (with_effects None (Some map) effects m) ≡ []

  -- a pair that is in it was stored
  abbrev pub AreStored : Moment K V → Type 0
  AreStored m = (k : ℕ) → is_in_map map (m.place k) ≡ true → (1 ≤ k) × (k ≤ length m.stored)

  -- Of this map all is in another moment as in this one: its pairs, where they lie, the tables that it has from the root on, and what is told of it.
  pub record AlikeOf (m v : Moment K V) : Type 0 where
    pub pairs : (k : ℕ) → is_in_map map (v.place k) ≡ is_in_map map (m.place k)
    pub spots : (k : ℕ) → is_in_map map (m.place k) ≡ true → v.spot k ≡ m.spot k
    pub left : left_tables map v ≡ left_tables map m
    pub there : map_at map v ≡ map_at map m
    pub stored : length m.stored ≤ length v.stored

  -- the pair is not in the map
  abbrev pub IsOut : Moment K V → ℕ → Type 0
  IsOut m n = is_in_map map (m.place n) ≡ false

  -- nor is what waits behind this table, which is none of those that the map has from the root on
  pub record IsOther (m : Moment K V) (t : TableId) : Type 0 where
    pub apart : AllByRecursion (λ u. same_table u.table t ≡ false) (left_tables map m)
    pub behind_it : (k : ℕ) → is_among k (behind t m.deferred) ≡ true → IsOut m k

  -- What an effect on another map, or on none, finds that leaves all of this one as it was.
  abbrev pub Spares : Option ℕ → Moment K V → Effect → Type 0
  Spares acted m (Stored n s) = length m.stored < n
  Spares acted m (Replaced n) = IsOut m n
  Spares acted m (Removed n) = IsOut m n
  Spares acted m (Copied n s) = is_chunked acted m ≡ true → IsOut m n
  Spares acted m (Deferred n t) = IsOut m n
  Spares acted m (Retired (APair n)) = IsOut m n
  Spares acted m (Retired (ATable t)) = AllByRecursion (λ u. same_table u.table t ≡ false) (left_tables map m)
  Spares acted m (Reclaimed (APair n)) = IsOut m n
  Spares acted m (Reclaimed (ATable t)) = IsOther m t
  Spares acted m (Ended n) = IsOut m n
  Spares acted m (Taken t) = IsOther m t
  Spares acted m (Linked t shape) = t.map ≢ map
  Spares acted m (Promoted t) = t.map ≢ map
  Spares acted m _ = Unit {0}
