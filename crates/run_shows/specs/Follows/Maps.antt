-- What a map that stands shows at a moment of a run: its pairs, by their numbers, and its tables.
use Rattle.std.specs.Prelude.{◌≡◌, ℕ, zero, suc, ◌<◌, ◌≤◌, true, List, [], ◌∷◌, ◌++◌, length, Some}
use Rattle.run_effects.specs.Given.RunsDeclared.shapes.TableShape.{TableShape}
use Rattle.run_effects.specs.Given.RunsDeclared.effect.TableId.{TableId}
use Rattle.run_effects.specs.Given.SchedulesMoment.{InMap, MapThere, Stage, IsLinked, TableThere, Moment}
use Rattle.run_effects.specs.Given.SchedulesViews.{is_in_map, map_at, tables_of}
use Rattle.run_effects.specs.Given.RuleChart.{Chart}
use Rattle.many_maps.specs.Maps.{Standing}
use Rattle.run_effects.specs.Effects.Known.{Known}
use Rattle.run_effects.specs.declared.role.Role.TheVariants as role

-- the table of a map with this turn
abbrev pub table_of : ℕ → ℕ → TableId
table_of map turn = record { map = map; turn = turn }

module _ {K : Type 0} (map : ℕ) (c : Chart K) where
  abbrev pub shape_at : ℕ → TableShape
  shape_at t = record { len = c.len t; limit = c.limit t }

  -- so many tables of the map, each at its stage
  abbrev pub tables_to : (ℕ → Stage) → ℕ → List TableThere
  tables_to stage zero = []
  tables_to stage (suc t) = tables_to stage t ++ record { table = table_of map t; shape = shape_at t; stage = stage t } ∷ []

module _ {K V : Type 0} (map : ℕ) (s : Standing K) (m : Moment K V) (known : Known) where
  -- A table that may be looked at has its block. The map's tables are those that it has had, and from the root on they are linked.
  pub record RefinesTables : Type 0 where
    pub roles : (t : ℕ) → t < s.chart.past → s.blocks.table_known t ≡ true → known.roles (s.blocks.table t) ≡ role.Table (table_of map t) (s.chart.len t)
    pub stage : ℕ → Stage
    pub listed : tables_of map m ≡ tables_to map s.chart stage s.chart.past
    pub linked : (t : ℕ) → s.chart.first ≤ t → t < s.chart.past → stage t ≡ IsLinked

  -- it is there by its number, with its root's table
  pub record RefinesPresence : Type 0 where
    pub there : MapThere
    pub is : map_at map m ≡ Some there
    pub root : there.root ≡ s.setting.root
    pub mode : there.mode ≡ s.setting.mode
    pub first : there.first ≡ s.chart.first

module _ {K V : Type 0} (map : ℕ) (number : ℕ → ℕ) (s : Standing K) (m : Moment K V) (known : Known) where
  -- Its pairs have numbers, as the order is in which they were stored. A pair that may be looked at has its block, and those of the map are in it.
  pub record RefinesPairs : Type 0 where
    pub roles : (n : ℕ) → n < s.chart.stored → s.blocks.pair_known n ≡ true → known.roles (s.blocks.pair n) ≡ role.Pair (number n)
    pub numbered : (n : ℕ) → n < s.chart.stored → (0 < number n) × (number n ≤ length m.stored)
    pub rising : (n o : ℕ) → n < o → o < s.chart.stored → number n < number o
    pub born : (n : ℕ) → n < s.chart.stored → (m.born (number n)).map ≡ map
    pub here : (n : ℕ) → n < s.chart.stored → is_in_map map (m.place (number n)) ≡ s.chart.current n
    pub all : (k : ℕ) → m.place k ≡ InMap map → (n : ℕ) × (n < s.chart.stored) × (k ≡ number n)

  pub record RefinesMap : Type 0 where
    pub there : RefinesPresence map s m known
    pub pairs : RefinesPairs
    pub tables : RefinesTables map s m known
    pub counter : known.roles s.setting.counter ≡ role.Counter map
