-- How long a table a reservation makes: the first one of its map for so many further pairs, and a later one for these and the pairs that it has counted.
use Rattle.std.specs.Prelude.{◌≡◌, ℕ, suc, ◌+◌, List}
use Rattle.run_finds.specs.Given.TablesLengths.{len_of, next_limit}
use Rattle.run_finds.specs.Given.TablesProbes.{limit_of}
use Rattle.run_finds.specs.Given.TablesDeclared.lengths.Reason.TheVariants.{Reserved}
use Rattle.run_finds.specs.Given.TablesDeclared.table.Table.{Table}
use Rattle.run_finds.specs.Given.ReservesDeclared.reserve.Reserve.{Reserve}
use Rattle.run_finds.specs.Given.ReservesDeclared.reserve.Reserving.{Reserving}
use Rattle.run_finds.specs.Given.ReservesDeclared.reserve.Reserving.TheVariants as reserving
use Rattle.run_finds.specs.Given.SchedulesCounts.{Counts}
use Rattle.run_finds.specs.Given.SchedulesGrowing.{Has}
use Rattle.run_finds.specs.Given.SchedulesMoment.{Moment}
use Rattle.run_finds.specs.Shaping.{ShapedAt}

-- a first table is long enough for the further pairs, and no pairs are counted for it;
abbrev pub IsFirstFor : Reserve → Table → Type 0
IsFirstFor p table = Has (len_of p.additional) table.len × (table.limit ≡ limit_of table.len) × (table.turn ≡ 0)

module _ {K V : Type 0} (of : ℕ) (moments : List (Moment K V)) (p : Reserve) where
  -- it has counted so many pairs, by these moments, that with the further ones they need so many places
  abbrev pub Needs : ℕ → Type 0
  Needs need = (n : ℕ) × Counts (suc p.setting.mask) of moments n × Has (len_of (n + p.additional)) need

  -- a later table has so many, and is the one behind the root
  abbrev pub IsLaterFor : Table → Table → Type 0
  IsLaterFor before table = Needs table.len × (table.limit ≡ next_limit (Reserved p.additional) before.len before.limit table.len) × (table.turn ≡ suc before.turn)

  -- So it is where it makes a table, and where it looks for the one behind the root.
  abbrev pub NeedsAt : Reserving → Type 0
  NeedsAt (reserving.Makes making) = ShapedAt (λ before reason. ⊥) (IsFirstFor p) making.stands
  NeedsAt (reserving.Follows table need) = Needs need
  NeedsAt (reserving.Grows table making) = ShapedAt (λ before reason. ⊥) (IsLaterFor table) making.stands
  NeedsAt _ = Unit {0}
