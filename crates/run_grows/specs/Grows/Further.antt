-- Which table a copier makes: the one behind a table of its map that has no place for a pair, twice as long.
use Rattle.std.specs.Prelude.{◌≡◌, ℕ, zero, suc, List, [], ◌∷◌, Option, Some, None, map as list_map}
use Rattle.papaya_raw.specs.Given.TablesLengths.{next_len, next_limit}
use Rattle.papaya_raw.specs.Given.TablesDeclared.lengths.Reason.TheVariants.{NoPlace}
use Rattle.papaya_raw.specs.Given.TablesDeclared.table.Table.{Table}
use Rattle.run_finds.specs.Given.ResizeDeclared.copier.Copying.{Copying}
use Rattle.run_finds.specs.Given.ResizeDeclared.copier.Copying.TheVariants as copying
use Rattle.run_finds.specs.Given.ResizeDeclared.new_table.NewTable.{NewTable}
use Rattle.papaya_raw.specs.Given.ReservesDeclared.reserve.Reserving.{Reserving}
use Rattle.papaya_raw.specs.Given.ReservesDeclared.reserve.Reserving.TheVariants as reserving
use Rattle.papaya_raw.specs.Given.ReservesDeclared.sweep.Sweeping.{Sweeping}
use Rattle.papaya_raw.specs.Given.ReservesDeclared.sweep.Sweeping.TheVariants as sweeping
use Rattle.papaya_raw.specs.declared.machines.call.Calling.{Calling}
use Rattle.papaya_raw.specs.declared.machines.call.Calling.TheVariants as calling
use Rattle.papaya_raw.specs.declared.machines.machine.Machine.{Machine}
use Rattle.papaya_raw.specs.declared.machines.machine.Machine.TheVariants as kinds
use Rattle.run_schedules.specs.Schedules.Growing.{Has}
use Rattle.run_schedules.specs.Schedules.Moment.{Moment, TableThere}
use Rattle.run_schedules.specs.Schedules.Views.{tables_of}
use Rattle.run_finds.specs.Given.CallersTogether.{UnderWay}
use Rattle.run_finds.specs.Given.FinishesMachines.{machine_of}
use Rattle.run_finds.specs.Shaping.{ShapedAt}
use Rattle.run_finds.specs.Given.ScenesScene.{Scene}

-- the one of a turn, if there are so many
abbrev pub at_turn : List ℕ → ℕ → Option ℕ
at_turn [] t = None
at_turn (n ∷ ns) zero = Some n
at_turn (n ∷ ns) (suc t) = at_turn ns t

-- how long the tables are that a map has had
abbrev pub lengths_in : List TableThere → List ℕ
lengths_in tables = list_map (λ u. u.shape.len) tables

abbrev pub lengths_of : {K V : Type 0} → ℕ → Moment K V → List ℕ
lengths_of map m = lengths_in (tables_of map m)

-- it follows a table of such a length, and is there since a copy has found no place in that
abbrev pub FollowsFullTable : List ℕ → Table → Type 0
FollowsFullTable lengths table = (t len : ℕ) × (table.turn ≡ suc t) × (at_turn lengths t ≡ Some len) × Has (next_len NoPlace len 0 0) table.len × (table.limit ≡ next_limit NoPlace len 0 table.len)

-- a making makes such a table, for which no pairs are counted
abbrev pub IsFurther : List ℕ → NewTable → Type 0
IsFurther lengths n = ShapedAt (λ before reason. ⊥) (FollowsFullTable lengths) n.stands

-- what a copier makes is such a making: its own,
abbrev pub CopierMakes : (NewTable → Type 0) → Copying → Type 0
CopierMakes Such (copying.Grows word code making) = Such making
CopierMakes Such (copying.Remakes making) = Such making
CopierMakes Such _ = Unit {0}

-- and that of the copier of a call, whichever it is
abbrev pub CallMakes : (NewTable → Type 0) → Calling → Type 0
CallMakes Such (calling.Helps copier goal) = CopierMakes Such copier.stands
CallMakes Such (calling.Copies copier) = CopierMakes Such copier.stands
CallMakes Such _ = Unit {0}

abbrev pub RoomMakes : (NewTable → Type 0) → Reserving → Type 0
RoomMakes Such (reserving.Copies copier) = CopierMakes Such copier.stands
RoomMakes Such _ = Unit {0}

abbrev pub SweepMakes : (NewTable → Type 0) → Sweeping → Type 0
SweepMakes Such (sweeping.Copies copier) = CopierMakes Such copier.stands
SweepMakes Such _ = Unit {0}

abbrev pub MachineMakes : {K V Q : Type 0} → (NewTable → Type 0) → Machine K V Q → Type 0
MachineMakes Such (kinds.Key p) = CallMakes Such p.stands
MachineMakes Such (kinds.Reserve r) = RoomMakes Such r.stands
MachineMakes Such (kinds.Sweep c) = SweepMakes Such c.stands
MachineMakes Such (kinds.Count sum) = Unit {0}

-- so it is of each call that is under way
abbrev pub RefinesFurther : {K V : Type 0} → Moment K V → Scene K V → Type 0
RefinesFurther {K} {V} m s = (map i : ℕ) (u : UnderWay K V K) → s.calls map i ≡ Some u → MachineMakes (IsFurther (lengths_of map m)) (machine_of u)
