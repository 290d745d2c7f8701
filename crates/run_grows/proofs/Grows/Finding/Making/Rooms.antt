-- A step of a reservation makes a table by its copier as that was to make it.
use Rattle.std.specs.Prelude.{ℕ, ◌^◌, ◌==◌, nat_lt, Bool, true, false, if◌then◌else◌}
use Rattle.run_finds.specs.Given.SeizeWordsOp.{Out, Found}
use Rattle.run_finds.specs.Given.SeizeWordsDeclared.fault.Fault.TheVariants.{Capacity}
use Rattle.papaya_raw.specs.Given.SeizeDeclared.advance.Advance.{Advance}
use Rattle.papaya_raw.specs.Given.SeizeDeclared.advance.Advance.TheVariants as progress
use Rattle.papaya_raw.specs.Given.TablesDeclared.node.Node.{Node}
use Rattle.papaya_raw.specs.Given.TablesDeclared.table.Table.{Table}
use Rattle.papaya_raw.specs.Given.ResizeCopier.{copier_plan}
use Rattle.run_finds.specs.Given.ResizeNewTable.{new_table_plan}
use Rattle.run_finds.specs.Given.ResizeSum.{sum_plan}
use Rattle.run_finds.specs.Given.ResizeDeclared.copier.Copier.{Copier}
use Rattle.run_finds.specs.Given.ResizeDeclared.new_table.NewTable.{NewTable}
use Rattle.run_finds.specs.Given.ResizeDeclared.yielding.Yielding.{Yielding}
use Rattle.run_finds.specs.Given.ResizeDeclared.yielding.Yielding.TheVariants as outcome
use Rattle.run_finds.specs.Given.ResizeDeclared.sum.Sum.{Sum}
use Rattle.papaya_raw.specs.Given.ReservesReserve.{copied, enough, grown, made, needed, next_read, plan_at, refusing, reserve_plan, root_read, standing, summed}
use Rattle.papaya_raw.specs.Given.ReservesDeclared.reserve.Reserve.{Reserve}
use Rattle.papaya_raw.specs.Given.ReservesDeclared.reserve.Reserving.{Reserving}
use Rattle.papaya_raw.specs.Given.ReservesDeclared.reserve.Reserving.TheVariants as at
use Rattle.run_finds.proofs.Given.RuleKeys.Always.{Always, AlwaysOf, always_if, always_plan_as}
use Rattle.run_finds.proofs.Shaping.{always_plan_more}
use Rattle.run_grows.specs.Grows.Further.{RoomMakes}
use Rattle.run_grows.proofs.Grows.Finding.Making.Copiers.{CopierBegins, CopierEnds, begun_makes, copier_makes}

-- what its copier may begin to make is such a making
abbrev pub RoomBegins : (NewTable → Type 0) → Reserving → Type 0
RoomBegins Such (at.Copies copier) = CopierBegins Such copier copier.stands
RoomBegins Such _ = Unit {0}

module _ (Such : NewTable → Type 0) (K V : Type 0) where
  abbrev pub RoomEnds : Reserve × Yielding (Node K V) Unit → Type 0
  RoomEnds end = RoomMakes Such end.0.stands

  module _ (hash : K → ℕ) (goes : (n : NewTable) → Such n → AlwaysOf (λ (e : NewTable × Advance Table). Such e.0) (new_table_plan {K = K} {V = V} n)) (p : Reserve) (here : RoomMakes Such p.stands) where
    -- by a step of a machine within it
    pub copied_makes : (end : Copier × Yielding (Node K V) Table) → CopierEnds Such K V end → RoomEnds (copied p end)
    copied_makes (copier, outcome.Goes) so = so
    copied_makes (copier, outcome.Waits) so = so
    copied_makes (copier, outcome.Gave value) so = so
    copied_makes (copier, outcome.Done table) so = tt
    copied_makes (copier, outcome.Refused fault) so = tt

    made_makes : (end : NewTable × Advance Table) → RoomEnds (made p end)
    made_makes (making, progress.Goes) = tt
    made_makes (making, progress.Waits) = tt
    made_makes (making, progress.Done table) = tt
    made_makes (making, progress.Refused fault) = tt

    grown_makes : (table : Table) (end : NewTable × Advance Table) → RoomEnds (grown p table end)
    grown_makes table (making, progress.Goes) = tt
    grown_makes table (making, progress.Waits) = tt
    grown_makes table (making, progress.Done next) = begun_makes Such p.setting table next
    grown_makes table (making, progress.Refused fault) = tt

    enough_makes : (table : Table) (need : ℕ) → RoomEnds (enough p table need)
    enough_makes table need = by (nat_lt (2 ^ 48) need) (nat_lt table.len need)
      where
        by : (a b : Bool) → RoomEnds (if a then refusing p Capacity else (if b then (standing p (at.Follows table need), outcome.Goes) else (standing p at.Over, outcome.Done tt)))
        by true b = tt
        by false true = tt
        by false false = tt

    summed_makes : (table : Table) (end : Sum × Advance ℕ) → RoomEnds (summed p table end)
    summed_makes table (sum, progress.Goes) = tt
    summed_makes table (sum, progress.Waits) = tt
    summed_makes table (sum, progress.Done count) = enough_makes table (needed p.additional count)
    summed_makes table (sum, progress.Refused fault) = tt

    -- by the answer of an operation
    on_root : (out : Out (Node K V)) → Always RoomEnds (root_read p out)
    on_root (Found link) = always_if RoomEnds (link == 0) _ _ tt (λ value. tt)
    on_root _ = here

    on_next : (table : Table) (need : ℕ) (out : Out (Node K V)) → Always RoomEnds (next_read p table need out)
    on_next table need (Found link) = always_if RoomEnds (link == 0) _ _ tt (λ value. begun_makes Such p.setting table _)
    on_next table need _ = here

    pub point_makes : (stands : Reserving) → RoomMakes Such stands → RoomBegins Such stands → AlwaysOf RoomEnds (plan_at hash p stands)
    point_makes at.Reads makes begins = on_root
    point_makes (at.Makes making) makes begins = always_plan_as RoomEnds (made p) made_makes (new_table_plan making)
    point_makes (at.Sums table sum) makes begins = always_plan_as RoomEnds (summed p table) (summed_makes table) (sum_plan sum)
    point_makes (at.Follows table need) makes begins = on_next table need
    point_makes (at.Grows table making) makes begins = always_plan_as RoomEnds (grown p table) (grown_makes table) (new_table_plan making)
    point_makes (at.Copies copier) makes begins = always_plan_more (CopierEnds Such K V) RoomEnds (copied p) copied_makes (copier_plan hash copier) (copier_makes Such K V hash goes copier makes begins)
    point_makes at.Over makes begins = here
    point_makes (at.Refused fault) makes begins = here

    pub room_makes : RoomBegins Such p.stands → AlwaysOf RoomEnds (reserve_plan hash p)
    room_makes begins = point_makes p.stands here begins
