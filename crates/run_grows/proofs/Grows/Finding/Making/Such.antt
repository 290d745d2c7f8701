-- Which table a copier makes: so it goes on, so it begins, and so it is where a map has had further tables.
use Rattle.std.specs.Prelude.{◌≡◌, ℕ, suc, ◌*◌, ◌^◌, nat_le, max, Bool, true, false, List, Some, Result, Ok, Err, if◌then◌else◌}
use Rattle.std.proofs.Common.{refl, ap, sym, subst, ◌∙◌}
use Rattle.run_finds.specs.Given.SeizeWordsPlan.{Do, Now, Plan, Seeing, Sure, Then, Turn}
use Rattle.run_finds.specs.Given.SeizeWordsDeclared.fault.Fault.{Fault}
use Rattle.run_finds.specs.Given.SeizeWordsDeclared.fault.Fault.TheVariants.{Capacity}
use Rattle.papaya_raw.specs.Given.SeizeDeclared.advance.Advance.{Advance}
use Rattle.papaya_raw.specs.Given.TablesLengths.{next_len, next_limit, next_turn}
use Rattle.papaya_raw.specs.Given.TablesDeclared.lengths.Reason.{Reason}
use Rattle.papaya_raw.specs.Given.TablesDeclared.lengths.Reason.TheVariants.{NoPlace}
use Rattle.papaya_raw.specs.Given.TablesDeclared.setting.Setting.{Setting}
use Rattle.papaya_raw.specs.Given.TablesDeclared.table.Table.{Table}
use Rattle.run_finds.specs.Given.ResizeNewTable.{following, making_of, new_table_plan, planned, table_after}
use Rattle.run_finds.specs.Given.ResizeDeclared.copier.Copying.{Copying}
use Rattle.run_finds.specs.Given.ResizeDeclared.copier.Copying.TheVariants as copying
use Rattle.run_finds.specs.Given.ResizeDeclared.new_table.Making.{Making}
use Rattle.run_finds.specs.Given.ResizeDeclared.new_table.Making.TheVariants as makes
use Rattle.run_finds.specs.Given.ResizeDeclared.new_table.NewTable.{NewTable}
use Rattle.papaya_raw.specs.Given.ReservesDeclared.reserve.Reserving.{Reserving}
use Rattle.papaya_raw.specs.Given.ReservesDeclared.reserve.Reserving.TheVariants as reserving
use Rattle.papaya_raw.specs.Given.ReservesDeclared.sweep.Sweeping.{Sweeping}
use Rattle.papaya_raw.specs.Given.ReservesDeclared.sweep.Sweeping.TheVariants as sweeping
use Rattle.papaya_raw.specs.declared.machines.call.Calling.{Calling}
use Rattle.papaya_raw.specs.declared.machines.call.Calling.TheVariants as calling
use Rattle.papaya_raw.specs.declared.machines.machine.Machine.{Machine}
use Rattle.papaya_raw.specs.declared.machines.machine.Machine.TheVariants as kinds
use Rattle.run_schedules.specs.Schedules.Growing.{Has}
use Rattle.run_finds.proofs.Given.RuleKeys.Always.{Always, AlwaysOf}
use Rattle.run_finds.specs.Shaping.{ShapedAt}
use Rattle.run_finds.proofs.Shaping.{goes_shaped, few_is, at_least_eight}
use Rattle.run_grows.specs.Grows.Further.{CallMakes, CopierMakes, FollowsFullTable, IsFurther, MachineMakes, RoomMakes, SweepMakes, at_turn}
use Rattle.run_finds.proofs.Purposes.Needs.{next_of as turn_is}

-- what is so of each outcome of a plan is so as what follows from that
module _ {T A : Type 0} (Q P : A → Type 0) (all : (a : A) → Q a → P a) where
  rest_so : (rest : Then T A) → Always Q rest → Always P rest
  rest_so (Now end) so = all end so
  rest_so (Seeing block rest) so = λ value. rest_so (rest value) (so value)
  rest_so (Sure fact rest) so = rest_so rest so

  always_so : (plan : Plan T A) → AlwaysOf Q plan → AlwaysOf P plan
  always_so (Turn rest) so = rest_so rest so
  always_so (Do op rest) so = λ out. rest_so (rest out) (so out)

-- no pairs are counted for it
abbrev NoSum : Table → Reason → Type 0
NoSum before reason = ⊥

module _ (lengths : List ℕ) where
  pub further_goes : (K V : Type 0) (n : NewTable) → IsFurther lengths n → AlwaysOf (λ (e : NewTable × Advance Table). IsFurther lengths e.0) (new_table_plan {K = K} {V = V} n)
  further_goes K V n so =
      always_so (λ (e : NewTable × Advance Table). (e.0.setting ≡ n.setting) × ShapedAt NoSum (FollowsFullTable lengths) e.0.stands) (λ (e : NewTable × Advance Table). IsFurther lengths e.0) (λ e both. both.1)
      (new_table_plan {K = K} {V = V} n) (goes_shaped NoSum (FollowsFullTable lengths) (λ t b is. is) n (λ before reason count none. absurd none) K V so)

  -- where it begins behind a table of the map

  module _ (t : ℕ) (before : Table) (there : before.turn ≡ t) (length_is : at_turn lengths t ≡ Some before.len) where
    abbrev Such : Making → Type 0
    Such p = ShapedAt NoSum (FollowsFullTable lengths) p

    turned : (len : ℕ) → next_len NoPlace before.len 0 0 ≡ Ok len → (r : Result ℕ Fault) → next_turn before.turn ≡ r → Such (following NoPlace before (max len 8) r)
    turned len is (Err fault) e = tt
    turned len is (Ok turn) e = by (nat_le (max len 8) (2 ^ 48))
      where
        long : max len 8 ≡ len
        long = at_least_eight (before.len * 2) len (few_is (max (before.len * 2) 8) len is)

        by : (q : Bool) → Such (if q then makes.Makes (planned (max len 8) (next_limit NoPlace before.len before.limit (max len 8)) turn) else makes.Refused Capacity)
        by true = (t, before.len, turn_is before.turn turn e ∙ ap (λ (k : ℕ). suc k) there, length_is, subst (λ (r : Result ℕ Fault). Has r (max len 8)) (sym is) long, refl)
        by false = tt

    lengthened : (r : Result ℕ Fault) → next_len NoPlace before.len 0 0 ≡ r → Such (making_of NoPlace before r)
    lengthened (Err fault) is = tt
    lengthened (Ok len) is = turned len is (next_turn before.turn) refl

    pub further_begun : (setting : Setting) → IsFurther lengths (table_after setting before NoPlace)
    further_begun setting = lengthened (next_len NoPlace before.len 0 0) refl

-- where each table of a map is as long
module _ (lengths lengths2 : List ℕ) (more : (t n : ℕ) → at_turn lengths t ≡ Some n → at_turn lengths2 t ≡ Some n) where
  behind_more : (table : Table) → FollowsFullTable lengths table → FollowsFullTable lengths2 table
  behind_more table is = (is.0, is.1, is.2, more is.0 is.1 is.3, is.4, is.5)

  stands_more : (p : Making) → ShapedAt NoSum (FollowsFullTable lengths) p → ShapedAt NoSum (FollowsFullTable lengths2) p
  stands_more (makes.Sums before reason sum) so = so
  stands_more (makes.Makes table) so = behind_more table so
  stands_more (makes.Promotes table) so = behind_more table so
  stands_more (makes.Links table) so = behind_more table so
  stands_more (makes.Drops table found) so = behind_more table so
  stands_more (makes.Over table) so = tt
  stands_more (makes.Refused fault) so = tt

  pub further_more : (n : NewTable) → IsFurther lengths n → IsFurther lengths2 n
  further_more n so = stands_more n.stands so

-- what copiers make so they make as what follows from that
module _ (Such Such2 : NewTable → Type 0) (more : (n : NewTable) → Such n → Such2 n) where
  copier_more : (p : Copying) → CopierMakes Such p → CopierMakes Such2 p
  copier_more (copying.Grows word code making) so = more making so
  copier_more (copying.Remakes making) so = more making so
  copier_more _ so = tt

  call_more : (p : Calling) → CallMakes Such p → CallMakes Such2 p
  call_more (calling.Helps copier goal) so = copier_more copier.stands so
  call_more (calling.Copies copier) so = copier_more copier.stands so
  call_more _ so = tt

  room_more : (p : Reserving) → RoomMakes Such p → RoomMakes Such2 p
  room_more (reserving.Copies copier) so = copier_more copier.stands so
  room_more _ so = tt

  sweep_more : (p : Sweeping) → SweepMakes Such p → SweepMakes Such2 p
  sweep_more (sweeping.Copies copier) so = copier_more copier.stands so
  sweep_more _ so = tt

  pub machine_more : {K V Q : Type 0} (machine : Machine K V Q) → MachineMakes Such machine → MachineMakes Such2 machine
  machine_more (kinds.Key p) so = call_more p.stands so
  machine_more (kinds.Reserve r) so = room_more r.stands so
  machine_more (kinds.Sweep c) so = sweep_more c.stands so
  machine_more (kinds.Count sum) so = tt
