-- A reservation makes a table as long as it must be: after each step of it, and with further moments.
use Rattle.std.specs.Prelude.{◌≡◌, ℕ, suc, ◌+◌, ◌-◌, ◌^◌, ◌==◌, nat_le, nat_lt, max, Bool, true, false, List, Result, Ok, Err, if◌then◌else◌}
use Rattle.std.proofs.Common.{refl, sym, subst, arith}
use Rattle.std.proofs.lemmas.Bool.{ltb-false, leb-true}
use Rattle.run_finds.specs.Given.SeizeWordsMem.{Mem}
use Rattle.run_finds.specs.Given.SeizeWordsOp.{Out, Found}
use Rattle.run_finds.specs.Given.SeizeWordsDeclared.fault.Fault.{Fault}
use Rattle.run_finds.specs.Given.SeizeWordsDeclared.fault.Fault.TheVariants.{Capacity}
use Rattle.run_finds.specs.Given.SeizeDeclared.advance.Advance.{Advance}
use Rattle.run_finds.specs.Given.SeizeDeclared.advance.Advance.TheVariants as progress
use Rattle.run_finds.specs.Given.TablesLengths.{len_of, next_limit, next_turn, places_for}
use Rattle.run_finds.specs.Given.TablesPowers.{next_power}
use Rattle.run_finds.specs.Given.TablesProbes.{limit_of}
use Rattle.run_finds.specs.Given.TablesDeclared.lengths.Reason.TheVariants.{Reserved}
use Rattle.run_finds.specs.Given.TablesDeclared.node.Node.{Node}
use Rattle.run_finds.specs.Given.TablesDeclared.table.Table.{Table}
use Rattle.run_finds.specs.Given.ResizeCopier.{copier_plan}
use Rattle.run_finds.specs.Given.ResizeNewTable.{first_table, following, new_table_plan, planned, table_reserved}
use Rattle.run_finds.specs.Given.ResizeSum.{sum_plan}
use Rattle.run_finds.specs.Given.ResizeDeclared.copier.Copier.{Copier}
use Rattle.run_finds.specs.Given.ResizeDeclared.new_table.Making.{Making}
use Rattle.run_finds.specs.Given.ResizeDeclared.new_table.Making.TheVariants as makes
use Rattle.run_finds.specs.Given.ResizeDeclared.new_table.NewTable.{NewTable}
use Rattle.run_finds.specs.Given.ResizeDeclared.yielding.Yielding.{Yielding}
use Rattle.run_finds.specs.Given.ResizeDeclared.yielding.Yielding.TheVariants as outcome
use Rattle.run_finds.specs.Given.ResizeDeclared.sum.Sum.{Sum}
use Rattle.run_finds.specs.Given.ReservesReserve as reserves
use Rattle.run_finds.specs.Given.ReservesDeclared.reserve.Reserve.{Reserve}
use Rattle.run_finds.specs.Given.ReservesDeclared.reserve.Reserving.{Reserving}
use Rattle.run_finds.specs.Given.ReservesDeclared.reserve.Reserving.TheVariants as at
use Rattle.run_finds.specs.Given.SchedulesCounts.{Counts}
use Rattle.run_finds.specs.Given.SchedulesGrowing.{Has}
use Rattle.run_finds.specs.Given.SchedulesLists.{OneOf}
use Rattle.run_finds.specs.Given.SchedulesMoment.{Moment}
use Rattle.run_finds.specs.Given.TellerTells.{StepsObserved}
use Rattle.run_finds.specs.Given.EffectsDeclared.changed.Changed.{Changed}
use Rattle.run_finds.specs.Given.EffectsDeclared.changed.Changed.TheVariants as changed
use Rattle.run_finds.proofs.Given.OthersOutcomes.{told_in}
use Rattle.run_finds.proofs.Given.RuleKeys.Always.{Always, AlwaysOf, always_if, always_plan_as, always_steps}
use Rattle.run_finds.specs.Reserving.{FitsAt, ReservesAt, SumTells}
use Rattle.run_finds.specs.Shaping.{ShapedAt}
use Rattle.run_finds.proofs.Shaping.{always_plan_more, goes_shaped}
use Rattle.run_finds.specs.Purposes.Needs.{IsFirstFor, IsLaterFor, Needs, NeedsAt}
use Rattle.run_finds.proofs.Purposes.Sums.{counts_wider}
use Rattle.run_finds.proofs.Given.ScenesTold.{as_step}

-- With more moments.
module _ {K V : Type 0} (of : ℕ) (moments moments2 : List (Moment K V)) (wider : (P : Moment K V → Type 0) → OneOf P moments → OneOf P moments2) (p : Reserve) where
  fits_wider : FitsAt of moments p → FitsAt of moments2 p
  fits_wider (n, counts, few) = (n, counts_wider of moments moments2 wider (suc p.setting.mask) n counts, few)

  pub reserves_wider : (q : Reserving) → ReservesAt of moments p q → ReservesAt of moments2 p q
  reserves_wider (at.Follows table need) fits = fits_wider fits
  reserves_wider (at.Grows table making) fits = fits_wider fits
  reserves_wider (at.Copies copier) fits = fits_wider fits
  reserves_wider _ fits = tt

  need_wider : (need : ℕ) → Needs of moments p need → Needs of moments2 p need
  need_wider need (n, counts, has) = (n, counts_wider of moments moments2 wider (suc p.setting.mask) n counts, has)

  later_wider : (before table : Table) → IsLaterFor of moments p before table → IsLaterFor of moments2 p before table
  later_wider before table is = (need_wider table.len is.0, is.1, is.2)

  making_wider : (before : Table) (q : Making) → ShapedAt (λ b reason. ⊥) (IsLaterFor of moments p before) q → ShapedAt (λ b reason. ⊥) (IsLaterFor of moments2 p before) q
  making_wider before (makes.Sums b reason sum) is = is
  making_wider before (makes.Makes table) is = later_wider before table is
  making_wider before (makes.Promotes table) is = later_wider before table is
  making_wider before (makes.Links table) is = later_wider before table is
  making_wider before (makes.Drops table found) is = later_wider before table is
  making_wider before (makes.Over table) is = tt
  making_wider before (makes.Refused fault) is = tt

  pub needs_wider : (q : Reserving) → NeedsAt of moments p q → NeedsAt of moments2 p q
  needs_wider (at.Makes making) is = is
  needs_wider (at.Follows table need) is = need_wider need is
  needs_wider (at.Grows table making) is = making_wider table making.stands is
  needs_wider _ is = tt

-- A length that can be had is eight at least.

eight_so : (places : Bool) (power need : ℕ) → Has (if places then Ok (max power 8) else Err Capacity) need → max need 8 ≡ need
eight_so true power need has = let one : need ≡ max power 8 = has in omega (arith, one)
eight_so false power need has = absurd has

eight_of : (pairs need : ℕ) → Has (len_of pairs) need → max need 8 ≡ need
eight_of pairs need has = eight_so (nat_le (places_for pairs) (2 ^ 48)) (next_power (places_for pairs)) need has

-- a length that is not too long can be had
had_so : (r : Result ℕ Fault) → nat_lt (2 ^ 48) (reserves.or_too_long r) ≡ false → Has r (reserves.or_too_long r)
had_so (Ok len) few = refl
had_so (Err fault) few = absurd (let l = ltb-false (2 ^ 48) (2 ^ 64 - 1) few in omega (arith, l))

eight_had : (r : Result ℕ Fault) → ((need : ℕ) → Has r need → max need 8 ≡ need) → nat_le (max (reserves.or_too_long r) 8) (2 ^ 48) ≡ true → Has r (max (reserves.or_too_long r) 8)
eight_had (Ok len) eight few = eight len refl
eight_had (Err fault) eight few = absurd (let l = leb-true (max (2 ^ 64 - 1) 8) (2 ^ 48) few in omega (arith, l))

-- The first table.

first_needs : (p : Reserve) → ShapedAt (λ before reason. ⊥) (IsFirstFor p) (first_table p.setting (reserves.needed p.additional 0)).stands
first_needs p = by (nat_le (max (reserves.needed p.additional 0) 8) (2 ^ 48)) refl
  where
    had : nat_le (max (reserves.needed p.additional 0) 8) (2 ^ 48) ≡ true → Has (len_of p.additional) (max (reserves.needed p.additional 0) 8)
    had few =
        subst (λ (n : ℕ). Has (len_of n) (max (reserves.needed p.additional 0) 8)) (let none : 0 + p.additional ≡ p.additional = omega arith in none)
        (eight_had (len_of (0 + p.additional)) (eight_of (0 + p.additional)) few)

    by : (b : Bool) → nat_le (max (reserves.needed p.additional 0) 8) (2 ^ 48) ≡ b
        → ShapedAt (λ before reason. ⊥) (IsFirstFor p) (if b then makes.Makes (planned (max (reserves.needed p.additional 0) 8) (limit_of (max (reserves.needed p.additional 0) 8)) 0) else makes.Refused Capacity)
    by true few = (had few, refl, refl)
    by false few = tt

-- the turn of one behind another
pub next_of : (before turn : ℕ) → next_turn before ≡ Ok turn → turn ≡ suc before
next_of before turn e = by (nat_lt before (2 ^ 63)) e
  where
    by : (q : Bool) → ◌≡◌ {A = Result ℕ Fault} (if q then Ok (before + 1) else Err Capacity) (Ok turn) → turn ≡ suc before
    by true is = (let one : before + 1 ≡ turn = cc is in omega (arith, one))
    by false is = absurd (cc is)

-- By what a step comes to.
module _ {K V : Type 0} (of : ℕ) (moments : List (Moment K V)) (p : Reserve) where
  abbrev So : Reserve × Yielding (Node K V) Unit → Type 0
  So e = NeedsAt of moments e.0 e.0.stands

  -- a later one, behind the root
  later_needs : (table : Table) (need : ℕ) → Needs of moments p need → ShapedAt (λ before reason. ⊥) (IsLaterFor of moments p table) (table_reserved p.setting table need).stands
  later_needs table need needs = turned (next_turn table.turn) refl
    where
      long : Needs of moments p (max need 8)
      long = subst (Needs of moments p) (sym (eight_of (needs.0 + p.additional) need needs.2)) needs

      turned : (turn : Result ℕ Fault) → next_turn table.turn ≡ turn → ShapedAt (λ before reason. ⊥) (IsLaterFor of moments p table) (following (Reserved 0) table (max need 8) turn)
      turned (Err fault) e = tt
      turned (Ok turn) e = by (nat_le (max need 8) (2 ^ 48))
        where
          by : (b : Bool) → ShapedAt (λ before reason. ⊥) (IsLaterFor of moments p table) (if b then makes.Makes (planned (max need 8) (next_limit (Reserved 0) table.len table.limit (max need 8)) turn) else makes.Refused Capacity)
          by true = (long, refl, next_of table.turn turn e)
          by false = tt

  enough_so : (table : Table) (count : ℕ) → Counts (suc p.setting.mask) of moments count → So (reserves.enough p table (reserves.needed p.additional count))
  enough_so table count counts = by (nat_lt (2 ^ 48) (reserves.needed p.additional count)) refl (nat_lt table.len (reserves.needed p.additional count))
    where
      by : (a : Bool) → nat_lt (2 ^ 48) (reserves.needed p.additional count) ≡ a → (b : Bool)
          → So (if a then reserves.refusing p Capacity else (if b then (reserves.standing p (at.Follows table (reserves.needed p.additional count)), outcome.Goes) else (reserves.standing p at.Over, outcome.Done tt)))
      by true e b = tt
      by false e true = (count, counts, had_so (len_of (count + p.additional)) e)
      by false e false = tt

  made_so : (n : NewTable) (e : NewTable × Advance Table) → (e.0.setting ≡ n.setting) × ShapedAt (λ before reason. ⊥) (IsFirstFor p) e.0.stands → So (reserves.made p e)
  made_so n (making, progress.Goes) is = is.1
  made_so n (making, progress.Waits) is = is.1
  made_so n (making, progress.Done table) is = tt
  made_so n (making, progress.Refused fault) is = tt

  grown_so : (table : Table) (n : NewTable) (e : NewTable × Advance Table) → (e.0.setting ≡ n.setting) × ShapedAt (λ before reason. ⊥) (IsLaterFor of moments p table) e.0.stands → So (reserves.grown p table e)
  grown_so table n (making, progress.Goes) is = is.1
  grown_so table n (making, progress.Waits) is = is.1
  grown_so table n (making, progress.Done next) is = tt
  grown_so table n (making, progress.Refused fault) is = tt

  copied_so : (e : Copier × Yielding (Node K V) Table) → So (reserves.copied p e)
  copied_so (copier, outcome.Goes) = tt
  copied_so (copier, outcome.Waits) = tt
  copied_so (copier, outcome.Gave value) = tt
  copied_so (copier, outcome.Done root) = tt
  copied_so (copier, outcome.Refused fault) = tt

  module _ (stays : NeedsAt of moments p p.stands) where
    root_so : (out : Out (Node K V)) → Always So (reserves.root_read p out)
    root_so (Found root) = always_if So (root == 0) _ _ (first_needs p) (λ value. tt)
    root_so _ = stays

    next_so : (table : Table) (need : ℕ) → Needs of moments p need → (out : Out (Node K V)) → Always So (reserves.next_read p table need out)
    next_so table need needs (Found link) = always_if So (link == 0) _ _ (later_needs table need needs) (λ value. tt)
    next_so table need needs _ = stays

    module _ (hash : K → ℕ) (m m2 : Mem (Node K V)) (told : Changed) (end : Reserve × Yielding (Node K V) Unit) (sums : SumTells of moments p m m2 told) where
      abbrev StepAt : Reserving → Type 0
      StepAt q = StepsObserved K V (Reserve × Yielding (Node K V) Unit) m changed.Nothing (reserves.plan_at hash p q) m2 told end

      always : (q : Reserving) → AlwaysOf So (reserves.plan_at hash p q) → StepAt q → So end
      always q all s = always_steps So m m2 (reserves.plan_at hash p q) end all (as_step m changed.Nothing (reserves.plan_at hash p q) m2 told end s)

      makes_so : (making : NewTable) → ShapedAt (λ before reason. ⊥) (IsFirstFor p) making.stands → AlwaysOf So (reserves.plan_at hash p (at.Makes making))
      makes_so making is =
          always_plan_more (λ (e : NewTable × Advance Table). (e.0.setting ≡ making.setting) × ShapedAt (λ before reason. ⊥) (IsFirstFor p) e.0.stands) So (reserves.made p) (made_so making)
          (new_table_plan making) (goes_shaped (λ before reason. ⊥) (IsFirstFor p) (λ t b it. it) making (λ before reason count none. absurd none) K V is)

      grows_so : (table : Table) (making : NewTable) → ShapedAt (λ before reason. ⊥) (IsLaterFor of moments p table) making.stands → AlwaysOf So (reserves.plan_at hash p (at.Grows table making))
      grows_so table making is =
          always_plan_more (λ (e : NewTable × Advance Table). (e.0.setting ≡ making.setting) × ShapedAt (λ before reason. ⊥) (IsLaterFor of moments p table) e.0.stands) So (reserves.grown p table)
          (grown_so table making) (new_table_plan making)
          (goes_shaped (λ before reason. ⊥) (IsLaterFor of moments p table) (λ t b it. it) making (λ before reason count none. absurd none) K V is)

      summed_so : (table : Table) (sum : Sum) → p.stands ≡ at.Sums table sum → (e : Sum × Advance ℕ) → StepsObserved K V (Sum × Advance ℕ) m changed.Nothing (sum_plan sum) m2 told e → So (reserves.summed p table e)
      summed_so table sum is (sum2, progress.Goes) s = tt
      summed_so table sum is (sum2, progress.Waits) s = tt
      summed_so table sum is (sum2, progress.Done count) s = enough_so table count (sums table sum sum2 count is s)
      summed_so table sum is (sum2, progress.Refused fault) s = tt

      by_point : (q : Reserving) → p.stands ≡ q → NeedsAt of moments p q → StepAt q → So end
      by_point at.Reads is so s = always at.Reads (λ out. root_so out) s
      by_point (at.Makes making) is so s = always (at.Makes making) (makes_so making so) s
      by_point (at.Sums table sum) is so s =
          let it = told_in m m2 told (reserves.summed p table) (sum_plan sum) end s in
          subst So (sym it.1) (summed_so table sum is it.0 it.2)
      by_point (at.Follows table need) is so s = always (at.Follows table need) (λ out. next_so table need so out) s
      by_point (at.Grows table making) is so s = always (at.Grows table making) (grows_so table making so) s
      by_point (at.Copies copier) is so s = always (at.Copies copier) (always_plan_as So (reserves.copied p) copied_so (copier_plan hash copier)) s
      by_point at.Over is so s = always at.Over stays s
      by_point (at.Refused fault) is so s = always (at.Refused fault) stays s

-- After a step of a reservation, if one that is done with counting has counted so many.
pub rooms_keep_needs : {K V : Type 0} (hash : K → ℕ) (of : ℕ) (moments : List (Moment K V)) (p : Reserve) (m m2 : Mem (Node K V)) (told : Changed) (end : Reserve × Yielding (Node K V) Unit)
    → NeedsAt of moments p p.stands → SumTells of moments p m m2 told → StepsObserved K V (Reserve × Yielding (Node K V) Unit) m changed.Nothing (reserves.reserve_plan hash p) m2 told end
    → NeedsAt of moments end.0 end.0.stands
rooms_keep_needs hash of moments p m m2 told end so sums s = by_point of moments p so hash m m2 told end sums p.stands refl so s
