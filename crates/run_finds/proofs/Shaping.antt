-- The making of a table that goes on makes the table that it was to make: of that length, and with that last try.
use Rattle.std.specs.Prelude.{◌≡◌, ℕ, ◌^◌, nat_le, max, Bool, true, false, Result, Ok, Err, if◌then◌else◌}
use Rattle.std.proofs.Common.{refl, sym, subst, arith}
use Rattle.run_executor.specs.Given.SeizeWordsOp.{Out, Exchanged, Made}
use Rattle.run_executor.specs.Given.SeizeWordsPlan.{Plan, Then, Turn, Do, Now, Seeing, Sure, then_as, plan_as}
use Rattle.run_executor.specs.Given.SeizeWordsDeclared.at.At.{At}
use Rattle.run_executor.specs.Given.SeizeWordsDeclared.at.At.TheVariants as places
use Rattle.run_executor.specs.Given.SeizeWordsDeclared.fault.Fault.{Fault}
use Rattle.run_executor.specs.Given.SeizeWordsDeclared.fault.Fault.TheVariants.{Capacity}
use Rattle.run_executor.specs.Given.SeizeDeclared.advance.Advance.{Advance}
use Rattle.run_executor.specs.Given.SeizeDeclared.advance.Advance.TheVariants as progress
use Rattle.run_blocks.specs.Given.TablesLengths.{by_count, if_few, next_len, next_limit, next_turn}
use Rattle.run_blocks.specs.Given.TablesDeclared.lengths.Reason.{Reason}
use Rattle.run_blocks.specs.Given.TablesDeclared.lengths.Reason.TheVariants.{Full}
use Rattle.run_blocks.specs.Given.TablesDeclared.lengths.TheConstants.{FIRST_LEN}
use Rattle.run_blocks.specs.Given.TablesDeclared.node.Node.{Node}
use Rattle.run_blocks.specs.Given.TablesDeclared.setting.Setting.{Setting}
use Rattle.run_blocks.specs.Given.TablesDeclared.table.Table.{Table}
use Rattle.run_blocks.specs.Given.ResizeNewTable.{with_block, after_making, made, linked, making_of, following, counted, plan_at, new_table_plan, first_table, table_after}
use Rattle.run_blocks.specs.Given.ResizeSum.{sum_plan}
use Rattle.run_blocks.specs.Given.ResizeDeclared.new_table.Making.{Making}
use Rattle.run_blocks.specs.Given.ResizeDeclared.new_table.Making.TheVariants as makes
use Rattle.run_blocks.specs.Given.ResizeDeclared.new_table.NewTable.{NewTable}
use Rattle.run_blocks.specs.Given.ResizeDeclared.sum.Sum.{Sum}
use Rattle.run_executor.specs.Given.SchedulesGrowing.{Has}
use Rattle.run_executor.proofs.Given.RuleKeys.Always.{Always, AlwaysOf, always_plan_as}
use Rattle.run_finds.specs.Shaping.{ShapedAt, IsFirstTable, IsFirstMaking, IsNextTable, IsNextMaking}

-- what is so of each outcome of a plan, and of what that stands for
module _ {T A B : Type 0} (Q : A → Type 0) (P : B → Type 0) (f : A → B) (all : (a : A) → Q a → P (f a)) where
  always_more : (rest : Then T A) → Always Q rest → Always P (then_as f rest)
  always_more (Now end) so = all end so
  always_more (Seeing block rest) so = λ value. always_more (rest value) (so value)
  always_more (Sure fact rest) so = always_more rest so

  pub always_plan_more : (plan : Plan T A) → AlwaysOf Q plan → AlwaysOf P (plan_as f plan)
  always_plan_more (Turn rest) so = always_more rest so
  always_plan_more (Do op rest) so = λ out. always_more (rest out) (so out)

-- Of a making that is to make such a table, whatever its link: what counts for that is that of the sum, and of the table alone its length and its last try.
module _ (Sums : Table → Reason → Type 0) (Is : Table → Type 0) (kept : (t : Table) (b : ℕ) → Is t → Is (with_block t b)) where
  after_so : (link : At) (t : Table) → Is t → ShapedAt Sums Is (after_making link t)
  after_so (places.Root r) t is = is
  after_so (places.Used r) t is = is
  after_so (places.Slot s field) t is = is
  after_so (places.Entry b field) t is = is
  after_so (places.Word b field) t is = is

  module _ (n : NewTable) (counts : (before : Table) (reason : Reason) (count : ℕ) → Sums before reason → ShapedAt Sums Is (making_of reason before (next_len reason before.len count n.setting.initial))) where
    -- it is for the same map, and makes such a table still
    abbrev So : NewTable × Advance Table → Type 0
    So e = (e.0.setting ≡ n.setting) × ShapedAt Sums Is e.0.stands

    counted_so : (before : Table) (reason : Reason) → Sums before reason → (e : Sum × Advance ℕ) → So (counted n before reason e)
    counted_so before reason sums (sum, progress.Goes) = (refl, sums)
    counted_so before reason sums (sum, progress.Waits) = (refl, sums)
    counted_so before reason sums (sum, progress.Done count) = (refl, counts before reason count sums)
    counted_so before reason sums (sum, progress.Refused fault) = (refl, tt)

    module _ (K V : Type 0) where
      made_so : (t : Table) → Is t → So (n, progress.Goes) → (out : Out (Node K V)) → Always So (made n t out)
      made_so t is stays (Made (Ok block)) = (refl, after_so n.link (with_block t block) (kept t block is))
      made_so t is stays (Made (Err value)) = (refl, tt)
      made_so t is stays _ = stays

      linked_so : (t : Table) → Is t → So (n, progress.Goes) → (out : Out (Node K V)) → Always So (linked n t out)
      linked_so t is stays (Exchanged (Ok empty)) = (refl, tt)
      linked_so t is stays (Exchanged (Err found)) = (refl, is)
      linked_so t is stays _ = stays

      by_point : (p : Making) → ShapedAt Sums Is p → So (n, progress.Goes) → AlwaysOf So (plan_at {K = K} {V = V} n p)
      by_point (makes.Sums before reason sum) so stays = always_plan_as So (counted n before reason) (counted_so before reason so) (sum_plan sum)
      by_point (makes.Makes t) so stays = λ out. made_so t so stays out
      by_point (makes.Promotes t) so stays = λ out. (refl, so)
      by_point (makes.Links t) so stays = λ out. linked_so t so stays out
      by_point (makes.Drops t found) so stays = λ out value. (refl, tt)
      by_point (makes.Over t) so stays = stays
      by_point (makes.Refused fault) so stays = stays

      pub goes_shaped : ShapedAt Sums Is n.stands → AlwaysOf So (new_table_plan {K = K} {V = V} n)
      goes_shaped so = by_point n.stands so (refl, so)

-- The first table.

abbrev pub FirstGoes : NewTable → NewTable × Advance Table → Type 0
FirstGoes n e = (e.0.setting ≡ n.setting) × IsFirstMaking e.0

module _ (K V : Type 0) where
  pub first_goes : (n : NewTable) → IsFirstMaking n → AlwaysOf (FirstGoes n) (new_table_plan {K = K} {V = V} n)
  first_goes n so = goes_shaped (λ before reason. ⊥) IsFirstTable (λ t b is. is) n (λ before reason count none. absurd none) K V so

pub first_begun : (setting : Setting) → IsFirstMaking (first_table setting FIRST_LEN)
first_begun setting = (refl, refl)

-- The table after one that is full.

pub at_least_eight : (x len : ℕ) → len ≡ max x 8 → max len 8 ≡ len
at_least_eight x len e = omega (arith, e)

pub few_is : (x len : ℕ) → if_few x x ≡ Ok len → len ≡ x
few_is x len e = by (nat_le x (2 ^ 48)) e
  where
    by : (q : Bool) → ◌≡◌ {A = Result ℕ Fault} (if q then Ok x else Err Capacity) (Ok len) → len ≡ x
    by true is = (let one : x ≡ len = cc is in sym one)
    by false is = absurd (cc is)

module _ (setting : Setting) (before : Table) (met : ℕ) where
  abbrev Follows' : Making → Type 0
  Follows' p = ShapedAt (λ b reason. (b ≡ before) × (most : ℕ) × (reason ≡ Full met most)) (IsNextTable setting before met) p

  next_shaped : (most count len : ℕ) → next_len (Full met most) before.len count setting.initial ≡ Ok len → (turn : Result ℕ Fault) → Follows' (following (Full met most) before (max len 8) turn)
  next_shaped most count len is (Err fault) = tt
  next_shaped most count len is (Ok turn) = by (nat_le (max len 8) (2 ^ 48))
    where
      long : max len 8 ≡ len
      long = at_least_eight (by_count before.len (max count most) setting.initial) len (few_is (max (by_count before.len (max count most) setting.initial) 8) len is)

      by : (q : Bool) → Follows' (if q then makes.Makes (record { link = 0; len = max len 8; limit = next_limit (Full met most) before.len before.limit (max len 8); turn = turn }) else makes.Refused Capacity)
      by true = (count, most, subst (λ (r : Result ℕ Fault). Has r (max len 8)) (sym is) long, refl)
      by false = tt

  next_counted : (most count : ℕ) (r : Result ℕ Fault) → next_len (Full met most) before.len count setting.initial ≡ r → Follows' (making_of (Full met most) before r)
  next_counted most count (Ok len) is = next_shaped most count len is (next_turn before.turn)
  next_counted most count (Err fault) is = tt

  counts_so : (n : NewTable) → n.setting ≡ setting → (b : Table) (reason : Reason) (count : ℕ) → (b ≡ before) × (most : ℕ) × (reason ≡ Full met most)
      → Follows' (making_of reason b (next_len reason b.len count n.setting.initial))
  counts_so n setting_is b reason count (b_is, most, reason_is) =
      subst (λ (t : Table). Follows' (making_of reason t (next_len reason t.len count n.setting.initial))) (sym b_is)
      (subst (λ (r : Reason). Follows' (making_of r before (next_len r before.len count n.setting.initial))) (sym reason_is)
      (subst (λ (x : Setting). Follows' (making_of (Full met most) before (next_len (Full met most) before.len count x.initial))) (sym setting_is)
      (next_counted most count (next_len (Full met most) before.len count setting.initial) refl)))

  abbrev pub NextGoes : NewTable → NewTable × Advance Table → Type 0
  NextGoes n e = (e.0.setting ≡ n.setting) × Follows' e.0.stands

  module _ (K V : Type 0) where
    pub next_goes : (n : NewTable) → n.setting ≡ setting → Follows' n.stands → AlwaysOf (NextGoes n) (new_table_plan {K = K} {V = V} n)
    next_goes n setting_is so =
        goes_shaped (λ b reason. (b ≡ before) × (most : ℕ) × (reason ≡ Full met most)) (IsNextTable setting before met) (λ t b is. is) n (counts_so n setting_is) K V so

pub next_begun : (setting : Setting) (before : Table) (met most : ℕ) → IsNextMaking setting before met (table_after setting before (Full met most))
next_begun setting before met most = (refl, (refl, most, refl))
