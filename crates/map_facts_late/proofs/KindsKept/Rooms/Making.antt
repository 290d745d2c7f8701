-- The making of a table is refused for the length of the table, or for memory, where its block is refused.
use Rattle.std.specs.Prelude.{◌≡◌, ℕ, ◌+◌, ◌^◌, ◌<◌, ◌≤◌, max, nat_lt, nat_le, if◌then◌else◌, Bool, true, false, Result, Ok, Err, IfOk}
use Rattle.std.proofs.Common.{inl, inr, refl, sym, subst, ap, arith}
use Rattle.std.proofs.lemmas.Bool.Decides.{leb_tells}
use Rattle.map_facts.specs.Given.SeizeWordsDeclared.at.At.{At}
use Rattle.map_facts.specs.Given.SeizeWordsDeclared.at.At.TheVariants as name
use Rattle.map_facts.specs.Given.SeizeWordsDeclared.fault.Fault.{Fault}
use Rattle.map_facts.specs.Given.SeizeWordsDeclared.fault.Fault.TheVariants.{Capacity, Memory}
use Rattle.map_facts.specs.Given.SeizeWordsMem.{Mem, value_at, Took}
use Rattle.map_facts.specs.Given.SeizeWordsOp.{Out, Found, Stored, Exchanged, Made, Taken, Roomed}
use Rattle.map_facts.specs.Given.SeizeWordsPlan.{Then, Steps}
use Rattle.map_facts.specs.Given.SeizeDeclared.advance.Advance.{Advance}
use Rattle.map_facts.specs.Given.SeizeDeclared.advance.Advance.TheVariants as progress
use Rattle.map_facts.specs.Given.TablesLengths.{if_few, next_len, next_limit, next_turn, NoneFollows}
use Rattle.map_facts.specs.Given.TablesProbes.{limit_of}
use Rattle.map_facts.specs.Given.ResizeNewTable.{planned, making_first, following, making_of, begun_for, first_table, table_after, table_reserved, counted, made, linked, after_making, with_block, plan_at, new_table_plan}
use Rattle.map_facts.specs.Given.ResizeSum as counts
use Rattle.map_facts.specs.Given.ResizeSum.{added, sum_plan}
use Rattle.map_facts.specs.Given.TablesDeclared.lengths.Reason.{Reason}
use Rattle.map_facts.specs.Given.TablesDeclared.lengths.Reason.TheVariants as reason
use Rattle.map_facts.specs.Given.ResizeDeclared.new_table.NewTable.{NewTable}
use Rattle.map_facts.specs.Given.ResizeDeclared.new_table.Making.{Making}
use Rattle.map_facts.specs.Given.ResizeDeclared.new_table.Making.TheVariants as makes
use Rattle.map_facts.specs.Given.ResizeDeclared.sum.Sum.{Sum}
use Rattle.map_facts.specs.Given.ResizeDeclared.sum.Summing.{Summing}
use Rattle.map_facts.specs.Given.ResizeDeclared.sum.Summing.TheVariants as sums
use Rattle.map_facts.specs.Given.TablesDeclared.node.Node.{Node}
use Rattle.map_facts.specs.Given.TablesDeclared.setting.Setting.{Setting}
use Rattle.map_facts.specs.Given.TablesDeclared.table.Table.{Table}
use Rattle.map_facts.proofs.Given.SeizeRuleRows.Leaving.{steps_back}
use Rattle.map_facts.proofs.Given.TablesEnds.{next_few}
use Rattle.map_facts.proofs.Given.RuleKeys.Always.{Always, AlwaysOf, always_if, always_steps}
use Rattle.map_facts_late.specs.Ends.{EndsSo}
use Rattle.map_facts_late.specs.Faults.{AnyTable, IsRoom, RoomInMaking, SoInMaking, HoldsInMaking}
use Rattle.map_facts.proofs.Given.General.{less_not as at_least}

-- a length that can't be had is too long
abbrev IsLong : {T : Type 0} → Result T Fault → Type 0
IsLong (Ok x) = Unit {0}
IsLong (Err fault) = fault ≡ Capacity

few_long : (places number : ℕ) → IsLong (if_few places number)
few_long places number = by (nat_le places (2 ^ 48))
  where
    by : (b : Bool) → IsLong (if b then Ok number else Err Capacity)
    by true = tt
    by false = refl

len_long : (r : Reason) (len count initial : ℕ) → IsLong (next_len r len count initial)
len_long (reason.Full met most) len count initial = few_long _ _
len_long (reason.Reserved additional) len count initial = few_long _ _
len_long reason.NoPlace len count initial = few_long _ _

-- a number is more than another one where it is not at most that
pub above : (a b : ℕ) → nat_le a b ≡ false → b < a
above a b e =
    elim (leb_tells a b) as (λ _. b < a) [
      | inl few ↦ absurd (let most = few.0 in cc (most, e))
      | inr many ↦ many.1
    ]

-- what is so of both outcomes of a test is so of this one
module _ {T R : Type 0} (P : R → Type 0) where
  pub always_where : (b : Bool) (x y : Then T R) → (b ≡ true → Always P x) → Always P y → Always P (if b then x else y)
  always_where true x y f g = f refl
  always_where false x y f g = g

-- What is begun: where a length is too long, or the table before has the last turn, the fault is such a one.
module _ (Is : Fault → Type 0) (Last : Table → Reason → Type 0) where
  chosen : (b : Bool) (x y : Making) → HoldsInMaking Is Last x → (b ≡ false → HoldsInMaking Is Last y) → HoldsInMaking Is Last (if b then x else y)
  chosen true x y f g = f
  chosen false x y f g = g refl

  first_as : (len : ℕ) → (2 ^ 48 < len → Is Capacity) → HoldsInMaking Is Last (making_first len)
  first_as len long = chosen (nat_le len (2 ^ 48)) (makes.Makes (planned len (limit_of len) 0)) (makes.Refused Capacity) tt (λ many. long (above len (2 ^ 48) many))

  following_as : (r : Reason) (before : Table) (len : ℕ) → (2 ^ 48 < len → Is Capacity) → (2 ^ 63 ≤ before.turn → Is Capacity) → HoldsInMaking Is Last (following r before len (next_turn before.turn))
  following_as r before len long late = by (nat_lt before.turn (2 ^ 63)) refl
    where
      by : (b : Bool) → nat_lt before.turn (2 ^ 63) ≡ b → HoldsInMaking Is Last (following r before len (if b then Ok (before.turn + 1) else Err Capacity))
      by true e =
          chosen (nat_le len (2 ^ 48)) (makes.Makes (planned len (next_limit r before.len before.limit len) (before.turn + 1))) (makes.Refused Capacity) tt (λ many. long (above len (2 ^ 48) many))
      by false e = late (at_least before.turn (2 ^ 63) e)

  making_as : (r : Reason) (before : Table) (len : Result ℕ Fault) → IsLong len → IfOk len (λ x. 2 ^ 48 < x → Is Capacity) → (len ≡ Err Capacity → Is Capacity) → (2 ^ 63 ≤ before.turn → Is Capacity)
      → HoldsInMaking Is Last (making_of r before len)
  making_as r before (Ok len) fails long none late = following_as r before (max len 8) (λ more. long (omega (arith, more))) late
  making_as r before (Err fault) fails long none late = subst Is (sym fails) (none (ap (λ (x : Fault). Err x) fails))

  fitting : (len : Result ℕ Fault) → IfOk len (λ x. x ≤ 2 ^ 48) → IfOk len (λ x. 2 ^ 48 < x → Is Capacity)
  fitting (Ok len) few = λ more. absurd (omega (arith, few, more))
  fitting (Err fault) few = tt

  -- the table after another one, by a count
  after_as : (r : Reason) (before : Table) (count initial : ℕ) → (NoneFollows r before.len before.turn count initial → Is Capacity)
      → HoldsInMaking Is Last (making_of r before (next_len r before.len count initial))
  after_as r before count initial ends =
      making_as r before (next_len r before.len count initial) (len_long r before.len count initial) (fitting (next_len r before.len count initial) (next_few r before.len count initial))
      (λ none. ends (inl none)) (λ late. ends (inr late))

  begun_as : (setting : Setting) (before : Table) (r : Reason) → Last before r → EndsSo Is Last setting → HoldsInMaking Is Last (begun_for setting before r)
  begun_as setting before reason.NoPlace last ends = after_as reason.NoPlace before 0 setting.initial (ends before reason.NoPlace 0 last)
  begun_as setting before (reason.Reserved additional) last ends = last
  begun_as setting before (reason.Full met most) last ends = last

  pub first_table_as : (setting : Setting) (len : ℕ) → (2 ^ 48 < len → Is Capacity) → HoldsInMaking Is Last (first_table setting len).stands
  first_table_as setting len long = first_as (max len 8) (λ more. long (omega (arith, more)))

  pub table_after_as : (setting : Setting) (before : Table) (r : Reason) → Last before r → EndsSo Is Last setting → HoldsInMaking Is Last (table_after setting before r).stands
  table_after_as setting before r last ends = begun_as setting before r last ends

  pub table_full_as : (setting : Setting) (before : Table) (met most : ℕ) → Last before (reason.Full met most) → HoldsInMaking Is Last (table_after setting before (reason.Full met most)).stands
  table_full_as setting before met most last = last

  pub table_reserved_as : (setting : Setting) (before : Table) (len : ℕ) → (2 ^ 48 < len → Is Capacity) → (2 ^ 63 ≤ before.turn → Is Capacity)
      → HoldsInMaking Is Last (table_reserved setting before len).stands
  table_reserved_as setting before len long late = making_as (reason.Reserved 0) before (Ok len) tt long (λ none. absurd (cc none)) late

-- where the fault is such a one in any case
module _ (Is : Fault → Type 0) (long : Is Capacity) where
  pub always_long : (setting : Setting) → EndsSo Is AnyTable setting
  always_long setting before r count last none = long

  pub first_table_so : (setting : Setting) (len : ℕ) → SoInMaking Is (first_table setting len).stands
  first_table_so setting len = first_table_as Is AnyTable setting len (λ more. long)

  pub table_after_so : (setting : Setting) (before : Table) (r : Reason) → SoInMaking Is (table_after setting before r).stands
  table_after_so setting before r = table_after_as Is AnyTable setting before r tt (always_long setting)

pub first_table_room : (setting : Setting) (len : ℕ) → RoomInMaking (first_table setting len).stands
first_table_room setting len = first_table_so IsRoom (inr refl) setting len

pub table_after_room : (setting : Setting) (before : Table) (r : Reason) → RoomInMaking (table_after setting before r).stands
table_after_room setting before r = table_after_so IsRoom (inr refl) setting before r

-- a counting is never refused
abbrev pub CountsOn : Sum × Advance ℕ → Type 0
CountsOn (sum, progress.Refused fault) = ⊥
CountsOn (sum, _) = Unit {0}

module _ (T : Type 0) where
  pub sum_counts : (sum : Sum) → AlwaysOf CountsOn (sum_plan {T = T} sum)
  sum_counts sum = by sum.stands
    where
      word_read : (shard total : ℕ) (out : Out T) → Always CountsOn (added sum shard total out)
      word_read shard total (Found word) = always_if CountsOn (nat_lt shard sum.setting.mask) _ _ tt tt
      word_read shard total Stored = tt
      word_read shard total (Exchanged r) = tt
      word_read shard total (Made r) = tt
      word_read shard total (Taken value) = tt
      word_read shard total (Roomed r) = tt

      by : (stands : Summing) → AlwaysOf CountsOn (counts.plan_at {T = T} sum stands)
      by (sums.Adds shard total) = word_read shard total
      by (sums.Over count) = tt

-- it neither counts nor makes its block
abbrev pub IsPlain : Making → Type 0
IsPlain (makes.Sums before r sum) = ⊥
IsPlain (makes.Makes table) = ⊥
IsPlain _ = Unit {0}

module _ (Is : Fault → Type 0) (Last : Table → Reason → Type 0) where
  -- each step leads to a point that is so, and a refusal is so
  abbrev pub MakesAs : NewTable × Advance Table → Type 0
  MakesAs (n, progress.Refused fault) = HoldsInMaking Is Last n.stands × Is fault
  MakesAs (n, _) = HoldsInMaking Is Last n.stands

  module _ (n : NewTable) where
    pub counted_as : EndsSo Is Last n.setting → (before : Table) (r : Reason) → Last before r → (end : Sum × Advance ℕ) → CountsOn end → MakesAs (counted n before r end)
    counted_as ends before r last (sum, progress.Goes) on = last
    counted_as ends before r last (sum, progress.Waits) on = last
    counted_as ends before r last (sum, progress.Done count) on = after_as Is Last r before count n.setting.initial (ends before r count last)
    counted_as ends before r last (sum, progress.Refused fault) on = absurd on

    module _ {K V : Type 0} (here : HoldsInMaking Is Last n.stands) where
      -- it is refused for memory where its block is
      pub made_as : (table : Table) (out : Out (Node K V)) → ((value : Node K V) → out ≡ Made (Err value) → Is Memory) → Always MakesAs (made n table out)
      made_as table (Made (Ok block)) short = by n.link
        where
          by : (link : At) → HoldsInMaking Is Last (after_making link (with_block table block))
          by (name.Root r) = tt
          by (name.Used r) = tt
          by (name.Slot s i) = tt
          by (name.Entry b i) = tt
          by (name.Word b i) = tt
      made_as table (Made (Err value)) short = (short value refl, short value refl)
      made_as table (Found word) short = here
      made_as table Stored short = here
      made_as table (Exchanged r) short = here
      made_as table (Taken value) short = here
      made_as table (Roomed r) short = here

      linked_as : (table : Table) (out : Out (Node K V)) → Always MakesAs (linked n table out)
      linked_as table (Exchanged (Ok empty)) = tt
      linked_as table (Exchanged (Err found)) = tt
      linked_as table (Found word) = here
      linked_as table Stored = here
      linked_as table (Made r) = here
      linked_as table (Taken value) = here
      linked_as table (Roomed r) = here

    -- each step of its own leads to a point that is so, and a refusal is so
    module _ (K V : Type 0) (here : HoldsInMaking Is Last n.stands) where
      pub plain_as : (stage : Making) → IsPlain stage → HoldsInMaking Is Last stage → AlwaysOf MakesAs (plan_at {K = K} {V = V} n stage)
      plain_as (makes.Sums before r sum) plain so = absurd plain
      plain_as (makes.Makes table) plain so = absurd plain
      plain_as (makes.Promotes table) plain so = λ out. tt
      plain_as (makes.Links table) plain so = linked_as here table
      plain_as (makes.Drops table found) plain so = λ out value. tt
      plain_as (makes.Over table) plain so = here
      plain_as (makes.Refused fault) plain so = (here, so)

-- The promise: each step leads to a point that is so, and a refusal is so, for memory where its block is refused.
module _ (Is : Fault → Type 0) (Last : Table → Reason → Type 0) (short : Is Memory) {K V : Type 0} (n : NewTable) (ends : EndsSo Is Last n.setting) (here : HoldsInMaking Is Last n.stands) where
  pub new_table_as : (m m2 : Mem (Node K V)) (end : NewTable × Advance Table) → Steps Took value_at m (new_table_plan n) m2 end → MakesAs Is Last end
  new_table_as m m2 end s = by n.stands here s
    where
      told : (stage : Making) → AlwaysOf (MakesAs Is Last) (plan_at {K = K} {V = V} n stage) → Steps Took value_at m (plan_at {K = K} {V = V} n stage) m2 end → MakesAs Is Last end
      told stage always s = always_steps (MakesAs Is Last) m m2 (plan_at {K = K} {V = V} n stage) end always s

      by : (stage : Making) → HoldsInMaking Is Last stage → Steps Took value_at m (plan_at {K = K} {V = V} n stage) m2 end → MakesAs Is Last end
      by (makes.Sums before r sum) so s =
          let d = steps_back (counted n before r) m m2 (sum_plan sum) end s in
          subst (MakesAs Is Last) (sym d.2) (counted_as Is Last n ends before r so d.0 (always_steps CountsOn m m2 (sum_plan sum) d.0 (sum_counts (Node K V) sum) d.1))
      by (makes.Makes table) so s = told (makes.Makes table) (λ out. made_as Is Last n here table out (λ value is. short)) s
      by (makes.Promotes table) so s = told (makes.Promotes table) (plain_as Is Last n K V here (makes.Promotes table) tt so) s
      by (makes.Links table) so s = told (makes.Links table) (plain_as Is Last n K V here (makes.Links table) tt so) s
      by (makes.Drops table found) so s = told (makes.Drops table found) (plain_as Is Last n K V here (makes.Drops table found) tt so) s
      by (makes.Over table) so s = told (makes.Over table) (plain_as Is Last n K V here (makes.Over table) tt so) s
      by (makes.Refused fault) so s = told (makes.Refused fault) (plain_as Is Last n K V here (makes.Refused fault) tt so) s

-- where the fault is such a one in any case
module _ (Is : Fault → Type 0) where
  abbrev pub MakesFor : NewTable × Advance Table → Type 0
  MakesFor end = MakesAs Is AnyTable end

  module _ (long : Is Capacity) (n : NewTable) where
    pub counted_so : (before : Table) (r : Reason) (end : Sum × Advance ℕ) → CountsOn end → MakesFor (counted n before r end)
    counted_so before r end on = counted_as Is AnyTable n (always_long Is long n.setting) before r tt end on

    module _ {K V : Type 0} (here : SoInMaking Is n.stands) where
      pub made_so : (table : Table) (out : Out (Node K V)) → ((value : Node K V) → out ≡ Made (Err value) → Is Memory) → Always MakesFor (made n table out)
      made_so table out short = made_as Is AnyTable n here table out short

    module _ (K V : Type 0) (here : SoInMaking Is n.stands) where
      pub plain_so : (stage : Making) → IsPlain stage → SoInMaking Is stage → AlwaysOf MakesFor (plan_at {K = K} {V = V} n stage)
      plain_so stage plain so = plain_as Is AnyTable n K V here stage plain so

-- so for room
abbrev pub MakesRoom : NewTable × Advance Table → Type 0
MakesRoom end = MakesFor IsRoom end

pub new_table_rooms : {K V : Type 0} (n : NewTable) → RoomInMaking n.stands → (m m2 : Mem (Node K V)) (end : NewTable × Advance Table) → Steps Took value_at m (new_table_plan n) m2 end → MakesRoom end
new_table_rooms n here m m2 end s = new_table_as IsRoom AnyTable (inl refl) n (always_long IsRoom (inr refl) n.setting) here m m2 end s
