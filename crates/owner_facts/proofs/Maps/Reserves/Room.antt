-- What a reservation counts: what the shards say, and at its end the root has the places for that.
use Rattle.std.specs.Prelude.{◌==◌, ◌-◌, nat_lt, if◌then◌else◌}
use Rattle.std.proofs.Common.{◌≡◌, ℕ, suc, ◌+◌, ◌%◌, ◌^◌, ◌<◌, ◌≤◌, Bool, true, false, refl, arith, ap, sym, subst, ◌∙◌}
use Rattle.many_maps.specs.Given.SeizeWordsDeclared.fault.Fault.TheVariants.{Capacity}
use Rattle.many_maps.specs.Given.SeizeWordsMem.{Mem, Took, value_at}
use Rattle.many_maps.specs.Given.SeizeWordsOp.{Out, Found, Stored, Exchanged, Made, Taken, Roomed}
use Rattle.many_maps.specs.Given.SeizeWordsPlan.{Steps}
use Rattle.many_maps.proofs.Given.SeizeRuleRows.Leaving.{steps_back}
use Rattle.many_maps.specs.Given.SeizeWorld.{World}
use Rattle.many_maps.specs.Given.SeizeDeclared.advance.Advance.{Advance}
use Rattle.many_maps.specs.Given.SeizeDeclared.advance.Advance.TheVariants as progress
use Rattle.many_maps.specs.Given.ResizeCopier.{copier_plan}
use Rattle.many_maps.specs.Given.TablesCounts.{count_in}
use Rattle.many_maps.specs.Given.ResizeNewTable.{new_table_plan}
use Rattle.many_maps.specs.Given.ReservesReserve.{standing, needed, refusing, summed, made, grown, copied, root_read, next_read, plan_at, reserve_plan}
use Rattle.many_maps.specs.Given.ResizeSum.{sum_plan}
use Rattle.many_maps.specs.Given.TablesDeclared.node.Node.{Node}
use Rattle.many_maps.specs.Given.ResizeDeclared.yielding.Yielding.{Yielding}
use Rattle.many_maps.specs.Given.ResizeDeclared.yielding.Yielding.TheVariants as outcome
use Rattle.many_maps.specs.Given.TablesDeclared.setting.Setting.{Setting}
use Rattle.many_maps.specs.Given.TablesDeclared.table.Table.{Table}
use Rattle.many_maps.specs.Given.ResizeDeclared.copier.Copier.{Copier}
use Rattle.many_maps.specs.Given.ResizeDeclared.new_table.NewTable.{NewTable}
use Rattle.many_maps.specs.Given.ResizeDeclared.sum.Sum.{Sum}
use Rattle.many_maps.specs.Given.ResizeDeclared.sum.Summing.TheVariants as sums
use Rattle.many_maps.specs.Given.ReservesDeclared.reserve.Reserve.{Reserve}
use Rattle.many_maps.specs.Given.ReservesDeclared.reserve.Reserving.{Reserving}
use Rattle.many_maps.specs.Given.ReservesDeclared.reserve.Reserving.TheVariants as at
use Rattle.many_maps.specs.Given.RuleChart.{Chart}
use Rattle.many_maps.specs.Given.RuleWords.{Blocks}
use Rattle.many_maps.specs.Given.RuleInWorld.{IsMapIn}
use Rattle.many_maps.specs.Given.PointsTold.{SumOutcome}
use Rattle.many_maps.proofs.Given.RuleKeys.Always.{Always, AlwaysOf, always_if, always_plan_as, always_steps}
use Rattle.many_maps.proofs.Given.PointsMaking.Sum.{told_sum}
use Rattle.many_maps.proofs.Given.RuleWorld.WentWrote.{counter_of}
use Rattle.owner_facts.specs.Alone.Counting.{shards_sum, count_ahead}
use Rattle.many_maps.specs.Given.LateFactsReserves.{ReservingFacts, ReserveFacts}
use Rattle.owner_facts.specs.Maps.AloneReserves.{SumsUp}
use Rattle.owner_facts.proofs.Maps.Reserves.Sums.{Ahead, sum_ahead}

-- a counting has only begun
abbrev BeginsAt : Reserving → Type 0
BeginsAt (at.Sums table sum) = sum.stands ≡ sums.Adds 0 0
BeginsAt _ = Unit {0}

abbrev NotDone : {T : Type 0} → Yielding T Unit → Type 0
NotDone (outcome.Done end) = ⊥
NotDone _ = Unit {0}

-- where a step leads that is none of a counting
abbrev Begins : {T : Type 0} → Reserve × Yielding T Unit → Type 0
Begins end = BeginsAt end.0.stands × NotDone end.1

module _ (K V : Type 0) (p : Reserve) where
  begins_made : (end : NewTable × Advance Table) → Begins (made {K = K} {V = V} p end)
  begins_made (n, progress.Goes) = (tt, tt)
  begins_made (n, progress.Waits) = (tt, tt)
  begins_made (n, progress.Done table) = (refl, tt)
  begins_made (n, progress.Refused fault) = (tt, tt)

  begins_grown : (table : Table) (end : NewTable × Advance Table) → Begins (grown {K = K} {V = V} p table end)
  begins_grown table (n, progress.Goes) = (tt, tt)
  begins_grown table (n, progress.Waits) = (tt, tt)
  begins_grown table (n, progress.Done next) = (tt, tt)
  begins_grown table (n, progress.Refused fault) = (tt, tt)

  begins_copied : (end : Copier × Yielding (Node K V) Table) → Begins (copied p end)
  begins_copied (copier, outcome.Goes) = (tt, tt)
  begins_copied (copier, outcome.Waits) = (tt, tt)
  begins_copied (copier, outcome.Gave value) = (tt, tt)
  begins_copied (copier, outcome.Done root) = (refl, tt)
  begins_copied (copier, outcome.Refused fault) = (tt, tt)

  module _ (self : BeginsAt p.stands) where
    on_root : (out : Out (Node K V)) → Always Begins (root_read p out)
    on_root (Found root) = always_if Begins (root == 0) _ _ (tt, tt) (λ value. (refl, tt))
    on_root Stored = (self, tt)
    on_root (Exchanged r) = (self, tt)
    on_root (Made r) = (self, tt)
    on_root (Taken value) = (self, tt)
    on_root (Roomed r) = (self, tt)

    on_next : (table : Table) (need : ℕ) (out : Out (Node K V)) → Always Begins (next_read p table need out)
    on_next table need (Found link) = always_if Begins (link == 0) _ _ (tt, tt) (λ value. (tt, tt))
    on_next table need Stored = (self, tt)
    on_next table need (Exchanged r) = (self, tt)
    on_next table need (Made r) = (self, tt)
    on_next table need (Taken value) = (self, tt)
    on_next table need (Roomed r) = (self, tt)

module _ {K V : Type 0} (same : K → K → Bool) (hash : K → ℕ) (setting : Setting) (w : World (Node K V)) (c : Chart K) (blocks : Blocks) (map : IsMapIn same hash setting w c blocks)
    (t : ℕ) (p : Reserve) (f : ReserveFacts same hash w 0 setting c blocks p) (m2 : Mem (Node K V)) (end : Reserve × Yielding (Node K V) Unit) where
  abbrev said : Mem (Node K V) → ℕ
  said m = count_in (shards_sum m setting.counter (suc setting.mask) % 2 ^ 64)

  -- it has ended where the root was long enough
  abbrev pub HasPlaces : ℕ → Type 0
  HasPlaces additional = (count : ℕ) × (needed additional count ≤ c.len c.first) × (count ≡ said m2) × (t ≡ c.first) × (c.first < c.past)

  abbrev pub SumsTo : Reserve × Yielding (Node K V) Unit → Type 0
  SumsTo (q, outcome.Done over) = HasPlaces q.additional
  SumsTo (q, outcome.Goes) = SumsUp setting m2 q.stands
  SumsTo (q, outcome.Waits) = SumsUp setting m2 q.stands
  SumsTo (q, outcome.Gave value) = SumsUp setting m2 q.stands
  SumsTo (q, outcome.Refused fault) = SumsUp setting m2 q.stands

  begun : (stands : Reserving) → BeginsAt stands → SumsUp setting m2 stands
  begun (at.Sums table sum) b =
      ap (count_ahead setting m2) b ∙ ap (λ (x : ℕ). count_in (x % 2 ^ 64)) (none_yet (shards_sum m2 setting.counter (suc setting.mask)))
    where
      none_yet : (s : ℕ) → 0 + (s - 0) ≡ s
      none_yet s = omega arith
  begun at.Reads b = tt
  begun (at.Makes making) b = tt
  begun (at.Follows table need) b = tt
  begun (at.Grows table making) b = tt
  begun (at.Copies copier) b = tt
  begun at.Over b = tt
  begun (at.Refused fault) b = tt

  begins_sums : (e : Reserve × Yielding (Node K V) Unit) → Begins e → SumsTo e
  begins_sums (q, outcome.Done over) b = absurd b.1
  begins_sums (q, outcome.Goes) b = begun q.stands b.0
  begins_sums (q, outcome.Waits) b = begun q.stands b.0
  begins_sums (q, outcome.Gave value) b = begun q.stands b.0
  begins_sums (q, outcome.Refused fault) b = begun q.stands b.0

  begins : (stage : Reserving) → AlwaysOf Begins (plan_at {K = K} {V = V} hash p stage) → Steps Took value_at w.memory (plan_at hash p stage) m2 end → SumsTo end
  begins stage all s = begins_sums end (always_steps Begins w.memory m2 (plan_at hash p stage) end all s)

  -- a step of its counting
  module _ (table : Table) (sum : Sum) (point : ReservingFacts same hash w 0 setting c blocks (at.Sums table sum)) (turn : table.turn ≡ c.first) (from : t ≡ c.first)
      (had : count_ahead setting w.memory sum.stands ≡ said w.memory) where
    root_len : (table.len ≡ c.len c.first) × (c.first < c.past)
    root_len =
        let entered = point.0.1 in
        let is : point.0.0 ≡ c.first = sym (ap (λ (x : Table). x.turn) entered.is) ∙ turn in
        (ap (λ (x : Table). x.len) entered.is ∙ ap c.len is, subst (λ (u : ℕ). u < c.past) is entered.made)

    summed_on : m2 ≡ w.memory → (b : Sum × Advance ℕ) → SumOutcome setting b → Ahead setting w.memory sum point.1.0 sum.stands b → SumsTo (summed p table b)
    summed_on is (next, progress.Goes) told ahead = subst (λ (m : Mem (Node K V)). count_ahead setting m next.stands ≡ said m) (sym is) (ahead ∙ had)
    summed_on is (next, progress.Waits) told ahead = absurd told
    summed_on is (next, progress.Refused fault) told ahead = absurd told
    summed_on is (next, progress.Done count) told ahead = by (nat_lt (2 ^ 48) (needed p.additional count)) (nat_lt table.len (needed p.additional count)) refl
      where
        by : (long short : Bool) → nat_lt table.len (needed p.additional count) ≡ short
            → SumsTo (if long then refusing p Capacity else (if short then (standing p (at.Follows table (needed p.additional count)), outcome.Goes) else (standing p at.Over, outcome.Done tt)))
        by true short e = tt
        by false true e = tt
        by false false e = (
          count,
          (let l = least table.len (needed p.additional count) e in let len = root_len.0 in omega (arith, l, len)),
          subst (λ (m : Mem (Node K V)). count ≡ said m) (sym is) (ahead ∙ had),
          from,
          root_len.1,
        )
          where
            least : (a b : ℕ) → nat_lt a b ≡ false → b ≤ a
            least a b h = grind (arith, h)

    counts_on : Steps Took value_at w.memory (plan_at hash p (at.Sums table sum)) m2 end → SumsTo end
    counts_on s =
        let b = steps_back (summed p table) w.memory m2 (sum_plan sum) end s in
        let told = told_sum setting w.memory (counter_of same hash setting w c blocks map) sum point.1 m2 b.0 b.1 in
        subst SumsTo (sym b.2) (summed_on told.0 b.0 told.1 (sum_ahead setting w.memory sum point.1.0 point.1.1 m2 b.0 b.1))

  -- it counts for the root
  abbrev pub CountsRoot : Reserving → Type 0
  CountsRoot (at.Sums table sum) = (table.turn ≡ c.first) × (t ≡ c.first)
  CountsRoot at.Over = ⊥
  CountsRoot _ = Unit {0}

  pub sums_on : CountsRoot p.stands → SumsUp setting w.memory p.stands → Steps Took value_at w.memory (reserve_plan hash p) m2 end → SumsTo end
  sums_on root had s = by p.stands refl f.point root had s
    where
      by : (stage : Reserving) → p.stands ≡ stage → ReservingFacts same hash w 0 setting c blocks stage → CountsRoot stage → SumsUp setting w.memory stage
          → Steps Took value_at w.memory (plan_at hash p stage) m2 end → SumsTo end
      by at.Reads is point alone had s = begins at.Reads (on_root K V p (subst BeginsAt (sym is) tt)) s
      by (at.Makes making) is point alone had s = begins (at.Makes making) (always_plan_as Begins (made p) (begins_made K V p) (new_table_plan making)) s
      by (at.Sums table sum) is point alone had s = counts_on table sum point alone.0 alone.1 had s
      by (at.Follows table need) is point alone had s = begins (at.Follows table need) (on_next K V p (subst BeginsAt (sym is) tt) table need) s
      by (at.Grows table making) is point alone had s = begins (at.Grows table making) (always_plan_as Begins (grown p table) (begins_grown K V p table) (new_table_plan making)) s
      by (at.Copies copier) is point alone had s = begins (at.Copies copier) (always_plan_as Begins (copied p) (begins_copied K V p) (copier_plan hash copier)) s
      by at.Over is point alone had s = absurd alone
      by (at.Refused fault) is point alone had s = begins (at.Refused fault) (subst BeginsAt (sym is) tt, tt) s
