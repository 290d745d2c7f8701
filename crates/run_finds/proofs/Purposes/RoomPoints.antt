-- A step of a reservation leads to the root, and from there to later tables.
use Rattle.std.specs.Prelude.{◌≡◌, ℕ, zero, suc, ◌^◌, ◌≤◌, ◌==◌, nat_lt, Bool, true, false, List, Some, if◌then◌else◌, ◌⊎◌}
use Rattle.std.proofs.Common.{refl, ap, sym, subst, ◌∙◌, arith, inl, inr}
use Rattle.run_finds.specs.Given.SeizeWordsMem.{Mem, Took, value_at, word_at}
use Rattle.run_finds.specs.Given.SeizeWordsOp.{Out, Found, Stored, Exchanged, Made, Taken, Roomed}
use Rattle.run_finds.specs.Given.SeizeWordsPlan.{Steps}
use Rattle.run_finds.specs.Given.SeizeWordsDeclared.at.At.TheVariants.{Root, Word}
use Rattle.run_finds.specs.Given.SeizeWordsDeclared.fault.Fault.TheVariants.{Capacity}
use Rattle.run_finds.proofs.Given.SeizeWordsOneOwner.Operations.{loaded}
use Rattle.run_finds.proofs.Given.SeizeRuleRows.Leaving.{steps_back}
use Rattle.run_finds.specs.Given.SeizeWorld.{World}
use Rattle.run_finds.specs.Given.SeizeDeclared.advance.Advance.{Advance}
use Rattle.run_finds.specs.Given.SeizeDeclared.advance.Advance.TheVariants as progress
use Rattle.run_finds.specs.Given.TablesDeclared.node.Node.{Node}
use Rattle.run_finds.specs.Given.TablesDeclared.setting.Setting.{Setting}
use Rattle.run_finds.specs.Given.TablesDeclared.table.Table.{Table}
use Rattle.run_finds.specs.Given.TablesChunks.{is_incremental}
use Rattle.run_finds.specs.Given.ResizeCopier.{copier_plan}
use Rattle.run_finds.specs.Given.ResizeCopierStates.{resting, copying_all}
use Rattle.run_finds.specs.Given.ResizeNewTable.{first_table, new_table_plan}
use Rattle.run_finds.specs.Given.ResizeSum.{sum_plan}
use Rattle.run_finds.specs.Given.ResizeDeclared.copier.Copier.{Copier}
use Rattle.run_finds.specs.Given.ResizeDeclared.copier.Copying.{Copying}
use Rattle.run_finds.specs.Given.ResizeDeclared.copier.Copying.TheVariants as copies
use Rattle.run_finds.specs.Given.ResizeDeclared.new_table.NewTable.{NewTable}
use Rattle.run_finds.specs.Given.ResizeDeclared.yielding.Yielding.{Yielding}
use Rattle.run_finds.specs.Given.ResizeDeclared.yielding.Yielding.TheVariants as outcome
use Rattle.run_finds.specs.Given.ResizeDeclared.sum.Sum.{Sum}
use Rattle.run_finds.specs.Given.ResizeDeclared.sum.Summing.TheVariants as sums
use Rattle.run_finds.specs.Given.ReservesReserve.{needed, standing, counting, refusing, enough, summed, made, grown, copied, root_read, next_read, plan_at}
use Rattle.run_finds.specs.Given.ReservesDeclared.reserve.Reserve.{Reserve}
use Rattle.run_finds.specs.Given.ReservesDeclared.reserve.Reserving.{Reserving}
use Rattle.run_finds.specs.Given.ReservesDeclared.reserve.Reserving.TheVariants as at
use Rattle.run_finds.specs.Given.SchedulesCounts.{Counts}
use Rattle.run_finds.specs.Given.SchedulesLists.{OneOf}
use Rattle.run_finds.specs.Given.SchedulesMoment.{Moment}
use Rattle.run_finds.specs.Given.RuleChart.{Chart}
use Rattle.run_finds.specs.Given.RuleInWorld.{IsMapIn}
use Rattle.run_finds.specs.Given.RuleWords.{Blocks}
use Rattle.run_finds.proofs.Given.RuleKeys.Always.{Always, always_if, always_plan_as, always_steps}
use Rattle.run_finds.proofs.Given.RuleWords.LinksRead.{link_ends}
use Rattle.run_finds.proofs.Given.RuleWords.LinksSeen.{root_leads}
use Rattle.run_finds.specs.Given.PointsFactsTables.{CountsShards}
use Rattle.run_finds.proofs.Given.HistoriesAsking.{always_turned}
use Rattle.run_finds.specs.Purposes.Purposes.{HasAdded, RoomAt}
use Rattle.run_finds.proofs.Purposes.Copiers.{KnowsTables, Keeps, copier_keeps}
use Rattle.run_finds.proofs.Purposes.Sums.{After, counting_on}

-- it begins to copy, or begins anew with another table: what it knows says which is which
abbrev pub IsTold : Copying → Type 0
IsTold stands = (stands ≡ copies.Asks) ⊎ (stands ≡ copies.Marks)

module _ {K V : Type 0} (of : ℕ) (moments : List (Moment K V)) (low : ℕ) (Ends : Type 0) where
  abbrev pub LedAt : Reserving → Type 0
  LedAt (at.Copies copier) = (low ≤ copier.source.turn) × ((low ≤ copier.target.turn) ⊎ IsTold copier.stands)
  LedAt stands = RoomAt of moments low stands

  -- where it has come to no table
  abbrev pub IsBare : Type 0
  IsBare = (low ≡ 0) × ((shards : ℕ) → Counts shards of moments 0)

  -- where it goes on, and what is so at its end
  abbrev pub Led : Reserve × Yielding (Node K V) Unit → Type 0
  Led (q, outcome.Done end) = Ends
  Led (q, outcome.Refused fault) = Unit {0}
  Led (q, _) = LedAt q.stands

  -- a counting that begins has added nothing
  none_added : (mask : ℕ) → HasAdded of moments mask (sums.Adds 0 0)
  none_added mask = (0, refl, omega arith)

  module _ (p : Reserve) where
    -- a table at which the pairs are counted
    counts_in : (table : Table) → low ≤ table.turn → Led (counting p table, outcome.Goes)
    counts_in table l = (l, none_added p.setting.mask)

    -- a copying that begins
    begins : (s : Setting) (table next : Table) → low ≤ table.turn → LedAt (at.Copies (copying_all s table next))
    begins s table next l = by (is_incremental s.mode)
      where
        by : (b : Bool) → LedAt (at.Copies (if b then record (resting s true table next copies.Marks) { end = table.len } else resting s true table next copies.Asks))
        by true = (l, inr (inr refl))
        by false = (l, inr (inl refl))

    made_leads : IsBare → (end : NewTable × Advance Table) → Led (made p end)
    made_leads bare (making, progress.Goes) = bare
    made_leads bare (making, progress.Waits) = bare
    made_leads bare (making, progress.Done table) = counts_in table (let none = bare.0 in omega (arith, none))
    made_leads bare (making, progress.Refused fault) = tt

    grown_leads : (table : Table) → low ≤ table.turn → (end : NewTable × Advance Table) → Led (grown p table end)
    grown_leads table l (making, progress.Goes) = l
    grown_leads table l (making, progress.Waits) = l
    grown_leads table l (making, progress.Done next) = begins p.setting table next l
    grown_leads table l (making, progress.Refused fault) = tt

    next_leads : (table : Table) (need : ℕ) → low ≤ table.turn → LedAt p.stands → (out : Out (Node K V)) → Always Led (next_read p table need out)
    next_leads table need l here (Found link) = always_if Led (link == 0) _ _ l (λ value. begins p.setting table _ l)
    next_leads table need l here Stored = here
    next_leads table need l here (Exchanged r) = here
    next_leads table need l here (Made r) = here
    next_leads table need l here (Taken value) = here
    next_leads table need l here (Roomed r) = here

    module _ (copier : Copier) (s : low ≤ copier.source.turn) (t : low ≤ copier.target.turn) where
      kept : (q : Copier) → (q.source ≡ copier.source) × ((q.target ≡ copier.target) ⊎ (q.stands ≡ copies.Asks)) → LedAt (at.Copies q)
      kept q (source, inl target) = (subst (λ (x : Table). low ≤ x.turn) (sym source) s, inl (subst (λ (x : Table). low ≤ x.turn) (sym target) t))
      kept q (source, inr asks) = (subst (λ (x : Table). low ≤ x.turn) (sym source) s, inr (inl asks))

      copied_leads : (end : Copier × Yielding (Node K V) Table) → Keeps K V copier end → Led (copied p end)
      copied_leads (q, outcome.Goes) k = kept q k
      copied_leads (q, outcome.Waits) k = kept q k
      copied_leads (q, outcome.Gave value) k = kept q k
      copied_leads (q, outcome.Done root) k = counts_in root (subst (λ (x : Table). low ≤ x.turn) (sym k) t)
      copied_leads (q, outcome.Refused fault) k = tt

    enough_leads : (table : Table) (need : ℕ) → low ≤ table.turn → (nat_lt (2 ^ 48) need ≡ false → nat_lt table.len need ≡ false → Ends) → Led (enough p table need)
    enough_leads table need l ends = by (nat_lt (2 ^ 48) need) refl (nat_lt table.len need) refl
      where
        by : (a : Bool) → nat_lt (2 ^ 48) need ≡ a → (b : Bool) → nat_lt table.len need ≡ b
            → Led (if a then refusing p Capacity else (if b then (standing p (at.Follows table need), outcome.Goes) else (standing p at.Over, outcome.Done tt)))
        by true e b f = tt
        by false e true f = l
        by false e false f = ends e f

  -- of a map in a memory, where the root is not before the lowest
  module _ (same : K → K → Bool) (hash : K → ℕ) (setting : Setting) (w : World (Node K V)) (c : Chart K) (blocks : Blocks) (map : IsMapIn same hash setting w c blocks) (from : low ≤ c.first)
      (now : Moment K V) (last : (P : Moment K V → Type 0) → P now → OneOf P moments) (p : Reserve) (root_is : p.setting.root ≡ setting.root) where
    module _ (table : Table) (sum : Sum) (l : low ≤ table.turn) (reads : (shard : ℕ) → shard ≤ sum.setting.mask → word_at w.memory (Word sum.setting.counter shard) ≡ Some (now.shards of shard))
        (few : CountsShards sum.setting sum.stands) (has : HasAdded of moments sum.setting.mask sum.stands)
        (ends : (count : ℕ) → Counts (suc sum.setting.mask) of moments count → nat_lt (2 ^ 48) (needed p.additional count) ≡ false → nat_lt table.len (needed p.additional count) ≡ false → Ends) where
      abbrev Came : Sum × Advance ℕ → Type 0
      Came end = After of moments w.memory sum now last reads end

      summed_leads : (end : Sum × Advance ℕ) → Came end → Led (summed p table end)
      summed_leads (sum2, progress.Goes) came = (l, subst (λ (x : Setting). HasAdded of moments x.mask sum2.stands) (sym came.0) came.1)
      summed_leads (sum2, progress.Waits) came = absurd came
      summed_leads (sum2, progress.Done count) came = enough_leads p table (needed p.additional count) l (ends count came)
      summed_leads (sum2, progress.Refused fault) came = absurd came

      pub sums_lead : (m2 : Mem (Node K V)) (end : Reserve × Yielding (Node K V) Unit) → Steps Took value_at w.memory (plan_at hash p (at.Sums table sum)) m2 end → Led end
      sums_lead m2 end s =
          let b = steps_back (summed p table) w.memory m2 (sum_plan sum) end s in
          subst Led (sym b.2) (summed_leads b.0 (counting_on of moments w.memory sum now last reads few has m2 b.0 b.1))

    pub reads_lead : (c.past ≡ 0 → (shards : ℕ) → Counts shards of moments 0) → (m2 : Mem (Node K V)) (end : Reserve × Yielding (Node K V) Unit) → Steps Took value_at w.memory (plan_at hash p at.Reads) m2 end → Led end
    reads_lead counted m2 end s =
        let d = loaded w.memory (root_read p) (Root p.setting.root) m2 end s in
        link_ends hash w.memory c blocks setting.root map.map.shows d.0 c.first
        (root_leads same hash setting.mode setting.root w.memory c blocks map.map d.0 (ap (λ (x : ℕ). word_at w.memory (Root x)) (sym root_is) ∙ d.1))
        (standing p (at.Makes (first_table p.setting (needed p.additional 0))), outcome.Goes) (λ table. (counting p table, outcome.Goes)) Led none
        (λ table entered. counts_in p table (let turn : table.turn ≡ c.first = ap (λ (x : Table). x.turn) entered.is in omega (arith, from, turn))) end d.3
      where
        none : c.past ≤ c.first → IsBare
        none past = by c.past refl
          where
            by : (n : ℕ) → c.past ≡ n → IsBare
            by zero e = ((let first = map.map.rule.common.rootless e in omega (arith, first, from)), counted e)
            by (suc n) e = absurd (let l = map.map.rule.common.rooted (omega (arith, e)) in omega (arith, l, past))

  module _ (hash : K → ℕ) (p : Reserve) where
    pub makes_lead : (making : NewTable) → IsBare → (m m2 : Mem (Node K V)) (end : Reserve × Yielding (Node K V) Unit) → Steps Took value_at m (plan_at hash p (at.Makes making)) m2 end → Led end
    makes_lead making bare m m2 end s =
        always_steps Led m m2 (plan_at hash p (at.Makes making)) end (always_plan_as Led (made p) (made_leads p bare) (new_table_plan making)) s

    pub grows_lead : (table : Table) (making : NewTable) → low ≤ table.turn → (m m2 : Mem (Node K V)) (end : Reserve × Yielding (Node K V) Unit)
        → Steps Took value_at m (plan_at hash p (at.Grows table making)) m2 end → Led end
    grows_lead table making l m m2 end s =
        always_steps Led m m2 (plan_at hash p (at.Grows table making)) end (always_plan_as Led (grown p table) (grown_leads p table l) (new_table_plan making)) s

    pub follows_lead : (table : Table) (need : ℕ) → low ≤ table.turn → LedAt p.stands → (m m2 : Mem (Node K V)) (end : Reserve × Yielding (Node K V) Unit)
        → Steps Took value_at m (plan_at hash p (at.Follows table need)) m2 end → Led end
    follows_lead table need l here m m2 end s = always_steps Led m m2 (plan_at hash p (at.Follows table need)) end (next_leads p table need l here) s

    pub copies_lead : (copier : Copier) → KnowsTables copier.stands → low ≤ copier.source.turn → low ≤ copier.target.turn → (m m2 : Mem (Node K V)) (end : Reserve × Yielding (Node K V) Unit)
        → Steps Took value_at m (plan_at hash p (at.Copies copier)) m2 end → Led end
    copies_lead copier knows s t m m2 end steps =
        always_steps Led m m2 (plan_at hash p (at.Copies copier)) end
        (always_turned (Keeps K V copier) Led (copied p) (copied_leads p copier s t) (copier_plan hash copier) (copier_keeps K V copier hash copier.stands knows)) steps
