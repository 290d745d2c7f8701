-- A step of a reservation that does not copy, and goes on, leads to lower numbers, whatever other callers do.
use Rattle.std.specs.Prelude.{◌-◌, ◌^◌, ◌==◌, nat_lt, max, if◌then◌else◌, Ok}
use Rattle.std.proofs.Common.{◌≡◌, ℕ, suc, ◌/◌, ◌<◌, ◌≤◌, Bool, true, false, List, [], ◌∷◌, inl, inr, refl, ap, sym, subst, arith}
use Rattle.seize_words.specs.declared.fault.Fault.TheVariants.{Capacity}
use Rattle.seize_words.specs.declared.at.At.{At}
use Rattle.seize_words.specs.declared.at.At.TheVariants.{Root, Word}
use Rattle.seize_words.specs.OneMemory.Op.{Found}
use Rattle.seize_words.specs.OneMemory.Mem.{Mem, Took, value_at}
use Rattle.seize_words.specs.OneMemory.Plan.{Now, Seeing, Steps, Ends}
use Rattle.seize_words.proofs.OneMemory.OneOwner.Operations.{loaded}
use Rattle.seize_words.proofs.OneMemory.Plans.{ends_if}
use Rattle.seize_acts.proofs.Given.SeizeRuleRows.Leaving.{steps_back}
use Rattle.seize.specs.declared.advance.Advance.{Advance}
use Rattle.seize.specs.declared.advance.Advance.TheVariants as progress
use Rattle.map_tables.specs.Chunks.{is_incremental}
use Rattle.map_machines.specs.CopierStates.{resting}
use Rattle.map_machines.specs.NewTable.{first_table, table_reserved, new_table_plan}
use Rattle.map_tables.specs.Nodes.{table_seen}
use Rattle.map_sweeps.specs.Reserves.Reserve.{standing, counting, copying, needed, root_read, next_read, enough, refusing, summed, made, grown, plan_at}
use Rattle.map_machines.specs.Sum.{sum_plan}
use Rattle.map_tables.specs.TablePlaces.{at_word}
use Rattle.map_tables.specs.declared.lengths.Reason.TheVariants.{Reserved}
use Rattle.map_tables.specs.declared.node.Node.{Node}
use Rattle.map_machines.specs.declared.yielding.Yielding.{Yielding}
use Rattle.map_machines.specs.declared.yielding.Yielding.TheVariants as outcome
use Rattle.map_tables.specs.declared.setting.Setting.{Setting}
use Rattle.map_tables.specs.declared.table.Table.{Table}
use Rattle.map_tables.specs.declared.table_words.TheConstants.{NEXT}
use Rattle.map_machines.specs.declared.copier.Copying.TheVariants as copies
use Rattle.map_machines.specs.declared.new_table.NewTable.{NewTable}
use Rattle.map_machines.specs.declared.sum.Sum.{Sum}
use Rattle.map_sweeps.specs.declared.reserve.Reserve.{Reserve}
use Rattle.map_sweeps.specs.declared.reserve.Reserving.{Reserving}
use Rattle.map_sweeps.specs.declared.reserve.Reserving.TheVariants as at
use Rattle.many_calls.specs.Given.RuleChart.{Chart}
use Rattle.many_calls.specs.Given.RuleWords.{Blocks}
use Rattle.many_calls.specs.Given.RuleMaps.{IsTable}
use Rattle.many_calls.proofs.Given.RuleWords.LinksRead.{link_ends}
use Rattle.many_calls.proofs.Given.RuleWords.LinksSeen.{next_leads}
use Rattle.many_calls.specs.Given.PointsMeasures.{IsBelow}
use Rattle.many_calls.specs.Given.PointsMeasuresTables.{number_of_new_table, shards_left}
use Rattle.many_calls.proofs.Given.PointsMaking.EndsNewTable.{new_table_lowers}
use Rattle.many_calls.proofs.Given.PointsMaking.EndsSum.{sum_lowers}
use Rattle.map_measures.specs.Falls.Room.{last_turn}
use Rattle.map_measures.specs.Falls.Calls.{one_of_eight}
use Rattle.map_measures.proofs.Falls.Below.{at_most, below_followed, no_more, fewer}
use Rattle.map_measures.proofs.Falls.Onward.{Onward, past_kept}
use Rattle.map_measures.proofs.Falls.Kept.{keeps_still}
use Rattle.map_measures.proofs.Falls.Stands.{IsBehind, NewTableStands}
use Rattle.map_measures.proofs.Falls.Making.MakingBounds.{making_within, first_within}
use Rattle.map_measures.proofs.Falls.Making.MakingOn.{MadeOn, made_on, sum_still}
use Rattle.map_measures.specs.Falls.FallsWithin.{GoesFurther}
use Rattle.map_measures.specs.Falls.Reserves.{planned_in_reserve, number_within, number_here, numbers_at, number_of_reserve}

module _ {K : Type 0} (incremental : Bool) (c : Chart K) (blocks : Blocks) (c2 : Chart K) (blocks2 : Blocks) where
  -- from one point to another
  abbrev pub Lowered : Reserving → Reserving → Type 0
  Lowered spot spot2 = IsBelow (numbers_at incremental c2 blocks2 spot2) (numbers_at incremental c blocks spot)

  -- a table was linked that was planned,
  pub lowers_linked : (spot spot2 : Reserving) → c.past ≤ planned_in_reserve spot → c.past < c2.past → planned_in_reserve spot2 ≤ last_turn → Lowered spot spot2
  lowers_linked spot spot2 linked grows low = inl (fewer c.past c2.past (planned_in_reserve spot) (planned_in_reserve spot2) grows linked low)

  -- or none was
  pub lowers_kept : c2.past ≡ c.past → (spot spot2 : Reserving) → planned_in_reserve spot2 ≤ max last_turn (planned_in_reserve spot)
      → IsBelow (number_here incremental c2 blocks2 spot2) (number_here incremental c blocks spot) → Lowered spot spot2
  lowers_kept past spot spot2 low below = at_most _ _ (no_more c.past c2.past (planned_in_reserve spot) (planned_in_reserve spot2) (omega (arith, past)) low) below

module _ {K V : Type 0} (same : K → K → Bool) (hash : K → ℕ) (setting : Setting) (m : Mem (Node K V)) (c : Chart K) (blocks : Blocks) (m2 : Mem (Node K V)) (c2 : Chart K) (blocks2 : Blocks)
    (on : Onward same hash setting m c blocks m2 c2 blocks2) (p : Reserve) (end : Reserve × Yielding (Node K V) Unit) where
  abbrev incremental : Bool
  incremental = is_incremental p.setting.mode

  -- where it goes on, the numbers are lower than where it stood
  abbrev pub Falls : Reserving → Reserve × Yielding (Node K V) Unit → Type 0
  Falls spot to = GoesFurther to.1 → IsBelow (number_of_reserve c2 blocks2 to.0) (numbers_at incremental c blocks spot)

  pub leads : (spot : Reserving) (to : Reserve × Yielding (Node K V) Unit) → end ≡ to → Falls spot to → Falls spot end
  leads spot to is f = subst (λ (x : Reserve × Yielding (Node K V) Unit). Falls spot x) (sym is) f

  still : m2 ≡ m → c2.past ≡ c.past
  still is = past_kept same hash setting m c blocks m2 c2 blocks2 on (keeps_still setting.root c blocks m m2 is)

  kept : c2.past ≡ c.past → (spot spot2 : Reserving) → planned_in_reserve spot2 ≤ max last_turn (planned_in_reserve spot)
      → IsBelow (number_here incremental c2 blocks2 spot2) (number_here incremental c blocks spot) → Lowered incremental c blocks c2 blocks2 spot spot2
  kept = lowers_kept incremental c blocks c2 blocks2

  -- a copying begins, into a table behind the one that it leaves
  copies_linked : (spot : Reserving) (table next : Table) → end ≡ (copying p table next, outcome.Goes) → c.past ≤ planned_in_reserve spot → c.past < c2.past → Falls spot end
  copies_linked spot table next is linked grows = leads spot (copying p table next, outcome.Goes) is (λ goes. by (is_incremental p.setting.mode))
    where
      by : (b : Bool) → Lowered incremental c blocks c2 blocks2 spot (at.Copies (if b then record (resting p.setting true table next copies.Marks) { end = table.len } else resting p.setting true table next copies.Asks))
      by true = lowers_linked incremental c blocks c2 blocks2 spot (at.Copies (record (resting p.setting true table next copies.Marks) { end = table.len })) linked grows (omega arith)
      by false = lowers_linked incremental c blocks c2 blocks2 spot (at.Copies (resting p.setting true table next copies.Asks)) linked grows (omega arith)

  copies_kept : (spot : Reserving) (table next : Table) → c2.past - next.turn < c.past - table.turn → end ≡ (copying p table next, outcome.Goes) → c2.past ≡ c.past
      → ((x : ℕ) → x < c.past - table.turn → (xs : List ℕ) → IsBelow (x ∷ xs) (number_here incremental c blocks spot)) → Falls spot end
  copies_kept spot table next ahead is past below = leads spot (copying p table next, outcome.Goes) is (λ goes. by (is_incremental p.setting.mode))
    where
      by : (b : Bool) → Lowered incremental c blocks c2 blocks2 spot (at.Copies (if b then record (resting p.setting true table next copies.Marks) { end = table.len } else resting p.setting true table next copies.Asks))
      by true = kept past spot (at.Copies (record (resting p.setting true table next copies.Marks) { end = table.len })) (omega arith)
          (below (c2.past - next.turn) ahead (4 ∷ number_within incremental c2 blocks2 (record (resting p.setting true table next copies.Marks) { end = table.len })))
      by false = kept past spot (at.Copies (resting p.setting true table next copies.Asks)) (omega arith) (below (c2.past - next.turn) ahead (4 ∷ number_within incremental c2 blocks2 (resting p.setting true table next copies.Asks)))

  root_falls : (root : ℕ) → c2.past ≡ c.past → (m3 : Mem (Node K V)) → Ends (value_at m3) (root_read p (Found root)) end → Falls at.Reads end
  root_falls root past m3 ends =
      elim (ends_if (value_at m3) (root == 0) (Now (standing p (at.Makes (first_table p.setting (needed p.additional 0))), outcome.Goes))
      (Seeing (root / 2048) (λ value. Now (counting p (table_seen root value), outcome.Goes))) end ends) as (λ _. Falls at.Reads end) [
        | inl h ↦ leads at.Reads _ h.1 (λ goes. (let low = first_within p.setting (needed p.additional 0) in
            kept past at.Reads (at.Makes (first_table p.setting (needed p.additional 0))) (omega (arith, low)) (inr (ap suc past, inl (omega arith)))))
        | inr h ↦ leads at.Reads _ h.1.2 (λ goes. kept past at.Reads (counting p (table_seen root h.1.0)).stands (omega arith) (inl (omega (arith, past))))
      ]

  pub follows_fall : (table : Table) (t : ℕ) → IsTable c blocks table t → (need : ℕ) → Steps Took value_at m (plan_at hash p (at.Follows table need)) m2 end → Falls (at.Follows table need) end
  follows_fall table t entered need s =
      let d = loaded m (next_read p table need) (at_word table NEXT) m2 end s in
      let past = still d.2 in
      link_ends hash m c blocks setting.root on.map.shows d.0 (suc t) (next_leads same hash setting.mode setting.root m c blocks on.map table t d.0 entered d.1)
      (standing p (at.Grows table (table_reserved p.setting table need)), outcome.Goes) (λ next. (copying p table next, outcome.Goes)) (λ e. end ≡ e → Falls (at.Follows table need) end)
      (λ none is. leads (at.Follows table need) _ is (λ goes. (let low = (making_within c.past (Reserved 0) table (Ok need)).0 in
      kept past (at.Follows table need) (at.Grows table (table_reserved p.setting table need)) (omega (arith, low)) (inr (ap (λ (x : ℕ). x - table.turn) past, inl (omega arith))))))
      (λ next behind is. copies_kept (at.Follows table need) table next
      (let turn = ap (λ (x : Table). x.turn) entered.is in let turn2 = ap (λ (x : Table). x.turn) behind.is in let made = behind.made in omega (arith, past, turn, turn2, made)) is past (λ x l xs. inl l))
      end d.3 refl

  compared_falls : (table : Table) (sum : Sum) (need : ℕ) → c2.past ≡ c.past → end ≡ enough p table need → Falls (at.Sums table sum) end
  compared_falls table sum need past is = leads (at.Sums table sum) (enough p table need) is (by (nat_lt (2 ^ 48) need) (nat_lt table.len need))
    where
      by : (long short : Bool)
          → Falls (at.Sums table sum) (if long then refusing p Capacity else (if short then (standing p (at.Follows table need), outcome.Goes) else (standing p at.Over, outcome.Done tt)))
      by true short goes = absurd goes
      by false true goes = kept past (at.Sums table sum) (at.Follows table need) (omega arith) (inr (ap (λ (x : ℕ). x - table.turn) past, inl (omega arith)))
      by false false goes = absurd goes

  sum_falls : (table : Table) (sum : Sum) (to : Sum × Advance ℕ) → c2.past ≡ c.past → Steps Took value_at m (sum_plan sum) m2 to → end ≡ summed p table to → Falls (at.Sums table sum) end
  sum_falls table sum (next, progress.Goes) past s is = leads (at.Sums table sum) _ is (λ goes.
      kept past (at.Sums table sum) (at.Sums table next) (omega arith)
      (inr (ap (λ (x : ℕ). x - table.turn) past, inr (refl, alone (number_at_sum next) (number_at_sum sum) (sum_lowers m sum m2 (next, progress.Goes) s refl)))))
    where
      number_at_sum : Sum → ℕ
      number_at_sum x = shards_left x.setting.mask x.stands

      alone : (x y : ℕ) → IsBelow (x ∷ []) (y ∷ []) → IsBelow (one_of_eight (x ∷ [])) (one_of_eight (y ∷ []))
      alone x y (inl l) = inl l
      alone x y (inr h) = absurd h.1
  sum_falls table sum (next, progress.Waits) past s is = leads (at.Sums table sum) _ is (λ goes. absurd goes)
  sum_falls table sum (next, progress.Done count) past s is = compared_falls table sum (needed p.additional count) past is
  sum_falls table sum (next, progress.Refused fault) past s is = leads (at.Sums table sum) _ is (λ goes. absurd goes)

  -- of a making
  module _ (link : At) (turn : ℕ) (making : NewTable) where
    abbrev Made : NewTable × Advance Table → Type 0
    Made to = MadeOn same hash setting m c blocks m2 c2 blocks2 on link turn making making.stands to

    lowers : (to : NewTable × Advance Table) → Steps Took value_at m (new_table_plan making) m2 to → to.1 ≡ progress.Goes → IsBelow (number_of_new_table to.0) (number_of_new_table making)
    lowers to s goes = new_table_lowers m making m2 to s goes

    made_falls : (to : NewTable × Advance Table) → Steps Took value_at m (new_table_plan making) m2 to → Made to → end ≡ made p to → Falls (at.Makes making) end
    made_falls (next, progress.Goes) s on_it is = leads (at.Makes making) _ is (λ goes.
        kept on_it.0 (at.Makes making) (at.Makes next) on_it.1
        (inr (ap suc on_it.0, inr (refl, below_followed (number_of_new_table next) (number_of_new_table making) _ _ (lowers (next, progress.Goes) s refl)))))
    made_falls (next, progress.Waits) s on_it is = leads (at.Makes making) _ is (λ goes. absurd goes)
    made_falls (next, progress.Done table) s (inl linked) is = leads (at.Makes making) _ is (λ goes.
        lowers_linked incremental c blocks c2 blocks2 (at.Makes making) (counting p table).stands linked.0 linked.1 (omega arith))
    made_falls (next, progress.Done table) s (inr found) is = leads (at.Makes making) _ is (λ goes.
        kept found.0 (at.Makes making) (counting p table).stands (omega arith) (inl (let past = found.0 in omega (arith, past))))
    made_falls (next, progress.Refused fault) s on_it is = leads (at.Makes making) _ is (λ goes. absurd goes)

    grown_falls : (table : Table) (t : ℕ) → table.turn ≡ t → t < c.past → turn ≡ suc t → IsBehind link → (to : NewTable × Advance Table)
        → Steps Took value_at m (new_table_plan making) m2 to → Made to → end ≡ grown p table to → Falls (at.Grows table making) end
    grown_falls table t turn_is made_t next_turn behind (next, progress.Goes) s on_it is = leads (at.Grows table making) _ is (λ goes.
        kept on_it.0 (at.Grows table making) (at.Grows table next) on_it.1
        (inr (ap (λ (x : ℕ). x - table.turn) on_it.0, inr (refl, below_followed (number_of_new_table next) (number_of_new_table making) _ _ (lowers (next, progress.Goes) s refl)))))
    grown_falls table t turn_is made_t next_turn behind (next, progress.Waits) s on_it is = leads (at.Grows table making) _ is (λ goes. absurd goes)
    grown_falls table t turn_is made_t next_turn behind (next, progress.Done new) s (inl linked) is = copies_linked (at.Grows table making) table new is linked.0 linked.1
    grown_falls table t turn_is made_t next_turn behind (next, progress.Done new) s (inr found) is = copies_kept (at.Grows table making) table new
        (let past = found.0 in let low = found.1 in let new_is = (found.2 behind).0 in omega (arith, past, low, new_is, next_turn, turn_is, made_t)) is found.0 (λ x l xs. inl l)
    grown_falls table t turn_is made_t next_turn behind (next, progress.Refused fault) s on_it is = leads (at.Grows table making) _ is (λ goes. absurd goes)

  -- each such step
  pub reads_fall : Steps Took value_at m (plan_at hash p at.Reads) m2 end → Falls at.Reads end
  reads_fall s = let d = loaded m (root_read p) (Root p.setting.root) m2 end s in root_falls d.0 (still d.2) m d.3

  pub makes_fall : (making : NewTable) → NewTableStands setting m c blocks (Root setting.root) 0 making → Steps Took value_at m (plan_at hash p (at.Makes making)) m2 end → Falls (at.Makes making) end
  makes_fall making f s =
      let b = steps_back (made p) m m2 (new_table_plan making) end s in
      made_falls (Root setting.root) 0 making b.0 b.1 (made_on same hash setting m c blocks m2 c2 blocks2 on (Root setting.root) 0 making f b.0 b.1) b.2

  pub sums_fall : (table : Table) (sum : Sum) → Steps Took value_at m (plan_at hash p (at.Sums table sum)) m2 end → Falls (at.Sums table sum) end
  sums_fall table sum s = let b = steps_back (summed p table) m m2 (sum_plan sum) end s in sum_falls table sum b.0 (still (sum_still m m2 sum b.0 b.1)) b.1 b.2

  pub grows_fall : (table : Table) (t : ℕ) → IsTable c blocks table t → (making : NewTable) → NewTableStands setting m c blocks (Word (blocks.table t) NEXT) (suc t) making
      → Steps Took value_at m (plan_at hash p (at.Grows table making)) m2 end → Falls (at.Grows table making) end
  grows_fall table t entered making f s =
      let b = steps_back (grown p table) m m2 (new_table_plan making) end s in
      grown_falls (Word (blocks.table t) NEXT) (suc t) making table t (ap (λ (x : Table). x.turn) entered.is) entered.made refl tt b.0 b.1
      (made_on same hash setting m c blocks m2 c2 blocks2 on (Word (blocks.table t) NEXT) (suc t) making f b.0 b.1) b.2
