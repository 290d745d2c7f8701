-- Each step of a sweep that comes on, and is none of a row, leads to lower numbers.
use Rattle.std.specs.Prelude.{◌==◌, nat_lt, bit_and, if◌then◌else◌, List, [], ◌∷◌, ◌++◌}
use Rattle.std.proofs.Common.{◌≡◌, ◌≢◌, ℕ, suc, ◌+◌, ◌-◌, ◌%◌, ◌^◌, ◌/◌, ◌<◌, ◌≤◌, Bool, true, false, cond, Some, ◌⊎◌, inl, inr, refl, ap, sym, subst, ◌∙◌, arith}
use Rattle.std.proofs.lemmas.Bool.{le-ltb, ne_eqb}
use Rattle.seize_words.specs.declared.at.At.TheVariants.{Root}
use Rattle.seize_words.specs.OneMemory.Mem.{Mem, Took, value_at, word_at}
use Rattle.seize_words.specs.OneMemory.Plan.{Now, Seeing, Steps}
use Rattle.seize_words.proofs.OneMemory.OneOwner.Operations.{loaded, exchanged, added}
use Rattle.seize_words.proofs.OneMemory.Plans.{ends_if}
use Rattle.seize_acts.proofs.Given.SeizeRuleRows.Leaving.{steps_back}
use Rattle.seize.specs.World.{World}
use Rattle.seize.specs.declared.rows.settle.Settled.{Settled}
use Rattle.seize.specs.declared.rows.settle.Settled.TheVariants as settled
use Rattle.map_tables.specs.Chunks.{is_incremental}
use Rattle.map_tables.specs.Counts.{count_change, shard_of}
use Rattle.map_tables.specs.Marks.{has_mark}
use Rattle.map_tables.specs.Nodes.{table_seen}
use Rattle.map_tables.specs.TablePlaces.{at_word, at_place}
use Rattle.map_tables.specs.declared.marks.TheConstants.{COPYING, TOMBSTONE}
use Rattle.map_tables.specs.declared.node.Node.{Node}
use Rattle.map_tables.specs.declared.setting.Setting.{Setting}
use Rattle.map_tables.specs.declared.table.Table.{Table}
use Rattle.map_tables.specs.declared.table_words.TheConstants.{NEXT}
use Rattle.map_machines.specs.Copier.{copier_plan}
use Rattle.map_machines.specs.CopierStates.{copying_all}
use Rattle.map_machines.specs.Dispose.{disposing, dispose_plan}
use Rattle.map_machines.specs.Sum.{summing}
use Rattle.map_machines.specs.declared.copier.Copier.{Copier}
use Rattle.map_machines.specs.declared.dispose.Dispose.{Dispose}
use Rattle.map_machines.specs.declared.yielding.Yielding.{Yielding}
use Rattle.map_machines.specs.declared.yielding.Yielding.TheVariants as outcome
use Rattle.map_sweeps.specs.Sweeps.Sweep.{word_found, tried, root_read, next_read, copied, disposed, plan_at, sweep_plan}
use Rattle.map_sweeps.specs.Sweeps.SweepPoints.{removes, tableless, beginning, entering, told, telling, going, seen}
use Rattle.map_sweeps.specs.declared.sweep.Sweep.{Sweep}
use Rattle.map_sweeps.specs.declared.sweep.Sweeping.{Sweeping}
use Rattle.map_sweeps.specs.declared.sweep.Sweeping.TheVariants as at
use Rattle.map_sweeps.specs.declared.sweep.Swept.{Swept}
use Rattle.many_calls.specs.Given.RuleChart.{Chart}
use Rattle.many_calls.specs.Given.RuleWords.{Blocks, byte_of, place_word}
use Rattle.many_calls.specs.Given.RuleMaps.{IsTable}
use Rattle.many_calls.specs.Given.RuleInWorld.{IsMapIn}
use Rattle.many_calls.proofs.Given.RuleWords.LinksRead.{link_ends}
use Rattle.many_calls.proofs.Given.RuleWords.LinksSeen.{next_leads}
use Rattle.many_calls.proofs.Given.RuleWords.PlaceWordsMarks.{has_copying}
use Rattle.many_calls.proofs.Given.RuleWords.TablesSeen.{place_there}
use Rattle.many_calls.specs.Given.PointsFactsDisposes.{DisposeFacts}
use Rattle.many_calls.specs.Given.PointsMeasures.{IsBelow}
use Rattle.many_calls.specs.Given.PointsMeasuresDisposes.{number_of_dispose}
use Rattle.many_calls.proofs.Given.PointsSteps.CountsShards.{shard_some}
use Rattle.map_measures.specs.Falls.Calls.{nothing_within}
use Rattle.map_measures.specs.Falls.Room.{planned_in_copying, tables_to_come}
use Rattle.map_measures.proofs.Falls.Below.{below_followed}
use Rattle.map_measures.proofs.Falls.Onward.{Onward, past_kept, table_on}
use Rattle.map_measures.proofs.Falls.Calls.MachineFacts.{dispose_stands}
use Rattle.map_measures.proofs.Falls.Copiers.CopierOn.{past_still, past_place}
use Rattle.map_measures.proofs.Falls.Reserves.CopiesLower.{CopyFalls, copies_fall}
use Rattle.map_measures.proofs.Falls.Within.DisposalRows.{RowGoesFurther}
use Rattle.map_measures.proofs.Falls.Within.Disposals.{disposed_on, disposed_still}
use Rattle.many_calls.specs.Given.LateFactsSweeps.{GoesOver, CopiesTable, SweepingFacts, SweepFacts}
use Rattle.many_calls.specs.Given.LateToldSweeps.{IsRowOfSweep}
use Rattle.many_calls.proofs.Given.LateSwept.Sweeps.Tables.{upto, has_next}
use Rattle.map_measures.specs.Passes.FallsSweeps.{AdvancesFrom}
use Rattle.map_measures.specs.Passes.Sweeps.{stale, numbers_at, number_of_sweep}
use Rattle.map_measures.proofs.Passes.Counters.{keeps_counted}
use Rattle.map_measures.proofs.Passes.Over.{turn_is, made, within, few, has_marks, further_on}
use Rattle.map_measures.proofs.Passes.Places.{none_within, entering_is, to_come, entering_below, beginning_below, copying_below, seen_below}
use Rattle.map_measures.proofs.Passes.Within.{copier_stands}
use Rattle.seize_words.proofs.General.{some_is as is_some_of}

-- what is below one number of a stage is so at each stage before the next
pub before_stage : {A B : Type 0} (x y x2 y2 stage : ℕ) → stage < 4 → (x < x2) ⊎ ((x ≡ x2) × ((y < y2) ⊎ ((y ≡ y2) × A)))
    → (x < x2) ⊎ ((x ≡ x2) × ((y < y2) ⊎ ((y ≡ y2) × ((stage < 4) ⊎ ((stage ≡ 4) × B)))))
before_stage x y x2 y2 stage low (inl l) = inl l
before_stage x y x2 y2 stage low (inr (e, inl l)) = inr (e, inl l)
before_stage x y x2 y2 stage low (inr (e, inr (f, l))) = inr (e, inr (f, inl low))

module _ {K V : Type 0} (same : K → K → Bool) (hash : K → ℕ) (setting : Setting) (w : World (Node K V)) (caller : ℕ) (c : Chart K) (blocks : Blocks) (began : ℕ)
    (p : Sweep)
    (map : IsMapIn same hash setting w c blocks) (setting_is : p.setting ≡ setting) (m2 : Mem (Node K V)) (c2 : Chart K) (blocks2 : Blocks)
    (on : Onward same hash setting w.memory c blocks m2 c2 blocks2) where
  -- what is to be shown of a step from there
  abbrev Goal : Sweeping → Sweep × Swept (Node K V) → Type 0
  Goal stands end = AdvancesFrom stands end.1 → IsBelow (number_of_sweep hash c2 blocks2 end.0) (numbers_at hash c blocks p stands)

  still : m2 ≡ w.memory → c2.past ≡ c.past
  still is = past_still same hash setting w.memory c blocks m2 c2 blocks2 on is

  module _ (end : Sweep × Swept (Node K V)) where
    ends_as : (stands : Sweeping) (e : Sweep × Swept (Node K V)) → end ≡ e → Goal stands e → Goal stands end
    ends_as stands e is = subst (λ (x : Sweep × Swept (Node K V)). Goal stands x) (sym is)

    -- the root is read
    on_reads : Steps Took value_at w.memory (plan_at hash p at.Reads) m2 end → Goal at.Reads end
    on_reads s =
        let d = loaded w.memory (root_read p) (Root p.setting.root) m2 end s in
        let past = still d.2 in
        elim (ends_if (value_at w.memory) (d.0 == 0) (Now (telling (tableless p)))
        (Seeing (d.0 / 2048) (λ value. Now (telling (entering p (table_seen d.0 value))))) end d.3)
        as (λ _. Goal at.Reads end) [
          | inl h ↦ ends_as at.Reads (telling (tableless p)) h.1 (λ goes. none past (removes p.purpose))
          | inr h ↦ ends_as at.Reads (telling (entering p (table_seen d.0 h.1.0))) h.1.2
              (λ goes. entering_below hash c blocks c2 blocks2 past p (table_seen d.0 h.1.0) (suc c.past) (omega (arith, past)) (0 ∷ nothing_within))
        ]
      where
        none : c2.past ≡ c.past → (r : Bool)
            → IsBelow (number_of_sweep hash c2 blocks2 (record p { stands = if r then at.Over else at.Ready })) (numbers_at hash c blocks p at.Reads)
        none past true = inr (to_come hash c blocks c2 blocks2 past p, inl (omega arith))
        none past false = inr (to_come hash c blocks c2 blocks2 past p, inl (omega (arith, past)))

    -- the link behind its table is read
    on_follows : (t : ℕ) → IsTable c blocks p.table t → Steps Took value_at w.memory (plan_at hash p at.Follows) m2 end → Goal at.Follows end
    on_follows t entered s =
        let d = loaded w.memory (next_read p) (at_word p.table NEXT) m2 end s in
        let past = still d.2 in
        link_ends hash w.memory c blocks setting.root on.map.shows d.0 (suc t)
        (next_leads same hash setting.mode setting.root w.memory c blocks on.map p.table t d.0 entered d.1)
        (telling (beginning p)) (λ next. going p (at.Copies (copying_all p.setting p.table next))) (Goal at.Follows)
        (λ last goes. beginning_below hash c blocks c2 blocks2 past p (cond (nat_lt (suc p.table.turn) c.past) 1 3) (alone last) nothing_within)
        (λ next behind goes. copying_below hash c blocks c2 blocks2 past p next
        (let turn = ap (λ (x : Table). x.turn) entered.is in let turn2 = ap (λ (x : Table). x.turn) behind.is in let made = behind.made in
        omega (arith, past, turn, turn2, made))
        (cond (nat_lt (suc p.table.turn) c.past) 1 3 ∷ nothing_within) (is_incremental p.setting.mode)) end d.3
      where
        alone : c.past ≤ suc t → 2 < cond (nat_lt (suc p.table.turn) c.past) 1 3
        alone last =
            let turn = ap (λ (x : Table). x.turn) entered.is in
            let three = ap {B = ℕ} (λ (b : Bool). cond b 1 3) (le-ltb (suc p.table.turn) c.past (omega (arith, turn, last))) in omega (arith, three)

    -- its table is copied
    on_copies : (copier : Copier) → CopiesTable same hash w caller setting c blocks began copier → (IsRowOfSweep (at.Copies copier) → ⊥)
        → Steps Took value_at w.memory (plan_at hash p (at.Copies copier)) m2 end → Goal (at.Copies copier) end
    on_copies copier facts none s =
        let b = steps_back (copied p) w.memory m2 (copier_plan hash copier) end s in
        ends_as (at.Copies copier) (copied p b.0) b.2
        (by b.0 (copies_fall same hash setting w.memory c blocks m2 c2 blocks2 on copier none (is_incremental p.setting.mode)
        (copier_stands same hash w caller setting c blocks began p.setting setting_is copier facts) b.0 b.1))
      where
        by : (to : Copier × Yielding (Node K V) Table)
            → CopyFalls same hash setting w.memory c blocks m2 c2 blocks2 on copier none (is_incremental p.setting.mode) to
            → Goal (at.Copies copier) (copied p to)
        by (next, outcome.Goes) falls goes = falls
        by (next, outcome.Waits) falls goes = absurd goes
        by (next, outcome.Gave value) falls goes = falls
        by (next, outcome.Done root) falls goes =
            let h = entering_is hash c2 blocks2 p root in
            subst (λ (ys : List ℕ). IsBelow ys (numbers_at hash c blocks p (at.Copies copier))) (sym h.3)
            (before_stage (tables_to_come c2.past 0) (c2.past - root.turn) (tables_to_come c.past (planned_in_copying copier.stands))
            (c.past - copier.target.turn) h.0 h.2
            (falls (summing p.setting)))
        by (next, outcome.Refused fault) falls goes = absurd goes

    -- at a place of its table
    module _ (t : ℕ) (over : GoesOver same hash w caller setting c blocks began p t) (inside : p.place < c.len t) where
      abbrev turn : p.table.turn ≡ t
      turn = turn_is same hash setting w caller c blocks began map p t over inside

      abbrev is_made : p.table.turn < c.past
      is_made = made same hash setting w caller c blocks began map p t over inside

      abbrev is_within : p.place < p.table.len
      is_within = within same hash setting w caller c blocks began map p t over inside

      abbrev are_few : p.table.len ≤ 2 ^ 48
      are_few = few same hash setting w caller c blocks began map p t over inside

      -- the word there, before the step and after it
      before : word_at w.memory (at_place p.table p.place) ≡ Some (place_word hash c blocks (c.place p.table.turn p.place))
      before =
          place_there hash w.memory c blocks setting.root map.map.shows p.table t over.table p.place inside
          ∙ ap (λ (x : ℕ). Some (place_word hash c blocks (c.place x p.place))) (sym turn)

      after : word_at m2 (at_place p.table p.place) ≡ Some (place_word hash c2 blocks2 (c2.place p.table.turn p.place))
      after =
          place_there hash m2 c2 blocks2 setting.root on.map2.shows p.table t
          (table_on same hash setting w.memory c blocks m2 c2 blocks2 on p.table t over.table) p.place
          (let same_len = (on.lasts.lens t over.table.made).0 in omega (arith, same_len, inside))
          ∙ ap (λ (x : ℕ). Some (place_word hash c2 blocks2 (c2.place x p.place))) (sym turn)

      -- what it has read there leads it on
      reads_below : m2 ≡ w.memory → (word : ℕ) → word_at w.memory (at_place p.table p.place) ≡ Some word → (point : ℕ) → 3 < point → (xs : List ℕ)
          → IsBelow (number_of_sweep hash c2 blocks2 (seen {T = Node K V} p word).0) (tables_to_come c.past 0 ∷ (c.past - p.table.turn) ∷ 2 ∷ (p.table.len - p.place) ∷ point ∷ xs)
      reads_below is word read point more xs =
          seen_below hash c blocks c2 blocks2 (still is) p is_made is_within are_few (Node K V)
          (has_marks same hash setting w caller c blocks began map p t over inside) word here marked point more xs
        where
          here : word ≡ place_word hash c2 blocks2 (c2.place p.table.turn p.place)
          here = let there = after in let same_word = ap (λ (x : Mem (Node K V)). word_at x (at_place p.table p.place)) is in cc (there, same_word, read)

          marked : has_mark word COPYING ≡ true → suc p.table.turn < c.past
          marked e =
              let is_word : word ≡ place_word hash c blocks (c.place p.table.turn p.place) = (let there = before in cc (there, read)) in
              let mark = ap (λ (x : ℕ). has_mark x COPYING) is_word ∙ has_copying blocks.pair (λ o. byte_of hash (c.key o)) (c.place p.table.turn p.place) in
              let l = has_next same hash c began p.table.turn (is_incremental setting.mode) map.map.rule is_made
              (let least = upto same hash caller setting w c blocks began map t over.root in let at_turn = turn in omega (arith, least, at_turn)) p.place
              (subst (λ (x : ℕ). p.place < c.len x) (sym turn) inside) (sym mark ∙ e) in l

      on_words : Steps Took value_at w.memory (plan_at hash p at.Words) m2 end → Goal at.Words end
      on_words s =
          let d = loaded w.memory (word_found p) (at_place p.table p.place) m2 end s in
          ends_as at.Words (seen p d.0) d.3 (λ goes. reads_below d.2 d.0 d.1 4 (omega arith) none_within)

      on_tries : (word : ℕ) → Steps Took value_at w.memory (plan_at hash p (at.Tries word)) m2 end → Goal (at.Tries word) end
      on_tries word s =
          elim (exchanged w.memory (tried p word) (at_place p.table p.place) word TOMBSTONE m2 end s) as (λ _. Goal (at.Tries word) end) [
            | inl d ↦ (let past = past_place same hash setting w.memory c blocks m2 c2 blocks2 on p.table p.place TOMBSTONE d.2 (is_some_of _ _ before)
                (let most = are_few in let l = is_within in omega (arith, l, most)) in
                ends_as (at.Tries word) (going p (at.Counts word)) d.3
                (λ goes. inr (to_come hash c blocks c2 blocks2 past p, inr (ap (λ (x : ℕ). x - p.table.turn) past, inr (refl, inr (refl, inl (omega arith)))))))
            | inr d ↦ ends_as (at.Tries word) (seen p d.0) d.3 (λ goes. reads_below d.2 d.0 d.1.0 (suc (suc (stale hash c blocks p word))) (lost d.0 d.1.0 d.1.1) none_within)
          ]
        where
          lost : (found : ℕ) → word_at w.memory (at_place p.table p.place) ≡ Some found → found ≢ word → 3 < suc (suc (stale hash c blocks p word))
          lost found read other =
              let is : found ≡ place_word hash c blocks (c.place p.table.turn p.place) = (let there = before in cc (there, read)) in
              let three = ap {B = ℕ} (λ (b : Bool). cond b 0 3)
              (ne_eqb word (place_word hash c blocks (c.place p.table.turn p.place)) (λ e. other (is ∙ sym e))) in omega (arith, three)

      on_counts : (removed : ℕ) → Steps Took value_at w.memory (plan_at hash p (at.Counts removed)) m2 end → Goal (at.Counts removed) end
      on_counts removed s =
          let d = added w.memory (λ out. Now (going {T = Node K V} p (at.Disposes (disposing p.setting removed p.table)))) (shard_of p.setting)
          (count_change removed) m2 end s in
          let past = past_kept same hash setting w.memory c blocks m2 c2 blocks2 on
          (keeps_counted setting.root c blocks w.memory on.map.shows p.setting.counter
          (ap (λ (x : Setting). value_at w.memory x.counter) setting_is ∙ map.counter)
          (bit_and p.setting.slot p.setting.mask) ((d.0 + count_change removed) % 2 ^ 64) m2 d.2
          (shard_some same hash caller setting p.setting setting_is w c blocks map)) in
          ends_as (at.Counts removed) (going p (at.Disposes (disposing p.setting removed p.table))) d.3
          (λ goes. inr (to_come hash c blocks c2 blocks2 past p, inr (ap (λ (x : ℕ). x - p.table.turn) past, inr (refl, inr (refl, inl (omega arith))))))

      on_disposes : (dispose : Dispose) → DisposeFacts w caller setting c blocks dispose → (IsRowOfSweep (at.Disposes dispose) → ⊥)
          → Steps Took value_at w.memory (plan_at hash p (at.Disposes dispose)) m2 end → Goal (at.Disposes dispose) end
      on_disposes dispose facts none s =
          let b = steps_back (disposed p) w.memory m2 (dispose_plan dispose) end s in
          let f = dispose_stands w caller setting c blocks dispose facts in
          ends_as (at.Disposes dispose) (disposed p b.0) b.2
          (by (still (disposed_still w.memory m2 dispose none b.0 b.1)) b.0
          (disposed_on same hash setting w.memory c blocks m2 c2 blocks2 on dispose f.0 f.1 f.2 none b.0 b.1))
        where
          further : c2.past ≡ c.past → (next : Dispose) → IsBelow (number_of_dispose c2 blocks2 next) (number_of_dispose c blocks dispose)
              → IsBelow (number_of_sweep hash c2 blocks2 (going {T = Node K V} p (at.Disposes next)).0) (numbers_at hash c blocks p (at.Disposes dispose))
          further past next below =
              inr (
                to_come hash c blocks c2 blocks2 past p,
                inr (
                  ap (λ (x : ℕ). x - p.table.turn) past,
                  inr (refl, inr (refl, inr (refl, below_followed (number_of_dispose c2 blocks2 next) (number_of_dispose c blocks dispose) _ _ below))),
                ),
              )

          by : c2.past ≡ c.past → (to : Dispose × Settled (Node K V))
              → (RowGoesFurther to.1 → IsBelow (number_of_dispose c2 blocks2 to.0) (number_of_dispose c blocks dispose))
              → Goal (at.Disposes dispose) (disposed p to)
          by past (next, settled.Goes) below goes = further past next (below tt)
          by past (next, settled.Waits) below goes = absurd goes
          by past (next, settled.Gave value) below goes = further past next (below tt)
          by past (next, settled.Done) below goes =
              further_on same hash setting w caller c blocks began map p t over inside c2 blocks2 past
              (0 ∷ (number_of_dispose c blocks dispose ++ (0 ∷ 0 ∷ 0 ∷ 0 ∷ 0 ∷ [])))

    on_at : (stands : Sweeping) → SweepingFacts same hash w caller setting c blocks began p stands → (IsRowOfSweep stands → ⊥)
        → Steps Took value_at w.memory (plan_at hash p stands) m2 end
        → Goal stands end
    on_at at.Reads f none s = on_reads s
    on_at at.Follows (t, entered, root) none s = on_follows t entered s
    on_at (at.Copies copier) f none s = on_copies copier f none s
    on_at at.Words (t, (over, inside)) none s = on_words t over inside s
    on_at (at.Tries word) (taking, names, t, (over, inside)) none s = on_tries t over inside word s
    on_at (at.Counts removed) (taking, t, (over, inside), taken) none s = on_counts t over inside removed s
    on_at (at.Disposes dispose) (taking, t, (over, inside), facts) none s = on_disposes t over inside dispose facts none s
    on_at at.Ready f none s = ends_as at.Ready (p, told at.Ready) s.1 (λ goes. absurd (goes refl))
    on_at (at.Asks word) f none s = ends_as (at.Asks word) (p, told (at.Asks word)) s.1 (λ goes. absurd (goes refl))
    on_at at.Over f none s = ends_as at.Over (p, told at.Over) s.1 (λ goes. absurd goes)
    on_at (at.Refused fault) f none s = ends_as (at.Refused fault) (p, told (at.Refused fault)) s.1 (λ goes. absurd goes)

  pub swept_on : SweepFacts same hash w caller setting c blocks began p → (IsRowOfSweep p.stands → ⊥) → (end : Sweep × Swept (Node K V))
      → Steps Took value_at w.memory (sweep_plan hash p) m2 end
      → AdvancesFrom p.stands end.1 → IsBelow (number_of_sweep hash c2 blocks2 end.0) (number_of_sweep hash c blocks p)
  swept_on f none end s = on_at end p.stands f.point none s
