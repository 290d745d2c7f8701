-- Each step of the making of a table: it goes on and links none, or it ends with a table that it has linked, or with one that another caller has.
use Rattle.std.specs.Prelude.{◌/◌, ◌%◌, ◌&&◌, max}
use Rattle.std.proofs.Common.{◌≡◌, ℕ, zero, suc, ◌+◌, ◌-◌, ◌*◌, ◌^◌, ◌<◌, ◌≤◌, Bool, true, cond, eqb, Some, ◌⊎◌, inl, inr, refl, ap, sym, subst, ◌∙◌, arith}
use Rattle.std.proofs.lemmas.Bool.{eq-eqb}
use Rattle.seize_words.specs.declared.at.At.{At}
use Rattle.seize_words.specs.declared.at.At.TheVariants.{Root, Used, Slot, Entry, Word}
use Rattle.seize_words.specs.OneMemory.Mem.{Mem, Took, value_at, word_at, with_word}
use Rattle.seize_words.specs.OneMemory.Plan.{Now, Steps}
use Rattle.seize_words.proofs.OneMemory.OneOwner.AfterWrites.{word_at-with_word}
use Rattle.seize_words.proofs.OneMemory.OneOwner.Operations.{loaded, stored, exchanged, made as make_made, taken}
use Rattle.seize_acts.proofs.Given.SeizeRuleRows.Leaving.{steps_back}
use Rattle.seize.specs.declared.advance.Advance.{Advance}
use Rattle.seize.specs.declared.advance.Advance.TheVariants as progress
use Rattle.map_tables.specs.Lengths.{next_len}
use Rattle.map_tables.specs.Nodes.{table_seen}
use Rattle.map_tables.specs.declared.lengths.Reason.{Reason}
use Rattle.map_tables.specs.declared.node.Node.{Node}
use Rattle.map_tables.specs.declared.node.Node.TheVariants as node
use Rattle.map_tables.specs.declared.setting.Setting.{Setting}
use Rattle.map_tables.specs.declared.status.TheConstants.Status.{PROMOTED}
use Rattle.map_tables.specs.declared.table.Table.{Table}
use Rattle.map_tables.specs.declared.table_words.TheConstants.{NEXT, STATUS, PLACES}
use Rattle.map_machines.specs.NewTable.{goes, counted, after_making, with_block, made, linked, other, plan_at, new_table_plan}
use Rattle.map_machines.specs.Sum.{added, plan_at as sum_at, sum_plan}
use Rattle.map_machines.specs.declared.sum.Sum.{Sum}
use Rattle.map_machines.specs.declared.sum.Summing.{Summing}
use Rattle.map_machines.specs.declared.sum.Summing.TheVariants as sums
use Rattle.map_machines.specs.declared.new_table.NewTable.{NewTable}
use Rattle.map_machines.specs.declared.new_table.Making.{Making}
use Rattle.map_machines.specs.declared.new_table.Making.TheVariants as at
use Rattle.many_calls.specs.Given.RuleChart.{Chart}
use Rattle.many_calls.specs.Given.RuleLinks.{LeadsTo}
use Rattle.many_calls.specs.Given.RuleWords.{Blocks}
use Rattle.many_calls.proofs.Given.RuleWords.LinksRead.{link_table}
use Rattle.many_calls.proofs.Given.RuleWords.LinksSeen.{root_leads}
use Rattle.many_calls.proofs.Given.RuleWords.TablesSeen.{turn_is}
use Rattle.many_calls.proofs.Given.RuleWords.WritesWords.{at_word_block}
use Rattle.map_measures.specs.Falls.Room.{last_turn, planned}
use Rattle.map_measures.specs.Falls.Copies.{tables_from_before}
use Rattle.map_measures.proofs.Falls.Onward.{Onward, grows, known_on, past_kept, links_kept, value_before, value_after, behind_none, some_behind}
use Rattle.map_measures.proofs.Falls.Kept.{keeps_still, keeps_wrote, keeps_made, keeps_taken}
use Rattle.map_measures.proofs.Falls.Stands.{IsBehind, IsPlaceOf, MakingStands, NewTableStands}
use Rattle.map_measures.proofs.Falls.Making.MakingBounds.{making_within}
use Rattle.seize_words.proofs.General.{some_is as is_some_of}

-- a counting writes nothing
pub sum_still : {T : Type 0} (m m2 : Mem T) (sum : Sum) (end : Sum × Advance ℕ) → Steps Took value_at m (sum_plan sum) m2 end → m2 ≡ m
sum_still {T} m m2 sum end = by sum.stands
  where
    by : (stands : Summing) → Steps Took value_at m (sum_at sum stands) m2 end → m2 ≡ m
    by (sums.Adds shard total) s = (loaded m (added sum shard total) (Word sum.setting.counter shard) m2 end s).2
    by (sums.Over count) s = s.0

module _ {K V : Type 0} (same : K → K → Bool) (hash : K → ℕ) (setting : Setting) (m : Mem (Node K V)) (c : Chart K) (blocks : Blocks) (m2 : Mem (Node K V)) (c2 : Chart K) (blocks2 : Blocks)
    (on : Onward same hash setting m c blocks m2 c2 blocks2) (link : At) (turn : ℕ) (n : NewTable) where
  -- it goes on: no table was linked, and none is planned behind the last turn but one that was
  abbrev pub GoesOn : Making → NewTable → Type 0
  GoesOn stands n2 =
      (c2.past ≡ c.past) × (planned n2.stands ≤ max last_turn (planned stands)) × (tables_from_before c.past n2.stands ≤ tables_from_before c.past stands)

  -- it ends with a table, which it has linked, or which was there
  abbrev pub EndsOn : Making → Table → Type 0
  EndsOn stands table =
      ((c.past ≤ planned stands) × (c.past < c2.past))
      ⊎ ((c2.past ≡ c.past) × (table.turn < c.past) × (IsBehind link → (table.turn ≡ turn) × (tables_from_before c.past stands ≡ suc c.past - turn)))

  abbrev pub MadeOn : Making → NewTable × Advance Table → Type 0
  MadeOn stands (n2, progress.Goes) = GoesOn stands n2
  MadeOn stands (n2, progress.Done table) = EndsOn stands table
  MadeOn stands (n2, progress.Refused fault) = c2.past ≡ c.past
  MadeOn stands (n2, progress.Waits) = Unit {0}

  still : m2 ≡ m → c2.past ≡ c.past
  still is = past_kept same hash setting m c blocks m2 c2 blocks2 on (keeps_still setting.root c blocks m m2 is)

  by_end : (stands : Making) (end e : NewTable × Advance Table) → end ≡ e → MadeOn stands e → MadeOn stands end
  by_end stands end e is = subst (λ x. MadeOn stands x) (sym is)

  on_counted : (before : Table) (reason : Reason) (sum : Sum) → c2.past ≡ c.past → (inner : Sum × Advance ℕ) → MadeOn (at.Sums before reason sum) (counted n before reason inner)
  on_counted before reason sum same_past (sum2, progress.Goes) = (same_past, omega arith, omega arith)
  on_counted before reason sum same_past (sum2, progress.Waits) = tt
  on_counted before reason sum same_past (sum2, progress.Done count) =
      let h = making_within c.past reason before (next_len reason before.len count n.setting.initial) in (same_past, let l = h.0 in omega (arith, l), h.1)
  on_counted before reason sum same_past (sum2, progress.Refused fault) = same_past

  on_made : (table : Table) (place : At) → c2.past ≡ c.past → (b : ℕ) → GoesOn (at.Makes table) (record n { stands = after_making place (with_block table b) })
  on_made table (Root root) same_past b = (same_past, omega arith, omega arith)
  on_made table (Used root) same_past b = (same_past, omega arith, omega arith)
  on_made table (Slot slot field) same_past b = (same_past, omega arith, omega arith)
  on_made table (Entry block field) same_past b = (same_past, omega arith, omega arith)
  on_made table (Word block field) same_past b = (same_past, omega arith, omega arith)

  -- the table is linked where there was none
  module _ (new : ℕ) (some : 0 < new) where
    on_root : word_at m (Root setting.root) ≡ Some 0 → m2 ≡ with_word m (Root setting.root) new → (c.past ≡ 0) × (0 < c2.past)
    on_root read wrote = (first (root_leads same hash setting.mode setting.root m c blocks on.map 0 read), second (root_leads same hash setting.mode setting.root m2 c2 blocks2 on.map2 new there))
      where
        there : word_at m2 (Root setting.root) ≡ Some new
        there =
            ap (λ x. word_at x (Root setting.root)) wrote ∙ word_at-with_word m (Root setting.root) new (Root setting.root) (is_some_of _ 0 read)
            ∙ ap (λ q. cond q (Some new) (word_at m (Root setting.root))) (eq-eqb setting.root setting.root refl)

        first : LeadsTo c blocks 0 c.first → c.past ≡ 0
        first (inl h) = by c.past refl
          where
            by : (past : ℕ) → c.past ≡ past → c.past ≡ 0
            by zero e = e
            by (suc past) e = absurd (let made = on.map.rule.common.rooted (omega (arith, e)) in let least = h.1 in omega (arith, made, least))
        first (inr h) = absurd (let number = (on.map.shows.table_numbers c.first h.1 h.2).0 in let is = h.0 in omega (arith, is, number))

        second : LeadsTo c2 blocks2 new c2.first → 0 < c2.past
        second (inl h) = absurd (let is = h.0 in omega (arith, is, some))
        second (inr h) = let made = h.1 in omega (arith, made)

    on_next : (t : ℕ) → t < c.past → blocks.table_known t ≡ true → word_at m (Word (blocks.table t) NEXT) ≡ Some 0 → m2 ≡ with_word m (Word (blocks.table t) NEXT) new
        → (c.past ≤ suc t) × (suc t < c2.past)
    on_next t made known read wrote = (
      behind_none hash c blocks setting.root m on.map.shows on.map.later t made known read,
      some_behind same hash setting m c blocks m2 c2 blocks2 on t new (let up = grows same hash setting m c blocks m2 c2 blocks2 on in omega (arith, made, up)) kept.1
          (ap (λ b. word_at m2 (Word b NEXT)) kept.0 ∙ there) (λ e. omega (arith, e, some)),
    )
      where
        kept : (blocks2.table t ≡ blocks.table t) × (blocks2.table_known t ≡ true)
        kept = known_on same hash setting m c blocks m2 c2 blocks2 on t made known

        there : word_at m2 (Word (blocks.table t) NEXT) ≡ Some new
        there =
            ap (λ x. word_at x (Word (blocks.table t) NEXT)) wrote ∙ word_at-with_word m (Word (blocks.table t) NEXT) new (Word (blocks.table t) NEXT) (is_some_of _ 0 read)
            ∙ ap (λ q. cond (q && eqb NEXT NEXT) (Some new) (word_at m (Word (blocks.table t) NEXT))) (eq-eqb (blocks.table t) (blocks.table t) refl)

  on_linked : (table : Table) → 0 < table.link → table.turn ≡ turn → (place : At) → place ≡ link → IsPlaceOf setting m c blocks link turn → word_at m place ≡ Some 0 → m2 ≡ with_word m place table.link
      → (c.past ≤ table.turn) × (c.past < c2.past)
  on_linked table some turn_is place is (inl h) read wrote =
      let at_root : place ≡ Root setting.root = is ∙ h.0 in
      let l = on_root table.link some (ap (word_at m) (sym at_root) ∙ read) (wrote ∙ ap (λ a. with_word m a table.link) at_root) in
      let none = l.0 in let more = l.1 in (omega (arith, none), omega (arith, none, more))
  on_linked table some turn_is place is (inr h) read wrote =
      let at_next : place ≡ Word (blocks.table h.0) NEXT = is ∙ h.1 in
      let l = on_next table.link some h.0 h.3 h.4 (ap (word_at m) (sym at_next) ∙ read) (wrote ∙ ap (λ a. with_word m a table.link) at_next) in
      let last = l.0 in let more = l.1 in let behind = h.2 in (omega (arith, last, behind, turn_is), omega (arith, last, more))

  -- the table that another caller linked
  on_found : (found u : ℕ) → u < c.past → blocks.table_known u ≡ true → found ≡ blocks.table u * 2048 → (value : Node K V) → value_at m2 (found / 2048) ≡ Some value → (table_seen found value).turn ≡ u
  on_found found u made known is value read =
      let kept = known_on same hash setting m c blocks m2 c2 blocks2 on u made known in
      let up = grows same hash setting m c blocks m2 c2 blocks2 on in
      turn_is hash m2 c2 blocks2 setting.root on.map2.shows (table_seen found value) u
      (link_table hash m2 c2 blocks2 setting.root on.map2.shows found u (is ∙ ap (λ b. b * 2048) (sym kept.0), omega (arith, made, up), kept.1) value read)

  on_at : n.link ≡ link → IsPlaceOf setting m c blocks link turn → (stands : Making) → MakingStands setting m c blocks link turn stands → (end : NewTable × Advance Table)
      → Steps Took value_at m (plan_at n stands) m2 end → MadeOn stands end
  on_at link_is place (at.Sums before reason sum) facts end s =
      let b = steps_back (counted n before reason) m m2 (sum_plan sum) end s in
      by_end (at.Sums before reason sum) end (counted n before reason b.0) b.2 (on_counted before reason sum (still (sum_still m m2 sum b.0 b.1)) b.0)
  on_at link_is place (at.Makes table) facts end s =
      elim (make_made m (made n table) (node.Table table.len table.limit table.turn) ((table.len + PLACES) % 2 ^ 64) m2 end s) as (λ _. MadeOn (at.Makes table) end) [
        | inl d ↦ by_end (at.Makes table) end (goes n (after_making n.link (with_block table d.0))) d.3
            (on_made table n.link
            (past_kept same hash setting m c blocks m2 c2 blocks2 on
            (links_kept setting.root c blocks m m2
            (keeps_made setting.root c blocks m (node.Table table.len table.limit table.turn) ((table.len + PLACES) % 2 ^ 64) d.0 d.1.0 m2 d.2
            (value_before same hash setting m c blocks m2 c2 blocks2 on)))) d.0)
        | inr d ↦ by_end (at.Makes table) end _ d.3 (still d.2)
      ]
  on_at link_is place (at.Promotes table) facts end s =
      let d = stored m (λ out. Now (goes n (at.Links table))) (Word (table.link / 2048) STATUS) PROMOTED m2 end s in
      let there = at_word_block table facts.0 STATUS facts.1 in
      by_end (at.Promotes table) end (goes n (at.Links table)) d.1 (
        past_kept same hash setting m c blocks m2 c2 blocks2 on
            (keeps_wrote setting.root c blocks m (table.link / 2048) STATUS PROMOTED m2 d.0 (is_some_of _ facts.2 (ap (word_at m) there ∙ facts.3)) (λ e. absurd (omega (arith, e)))),
        omega arith,
        omega arith,
      )
  on_at link_is place (at.Links table) facts end s =
      elim (exchanged m (linked n table) n.link 0 table.link m2 end s) as (λ _. MadeOn (at.Links table) end) [
        | inl d ↦ by_end (at.Links table) end _ d.3 (inl (on_linked table facts.0 facts.1 n.link link_is place (d.1.0 ∙ ap (λ x. Some x) d.1.1) d.2))
        | inr d ↦ by_end (at.Links table) end _ d.3 (still d.2, omega arith, omega arith)
      ]
  on_at link_is place (at.Drops table found) facts end s =
      let d = taken m (λ out. other n found) (table.link / 2048) m2 end s in
      let same_past = past_kept same hash setting m c blocks m2 c2 blocks2 on
      (links_kept setting.root c blocks m m2 (keeps_taken setting.root c blocks m (table.link / 2048) d.0 d.1 m2 d.2 (value_after same hash setting m c blocks m2 c2 blocks2 on))) in
      let read : value_at m2 (found / 2048) ≡ Some d.3.0 = ap (λ x. value_at x (found / 2048)) d.2 ∙ d.3.1 in
      let is = on_found found facts.1 facts.2 facts.3 facts.4 d.3.0 read in
      by_end (at.Drops table found) end _ d.3.2
      (inr (same_past, (let made = facts.2 in omega (arith, is, made)), λ behind. (is ∙ facts.5 behind, let turn_is = facts.0 in omega (arith, turn_is))))
  on_at link_is place (at.Over table) facts end s =
      let is : table.turn ≡ facts.0 = ap (λ (x : Table). x.turn) facts.1.is in
      let made = facts.1.made in
      by_end (at.Over table) end _ s.1
      (inr (still s.0, omega (arith, is, made), λ behind. (is ∙ facts.2 behind, let turn_is : table.turn ≡ turn = is ∙ facts.2 behind in omega (arith, turn_is))))
  on_at link_is place (at.Refused fault) facts end s = by_end (at.Refused fault) end _ s.1 (still s.0)

  pub made_on : NewTableStands setting m c blocks link turn n → (end : NewTable × Advance Table) → Steps Took value_at m (new_table_plan n) m2 end → MadeOn n.stands end
  made_on stands end s = on_at stands.link_is stands.place n.stands stands.point end s
