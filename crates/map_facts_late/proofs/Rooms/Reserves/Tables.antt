-- The steps of a reservation that read links, count pairs, and make tables.
use Rattle.std.specs.Prelude.{◌≡◌, ℕ, suc, ◌^◌, ◌<◌, ◌≤◌, Bool, true, false, cond}
use Rattle.std.specs.Int.{IsPowerOfTwo}
use Rattle.std.proofs.Common.{refl, ap, sym, subst, ◌∙◌, arith}
use Rattle.map_facts.specs.Given.SeizeWordsDeclared.at.At.TheVariants.{Root, Word}
use Rattle.map_facts.specs.Given.SeizeWordsMem.{Mem, value_at, Took}
use Rattle.map_facts.specs.Given.SeizeWordsPlan.{Steps}
use Rattle.map_facts.proofs.Given.SeizeWordsOneOwner.Operations.{loaded}
use Rattle.map_facts.proofs.Given.SeizeRuleRows.Leaving.{steps_back}
use Rattle.map_facts.specs.Given.SeizeWorld.{World}
use Rattle.map_facts.specs.Given.SeizeDeclared.advance.Advance.{Advance}
use Rattle.map_facts.specs.Given.SeizeDeclared.advance.Advance.TheVariants as progress
use Rattle.map_facts.specs.Given.TablesChunks.{is_incremental}
use Rattle.map_facts.specs.Given.ResizeCopierStates.{copying_all}
use Rattle.map_facts.specs.Given.TablesLengths.{IsTableLen}
use Rattle.map_facts.specs.Given.ResizeNewTable.{first_table, table_reserved, new_table_plan}
use Rattle.map_facts.specs.Given.ReservesReserve.{needed, made, summed, grown, root_read, reads, next_read, follows, plan_at}
use Rattle.map_facts.specs.Given.ResizeSum.{sum_plan}
use Rattle.map_facts.specs.Given.TablesTablePlaces.{at_word}
use Rattle.map_facts.specs.Given.TablesDeclared.node.Node.{Node}
use Rattle.map_facts.specs.Given.ResizeDeclared.yielding.Yielding.{Yielding}
use Rattle.map_facts.specs.Given.TablesDeclared.setting.Setting.{Setting}
use Rattle.map_facts.specs.Given.TablesDeclared.status.TheConstants.Status.{ABORTED}
use Rattle.map_facts.specs.Given.TablesDeclared.table.Table.{Table}
use Rattle.map_facts.specs.Given.TablesDeclared.table_words.TheConstants.{NEXT}
use Rattle.map_facts.specs.Given.ResizeDeclared.new_table.NewTable.{NewTable}
use Rattle.map_facts.specs.Given.ResizeDeclared.sum.Sum.{Sum}
use Rattle.map_facts.specs.Given.ReservesDeclared.reserve.Reserve.{Reserve}
use Rattle.map_facts.specs.Given.ReservesDeclared.reserve.Reserving.TheVariants as at
use Rattle.map_facts.specs.Given.RuleChart.{Chart}
use Rattle.map_facts.specs.Given.RuleRule.{IsLawful}
use Rattle.map_facts.specs.Given.RuleWords.{Blocks}
use Rattle.map_facts.specs.Given.RuleMaps.{spot_of, IsTable}
use Rattle.map_facts.specs.Given.RuleInWorld.{IsMapIn, SparesPairs}
use Rattle.map_facts.specs.FactsTables.{SumFacts, NewTableFacts}
use Rattle.map_facts.specs.Told.{SumOutcome, NewTableOutcome, OnlyLinks}
use Rattle.map_facts.specs.FactsIdle.{IsIdle}
use Rattle.map_facts.proofs.MovedLasts.{moved_lasts, links_same, idle_linked}
use Rattle.map_facts.proofs.Given.RuleWorld.WentTold.{went_as}
use Rattle.map_facts.proofs.Given.RuleWords.LinksRead.{link_ends}
use Rattle.map_facts.proofs.Given.RuleWords.LinksSeen.{root_leads, next_leads}
use Rattle.map_facts.proofs.Making.Planned.{at_least_eight}
use Rattle.map_facts.proofs.Making.NewTable.{went_new_table}
use Rattle.map_facts.proofs.Making.Sum.{told_sum}
use Rattle.map_facts.proofs.Given.RuleKeys.TriesLast.{table_lasts}
use Rattle.map_facts.proofs.Given.RuleWorld.WentWrote.{counter_of}
use Rattle.map_facts_late.specs.FactsReserves.{IsRoot}
use Rattle.map_facts_late.specs.ToldReserves.{ReserveAfter}
use Rattle.map_facts_late.proofs.Rooms.Reserves.Mays.{making_first, counting_in, root_at, growing, copied_into}
use Rattle.map_facts_late.proofs.Rooms.Reserves.Moved.{IsFresh, Proceeds}
use Rattle.map_facts_late.proofs.Rooms.Reserves.On.{ReserveTells, ReserveWent, reserve_still, on_at, counts, compared, copies_on}
use Rattle.map_facts_late.proofs.Rooms.Making.FirstBegins.{first_table_begins}
use Rattle.map_facts_late.proofs.Rooms.Making.TablesNeeded.{needed_len, table_reserved_begins}

module _ {K V : Type 0} (same : K → K → Bool) (hash : K → ℕ) (caller : ℕ) (setting : Setting) (lawful : IsLawful same (spot_of hash)) (initial_is : IsPowerOfTwo setting.initial)
    (w : World (Node K V)) (c : Chart K) (blocks : Blocks) (map : IsMapIn same hash setting w c blocks) where
  -- the root is one, in either mode
  root_is : IsRoot same hash w caller setting c blocks c.first
  root_is = by (is_incremental setting.mode)
    where
      by : (b : Bool) → cond b (c.first ≤ c.first) (c.first ≡ c.first)
      by true = omega arith
      by false = refl

  -- while tables are made the root is what it was, and so is what the caller copies
  root_linked : (w2 : World (Node K V)) (c2 : Chart K) (blocks2 : Blocks) → c2.first ≡ c.first → (t : ℕ) → IsRoot same hash w caller setting c blocks t
      → IsRoot same hash w2 caller setting c2 blocks2 t
  root_linked w2 c2 blocks2 is t root = by (is_incremental setting.mode) root
    where
      by : (b : Bool) → cond b (t ≤ c.first) (t ≡ c.first) → cond b (t ≤ c2.first) (t ≡ c2.first)
      by true l = omega (arith, l, is)
      by false e = e ∙ sym is

  module _ (p : Reserve) (setting_is : p.setting ≡ setting) where
    first_begins : NewTableFacts w caller setting c blocks (Root setting.root) 0 (first_table p.setting (needed p.additional 0))
    first_begins = subst (λ (s : Setting). NewTableFacts w caller setting c blocks (Root setting.root) 0 (first_table s (needed p.additional 0))) (sym setting_is)
        (first_table_begins w caller setting c blocks (needed p.additional 0) (λ few. at_least_eight (needed p.additional 0) (needed_len p.additional 0 (omega (arith, few)))))

    pub went_reads : IsIdle same hash w caller setting c blocks → (m2 : Mem (Node K V)) (end : Reserve × Yielding (Node K V) Unit) → Steps Took value_at w.memory (reads p) m2 end
        → ReserveWent same hash caller setting w c blocks m2 at.Reads end
    went_reads idle m2 end s =
        let d = loaded w.memory (root_read p) (Root p.setting.root) m2 end s in
        reserve_still same hash caller setting w c blocks map m2 d.2 at.Reads (λ h. h) end
        (link_ends hash w.memory c blocks setting.root map.map.shows d.0 c.first
        (root_leads same hash setting.mode setting.root w.memory c blocks map.map d.0 (sym (root_at same hash setting w c blocks map p setting_is) ∙ d.1)) (making_first p) (counting_in p)
        (λ (e : Reserve × Yielding (Node K V) Unit). ReserveAfter w caller setting c blocks same hash e × Proceeds setting e)
        (λ none. (on_at same hash caller setting w c blocks map p setting_is idle (at.Makes (first_table p.setting (needed p.additional 0))) first_begins, tt))
        (λ table entered. (counts same hash caller setting w c blocks map p setting_is idle table c.first entered root_is, tt)) end d.3)

    -- where it copies, it begins to
    copies_fresh : (table next : Table) → IsFresh setting (at.Copies (copying_all p.setting table next))
    copies_fresh table next = (table, next, ap (λ (s : Setting). copying_all s table next) setting_is)

    -- the pairs are counted
    module _ (table : Table) (t : ℕ) (entered : IsTable c blocks table t) (root : IsRoot same hash w caller setting c blocks t) where
      module _ (sum : Sum) (facts : SumFacts setting sum) where
        summed_told : IsIdle same hash w caller setting c blocks → (end : Sum × Advance ℕ) → SumOutcome setting end
            → ReserveAfter w caller setting c blocks same hash (summed {T = Node K V} p table end) × Proceeds setting (summed {T = Node K V} p table end)
        summed_told idle (next, progress.Goes) told = (on_at same hash caller setting w c blocks map p setting_is idle (at.Sums table next) ((t, entered, root), told), tt)
        summed_told idle (next, progress.Waits) told = absurd told
        summed_told idle (next, progress.Done count) told = compared same hash caller setting w c blocks map p setting_is idle table t entered root count
        summed_told idle (next, progress.Refused fault) told = absurd told

        pub went_sums : IsIdle same hash w caller setting c blocks → (m2 : Mem (Node K V)) (end : Reserve × Yielding (Node K V) Unit)
            → Steps Took value_at w.memory (plan_at hash p (at.Sums table sum)) m2 end → ReserveWent same hash caller setting w c blocks m2 (at.Sums table sum) end
        went_sums idle m2 end s =
            let b = steps_back (summed p table) w.memory m2 (sum_plan sum) end s in
            let d = told_sum setting w.memory (counter_of same hash setting w c blocks map) sum facts m2 b.0 b.1 in
            reserve_still same hash caller setting w c blocks map m2 d.0 (at.Sums table sum) (λ h. h) end
            (subst (λ (e : Reserve × Yielding (Node K V) Unit). ReserveAfter w caller setting c blocks same hash e × Proceeds setting e) (sym b.2) (summed_told idle b.0 d.1))

      -- the link to the table behind is read
      module _ (need : ℕ) (need_is : need ≤ 2 ^ 48 → IsTableLen need) where
        free : cond (is_incremental setting.mode) (Unit {0}) (c.first < t → c.status t ≡ ABORTED)
        free = by (is_incremental setting.mode) root
          where
            by : (b : Bool) → cond b (t ≤ c.first) (t ≡ c.first) → cond b (Unit {0}) (c.first < t → c.status t ≡ ABORTED)
            by true l = tt
            by false e = λ l. absurd (omega (arith, e, l))

        grows_begins : NewTableFacts w caller setting c blocks (Word (blocks.table t) NEXT) (suc t) (table_reserved p.setting table need)
        grows_begins = subst (λ (s : Setting). NewTableFacts w caller setting c blocks (Word (blocks.table t) NEXT) (suc t) (table_reserved s table need)) (sym setting_is)
            (table_reserved_begins w caller setting c blocks table t entered free need need_is)

        pub went_follows : IsIdle same hash w caller setting c blocks → (m2 : Mem (Node K V)) (end : Reserve × Yielding (Node K V) Unit)
            → Steps Took value_at w.memory (follows p table need) m2 end → ReserveWent same hash caller setting w c blocks m2 (at.Follows table need) end
        went_follows idle m2 end s =
            let d = loaded w.memory (next_read p table need) (at_word table NEXT) m2 end s in
            reserve_still same hash caller setting w c blocks map m2 d.2 (at.Follows table need) (λ h. h) end
            (link_ends hash w.memory c blocks setting.root map.map.shows d.0 (suc t)
            (next_leads same hash setting.mode setting.root w.memory c blocks map.map table t d.0 entered d.1) (growing p table need) (copied_into p table)
            (λ (e : Reserve × Yielding (Node K V) Unit). ReserveAfter w caller setting c blocks same hash e × Proceeds setting e)
            (λ none. (on_at same hash caller setting w c blocks map p setting_is idle (at.Grows table (table_reserved p.setting table need)) (t, entered, root, grows_begins), tt))
            (λ next behind. (copies_on same hash caller setting w c blocks map p setting_is idle table t entered root next behind, copies_fresh table next)) end d.3)

      -- a table is made behind it
      module _ (making : NewTable) (facts : NewTableFacts w caller setting c blocks (Word (blocks.table t) NEXT) (suc t) making) where
        grown_told : (w2 : World (Node K V)) (c2 : Chart K) (blocks2 : Blocks) → IsMapIn same hash setting w2 c2 blocks2 → IsIdle same hash w2 caller setting c2 blocks2
            → IsTable c2 blocks2 table t → IsRoot same hash w2 caller setting c2 blocks2 t → (end : NewTable × Advance Table)
            → NewTableOutcome w2 caller setting c2 blocks2 (Word (blocks2.table t) NEXT) (suc t) end
            → ReserveAfter w2 caller setting c2 blocks2 same hash (grown p table end) × Proceeds setting (grown {K = K} {V = V} p table end)
        grown_told w2 c2 blocks2 map2 idle entered2 root2 (next, progress.Goes) told =
            (on_at same hash caller setting w2 c2 blocks2 map2 p setting_is idle (at.Grows table next) (t, entered2, root2, told), tt)
        grown_told w2 c2 blocks2 map2 idle entered2 root2 (next, progress.Waits) told = absurd told
        grown_told w2 c2 blocks2 map2 idle entered2 root2 (next, progress.Done new) told = (
          copies_on same hash caller setting w2 c2 blocks2 map2 p setting_is idle table t entered2 root2 new (subst (λ (u : ℕ). IsTable c2 blocks2 new u) told.1 told.2),
          copies_fresh table new,
        )
        grown_told w2 c2 blocks2 map2 idle entered2 root2 (next, progress.Refused fault) told = (idle, tt)

        pub went_grows : IsIdle same hash w caller setting c blocks → (m2 : Mem (Node K V)) (end : Reserve × Yielding (Node K V) Unit)
            → Steps Took value_at w.memory (plan_at hash p (at.Grows table making)) m2 end → ReserveWent same hash caller setting w c blocks m2 (at.Grows table making) end
        went_grows idle m2 end s =
            let b = steps_back (grown p table) w.memory m2 (new_table_plan making) end s in
            went_as same hash setting caller w c blocks m2
            (λ w2 c2 blocks2. SparesPairs w w2 × OnlyLinks hash setting.mode c c2 × NewTableOutcome w2 caller setting c2 blocks2 (Word (blocks.table t) NEXT) (suc t) b.0)
            (ReserveTells same hash caller setting w c m2 (at.Grows table making) end)
            (λ w2 c2 blocks2 map2 moved same_blocks told.
            let same_links = links_same same hash caller setting lawful w c blocks map c2 told.1 in
            let tells = subst (λ (e : Reserve × Yielding (Node K V) Unit). ReserveAfter w2 caller setting c2 blocks2 same hash e × Proceeds setting e) (sym b.2)
            (grown_told w2 c2 blocks2 map2 (idle_linked same hash caller setting lawful w c blocks map w2 c2 blocks2 told.1 idle)
            (table_lasts same hash (is_incremental setting.mode) c c2 (moved_lasts same hash setting lawful w c c2 blocks map moved) blocks blocks2 same_blocks table t entered)
            (root_linked w2 c2 blocks2 same_links.1 t root) b.0
            (subst (λ (x : ℕ). NewTableOutcome w2 caller setting c2 blocks2 (Word x NEXT) (suc t) b.0) (sym (same_blocks.tables t entered.made entered.known).0) told.2)) in
            (told.0, same_links.0, tells.0, (told.1, tells.1)))
            (went_new_table same hash w setting c blocks map caller (Word (blocks.table t) NEXT) (suc t) initial_is lawful making facts m2 b.0 b.1)

    -- a first table is made
    module _ (making : NewTable) (facts : NewTableFacts w caller setting c blocks (Root setting.root) 0 making) where
      made_told : (w2 : World (Node K V)) (c2 : Chart K) (blocks2 : Blocks) → IsMapIn same hash setting w2 c2 blocks2 → IsIdle same hash w2 caller setting c2 blocks2
          → (end : NewTable × Advance Table) → NewTableOutcome w2 caller setting c2 blocks2 (Root setting.root) 0 end
          → ReserveAfter w2 caller setting c2 blocks2 same hash (made p end) × Proceeds setting (made {K = K} {V = V} p end)
      made_told w2 c2 blocks2 map2 idle (next, progress.Goes) told = (on_at same hash caller setting w2 c2 blocks2 map2 p setting_is idle (at.Makes next) told, tt)
      made_told w2 c2 blocks2 map2 idle (next, progress.Waits) told = absurd told
      made_told w2 c2 blocks2 map2 idle (next, progress.Done table) told = (counts same hash caller setting w2 c2 blocks2 map2 p setting_is idle table told.0 told.2 told.1, tt)
      made_told w2 c2 blocks2 map2 idle (next, progress.Refused fault) told = (idle, tt)

      pub went_makes : IsIdle same hash w caller setting c blocks → (m2 : Mem (Node K V)) (end : Reserve × Yielding (Node K V) Unit)
          → Steps Took value_at w.memory (plan_at hash p (at.Makes making)) m2 end → ReserveWent same hash caller setting w c blocks m2 (at.Makes making) end
      went_makes idle m2 end s =
          let b = steps_back (made p) w.memory m2 (new_table_plan making) end s in
          went_as same hash setting caller w c blocks m2
          (λ w2 c2 blocks2. SparesPairs w w2 × OnlyLinks hash setting.mode c c2 × NewTableOutcome w2 caller setting c2 blocks2 (Root setting.root) 0 b.0)
          (ReserveTells same hash caller setting w c m2 (at.Makes making) end)
          (λ w2 c2 blocks2 map2 moved same_blocks told.
          let tells = subst (λ (e : Reserve × Yielding (Node K V) Unit). ReserveAfter w2 caller setting c2 blocks2 same hash e × Proceeds setting e) (sym b.2)
          (made_told w2 c2 blocks2 map2 (idle_linked same hash caller setting lawful w c blocks map w2 c2 blocks2 told.1 idle) b.0 told.2) in (
            told.0,
            (links_same same hash caller setting lawful w c blocks map c2 told.1).0,
            tells.0,
            (told.1, tells.1),
          ))
          (went_new_table same hash w setting c blocks map caller (Root setting.root) 0 initial_is lawful making facts m2 b.0 b.1)
