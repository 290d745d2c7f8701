-- The steps of a reservation whose table the root has left, beside its copying.
use Rattle.std.specs.Prelude.{◌≡◌, ℕ, suc, ◌<◌, Bool, false}
use Rattle.std.specs.Int.{IsPowerOfTwo}
use Rattle.std.proofs.Common.{inl, inr, refl, ap, sym, subst, ◌∙◌, arith}
use Rattle.map_facts.specs.Given.SeizeWordsDeclared.at.At.TheVariants.{Word}
use Rattle.map_facts.specs.Given.SeizeWordsMem.{Mem, value_at, Can, Took}
use Rattle.map_facts.specs.Given.SeizeWordsPlan.{May, Steps}
use Rattle.map_facts.proofs.Given.SeizeWordsOneOwner.Operations.{loaded}
use Rattle.map_facts.proofs.Given.SeizeWordsPlans.{as_may}
use Rattle.map_facts.proofs.Given.SeizeRuleRows.Leaving.{steps_back}
use Rattle.map_facts.specs.Given.SeizeWorld.{World}
use Rattle.map_facts.specs.Given.SeizeDeclared.advance.Advance.{Advance}
use Rattle.map_facts.specs.Given.SeizeDeclared.advance.Advance.TheVariants as progress
use Rattle.map_facts.specs.Given.TablesChunks.{is_incremental}
use Rattle.map_facts.specs.Given.TablesTablePlaces.{at_word}
use Rattle.map_facts.specs.Given.TablesDeclared.node.Node.{Node}
use Rattle.map_facts.specs.Given.TablesDeclared.setting.Setting.{Setting}
use Rattle.map_facts.specs.Given.TablesDeclared.table.Table.{Table}
use Rattle.map_facts.specs.Given.TablesDeclared.table_words.TheConstants.{NEXT}
use Rattle.map_facts.specs.Given.ResizeNewTable.{new_table_plan}
use Rattle.map_facts.specs.Given.ResizeSum.{sum_plan}
use Rattle.map_facts.specs.Given.ResizeDeclared.new_table.NewTable.{NewTable}
use Rattle.map_facts.specs.Given.ResizeDeclared.yielding.Yielding.{Yielding}
use Rattle.map_facts.specs.Given.ResizeDeclared.sum.Sum.{Sum}
use Rattle.map_facts.specs.Given.ReservesReserve.{made, summed, grown, next_read, plan_at}
use Rattle.map_facts.specs.Given.ReservesDeclared.reserve.Reserve.{Reserve}
use Rattle.map_facts.specs.Given.ReservesDeclared.reserve.Reserving.TheVariants as at
use Rattle.map_facts.specs.Given.RuleChart.{Chart}
use Rattle.map_facts.specs.Given.RuleRule.{IsLawful}
use Rattle.map_facts.specs.Given.RuleWords.{Blocks}
use Rattle.map_facts.specs.Given.RuleMaps.{spot_of, IsTable}
use Rattle.map_facts.specs.Given.RuleMoments.{Moments}
use Rattle.map_facts.specs.Given.RuleInWorld.{IsMapIn, SparesPairs}
use Rattle.map_facts.proofs.Given.RuleKeys.TriesLast.{table_lasts}
use Rattle.map_facts.proofs.Given.RuleWords.LinksRead.{link_ends}
use Rattle.map_facts.proofs.Given.RuleWords.LinksSeen.{next_leads}
use Rattle.map_facts.proofs.Given.RuleWorld.WentTold.{went_as}
use Rattle.map_facts.proofs.Given.RuleWorld.WentWrote.{counter_of}
use Rattle.map_facts.specs.FactsCopiesBlocking.{HasNoShares}
use Rattle.map_facts.specs.FactsTables.{SumFacts, NewTableFacts}
use Rattle.map_facts.specs.Told.{SumOutcome, NewTableOutcome, OnlyLinks}
use Rattle.map_facts.proofs.MovedLasts.{moved_lasts, links_same, idle_in, idle_linked}
use Rattle.map_facts.proofs.Making.NewTable.{went_new_table}
use Rattle.map_facts.proofs.Making.Sum.{told_sum}
use Rattle.map_facts_late.specs.Left.{Left}
use Rattle.map_facts_late.specs.LateCalls.{SupersededFirstFacts}
use Rattle.map_facts_late.proofs.Copiers.LateBegins.{behind_left}
use Rattle.map_facts_late.proofs.Firsts.{FirstTells, left_linked, from_linked, may_first, went_first}
use Rattle.map_facts_late.specs.LateToldReserves.{SupersededReserveAfter}
use Rattle.map_facts_late.proofs.Rooms.Reserves.Mays.{growing, copied_into}
use Rattle.map_facts_late.proofs.Rooms.Late.LatesOn.{LateTells, LateWent, none_in, late_still, late_at, counts_in, compared_late, copies_late}

module _ {K V : Type 0} (same : K → K → Bool) (hash : K → ℕ) (caller : ℕ) (setting : Setting) (blocking : is_incremental setting.mode ≡ false) (began : ℕ) (lawful : IsLawful same (spot_of hash))
    (w : World (Node K V)) (c : Chart K) (blocks : Blocks) (map : IsMapIn same hash setting w c blocks) (p : Reserve) (setting_is : p.setting ≡ setting)
    (idle : HasNoShares same hash w caller setting c blocks) where
  -- where it comes to, here and once a table was linked
  abbrev Comes : Reserve × Yielding (Node K V) Unit → Type 0
  Comes end = SupersededReserveAfter same hash caller setting began w c blocks end

  idle_then : (w2 : World (Node K V)) (c2 : Chart K) (blocks2 : Blocks) → OnlyLinks hash setting.mode c c2 → HasNoShares same hash w2 caller setting c2 blocks2
  idle_then w2 c2 blocks2 links =
      none_in same hash caller setting blocking w2 c2 blocks2 (idle_linked same hash caller setting lawful w c blocks map w2 c2 blocks2 links (idle_in same hash w caller setting c blocks false blocking idle))

  module _ (m2 : Mem (Node K V)) (end : Reserve × Yielding (Node K V) Unit) where
    module _ (table : Table) (t : ℕ) (entered : IsTable c blocks table t) (left : Left c began t) where
      -- the pairs are counted
      summed_late : (end : Sum × Advance ℕ) → SumOutcome setting end → Comes (summed {T = Node K V} p table end)
      summed_late (next, progress.Goes) told = inr (late_at same hash caller setting blocking began w c blocks map p setting_is idle (at.Sums table next) ((t, entered, left), told))
      summed_late (next, progress.Waits) told = absurd told
      summed_late (next, progress.Done count) told = compared_late same hash caller setting blocking began w c blocks map p setting_is idle table (t, entered, left) count
      summed_late (next, progress.Refused fault) told = absurd told

      pub went_sums : (sum : Sum) → SumFacts setting sum → Steps Took value_at w.memory (plan_at hash p (at.Sums table sum)) m2 end
          → LateWent same hash caller setting blocking began w c blocks m2 (at.Sums table sum) end
      went_sums sum facts s =
          let b = steps_back (summed p table) w.memory m2 (sum_plan sum) end s in
          let d = told_sum setting w.memory (counter_of same hash setting w c blocks map) sum facts m2 b.0 b.1 in
          late_still same hash caller setting blocking began w c blocks map m2 d.0 (at.Sums table sum) end (subst Comes (sym b.2) (summed_late b.0 d.1))

      module _ (moments : Moments false c) where
        -- there is a table behind it, which came from it
        next_made : suc t < c.past
        next_made = behind_left same hash (is_incremental setting.mode) c map.map.rule began t entered.made left

        -- the link to it is read
        pub went_follows : (need : ℕ) → Steps Took value_at w.memory (plan_at hash p (at.Follows table need)) m2 end
            → LateWent same hash caller setting blocking began w c blocks m2 (at.Follows table need) end
        went_follows need s =
            let d = loaded w.memory (next_read p table need) (at_word table NEXT) m2 end s in
            late_still same hash caller setting blocking began w c blocks map m2 d.2 (at.Follows table need) end
            (link_ends hash w.memory c blocks setting.root map.map.shows d.0 (suc t)
            (next_leads same hash setting.mode setting.root w.memory c blocks map.map table t d.0 entered d.1) (growing p table need) (copied_into p table) Comes
            (λ none. absurd (let made = next_made in omega (arith, none, made)))
            (λ next behind. copies_late same hash caller setting blocking began w c blocks map p setting_is idle table next t entered left (moments.next_from refl t next_made left.was_root) behind)
            end d.3)

        -- a table is made behind it
        grown_late : (w2 : World (Node K V)) (c2 : Chart K) (blocks2 : Blocks) → IsMapIn same hash setting w2 c2 blocks2 → HasNoShares same hash w2 caller setting c2 blocks2
            → IsTable c2 blocks2 table t → Left c2 began t → c2.from (suc t) ≡ t → (end : NewTable × Advance Table)
            → NewTableOutcome w2 caller setting c2 blocks2 (Word (blocks2.table t) NEXT) (suc t) end → SupersededReserveAfter same hash caller setting began w2 c2 blocks2 (grown p table end)
        grown_late w2 c2 blocks2 map2 idle2 entered2 left2 from (next, progress.Goes) told =
            inr (late_at same hash caller setting blocking began w2 c2 blocks2 map2 p setting_is idle2 (at.Grows table next) (t, entered2, left2, told))
        grown_late w2 c2 blocks2 map2 idle2 entered2 left2 from (next, progress.Waits) told = absurd told
        grown_late w2 c2 blocks2 map2 idle2 entered2 left2 from (next, progress.Done new) told =
            copies_late same hash caller setting blocking began w2 c2 blocks2 map2 p setting_is idle2 table new t entered2 left2 from (subst (λ (u : ℕ). IsTable c2 blocks2 new u) told.1 told.2)
        grown_late w2 c2 blocks2 map2 idle2 entered2 left2 from (next, progress.Refused fault) told = idle2

        pub went_grows : IsPowerOfTwo setting.initial → (making : NewTable) → NewTableFacts w caller setting c blocks (Word (blocks.table t) NEXT) (suc t) making
            → Steps Took value_at w.memory (plan_at hash p (at.Grows table making)) m2 end → LateWent same hash caller setting blocking began w c blocks m2 (at.Grows table making) end
        went_grows initial_is making facts s =
            let b = steps_back (grown p table) w.memory m2 (new_table_plan making) end s in
            went_as same hash setting caller w c blocks m2
            (λ w2 c2 blocks2. SparesPairs w w2 × OnlyLinks hash setting.mode c c2 × NewTableOutcome w2 caller setting c2 blocks2 (Word (blocks.table t) NEXT) (suc t) b.0)
            (LateTells same hash caller setting blocking began w c (at.Grows table making) end)
            (λ w2 c2 blocks2 map2 moved same_blocks told. (
              told.0,
              (links_same same hash caller setting lawful w c blocks map c2 told.1).0,
              subst (λ (e : Reserve × Yielding (Node K V) Unit). SupersededReserveAfter same hash caller setting began w2 c2 blocks2 e) (sym b.2)
                  (grown_late w2 c2 blocks2 map2 (idle_then w2 c2 blocks2 told.1)
                  (table_lasts same hash (is_incremental setting.mode) c c2 (moved_lasts same hash setting lawful w c c2 blocks map moved) blocks blocks2 same_blocks table t entered)
                  (left_linked hash setting c c2 began t told.1 entered.made left)
                  (from_linked hash setting c c2 began (suc t) told.1 next_made ∙ moments.next_from refl t next_made left.was_root) b.0
                  (subst (λ (x : ℕ). NewTableOutcome w2 caller setting c2 blocks2 (Word x NEXT) (suc t) b.0) (sym (same_blocks.tables t entered.made entered.known).0) told.2)),
              λ other. told.1,
            ))
            (went_new_table same hash w setting c blocks map caller (Word (blocks.table t) NEXT) (suc t) initial_is lawful making facts m2 b.0 b.1)

    -- a first table was made too late
    made_late : (w2 : World (Node K V)) (c2 : Chart K) (blocks2 : Blocks) → IsMapIn same hash setting w2 c2 blocks2 → HasNoShares same hash w2 caller setting c2 blocks2
        → (table : Table) (u : ℕ) → IsTable c2 blocks2 table u → Left c2 began u → (end : NewTable × Advance Table) → end.1 ≡ progress.Done table
        → SupersededReserveAfter same hash caller setting began w2 c2 blocks2 (made p end)
    made_late w2 c2 blocks2 map2 idle2 table u entered left (next, progress) is =
        subst (λ (x : Advance Table). SupersededReserveAfter same hash caller setting began w2 c2 blocks2 (made p (next, x))) (sym is)
        (counts_in same hash caller setting blocking began w2 c2 blocks2 map2 p setting_is idle2 table u entered (inr left))

    pub went_makes : (making : NewTable) → SupersededFirstFacts w caller setting c blocks began making → Steps Took value_at w.memory (plan_at hash p (at.Makes making)) m2 end
        → LateWent same hash caller setting blocking began w c blocks m2 (at.Makes making) end
    went_makes making facts s =
        let b = steps_back (made p) w.memory m2 (new_table_plan making) end s in
        went_as same hash setting caller w c blocks m2 (λ w2 c2 blocks2. FirstTells same hash caller setting began w c blocks map making w2 c2 blocks2 b.0)
        (LateTells same hash caller setting blocking began w c (at.Makes making) end)
        (λ w2 c2 blocks2 map2 moved same_blocks told. (
          told.0,
          ap (λ (x : Chart K). x.current) told.1,
          subst (λ (e : Reserve × Yielding (Node K V) Unit). SupersededReserveAfter same hash caller setting began w2 c2 blocks2 e) (sym b.2)
              (made_late w2 c2 blocks2 map2 (idle_then w2 c2 blocks2 (inl told.1)) told.2 told.3 told.4 told.5 b.0 told.6),
          λ other. inl told.1,
        ))
        (went_first same hash caller setting began w c blocks map making facts m2 b.0 b.1)

  pub may_makes : (making : NewTable) → SupersededFirstFacts w caller setting c blocks began making → May Can Took value_at w.memory (plan_at hash p (at.Makes making))
  may_makes making facts = as_may (made p) Can Took value_at w.memory (new_table_plan making) (may_first same hash caller setting began w c blocks map making facts)
