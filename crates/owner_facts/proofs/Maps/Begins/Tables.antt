-- A map that begins has its counter made, and its first table where it is to have one; where it is refused, the counter is taken away.
use Rattle.std.specs.Prelude.{◌≡◌, ◌≢◌, ℕ, ◌+◌, ◌%◌, ◌^◌, ◌<◌, ◌≤◌, ◌==◌, max, Bool, true, false, cond, [], ◌∷◌, Some, None, Ok, IsSome, if◌then◌else◌}
use Rattle.std.specs.Int.{IsPowerOfTwo}
use Rattle.std.proofs.Common.{refl, ap, sym, subst, ◌∙◌, inl, inr, arith}
use Rattle.std.proofs.lemmas.Bool.{eq-eqb, eqb-true}
use Rattle.many_maps.specs.Given.SeizeWordsDeclared.at.At.TheVariants.{Root, Used}
use Rattle.many_maps.specs.Given.SeizeWordsDeclared.fault.Fault.{Fault}
use Rattle.many_maps.specs.Given.SeizeWordsDeclared.fault.Fault.TheVariants.{Memory}
use Rattle.many_maps.specs.Given.SeizeWordsOp.{Make, Made, Taken}
use Rattle.many_maps.specs.Given.SeizeWordsMem.{Mem, block_of, value_in, word_in, value_at, word_at, with_block, IsFreeNumber, fresh, Can, Took, after as mem_after}
use Rattle.many_maps.specs.Given.SeizeWordsPlan.{Now, May, Steps, plan_as}
use Rattle.many_maps.proofs.Given.SeizeWordsOneOwner.AfterWrites.{block_of-made}
use Rattle.many_maps.proofs.Given.SeizeWordsOneOwner.Operations.{may_make, made as make_made, may_take, taken}
use Rattle.many_maps.proofs.Given.SeizeWordsPlans.{as_may}
use Rattle.many_maps.proofs.Given.SeizeRuleRows.Leaving.{steps_back}
use Rattle.many_maps.specs.Given.SeizeLaw.{Dropped}
use Rattle.many_maps.specs.Given.SeizeWorld.{World, Hand, NoBlock, Making, Makes, Drops, Runs, with_hand, with_effect, made_by}
use Rattle.many_maps.specs.Given.SeizeDeclared.advance.Advance.{Advance}
use Rattle.many_maps.specs.Given.SeizeDeclared.advance.Advance.TheVariants as progress
use Rattle.many_maps.specs.Given.TablesChunks.{is_incremental}
use Rattle.many_maps.specs.Given.TablesNodes.{deferred_word}
use Rattle.many_maps.specs.Given.ResizeNewMap.{with_counter, at_root, goes, done, with_shards, made, shards, opened, unmakes}
use Rattle.many_maps.specs.Given.ResizeNewTable.{first_table, new_table_plan}
use Rattle.many_maps.specs.Given.TablesDeclared.node.Node.{Node}
use Rattle.many_maps.specs.Given.TablesDeclared.node.Node.TheVariants as node
use Rattle.many_maps.specs.Given.TablesDeclared.setting.Setting.{Setting}
use Rattle.many_maps.specs.Given.TablesDeclared.table.Table.{Table}
use Rattle.many_maps.specs.Given.ResizeDeclared.new_table.NewTable.{NewTable}
use Rattle.many_maps.specs.Given.ResizeDeclared.new_map.NewMap.{NewMap}
use Rattle.many_maps.specs.Given.ResizeDeclared.new_map.Opening.TheVariants as at
use Rattle.many_maps.specs.Given.RuleChart.{Chart}
use Rattle.many_maps.specs.Given.RuleRule.{IsLawful, no_table}
use Rattle.many_maps.specs.Given.RuleMoves.{Links, after as chart_after}
use Rattle.many_maps.specs.Given.RuleWords.{Blocks}
use Rattle.many_maps.specs.Given.RuleMaps.{spot_of}
use Rattle.many_maps.specs.Given.RuleInWorld.{IsMapIn}
use Rattle.many_maps.specs.Given.PointsFactsTables.{NewTableFacts}
use Rattle.many_maps.specs.Given.PointsTold.{NewTableOutcome, LinksLast}
use Rattle.many_maps.proofs.Given.RuleWorld.CounterSpared.{spares_counter}
use Rattle.many_maps.proofs.Given.RuleWorld.Hands.{at_cases}
use Rattle.many_maps.proofs.Given.PointsMaking.OwnTables.{zero_at}
use Rattle.many_maps.proofs.Given.PointsMaking.NewTable.{links_current, only_links, may_new_table, went_new_table_lowers}
use Rattle.many_maps.proofs.Given.RuleWorld.WentStill.{spares_made, spares_taken}
use Rattle.owner_facts.specs.Maps.FactsBegins.{IsNew, OpeningFacts, BeginFacts, BeginOutcome, BeginStepSpec}
use Rattle.owner_facts.proofs.Alone.Lone.Beside.{rests_first, rests_linked}
use Rattle.many_maps.proofs.Given.CallersMapBegins.{map_begins}
use Rattle.many_maps.specs.Given.CallersTogether.{no_blocks}
use Rattle.owner_facts.proofs.Maps.Begins.TableRoots.{LeavesRootsBut, leaves_roots}
use Rattle.owner_facts.proofs.Maps.Begins.Roots.{begin_still, begin_at}
use Rattle.many_maps.proofs.Beside.Makings.FirstLengths.{LensTo, first_len, lens_told}
use Rattle.many_maps.proofs.Given.LateRooms.Making.FirstBegins.{first_table_begins}
use Rattle.many_maps.proofs.Given.General.{some_is as is_some_of}

module _ {K V : Type 0} (same : K → K → Bool) (hash : K → ℕ) where
  module _ (caller : ℕ) (setting : Setting) (w : World (Node K V)) (n : NewMap) (f : BeginFacts same hash caller w setting n) where
    -- the counter is made
    module _ (mask_fits : setting.mask + 1 < 2 ^ 64) (point : OpeningFacts same hash caller w setting n at.Shards) where
      abbrev words : ℕ
      words = (n.setting.mask + 1) % 2 ^ 64

      pub may_shards : May Can Took value_at w.memory (shards n)
      may_shards = may_make w.memory (made n) node.Shards ((n.setting.mask + 1) % 2 ^ 64) (λ b is. tt) (λ back is. tt)

      module _ (b : ℕ) (is : IsFreeNumber w.memory b × (b < 2 ^ 53)) where
        abbrev m2 : Mem (Node K V)
        m2 = mem_after w.memory (Make node.Shards ((n.setting.mask + 1) % 2 ^ 64)) (Made (Ok b))

        abbrev w2 : World (Node K V)
        w2 = made_by deferred_word w caller (mem_after w.memory (Make node.Shards ((n.setting.mask + 1) % 2 ^ 64)) (Made (Ok b))) (Made (Ok b))

        abbrev begun : NewMap
        begun = record n { setting = with_counter n.setting b }

        block_is : block_of m2 b ≡ Some (fresh node.Shards words)
        block_is = block_of-made w.memory node.Shards words b b is.0 ∙ ap (λ q. cond q (Some (fresh node.Shards words)) (block_of w.memory b)) (eq-eqb b b refl)

        room : (shard : ℕ) → shard ≤ n.setting.mask → shard < words
        room shard l = below n.setting.mask (ap (λ (s : Setting). s.mask) f.setting_is)
          where
            below : (mask : ℕ) → n.setting.mask ≡ setting.mask → shard < (n.setting.mask + 1) % 2 ^ 64
            below mask e = omega (arith, mask_fits, e, l)

        there : IsMapIn same hash (with_counter n.setting b) w2 no_table no_blocks
        there = map_begins same hash (with_counter n.setting b) w2 point.1.1 (ap value_in block_is) (λ shard l. (0, ap (λ o. word_in o shard) block_is ∙ zero_at words shard (room shard l)))

        hand_is : w2.hand b ≡ Making caller
        hand_is = at_cases (λ (h : Hand). h ≡ Making caller) w.hand b (Making caller) b (λ e. refl) (λ ne. absurd (ne refl))

        setting_begun : with_counter n.setting b ≡ with_counter (at_root setting n.setting.root) b
        setting_begun = ap (λ (s : Setting). with_counter s b) f.setting_is

        shards_told : BeginOutcome same hash caller setting at.Shards w w2 (with_shards begun)
        shards_told = by (n.len == 0) refl
          where
            by : (x : Bool) → (n.len == 0) ≡ x → BeginOutcome same hash caller setting at.Shards w w2 (if x then done begun else goes begun (at.Tables (first_table (with_counter n.setting b) n.len)))
            by true e = (refl, setting_begun, record { chart = no_table; blocks = no_blocks; map = there; new = inl (eqb-true n.len 0 e, refl); empty = λ p. refl; alone = rests_first K (is_incremental n.setting.mode) caller; used = point.1.0; counter = hand_is })
            by false e = record {
              setting_is = setting_begun;
              len = f.len;
              point = (point.1.0, hand_is, no_blocks, there, first_table_begins w2 caller (with_counter n.setting b) no_table no_blocks n.len f.len, first_len (with_counter n.setting b) n.len);
            }

      pub went_shards : (m2 : Mem (Node K V)) (end : NewMap × Advance Setting) → Steps Took value_at w.memory (shards n) m2 end
          → BeginStepSpec same hash caller setting at.Shards w n.setting.root m2 end
      went_shards mem end s =
          elim (make_made w.memory (made n) node.Shards ((n.setting.mask + 1) % 2 ^ 64) mem end s) as (λ _. BeginStepSpec same hash caller setting at.Shards w n.setting.root mem end) [
            | inl d ↦ record {
              w2 = w2 d.0 d.1;
              events = Makes caller node.Shards ((n.setting.mask + 1) % 2 ^ 64) ∷ [];
              users = (tt, tt);
              runs = (w2 d.0 d.1, (Made (Ok d.0), m2 d.0 d.1, tt, (d.1, refl), refl), refl);
              memory = sym d.2;
              others = λ r other. (refl, refl);
              spares = spares_made w caller node.Shards ((n.setting.mask + 1) % 2 ^ 64) d.0 d.1.0;
              told = subst (λ (e : NewMap × Advance Setting). BeginOutcome same hash caller setting at.Shards w (w2 d.0 d.1) e) (sym d.3) (shards_told d.0 d.1);
            }
            | inr d ↦ begin_still same hash caller setting w at.Shards n.setting.root mem d.2 end
                (subst (λ (e : NewMap × Advance Setting). BeginOutcome same hash caller setting at.Shards w w e) (sym d.3)
                (begin_at same hash caller setting w w n (at.Frees Memory) f (point.1, inl point.0)))
          ]

    -- the counter is taken away
    module _ (fault : Fault) (point : OpeningFacts same hash caller w setting n (at.Unmakes fault)) where
      counter_there : IsSome (value_at w.memory n.setting.counter)
      counter_there = is_some_of (value_at w.memory n.setting.counter) node.Shards point.2

      abbrev left : World (Node K V)
      left = with_effect (with_hand (record w { memory = with_block w.memory n.setting.counter None }) n.setting.counter NoBlock) (Dropped n.setting.counter)

      pub may_unmakes : May Can Took value_at w.memory (unmakes n fault)
      may_unmakes = may_take w.memory (λ out. Now (goes n (at.Frees fault))) n.setting.counter counter_there (λ value is. tt)

      dropped : left.hand n.setting.counter ≢ Making caller
      dropped = at_cases (λ (h : Hand). h ≢ Making caller) w.hand n.setting.counter NoBlock n.setting.counter (λ e is. absurd (cc)) (λ ne. absurd (ne refl))

      pub went_unmakes : (m2 : Mem (Node K V)) (end : NewMap × Advance Setting) → Steps Took value_at w.memory (unmakes n fault) m2 end
          → BeginStepSpec same hash caller setting (at.Unmakes fault) w n.setting.root m2 end
      went_unmakes m2 end s =
          let d = taken w.memory (λ out. Now (goes n (at.Frees fault))) n.setting.counter m2 end s in
          record {
            w2 = left;
            events = Drops caller n.setting.counter ∷ [];
            users = (tt, tt);
            runs = (left, (Taken node.Shards, with_block w.memory n.setting.counter None, (caller, point.1), (point.2, refl), refl), refl);
            memory = sym d.2;
            others = λ r other. (refl, refl);
            spares = spares_taken w n.setting.counter NoBlock (Dropped n.setting.counter ∷ w.log) counter_there (λ k v is. let shards = point.2 in absurd (cc));
            told = subst (λ (e : NewMap × Advance Setting). BeginOutcome same hash caller setting (at.Unmakes fault) w left e) (sym d.3)
                (begin_at same hash caller setting w left n (at.Frees fault) f (point.0, inr dropped));
          }

    -- its first table is made
    module _ (lawful : IsLawful same (spot_of hash)) (initial_is : IsPowerOfTwo setting.initial) (making : NewTable) (point : OpeningFacts same hash caller w setting n (at.Tables making)) where
      power : IsPowerOfTwo n.setting.initial
      power = subst IsPowerOfTwo (sym (ap (λ (s : Setting). s.initial) f.setting_is)) initial_is

      pub may_tables : May Can Took value_at w.memory (plan_as (opened n) (new_table_plan making))
      may_tables = as_may (opened n) Can Took value_at w.memory (new_table_plan making)
          (may_new_table same hash w n.setting no_table point.2 point.3 caller (Root n.setting.root) 0 power making point.4)

      root_zero : word_at w.memory (Root n.setting.root) ≡ Some 0
      root_zero = point.3.map.shows.root_there

      module _ (w2 : World (Node K V)) (c2 : Chart K) (blocks2 : Blocks) (map2 : IsMapIn same hash n.setting w2 c2 blocks2)
          (used : word_at w2.memory (Used n.setting.root) ≡ Some 1) (hand : w2.hand n.setting.counter ≡ Making caller) where
        -- a step that did not end with a table has linked none
        unlinked : (end : NewTable × Advance Table) → LinksLast hash n.setting.mode 0 no_table c2 end → ((table : Table) → end.1 ≢ progress.Done table) → c2 ≡ no_table
        unlinked end (inl e) other = e
        unlinked end (inr (last, table, is, e)) other = absurd (other table is)

        new_then : (making2 : NewTable) (table : Table) → LinksLast hash n.setting.mode 0 no_table c2 (making2, progress.Done table)
            → NewTableOutcome w2 caller n.setting c2 blocks2 (Root n.setting.root) 0 (making2, progress.Done table) → table.len ≡ max n.len 8 → IsNew hash n.setting n.len c2
        new_then making2 table (inl e) told len_is = absurd (let made = told.2.made in let past = ap (λ (x : Chart K). x.past) e in omega (arith, made, past))
        new_then making2 table (inr (last, other, is, e)) told len_is =
            inr (other.limit, e ∙ ap (λ (x : ℕ). chart_after (spot_of hash) (is_incremental n.setting.mode) (Links x other.limit) no_table) (ap (λ (x : Table). x.len) same_table ∙ len_is))
          where
            same_table : other ≡ table
            same_table = cc is

        opened_told : (end : NewTable × Advance Table) → LinksLast hash n.setting.mode 0 no_table c2 end → NewTableOutcome w2 caller n.setting c2 blocks2 (Root n.setting.root) 0 end → LensTo (max n.len 8) end
            → BeginOutcome same hash caller setting (at.Tables making) w w2 (opened n end)
        opened_told (making2, progress.Goes) links told lens =
            let same_chart : c2 ≡ no_table = unlinked (making2, progress.Goes) links (λ table is. absurd (cc is)) in
            begin_at same hash caller setting w w2 n (at.Tables making2) f (
              used,
              hand,
              blocks2,
              subst (λ (x : Chart K). IsMapIn same hash n.setting w2 x blocks2) same_chart map2,
              subst (λ (x : Chart K). NewTableFacts w2 caller n.setting x blocks2 (Root n.setting.root) 0 making2) same_chart told,
              lens,
            )
        opened_told (making2, progress.Waits) links told lens = absurd told
        opened_told (making2, progress.Done table) links told lens = (
          refl,
          f.setting_is,
          record {
            chart = c2;
            blocks = blocks2;
            map = map2;
            new = new_then making2 table links told lens;
            empty = λ p. ap (λ (g : ℕ → Bool). g p) (links_current hash n.setting.mode no_table c2 (only_links hash n.setting.mode 0 no_table c2 (making2, progress.Done table) links));
            alone = rests_linked same hash caller n.setting.mode c2 map2.map.rule (only_links hash n.setting.mode 0 no_table c2 (making2, progress.Done table) links);
            used = used;
            counter = hand;
          },
        )
        opened_told (making2, progress.Refused fault) links told lens =
            let same_chart : c2 ≡ no_table = unlinked (making2, progress.Refused fault) links (λ table is. absurd (cc is)) in
            begin_at same hash caller setting w w2 n (at.Unmakes fault) f
            ((used, (subst (λ (x : Chart K). IsMapIn same hash n.setting w2 x blocks2) same_chart map2).map.shows.root_there), hand, map2.counter)

      pub went_tables : (m2 : Mem (Node K V)) (end : NewMap × Advance Setting) → Steps Took value_at w.memory (plan_as (opened n) (new_table_plan making)) m2 end
          → BeginStepSpec same hash caller setting (at.Tables making) w n.setting.root m2 end
      went_tables m2 end s =
          let b = steps_back (opened n) w.memory m2 (new_table_plan making) end s in
          let g = went_new_table_lowers same hash w n.setting no_table point.2 point.3 caller (Root n.setting.root) 0 power lawful making point.4 m2 b.0 b.1 in
          let there = is_some_of (word_at w.memory (Root n.setting.root)) 0 root_zero in
          let leaves : LeavesRootsBut w.memory n.setting.root g.w2.memory =
          subst (λ (x : Mem (Node K V)). LeavesRootsBut w.memory n.setting.root x) (sym g.memory) (leaves_roots w caller n.setting point.2 there making point.4 m2 b.0 b.1) in
          record {
            w2 = g.w2;
            events = g.events;
            users = g.users;
            runs = subst (λ (size : ℕ). Runs deferred_word size g.events w g.w2) (ap (λ (s : Setting). s.batch_size) f.setting_is) g.runs;
            memory = g.memory;
            others = λ r other. (leaves.others r other, leaves.used r);
            spares = g.told.0;
            told = subst (λ (e : NewMap × Advance Setting). BeginOutcome same hash caller setting (at.Tables making) w g.w2 e) (sym b.2)
                (opened_told g.w2 g.c2 g.blocks2 g.map (leaves.used n.setting.root ∙ point.0) (spares_counter same hash n.setting w no_table point.2 point.3 caller m2 _ g caller point.1) b.0 g.told.1 g.told.2
                (lens_told w caller n.setting point.2 w.memory making (max n.len 8) point.4 point.5 m2 b.0 b.1));
          }
