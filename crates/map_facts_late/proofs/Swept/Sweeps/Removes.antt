-- The steps of a sweep that remove a pair, count it, and dispose of it.
use Rattle.std.specs.Prelude.{◌≡◌, ℕ, ◌+◌, ◌*◌, ◌^◌, ◌<◌, Bool, true, Some, bit_and}
use Rattle.std.proofs.Common.{refl, ap, inl, inr, sym, subst, ◌∙◌}
use Rattle.map_facts.specs.Given.SeizeWordsDeclared.at.At.TheVariants.{Word}
use Rattle.map_facts.specs.Given.SeizeWordsMem.{Mem, value_at, word_at, with_word, Can, Took}
use Rattle.map_facts.specs.Given.SeizeWordsPlan.{Now, May, Steps}
use Rattle.map_facts.proofs.Given.SeizeWordsOneOwner.Operations.{may_exchange, exchanged, may_add, added}
use Rattle.map_facts.proofs.Given.SeizeWordsPlans.{as_may}
use Rattle.map_facts.proofs.Given.SeizeRuleRows.Leaving.{steps_back}
use Rattle.map_facts.specs.Given.SeizeWorld.{World}
use Rattle.map_facts.specs.Given.SeizeDeclared.rows.settle.Settled.{Settled}
use Rattle.map_facts.specs.Given.SeizeDeclared.rows.settle.Settled.TheVariants as settled
use Rattle.map_facts.specs.Given.TablesChunks.{is_incremental}
use Rattle.map_facts.specs.Given.TablesCounts.{count_change}
use Rattle.map_facts.specs.Given.TablesTablePlaces.{at_place}
use Rattle.map_facts.specs.Given.TablesDeclared.marks.TheConstants.{TOMBSTONE}
use Rattle.map_facts.specs.Given.TablesDeclared.node.Node.{Node}
use Rattle.map_facts.specs.Given.TablesDeclared.setting.Setting.{Setting}
use Rattle.map_facts.specs.Given.TablesDeclared.table_words.TheConstants.{PLACES}
use Rattle.map_facts.specs.Given.ResizeDispose.{disposing, dispose_plan}
use Rattle.map_facts.specs.Given.ResizeDeclared.dispose.Dispose.{Dispose}
use Rattle.map_facts.specs.Given.SweepsSweep.{tries, tried, counts, disposed, plan_at}
use Rattle.map_facts.specs.Given.SweepsSweepPoints.{removes, further, going}
use Rattle.map_facts.specs.Given.ReservesDeclared.sweep.Sweep.{Sweep}
use Rattle.map_facts.specs.Given.ReservesDeclared.sweep.Sweeping.TheVariants as at
use Rattle.map_facts.specs.Given.ReservesDeclared.sweep.Swept.{Swept}
use Rattle.map_facts.specs.Given.RuleChart.{Still, Holds, Chart}
use Rattle.map_facts.specs.Given.RuleRule.{IsLawful, is_of}
use Rattle.map_facts.specs.Given.RuleMoves.{Removes, MayChange, after}
use Rattle.map_facts.specs.Given.RuleWords.{Blocks}
use Rattle.map_facts.specs.Given.RuleMaps.{spot_of}
use Rattle.map_facts.specs.Given.RuleInWorld.{IsMapIn, SameBlocks}
use Rattle.map_facts.proofs.Given.RuleWords.TablesSeen.{place_stands}
use Rattle.map_facts.proofs.Given.RuleWorld.WentStill.{went_still}
use Rattle.map_facts.proofs.Given.RuleWorld.WentTold.{went_as}
use Rattle.map_facts.specs.FactsDisposes.{DisposeFacts}
use Rattle.map_facts.specs.FactsIdle.{IsIdle}
use Rattle.map_facts.specs.Told.{IsRowOf, DisposeOutcome}
use Rattle.map_facts.proofs.Disposals.DisposesBegin.{IsTakenOut, dispose_begins}
use Rattle.map_facts.proofs.Disposals.Points.{DisposeTells, may_dispose, went_dispose}
use Rattle.map_facts.proofs.Steps.CountsShards.{shard_some, went_counted}
use Rattle.map_facts.proofs.Steps.PairsRemoved as pairs
use Rattle.map_facts.proofs.Steps.PlacesChanged as places
use Rattle.map_facts_late.specs.FactsSweeps.{GoesOver, NamesStill, HasTaken}
use Rattle.map_facts_late.proofs.Swept.Sweeps.Tables.{upto, live, root_is, still_current, may_change, root_less}
use Rattle.map_facts_late.proofs.Swept.Sweeps.On.{After, telling_after, goes_further}
use Rattle.map_facts_late.proofs.Swept.Sweeps.Moved.{SweepTells, SweepWent}
use Rattle.map_facts_late.proofs.Swept.Sweeps.Reads.{sees}

module _ {K V : Type 0} (same : K → K → Bool) (hash : K → ℕ) (caller : ℕ) (setting : Setting) (began : ℕ) (w : World (Node K V)) (c : Chart K) (blocks : Blocks)
    (map : IsMapIn same hash setting w c blocks) (p : Sweep) (setting_is : p.setting ≡ setting) where
  pub may_counts : (removed : ℕ) → May Can Took value_at w.memory (counts p removed)
  may_counts removed =
      may_add w.memory (λ out. Now (going {T = Node K V} p (at.Disposes (disposing p.setting removed p.table)))) (Word p.setting.counter (bit_and p.setting.slot p.setting.mask)) (count_change removed)
      (shard_some same hash caller setting p.setting setting_is w c blocks map) (λ found is. tt)

  pub may_disposes : (dispose : Dispose) → DisposeFacts w caller setting c blocks dispose → (IsRowOf dispose.stands → ⊥)
      → (hash2 : K → ℕ) → May Can Took value_at w.memory (plan_at hash2 p (at.Disposes dispose))
  may_disposes dispose f none hash2 = as_may (disposed p) Can Took value_at w.memory (dispose_plan dispose) (may_dispose same hash setting w caller c blocks map dispose f none)

  module _ (idle : IsIdle same hash w caller setting c blocks) (t : ℕ) (over : GoesOver same hash w caller setting c blocks began p t) (inside : p.place < c.len t) where
    at_is : at_place p.table p.place ≡ Word (blocks.table t) (p.place + PLACES)
    at_is = place_stands hash w.memory c blocks setting.root map.map.shows p.table t over.table p.place inside

    pub may_tries : (word : ℕ) → May Can Took value_at w.memory (tries p word)
    may_tries word =
        may_exchange w.memory (tried p word) (at_place p.table p.place) word TOMBSTONE
        (places.word_some same hash caller setting w c blocks map t p.place over.table.made over.table.known inside (at_place p.table p.place) at_is) (λ found is. tt) (λ found is. tt)

    module _ (taking : removes p.purpose ≡ true) where
      module _ (lawful : IsLawful same (spot_of hash)) (fits : (k : K) → hash k < 2 ^ 64) (word : ℕ) (names : NamesStill same hash w caller setting c blocks began word) where
        removed : (found : ℕ) → (word_at w.memory (at_place p.table p.place) ≡ Some found) × (found ≡ word) → (m2 : Mem (Node K V)) → m2 ≡ with_word w.memory (at_place p.table p.place) TOMBSTONE
            → SweepWent same hash caller setting began w c blocks p m2 (at.Tries word) (going p (at.Counts word))
        removed found is m2 after_is =
            pairs.went_removed same hash caller setting w c blocks map t p.place over.table.made over.table.known inside (at_place p.table p.place) at_is lawful names.0 key.0 names.1 names.3 stands of_key may current
            word found is m2 after_is (SweepTells same hash caller setting began w c blocks p (at.Tries word) (going p (at.Counts word))) told
          where
            stands : c.place t p.place ≡ Holds names.0 Still names.1
            stands =
                pairs.stands_still same hash caller setting w c blocks map t p.place over.table.made over.table.known inside (at_place p.table p.place) at_is fits names.0 names.1 names.2 names.3
                word found names.4 is

            key : (k : K) × (c.key names.0 ≡ Some k)
            key = let h = map.map.rule.common.keyed t p.place names.0 Still names.1 stands in (h.1, h.2)

            of_key : is_of same (spot_of hash) (is_incremental setting.mode) key.0 (c.key names.0) ≡ true
            of_key = ap (is_of same (spot_of hash) (is_incremental setting.mode) key.0) key.1 ∙ lawful.classes.refl key.0

            root : t ≡ c.first
            root = root_is same hash c began t (is_incremental setting.mode) map.map.rule (upto same hash caller setting w c blocks began map t over.root)
                (live same hash caller setting w c blocks began map t over.root) p.place names.0 names.1 inside stands

            may : MayChange same (spot_of hash) (is_incremental setting.mode) c t key.0
            may = subst (λ (x : ℕ). MayChange same (spot_of hash) (is_incremental setting.mode) c x key.0) (sym root)
                (may_change same hash c began lawful (is_incremental setting.mode) map.map.rule key.0)

            current : c.current names.0 ≡ true
            current = still_current same hash c began (is_incremental setting.mode) map.map.rule p.place names.0 names.1 (ap (λ (x : ℕ). c.place x p.place) (sym root) ∙ stands)

            told : (w2 : World (Node K V)) → IsTakenOut w2 caller setting (after (spot_of hash) (is_incremental setting.mode) (Removes t p.place) c) blocks names.0 t names.1
                → SweepTells same hash caller setting began w c blocks p (at.Tries word) (going p (at.Counts word)) w2 (after (spot_of hash) (is_incremental setting.mode) (Removes t p.place) c) blocks
            told w2 out = (
              record {
                setting_is = setting_is;
                idle = λ rests. idle;
                point = (
                  taking,
                  t,
                  (
                    record {
                      table = record { made = over.table.made; known = over.table.known; is = over.table.is };
                      root = root_less same hash c began t p.place t (is_incremental setting.mode) (is_incremental setting.mode) over.root;
                      marks = over.marks;
                    },
                    inside,
                  ),
                  (
                    names.0,
                    names.1,
                    pairs.left same hash caller setting w c blocks map t p.place over.table.made over.table.known inside (at_place p.table p.place) at_is lawful names.0 key.0 names.1 names.3 stands of_key may current,
                    names.4,
                    out,
                  ),
                );
              },
              (refl, inr (names.0, (t, names.1, over.table, stands, names.4), current, refl, refl)),
            )

        pub went_tries : (m2 : Mem (Node K V)) (end : Sweep × Swept (Node K V)) → Steps Took value_at w.memory (tries p word) m2 end
            → SweepWent same hash caller setting began w c blocks p m2 (at.Tries word) end
        went_tries m2 end s =
            elim (exchanged w.memory (tried p word) (at_place p.table p.place) word TOMBSTONE m2 end s)
            as (λ _. SweepWent same hash caller setting began w c blocks p m2 (at.Tries word) end) [
              | inl d ↦ subst (SweepWent same hash caller setting began w c blocks p m2 (at.Tries word)) (sym d.3) (removed d.0 d.1 m2 d.2)
              | inr d ↦ (let told = sees same hash caller setting began w c blocks map p setting_is idle t over inside d.0
                  (places.word_is same hash caller setting w c blocks map t p.place over.table.made over.table.known inside (at_place p.table p.place) at_is d.0 d.1.0) end d.3 in
                  went_still same hash setting caller w c blocks map m2 d.2 (SweepTells same hash caller setting began w c blocks p (at.Tries word) end) (told.0, (refl, inl (refl, told.1))))
            ]

      -- it counts one pair less
      module _ (fits : (k : K) → hash k < 2 ^ 64) (taken : ℕ) (has : HasTaken same hash w caller setting c blocks began taken t) where
        counted : (m : Mem (Node K V)) → SweepTells same hash caller setting began w c blocks p (at.Counts taken) (going p (at.Disposes (disposing p.setting taken p.table))) (record w { memory = m }) c blocks
        counted m = (
          record {
            setting_is = setting_is;
            idle = λ rests. idle;
            point = (
              taking,
              t,
              (record { table = over.table; root = over.root; marks = over.marks }, inside),
              subst (λ (s : Setting). DisposeFacts (record w { memory = m }) caller setting c blocks (disposing s taken p.table)) (sym setting_is)
                  (dispose_begins hash fits (record w { memory = m }) caller setting c blocks has.0 t taken has.1 has.3 p.table over.table has.2 has.4),
            );
          },
          (refl, refl),
        )

        pub went_counts : (m2 : Mem (Node K V)) (end : Sweep × Swept (Node K V)) → Steps Took value_at w.memory (counts p taken) m2 end
            → SweepWent same hash caller setting began w c blocks p m2 (at.Counts taken) end
        went_counts m2 end s =
            let d = added w.memory (λ out. Now (going {T = Node K V} p (at.Disposes (disposing p.setting taken p.table)))) (Word p.setting.counter (bit_and p.setting.slot p.setting.mask)) (count_change taken) m2 end s in
            subst (SweepWent same hash caller setting began w c blocks p m2 (at.Counts taken)) (sym d.3)
            (went_counted same hash caller setting p.setting setting_is w c blocks map (count_change taken) d.0 d.1 m2 d.2
            (SweepTells same hash caller setting began w c blocks p (at.Counts taken) (going p (at.Disposes (disposing p.setting taken p.table)))) counted)

      -- a step of the disposal of the pair
      module _ (dispose : Dispose) where
        over_then : (w2 : World (Node K V)) (blocks2 : Blocks) → SameBlocks c blocks blocks2 → GoesOver same hash w2 caller setting c blocks2 began p t
        over_then w2 blocks2 same_blocks =
            let kept = same_blocks.tables t over.table.made over.table.known in record {
              table = record {
                made = over.table.made;
                known = kept.1;
                is = over.table.is ∙ ap (λ (b : ℕ). record { link = b * 2048; len = c.len t; limit = c.limit t; turn = t }) (sym kept.0);
              };
              root = over.root;
              marks = over.marks;
            }

        disposed_after : (w2 : World (Node K V)) (blocks2 : Blocks) → IsMapIn same hash setting w2 c blocks2 → SameBlocks c blocks blocks2 → (b : Dispose × Settled (Node K V))
            → DisposeOutcome w2 caller setting c blocks2 b → After same hash caller setting began w2 c blocks2 (disposed p b)
        disposed_after w2 blocks2 map2 same_blocks (next, settled.Goes) told =
            record { setting_is = setting_is; idle = λ rests. idle; point = (taking, t, (let o = over_then w2 blocks2 same_blocks in record { table = o.table; root = o.root; marks = o.marks }, inside), told) }
        disposed_after w2 blocks2 map2 same_blocks (next, settled.Waits) told = absurd told
        disposed_after w2 blocks2 map2 same_blocks (next, settled.Gave value) told = absurd told
        disposed_after w2 blocks2 map2 same_blocks (next, settled.Done) told =
            telling_after same hash caller setting began w2 c blocks2 (further p)
            (goes_further same hash caller setting began w2 c blocks2 map2 p setting_is idle t (over_then w2 blocks2 same_blocks) inside)

        pub went_disposes : DisposeFacts w caller setting c blocks dispose → (IsRowOf dispose.stands → ⊥) → (m2 : Mem (Node K V)) (end : Sweep × Swept (Node K V))
            → Steps Took value_at w.memory (plan_at hash p (at.Disposes dispose)) m2 end → SweepWent same hash caller setting began w c blocks p m2 (at.Disposes dispose) end
        went_disposes f none m2 end s =
            let b = steps_back (disposed p) w.memory m2 (dispose_plan dispose) end s in
            went_as same hash setting caller w c blocks m2 (DisposeTells same hash setting caller w c b.0) (SweepTells same hash caller setting began w c blocks p (at.Disposes dispose) end)
            (λ w2 c2 blocks2 map2 moved same_blocks told. (
              subst (After same hash caller setting began w2 c2 blocks2) (sym b.2)
                  (subst (λ (x : Chart K). After same hash caller setting began w2 x blocks2 (disposed p b.0)) (sym told.1)
                  (disposed_after w2 blocks2 (subst (λ (x : Chart K). IsMapIn same hash setting w2 x blocks2) told.1 map2) same_blocks b.0
                  (subst (λ (x : Chart K). DisposeOutcome w2 caller setting x blocks2 b.0) told.1 told.2))),
              (told.1, b.0, b.2),
            ))
            (went_dispose same hash setting w caller c blocks map dispose f none m2 b.0 b.1)
