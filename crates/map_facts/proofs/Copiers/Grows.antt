-- In incremental mode, a copier has a table made for its pair, behind one that has no place for it.
use Rattle.std.specs.Prelude.{◌==◌, if◌then◌else◌}
use Rattle.std.proofs.Common.{◌≡◌, ℕ, suc, ◌<◌, Bool, true, false, inl, inr, refl, sym, subst, arith}
use Rattle.std.specs.Int.{IsPowerOfTwo}
use Rattle.std.proofs.lemmas.Bool.{eqb-true}
use Rattle.map_rule.specs.Given.SeizeWordsDeclared.at.At.TheVariants.{Word}
use Rattle.map_rule.specs.Given.SeizeWordsDeclared.fault.Fault.{Fault}
use Rattle.map_rule.specs.Given.SeizeWordsMem.{Mem, value_at, Can, Took}
use Rattle.map_rule.specs.Given.SeizeWordsPlan.{May, Steps}
use Rattle.map_rule.proofs.Given.SeizeWordsPlans.{as_may}
use Rattle.papaya_raw.specs.Given.SeizeWorld.{World}
use Rattle.papaya_raw.specs.Given.SeizeDeclared.advance.Advance.{Advance}
use Rattle.papaya_raw.specs.Given.SeizeDeclared.advance.Advance.TheVariants as progress
use Rattle.map_rule.proofs.Given.SeizeRuleRows.Leaving.{steps_back}
use Rattle.papaya_raw.specs.Given.TablesChunks.{is_incremental}
use Rattle.map_rule.specs.Given.ResizeNewTable.{new_table_plan}
use Rattle.map_rule.specs.Given.ResizeCopierStates.{standing}
use Rattle.map_rule.specs.Given.ResizeCopierCounts.{refusing}
use Rattle.map_rule.specs.Given.ResizeCopierFurther.{grown, grows}
use Rattle.papaya_raw.specs.Given.TablesDeclared.node.Node.{Node}
use Rattle.map_rule.specs.Given.ResizeDeclared.yielding.Yielding.{Yielding}
use Rattle.papaya_raw.specs.Given.TablesDeclared.setting.Setting.{Setting}
use Rattle.papaya_raw.specs.Given.TablesDeclared.table.Table.{Table}
use Rattle.papaya_raw.specs.Given.TablesDeclared.table_words.TheConstants.{NEXT}
use Rattle.map_rule.specs.Given.ResizeDeclared.new_table.NewTable.{NewTable}
use Rattle.map_rule.specs.Given.ResizeDeclared.copier.Copier.{Copier}
use Rattle.map_rule.specs.Given.ResizeDeclared.copier.Copying.TheVariants as at
use Rattle.map_rule.specs.Chart.{Chart, put}
use Rattle.map_rule.specs.Moves.{Links, NamedInRootAlone, after}
use Rattle.map_rule.specs.Rule.{IsLawful}
use Rattle.map_rule.specs.Words.{Blocks}
use Rattle.map_rule.specs.Maps.{spot_of, IsTable}
use Rattle.map_rule.specs.InWorld.{IsMapIn, SameBlocks, StepSpec, SparesPairs}
use Rattle.map_facts.specs.FactsCopies.{Works, LooksFor, CopyingFacts, CopierFacts}
use Rattle.map_facts.specs.Told.{NewTableOutcome, CopierOutcome, OnlyLinks, LinksLast}
use Rattle.map_facts.specs.ToldMoves.{MovedPlain}
use Rattle.map_facts.proofs.Copiers.CopiersWrote.{CopierPlain}
use Rattle.map_facts.proofs.Copiers.CopierLinked.{IsLonger, longer_chart, works_longer, looks_longer}
use Rattle.map_facts.proofs.Copiers.CopierTries.{works_standing, facts_probing}
use Rattle.map_rule.proofs.Moves.Writes.{put_elsewhere}
use Rattle.map_facts.proofs.Making.NewTable.{Lowers, only_links, may_new_table, went_new_table_lowers}
use Rattle.map_rule.proofs.World.WentTold.{went_as}
use Rattle.map_facts.proofs.Copiers.Probes.{table_lens}

module _ {K V : Type 0} (same : K → K → Bool) (hash : K → ℕ) (setting : Setting) where
  -- a copier that has none made for its pair is to be refused
  pub facts_refusing : (w : World (Node K V)) (caller : ℕ) (c : Chart K) (blocks : Blocks) (p : Copier) (word n : ℕ) (k : K) (fault : Fault) → p.setting ≡ setting
      → Works same hash w caller setting c blocks p n k word → NamedInRootAlone same (spot_of hash) true c k → CopierFacts same hash w caller setting c blocks (refusing p word fault)
  facts_refusing w caller c blocks p word n k fault is works alone = by_done (p.done == 0) (eqb-true p.done 0)
    where
      by_done : (b : Bool) → (b ≡ true → p.done ≡ 0)
          → CopierFacts same hash w caller setting c blocks (if b then standing p (at.Unmarks word fault) else standing p (at.Tallies word fault))
      by_done true none = record {
        setting_is = is;
        point = ((n, k, works_standing same hash w caller setting c blocks p (at.Unmarks word fault) n k word works, alone), none refl);
      }
      by_done false none = record {
        setting_is = is;
        point = (n, k, works_standing same hash w caller setting c blocks p (at.Tallies word fault) n k word works, alone);
      }

  module _ (w2 : World (Node K V)) (caller : ℕ) (c2 : Chart K) (blocks2 : Blocks) (map2 : IsMapIn same hash setting w2 c2 blocks2)
      (p : Copier) (word code n t : ℕ) (k : K) (setting_is : p.setting ≡ setting) (works : Works same hash w2 caller setting c2 blocks2 p n k word) (code_is : code ≡ hash k)
      (later : c2.first < t) (looks : LooksFor same hash w2 caller setting c2 blocks2 k (suc t)) (made : t < c2.past) (known : blocks2.table_known t ≡ true) where
    -- where the making of the table has come to
    pub grown_told : (end : NewTable × Advance Table) → NewTableOutcome w2 caller setting c2 blocks2 (Word (blocks2.table t) NEXT) (suc t) end
        → CopierOutcome w2 caller setting c2 blocks2 same hash (grown p word code end)
    grown_told (making, progress.Goes) told = record {
      setting_is = setting_is;
      point = (
        n,
        k,
        t,
        works_standing same hash w2 caller setting c2 blocks2 p (at.Grows word code making) n k word works,
        code_is,
        later,
        looks,
        made,
        known,
        told,
      );
    }
    grown_told (making, progress.Waits) told = absurd told
    grown_told (making, progress.Done table) told =
        facts_probing same hash w2 caller setting c2 blocks2 p word code table n (suc t) k setting_is (table_lens same hash setting w2 caller c2 blocks2 map2) works code_is (omega arith)
        (subst (λ (u : ℕ). IsTable c2 blocks2 table u) told.1 told.2) looks
    grown_told (making, progress.Refused fault) told = facts_refusing w2 caller c2 blocks2 p word n k fault setting_is works looks.0

  module _ (w : World (Node K V)) (caller : ℕ) (c : Chart K) (blocks : Blocks) (map : IsMapIn same hash setting w c blocks) (p : Copier) (word code : ℕ) (making : NewTable)
      (facts : CopyingFacts same hash w caller setting c blocks p (at.Grows word code making)) where
    abbrev t : ℕ
    t = facts.2

    module _ (setting_is : p.setting ≡ setting) (w2 : World (Node K V)) (blocks2 : Blocks) (blocks_same : SameBlocks c blocks blocks2) (end : NewTable × Advance Table) where
      -- the tables that were there are as they were
      longer_told : (past : ℕ) (len limit status from : ℕ → ℕ) (longer : IsLonger c past len limit)
          → IsMapIn same hash setting w2 (longer_chart c past len limit status from longer) blocks2
          → NewTableOutcome w2 caller setting (longer_chart c past len limit status from longer) blocks2 (Word (blocks.table t) NEXT) (suc t) end
          → CopierOutcome w2 caller setting (longer_chart c past len limit status from longer) blocks2 same hash (grown p word code end)
      longer_told past len limit status from longer map2 told =
          grown_told w2 caller (longer_chart c past len limit status from longer) blocks2 map2 p word code facts.0 t facts.1 setting_is
          (works_longer same hash w w2 caller setting c past len limit status from longer rooted blocks blocks2 blocks_same p facts.0 facts.1 word was seen facts.3)
          facts.4 facts.5 (looks_longer same hash w w2 caller setting c past len limit status from longer rooted blocks blocks2 blocks_same facts.1 (suc t) (let made = facts.7 in omega arith) facts.6)
          (let made = facts.7 in let more = longer.more in omega arith) (blocks_same.tables t facts.7 facts.8).1 end
          (subst (λ (b : ℕ). NewTableOutcome w2 caller setting (longer_chart c past len limit status from longer) blocks2 (Word b NEXT) (suc t) end) (sym (blocks_same.tables t facts.7 facts.8).0) told)
        where
          rooted : c.first < c.past
          rooted = facts.3.copies.0.made

          was : facts.0 < c.stored
          was = (map.map.rule.common.keyed c.first p.place facts.0 _ facts.3.borrowed facts.3.place).0

          seen : blocks.pair_known facts.0 ≡ true
          seen = map.map.shows.named c.first p.place facts.0 _ facts.3.borrowed facts.3.copies.0.made facts.3.copies.0.known facts.3.place

      linked_told : (c2 : Chart K) → OnlyLinks hash setting.mode c c2 → IsMapIn same hash setting w2 c2 blocks2
          → NewTableOutcome w2 caller setting c2 blocks2 (Word (blocks.table t) NEXT) (suc t) end
          → (c2.current ≡ c.current) × CopierOutcome w2 caller setting c2 blocks2 same hash (grown p word code end)
      linked_told c2 (inl is) = subst
          (λ (x : Chart K). IsMapIn same hash setting w2 x blocks2 → NewTableOutcome w2 caller setting x blocks2 (Word (blocks.table t) NEXT) (suc t) end
          → (x.current ≡ c.current) × CopierOutcome w2 caller setting x blocks2 same hash (grown p word code end))
          (sym is)
          (λ map2 told. (refl, longer_told c.past c.len c.limit c.status c.from (record { more = omega arith; lens = λ u l. (refl, refl) }) map2 told))
      linked_told c2 (inr (len, limit, is)) = subst
          (λ (x : Chart K). IsMapIn same hash setting w2 x blocks2 → NewTableOutcome w2 caller setting x blocks2 (Word (blocks.table t) NEXT) (suc t) end
          → (x.current ≡ c.current) × CopierOutcome w2 caller setting x blocks2 same hash (grown p word code end))
          (sym is)
          (λ map2 told. (
            refl,
            longer_told (suc c.past) (put c.len c.past len) (put c.limit c.past limit) (after (spot_of hash) (is_incremental setting.mode) (Links len limit) c).status (put c.from c.past c.first)
                (record { more = omega arith; lens = λ u l. (put_elsewhere c.len c.past len u (omega arith), put_elsewhere c.limit c.past limit u (omega arith)) })
                map2 told,
          ))

    module _ (initial_is : IsPowerOfTwo setting.initial) where
      pub may_grows : May Can Took value_at w.memory (grows p word code making)
      may_grows = as_may (grown p word code) Can Took value_at w.memory (new_table_plan making)
          (may_new_table same hash w setting c blocks map caller (Word (blocks.table t) NEXT) (suc t) initial_is making facts.9)

      -- What the step of the making came to, too: a table that it linked is the last one.
      abbrev pub GrownTells : Copier × Yielding (Node K V) Table → World (Node K V) → Chart K → Blocks → Type 0
      GrownTells end w2 c2 blocks2 =
          SparesPairs w w2 × (c2.current ≡ c.current) × CopierOutcome w2 caller setting c2 blocks2 same hash end
          × (b : NewTable × Advance Table) × (end ≡ grown p word code b) × Steps Took value_at w.memory (new_table_plan making) w2.memory b
          × LinksLast hash setting.mode (suc t) c c2 b × NewTableOutcome w2 caller setting c2 blocks2 (Word (blocks.table t) NEXT) (suc t) b × Lowers making b

      pub went_grown : IsLawful same (spot_of hash) → p.setting ≡ setting → (m2 : Mem (Node K V)) (end : Copier × Yielding (Node K V) Table)
          → Steps Took value_at w.memory (grows p word code making) m2 end → StepSpec same hash setting caller w c blocks m2 (GrownTells end)
      went_grown lawful setting_is m2 end s =
          let b = steps_back (grown p word code) w.memory m2 (new_table_plan making) end s in
          let g = went_new_table_lowers same hash w setting c blocks map caller (Word (blocks.table t) NEXT) (suc t) initial_is lawful making facts.9 m2 b.0 b.1 in
          let l = linked_told setting_is g.w2 g.blocks2 g.blocks_same b.0 g.c2 (only_links hash setting.mode (suc t) c g.c2 b.0 g.told.1) g.map g.told.2 in
          record {
            w2 = g.w2;
            c2 = g.c2;
            blocks2 = g.blocks2;
            events = g.events;
            users = g.users;
            its = g.its;
            runs = g.runs;
            memory = g.memory;
            frame = g.frame;
            tables = g.tables;
            links = g.links;
            spares = g.spares;
            moved = g.moved;
            map = g.map;
            blocks_same = g.blocks_same;
            told = (
              g.told.0,
              l.0,
              subst (λ (x : Copier × Yielding (Node K V) Table). CopierOutcome g.w2 caller setting g.c2 g.blocks2 same hash x) (sym b.2) l.1,
              b.0,
              b.2,
              subst (λ (m : Mem (Node K V)). Steps Took value_at w.memory (new_table_plan making) m b.0) (sym g.memory) b.1,
              g.told.1,
              g.told.2,
              g.told.3,
            );
          }

      -- no change was made, or a table was linked
      pub grown_plain : (c2 : Chart K) (b : NewTable × Advance Table) → LinksLast hash setting.mode (suc t) c c2 b → MovedPlain hash caller c c2
      grown_plain c2 b (inl e) = inl e
      grown_plain c2 b (inr l) = inr (Links l.1.len l.1.limit, tt, l.3)

      pub went_grows : IsLawful same (spot_of hash) → p.setting ≡ setting → (m2 : Mem (Node K V)) (end : Copier × Yielding (Node K V) Table)
          → Steps Took value_at w.memory (grows p word code making) m2 end → CopierPlain same hash caller setting w c blocks m2 end
      went_grows lawful setting_is m2 end s =
          went_as same hash setting caller w c blocks m2 (GrownTells end)
          (λ w2 c2 blocks2. SparesPairs w w2 × (c2.current ≡ c.current) × CopierOutcome w2 caller setting c2 blocks2 same hash end × MovedPlain hash caller c c2)
          (λ w2 c2 blocks2 map2 moved blocks_same told. (told.0, told.1, told.2, grown_plain c2 told.3 told.6)) (went_grown lawful setting_is m2 end s)
