-- In blocking mode, a copier makes the table behind one that was given up.
use Rattle.std.specs.Int.{IsPowerOfTwo}
use Rattle.std.proofs.Common.{◌≡◌, ℕ, suc, ◌<◌, Bool, false, cond, eqb, inl, inr, refl, sym, subst, ◌∙◌, arith}
use Rattle.map_rule.specs.Given.SeizeWordsDeclared.at.At.TheVariants.{Word}
use Rattle.map_rule.specs.Given.SeizeWordsMem.{Mem, Can, Took, value_at}
use Rattle.map_rule.specs.Given.SeizeWordsPlan.{May, Steps}
use Rattle.map_rule.proofs.Given.SeizeWordsPlans.{as_may}
use Rattle.papaya_raw.specs.Given.SeizeWorld.{World}
use Rattle.papaya_raw.specs.Given.SeizeDeclared.advance.Advance.{Advance}
use Rattle.papaya_raw.specs.Given.SeizeDeclared.advance.Advance.TheVariants as progress
use Rattle.map_rule.proofs.Given.SeizeRuleRows.Leaving.{steps_back}
use Rattle.papaya_raw.specs.Given.TablesChunks.{is_incremental}
use Rattle.map_rule.specs.Given.ResizeNewTable.{new_table_plan}
use Rattle.map_rule.specs.Given.ResizeCopierFurther.{remade, remakes}
use Rattle.papaya_raw.specs.Given.TablesDeclared.node.Node.{Node}
use Rattle.map_rule.specs.Given.ResizeDeclared.yielding.Yielding.{Yielding}
use Rattle.papaya_raw.specs.Given.TablesDeclared.setting.Setting.{Setting}
use Rattle.papaya_raw.specs.Given.TablesDeclared.status.TheConstants.Status.{PENDING, ABORTED, PROMOTED}
use Rattle.papaya_raw.specs.Given.TablesDeclared.table.Table.{Table}
use Rattle.papaya_raw.specs.Given.TablesDeclared.table_words.TheConstants.{NEXT}
use Rattle.map_rule.specs.Given.ResizeDeclared.new_table.NewTable.{NewTable}
use Rattle.map_rule.specs.Given.ResizeDeclared.copier.Copier.{Copier}
use Rattle.map_rule.specs.Given.ResizeDeclared.copier.Copying.TheVariants as at
use Rattle.map_rule.specs.Chart.{Chart, put}
use Rattle.map_rule.specs.Rule.{Rule, IsLawful}
use Rattle.map_rule.specs.Moves.{Links, after}
use Rattle.map_rule.specs.Words.{Blocks}
use Rattle.map_rule.specs.Maps.{spot_of}
use Rattle.map_rule.specs.InWorld.{IsMapIn, SameBlocks}
use Rattle.map_facts.specs.FactsTables.{NewTableFacts}
use Rattle.map_facts.specs.FactsCopiesBlocking.{RestsIn}
use Rattle.map_facts.specs.Told.{NewTableOutcome, CopierOutcomeBlocking, LinksLast}
use Rattle.map_facts.specs.FactsAloneBlocking.{AloneBlocking, LeadsAlone}
use Rattle.map_facts.proofs.Steps.AloneCharts.{aborted_linked, uncounted_linked}
use Rattle.map_facts.specs.Measures.{OthersIdle}
use Rattle.map_facts.proofs.Copiers.CopierLinked.{IsLonger, longer_chart, table_longer}
use Rattle.map_facts.proofs.Copiers.CopierWent.{CopierTells, CopierCame}
use Rattle.map_facts.proofs.Making.NewTable.{may_new_table, went_new_table_lowers}
use Rattle.map_rule.proofs.Moves.Writes.{put_elsewhere}

module _ {K V : Type 0} (same : K → K → Bool) (hash : K → ℕ) (caller : ℕ) (setting : Setting) (w : World (Node K V)) (c : Chart K) (blocks : Blocks)
    (map : IsMapIn same hash setting w c blocks) (p : Copier) (setting_is : p.setting ≡ setting) (t : ℕ) (rests : RestsIn same hash w caller setting c blocks p t)
    (aborted : c.status t ≡ ABORTED) (making : NewTable) (facts : NewTableFacts w caller setting c blocks (Word (blocks.table t) NEXT) (suc t) making) where
  module _ (w2 : World (Node K V)) (blocks2 : Blocks) (blocks_same : SameBlocks c blocks blocks2) where
    -- the tables that were there are as they were
    module _ (past : ℕ) (len limit status from : ℕ → ℕ) (longer : IsLonger c past len limit) (status_same : (u : ℕ) → u < c.past → status u ≡ c.status u) where
      abbrev chart : Chart K
      chart = longer_chart c past len limit status from longer

      rests_longer : RestsIn same hash w2 caller setting chart blocks2 p t
      rests_longer = (
        (
          table_longer c past len limit status from longer blocks blocks2 blocks_same p.source c.first rests.0.0,
          rests.0.1,
          table_longer c past len limit status from longer blocks blocks2 blocks_same p.target t rests.0.2,
          rests.0.3,
        ),
        rests.1,
        rests.2,
      )

      remade_told : (end : NewTable × Advance Table) → NewTableOutcome w2 caller setting chart blocks2 (Word (blocks2.table t) NEXT) (suc t) end
          → CopierOutcomeBlocking w2 caller setting chart blocks2 same hash (remade p end)
      remade_told (n, progress.Goes) told =
          record { setting_is = setting_is; point = (t, rests_longer, status_same t rests.0.2.made ∙ aborted, told) }
      remade_told (n, progress.Waits) told = absurd told
      remade_told (n, progress.Done table) told =
          record {
            setting_is = setting_is;
            point = (told.0, ((rests_longer.0.0, (let turn = told.1 in omega (arith, turn, rests.0.1)), told.2, rests_longer.0.3), rests.1, rests.2));
          }
      remade_told (n, progress.Refused fault) told = record { setting_is = setting_is; point = rests.2 }

      longer_told : (end : NewTable × Advance Table) → NewTableOutcome w2 caller setting chart blocks2 (Word (blocks.table t) NEXT) (suc t) end
          → CopierOutcomeBlocking w2 caller setting chart blocks2 same hash (remade p end)
      longer_told end told =
          remade_told end (subst (λ (b : ℕ). NewTableOutcome w2 caller setting chart blocks2 (Word b NEXT) (suc t) end) (sym (blocks_same.tables t rests.0.2.made rests.0.2.known).0) told)

    -- where it is alone
    found_alone : (end : NewTable × Advance Table) → NewTableOutcome w2 caller setting c blocks2 (Word (blocks.table t) NEXT) (suc t) end
        → OthersIdle caller c × AloneBlocking c p (at.Remakes making) → LeadsAlone c caller (remade {K = K} {V = V} p end)
    found_alone (n, progress.Goes) told a = a
    found_alone (n, progress.Waits) told a = absurd told
    found_alone (n, progress.Done table) told a = (a.0, (a.1.0, a.1.1, λ spent. absurd (cc (spent, a.1.2))))
    found_alone (n, progress.Refused fault) told a = (a.0, (a.1.0, a.1.1))

    linked_alone : (blocking : is_incremental setting.mode ≡ false) (into : Table) (end : NewTable × Advance Table) → end.1 ≡ progress.Done into
        → OthersIdle caller c × AloneBlocking c p (at.Remakes making)
        → LeadsAlone (after (spot_of hash) (is_incremental setting.mode) (Links into.len into.limit) c) caller (remade {K = K} {V = V} p end)
    linked_alone blocking into (n, progress.Goes) done a = absurd (cc done)
    linked_alone blocking into (n, progress.Waits) done a = absurd (cc done)
    linked_alone blocking into (n, progress.Done table) done a = (
      a.0,
      (
        aborted_linked c same (spot_of hash) rule_blocking (cond (eqb c.past 0) PROMOTED PENDING) a.1.0,
        uncounted_linked c same (spot_of hash) rule_blocking into.len rests.0.0.made a.1.1,
        λ spent. absurd (cc (spent, a.1.2)),
      ),
    )
      where
        rule_blocking : Rule same (spot_of hash) false c
        rule_blocking = subst (λ (b : Bool). Rule same (spot_of hash) b c) blocking map.map.rule
    linked_alone blocking into (n, progress.Refused fault) done a = absurd (cc done)

    linked_told : (blocking : is_incremental setting.mode ≡ false) (end : NewTable × Advance Table) (c2 : Chart K) → LinksLast hash setting.mode (suc t) c c2 end
        → NewTableOutcome w2 caller setting c2 blocks2 (Word (blocks.table t) NEXT) (suc t) end
        → (c2.current ≡ c.current) × CopierOutcomeBlocking w2 caller setting c2 blocks2 same hash (remade p end)
        × (OthersIdle caller c × AloneBlocking c p (at.Remakes making) → LeadsAlone c2 caller (remade {K = K} {V = V} p end))
    linked_told blocking end c2 (inl is) = subst
        (λ (x : Chart K). NewTableOutcome w2 caller setting x blocks2 (Word (blocks.table t) NEXT) (suc t) end
        → (x.current ≡ c.current) × CopierOutcomeBlocking w2 caller setting x blocks2 same hash (remade p end)
        × (OthersIdle caller c × AloneBlocking c p (at.Remakes making) → LeadsAlone x caller (remade {K = K} {V = V} p end)))
        (sym is)
        (λ told. (
          refl,
          longer_told c.past c.len c.limit c.status c.from (record { more = omega arith; lens = λ u l. (refl, refl) }) (λ u l. refl) end told,
          found_alone end told,
        ))
    linked_told blocking end c2 (inr (last, into, done, is)) = subst
        (λ (x : Chart K). NewTableOutcome w2 caller setting x blocks2 (Word (blocks.table t) NEXT) (suc t) end
        → (x.current ≡ c.current) × CopierOutcomeBlocking w2 caller setting x blocks2 same hash (remade p end)
        × (OthersIdle caller c × AloneBlocking c p (at.Remakes making) → LeadsAlone x caller (remade {K = K} {V = V} p end)))
        (sym is)
        (λ told. (
          refl,
          longer_told (suc c.past) (put c.len c.past into.len) (put c.limit c.past into.limit) (after (spot_of hash) (is_incremental setting.mode) (Links into.len into.limit) c).status (put c.from c.past c.first)
              (record { more = omega arith; lens = λ u l. (put_elsewhere c.len c.past into.len u (omega arith), put_elsewhere c.limit c.past into.limit u (omega arith)) })
              (λ u l. put_elsewhere c.status c.past _ u (omega (arith, l)))
              end told,
          linked_alone blocking into end done,
        ))

  module _ (initial : IsPowerOfTwo setting.initial) where
    pub may_remake : May Can Took value_at w.memory (remakes p making)
    may_remake =
        as_may (remade p) Can Took value_at w.memory (new_table_plan making)
        (may_new_table same hash w setting c blocks map caller (Word (blocks.table t) NEXT) (suc t) initial making facts)

    pub went_remake : IsLawful same (spot_of hash) → is_incremental setting.mode ≡ false → (m2 : Mem (Node K V)) (end : Copier × Yielding (Node K V) Table) → Steps Took value_at w.memory (remakes p making) m2 end
        → CopierCame same hash caller setting w c blocks (AloneBlocking c p (at.Remakes making)) m2 end
    went_remake lawful blocking m2 end s =
        let b = steps_back (remade p) w.memory m2 (new_table_plan making) end s in
        let g = went_new_table_lowers same hash w setting c blocks map caller (Word (blocks.table t) NEXT) (suc t) initial lawful making facts m2 b.0 b.1 in
        let l = linked_told g.w2 g.blocks2 g.blocks_same blocking b.0 g.c2 g.told.1 g.told.2 in
        record {
          w2 = g.w2;
          c2 = g.c2;
          blocks2 = g.blocks2;
          events = g.events;
          users = g.users;
          its = g.its;
          runs = g.runs;
          memory = g.memory;
          frame = g.frame;
          tables = g.tables;
          links = g.links;
          spares = g.spares;
          moved = g.moved;
          map = g.map;
          blocks_same = g.blocks_same;
          told = subst (λ (x : Copier × Yielding (Node K V) Table). CopierTells same hash caller setting w c blocks (AloneBlocking c p (at.Remakes making)) x g.w2 g.c2 g.blocks2) (sym b.2)
              ((g.told.0, l.0, l.1), l.2);
        }
