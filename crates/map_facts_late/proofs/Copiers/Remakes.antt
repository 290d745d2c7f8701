-- A copier whose source the root has left ends a making of the table behind one that was aborted: another one stands there.
use Rattle.std.specs.Int.{IsPowerOfTwo}
use Rattle.std.proofs.Common.{◌≡◌, ℕ, suc, ◌<◌, ◌≤◌, Bool, false, inl, inr, refl, sym, subst, ◌∙◌, arith}
use Rattle.map_facts.specs.Given.SeizeWordsDeclared.at.At.TheVariants.{Word}
use Rattle.map_facts.specs.Given.SeizeWordsMem.{Mem, Can, Took, value_at}
use Rattle.map_facts.specs.Given.SeizeWordsPlan.{May, Steps}
use Rattle.map_facts.proofs.Given.SeizeWordsPlans.{as_may}
use Rattle.map_facts.specs.Given.SeizeWorld.{World}
use Rattle.map_facts.specs.Given.SeizeDeclared.advance.Advance.{Advance}
use Rattle.map_facts.specs.Given.SeizeDeclared.advance.Advance.TheVariants as progress
use Rattle.map_facts.proofs.Given.SeizeRuleRows.Leaving.{steps_back}
use Rattle.map_facts.specs.Given.TablesChunks.{is_incremental}
use Rattle.map_facts.specs.Given.TablesDeclared.node.Node.{Node}
use Rattle.map_facts.specs.Given.TablesDeclared.setting.Setting.{Setting}
use Rattle.map_facts.specs.Given.TablesDeclared.table.Table.{Table}
use Rattle.map_facts.specs.Given.TablesDeclared.table_words.TheConstants.{NEXT}
use Rattle.map_facts.specs.Given.ResizeCopierFurther.{anew, remade, remakes}
use Rattle.map_facts.specs.Given.ResizeCopierStates.{standing}
use Rattle.map_facts.specs.Given.ResizeNewTable.{new_table_plan}
use Rattle.map_facts.specs.Given.ResizeDeclared.copier.Copier.{Copier}
use Rattle.map_facts.specs.Given.ResizeDeclared.copier.Copying.TheVariants as at
use Rattle.map_facts.specs.Given.ResizeDeclared.new_table.NewTable.{NewTable}
use Rattle.map_facts.specs.Given.ResizeDeclared.yielding.Yielding.{Yielding}
use Rattle.map_facts.specs.Given.RuleChart.{Chart, put}
use Rattle.map_facts.specs.Given.RuleInWorld.{IsMapIn, SameBlocks, SparesPairs}
use Rattle.map_facts.specs.Given.RuleMaps.{spot_of, IsTable}
use Rattle.map_facts.specs.Given.RuleMoments.{Moments}
use Rattle.map_facts.specs.Given.RuleMoves.{Links, after}
use Rattle.map_facts.specs.Given.RuleRule.{IsLawful}
use Rattle.map_facts.specs.Given.RuleWords.{Blocks}
use Rattle.map_facts.proofs.Given.RuleMoves.Writes.{put_elsewhere}
use Rattle.map_facts.proofs.Given.RuleWorld.WentTold.{went_as}
use Rattle.map_facts.specs.FactsTables.{NewTableFacts}
use Rattle.map_facts.specs.Told.{NewTableOutcome, OnlyLinks}
use Rattle.map_facts.proofs.Copiers.CopierLinked.{IsLonger, longer_chart, table_longer}
use Rattle.map_facts.proofs.Making.NewTable.{may_new_table, went_new_table}
use Rattle.map_facts_late.specs.LateCopies.{CopiesSuperseded, CopiesAborted}
use Rattle.map_facts_late.specs.LateTold.{SupersededCopierAfter}
use Rattle.map_facts_late.proofs.Copiers.LateWent.{LateSays, LateCame, aborted_behind}

module _ {K V : Type 0} (same : K → K → Bool) (hash : K → ℕ) (caller : ℕ) (setting : Setting) (began : ℕ) (w : World (Node K V)) (c : Chart K) (blocks : Blocks)
    (map : IsMapIn same hash setting w c blocks) (moments : Moments false c) (p : Copier) (setting_is : p.setting ≡ setting) (u t : ℕ)
    (aborted : CopiesAborted same hash w caller setting c blocks began p u t) (making : NewTable)
    (facts : NewTableFacts w caller setting c blocks (Word (blocks.table t) NEXT) (suc t) making) where
  abbrev late : CopiesSuperseded same hash w caller setting c blocks began p u t
  late = aborted.0

  -- the root has left it, so one stands behind it
  passed : t < c.first
  passed = aborted_behind c t map.map.rule.common.live late.over aborted.1

  there : c.first < c.past
  there = let made = late.target.made in map.map.rule.common.rooted (omega (arith, made))

  made : suc t < c.past
  made = let rooted = there in omega (arith, rooted, passed)

  module _ (w2 : World (Node K V)) (blocks2 : Blocks) (blocks_same : SameBlocks c blocks blocks2) where
    -- the tables that were there are as they were
    module _ (past : ℕ) (len limit status from : ℕ → ℕ) (longer : IsLonger c past len limit)
        (stay : (x : ℕ) → x < c.past → (status x ≡ c.status x) × (from x ≡ c.from x)) where
      abbrev chart : Chart K
      chart = longer_chart c past len limit status from longer

      -- the copier, with a target that was linked while the root was the same
      on : (q : Copier) → q.source ≡ p.source → q.whole ≡ p.whole → (v : ℕ) → IsTable chart blocks2 q.target v → v < c.past → u < v → v ≤ c.first → c.from v ≡ u
          → CopiesSuperseded same hash w2 caller setting chart blocks2 began q u v
      on q source whole v target before order over linked = record {
        source = subst (λ (x : Table). IsTable chart blocks2 x u) (sym source) (table_longer c past len limit status from longer blocks blocks2 blocks_same p.source u late.source);
        target = target;
        order = order;
        left = record { behind = late.left.behind; was_root = λ e. late.left.was_root (sym (stay u late.source.made).0 ∙ e); since = late.left.since };
        over = over;
        from = (stay v before).1 ∙ linked;
        whole = whole ∙ late.whole;
        idle = late.idle;
      }

      remade_told : (end : NewTable × Advance Table) → NewTableOutcome w2 caller setting chart blocks2 (Word (blocks2.table t) NEXT) (suc t) end
          → SupersededCopierAfter same hash caller setting began w2 chart blocks2 (remade p end)
      remade_told (n, progress.Goes) told = inr (record {
        setting_is = setting_is;
        point = (
          u,
          t,
          (
            on (standing p (at.Remakes n)) refl refl t (table_longer c past len limit status from longer blocks blocks2 blocks_same p.target t late.target) late.target.made late.order late.over late.from,
            (stay t late.target.made).0 ∙ aborted.1,
          ),
          told,
        );
      })
      remade_told (n, progress.Waits) told = absurd told
      remade_told (n, progress.Done table) told =
          inr (record { setting_is = setting_is; point = (u, suc t, on (anew p table) refl refl (suc t) target made (omega (arith, order)) (omega (arith, passed)) linked) })
        where
          order : u < t
          order = late.order

          target : IsTable chart blocks2 table (suc t)
          target = subst (λ (x : ℕ). IsTable chart blocks2 table x) told.1 told.2

          linked : c.from (suc t) ≡ u
          linked = moments.follows refl t made aborted.1 ∙ late.from
      remade_told (n, progress.Refused fault) told = inl (record { setting_is = setting_is; point = late.idle })

      longer_told : (end : NewTable × Advance Table) → NewTableOutcome w2 caller setting chart blocks2 (Word (blocks.table t) NEXT) (suc t) end
          → SupersededCopierAfter same hash caller setting began w2 chart blocks2 (remade p end)
      longer_told end told =
          remade_told end (subst (λ (b : ℕ). NewTableOutcome w2 caller setting chart blocks2 (Word b NEXT) (suc t) end) (sym (blocks_same.tables t late.target.made late.target.known).0) told)

    linked_told : (end : NewTable × Advance Table) (c2 : Chart K) → OnlyLinks hash setting.mode c c2
        → NewTableOutcome w2 caller setting c2 blocks2 (Word (blocks.table t) NEXT) (suc t) end
        → SupersededCopierAfter same hash caller setting began w2 c2 blocks2 (remade p end) × (c2.current ≡ c.current)
    linked_told end c2 (inl is) = subst
        (λ (x : Chart K). NewTableOutcome w2 caller setting x blocks2 (Word (blocks.table t) NEXT) (suc t) end
        → SupersededCopierAfter same hash caller setting began w2 x blocks2 (remade p end) × (x.current ≡ c.current))
        (sym is)
        (λ told. (longer_told c.past c.len c.limit c.status c.from (record { more = omega arith; lens = λ x l. (refl, refl) }) (λ x l. (refl, refl)) end told, refl))
    linked_told end c2 (inr (len, limit, is)) = subst
        (λ (x : Chart K). NewTableOutcome w2 caller setting x blocks2 (Word (blocks.table t) NEXT) (suc t) end
        → SupersededCopierAfter same hash caller setting began w2 x blocks2 (remade p end) × (x.current ≡ c.current))
        (sym is)
        (λ told. (
          longer_told (suc c.past) (put c.len c.past len) (put c.limit c.past limit) (after (spot_of hash) (is_incremental setting.mode) (Links len limit) c).status (put c.from c.past c.first)
              (record { more = omega arith; lens = λ x l. (put_elsewhere c.len c.past len x (omega arith), put_elsewhere c.limit c.past limit x (omega arith)) })
              (λ x l. (put_elsewhere c.status c.past _ x (omega (arith, l)), put_elsewhere c.from c.past c.first x (omega (arith, l)))) end told,
          refl,
        ))

  module _ (initial : IsPowerOfTwo setting.initial) where
    pub may_remake : May Can Took value_at w.memory (remakes p making)
    may_remake =
        as_may (remade p) Can Took value_at w.memory (new_table_plan making)
        (may_new_table same hash w setting c blocks map caller (Word (blocks.table t) NEXT) (suc t) initial making facts)

    pub went_remake : IsLawful same (spot_of hash) → (m2 : Mem (Node K V)) (end : Copier × Yielding (Node K V) Table)
        → Steps Took value_at w.memory (remakes p making) m2 end
        → LateCame same hash caller setting began w c blocks m2 end
    went_remake lawful m2 end s =
        let b = steps_back (remade p) w.memory m2 (new_table_plan making) end s in
        subst (LateCame same hash caller setting began w c blocks m2) (sym b.2)
        (went_as same hash setting caller w c blocks m2
        (λ w2 c2 blocks2. SparesPairs w w2 × OnlyLinks hash setting.mode c c2 × NewTableOutcome w2 caller setting c2 blocks2 (Word (blocks.table t) NEXT) (suc t) b.0)
        (LateSays same hash caller setting began w c blocks (remade p b.0))
        (λ w2 c2 blocks2 map2 moved blocks_same told. (told.0, linked_told w2 blocks2 blocks_same b.0 c2 told.1 told.2))
        (went_new_table same hash w setting c blocks map caller (Word (blocks.table t) NEXT) (suc t) initial lawful making facts m2 b.0 b.1))
