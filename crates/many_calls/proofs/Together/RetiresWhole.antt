-- A copier of a whole table that stands at the retirement of the first of the tables that it has unlinked: once that is handed over, it knows what it is
-- to know.
use Rattle.std.specs.Prelude.{◌≡◌, ℕ, ◌<◌, cond, Bool, true, false}
use Rattle.std.proofs.Common.{sym, subst, arith, refl}
use Rattle.seize_model.specs.Given.SeizeDeclared.rows.settle.Settle.{Settle}
use Rattle.seize_model.specs.Given.SeizeWorld.{World, Row, Use}
use Rattle.map_facts_late.specs.Given.TablesChunks.{is_incremental}
use Rattle.map_facts_late.specs.Given.TablesDeclared.node.Node.{Node}
use Rattle.map_facts_late.specs.Given.TablesDeclared.setting.Setting.{Setting}
use Rattle.map_facts_late.specs.Given.ResizeCopierPromotes as retiring
use Rattle.map_facts_late.specs.Given.ResizeCopierStates as copiers
use Rattle.map_facts_late.specs.Given.ResizeDeclared.copier.Copier.{Copier}
use Rattle.map_facts_late.specs.Given.ResizeDeclared.copier.Copying.TheVariants as copies
use Rattle.map_facts_late.specs.Given.RuleChart.{Chart}
use Rattle.map_facts_late.specs.Given.RuleWords.{Blocks}
use Rattle.map_facts_late.specs.Given.RuleInWorld.{IsMapIn}
use Rattle.map_facts_late.specs.Given.PointsFactsCopies.{CopierFacts}
use Rattle.map_facts_late.specs.Given.PointsFactsCopiesBlocking.{CopierFactsBlocking}
use Rattle.map_facts_late.specs.Given.PointsFactsDisposes.{IsToRetire}
use Rattle.map_facts_late.specs.LateCopies.{SupersededCopierFacts}
use Rattle.map_facts_late.specs.FactsReserves.{IsEnding, CopiesWhole}
use Rattle.many_calls.proofs.Together.RetiresBlocking.{handed_over, copier_past, late_copier_past}

module _ {K V : Type 0} (same : K → K → Bool) (hash : K → ℕ) (setting : Setting) (w : World (Node K V)) (c : Chart K) (blocks : Blocks) (map : IsMapIn same hash setting w c blocks)
    (caller began : ℕ) (p : Copier) (settle : Settle) (rest : ℕ) where
  -- where it stands before, and after
  abbrev now : Copier
  now = copiers.standing p (copies.Retires settle rest)

  abbrev then : Copier
  then = retiring.table_retired p rest

  -- the table that it retires, and what is so once that is handed over
  pub record RetiresTable (Then : World (Node K V) → Type 0) : Type 0 where
    pub t : ℕ
    pub made : t < c.past
    pub known : blocks.table_known t ≡ true
    pub its : IsToRetire w caller setting settle (blocks.table t)
    pub knows : (row : ℕ → Row) (uses : ℕ → Use) → Then (handed_over w (blocks.table t) row uses)

  -- what is so besides
  pub retires_as : (Then Then2 : World (Node K V) → Type 0) → ((v : World (Node K V)) → Then v → Then2 v) → RetiresTable Then → RetiresTable Then2
  retires_as Then Then2 on r = record { t = r.t; made = r.made; known = r.known; its = r.its; knows = λ row uses. on (handed_over w (blocks.table r.t) row uses) (r.knows row uses) }

  abbrev Whole : World (Node K V) → Copier → Bool → Type 0
  Whole v q b = cond b ((q.whole ≡ true) × CopierFacts same hash v caller setting c blocks q × IsEnding same hash v caller setting c blocks q q.stands) (CopierFactsBlocking same hash v caller setting c blocks q)

  abbrev WholeThen : World (Node K V) → Type 0
  WholeThen v = CopiesWhole same hash v caller setting c blocks then

  in_incremental : Whole w now true → is_incremental setting.mode ≡ true → RetiresTable WholeThen
  in_incremental (whole, facts, ending) bits =
      let f = facts.point in record {
        t = f.0;
        made = (let m = ending.1.made in let l = f.1 in let e = ending.2 in let r = map.map.rule.common.rooted (omega (arith, m)) in omega (arith, l, r));
        known = f.6;
        its = f.2;
        knows = λ row uses. subst (Whole (handed_over w (blocks.table f.0) row uses) then) (sym bits)
            (subst (λ (x : ℕ). Whole (handed_over w (blocks.table f.0) row uses) (retiring.table_retired p x) true) (sym f.3)
            (whole, record { setting_is = facts.setting_is; point = (f.4, f.5) }, ending));
      }

  in_blocking : CopierFactsBlocking same hash w caller setting c blocks now → is_incremental setting.mode ≡ false → RetiresTable WholeThen
  in_blocking facts blocking =
      let f = facts.point in record {
        t = f.0;
        made = (let l = f.1.0 in let m = f.1.1.made in omega (arith, l, m));
        known = (f.1.3 f.0 (omega arith) f.1.0).0;
        its = f.2;
        knows = λ row uses. subst (Whole (handed_over w (blocks.table f.0) row uses) then) (sym blocking)
            (copier_past same hash setting w c blocks map caller row uses now settle rest facts.setting_is f);
      }

  -- in the root's table
  pub retires_whole : CopiesWhole same hash w caller setting c blocks now → RetiresTable WholeThen
  retires_whole = by (is_incremental setting.mode) refl
    where
      by : (b : Bool) → is_incremental setting.mode ≡ b → Whole w now b → RetiresTable WholeThen
      by true bits whole = in_incremental whole bits
      by false blocking facts = in_blocking facts blocking

  -- in one that the root has left
  pub retires_late : SupersededCopierFacts same hash w caller setting c blocks began now → RetiresTable (λ v. SupersededCopierFacts same hash v caller setting c blocks began then)
  retires_late facts =
      let f = facts.point in record {
        t = f.0;
        made = (let l = f.2.0 in let m = f.2.1.made in omega (arith, l, m));
        known = (f.2.4 f.0 (omega arith) f.2.0).0;
        its = f.3;
        knows = λ row uses. late_copier_past same hash setting w c blocks map caller row uses began now settle rest facts.setting_is f;
      }
