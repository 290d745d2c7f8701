-- In blocking mode: a table is linked behind one that the root has left, or a first one was made too late.
use Rattle.std.specs.Prelude.{◌≡◌, ℕ, ◌<◌, cond, eqb, Bool}
use Rattle.std.proofs.Common.{inl, inr, refl, ap, sym, subst, ◌∙◌, arith}
use Rattle.map_facts.specs.Given.SeizeWordsDeclared.at.At.TheVariants.{Root}
use Rattle.map_facts.specs.Given.SeizeWordsMem.{Mem, value_at, Can, Took}
use Rattle.map_facts.specs.Given.SeizeWordsPlan.{May, Steps}
use Rattle.map_facts.specs.Given.SeizeWorld.{World}
use Rattle.map_facts.specs.Given.SeizeDeclared.advance.Advance.{Advance}
use Rattle.map_facts.specs.Given.SeizeDeclared.advance.Advance.TheVariants as progress
use Rattle.map_facts.specs.Given.TablesDeclared.node.Node.{Node}
use Rattle.map_facts.specs.Given.TablesDeclared.setting.Setting.{Setting}
use Rattle.map_facts.specs.Given.TablesDeclared.status.TheConstants.Status.{PENDING, PROMOTED}
use Rattle.map_facts.specs.Given.TablesDeclared.table.Table.{Table}
use Rattle.map_facts.specs.Given.ResizeNewTable.{plan_at, new_table_plan}
use Rattle.map_facts.specs.Given.ResizeDeclared.new_table.NewTable.{NewTable}
use Rattle.map_facts.specs.Given.ResizeDeclared.new_table.Making.{Making as Point}
use Rattle.map_facts.specs.Given.ResizeDeclared.new_table.Making.TheVariants as makes
use Rattle.map_facts.specs.Given.RuleChart.{Chart}
use Rattle.map_facts.specs.Given.RuleWords.{Blocks}
use Rattle.map_facts.specs.Given.RuleMaps.{IsTable}
use Rattle.map_facts.specs.Given.RuleInWorld.{IsMapIn, StepSpec, SparesPairs}
use Rattle.map_facts.proofs.Given.RuleMoves.Writes.{put_elsewhere}
use Rattle.map_facts.proofs.Given.RuleWorld.WentStill.{went_still, spares_same}
use Rattle.map_facts.specs.FactsTables.{first_status}
use Rattle.map_facts.specs.Told.{OnlyLinks}
use Rattle.map_facts.proofs.Making.TableDrops.{may_drops, drops_tell}
use Rattle.map_facts_late.specs.Left.{Left}
use Rattle.map_facts_late.specs.LateCalls.{SupersededFirst, SupersededFirstFacts}

module _ {K : Type 0} (hash : K → ℕ) (setting : Setting) (c c2 : Chart K) (began t : ℕ) where
  -- a table that the root has left stays so, where a table is linked
  pub left_linked : OnlyLinks hash setting.mode c c2 → t < c.past → Left c began t → Left c2 began t
  left_linked (inl e) made left = subst (λ (x : Chart K). Left x began t) (sym e) left
  left_linked (inr (len, limit, e)) made left =
      subst (λ (x : Chart K). Left x began t) (sym e)
      (record {
        behind = left.behind;
        was_root = λ is. left.was_root (sym (put_elsewhere c.status c.past (cond (eqb c.past 0) PROMOTED PENDING) t (λ same. omega (arith, same, made))) ∙ is);
        since = left.since;
      })

  -- and so does where a table came from that is there
  pub from_linked : OnlyLinks hash setting.mode c c2 → t < c.past → c2.from t ≡ c.from t
  from_linked (inl e) made = ap (λ (x : Chart K). x.from t) e
  from_linked (inr (len, limit, e)) made = ap (λ (x : Chart K). x.from t) e ∙ put_elsewhere c.from c.past c.first t (λ same. omega (arith, same, made))

module _ {K V : Type 0} (same : K → K → Bool) (hash : K → ℕ) (caller : ℕ) (setting : Setting) (began : ℕ) (w : World (Node K V)) (c : Chart K) (blocks : Blocks)
    (map : IsMapIn same hash setting w c blocks) (making : NewTable) where
  -- a first table came too late: its making ends with the one that was there
  abbrev pub FirstTells : World (Node K V) → Chart K → Blocks → NewTable × Advance Table → Type 0
  FirstTells w2 c2 blocks2 end = SparesPairs w w2 × (c2 ≡ c) × (table : Table) × (u : ℕ) × IsTable c2 blocks2 table u × Left c2 began u × (end.1 ≡ progress.Done table)

  may_at : (stands : Point) → SupersededFirst w caller setting c blocks began stands → May Can Took value_at w.memory (plan_at making stands)
  may_at (makes.Drops table found) (own, planned, u, left, made, known, is) = may_drops same hash w caller setting c blocks map making table (first_status (Root setting.root)) own found u made known is
  may_at (makes.Over table) point = tt
  may_at (makes.Sums before reason sum) point = absurd point
  may_at (makes.Makes table) point = absurd point
  may_at (makes.Promotes table) point = absurd point
  may_at (makes.Links table) point = absurd point
  may_at (makes.Refused fault) point = absurd point

  went_at : (stands : Point) → SupersededFirst w caller setting c blocks began stands → (m2 : Mem (Node K V)) (end : NewTable × Advance Table) → Steps Took value_at w.memory (plan_at making stands) m2 end
      → StepSpec same hash setting caller w c blocks m2 (λ w2 c2 blocks2. FirstTells w2 c2 blocks2 end)
  went_at (makes.Drops table found) (own, planned, u, left, made, known, is) m2 end steps =
      drops_tell same hash w caller setting c blocks map making table (first_status (Root setting.root)) own found u made known is FirstTells
      (λ w2 map2 spares found_one entered. (spares, refl, found_one, u, entered, left, refl)) m2 end steps
  went_at (makes.Over table) (u, entered, left) m2 end steps =
      went_still same hash setting caller w c blocks map m2 steps.0 (λ w2 c2 blocks2. FirstTells w2 c2 blocks2 end)
      (spares_same w, refl, table, u, entered, left, ap (λ (x : NewTable × Advance Table). x.1) steps.1)
  went_at (makes.Sums before reason sum) point m2 end steps = absurd point
  went_at (makes.Makes table) point m2 end steps = absurd point
  went_at (makes.Promotes table) point m2 end steps = absurd point
  went_at (makes.Links table) point m2 end steps = absurd point
  went_at (makes.Refused fault) point m2 end steps = absurd point

  pub may_first : SupersededFirstFacts w caller setting c blocks began making → May Can Took value_at w.memory (new_table_plan making)
  may_first facts = may_at making.stands facts.point

  pub went_first : SupersededFirstFacts w caller setting c blocks began making → (m2 : Mem (Node K V)) (end : NewTable × Advance Table) → Steps Took value_at w.memory (new_table_plan making) m2 end
      → StepSpec same hash setting caller w c blocks m2 (λ w2 c2 blocks2. FirstTells w2 c2 blocks2 end)
  went_first facts m2 end steps = went_at making.stands facts.point m2 end steps
