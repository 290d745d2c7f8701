-- Which words a copier leaves as they are, in incremental mode: no other ones than in blocking mode.
use Rattle.std.specs.Prelude.{◌≡◌, ℕ, suc, ◌<◌, Bool, true, false}
use Rattle.std.proofs.Common.{sym, subst, arith}
use Rattle.many_maps.specs.Given.SeizeWordsDeclared.at.At.{At}
use Rattle.many_maps.specs.Given.SeizeWordsDeclared.at.At.TheVariants.{Root, Word}
use Rattle.many_maps.specs.Given.SeizeWordsMem.{same_at}
use Rattle.many_maps.specs.Given.SeizeWorld.{World}
use Rattle.many_maps.specs.Given.ResizeNewTable.{new_table_plan}
use Rattle.many_maps.specs.Given.ResizeCopier.{copier_plan, plan_at}
use Rattle.many_maps.specs.Given.ResizeCopierFurther.{grown}
use Rattle.many_maps.specs.Given.TablesTablePlaces.{at_word, at_place}
use Rattle.many_maps.specs.Given.TablesDeclared.node.Node.{Node}
use Rattle.many_maps.specs.Given.TablesDeclared.setting.Setting.{Setting}
use Rattle.many_maps.specs.Given.TablesDeclared.table.Table.{Table}
use Rattle.many_maps.specs.Given.TablesDeclared.table_words.TheConstants.{NEXT, CLAIM, COPIED, STATUS}
use Rattle.many_maps.specs.Given.ResizeDeclared.copier.Copier.{Copier}
use Rattle.many_maps.specs.Given.ResizeDeclared.copier.Copying.{Copying}
use Rattle.many_maps.specs.Given.ResizeDeclared.copier.Copying.TheVariants as copies
use Rattle.many_maps.specs.Given.RuleChart.{Chart}
use Rattle.many_maps.specs.Given.RuleWords.{Blocks}
use Rattle.many_maps.specs.Given.RuleMaps.{IsTable}
use Rattle.many_maps.specs.Given.RuleInWorld.{IsMapIn}
use Rattle.many_maps.specs.Given.PointsFactsCopies.{CopyingFacts}
use Rattle.many_maps.specs.Given.PointsTold.{IsRowOfCopier}
use Rattle.many_maps.proofs.Given.RuleKeys.TriesSeen.{spot_inside}
use Rattle.many_maps.proofs.Given.RuleSpared.{PlanSpares, spares_as}
use Rattle.owner_facts.proofs.Alone.Spared.Calls.{IsApart, in_table, in_place, new_table_spares}

module _ {K V : Type 0} (same : K → K → Bool) (hash : K → ℕ) (w : World (Node K V)) (caller : ℕ) (setting : Setting) (c : Chart K) (blocks : Blocks) (x : At)
    (map : IsMapIn same hash setting w c blocks) (apart : IsApart same hash w caller setting c blocks x) where
  pub helper_spares : (p : Copier) → CopyingFacts same hash w caller setting c blocks p p.stands → (IsRowOfCopier p.stands → ⊥) → p.setting ≡ setting
      → same_at x (Root setting.root) ≡ false → ((t : ℕ) → t < c.past → blocks.table_known t ≡ true → same_at x (Word (blocks.table t) NEXT) ≡ false)
      → PlanSpares {T = Node K V} x (copier_plan hash p)
  helper_spares p facts none setting_is no_root no_next = by p.stands facts none
    where
      -- a word of a table that it has entered
      word : (table : Table) (t field : ℕ) → IsTable c blocks table t → 0 < field → same_at x (at_word table field) ≡ false
      word table t field entered some = in_table same hash w caller setting c blocks x map apart table t field entered some

      -- the word of a place
      place : (table : Table) (t i : ℕ) → IsTable c blocks table t → i < c.len t → same_at x (at_place table i) ≡ false
      place table t i entered inside = in_place same hash w caller setting c blocks x map apart table t i entered inside

      by : (stands : Copying) → CopyingFacts same hash w caller setting c blocks p stands → (IsRowOfCopier stands → ⊥) → PlanSpares {T = Node K V} x (plan_at hash p stands)
      by copies.Begins f row = tt
      by copies.Follows f row = tt
      by copies.Asks f row = tt
      by copies.Sees f row = tt
      by copies.Claims f row = word p.target (suc f.0) CLAIM f.1.1 (omega arith)
      by copies.Marks f row = place p.source f.0 p.place f.1.0 f.4.0
      by (copies.Probes w2 code table probe) f row = tt
      by (copies.Puts w2 code table probe) f row =
          let trial = f.7 in
          place table f.2 probe.i trial.table
          (let at = trial.place in let i = spot_inside (c.len f.2) code f.3 (map.map.rule.common.lens f.2 trial.table.made).0 in omega (arith, at, i))
      by (copies.Covers w2) f row = place p.source c.first p.place f.2.copies.0 f.2.in_range.0
      by (copies.Passes w2 code table) f row = tt
      by (copies.Grows w2 code making) f row =
          spares_as x (grown p w2 code) (new_table_plan making)
          (new_table_spares same hash w caller setting c blocks x map apart (Word (blocks.table f.2) NEXT) (suc f.2) making f.9 (λ table is. no_next f.2 f.7 f.8))
      by copies.Counts f row = word p.target (suc c.first) COPIED f.0.1 (omega arith)
      by (copies.Tallies w2 fault) f row = word p.target (suc c.first) COPIED f.2.copies.1 (omega arith)
      by (copies.Unmarks w2 fault) f row = place p.source c.first p.place f.0.2.copies.0 f.0.2.in_range.0
      by (copies.Unclaims fault) f row = word p.target (suc f.0) CLAIM f.1.1 (omega arith)
      by copies.Promotes f row = subst (λ (s : Setting). same_at x (Root s.root) ≡ false) (sym setting_is) no_root
      by copies.Announces f row = word p.target (suc f.0.0) STATUS f.0.3 (omega arith)
      by (copies.Succeeds table) f row = tt
      by (copies.Retires settle rest) f row = absurd (row tt)
      by copies.Over f row = tt
      by (copies.Refused fault) f row = tt
      by copies.Aborts f row = absurd f
      by copies.Replaces f row = absurd f
      by (copies.Remakes making) f row = absurd f
