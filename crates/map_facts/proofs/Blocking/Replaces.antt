-- In blocking mode, a copier goes on with the table behind one that was given up, or is to make it.
use Rattle.std.specs.Prelude.{Some}
use Rattle.std.specs.Int.{IsPowerOfTwo}
use Rattle.std.proofs.Common.{◌≡◌, ℕ, suc, ◌/◌, ◌<◌, ◌==◌, Bool, true, false, cond, ◌⊎◌, inl, inr, sym, subst, arith}
use Rattle.std.proofs.lemmas.Bool.{eqb-false}
use Rattle.map_rule.specs.Given.SeizeWordsDeclared.at.At.TheVariants.{Word}
use Rattle.map_rule.specs.Given.SeizeWordsMem.{Mem, Took, value_at, word_at}
use Rattle.map_rule.specs.Given.SeizeWordsPlan.{Steps}
use Rattle.map_rule.proofs.Given.SeizeWordsOneOwner.Operations.{loaded}
use Rattle.map_rule.proofs.Given.SeizeWordsPlans.{ends_if}
use Rattle.papaya_raw.specs.Given.SeizeWorld.{World}
use Rattle.papaya_raw.specs.Given.TablesChunks.{is_incremental}
use Rattle.papaya_raw.specs.Given.TablesNodes.{table_seen}
use Rattle.map_rule.specs.Given.ResizeNewTable.{table_after}
use Rattle.papaya_raw.specs.Given.TablesDeclared.lengths.Reason.TheVariants.{NoPlace}
use Rattle.papaya_raw.specs.Given.TablesDeclared.node.Node.{Node}
use Rattle.map_rule.specs.Given.ResizeDeclared.yielding.Yielding.{Yielding}
use Rattle.map_rule.specs.Given.ResizeDeclared.yielding.Yielding.TheVariants.{Goes}
use Rattle.papaya_raw.specs.Given.TablesDeclared.setting.Setting.{Setting}
use Rattle.papaya_raw.specs.Given.TablesDeclared.status.TheConstants.Status.{ABORTED}
use Rattle.papaya_raw.specs.Given.TablesDeclared.table.Table.{Table}
use Rattle.papaya_raw.specs.Given.TablesDeclared.table_words.TheConstants.{NEXT}
use Rattle.map_rule.specs.Given.ResizeDeclared.copier.Copier.{Copier}
use Rattle.map_rule.specs.Given.ResizeDeclared.copier.Copying.TheVariants as at
use Rattle.papaya_raw.specs.Given.TablesTablePlaces.{at_word}
use Rattle.map_rule.specs.Given.ResizeCopierStates.{standing}
use Rattle.map_rule.specs.Given.ResizeCopierFurther.{anew, replacement_read, replaces}
use Rattle.map_rule.specs.Chart.{Chart}
use Rattle.map_rule.specs.Words.{Blocks}
use Rattle.map_rule.specs.InWorld.{IsMapIn}
use Rattle.map_facts.specs.FactsTables.{NewTableFacts}
use Rattle.map_facts.specs.FactsCopiesBlocking.{RestsIn}
use Rattle.map_facts.specs.FactsAloneBlocking.{AloneBlocking}
use Rattle.map_facts.proofs.Copiers.CopierWent.{CopierCame, copier_goes}
use Rattle.map_facts.proofs.Making.TablesBegin.{table_after_facts}
use Rattle.map_facts.proofs.Blocking.Targets.{leads_to_table, table_behind}

module _ {K V : Type 0} (same : K → K → Bool) (hash : K → ℕ) (caller : ℕ) (setting : Setting) (w : World (Node K V)) (c : Chart K) (blocks : Blocks)
    (map : IsMapIn same hash setting w c blocks) (blocking : is_incremental setting.mode ≡ false) (initial : IsPowerOfTwo setting.initial) (p : Copier) (setting_is : p.setting ≡ setting)
    (t : ℕ) (rests : RestsIn same hash w caller setting c blocks p t) (aborted : c.status t ≡ ABORTED) where
  pub went_replace : (m2 : Mem (Node K V)) (end : Copier × Yielding (Node K V) Table) → Steps Took value_at w.memory (replaces p) m2 end
      → CopierCame same hash caller setting w c blocks (AloneBlocking c p at.Replaces) m2 end
  went_replace m2 end s =
      let read = loaded w.memory (replacement_read p) (at_word p.target NEXT) m2 end s in
      by_link read.0 read.1 read.2 (ends_if (value_at w.memory) (read.0 == 0) _ _ end read.3)
    where
      free : cond (is_incremental setting.mode) (Unit {0}) (c.first < t → c.status t ≡ ABORTED)
      free = subst (λ (b : Bool). cond b (Unit {0}) (c.first < t → c.status t ≡ ABORTED)) (sym blocking) (λ l. aborted)

      making : NewTableFacts w caller setting c blocks (Word (blocks.table t) NEXT) (suc t) (table_after p.setting p.target NoPlace)
      making =
          subst (λ (x : Setting). NewTableFacts w caller setting c blocks (Word (blocks.table t) NEXT) (suc t) (table_after x p.target NoPlace)) (sym setting_is)
          (table_after_facts w caller setting c blocks p.target t rests.0.2 free (map.map.shows.sized t rests.0.2.made) initial NoPlace)

      by_link : (link : ℕ) → word_at w.memory (at_word p.target NEXT) ≡ Some link → m2 ≡ w.memory
          → (((link == 0) ≡ true) × (end ≡ (standing p (at.Remakes (table_after p.setting p.target NoPlace)), Goes)))
          ⊎ (((link == 0) ≡ false) × ((value : Node K V) × (value_at w.memory (link / 2048) ≡ Some value) × (end ≡ (anew p (table_seen link value), Goes))))
          → CopierCame same hash caller setting w c blocks (AloneBlocking c p at.Replaces) m2 end
      by_link link read still (inl none) =
          copier_goes same hash caller setting w c blocks (AloneBlocking c p at.Replaces) map m2 end (standing p (at.Remakes (table_after p.setting p.target NoPlace))) still none.1 setting_is
          (t, rests, aborted, making) (λ a. a)
      by_link link read still (inr some) =
          let there = leads_to_table same hash setting w c blocks map p t rests.0.2 link read (eqb-false link 0 some.0) in
          let target = table_behind same hash setting w c blocks map p t rests.0.2 link some.1.0 there some.1.1 in
          copier_goes same hash caller setting w c blocks (AloneBlocking c p at.Replaces) map m2 end (anew p (table_seen link some.1.0)) still some.1.2 setting_is
          (suc t, ((rests.0.0, omega (arith, rests.0.1), target, rests.0.3), rests.1, rests.2))
          (λ a. (a.0, a.1, λ spent. absurd (cc (spent, a.2))))
