-- A copier whose source the root has left goes on with the table behind one that was aborted.
use Rattle.std.specs.Prelude.{Some}
use Rattle.std.proofs.Common.{◌≡◌, ℕ, suc, ◌/◌, ◌<◌, ◌==◌, Bool, true, false, ◌⊎◌, inl, inr, refl, sym, ◌∙◌, arith}
use Rattle.std.proofs.lemmas.Bool.{eqb-true}
use Rattle.map_facts.specs.Given.SeizeWordsMem.{Mem, Took, value_at, word_at}
use Rattle.map_facts.specs.Given.SeizeWordsPlan.{Steps}
use Rattle.map_facts.proofs.Given.SeizeWordsOneOwner.Operations.{loaded}
use Rattle.map_facts.proofs.Given.SeizeWordsPlans.{ends_if}
use Rattle.map_facts.specs.Given.SeizeWorld.{World}
use Rattle.map_facts.specs.Given.TablesNodes.{table_seen}
use Rattle.map_facts.specs.Given.TablesTablePlaces.{at_word}
use Rattle.map_facts.specs.Given.TablesDeclared.lengths.Reason.TheVariants.{NoPlace}
use Rattle.map_facts.specs.Given.TablesDeclared.node.Node.{Node}
use Rattle.map_facts.specs.Given.TablesDeclared.setting.Setting.{Setting}
use Rattle.map_facts.specs.Given.TablesDeclared.table.Table.{Table}
use Rattle.map_facts.specs.Given.TablesDeclared.table_words.TheConstants.{NEXT}
use Rattle.map_facts.specs.Given.ResizeCopierFurther.{anew, replacement_read, replaces}
use Rattle.map_facts.specs.Given.ResizeCopierStates.{standing}
use Rattle.map_facts.specs.Given.ResizeNewTable.{table_after}
use Rattle.map_facts.specs.Given.ResizeDeclared.copier.Copier.{Copier}
use Rattle.map_facts.specs.Given.ResizeDeclared.copier.Copying.TheVariants as at
use Rattle.map_facts.specs.Given.ResizeDeclared.yielding.Yielding.{Yielding}
use Rattle.map_facts.specs.Given.ResizeDeclared.yielding.Yielding.TheVariants.{Goes}
use Rattle.map_facts.specs.Given.RuleChart.{Chart}
use Rattle.map_facts.specs.Given.RuleInWorld.{IsMapIn}
use Rattle.map_facts.specs.Given.RuleLinks.{IsLinkTo}
use Rattle.map_facts.specs.Given.RuleMoments.{Moments}
use Rattle.map_facts.specs.Given.RuleWords.{Blocks}
use Rattle.map_facts.proofs.Given.RuleWords.LinksSeen.{link_made}
use Rattle.map_facts.proofs.Given.RuleWords.TablesSeen.{link_not_zero}
use Rattle.map_facts.proofs.Blocking.Targets.{leads_on, table_behind}
use Rattle.map_facts_late.specs.LateCopies.{CopiesSuperseded, CopiesAborted}
use Rattle.map_facts_late.proofs.Copiers.LateWent.{LateCame, late_goes, aborted_behind}

module _ {K V : Type 0} (same : K → K → Bool) (hash : K → ℕ) (caller : ℕ) (setting : Setting) (began : ℕ) (w : World (Node K V)) (c : Chart K) (blocks : Blocks)
    (map : IsMapIn same hash setting w c blocks) (moments : Moments false c) (p : Copier) (setting_is : p.setting ≡ setting) (u t : ℕ)
    (aborted : CopiesAborted same hash w caller setting c blocks began p u t) where
  -- the root has left it
  passed : t < c.first
  passed = aborted_behind c t map.map.rule.common.live aborted.0.over aborted.1

  -- so one stands behind it
  made : suc t < c.past
  made = let there = aborted.0.target.made in let rooted = map.map.rule.common.rooted (omega (arith, there)) in omega (arith, rooted, passed)

  leads : (link : ℕ) → word_at w.memory (at_word p.target NEXT) ≡ Some link → IsLinkTo c blocks link (suc t)
  leads link read = link_made c blocks link (suc t) (leads_on same hash setting w c blocks map p t aborted.0.target link read) made

  pub went_replace : (m2 : Mem (Node K V)) (end : Copier × Yielding (Node K V) Table) → Steps Took value_at w.memory (replaces p) m2 end
      → LateCame same hash caller setting began w c blocks m2 end
  went_replace m2 end s =
      let read = loaded w.memory (replacement_read p) (at_word p.target NEXT) m2 end s in
      by_link read.0 (leads read.0 read.1) read.2 (ends_if (value_at w.memory) (read.0 == 0) _ _ end read.3)
    where
      by_link : (link : ℕ) → IsLinkTo c blocks link (suc t) → m2 ≡ w.memory
          → (((link == 0) ≡ true) × (end ≡ (standing p (at.Remakes (table_after p.setting p.target NoPlace)), Goes)))
          ⊎ (((link == 0) ≡ false) × ((value : Node K V) × (value_at w.memory (link / 2048) ≡ Some value) × (end ≡ (anew p (table_seen link value), Goes))))
          → LateCame same hash caller setting began w c blocks m2 end
      by_link link there still (inl none) =
          absurd (link_not_zero hash w.memory c blocks setting.root map.map.shows (suc t) there.1 there.2 (sym there.0 ∙ eqb-true link 0 none.0))
      by_link link there still (inr some) =
          late_goes same hash caller setting began w c blocks map m2 end (anew p (table_seen link some.1.0)) still some.1.2 setting_is (u, suc t, on)
        where
          on : CopiesSuperseded same hash w caller setting c blocks began (anew p (table_seen link some.1.0)) u (suc t)
          on = record {
            source = aborted.0.source;
            target = table_behind same hash setting w c blocks map p t aborted.0.target link some.1.0 there some.1.1;
            order = (let order = aborted.0.order in omega (arith, order));
            left = aborted.0.left;
            over = (let l = passed in omega (arith, l));
            from = moments.follows refl t made aborted.1 ∙ aborted.0.from;
            whole = aborted.0.whole;
            idle = aborted.0.idle;
          }
