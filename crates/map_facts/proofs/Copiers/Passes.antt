-- In incremental mode, a copier reads which table follows one that has no place for its pair.
use Rattle.std.specs.Prelude.{◌*◌, ◌/◌, ◌==◌, Some, IsSome}
use Rattle.std.proofs.Common.{◌≡◌, ℕ, suc, ◌<◌, Bool, true, false, cond, ◌⊎◌, inl, inr, refl, sym, subst, arith}
use Rattle.std.specs.Int.{IsPowerOfTwo}
use Rattle.std.proofs.lemmas.Bool.{eqb-false}
use Rattle.map_rule.specs.Given.SeizeWordsDeclared.at.At.TheVariants.{Word}
use Rattle.map_rule.specs.Given.SeizeWordsMem.{Mem, value_at, word_at, Can, Took}
use Rattle.map_rule.specs.Given.SeizeWordsPlan.{May, Seeing, Steps, Ends}
use Rattle.map_rule.proofs.Given.SeizeWordsOneOwner.Operations.{may_load, loaded}
use Rattle.map_rule.proofs.Given.SeizeWordsPlans.{see_if, ends_if}
use Rattle.papaya_raw.specs.Given.SeizeWorld.{World}
use Rattle.papaya_raw.specs.Given.TablesChunks.{is_incremental}
use Rattle.papaya_raw.specs.Given.TablesNodes.{table_seen}
use Rattle.map_rule.specs.Given.ResizeNewTable.{table_after}
use Rattle.papaya_raw.specs.Given.TablesTablePlaces.{at_word}
use Rattle.map_rule.specs.Given.ResizeCopierStates.{standing}
use Rattle.map_rule.specs.Given.ResizeCopierMarks.{probing}
use Rattle.map_rule.specs.Given.ResizeCopierFurther.{further_read, passes, to}
use Rattle.papaya_raw.specs.Given.TablesDeclared.lengths.Reason.TheVariants.{NoPlace}
use Rattle.papaya_raw.specs.Given.TablesDeclared.node.Node.{Node}
use Rattle.map_rule.specs.Given.ResizeDeclared.yielding.Yielding.{Yielding}
use Rattle.map_rule.specs.Given.ResizeDeclared.yielding.Yielding.TheVariants.{Goes}
use Rattle.papaya_raw.specs.Given.TablesDeclared.setting.Setting.{Setting}
use Rattle.papaya_raw.specs.Given.TablesDeclared.status.TheConstants.Status.{ABORTED}
use Rattle.papaya_raw.specs.Given.TablesDeclared.table.Table.{Table}
use Rattle.papaya_raw.specs.Given.TablesDeclared.table_words.TheConstants.{NEXT}
use Rattle.map_rule.specs.Given.ResizeDeclared.copier.Copier.{Copier}
use Rattle.map_rule.specs.Given.ResizeDeclared.copier.Copying.TheVariants as at
use Rattle.map_rule.specs.Chart.{Chart}
use Rattle.map_rule.specs.Words.{Blocks}
use Rattle.map_rule.specs.Maps.{IsTable}
use Rattle.map_rule.specs.InWorld.{IsMapIn}
use Rattle.map_facts.specs.FactsTables.{NewTableFacts}
use Rattle.map_facts.specs.FactsCopies.{CopyingFacts, CopierFacts}
use Rattle.map_facts.proofs.Copiers.CopiersWrote.{CopierPlain}
use Rattle.map_facts.proofs.Copiers.CopierTries.{works_standing, facts_probing}
use Rattle.map_rule.specs.Links.{IsLinkTo, LeadsTo}
use Rattle.map_rule.proofs.Words.LinksSeen.{link_some, next_leads}
use Rattle.map_facts.proofs.Making.TablesBegin.{table_after_facts}
use Rattle.map_rule.proofs.Words.TablesSeen.{link_seen, table_is, next_there, word_seen}
use Rattle.map_facts.proofs.Copiers.Probes.{table_lens, ComesTo, told_still}

module _ {K V : Type 0} (same : K → K → Bool) (hash : K → ℕ) (setting : Setting) (w : World (Node K V)) (caller : ℕ) (c : Chart K) (blocks : Blocks)
    (map : IsMapIn same hash setting w c blocks) (p : Copier) (word code : ℕ) (table : Table)
    (facts : CopyingFacts same hash w caller setting c blocks p (at.Passes word code table)) where
  abbrev t : ℕ
  t = facts.2

  leads : (link : ℕ) → word_at w.memory (at_word table NEXT) ≡ Some link → LeadsTo c blocks link (suc t)
  leads link read = next_leads same hash setting.mode setting.root w.memory c blocks map.map table t link facts.6 read

  some_link : (link : ℕ) → (link == 0) ≡ false → LeadsTo c blocks link (suc t) → IsLinkTo c blocks link (suc t)
  some_link link other lead = link_some c blocks link (suc t) lead (eqb-false link 0 other)

  seen : (link : ℕ) → IsLinkTo c blocks link (suc t) → IsSome (value_at w.memory (link / 2048))
  seen link there =
      subst (λ (x : ℕ). IsSome (value_at w.memory (x / 2048))) (sym there.0) (link_seen hash w.memory c blocks setting.root map.map.shows (suc t) there.1 there.2)

  pub may_passes : May Can Took value_at w.memory (passes p word code table)
  may_passes = may_load w.memory (further_read p word code table) (at_word table NEXT)
      (word_seen hash w.memory c blocks setting.root map.map.shows table t facts.6 (at_word table NEXT) _ (next_there hash w.memory c blocks setting.root map.map.shows table t facts.6))
      (λ link read. see_if (value_at w.memory) (link == 0) (to (standing p (at.Grows word code (table_after p.setting table NoPlace))))
      (Seeing (link / 2048) (λ value. to (probing p word code (table_seen link value)))) (λ _. tt)
      (λ other. (seen link (some_link link other (leads link read)), λ value is. tt)))

  -- the table behind, as it is seen
  table_behind : (link : ℕ) → (link ≡ blocks.table (suc t) * 2048) × (suc t < c.past) × (blocks.table_known (suc t) ≡ true)
      → (value : Node K V) → value_at w.memory (link / 2048) ≡ Some value → IsTable c blocks (table_seen link value) (suc t)
  table_behind link there value is =
      subst (λ (x : ℕ). value_at w.memory (x / 2048) ≡ Some value → IsTable c blocks (table_seen x value) (suc t)) (sym there.0)
      (table_is hash w.memory c blocks setting.root map.map.shows (suc t) there.1 there.2 value) is

  -- where there is a table behind
  pub told_behind : p.setting ≡ setting → (link : ℕ) → IsLinkTo c blocks link (suc t)
      → (value : Node K V) → value_at w.memory (link / 2048) ≡ Some value → CopierFacts same hash w caller setting c blocks (probing p word code (table_seen link value))
  told_behind setting_is link there value is =
      facts_probing same hash w caller setting c blocks p word code (table_seen link value) facts.0 (suc t) facts.1 setting_is
      (table_lens same hash setting w caller c blocks map) facts.3 facts.4 (let later = facts.5 in omega arith)
      (table_behind link there value is) facts.7

  -- where there is none, one is made
  module _ (bits : is_incremental setting.mode ≡ true) (initial_is : IsPowerOfTwo setting.initial) where
    pub begins : NewTableFacts w caller setting c blocks (Word (blocks.table t) NEXT) (suc t) (table_after setting table NoPlace)
    begins = table_after_facts w caller setting c blocks table t facts.6
        (subst (λ (b : Bool). cond b (Unit {0}) (c.first < t → c.status t ≡ ABORTED)) (sym bits) tt)
        (table_lens same hash setting w caller c blocks map t facts.6.made).0 initial_is NoPlace

    -- its pair is looked for behind, or a table is made there
    pub comes_passes : p.setting ≡ setting → (m2 : Mem (Node K V)) (end : Copier × Yielding (Node K V) Table)
        → Steps Took value_at w.memory (passes p word code table) m2 end
        → ComesTo same hash setting w caller c blocks map m2 end
        (λ q. (q ≡ standing p (at.Grows word code (table_after p.setting table NoPlace))) ⊎ ((further : Table) × IsTable c blocks further (suc t) × (q ≡ probing p word code further)))
    comes_passes setting_is m2 end s =
        let l = loaded w.memory (further_read p word code table) (at_word table NEXT) m2 end s in
        either l.0 l.1 l.2
        (ends_if (value_at w.memory) (l.0 == 0) (to (standing p (at.Grows word code (table_after p.setting table NoPlace))))
        (Seeing (l.0 / 2048) (λ value. to (probing p word code (table_seen l.0 value)))) end l.3)
      where
        either : (link : ℕ) → word_at w.memory (at_word table NEXT) ≡ Some link → m2 ≡ w.memory
            → (((link == 0) ≡ true) × (end ≡ (standing p (at.Grows word code (table_after p.setting table NoPlace)), Goes)))
            ⊎ (((link == 0) ≡ false) × Ends (value_at w.memory) (Seeing (link / 2048) (λ value. to (probing p word code (table_seen link value)))) end)
            → ComesTo same hash setting w caller c blocks map m2 end
            (λ q. (q ≡ standing p (at.Grows word code (table_after p.setting table NoPlace))) ⊎ ((further : Table) × IsTable c blocks further (suc t) × (q ≡ probing p word code further)))
        either link read is (inl e) = (
          is,
          standing p (at.Grows word code (table_after p.setting table NoPlace)),
          e.1,
          record {
            setting_is = setting_is;
            point = (
              facts.0,
              facts.1,
              t,
              works_standing same hash w caller setting c blocks p (at.Grows word code (table_after p.setting table NoPlace)) facts.0 facts.1 word facts.3,
              facts.4,
              facts.5,
              facts.7,
              facts.6.made,
              facts.6.known,
              subst (λ (x : Setting). NewTableFacts w caller setting c blocks (Word (blocks.table t) NEXT) (suc t) (table_after x table NoPlace)) (sym setting_is) begins,
            );
          },
          inl refl,
        )
        either link read is (inr (other, rest)) =
            let there = some_link link other (leads link read) in (
              is,
              probing p word code (table_seen link rest.0),
              rest.2,
              told_behind setting_is link there rest.0 rest.1,
              inr (table_seen link rest.0, table_behind link there rest.0 rest.1, refl),
            )

    pub went_passes : p.setting ≡ setting → (m2 : Mem (Node K V)) (end : Copier × Yielding (Node K V) Table)
        → Steps Took value_at w.memory (passes p word code table) m2 end → CopierPlain same hash caller setting w c blocks m2 end
    went_passes setting_is m2 end s = let h = comes_passes setting_is m2 end s in told_still same hash setting w caller c blocks map m2 h.0 h.1 end h.2 h.3
