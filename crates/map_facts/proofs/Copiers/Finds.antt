-- A copier, in incremental mode, finds the tables that it works on: what its reads of the root and of the next table come to.
use Rattle.std.specs.Prelude.{IsSome, Some, ◌==◌}
use Rattle.std.proofs.Common.{◌≡◌, ℕ, suc, ◌*◌, ◌/◌, ◌<◌, Bool, true, false, ◌⊎◌, inl, inr, sym, subst, arith}
use Rattle.std.proofs.lemmas.Bool.{eqb-false}
use Rattle.map_rule.specs.Given.SeizeWordsDeclared.at.At.TheVariants.{Root}
use Rattle.map_rule.specs.Given.SeizeWordsMem.{Mem, Can, Took, value_at, word_at}
use Rattle.map_rule.specs.Given.SeizeWordsOp.{Found}
use Rattle.map_rule.specs.Given.SeizeWordsPlan.{May, Steps, Ends, Seeing}
use Rattle.map_rule.proofs.Given.SeizeWordsOneOwner.Operations.{may_load, loaded}
use Rattle.map_rule.proofs.Given.SeizeWordsPlans.{see_if, ends_if}
use Rattle.papaya_raw.specs.Given.SeizeWorld.{World}
use Rattle.map_rule.specs.Given.ResizeCopierClaims.{begins, follows, root_read, next_read, to}
use Rattle.map_rule.specs.Given.ResizeCopierStates.{standing}
use Rattle.papaya_raw.specs.Given.TablesNodes.{table_seen}
use Rattle.papaya_raw.specs.Given.TablesTablePlaces.{at_word}
use Rattle.papaya_raw.specs.Given.TablesDeclared.node.Node.{Node}
use Rattle.papaya_raw.specs.Given.TablesDeclared.table.Table.{Table}
use Rattle.papaya_raw.specs.Given.TablesDeclared.table_words.TheConstants.{NEXT}
use Rattle.map_rule.specs.Given.ResizeDeclared.yielding.Yielding.{Yielding}
use Rattle.map_rule.specs.Given.ResizeDeclared.yielding.Yielding.TheVariants.{Goes}
use Rattle.papaya_raw.specs.Given.TablesDeclared.setting.Setting.{Setting}
use Rattle.map_rule.specs.Given.ResizeDeclared.copier.Copier.{Copier}
use Rattle.map_rule.specs.Given.ResizeDeclared.copier.Copying.TheVariants as at
use Rattle.map_rule.specs.Chart.{Chart}
use Rattle.map_rule.specs.Words.{Blocks}
use Rattle.map_rule.specs.Maps.{IsTable}
use Rattle.map_rule.specs.InWorld.{IsMapIn}
use Rattle.map_facts.specs.FactsCopies.{CopyingFacts}
use Rattle.map_facts.specs.Told.{CopierOutcome}
use Rattle.map_facts.proofs.Copiers.CopiersWrote.{CopierPlain, copier_still}
use Rattle.map_rule.proofs.Words.TablesSeen.{link_seen, table_is, next_there}
use Rattle.map_rule.specs.Links.{IsLinkTo, LeadsTo}
use Rattle.map_rule.proofs.Words.LinksSeen.{link_some, link_made, root_leads, next_leads}
use Rattle.map_rule.proofs.Given.General.{some_is as is_some_of}

module _ {K V : Type 0} (same : K → K → Bool) (hash : K → ℕ) (caller : ℕ) (setting : Setting) (w : World (Node K V)) (c : Chart K) (blocks : Blocks) where
  module _ (map : IsMapIn same hash setting w c blocks) (p : Copier) (is : p.setting ≡ setting) where
    root_there : (link : ℕ) → word_at w.memory (Root p.setting.root) ≡ Some link → word_at w.memory (Root setting.root) ≡ Some link
    root_there link = subst (λ (s : Setting). word_at w.memory (Root s.root) ≡ Some link) is

    first_made : 0 < c.past → c.first < c.past
    first_made some = map.map.rule.common.rooted some

    -- where there are tables, the root word is a link to the first one
    root_link : 0 < c.past → (link : ℕ) → word_at w.memory (Root p.setting.root) ≡ Some link → (link ≡ blocks.table c.first * 2048) × (blocks.table_known c.first ≡ true)
    root_link some link read =
        let there = link_made c blocks link c.first (root_leads same hash setting.mode setting.root w.memory c blocks map.map link (root_there link read)) (first_made some) in (there.0, there.2)

    pub may_begins : CopyingFacts same hash w caller setting c blocks p at.Begins → May Can Took value_at w.memory (begins p)
    may_begins f = may_load w.memory (root_read p) (Root p.setting.root) (subst (λ (s : Setting). IsSome (word_at w.memory (Root s.root))) (sym is) (is_some_of _ _ map.map.shows.root_there))
        (λ link read. let there = root_link f.0 link read in (
          subst (λ (l : ℕ). IsSome (value_at w.memory (l / 2048))) (sym there.0) (link_seen hash w.memory c blocks setting.root map.map.shows c.first (first_made f.0) there.1),
          λ value shown. tt,
        ))

    pub went_begins : CopyingFacts same hash w caller setting c blocks p at.Begins → (m2 : Mem (Node K V)) (end : Copier × Yielding (Node K V) Table)
        → Steps Took value_at w.memory (begins p) m2 end → CopierPlain same hash caller setting w c blocks m2 end
    went_begins f m2 end steps =
        let s = loaded w.memory (root_read p) (Root p.setting.root) m2 end steps in
        let there = root_link f.0 s.0 s.1 in
        let shown : value_at w.memory (blocks.table c.first * 2048 / 2048) ≡ Some s.3.0 = subst (λ (l : ℕ). value_at w.memory (l / 2048) ≡ Some s.3.0) there.0 s.3.1 in
        let seen = table_is hash w.memory c blocks setting.root map.map.shows c.first (first_made f.0) there.1 s.3.0 shown in
        let source : IsTable c blocks (table_seen s.0 s.3.0) c.first = subst (λ (l : ℕ). IsTable c blocks (table_seen l s.3.0) c.first) (sym there.0) seen in
        copier_still same hash caller setting w c blocks map m2 s.2 end
        (subst (CopierOutcome w caller setting c blocks same hash) (sym s.3.2)
        (record { setting_is = is; point = (f.1, f.2, f.3, f.4, c.first, omega arith, source) }))

    module _ (f : CopyingFacts same hash w caller setting c blocks p at.Follows) where
      abbrev t : ℕ
      t = f.4

      leads : (link : ℕ) → word_at w.memory (at_word p.source NEXT) ≡ Some link → LeadsTo c blocks link (suc t)
      leads link read = next_leads same hash setting.mode setting.root w.memory c blocks map.map p.source t link f.6 read

      -- a link that is none is to the table behind
      next_link : (link : ℕ) → (link == 0) ≡ false → word_at w.memory (at_word p.source NEXT) ≡ Some link
          → IsLinkTo c blocks link (suc t)
      next_link link some read = link_some c blocks link (suc t) (leads link read) (eqb-false link 0 some)

      pub may_follows : May Can Took value_at w.memory (follows p)
      may_follows = may_load w.memory (next_read p) (at_word p.source NEXT)
          (is_some_of _ _ (next_there hash w.memory c blocks setting.root map.map.shows p.source t f.6))
          (λ link read. see_if (value_at w.memory) (link == 0) _ _ (λ none. tt)
          (λ some. let there = next_link link some read in (
            subst (λ (l : ℕ). IsSome (value_at w.memory (l / 2048))) (sym there.0) (link_seen hash w.memory c blocks setting.root map.map.shows (suc t) there.1 there.2),
            λ value shown. tt,
          )))

      pub went_follows : (m2 : Mem (Node K V)) (end : Copier × Yielding (Node K V) Table) → Steps Took value_at w.memory (follows p) m2 end → CopierPlain same hash caller setting w c blocks m2 end
      went_follows m2 end steps =
          let s = loaded w.memory (next_read p) (at_word p.source NEXT) m2 end steps in
          either s.0 s.1 s.2 s.3
        where
          over : (end ≡ (standing p at.Over, Goes)) → CopierOutcome w caller setting c blocks same hash end
          over e = subst (CopierOutcome w caller setting c blocks same hash) (sym e) (record { setting_is = is; point = (f.1, f.2) })

          by_link : (link : ℕ) → word_at w.memory (at_word p.source NEXT) ≡ Some link → m2 ≡ w.memory
              → (((link == 0) ≡ true) × (end ≡ (standing p at.Over, Goes)))
              ⊎ (((link == 0) ≡ false) × ((value : Node K V) × (value_at w.memory (link / 2048) ≡ Some value)
              × (end ≡ (record p { target = table_seen link value; stands = at.Sees }, Goes))))
              → CopierPlain same hash caller setting w c blocks m2 end
          by_link link read e (inl none) = copier_still same hash caller setting w c blocks map m2 e end (over none.1)
          by_link link read e (inr some) =
              let there = next_link link some.0 read in
              let shown : value_at w.memory (blocks.table (suc t) * 2048 / 2048) ≡ Some some.1.0 = subst (λ (l : ℕ). value_at w.memory (l / 2048) ≡ Some some.1.0) there.0 some.1.1 in
              let seen = table_is hash w.memory c blocks setting.root map.map.shows (suc t) there.1 there.2 some.1.0 shown in
              let target : IsTable c blocks (table_seen link some.1.0) (suc t) = subst (λ (l : ℕ). IsTable c blocks (table_seen l some.1.0) (suc t)) (sym there.0) seen in
              copier_still same hash caller setting w c blocks map m2 e end
              (subst (CopierOutcome w caller setting c blocks same hash) (sym some.1.2)
              (record { setting_is = is; point = (t, (f.6, target, f.5, λ l. f.0), f.0, f.1, f.2, f.3) }))

          either : (link : ℕ) → word_at w.memory (at_word p.source NEXT) ≡ Some link → m2 ≡ w.memory → Ends (value_at w.memory) (next_read p (Found link)) end → CopierPlain same hash caller setting w c blocks m2 end
          either link read e ends = by_link link read e (ends_if (value_at w.memory) (link == 0)
              (to (standing p at.Over)) (Seeing (link / 2048) (λ value. to (record p { target = table_seen link value; stands = at.Sees }))) end ends)
