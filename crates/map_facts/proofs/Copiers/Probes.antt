-- In incremental mode, a copier reads a place of a pair's key in a later table.
use Rattle.std.specs.Prelude.{◌==◌, Some, IsSome}
use Rattle.std.proofs.Common.{◌≡◌, ◌≢◌, ℕ, ◌<◌, Bool, true, false, ◌⊎◌, inl, inr, refl, ap, sym, subst, ◌∙◌}
use Rattle.std.proofs.lemmas.Bool.{eqb-false}
use Rattle.map_rule.specs.Given.SeizeWordsMem.{Mem, value_at, word_at, Can, Took}
use Rattle.map_rule.specs.Given.SeizeWordsPlan.{May, Steps}
use Rattle.map_rule.proofs.Given.SeizeWordsOneOwner.Operations.{may_load, loaded}
use Rattle.map_rule.proofs.Given.SeizeWordsPlans.{see_if, ends_if}
use Rattle.papaya_raw.specs.Given.SeizeWorld.{World}
use Rattle.papaya_raw.specs.Given.TablesChunks.{is_incremental}
use Rattle.map_rule.specs.Given.ResizeCopierStates.{standing}
use Rattle.map_rule.specs.Given.ResizeCopierPlaces.{next_try, place_read, probes, to}
use Rattle.papaya_raw.specs.Given.TablesTablePlaces.{at_place}
use Rattle.papaya_raw.specs.Given.TablesDeclared.node.Node.{Node}
use Rattle.map_rule.specs.Given.ResizeDeclared.yielding.Yielding.{Yielding}
use Rattle.map_rule.specs.Given.ResizeDeclared.yielding.Yielding.TheVariants.{Goes}
use Rattle.papaya_raw.specs.Given.TablesDeclared.probe.Probe.{Probe}
use Rattle.papaya_raw.specs.Given.TablesDeclared.setting.Setting.{Setting}
use Rattle.papaya_raw.specs.Given.TablesDeclared.table.Table.{Table}
use Rattle.map_rule.specs.Given.ResizeDeclared.copier.Copier.{Copier}
use Rattle.map_rule.specs.Given.ResizeDeclared.copier.Copying.TheVariants as at
use Rattle.map_rule.specs.Chart.{Chart, Place, Empty}
use Rattle.map_rule.specs.Rule.{tried}
use Rattle.map_rule.specs.Words.{Blocks, place_word}
use Rattle.map_rule.specs.Maps.{spot_of}
use Rattle.map_rule.specs.InWorld.{IsMapIn}
use Rattle.map_facts.specs.FactsCopies.{Tries, CopierFacts}
use Rattle.map_facts.specs.Told.{CopierOutcome}
use Rattle.map_rule.proofs.Keys.LaterTables.{found_taken}
use Rattle.map_facts.proofs.Copiers.CopiersWrote.{CopierPlain, copier_still}
use Rattle.map_facts.proofs.Copiers.CopierTries.{IsTableLens, tries_standing, facts_next_try}
use Rattle.map_rule.proofs.Words.TablesSeen.{place_there, word_seen}
use Rattle.map_rule.proofs.Keys.TriesSeen.{spot_inside}

-- an empty place has the word 0
pub not_empty : {K : Type 0} (hash : K → ℕ) (c : Chart K) (blocks : Blocks) (place : Place) (found : ℕ) → found ≡ place_word hash c blocks place → found ≢ 0 → place ≢ Empty false
not_empty hash c blocks place found is other e = other (is ∙ ap (place_word hash c blocks) e)

module _ {K V : Type 0} (same : K → K → Bool) (hash : K → ℕ) (setting : Setting) where
  module _ (w : World (Node K V)) (caller : ℕ) (c : Chart K) (blocks : Blocks) (map : IsMapIn same hash setting w c blocks) where
    pub table_lens : IsTableLens c
    table_lens t made = (map.map.shows.sized t made, (map.map.rule.common.lens t made).1)

    -- a step that changed nothing came to a copier that goes on
    abbrev pub ComesTo : Mem (Node K V) → Copier × Yielding (Node K V) Table → (Copier → Type 0) → Type 0
    ComesTo m2 end Is = (m2 ≡ w.memory) × (q : Copier) × (end ≡ (q, Goes)) × CopierFacts same hash w caller setting c blocks q × Is q

    -- a step that changed nothing, where it goes on from there
    pub told_still : (m2 : Mem (Node K V)) → m2 ≡ w.memory → (p : Copier) (end : Copier × Yielding (Node K V) Table) → end ≡ (p, Goes)
        → CopierFacts same hash w caller setting c blocks p → CopierPlain same hash caller setting w c blocks m2 end
    told_still m2 is p end ends facts =
        copier_still same hash caller setting w c blocks map m2 is end
        (subst (λ (x : Copier × Yielding (Node K V) Table). CopierOutcome w caller setting c blocks same hash x) (sym ends) facts)

    module _ (p : Copier) (word code : ℕ) (table : Table) (probe : Probe) (tries : Tries same hash w caller setting c blocks p word code table probe) where
      -- the place of this try
      abbrev pub place_here : Place
      place_here = tried same (spot_of hash) true c tries.2 tries.1 tries.3

      pub probe_inside : probe.i < c.len tries.2
      probe_inside =
          let trial = tries.7 in
          subst (λ (i : ℕ). i < c.len tries.2) (sym trial.place) (spot_inside (c.len tries.2) code tries.3 (map.map.rule.common.lens tries.2 trial.table.made).0)

      pub probe_spot : probe.i ≡ spot_of hash (c.len tries.2) tries.1 tries.3
      probe_spot = let at_try = tries.7.place in let code_is = tries.5 in cc

      pub probe_there : word_at w.memory (at_place table probe.i) ≡ Some (place_word hash c blocks place_here)
      probe_there =
          place_there hash w.memory c blocks setting.root map.map.shows table tries.2 tries.7.table probe.i probe_inside
          ∙ ap (λ i. Some (place_word hash c blocks (c.place tries.2 i))) probe_spot

      pub probe_seen : IsSome (word_at w.memory (at_place table probe.i))
      probe_seen = word_seen hash w.memory c blocks setting.root map.map.shows table tries.2 tries.7.table (at_place table probe.i) _ probe_there

      pub may_probes : May Can Took value_at w.memory (probes p word code table probe)
      may_probes = may_load w.memory (place_read p word code table probe) (at_place table probe.i) probe_seen
          (λ found is. see_if (value_at w.memory) (found == 0) (to (standing p (at.Puts word code table probe))) (to (next_try p word code table probe)) (λ _. tt) (λ _. tt))

      -- where the place is taken, the next try is made
      pub told_next_try : p.setting ≡ setting → is_incremental setting.mode ≡ true → (found : ℕ) → word_at w.memory (at_place table probe.i) ≡ Some found → found ≢ 0
          → CopierFacts same hash w caller setting c blocks (next_try p word code table probe)
      told_next_try setting_is bits found read other =
          facts_next_try same hash w caller setting c blocks p word code table probe setting_is bits table_lens tries
          (found_taken place_here (not_empty hash c blocks place_here found (cc (read, probe_there)) other))

      -- it is taken, or the next try is made
      pub comes_probes : p.setting ≡ setting → is_incremental setting.mode ≡ true → (m2 : Mem (Node K V)) (end : Copier × Yielding (Node K V) Table)
          → Steps Took value_at w.memory (probes p word code table probe) m2 end
          → ComesTo m2 end (λ q. (q ≡ standing p (at.Puts word code table probe)) ⊎ ((place_here ≢ Empty false) × (q ≡ next_try p word code table probe)))
      comes_probes setting_is bits m2 end s =
          let l = loaded w.memory (place_read p word code table probe) (at_place table probe.i) m2 end s in
          either l.0 l.1 l.2 (ends_if (value_at w.memory) (l.0 == 0) (to (standing p (at.Puts word code table probe))) (to (next_try p word code table probe)) end l.3)
        where
          either : (found : ℕ) → word_at w.memory (at_place table probe.i) ≡ Some found → m2 ≡ w.memory
              → (((found == 0) ≡ true) × (end ≡ (standing p (at.Puts word code table probe), Goes))) ⊎ (((found == 0) ≡ false) × (end ≡ (next_try p word code table probe, Goes)))
              → ComesTo m2 end (λ q. (q ≡ standing p (at.Puts word code table probe)) ⊎ ((place_here ≢ Empty false) × (q ≡ next_try p word code table probe)))
          either found read is (inl e) = (
            is,
            standing p (at.Puts word code table probe),
            e.1,
            record { setting_is = setting_is; point = tries_standing same hash w caller setting c blocks p (at.Puts word code table probe) word code table probe tries },
            inl refl,
          )
          either found read is (inr e) =
              let other = eqb-false found 0 e.0 in (
                is,
                next_try p word code table probe,
                e.1,
                told_next_try setting_is bits found read other,
                inr (not_empty hash c blocks place_here found (cc (read, probe_there)) other, refl),
              )

      pub went_probes : p.setting ≡ setting → is_incremental setting.mode ≡ true → (m2 : Mem (Node K V)) (end : Copier × Yielding (Node K V) Table)
          → Steps Took value_at w.memory (probes p word code table probe) m2 end → CopierPlain same hash caller setting w c blocks m2 end
      went_probes setting_is bits m2 end s = let h = comes_probes setting_is bits m2 end s in told_still m2 h.0 h.1 end h.2 h.3
