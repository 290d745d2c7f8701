-- A lookup has seen tables and pairs of its map, which its section holds.
use Rattle.std.specs.Prelude.{◌/◌, ◌^◌, ◌<◌, Option, Some, if◌then◌else◌}
use Rattle.std.proofs.Common.{◌≡◌, ℕ, suc, Bool, true, false, inl, inr, sym, subst, ap, ◌∙◌}
use Rattle.run_shows.specs.Given.SeizeWordsDeclared.at.At.TheVariants.{Root}
use Rattle.run_shows.specs.Given.SeizeWordsMem.{Mem, value_at, word_at}
use Rattle.run_shows.specs.Given.SeizeWordsPlan.{Now, Seeing}
use Rattle.run_shows.specs.Given.SeizeWorld.{World}
use Rattle.run_shows.specs.Given.SeizeDeclared.advance.Advance.{Advance}
use Rattle.run_shows.specs.Given.TablesChunks.{is_incremental}
use Rattle.run_shows.specs.Given.TablesFinding.{may_name}
use Rattle.run_shows.specs.Given.TablesNodes.{table_seen}
use Rattle.run_shows.specs.Given.TablesTablePlaces.{at_word, at_place}
use Rattle.run_shows.specs.Given.TablesTrials.{place_tried, first_trial}
use Rattle.run_shows.specs.Given.TablesDeclared.node.Node.{Node}
use Rattle.run_shows.specs.Given.TablesDeclared.setting.Setting.{Setting}
use Rattle.run_shows.specs.Given.TablesDeclared.table.Table.{Table}
use Rattle.run_shows.specs.Given.TablesDeclared.table_words.TheConstants.{NEXT}
use Rattle.run_shows.specs.Given.TablesDeclared.trial.Trial.{Trial}
use Rattle.run_shows.specs.Given.ResizeLookup as lookup
use Rattle.run_shows.specs.Given.ResizeLookup.{lookup_plan}
use Rattle.run_shows.specs.Given.ResizeDeclared.lookup.Lookup.{Lookup}
use Rattle.run_shows.specs.Given.ResizeDeclared.lookup.Looking.{Looking}
use Rattle.run_shows.specs.Given.ResizeDeclared.lookup.Looking.TheVariants as at
use Rattle.run_shows.specs.Given.RuleChart.{Chart}
use Rattle.run_shows.specs.Given.RuleMaps.{spot_at, spot_of, IsTable, IsTrial}
use Rattle.run_shows.specs.Given.RuleWords.{Blocks, place_word}
use Rattle.run_shows.specs.Given.RuleInWorld.{IsMapIn}
use Rattle.run_shows.specs.Given.LateLateLooks.{SupersededLooking, SupersededLookupFacts}
use Rattle.run_shows.specs.Given.PointsFactsLooks.{LookingFacts, LookupFacts}
use Rattle.run_shows.proofs.Given.RuleKeys.TriesSeen.{spot_inside}
use Rattle.run_shows.proofs.Given.RuleWords.PlacesShown.{are_stored}
use Rattle.run_shows.proofs.Given.RuleWords.TablesSeen.{place_there}
use Rattle.many_acts.specs.Looks.Sees.{HasSeen}
use Rattle.many_acts.proofs.Looks.Sees.Copiers.{root_link, next_link}
use Rattle.many_acts.proofs.Looks.Sees.Held.{AllSeen, sees_link, named_held}
use Rattle.many_acts.proofs.Looks.Sees.Operations.{loads}
use Rattle.many_acts.proofs.Looks.Sees.Plans.{sees_if, sees_one}

module _ {K V : Type 0} (same : K → K → Bool) (hash : K → ℕ) (fits : (k : K) → hash k < 2 ^ 64) (w : World (Node K V)) (slot caller : ℕ) (c : Chart K) (seen : Blocks)
    (setting : Setting) (Held : ℕ → Type 0) (within : AllSeen Held c seen) (map : IsMapIn same hash setting w c seen) where
  -- the pair that the word of a try may name
  pub tried_held : (trial : Trial) (code t j : ℕ) → IsTrial c seen trial code t j → (word : ℕ) → word_at w.memory (place_tried trial) ≡ Some word → may_name code word ≡ true
      → Held (word / 2048)
  tried_held trial code t j tried word read may =
      let there = ap (λ (i : ℕ). word_at w.memory (at_place trial.table i)) tried.place
      ∙ place_there hash w.memory c seen setting.root map.map.shows trial.table t tried.table (spot_at (c.len t) code j)
      (spot_inside (c.len t) code j (map.map.rule.common.lens t tried.table.made).0) in
      let is : word ≡ place_word hash c seen (c.place t (spot_at (c.len t) code j)) = cc (there, read) in
      subst (λ (x : ℕ). Held (x / 2048)) (sym is)
      (named_held w slot c seen Held within hash fits setting.root w.memory map.map.shows (are_stored same (spot_of hash) (is_incremental setting.mode) c map.map.rule.common) t
      (spot_at (c.len t) code j) tried.table.made tried.table.known code (subst (λ (x : ℕ). may_name code x ≡ true) is may))

  module _ (asked : K → Bool) (code : ℕ) (l : Lookup) (root_is : l.root ≡ setting.root) (hash_is : l.hash ≡ code) (b : ℕ) (n : Mem (Node K V)) (end : Lookup × Advance (Option ℕ)) where
    abbrev IsHeld : Type 0
    IsHeld = Held b

    abbrev Saw : Looking → Type 0
    Saw stands = HasSeen b w.memory (lookup.plan_at asked l stands) n end

    probe : (trial : Trial) (t j : ℕ) → IsTrial c seen trial code t j → Saw (at.Probes trial) → IsHeld
    probe trial t j tried saw =
        let read = loads b w.memory n (place_tried trial) end (lookup.word_found asked l trial) saw in
        let word = read.0 in
        elim (sees_if b (value_at n) (may_name l.hash word) (Seeing (word / 2048) (λ value. Now (lookup.told l trial word (lookup.names_pair asked value)))) (Now (lookup.told l trial word false)) read.3.1)
        as (λ _. IsHeld) [
          | inl may ↦
              subst (λ (x : ℕ). Held x)
              (sym (sees_one b (word / 2048) (value_at n) (λ (value : Node K V). lookup.told l trial word (lookup.names_pair asked value)) may.1))
              (tried_held trial code t j tried word read.1 (ap (λ (x : ℕ). may_name x word) (sym hash_is) ∙ may.0))
          | inr none ↦ absurd none.1
        ]

    root : Saw at.Roots → IsHeld
    root saw =
        let read = loads b w.memory n (Root l.root) end (lookup.link_found l) saw in
        sees_link w slot c seen Held within (value_at n) read.0 c.first
        (root_link same hash fits w slot caller c seen setting Held within map read.0 (ap (λ (x : ℕ). word_at w.memory (Root x)) (sym root_is) ∙ read.1)) _
        (λ value. lookup.going l (at.Probes (first_trial (table_seen read.0 value) l.hash))) b read.3.1

    next : (table : Table) (t : ℕ) → IsTable c seen table t → Saw (at.Nexts table) → IsHeld
    next table t entered saw =
        let read = loads b w.memory n (at_word table NEXT) end (lookup.link_found l) saw in
        sees_link w slot c seen Held within (value_at n) read.0 (suc t) (next_link same hash fits w slot caller c seen setting Held within map table t entered read.0 read.1) _
        (λ value. lookup.going l (at.Probes (first_trial (table_seen read.0 value) l.hash))) b read.3.1

  -- in the root's table, or on the way there
  pub lookup_sees : (keys asked : K → Bool) (code : ℕ) (l : Lookup) → LookupFacts same hash setting.mode setting.root keys code c seen l → (b : ℕ) (n : Mem (Node K V)) (end : Lookup × Advance (Option ℕ))
      → HasSeen b w.memory (lookup_plan asked l) n end → Held b
  lookup_sees keys asked code l facts b n end saw = by_facts l.stands facts.point saw
    where
      by_facts : (stands : Looking) → LookingFacts same hash setting.mode setting.root keys code c seen stands → HasSeen b w.memory (lookup.plan_at asked l stands) n end → Held b
      by_facts at.Roots point saw = root asked code l facts.root_is facts.hash_is b n end saw
      by_facts (at.Probes trial) (t, j, tried, before, first) saw = probe asked code l facts.root_is facts.hash_is b n end trial t j tried saw
      by_facts (at.Nexts table) (incremental, t, entered, shut) saw = next asked code l facts.root_is facts.hash_is b n end table t entered saw
      by_facts (at.Over found) point saw = absurd point

  -- and in a table that the root has left
  pub left_lookup_sees : (keys asked : K → Bool) (code began : ℕ) (l : Lookup) → SupersededLookupFacts same hash keys code c seen began setting.mode setting.root l → (b : ℕ) (n : Mem (Node K V))
      (end : Lookup × Advance (Option ℕ)) → HasSeen b w.memory (lookup_plan asked l) n end → Held b
  left_lookup_sees keys asked code began l facts b n end saw = by_facts l.stands facts.point saw
    where
      by_facts : (stands : Looking) → SupersededLooking same hash keys code c seen began stands → HasSeen b w.memory (lookup.plan_at asked l stands) n end → Held b
      by_facts (at.Probes trial) (t, j, tried, passed, left) saw = probe asked code l facts.root_is facts.hash_is b n end trial t j tried saw
      by_facts _ point saw = absurd point
