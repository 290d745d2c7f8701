-- A copier that stands at no row has seen tables and pairs of its map, which its section holds.
use Rattle.std.specs.Prelude.{◌==◌, ◌/◌, ◌%◌, ◌+◌, ◌^◌, ◌<◌, nat_lt, Option, Some}
use Rattle.std.proofs.Common.{◌≡◌, ℕ, suc, Bool, true, false, inl, inr, sym, subst, ap, arith, ◌∙◌}
use Rattle.std.proofs.lemmas.Bool.{eqb-false}
use Rattle.run_shows.specs.Given.SeizeWordsDeclared.at.At.TheVariants.{Root, Word}
use Rattle.run_shows.specs.Given.SeizeWordsMem.{Mem, value_at, word_at}
use Rattle.run_shows.specs.Given.SeizeWorld.{World}
use Rattle.run_shows.specs.Given.TablesNodes.{table_seen}
use Rattle.run_shows.specs.Given.TablesTablePlaces.{at_word, at_place}
use Rattle.run_shows.specs.Given.TablesDeclared.marks.TheConstants.{COPYING}
use Rattle.run_shows.specs.Given.TablesDeclared.node.Node.{Node}
use Rattle.run_shows.specs.Given.TablesDeclared.probe.Probe.{Probe}
use Rattle.run_shows.specs.Given.TablesDeclared.setting.Setting.{Setting}
use Rattle.run_shows.specs.Given.TablesDeclared.status.TheConstants.Status.{ABORTED, PROMOTED}
use Rattle.run_shows.specs.Given.TablesDeclared.table.Table.{Table}
use Rattle.run_shows.specs.Given.TablesDeclared.table_words.TheConstants.{NEXT, STATUS, CLAIM, COPIED}
use Rattle.run_shows.specs.Given.ResizeCopier as copier
use Rattle.run_shows.specs.Given.ResizeCopier.{copier_plan}
use Rattle.run_shows.specs.Given.ResizeCopierClaims as claims
use Rattle.run_shows.specs.Given.ResizeCopierCounts as counts
use Rattle.run_shows.specs.Given.ResizeCopierFurther as further
use Rattle.run_shows.specs.Given.ResizeCopierMarks as marks
use Rattle.run_shows.specs.Given.ResizeCopierPlaces as places
use Rattle.run_shows.specs.Given.ResizeCopierPromotes as promotes
use Rattle.run_shows.specs.Given.ResizeNewTable.{new_table_plan}
use Rattle.run_shows.specs.Given.ResizeDeclared.copier.Copier.{Copier}
use Rattle.run_shows.specs.Given.ResizeDeclared.copier.Copying.{Copying}
use Rattle.run_shows.specs.Given.ResizeDeclared.copier.Copying.TheVariants as at
use Rattle.run_shows.specs.Given.ResizeDeclared.new_table.NewTable.{NewTable}
use Rattle.run_shows.specs.Given.ResizeDeclared.yielding.Yielding.{Yielding}
use Rattle.run_shows.specs.Given.ResizeDeclared.yielding.Yielding.TheVariants.{Goes}
use Rattle.run_shows.specs.Given.RuleChart.{Chart}
use Rattle.run_shows.specs.Given.RuleLinks.{LeadsTo}
use Rattle.run_shows.specs.Given.RuleWords.{Blocks, place_word}
use Rattle.run_shows.specs.Given.RuleMaps.{spot_of, IsTable}
use Rattle.run_shows.specs.Given.RuleInWorld.{IsMapIn}
use Rattle.run_shows.specs.Given.TablesChunks.{is_incremental}
use Rattle.run_shows.proofs.Given.RuleWords.LinksSeen.{link_made, root_leads, next_leads}
use Rattle.run_shows.proofs.Given.RuleWords.PlacesShown.{are_stored}
use Rattle.run_shows.proofs.Given.RuleWords.TablesSeen.{place_there}
use Rattle.owner_facts.specs.Given.PointsFactsCopies.{CopyingFacts, CopierFacts}
use Rattle.owner_facts.specs.Given.PointsFactsCopiesBlocking.{CopyingFactsBlocking, CopierFactsBlocking}
use Rattle.owner_facts.specs.Given.LateLateCopies.{SupersededCopying, SupersededCopierFacts}
use Rattle.owner_facts.specs.Given.PointsFactsTables.{NewTableFacts}
use Rattle.owner_facts.specs.Given.PointsTold.{IsRowOfCopier}
use Rattle.many_acts.specs.Looks.Sees.{HasSeen}
use Rattle.many_acts.proofs.Looks.Sees.Held.{AllSeen, table_held, sees_link, pair_held}
use Rattle.many_acts.proofs.Looks.Sees.Operations.{none_if, loads, adds, ors, exchanges}
use Rattle.many_acts.proofs.Looks.Sees.Plans.{seen_as, sees_if, sees_one}
use Rattle.many_acts.proofs.Looks.Sees.Tables.{new_table_sees}

module _ {K V : Type 0} (same : K → K → Bool) (hash : K → ℕ) (fits : (k : K) → hash k < 2 ^ 64) (w : World (Node K V)) (slot caller : ℕ) (c : Chart K) (seen : Blocks)
    (setting : Setting) (Held : ℕ → Type 0) (within : AllSeen Held c seen) (map : IsMapIn same hash setting w c seen) where
  -- what is seen by the link of the root, or by that to the table behind one
  pub root_link : (link : ℕ) → word_at w.memory (Root setting.root) ≡ Some link → LeadsTo c seen link c.first
  root_link link read = root_leads same hash setting.mode setting.root w.memory c seen map.map link read

  pub next_link : (table : Table) (t : ℕ) → IsTable c seen table t → (link : ℕ) → word_at w.memory (at_word table NEXT) ≡ Some link → LeadsTo c seen link (suc t)
  next_link table t entered link read = next_leads same hash setting.mode setting.root w.memory c seen map.map table t link entered read

  -- where a table was made, the root has one
  pub root_held : 0 < c.past → (link : ℕ) → word_at w.memory (Root setting.root) ≡ Some link → Held (link / 2048)
  root_held some link read = table_held w slot c seen Held within link c.first (link_made c seen link c.first (root_link link read) (map.map.rule.common.rooted some))

  -- the pair of a place, by the word that was read there
  pub place_held : (table : Table) (t i : ℕ) → IsTable c seen table t → i < c.len t → (word : ℕ) → word_at w.memory (at_place table i) ≡ Some word → (word / 2048 == 0) ≡ false
      → Held (word / 2048)
  place_held table t i entered inside word read some =
      let there = place_there hash w.memory c seen setting.root map.map.shows table t entered i inside in
      let is : word ≡ place_word hash c seen (c.place t i) = cc (there, read) in
      let ne = eqb-false (word / 2048) 0 some in
      subst (λ (x : ℕ). Held (x / 2048)) (sym is)
      (pair_held w slot c seen Held within hash fits setting.root w.memory map.map.shows (are_stored same (spot_of hash) (is_incremental setting.mode) c map.map.rule.common) t i
      entered.made entered.known (omega (arith, is, ne)))

  module _ (p : Copier) (setting_is : p.setting ≡ setting) (b : ℕ) (n : Mem (Node K V)) (end : Copier × Yielding (Node K V) Table) where
    abbrev IsHeld : Type 0
    IsHeld = Held b

    abbrev Saw : Copying → Type 0
    Saw stands = HasSeen b w.memory (copier.plan_at hash p stands) n end

    abbrev shown : ℕ → Option (Node K V)
    shown = value_at n

    begins : 0 < c.past → Saw at.Begins → IsHeld
    begins some saw =
        let l = loads b w.memory n (Root p.setting.root) end (claims.root_read p) saw in
        let read : word_at w.memory (Root setting.root) ≡ Some l.0 = ap (λ (x : Setting). word_at w.memory (Root x.root)) (sym setting_is) ∙ l.1 in
        subst (λ (x : ℕ). Held x)
        (sym (sees_one {R = Copier × Yielding (Node K V) Table} b (l.0 / 2048) shown (λ value. (record p { source = table_seen l.0 value; stands = at.Follows }, Goes)) l.3.1)) (root_held some l.0 read)

    follows : (t : ℕ) → IsTable c seen p.source t → Saw at.Follows → IsHeld
    follows t entered saw =
        let l = loads b w.memory n (at_word p.source NEXT) end (claims.next_read p) saw in
        sees_link w slot c seen Held within shown l.0 (suc t) (next_link p.source t entered l.0 l.1) _ (λ value. (record p { target = table_seen l.0 value; stands = at.Sees }, Goes)) b l.3.1

    asks : Saw at.Asks → IsHeld
    asks saw =
        let l = loads b w.memory n (at_word p.target STATUS) end (claims.status_read p) saw in
        absurd (none_if b shown (l.0 == PROMOTED) _ _ (λ x. x) (none_if b shown (l.0 == ABORTED) _ _ (λ x. x) (none_if b shown p.spent _ _ (λ x. x) (λ x. x))) l.3.1)

    sees : Saw at.Sees → IsHeld
    sees saw =
        let l = loads b w.memory n (at_word p.target CLAIM) end (claims.claim_read p) saw in
        absurd (none_if b shown (nat_lt l.0 p.source.len) _ _ (λ x. x) (λ x. x) l.3.1)

    claim : Saw at.Claims → IsHeld
    claim saw =
        let l = adds b w.memory n (at_word p.target CLAIM) end (claims.claimed p) (claims.chunk p) saw in
        absurd (none_if b shown (nat_lt l.0 p.source.len) _ _ (λ x. x) (λ x. x) l.2.1)

    mark : (t : ℕ) → IsTable c seen p.source t → p.place < c.len t → Saw at.Marks → IsHeld
    mark t entered inside saw =
        let l = ors b w.memory n (at_place p.source p.place) end (marks.marked hash p) COPYING saw in
        elim (sees_if b shown (marks.is_mine p l.0) _ _ l.2.1) as (λ _. IsHeld) [
          | inl mine ↦ elim (sees_if b shown (l.0 / 2048 == 0) _ _ mine.1) as (λ _. IsHeld) [
            | inl none ↦ absurd none.1
            | inr some ↦
                subst (λ (x : ℕ). Held x)
                (sym (sees_one {R = Copier × Yielding (Node K V) Table} b (l.0 / 2048) shown (λ value. (marks.probing p (marks.without_copying l.0) (marks.key_hash hash value) p.target, Goes)) some.1))
                (place_held p.source t p.place entered inside l.0 l.1 some.0)
          ]
          | inr other ↦ absurd (none_if b shown (marks.is_awaited p l.0) _ _ (λ x. x) (λ x. x) other.1)
        ]

    probe : (word code : ℕ) (table : Table) (at_probe : Probe) → Saw (at.Probes word code table at_probe) → IsHeld
    probe word code table at_probe saw =
        let l = loads b w.memory n (at_place table at_probe.i) end (places.place_read p word code table at_probe) saw in
        absurd (none_if b shown (l.0 == 0) _ _ (λ x. x) (λ x. x) l.3.1)

    put : (word code : ℕ) (table : Table) (at_probe : Probe) → Saw (at.Puts word code table at_probe) → IsHeld
    put word code table at_probe saw =
        elim (exchanges b w.memory n (at_place table at_probe.i) end (places.after_put p word code table at_probe) 0 (places.copied_word p word) saw) as (λ _. IsHeld) [
          | inl made ↦ absurd made.1.1
          | inr found ↦ absurd found.3.1
        ]

    pass : (word code : ℕ) (table : Table) (t : ℕ) → IsTable c seen table t → Saw (at.Passes word code table) → IsHeld
    pass word code table t entered saw =
        let l = loads b w.memory n (at_word table NEXT) end (further.further_read p word code table) saw in
        sees_link w slot c seen Held within shown l.0 (suc t) (next_link table t entered l.0 l.1) _ (λ value. (marks.probing p word code (table_seen l.0 value), Goes)) b l.3.1

    count : Saw at.Counts → IsHeld
    count saw =
        let l = adds b w.memory n (at_word p.target COPIED) end (counts.counted p) p.done saw in
        absurd (none_if b shown ((l.0 + p.done) % 2 ^ 64 == p.source.len) _ _ (λ x. x) (λ x. x) l.2.1)

    promote : Saw at.Promotes → IsHeld
    promote saw = elim (exchanges b w.memory n (Root p.setting.root) end (promotes.promoted p) p.source.link p.target.link saw) as (λ _. IsHeld) [
      | inl made ↦ absurd made.1.1
      | inr found ↦ absurd found.3.1
    ]

    succeed : (table : ℕ) → Saw (at.Succeeds table) → IsHeld
    succeed table saw = let l = loads b w.memory n (Word (table / 2048) NEXT) end (promotes.successor_read p table) saw in absurd l.3.1

    replace : (t : ℕ) → IsTable c seen p.target t → Saw at.Replaces → IsHeld
    replace t entered saw =
        let l = loads b w.memory n (at_word p.target NEXT) end (further.replacement_read p) saw in
        sees_link w slot c seen Held within shown l.0 (suc t) (next_link p.target t entered l.0 l.1) _ (λ value. (further.anew p (table_seen l.0 value), Goes)) b l.3.1

    remake : (t : ℕ) (making : NewTable) → NewTableFacts w caller setting c seen (Word (seen.table t) NEXT) (suc t) making → Saw (at.Remakes making) → IsHeld
    remake t making facts saw =
        let s = seen_as (further.remade p) b w.memory (new_table_plan making) n end saw in
        new_table_sees w slot caller c seen setting Held within (Word (seen.table t) NEXT) (suc t) making b n s.0 facts s.2

    -- in incremental mode
    by_point : (stands : Copying) → CopyingFacts same hash w caller setting c seen p stands → (IsRowOfCopier stands → ⊥) → Saw stands → IsHeld
    by_point at.Begins (some, done, has_done, claims_none, whole) none saw = begins some saw
    by_point at.Follows (done, has_done, claims_none, whole, t, below, entered) none saw = follows t entered saw
    by_point at.Asks point none saw = asks saw
    by_point at.Sees point none saw = sees saw
    by_point at.Claims point none saw = claim saw
    by_point at.Marks (t, (source, target, below, counted), has_done, claims_none, (inside, most, all), settled) none saw = mark t source inside saw
    by_point (at.Probes word code table probed) point none saw = probe word code table probed saw
    by_point (at.Puts word code table probed) point none saw = put word code table probed saw
    by_point (at.Covers word) point none saw = absurd saw.3
    by_point (at.Passes word code table) (m, k, t, works, code_is, behind, entered, looks) none saw = pass word code table t entered saw
    by_point (at.Grows word code making) (m, k, t, works, code_is, behind, looks, made, known, facts) none saw =
        let s = seen_as (further.grown p word code) b w.memory (new_table_plan making) n end saw in
        new_table_sees w slot caller c seen setting Held within (Word (seen.table t) NEXT) (suc t) making b n s.0 facts s.2
    by_point at.Aborts point none saw = absurd point
    by_point at.Replaces point none saw = absurd point
    by_point (at.Remakes making) point none saw = absurd point
    by_point at.Counts point none saw = count saw
    by_point (at.Tallies word fault) point none saw = absurd saw.3
    by_point (at.Unmarks word fault) point none saw = absurd saw.3
    by_point (at.Unclaims fault) point none saw = absurd saw.3
    by_point at.Promotes point none saw = promote saw
    by_point at.Announces point none saw = absurd saw.3
    by_point (at.Succeeds table) point none saw = succeed table saw
    by_point (at.Retires settle rest) point none saw = absurd (none tt)
    by_point at.Over point none saw = absurd saw.2
    by_point (at.Refused fault) point none saw = absurd saw.2

    -- where all pairs are copied at once
    at_once : (stands : Copying) → CopyingFactsBlocking same hash w caller setting c seen p stands → (IsRowOfCopier stands → ⊥) → Saw stands → IsHeld
    at_once at.Begins point none saw = absurd point
    at_once at.Follows point none saw = absurd point
    at_once at.Asks point none saw = asks saw
    at_once at.Sees point none saw = sees saw
    at_once at.Claims point none saw = claim saw
    at_once at.Marks (t, copies, has_done, claims_some, less, most) none saw = mark c.first copies.0 (omega (arith, less, most)) saw
    at_once (at.Probes word code table probed) point none saw = probe word code table probed saw
    at_once (at.Puts word code table probed) point none saw = put word code table probed saw
    at_once (at.Covers word) point none saw = absurd point
    at_once (at.Passes word code table) point none saw = absurd point
    at_once (at.Grows word code making) point none saw = absurd point
    at_once at.Aborts point none saw = absurd saw.3
    at_once at.Replaces (t, rests, aborted) none saw = replace t rests.0.2 saw
    at_once (at.Remakes making) (t, rests, aborted, facts) none saw = remake t making facts saw
    at_once at.Counts point none saw = count saw
    at_once (at.Tallies word fault) point none saw = absurd point
    at_once (at.Unmarks word fault) point none saw = absurd point
    at_once (at.Unclaims fault) point none saw = absurd point
    at_once at.Promotes point none saw = promote saw
    at_once at.Announces point none saw = absurd saw.3
    at_once (at.Succeeds table) point none saw = succeed table saw
    at_once (at.Retires settle rest) point none saw = absurd (none tt)
    at_once at.Over point none saw = absurd saw.2
    at_once (at.Refused fault) point none saw = absurd saw.2

    -- and in a table that the root has left
    by_left : (began : ℕ) (stands : Copying) → SupersededCopying same hash w caller setting c seen began p stands → (IsRowOfCopier stands → ⊥) → Saw stands → IsHeld
    by_left began at.Asks point none saw = asks saw
    by_left began at.Sees point none saw = sees saw
    by_left began at.Claims point none saw = claim saw
    by_left began at.Marks (u, t, copies, range) none saw = mark u copies.0.source (let less = range.0 in let most = range.1 in omega (arith, less, most)) saw
    by_left began (at.Probes word code table probed) point none saw = probe word code table probed saw
    by_left began (at.Puts word code table probed) point none saw = put word code table probed saw
    by_left began at.Counts point none saw = count saw
    by_left began at.Aborts point none saw = absurd saw.3
    by_left began at.Replaces (u, t, copies) none saw = replace t copies.0.target saw
    by_left began (at.Remakes making) (u, t, copies, facts) none saw = remake t making facts saw
    by_left began at.Promotes point none saw = promote saw
    by_left began at.Announces point none saw = absurd saw.3
    by_left began (at.Succeeds table) point none saw = succeed table saw
    by_left began (at.Retires settle rest) point none saw = absurd (none tt)
    by_left began at.Over point none saw = absurd saw.2
    by_left began _ point none saw = absurd point

  pub copier_sees : (p : Copier) → CopierFacts same hash w caller setting c seen p → (IsRowOfCopier p.stands → ⊥) → (b : ℕ) (n : Mem (Node K V)) (end : Copier × Yielding (Node K V) Table)
      → HasSeen b w.memory (copier_plan hash p) n end → Held b
  copier_sees p facts none b n end saw = by_point p facts.setting_is b n end p.stands facts.point none saw

  pub copier_sees_at_once : (p : Copier) → CopierFactsBlocking same hash w caller setting c seen p → (IsRowOfCopier p.stands → ⊥) → (b : ℕ) (n : Mem (Node K V)) (end : Copier × Yielding (Node K V) Table)
      → HasSeen b w.memory (copier_plan hash p) n end → Held b
  copier_sees_at_once p facts none b n end saw = at_once p facts.setting_is b n end p.stands facts.point none saw

  pub left_copier_sees : (began : ℕ) (p : Copier) → SupersededCopierFacts same hash w caller setting c seen began p → (IsRowOfCopier p.stands → ⊥) → (b : ℕ) (n : Mem (Node K V))
      (end : Copier × Yielding (Node K V) Table) → HasSeen b w.memory (copier_plan hash p) n end → Held b
  left_copier_sees began p facts none b n end saw = by_left p facts.setting_is b n end began p.stands facts.point none saw
