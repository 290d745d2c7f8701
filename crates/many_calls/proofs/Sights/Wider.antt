-- A caller that looks at a part of what can be looked at has taken a step: the map stands for all that could be looked at, too.
use Rattle.std.specs.Prelude.{◌≡◌, ◌≢◌, ℕ, suc, ◌+◌, ◌*◌, ◌^◌, ◌<◌, ◌≤◌, Bool, true, false, cond, eqb, ltb, Option, Some, ◌⊎◌}
use Rattle.std.proofs.Common.{refl, ap, sym, subst, ◌∙◌, inl, inr, arith}
use Rattle.std.proofs.lemmas.Bool.{cases_lt}
use Rattle.std.proofs.lemmas.Bool.Decides.{nat_tests}
use Rattle.seize_model.specs.Given.SeizeWordsDeclared.at.At.TheVariants.{Root, Word}
use Rattle.seize_model.specs.Given.SeizeWordsMem.{Mem, value_at, word_at}
use Rattle.seize_model.specs.Given.SeizeLaw.{With, where_is}
use Rattle.seize_model.specs.Given.SeizeWorld.{World, Making}
use Rattle.map_facts_late.specs.Given.TablesChunks.{is_incremental}
use Rattle.map_facts_late.specs.Given.TablesDeclared.node.Node.{Node}
use Rattle.map_facts_late.specs.Given.TablesDeclared.node.Node.TheVariants as node
use Rattle.map_facts_late.specs.Given.TablesDeclared.setting.Setting.{Setting}
use Rattle.map_facts_late.specs.Given.TablesDeclared.table_words.TheConstants.{NEXT, CLAIM, COPIED, STATUS, PLACES}
use Rattle.map_facts_late.specs.Given.RuleChart.{Phase, Copying, Place, Empty, Tombstone, Holds, Chart}
use Rattle.map_facts_late.specs.Given.RuleMoves.{Move, Links, Stores, Replaces, Removes, Marks, MarksBlocking, Skips, Unmarks, Puts, Covers, PutsLate, Claims, Reclaims, Counts, GivesUp, Aborts, Promotes, Announces, after, Allowed}
use Rattle.map_facts_late.specs.Given.RuleWords.{Blocks, byte_of, word_of, next_word, root_word, place_word, RepresentsTable, Represents}
use Rattle.map_facts_late.specs.Given.RuleMaps.{spot_of}
use Rattle.map_facts_late.specs.Given.RuleInWorld.{IsOut, StandsIn, IsReached, IsMapIn, InFootprint, Moved, StepSpec}
use Rattle.map_facts_late.specs.Given.RuleLasts.{Lasts}
use Rattle.map_facts_late.specs.Given.RuleMoments.{Moments, Remembers}
use Rattle.map_facts_late.proofs.Given.RuleWords.BlocksApart.{values_apart}
use Rattle.map_facts_late.proofs.Given.RuleWorld.Hands.{current_known}
use Rattle.many_calls.proofs.Sights.Closed.{Named, names_before}
use Rattle.many_calls.proofs.Sights.Sources.{below, above, sources_then}
use Rattle.many_calls.specs.Sights.{SourcesAreVisible, Visible, IsGrown, IsVisibility}

-- the root after a move is a table that was there, or the one that it was
root_moved : {K : Type 0} (same : K → K → Bool) (spot : ℕ → K → ℕ → ℕ) (incremental : Bool) (c : Chart K) (move : Move K) → Allowed same spot incremental move c
    → ((after spot incremental move c).first ≡ c.first) ⊎ ((after spot incremental move c).first < c.past)
root_moved same spot incremental c (Links len limit) a = inl refl
root_moved same spot incremental c (Stores t k j) a = inl refl
root_moved same spot incremental c (Replaces t i k) a = inl refl
root_moved same spot incremental c (Removes t i) a = inl refl
root_moved same spot incremental c (Marks caller i) a = inl refl
root_moved same spot incremental c (MarksBlocking i) a = inl refl
root_moved same spot incremental c (Skips caller t i) a = inl refl
root_moved same spot incremental c (Unmarks caller i) a = inl refl
root_moved same spot incremental c (Puts caller i t k j) a = inl refl
root_moved same spot incremental c (Covers caller i) a = inl refl
root_moved same spot incremental c (PutsLate t i n) a = inl refl
root_moved same spot incremental c (Claims caller t chunk) a = inl refl
root_moved same spot incremental c (Reclaims t claim) a = inl refl
root_moved same spot incremental c (Counts caller t number) a = inl refl
root_moved same spot incremental c (GivesUp caller t) a = inl refl
root_moved same spot incremental c (Aborts t) a = inl refl
root_moved same spot incremental c (Promotes t) a = inr a.1
root_moved same spot incremental c (Announces t) a = inl refl

module _ {K V : Type 0} (same : K → K → Bool) (hash : K → ℕ) (setting : Setting) (caller : ℕ) (w : World (Node K V)) (c : Chart K) (blocks : Blocks) (sight : Visible)
    (map : IsMapIn same hash setting w c blocks) (is_sight : IsVisibility c blocks sight) where
  -- what the caller looks at
  abbrev pub seen : Blocks
  seen = record blocks { table_known = sight.tables; pair_known = sight.pairs }

  module _ (m2 : Mem (Node K V)) (Told : World (Node K V) → Chart K → Blocks → Type 0) (went : StepSpec same hash setting caller w c seen m2 Told)
      (lasts : Lasts same (spot_of hash) (is_incremental setting.mode) c went.c2) where
    abbrev c2 : Chart K
    c2 = went.c2

    abbrev after_it : Blocks
    after_it = went.blocks2

    -- what can be looked at then: what could before, and what is new
    abbrev pub wider : Blocks
    wider = record {
      table = λ t. cond (ltb t c.past) (blocks.table t) (went.blocks2.table t);
      pair = λ n. cond (ltb n c.stored) (blocks.pair n) (went.blocks2.pair n);
      table_known = λ t. cond (ltb t c.past) (blocks.table_known t) (went.blocks2.table_known t);
      pair_known = λ n. cond (ltb n c.stored) (blocks.pair_known n) (went.blocks2.pair_known n);
    }

    old_table : (t : ℕ) → t < c.past → wider.table t ≡ blocks.table t
    old_table t l = below t c.past (blocks.table t) (after_it.table t) l

    new_table : (t : ℕ) → c.past ≤ t → wider.table t ≡ after_it.table t
    new_table t l = above t c.past (blocks.table t) (after_it.table t) l

    old_known : (t : ℕ) → t < c.past → wider.table_known t ≡ blocks.table_known t
    old_known t l = below t c.past (blocks.table_known t) (after_it.table_known t) l

    new_known : (t : ℕ) → c.past ≤ t → wider.table_known t ≡ after_it.table_known t
    new_known t l = above t c.past (blocks.table_known t) (after_it.table_known t) l

    old_pair : (n : ℕ) → n < c.stored → wider.pair n ≡ blocks.pair n
    old_pair n l = below n c.stored (blocks.pair n) (after_it.pair n) l

    new_pair : (n : ℕ) → c.stored ≤ n → wider.pair n ≡ after_it.pair n
    new_pair n l = above n c.stored (blocks.pair n) (after_it.pair n) l

    old_pair_known : (n : ℕ) → n < c.stored → wider.pair_known n ≡ blocks.pair_known n
    old_pair_known n l = below n c.stored (blocks.pair_known n) (after_it.pair_known n) l

    new_pair_known : (n : ℕ) → c.stored ≤ n → wider.pair_known n ≡ after_it.pair_known n
    new_pair_known n l = above n c.stored (blocks.pair_known n) (after_it.pair_known n) l

    pub is_wider : IsGrown c blocks went.blocks2 wider
    is_wider = record {
      tables = λ t l. (old_table t l, old_known t l);
      pairs = λ n l. (old_pair n l, old_pair_known n l);
      new_tables = λ t l. (new_table t l, new_known t l);
      new_pairs = λ n l. (new_pair n l, new_pair_known n l);
    }

    -- what the caller looks at has the same blocks in both
    pub table_agrees : (t : ℕ) → after_it.table_known t ≡ true → (wider.table t ≡ after_it.table t) × (wider.table_known t ≡ true)
    table_agrees t known = elim (cases_lt t c.past) [
      | inl l ↦
          let was = went.blocks_same.tables_back t l known in
          (old_table t l ∙ sym (went.blocks_same.tables t l was).0, old_known t l ∙ is_sight.tables t l was)
      | inr l ↦ (new_table t l, new_known t l ∙ known)
    ]

    pub pair_agrees : (n : ℕ) → after_it.pair_known n ≡ true → (wider.pair n ≡ after_it.pair n) × (wider.pair_known n ≡ true)
    pair_agrees n known = elim (cases_lt n c.stored) [
      | inl l ↦
          let was = went.blocks_same.pairs_back n l known in
          (old_pair n l ∙ sym (went.blocks_same.pairs n l was).0, old_pair_known n l ∙ is_sight.pairs n l was)
      | inr l ↦ (new_pair n l, new_pair_known n l ∙ known)
    ]

    -- the word of a place whose pair is the same
    place_same : (d d2 : Chart K) (a b : Blocks) (place : Place)
        → ((n : ℕ) (phase : Phase) (borrowed : Bool) → place ≡ Holds n phase borrowed → (a.pair n ≡ b.pair n) × (d.key n ≡ d2.key n)) → place_word hash d a place ≡ place_word hash d2 b place
    place_same d d2 a b (Empty m) h = refl
    place_same d d2 a b (Tombstone m) h = refl
    place_same d d2 a b (Holds n phase borrowed) h =
        let e = h n phase borrowed refl in
        ap (λ (x : ℕ). word_of (λ (y : ℕ). x) (λ (y : ℕ). byte_of hash (d.key n)) (Holds n phase borrowed)) e.0
        ∙ ap (λ (k : Option K). word_of (λ (y : ℕ). b.pair n) (λ (y : ℕ). byte_of hash k) (Holds n phase borrowed)) e.1

    -- a table that the caller looks at shows what it shows to the caller
    seen_shows : (t : ℕ) → t < c2.past → after_it.table_known t ≡ true → RepresentsTable hash went.w2.memory c2 wider t
    seen_shows t made known = record {
      value = at (λ b. value_at went.w2.memory b) ∙ h.value;
      next = at (λ b. word_at went.w2.memory (Word b NEXT)) ∙ h.next ∙ ap Some next_same;
      claim = at (λ b. word_at went.w2.memory (Word b CLAIM)) ∙ h.claim;
      copied = at (λ b. word_at went.w2.memory (Word b COPIED)) ∙ h.copied;
      status = at (λ b. word_at went.w2.memory (Word b STATUS)) ∙ h.status;
      places = λ i l. at (λ b. word_at went.w2.memory (Word b (i + PLACES))) ∙ h.places i l ∙ ap Some (place_same c2 c2 after_it wider (c2.place t i)
          (λ n phase borrowed e. (sym (pair_agrees n (went.map.map.shows.named t i n phase borrowed made known e)).0, refl)));
    }
      where
        h : RepresentsTable hash went.w2.memory c2 after_it t
        h = went.map.map.shows.tables t made known

        at : {X : Type 0} (f : ℕ → X) → f (wider.table t) ≡ f (after_it.table t)
        at f = ap f (table_agrees t known).0

        next_same : next_word hash c2 after_it t ≡ next_word hash c2 wider t
        next_same = elim (cases_lt (suc t) c2.past) [
          | inl l ↦ below (suc t) c2.past (after_it.table (suc t) * 2048) 0 l ∙ ap (λ b. b * 2048) (sym (table_agrees (suc t) (went.map.map.later t (suc t) (omega arith) l known)).0)
              ∙ sym (below (suc t) c2.past (wider.table (suc t) * 2048) 0 l)
          | inr l ↦ above (suc t) c2.past (after_it.table (suc t) * 2048) 0 l ∙ sym (above (suc t) c2.past (wider.table (suc t) * 2048) 0 l)
        ]

    -- one that it doesn't look at is one before the root, as it was
    module _ (t : ℕ) (l : t < c.past) (known : blocks.table_known t ≡ true) (unseen : sight.tables t ≡ true → ⊥) where
      h : RepresentsTable hash w.memory c blocks t
      h = map.map.shows.tables t l known

      before_root : t < c.first
      before_root = elim (cases_lt t c.first) [
        | inl b ↦ b
        | inr on ↦ absurd (unseen (is_sight.linked t on l))
      ]

      not_made : w.hand (blocks.table t) ≡ Making caller → ⊥
      not_made made = subst IsOut made (map.tables_out t l known)

      not_written : (d : ℕ) → InFootprint setting caller w c seen (Word (blocks.table t) d) → ⊥
      not_written d (inl (u, m, k, e)) = unseen (subst (λ (x : ℕ). sight.tables x ≡ true) (sym (map.map.shows.tables_apart t u l m known (is_sight.tables u m k) e)) k)
      not_written d (inr (inl made)) = not_made made.0
      not_written d (inr (inr e)) = values_apart w.memory (blocks.table t) setting.counter (node.Table (c.len t) (c.limit t) t) node.Shards h.value map.counter (λ q. cc q) e

      as_it_was : (d word : ℕ) → word_at w.memory (Word (blocks.table t) d) ≡ Some word → word_at went.w2.memory (Word (wider.table t) d) ≡ Some word
      as_it_was d word is =
          ap (λ b. word_at went.w2.memory (Word b d)) (old_table t l) ∙ ap (λ m. word_at m (Word (blocks.table t) d)) went.memory
          ∙ went.frame.words (Word (blocks.table t) d) word is (not_written d)

      unseen_shows : RepresentsTable hash went.w2.memory c2 wider t
      unseen_shows =
          let kept = went.tables t l unseen in
          record {
            value = ap (λ b. value_at went.w2.memory b) (old_table t l) ∙ ap (λ m. value_at m (blocks.table t)) went.memory
                ∙ went.frame.values (blocks.table t) (node.Table (c.len t) (c.limit t) t) h.value (λ made. not_made made.0)
                ∙ ap (λ n. Some (node.Table n (c.limit t) t)) (sym (lasts.lens t l).0) ∙ ap (λ n. Some (node.Table (c2.len t) n t)) (sym (lasts.lens t l).1);
            next = as_it_was NEXT (next_word hash c blocks t) h.next ∙ ap Some next_same;
            claim = as_it_was CLAIM (c.claim t) h.claim ∙ ap Some (sym kept.2);
            copied = as_it_was COPIED (c.copied t) h.copied ∙ ap Some (sym kept.3);
            status = as_it_was STATUS (c.status t) h.status ∙ ap Some (sym kept.1);
            places = λ i inside.
                as_it_was (i + PLACES) (place_word hash c blocks (c.place t i)) (h.places i (subst (λ n. i < n) (lasts.lens t l).0 inside))
                ∙ ap (λ p. Some (place_word hash c blocks p)) (sym (kept.0 i))
                ∙ ap Some (place_same c c2 blocks wider (c2.place t i) (λ n phase borrowed e. of_pair n phase borrowed (map.map.rule.common.keyed t i n phase borrowed (sym (kept.0 i) ∙ e)).0));
          }
        where
          of_pair : (n : ℕ) (phase : Phase) (borrowed : Bool) → n < c.stored → (blocks.pair n ≡ wider.pair n) × (c.key n ≡ c2.key n)
          of_pair n phase borrowed b = (sym (old_pair n b), sym (lasts.keys n b))

          next_same : next_word hash c blocks t ≡ next_word hash c2 wider t
          next_same =
              let b = before_root in
              let r = map.map.rule.common.rooted (omega (arith, l)) in
              let next : suc t < c.past = omega (arith, b, r) in
              below (suc t) c.past (blocks.table (suc t) * 2048) 0 next ∙ ap (λ b. b * 2048) (sym (old_table (suc t) next))
              ∙ sym (below (suc t) c2.past (wider.table (suc t) * 2048) 0 (let p = lasts.past in omega (arith, next, p)))

    table_shows : (t : ℕ) → t < c2.past → wider.table_known t ≡ true → RepresentsTable hash went.w2.memory c2 wider t
    table_shows t made known = elim (cases_lt t c.past) [
      | inl l ↦ by l (sight.tables t) refl
      | inr l ↦ seen_shows t made (sym (new_known t l) ∙ known)
    ]
      where
        by : t < c.past → (q : Bool) → sight.tables t ≡ q → RepresentsTable hash went.w2.memory c2 wider t
        by l true e = seen_shows t made (went.blocks_same.tables t l e).1
        by l false e = unseen_shows t l (sym (old_known t l) ∙ known) (λ f. cc (e, f))

    -- pairs
    abbrev IsShown : ℕ → Type 0
    IsShown n = (k : K) × (v : V) × (value_at went.w2.memory (wider.pair n) ≡ Some (node.Pair k v)) × (c2.key n ≡ Some k)

    pair_seen : (n : ℕ) → n < c2.stored → after_it.pair_known n ≡ true → IsShown n
    pair_seen n was known = let q = went.map.map.shows.pairs n was known in (q.0, q.1, ap (value_at went.w2.memory) (pair_agrees n known).0 ∙ q.2, q.3)

    pair_unseen : (n : ℕ) → n < c.stored → blocks.pair_known n ≡ true → IsShown n
    pair_unseen n l known =
        let q = map.map.shows.pairs n l known in (
          q.0,
          q.1,
          ap (value_at went.w2.memory) (old_pair n l) ∙ ap (λ m. value_at m (blocks.pair n)) went.memory
              ∙ went.frame.values (blocks.pair n) (node.Pair q.0 q.1) q.2 (λ made. subst IsOut made.0 (map.pairs_out n l known)),
          lasts.keys n l ∙ q.3,
        )

    pair_shows : (n : ℕ) → n < c2.stored → wider.pair_known n ≡ true → IsShown n
    pair_shows n was known = elim (cases_lt n c.stored) [
      | inl l ↦ pair_unseen n l (sym (old_pair_known n l) ∙ known)
      | inr l ↦ pair_seen n was (sym (new_pair_known n l) ∙ known)
    ]

    linked_then : (t : ℕ) → c2.first ≤ t → t < c2.past → after_it.table_known t ≡ true
    linked_then t l made = went.map.map.shows.linked t l made

    root_shows : word_at went.w2.memory (Root setting.root) ≡ Some (root_word hash c2 wider)
    root_shows = went.map.map.shows.root_there ∙ ap Some (elim (cases_lt 0 c2.past) [
      | inl some ↦ ap (λ b. cond (eqb c2.past 0) 0 (b * 2048)) (sym (table_agrees c2.first (linked_then c2.first (let e : c2.first ≤ c2.first = omega arith in e) (went.map.map.rule.common.rooted some))).0)
      | inr none ↦ (let e : eqb c2.past 0 ≡ true = grind (arith, nat_tests, none) in ap (λ q. cond q 0 (after_it.table c2.first * 2048)) e ∙ sym (ap (λ q. cond q 0 (wider.table c2.first * 2048)) e))
    ])

    named_then : (t i n : ℕ) (phase : Phase) (borrowed : Bool) → t < c2.past → wider.table_known t ≡ true → c2.place t i ≡ Holds n phase borrowed → wider.pair_known n ≡ true
    named_then t i n phase borrowed made known e = elim (cases_lt t c.past) [
      | inl l ↦ by l (sight.tables t) refl
      | inr l ↦ (pair_agrees n (went.map.map.shows.named t i n phase borrowed made (sym (new_known t l) ∙ known) e)).1
    ]
      where
        by : t < c.past → (q : Bool) → sight.tables t ≡ q → wider.pair_known n ≡ true
        by l true f = (pair_agrees n (went.map.map.shows.named t i n phase borrowed made (went.blocks_same.tables t l f).1 e)).1
        by l false f =
            let old = sym ((went.tables t l (λ g. cc (f, g))).0 i) ∙ e in
            old_pair_known n (map.map.rule.common.keyed t i n phase borrowed old).0 ∙ map.map.shows.named t i n phase borrowed l (sym (old_known t l) ∙ known) old

    table_number : (t : ℕ) → t < c2.past → wider.table_known t ≡ true → (0 < wider.table t) × (wider.table t < 2 ^ 53)
    table_number t made known = elim (cases_lt t c.past) [
      | inl l ↦ subst (λ (b : ℕ). (0 < b) × (b < 2 ^ 53)) (sym (old_table t l)) (map.map.shows.table_numbers t l (sym (old_known t l) ∙ known))
      | inr l ↦ subst (λ (b : ℕ). (0 < b) × (b < 2 ^ 53)) (sym (new_table t l)) (went.map.map.shows.table_numbers t made (sym (new_known t l) ∙ known))
    ]

    pair_number : (n : ℕ) → n < c2.stored → wider.pair_known n ≡ true → (0 < wider.pair n) × (wider.pair n < 2 ^ 53)
    pair_number n was known = elim (cases_lt n c.stored) [
      | inl l ↦ subst (λ (b : ℕ). (0 < b) × (b < 2 ^ 53)) (sym (old_pair n l)) (map.map.shows.pair_numbers n l (sym (old_pair_known n l) ∙ known))
      | inr l ↦ subst (λ (b : ℕ). (0 < b) × (b < 2 ^ 53)) (sym (new_pair n l)) (went.map.map.shows.pair_numbers n was (sym (new_pair_known n l) ∙ known))
    ]

    -- a block that was out is none that the caller has made
    out_apart : (a b : ℕ) → IsOut (w.hand a) → w.hand b ≡ Making caller → a ≢ b
    out_apart a b out made e = subst IsOut made (subst (λ (x : ℕ). IsOut (w.hand x)) e out)

    tables_apart_then : (t u : ℕ) → t < c2.past → u < c2.past → wider.table_known t ≡ true → wider.table_known u ≡ true → wider.table t ≡ wider.table u → t ≡ u
    tables_apart_then t u made made2 known known2 e = by (cases_lt t c.past) (cases_lt u c.past)
      where
        by : (t < c.past) ⊎ (c.past ≤ t) → (u < c.past) ⊎ (c.past ≤ u) → t ≡ u
        by (inl l) (inl m) = map.map.shows.tables_apart t u l m (sym (old_known t l) ∙ known) (sym (old_known u m) ∙ known2) (sym (old_table t l) ∙ e ∙ old_table u m)
        by (inl l) (inr m) = absurd (out_apart (blocks.table t) (after_it.table u) (map.tables_out t l (sym (old_known t l) ∙ known)) (went.links.tables u m made2) (sym (old_table t l) ∙ e ∙ new_table u m))
        by (inr l) (inl m) = absurd (out_apart (blocks.table u) (after_it.table t) (map.tables_out u m (sym (old_known u m) ∙ known2)) (went.links.tables t l made) (sym (old_table u m) ∙ sym e ∙ new_table t l))
        by (inr l) (inr m) = went.map.map.shows.tables_apart t u made made2 (sym (new_known t l) ∙ known) (sym (new_known u m) ∙ known2) (sym (new_table t l) ∙ e ∙ new_table u m)

    pairs_apart_then : (n o : ℕ) → n < c2.stored → o < c2.stored → wider.pair_known n ≡ true → wider.pair_known o ≡ true → wider.pair n ≡ wider.pair o → n ≡ o
    pairs_apart_then n o was was2 known known2 e = by (cases_lt n c.stored) (cases_lt o c.stored)
      where
        by : (n < c.stored) ⊎ (c.stored ≤ n) → (o < c.stored) ⊎ (c.stored ≤ o) → n ≡ o
        by (inl l) (inl m) = map.map.shows.pairs_apart n o l m (sym (old_pair_known n l) ∙ known) (sym (old_pair_known o m) ∙ known2) (sym (old_pair n l) ∙ e ∙ old_pair o m)
        by (inl l) (inr m) = absurd (out_apart (blocks.pair n) (after_it.pair o) (map.pairs_out n l (sym (old_pair_known n l) ∙ known)) (went.links.pairs o m was2) (sym (old_pair n l) ∙ e ∙ new_pair o m))
        by (inr l) (inl m) = absurd (out_apart (blocks.pair o) (after_it.pair n) (map.pairs_out o m (sym (old_pair_known o m) ∙ known2)) (went.links.pairs n l was) (sym (old_pair o m) ∙ sym e ∙ new_pair n l))
        by (inr l) (inr m) = went.map.map.shows.pairs_apart n o was was2 (sym (new_pair_known n l) ∙ known) (sym (new_pair_known o m) ∙ known2) (sym (new_pair n l) ∙ e ∙ new_pair o m)

    -- the root then is none of the tables that are new
    root_first : (u : ℕ) → 0 < c.past → c.past ≤ u → c2.first ≤ u
    root_first u some m = at went.moved
      where
        at : Moved same hash setting.mode caller c c2 → c2.first ≤ u
        at (inl e) = let r = map.map.rule.common.rooted some in let f = ap (λ (x : Chart K). x.first) e in omega (arith, r, f, m)
        at (inr (move, allowed, e, its)) = let f = ap (λ (x : Chart K). x.first) e in elim (root_moved same (spot_of hash) (is_incremental setting.mode) c move allowed) [
          | inl kept ↦ (let r = map.map.rule.common.rooted some in omega (arith, r, f, kept, m))
          | inr there ↦ omega (arith, f, there, m)
        ]

    later_then : (t u : ℕ) → t < u → u < c2.past → wider.table_known t ≡ true → wider.table_known u ≡ true
    later_then t u l made known = elim (cases_lt u c.past) [
      | inl m ↦ old_known u m ∙ map.map.later t u l m (sym (old_known t (omega (arith, l, m))) ∙ known)
      | inr m ↦ by m (cases_lt t c.past)
    ]
      where
        by : c.past ≤ u → (t < c.past) ⊎ (c.past ≤ t) → wider.table_known u ≡ true
        by m (inl b) = new_known u m ∙ linked_then u (root_first u (omega (arith, b)) m) made
        by m (inr b) = new_known u m ∙ went.map.map.later t u l made (sym (new_known t b) ∙ known)

    shows_then : Represents hash went.w2.memory c2 wider setting.root
    shows_then = record {
      root_there = root_shows;
      tables = table_shows;
      pairs = pair_shows;
      sized = went.map.map.shows.sized;
      linked = λ t l made. (table_agrees t (linked_then t l made)).1;
      named = named_then;
      table_numbers = table_number;
      pair_numbers = pair_number;
      tables_apart = tables_apart_then;
      pairs_apart = pairs_apart_then;
    }

    reached_then : (t i n : ℕ) (phase : Phase) (borrowed : Bool) → c2.first ≤ t → t < c2.past → c2.place t i ≡ Holds n phase borrowed → IsReached same hash setting went.w2 c2 wider t n
    reached_then t i n phase borrowed l made e = by (went.map.named t i n phase borrowed l made e)
      where
        same_pair : wider.pair n ≡ after_it.pair n
        same_pair = (pair_agrees n (went.map.map.shows.named t i n phase borrowed made (linked_then t l made) e)).0

        by : IsReached same hash setting went.w2 c2 after_it t n → IsReached same hash setting went.w2 c2 wider t n
        by (inl stands) = inl (subst (λ (b : ℕ). StandsIn setting.counter (went.w2.hand b)) (sym same_pair) stands)
        by (inr (u, on, there, handed, with_it)) =
            inr (u, on, there, ap went.w2.hand same_pair ∙ handed, ap (λ b. where_is b went.w2.log) same_pair ∙ with_it ∙ ap With (sym (table_agrees u (linked_then u (omega (arith, l, on)) there)).0))

    -- the map stands for all
    pub stands_wider : IsMapIn same hash setting went.w2 went.c2 wider
    stands_wider = record {
      map = record { rule = went.map.map.rule; shows = shows_then; later = later_then };
      counter = went.map.counter;
      shards = went.map.shards;
      tables = λ t l made. ap went.w2.hand (table_agrees t (linked_then t l made)).0 ∙ went.map.tables t l made;
      pairs = λ n is.
          let k = current_known same hash setting went.w2 c2 after_it went.map.map.rule went.map.map.shows n is in ap went.w2.hand (pair_agrees n k.1).0 ∙ went.map.pairs n is;
      named = reached_then;
      tables_out = λ t made known. elim (cases_lt t c.past) [
        | inl l ↦
            let k = sym (old_known t l) ∙ known in
            subst (λ (b : ℕ). IsOut (went.w2.hand b)) (sym (old_table t l)) (went.links.outs (blocks.table t) _ (map.map.shows.tables t l k).value (map.tables_out t l k))
        | inr l ↦ subst (λ (b : ℕ). IsOut (went.w2.hand b)) (sym (new_table t l)) (went.map.tables_out t made (sym (new_known t l) ∙ known))
      ];
      pairs_out = λ n was known. elim (cases_lt n c.stored) [
        | inl l ↦
            let k = sym (old_pair_known n l) ∙ known in
            let q = map.map.shows.pairs n l k in
            subst (λ (b : ℕ). IsOut (went.w2.hand b)) (sym (old_pair n l)) (went.links.outs (blocks.pair n) _ q.2 (map.pairs_out n l k))
        | inr l ↦ subst (λ (b : ℕ). IsOut (went.w2.hand b)) (sym (new_pair n l)) (went.map.pairs_out n was (sym (new_pair_known n l) ∙ known))
      ];
    }

    -- sources can be looked at then
    pub sources_wider : Moments (is_incremental setting.mode) c → Remembers (is_incremental setting.mode) c went.c2 → SourcesAreVisible c blocks.table_known
        → SourcesAreVisible went.c2 wider.table_known
    sources_wider moments remembers sources =
        sources_then same hash setting.mode caller c c2 map.map.rule moments remembers went.moved blocks.table_known after_it.table_known map.map.shows.linked sources

    -- what another caller looks at then: what it did, and what is new
    module _ (moments : Moments (is_incremental setting.mode) c) (remembers : Remembers (is_incremental setting.mode) c went.c2) (its : Visible) (closed : IsVisibility c blocks its) where
      abbrev tables_then : ℕ → Bool
      tables_then t = cond (ltb t c.past) (its.tables t) (went.blocks2.table_known t)

      abbrev pairs_then : ℕ → Bool
      pairs_then n = cond (ltb n c.stored) (its.pairs n) (went.blocks2.pair_known n)

      abbrev pub sight_then : Visible
      sight_then = record { tables = λ t. cond (ltb t c.past) (its.tables t) (went.blocks2.table_known t); pairs = λ n. cond (ltb n c.stored) (its.pairs n) (went.blocks2.pair_known n) }

      -- what a place names that stood in this table, or in another one that is seen with it
      was_named : (t p n : ℕ) (phase : Phase) (borrowed : Bool) → (t < c.past → its.tables t ≡ true) → c.place t p ≡ Holds n phase borrowed → pairs_then n ≡ true
      was_named t p n phase borrowed looked e = elim (cases_lt t c.past) [
        | inl l ↦ below n c.stored (its.pairs n) (after_it.pair_known n) (map.map.rule.common.keyed t p n phase borrowed e).0 ∙ closed.named t p n phase borrowed l (looked l) e
        | inr none ↦ (let empty = map.map.rule.common.unmade t p none in absurd (cc (empty, e)))
      ]

      new_named : (t p n : ℕ) (phase : Phase) (borrowed : Bool) → t < c2.past → tables_then t ≡ true → c2.place t p ≡ Holds n phase borrowed → n ≡ c.stored → pairs_then n ≡ true
      new_named t p n phase borrowed made known e is =
          above n c.stored (its.pairs n) (after_it.pair_known n) (omega (arith, is)) ∙ (elim (cases_lt t c.past) [
            | inl l ↦ by l (sight.tables t) refl
            | inr l ↦ went.map.map.shows.named t p n phase borrowed made (sym (above t c.past (its.tables t) (after_it.table_known t) l) ∙ known) e
          ])
        where
          by : t < c.past → (q : Bool) → sight.tables t ≡ q → after_it.pair_known n ≡ true
          by l true f = went.map.map.shows.named t p n phase borrowed made (went.blocks_same.tables t l f).1 e
          by l false f =
              let old = sym ((went.tables t l (λ g. cc (f, g))).0 p) ∙ e in absurd (let b = (map.map.rule.common.keyed t p n phase borrowed old).0 in omega (arith, b, is))

      its_named : (t p n : ℕ) (phase : Phase) (borrowed : Bool) → t < c2.past → tables_then t ≡ true → c2.place t p ≡ Holds n phase borrowed → pairs_then n ≡ true
      its_named t p n phase borrowed made known e = at went.moved
        where
          looked : t < c.past → its.tables t ≡ true
          looked l = sym (below t c.past (its.tables t) (after_it.table_known t) l) ∙ known

          root_looked : c.first < c.past → its.tables c.first ≡ true
          root_looked l = closed.linked c.first (omega arith) l

          -- what the root has left is there
          passed : t < c.first → t < c.past
          passed l = elim (cases_lt 0 c.past) [
            | inl some ↦ (let r = map.map.rule.common.rooted some in omega (arith, l, r))
            | inr none ↦ (let r = map.map.rule.common.rootless (omega (arith, none)) in omega (arith, l, r))
          ]

          by : Named same (spot_of hash) (is_incremental setting.mode) c t n → pairs_then n ≡ true
          by (inl (q, before, lent, h)) = was_named t q n before lent looked h
          by (inr (inl (q, before, lent, h))) = was_named c.first q n before lent root_looked h
          by (inr (inr (inl (left, aborted, q, h)))) = was_named (c.from t) q n Copying false (λ l. closed.sources t (passed left) (looked (passed left)) aborted) h
          by (inr (inr (inr is))) = new_named t p n phase borrowed made known e is

          at : Moved same hash setting.mode caller c c2 → pairs_then n ≡ true
          at (inl still) = was_named t p n phase borrowed looked (ap (λ (x : Chart K). x.place t p) (sym still) ∙ e)
          at (inr (move, allowed, is, its)) =
              by (names_before same (spot_of hash) (is_incremental setting.mode) c move allowed t p n phase borrowed (ap (λ (x : Chart K). x.place t p) (sym is) ∙ e))

      pub closed_then : IsVisibility went.c2 wider sight_then
      closed_then = record {
        tables = λ t made known. elim (cases_lt t c.past) [
          | inl b ↦ old_known t b ∙ closed.tables t b (sym (below t c.past (its.tables t) (after_it.table_known t) b) ∙ known)
          | inr b ↦ new_known t b ∙ sym (above t c.past (its.tables t) (after_it.table_known t) b) ∙ known
        ];
        pairs = λ n was known. elim (cases_lt n c.stored) [
          | inl b ↦ old_pair_known n b ∙ closed.pairs n b (sym (below n c.stored (its.pairs n) (after_it.pair_known n) b) ∙ known)
          | inr b ↦ new_pair_known n b ∙ sym (above n c.stored (its.pairs n) (after_it.pair_known n) b) ∙ known
        ];
        linked = λ t l made. elim (cases_lt t c.past) [
          | inl b ↦ below t c.past (its.tables t) (after_it.table_known t) b ∙ closed.linked t (let f = lasts.first in omega (arith, f, l)) b
          | inr b ↦ above t c.past (its.tables t) (after_it.table_known t) b ∙ linked_then t l made
        ];
        named = its_named;
        later = λ t u l made known. elim (cases_lt u c.past) [
          | inl b ↦ below u c.past (its.tables u) (after_it.table_known u) b
              ∙ closed.later t u l b (sym (below t c.past (its.tables t) (after_it.table_known t) (omega (arith, l, b))) ∙ known)
          | inr b ↦ above u c.past (its.tables u) (after_it.table_known u) b ∙ behind t u l made known b (cases_lt t c.past)
        ];
        sources =
            sources_then same hash setting.mode caller c c2 map.map.rule moments remembers went.moved its.tables after_it.table_known closed.linked closed.sources;
      }
        where
          behind : (t u : ℕ) → t < u → u < c2.past → tables_then t ≡ true → c.past ≤ u → (t < c.past) ⊎ (c.past ≤ t) → after_it.table_known u ≡ true
          behind t u l made known b (inl old) = linked_then u (root_first u (omega (arith, old)) b) made
          behind t u l made known b (inr new) = went.map.map.later t u l made (sym (above t c.past (its.tables t) (after_it.table_known t) new) ∙ known)
