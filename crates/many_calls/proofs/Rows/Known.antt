-- What a move makes: tables behind all others, and pairs of the map. So what is known after it was known before, or is in use.
use Rattle.std.proofs.Common.{◌≡◌, ℕ, zero, suc, ◌<◌, ◌≤◌, Bool, true, cond, ◌⊎◌, inl, inr, refl, arith, ap, sym, subst, ◌∙◌}
use Rattle.std.proofs.lemmas.Bool.{cases_lt, eq-eqb}
use Rattle.map_facts_late.specs.Given.TablesChunks.{is_incremental}
use Rattle.map_facts_late.specs.Given.TablesDeclared.resize_mode.ResizeMode.{ResizeMode}
use Rattle.map_facts_late.specs.Given.RuleChart.{Chart, put}
use Rattle.map_facts_late.specs.Given.RuleRule.{Rule}
use Rattle.map_facts_late.specs.Given.RuleMoves.{Move, Links, Stores, Replaces, Removes, Marks, MarksBlocking, Skips, Unmarks, Puts, Covers, PutsLate, Claims, Reclaims, Counts, GivesUp, Aborts, Promotes, Announces, after, Allowed}
use Rattle.map_facts_late.specs.Given.RuleWords.{Blocks}
use Rattle.map_facts_late.specs.Given.RuleMaps.{spot_of}
use Rattle.map_facts_late.specs.Given.RuleInWorld.{Moved, SameBlocks, KnownSince}

module _ {K : Type 0} (same : K → K → Bool) (spot : ℕ → K → ℕ → ℕ) (incremental : Bool) (c : Chart K) (rule : Rule same spot incremental c) where
  pub record Makes (c2 : Chart K) : Type 0 where
    pub first : c2.first ≤ c.past
    pub current : (n : ℕ) → c.stored ≤ n → n < c2.stored → c2.current n ≡ true
    pub stored : c2.current ≡ c.current → c2.stored ≡ c.stored

  first_made : c.first ≤ c.past
  first_made = by c.past refl
    where
      by : (p : ℕ) → c.past ≡ p → c.first ≤ c.past
      by zero e = let r = rule.common.rootless e in omega (arith, r)
      by (suc p) e = let r = rule.common.rooted (omega (arith, e)) in omega (arith, r)

  none : (c2 : Chart K) → c2.first ≡ c.first → c2.stored ≡ c.stored → Makes c2
  none c2 first stored = record {
    first = (let l = first_made in omega (arith, l, first));
    current = λ n l m. absurd (omega (arith, l, m, stored));
    stored = λ e. stored;
  }

  -- no pair of the map was never stored
  unstored : c.current c.stored ≡ true → ⊥
  unstored e = let s = rule.common.stands c.stored e in let k = (rule.common.keyed s.0 s.1 c.stored s.2 s.3 s.4).0 in omega (arith, k)

  pair : (c2 : Chart K) (current : ℕ → Bool) → c2.first ≡ c.first → c2.stored ≡ suc c.stored → c2.current ≡ put current c.stored true → Makes c2
  pair c2 current first stored is = record {
    first = (let l = first_made in omega (arith, l, first));
    current = λ n l m. (let e : n ≡ c.stored = omega (arith, l, m, stored) in
        ap (λ (f : ℕ → Bool). f n) is ∙ ap (λ (b : Bool). cond b true (current n)) (eq-eqb n c.stored e));
    stored = λ e. absurd (unstored (ap (λ (f : ℕ → Bool). f c.stored) (sym e ∙ is) ∙ ap (λ (b : Bool). cond b true (current c.stored)) (eq-eqb c.stored c.stored refl)));
  }

  pub makes : (move : Move K) → Allowed same spot incremental move c → Makes (after spot incremental move c)
  makes (Links len limit) l = none (after spot incremental (Links len limit) c) refl refl
  makes (Stores t k j) l = pair (after spot incremental (Stores t k j) c) _ refl refl refl
  makes (Replaces t i k) l = pair (after spot incremental (Replaces t i k) c) _ refl refl refl
  makes (Removes t i) l = none (after spot incremental (Removes t i) c) refl refl
  makes (Marks caller i) l = none (after spot incremental (Marks caller i) c) refl refl
  makes (MarksBlocking i) l = none (after spot incremental (MarksBlocking i) c) refl refl
  makes (Skips caller t i) l = none (after spot incremental (Skips caller t i) c) refl refl
  makes (Unmarks caller i) l = none (after spot incremental (Unmarks caller i) c) refl refl
  makes (Puts caller i t k j) l = none (after spot incremental (Puts caller i t k j) c) refl refl
  makes (Covers caller i) l = none (after spot incremental (Covers caller i) c) refl refl
  makes (PutsLate t i n) l = none (after spot incremental (PutsLate t i n) c) refl refl
  makes (Claims caller t chunk) l = none (after spot incremental (Claims caller t chunk) c) refl refl
  makes (Reclaims t claim) l = none (after spot incremental (Reclaims t claim) c) refl refl
  makes (Counts caller t number) l = none (after spot incremental (Counts caller t number) c) refl refl
  makes (GivesUp caller t) l = none (after spot incremental (GivesUp caller t) c) refl refl
  makes (Aborts t) l = none (after spot incremental (Aborts t) c) refl refl
  makes (Promotes t) l = record { first = (let made = l.1 in omega (arith, made)); current = λ n a b. absurd (omega (arith, a, b)); stored = λ e. refl }
  makes (Announces t) l = none (after spot incremental (Announces t) c) refl refl

module _ {K : Type 0} (same : K → K → Bool) (hash : K → ℕ) (mode : ResizeMode) (c c2 : Chart K) (rule : Rule same (spot_of hash) (is_incremental mode) c) {caller : ℕ} (moved : Moved same hash mode caller c c2) where
  pub moved_makes : Makes same (spot_of hash) (is_incremental mode) c rule c2
  moved_makes = by moved
    where
      by : Moved same hash mode caller c c2 → Makes same (spot_of hash) (is_incremental mode) c rule c2
      by (inl e) = none same (spot_of hash) (is_incremental mode) c rule c2 (ap (λ (x : Chart K). x.first) e) (ap (λ (x : Chart K). x.stored) e)
      by (inr m) = subst (λ (x : Chart K). Makes same (spot_of hash) (is_incremental mode) c rule x) (sym m.2) (makes same (spot_of hash) (is_incremental mode) c rule m.0 m.1)

  pub known_since : (blocks blocks2 : Blocks) → SameBlocks c blocks blocks2 → KnownSince c blocks c2 blocks2
  known_since blocks blocks2 b = record { tables = λ t made known. table t known (cases_lt t c.past); pairs = λ n was known. pair_since n was known (cases_lt n c.stored) }
    where
      table : (t : ℕ) → blocks2.table_known t ≡ true → (t < c.past) ⊎ (c.past ≤ t)
          → ((t < c.past) × (blocks.table_known t ≡ true) × (blocks2.table t ≡ blocks.table t)) ⊎ (c2.first ≤ t)
      table t known (inl l) = let k = b.tables_back t l known in inl (l, k, (b.tables t l k).0)
      table t known (inr l) = let f = moved_makes.first in inr (omega (arith, f, l))

      pair_since : (n : ℕ) → n < c2.stored → blocks2.pair_known n ≡ true → (n < c.stored) ⊎ (c.stored ≤ n)
          → ((n < c.stored) × (blocks.pair_known n ≡ true) × (blocks2.pair n ≡ blocks.pair n)) ⊎ (c2.current n ≡ true)
      pair_since n was known (inl l) = let k = b.pairs_back n l known in inl (l, k, (b.pairs n l k).0)
      pair_since n was known (inr l) = inr (moved_makes.current n l was)
