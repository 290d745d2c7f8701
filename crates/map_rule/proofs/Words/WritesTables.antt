-- A word of a table that is no place is written, or that of the root.
use Rattle.std.specs.Prelude.{Some, IsSome}
use Rattle.std.proofs.Common.{◌≡◌, ◌≢◌, ℕ, ◌+◌, ◌*◌, ◌<◌, ◌≤◌, true, cond, refl, ap, sym, ◌∙◌, arith}
use Rattle.std.proofs.lemmas.Bool.{eq-eqb, ne_eqb}
use Rattle.map_machines.specs.Given.SeizeWordsDeclared.at.At.TheVariants.{Root, Word}
use Rattle.map_machines.specs.Given.SeizeWordsMem.{Mem, value_at, word_at, with_word}
use Rattle.map_machines.proofs.Given.SeizeWordsOneOwner.AfterWrites.{word_at-with_word}
use Rattle.map_machines.specs.Given.TablesDeclared.node.Node.{Node}
use Rattle.map_machines.specs.Given.TablesDeclared.table_words.TheConstants.{NEXT, CLAIM, COPIED, STATUS, PLACES}
use Rattle.map_rule.specs.Chart.{Chart, put}
use Rattle.map_rule.specs.Words.{Blocks, RepresentsTable, Represents}
use Rattle.map_rule.proofs.Words.WritesWords.{values_same, word_kept, word_put}
use Rattle.map_machines.proofs.Given.General.{some_is as is_some_of}

module _ {K V : Type 0} (hash : K → ℕ) (m : Mem (Node K V)) (c : Chart K) (blocks : Blocks) (root : ℕ) (s : Represents hash m c blocks root) where
  -- another claim
  pub claim_written : (t w : ℕ) → t < c.past → blocks.table_known t ≡ true
      → Represents hash (with_word m (Word (blocks.table t) CLAIM) w) (record c { claim = put c.claim t w }) blocks root
  claim_written t w made known = record {
    root_there = s.root_there;
    tables = λ u made2 known2. table u made2 known2 (s.tables u made2 known2);
    pairs = λ p made2 known2. let q = s.pairs p made2 known2 in (q.0, q.1, value (blocks.pair p) ∙ q.2, q.3);
    sized = s.sized;
    linked = s.linked;
    named = s.named;
    table_numbers = s.table_numbers;
    pair_numbers = s.pair_numbers;
    tables_apart = s.tables_apart;
    pairs_apart = s.pairs_apart;
  }
    where
      there : word_at m (Word (blocks.table t) CLAIM) ≡ Some (c.claim t)
      there = (s.tables t made known).claim

      value : (b : ℕ) → value_at (with_word m (Word (blocks.table t) CLAIM) w) b ≡ value_at m b
      value = values_same m (blocks.table t) CLAIM w _ there

      table : (u : ℕ) → u < c.past → blocks.table_known u ≡ true → RepresentsTable hash m c blocks u
          → RepresentsTable hash (with_word m (Word (blocks.table t) CLAIM) w) (record c { claim = put c.claim t w }) blocks u
      table u made2 known2 h = record {
        value = value (blocks.table u) ∙ h.value;
        next = kept NEXT (omega arith) _ h.next;
        claim = word_put hash m c blocks root s t CLAIM w _ made known there u made2 known2 c.claim h.claim;
        copied = kept COPIED (omega arith) _ h.copied;
        status = kept STATUS (omega arith) _ h.status;
        places = λ i inside. kept (i + PLACES) (omega arith) _ (h.places i inside);
      }
        where
          kept : (e : ℕ) → e ≢ CLAIM → (x : ℕ) → word_at m (Word (blocks.table u) e) ≡ Some x
              → word_at (with_word m (Word (blocks.table t) CLAIM) w) (Word (blocks.table u) e) ≡ Some x
          kept = word_kept hash m c blocks root s t CLAIM w _ made known there u made2 known2

  -- another number of places copied
  pub copied_written : (t w : ℕ) → t < c.past → blocks.table_known t ≡ true
      → Represents hash (with_word m (Word (blocks.table t) COPIED) w) (record c { copied = put c.copied t w }) blocks root
  copied_written t w made known = record {
    root_there = s.root_there;
    tables = λ u made2 known2. table u made2 known2 (s.tables u made2 known2);
    pairs = λ p made2 known2. let q = s.pairs p made2 known2 in (q.0, q.1, value (blocks.pair p) ∙ q.2, q.3);
    sized = s.sized;
    linked = s.linked;
    named = s.named;
    table_numbers = s.table_numbers;
    pair_numbers = s.pair_numbers;
    tables_apart = s.tables_apart;
    pairs_apart = s.pairs_apart;
  }
    where
      there : word_at m (Word (blocks.table t) COPIED) ≡ Some (c.copied t)
      there = (s.tables t made known).copied

      value : (b : ℕ) → value_at (with_word m (Word (blocks.table t) COPIED) w) b ≡ value_at m b
      value = values_same m (blocks.table t) COPIED w _ there

      table : (u : ℕ) → u < c.past → blocks.table_known u ≡ true → RepresentsTable hash m c blocks u
          → RepresentsTable hash (with_word m (Word (blocks.table t) COPIED) w) (record c { copied = put c.copied t w }) blocks u
      table u made2 known2 h = record {
        value = value (blocks.table u) ∙ h.value;
        next = kept NEXT (omega arith) _ h.next;
        claim = kept CLAIM (omega arith) _ h.claim;
        copied = word_put hash m c blocks root s t COPIED w _ made known there u made2 known2 c.copied h.copied;
        status = kept STATUS (omega arith) _ h.status;
        places = λ i inside. kept (i + PLACES) (omega arith) _ (h.places i inside);
      }
        where
          kept : (e : ℕ) → e ≢ COPIED → (x : ℕ) → word_at m (Word (blocks.table u) e) ≡ Some x
              → word_at (with_word m (Word (blocks.table t) COPIED) w) (Word (blocks.table u) e) ≡ Some x
          kept = word_kept hash m c blocks root s t COPIED w _ made known there u made2 known2

  -- another status
  pub status_written : (t w : ℕ) → t < c.past → blocks.table_known t ≡ true
      → Represents hash (with_word m (Word (blocks.table t) STATUS) w) (record c { status = put c.status t w }) blocks root
  status_written t w made known = record {
    root_there = s.root_there;
    tables = λ u made2 known2. table u made2 known2 (s.tables u made2 known2);
    pairs = λ p made2 known2. let q = s.pairs p made2 known2 in (q.0, q.1, value (blocks.pair p) ∙ q.2, q.3);
    sized = s.sized;
    linked = s.linked;
    named = s.named;
    table_numbers = s.table_numbers;
    pair_numbers = s.pair_numbers;
    tables_apart = s.tables_apart;
    pairs_apart = s.pairs_apart;
  }
    where
      there : word_at m (Word (blocks.table t) STATUS) ≡ Some (c.status t)
      there = (s.tables t made known).status

      value : (b : ℕ) → value_at (with_word m (Word (blocks.table t) STATUS) w) b ≡ value_at m b
      value = values_same m (blocks.table t) STATUS w _ there

      table : (u : ℕ) → u < c.past → blocks.table_known u ≡ true → RepresentsTable hash m c blocks u
          → RepresentsTable hash (with_word m (Word (blocks.table t) STATUS) w) (record c { status = put c.status t w }) blocks u
      table u made2 known2 h = record {
        value = value (blocks.table u) ∙ h.value;
        next = kept NEXT (omega arith) _ h.next;
        claim = kept CLAIM (omega arith) _ h.claim;
        copied = kept COPIED (omega arith) _ h.copied;
        status = word_put hash m c blocks root s t STATUS w _ made known there u made2 known2 c.status h.status;
        places = λ i inside. kept (i + PLACES) (omega arith) _ (h.places i inside);
      }
        where
          kept : (e : ℕ) → e ≢ STATUS → (x : ℕ) → word_at m (Word (blocks.table u) e) ≡ Some x
              → word_at (with_word m (Word (blocks.table t) STATUS) w) (Word (blocks.table u) e) ≡ Some x
          kept = word_kept hash m c blocks root s t STATUS w _ made known there u made2 known2

  -- another table is the root
  pub root_written : (t : ℕ) {passed : ℕ → ℕ} → c.first ≤ t → t < c.past → Represents hash (with_word m (Root root) (blocks.table t * 2048)) (record c { first = t; passed = passed }) blocks root
  root_written t {passed} later made = record {
    root_there = word_at-with_word m (Root root) (blocks.table t * 2048) (Root root) there ∙ ap (λ q. cond q (Some (blocks.table t * 2048)) (word_at m (Root root))) (eq-eqb root root refl)
        ∙ ap (λ q. Some (cond q 0 (blocks.table t * 2048))) (sym (ne_eqb c.past 0 (omega arith)));
    tables = λ u made2 known2. table u (s.tables u made2 known2);
    pairs = λ p made2 known2. let q = s.pairs p made2 known2 in (q.0, q.1, value (blocks.pair p) ∙ q.2, q.3);
    sized = s.sized;
    linked = λ u after made2. s.linked u (omega arith) made2;
    named = s.named;
    table_numbers = s.table_numbers;
    pair_numbers = s.pair_numbers;
    tables_apart = s.tables_apart;
    pairs_apart = s.pairs_apart;
  }
    where
      there : IsSome (word_at m (Root root))
      there = is_some_of _ _ s.root_there

      value : (b : ℕ) → value_at (with_word m (Root root) (blocks.table t * 2048)) b ≡ value_at m b
      value b = refl

      table : (u : ℕ) → RepresentsTable hash m c blocks u → RepresentsTable hash (with_word m (Root root) (blocks.table t * 2048)) (record c { first = t; passed = passed }) blocks u
      table u h = record { value = h.value; next = h.next; claim = h.claim; copied = h.copied; status = h.status; places = h.places }
