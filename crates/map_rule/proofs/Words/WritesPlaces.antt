-- The word of a place is written.
use Rattle.std.specs.Prelude.{Some}
use Rattle.std.proofs.Common.{◌≡◌, ◌≢◌, ℕ, ◌+◌, ◌<◌, Bool, true, false, cond, eqb, ◌∙◌, arith}
use Rattle.map_machines.specs.Given.SeizeWordsDeclared.at.At.TheVariants.{Word}
use Rattle.map_machines.specs.Given.SeizeWordsMem.{Mem, value_at, word_at, with_word}
use Rattle.map_machines.specs.Given.TablesDeclared.node.Node.{Node}
use Rattle.map_machines.specs.Given.TablesDeclared.table_words.TheConstants.{NEXT, CLAIM, COPIED, STATUS, PLACES}
use Rattle.map_rule.specs.Chart.{Chart, Phase, Place, Holds, put_in}
use Rattle.map_rule.specs.Words.{Blocks, RepresentsTable, Represents, place_word}
use Rattle.map_rule.proofs.Words.WritesWords.{values_same, word_kept, place_put}

module _ {K V : Type 0} (hash : K → ℕ) (m : Mem (Node K V)) (c : Chart K) (blocks : Blocks) (root : ℕ) where
  pub place_written : Represents hash m c blocks root → (t i : ℕ) (place : Place) → t < c.past → blocks.table_known t ≡ true → i < c.len t
      → ((p : ℕ) (phase : Phase) (borrowed : Bool) → place ≡ Holds p phase borrowed → blocks.pair_known p ≡ true)
      → Represents hash (with_word m (Word (blocks.table t) (i + PLACES)) (place_word hash c blocks place)) (record c { place = put_in c.place t i place }) blocks root
  place_written s t i place made known inside can = record {
    root_there = s.root_there;
    tables = λ u made2 known2. table u made2 known2 (s.tables u made2 known2);
    pairs = λ p made2 known2. let q = s.pairs p made2 known2 in (q.0, q.1, value (blocks.pair p) ∙ q.2, q.3);
    sized = s.sized;
    linked = s.linked;
    named = λ u j p phase borrowed made2 known2. named u j p phase borrowed (s.named u j p phase borrowed made2 known2) (eqb u t) (eqb j i);
    table_numbers = s.table_numbers;
    pair_numbers = s.pair_numbers;
    tables_apart = s.tables_apart;
    pairs_apart = s.pairs_apart;
  }
    where
      there : word_at m (Word (blocks.table t) (i + PLACES)) ≡ Some (place_word hash c blocks (c.place t i))
      there = (s.tables t made known).places i inside

      value : (b : ℕ) → value_at (with_word m (Word (blocks.table t) (i + PLACES)) (place_word hash c blocks place)) b ≡ value_at m b
      value = values_same m (blocks.table t) (i + PLACES) (place_word hash c blocks place) _ there

      named : (u j p : ℕ) (phase : Phase) (borrowed : Bool) → (c.place u j ≡ Holds p phase borrowed → blocks.pair_known p ≡ true) → (a b : Bool)
          → cond a (cond b place (c.place u j)) (c.place u j) ≡ Holds p phase borrowed → blocks.pair_known p ≡ true
      named u j p phase borrowed old true true = can p phase borrowed
      named u j p phase borrowed old true false = old
      named u j p phase borrowed old false b = old

      table : (u : ℕ) → u < c.past → blocks.table_known u ≡ true → RepresentsTable hash m c blocks u
          → RepresentsTable hash (with_word m (Word (blocks.table t) (i + PLACES)) (place_word hash c blocks place)) (record c { place = put_in c.place t i place }) blocks u
      table u made2 known2 h = record {
        value = value (blocks.table u) ∙ h.value;
        next = kept NEXT (omega arith) _ h.next;
        claim = kept CLAIM (omega arith) _ h.claim;
        copied = kept COPIED (omega arith) _ h.copied;
        status = kept STATUS (omega arith) _ h.status;
        places = λ j inside2. place_put hash m c blocks root s t i (place_word hash c blocks) place _ made known there u made2 known2 j (h.places j inside2);
      }
        where
          kept : (e : ℕ) → e ≢ i + PLACES → (x : ℕ) → word_at m (Word (blocks.table u) e) ≡ Some x
              → word_at (with_word m (Word (blocks.table t) (i + PLACES)) (place_word hash c blocks place)) (Word (blocks.table u) e) ≡ Some x
          kept = word_kept hash m c blocks root s t (i + PLACES) (place_word hash c blocks place) _ made known there u made2 known2
