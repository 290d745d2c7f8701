-- The word of a place is written, and links to a new pair.
use Rattle.std.specs.Prelude.{Option, Some}
use Rattle.std.proofs.Common.{◌≡◌, ◌≢◌, ℕ, suc, ◌+◌, ◌/◌, ◌^◌, ◌<◌, Bool, true, false, cond, eqb, refl, ap, sym, ◌∙◌, arith}
use Rattle.std.proofs.lemmas.Bool.{eq-eqb, eqb-false}
use Rattle.map_machines.specs.Given.SeizeWordsWord.{link_word}
use Rattle.map_machines.specs.Given.SeizeWordsDeclared.at.At.TheVariants.{Word}
use Rattle.map_machines.specs.Given.SeizeWordsMem.{Mem, value_at, word_at, with_word}
use Rattle.map_machines.specs.Given.TablesDeclared.node.Node.{Node}
use Rattle.map_machines.specs.Given.TablesDeclared.node.Node.TheVariants as node
use Rattle.map_machines.specs.Given.TablesDeclared.table_words.TheConstants.{NEXT, CLAIM, COPIED, STATUS, PLACES}
use Rattle.map_rule.specs.Chart.{Chart, Phase, Still, Place, Holds, put}
use Rattle.map_rule.specs.Rule.{Common}
use Rattle.map_rule.specs.Moves.{with_pair}
use Rattle.map_rule.specs.Words.{Blocks, RepresentsTable, Represents, place_word, byte_of}
use Rattle.map_rule.proofs.World.NewBlocks.{numbers_fit, blocks_apart}
use Rattle.map_rule.proofs.Words.PlaceWords.{word-agree}
use Rattle.map_rule.proofs.Moves.Writes.{put_elsewhere}
use Rattle.map_rule.proofs.Words.WritesWords.{values_same, word_kept, place_put}

-- the next pair has this block
abbrev pub with_pair_block : Blocks → ℕ → ℕ → Blocks
with_pair_block blocks p b = record blocks { pair = put blocks.pair p b; pair_known = put blocks.pair_known p true }

-- a block with a pair that is not in a table yet
pub record IsNewPair {K V : Type 0} (m : Mem (Node K V)) (c : Chart K) (blocks : Blocks) (b : ℕ) (k : K) (v : V) : Type 0 where
  pub value : value_at m b ≡ Some (node.Pair k v)
  pub some : 0 < b
  pub fits : b < 2 ^ 53
  pub apart : (p : ℕ) → p < c.stored → blocks.pair_known p ≡ true → blocks.pair p ≢ b

module _ {K V : Type 0} (hash : K → ℕ) (spot : ℕ → K → ℕ → ℕ) (incremental : Bool) (m : Mem (Node K V)) (c : Chart K) (blocks : Blocks) (root t i b : ℕ) (k : K) (v : V) where
  abbrev after : Chart K
  after = with_pair spot incremental c t i k

  abbrev blocks_after : Blocks
  blocks_after = with_pair_block blocks c.stored b

  abbrev word : ℕ
  word = place_word hash after blocks_after (Holds c.stored Still false)

  abbrev written : Mem (Node K V)
  written = with_word m (Word (blocks.table t) (i + PLACES)) word

  -- the word that links to the new pair
  pub new_pair_word : place_word hash (with_pair spot incremental c t i k) (with_pair_block blocks c.stored b) (Holds c.stored Still false) ≡ link_word b (hash k / 2 ^ 57) 0
  new_pair_word = rw (eq-eqb c.stored c.stored refl) refl

  -- places with older pairs have the words that they had
  pub old_pair_word : (place : Place) → ((p : ℕ) (phase : Phase) (borrowed : Bool) → place ≡ Holds p phase borrowed → p < c.stored)
      → place_word hash (with_pair spot incremental c t i k) (with_pair_block blocks c.stored b) place ≡ place_word hash c blocks place
  old_pair_word place older = word-agree
      (put blocks.pair c.stored b) (λ p. byte_of hash (put c.key c.stored (Some k) p)) blocks.pair (λ p. byte_of hash (c.key p)) place (λ p phase borrowed holds.
      let l = older p phase borrowed holds in (put_elsewhere blocks.pair c.stored b p (omega arith), ap (λ (o : Option K). byte_of hash o) (put_elsewhere c.key c.stored (Some k) p (omega arith))))

  module _ (s : Represents hash m c blocks root) (older : (u j p : ℕ) (phase : Phase) (borrowed : Bool) → c.place u j ≡ Holds p phase borrowed → p < c.stored)
      (made : t < c.past) (known : blocks.table_known t ≡ true) (inside : i < c.len t) where
    there : word_at m (Word (blocks.table t) (i + PLACES)) ≡ Some (place_word hash c blocks (c.place t i))
    there = (s.tables t made known).places i inside

    value : (a : ℕ) → value_at written a ≡ value_at m a
    value = values_same m (blocks.table t) (i + PLACES) word _ there

    known_still : (p : ℕ) (q : Bool) → blocks.pair_known p ≡ true → cond q true (blocks.pair_known p) ≡ true
    known_still p true e = refl
    known_still p false e = e

    named : (u j p : ℕ) (phase : Phase) (borrowed : Bool) → (c.place u j ≡ Holds p phase borrowed → blocks.pair_known p ≡ true) → (a e : Bool)
        → cond a (cond e (Holds c.stored Still false) (c.place u j)) (c.place u j) ≡ Holds p phase borrowed → cond (eqb p c.stored) true (blocks.pair_known p) ≡ true
    named u j p phase borrowed old true true is = rw (eq-eqb p c.stored (cc)) refl
    named u j p phase borrowed old true false is = known_still p (eqb p c.stored) (old is)
    named u j p phase borrowed old false e is = known_still p (eqb p c.stored) (old is)

    table : (u : ℕ) → u < c.past → blocks.table_known u ≡ true → RepresentsTable hash m c blocks u → RepresentsTable hash written after blocks_after u
    table u made2 known2 h = record {
      value = value (blocks.table u) ∙ h.value;
      next = kept NEXT (omega arith) _ h.next;
      claim = kept CLAIM (omega arith) _ h.claim;
      copied = kept COPIED (omega arith) _ h.copied;
      status = kept STATUS (omega arith) _ h.status;
      places = λ j inside2. place_put hash m c blocks root s t i (place_word hash after blocks_after) (Holds c.stored Still false) _ made known there u made2 known2 j
          (h.places j inside2 ∙ ap Some (sym (old_pair_word (c.place u j) (older u j))));
    }
      where
        kept : (e : ℕ) → e ≢ i + PLACES → (x : ℕ) → word_at m (Word (blocks.table u) e) ≡ Some x → word_at written (Word (blocks.table u) e) ≡ Some x
        kept = word_kept hash m c blocks root s t (i + PLACES) word _ made known there u made2 known2

    module _ (new : IsNewPair m c blocks b k v) where
      pair : (p : ℕ) → p < suc c.stored → cond (eqb p c.stored) true (blocks.pair_known p) ≡ true
          → (x : K) × (y : V) × (value_at written (cond (eqb p c.stored) b (blocks.pair p)) ≡ Some (node.Pair x y)) × (cond (eqb p c.stored) (Some k) (c.key p) ≡ Some x)
      pair p made2 = at (eqb p c.stored) (eqb-false p c.stored)
        where
          at : (q : Bool) → (q ≡ false → p ≢ c.stored) → cond q true (blocks.pair_known p) ≡ true
              → (x : K) × (y : V) × (value_at written (cond q b (blocks.pair p)) ≡ Some (node.Pair x y)) × (cond q (Some k) (c.key p) ≡ Some x)
          at true other known2 = (k, v, value b ∙ new.value, refl)
          at false other known2 =
              let ne = other refl in
              let q = s.pairs p (omega arith) known2 in
              (q.0, q.1, value (blocks.pair p) ∙ q.2, q.3)

      shown : Represents hash written after blocks_after root
      shown = record {
        root_there = s.root_there;
        tables = λ u made2 known2. table u made2 known2 (s.tables u made2 known2);
        pairs = pair;
        sized = s.sized;
        linked = s.linked;
        named = λ u j p phase borrowed made2 known2. named u j p phase borrowed (s.named u j p phase borrowed made2 known2) (eqb u t) (eqb j i);
        table_numbers = s.table_numbers;
        pair_numbers = numbers_fit blocks.pair blocks.pair_known c.stored b new.some new.fits s.pair_numbers;
        tables_apart = s.tables_apart;
        pairs_apart = blocks_apart blocks.pair blocks.pair_known c.stored b new.apart s.pairs_apart;
      }

  pub pair_stored : (same : K → K → Bool) → Represents hash m c blocks root → Common same spot incremental c → t < c.past → blocks.table_known t ≡ true → i < c.len t
      → IsNewPair m c blocks b k v
      → Represents hash
      (with_word m (Word (blocks.table t) (i + PLACES)) (place_word hash (with_pair spot incremental c t i k) (with_pair_block blocks c.stored b) (Holds c.stored Still false)))
      (with_pair spot incremental c t i k) (with_pair_block blocks c.stored b) root
  pair_stored same s rule made known inside new = shown s (λ u j p phase borrowed e. (rule.keyed u j p phase borrowed e).0) made known inside new
