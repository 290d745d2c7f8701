-- What the words of a table say: the pair of a place, and the link to the next table.
use Rattle.std.specs.Prelude.{◌-◌, ◌==◌, ◌&&◌, not, nat_lt, if◌then◌else◌}
use Rattle.std.proofs.Common.{◌≡◌, ℕ, suc, ◌+◌, ◌*◌, ◌/◌, ◌<◌, ◌≤◌, Bool, true, false, cond, [], ◌∷◌, ◌⊎◌, inl, inr, refl, arith, ap, ◌∙◌}
use Rattle.many_calls.specs.Given.TablesMarks.{has_mark}
use Rattle.many_calls.specs.Given.TablesDeclared.marks.TheConstants.{COPYING}
use Rattle.many_calls.specs.Given.RuleChart.{Phase, Place, Empty, Tombstone, Holds, Chart, is_marked}
use Rattle.many_calls.specs.Given.RuleWords.{Blocks, next_word, word_of}
use Rattle.many_calls.proofs.Given.RuleWords.PlaceWords.{empty_block, tombstone_block, pair_block}
use Rattle.many_calls.proofs.Given.RuleWords.PlaceWordsMarks.{has_copying}
use Rattle.many_maps.specs.Orders.{pair_at}
use Rattle.many_calls.proofs.Given.General.{less_false as ltb_not, less_true as ltb_is}

-- what a word says of the pair of a place
module _ (block byte : ℕ → ℕ) (bits : Bool) where
  abbrev pub says : ℕ → Bool
  says word = not (word / 2048 == 0) && not (bits && has_mark word COPYING)

  pub says_pair : (place : Place) → ((n : ℕ) (phase : Phase) (borrowed : Bool) → place ≡ Holds n phase borrowed → (0 < block n) × (byte n < 128))
      → ((says (word_of block byte place) ≡ true) × (n : ℕ) × (pair_at bits place ≡ n ∷ []) × (word_of block byte place / 2048 ≡ block n))
      ⊎ ((says (word_of block byte place) ≡ false) × (pair_at bits place ≡ []))
  says_pair (Empty marked) fits = inr (ap (λ (x : ℕ). not (x == 0) && not (bits && has_mark (word_of block byte (Empty marked)) COPYING)) (empty_block block byte marked), refl)
  says_pair (Tombstone marked) fits = inr (ap (λ (x : ℕ). not (x == 0) && not (bits && has_mark (word_of block byte (Tombstone marked)) COPYING)) (tombstone_block block byte marked), refl)
  says_pair (Holds n phase borrowed) fits = by (bits && is_marked (Holds n phase borrowed)) refl
    where
      fit : (0 < block n) × (byte n < 128)
      fit = fits n phase borrowed refl

      its_block : word_of block byte (Holds n phase borrowed) / 2048 ≡ block n
      its_block = pair_block block byte n phase borrowed fit.1

      some_block : (block n == 0) ≡ false
      some_block = let some = fit.0 in grind (arith, some)

      said : says (word_of block byte (Holds n phase borrowed)) ≡ not (bits && is_marked (Holds n phase borrowed))
      said =
          ap (λ (x : ℕ). not (x == 0) && not (bits && has_mark (word_of block byte (Holds n phase borrowed)) COPYING)) its_block
          ∙ ap (λ (t : Bool). not t && not (bits && has_mark (word_of block byte (Holds n phase borrowed)) COPYING)) some_block
          ∙ ap (λ (t : Bool). not (bits && t)) (has_copying block byte (Holds n phase borrowed))

      by : (t : Bool) → (bits && is_marked (Holds n phase borrowed)) ≡ t
          → ((says (word_of block byte (Holds n phase borrowed)) ≡ true) × (o : ℕ) × (pair_at bits (Holds n phase borrowed) ≡ o ∷ []) × (word_of block byte (Holds n phase borrowed) / 2048 ≡ block o))
          ⊎ ((says (word_of block byte (Holds n phase borrowed)) ≡ false) × (pair_at bits (Holds n phase borrowed) ≡ []))
      by true e = inr (said ∙ ap not e, ap (λ (t : Bool). if t then [] else n ∷ []) e)
      by false e = inl (said ∙ ap not e, n, ap (λ (t : Bool). if t then [] else n ∷ []) e, its_block)

-- the link to the next table
pub no_next : {K : Type 0} (hash : K → ℕ) (c : Chart K) (blocks : Blocks) (t : ℕ) → c.past ≤ suc t → next_word hash c blocks t ≡ 0
no_next hash c blocks t l = ap (λ (b : Bool). cond b (blocks.table (suc t) * 2048) 0) (ltb_not (suc t) c.past l)

pub some_next : {K : Type 0} (hash : K → ℕ) (c : Chart K) (blocks : Blocks) (t : ℕ) → suc t < c.past → next_word hash c blocks t ≡ blocks.table (suc t) * 2048
some_next hash c blocks t l = ap (λ (b : Bool). cond b (blocks.table (suc t) * 2048) 0) (ltb_is (suc t) c.past l)

pub below : (p l k : ℕ) → nat_lt p (l - 1) ≡ true → l ≡ k → p + 1 < k
below p l k e is = grind (arith, e, is)

pub past_it : (p l k : ℕ) → nat_lt p (l - 1) ≡ false → l ≡ k → k ≤ suc p
past_it p l k e is = grind (arith, e, is)
