-- Which words an operation keeps of those that say which table is the last, or how many places are claimed.
use Rattle.std.specs.Prelude.{None, IsSome, Ok, ◌&&◌}
use Rattle.std.proofs.Common.{◌≡◌, ◌≢◌, ℕ, ◌<◌, Bool, true, false, cond, eqb, Option, Some, refl, ap, sym, ◌∙◌, arith}
use Rattle.std.proofs.lemmas.Bool.{ne_eqb}
use Rattle.seize_words.specs.declared.at.At.TheVariants.{Root, Word}
use Rattle.seize_words.specs.declared.block.Block.{Block}
use Rattle.seize_words.specs.OneMemory.Op.{Make, Made}
use Rattle.seize_words.specs.OneMemory.Mem.{Mem, after, block_of, fresh, value_at, value_in, word_at, word_in, with_block, with_value, with_word, IsFreeNumber}
use Rattle.seize_words.proofs.OneMemory.OneOwner.AfterWrites.{block_of-with_block, block_of-made, word_at-with_word, word_at-with_value}
use Rattle.map_tables.specs.declared.node.Node.{Node}
use Rattle.map_tables.specs.declared.table_words.TheConstants.{NEXT}
use Rattle.many_calls.specs.Given.RuleChart.{Chart}
use Rattle.many_calls.specs.Given.RuleWords.{Blocks}
use Rattle.many_calls.proofs.Given.RuleWords.BlocksApart.{new_apart}
use Rattle.map_measures.proofs.Falls.Onward.{KeepsLinks, KeepsTables}

module _ {K V : Type 0} (m : Mem (Node K V)) where
  -- a word of a block, where a word of another number was written
  pub other_word : (b d b2 d2 w : ℕ) → IsSome (word_at m (Word b d)) → d2 ≢ d → word_at (with_word m (Word b d) w) (Word b2 d2) ≡ word_at m (Word b2 d2)
  other_word b d b2 d2 w some other = word_at-with_word m (Word b d) w (Word b2 d2) some ∙ by (eqb b2 b) (eqb d2 d) (ne_eqb d2 d other)
    where
      by : (x y : Bool) → y ≡ false → cond (x && y) (Some w) (word_at m (Word b2 d2)) ≡ word_at m (Word b2 d2)
      by true y e = ap (λ q. cond q (Some w) (word_at m (Word b2 d2))) e
      by false y e = refl

module _ {K V : Type 0} (root : ℕ) (c : Chart K) (blocks : Blocks) (m : Mem (Node K V)) where
  -- nothing was written
  pub keeps_still : (m2 : Mem (Node K V)) → m2 ≡ m → KeepsLinks root c blocks m m2
  keeps_still m2 is = record { root_kept = λ none. ap (λ x. word_at x (Root root)) is; next_kept = λ t last known. ap (λ x. word_at x (Word (blocks.table t) NEXT)) is }

  -- a word of a block that is no link
  pub keeps_wrote : (b d w : ℕ) (m2 : Mem (Node K V)) → m2 ≡ with_word m (Word b d) w → IsSome (word_at m (Word b d)) → d ≢ NEXT → KeepsLinks root c blocks m m2
  keeps_wrote b d w m2 is some other = record {
    root_kept = λ none. ap (λ x. word_at x (Root root)) is ∙ word_at-with_word m (Word b d) w (Root root) some;
    next_kept = λ t last known. ap (λ x. word_at x (Word (blocks.table t) NEXT)) is ∙ other_word m b d (blocks.table t) NEXT w some (λ e. other (sym e));
  }

  -- the root's word, where there is a table
  pub keeps_root : (r w : ℕ) (m2 : Mem (Node K V)) → m2 ≡ with_word m (Root r) w → IsSome (word_at m (Root r)) → 0 < c.past → KeepsLinks root c blocks m m2
  keeps_root r w m2 is some made = record {
    root_kept = λ none. absurd (omega (arith, none, made));
    next_kept = λ t last known. ap (λ x. word_at x (Word (blocks.table t) NEXT)) is ∙ word_at-with_word m (Root r) w (Word (blocks.table t) NEXT) some;
  }

-- the words of tables, where a block was made, or one was changed or taken away that is none of theirs
module _ {K V : Type 0} (root : ℕ) (c : Chart K) (blocks : Blocks) (m : Mem (Node K V)) where
  word_by_block : (b d : ℕ) (m2 : Mem (Node K V)) → block_of m2 b ≡ block_of m b → word_at m2 (Word b d) ≡ word_at m (Word b d)
  word_by_block b d m2 = ap (λ x. word_in x d)

  abbrev pub HasTables : Mem (Node K V) → Type 0
  HasTables x = (t : ℕ) → t < c.past → blocks.table_known t ≡ true → (value : Node K V) × (value_at x (blocks.table t) ≡ Some value)

  pub keeps_made : (value : Node K V) (words b : ℕ) → IsFreeNumber m b → (m2 : Mem (Node K V)) → m2 ≡ after m (Make value words) (Made (Ok b)) → HasTables m → KeepsTables root c blocks m m2
  keeps_made value words b free m2 is there = record {
    root_kept = ap (λ x. word_at x (Root root)) is;
    words_kept = λ t word made known. word_by_block (blocks.table t) word m2
        (ap (λ x. block_of x (blocks.table t)) is ∙ block_of-made m value words b (blocks.table t) free
        ∙ ap (λ q. cond q (Some (fresh value words)) (block_of m (blocks.table t)))
        (ne_eqb (blocks.table t) b (let h = there t made known in new_apart m (blocks.table t) b h.0 h.1 free)));
  }

  pub keeps_rewritten : (b : ℕ) (new : Node K V) (m2 : Mem (Node K V)) → m2 ≡ with_value m b new → IsSome (value_at m b) → KeepsTables root c blocks m m2
  keeps_rewritten b new m2 is some = record {
    root_kept = ap (λ x. word_at x (Root root)) is ∙ word_at-with_value m b new (Root root) some;
    words_kept = λ t word made known. ap (λ x. word_at x (Word (blocks.table t) word)) is ∙ word_at-with_value m b new (Word (blocks.table t) word) some;
  }

  block_some : (b : ℕ) (value : Node K V) → value_at m b ≡ Some value → (x : Block (Node K V)) × (block_of m b ≡ Some x)
  block_some b value is = by (block_of m b) refl is
    where
      by : (x : Option (Block (Node K V))) → block_of m b ≡ x → value_in x ≡ Some value → (y : Block (Node K V)) × (block_of m b ≡ Some y)
      by None e v = absurd (cc v)
      by (Some y) e v = (y, e)

  pub keeps_taken : (b : ℕ) (value : Node K V) → value_at m b ≡ Some value → (m2 : Mem (Node K V)) → m2 ≡ with_block m b None → HasTables m2 → KeepsTables root c blocks m m2
  keeps_taken b value is m2 took there = record {
    root_kept = ap (λ x. word_at x (Root root)) took;
    words_kept = λ t word made known. word_by_block (blocks.table t) word m2 (kept t (there t made known));
  }
    where
      old : (x : Block (Node K V)) × (block_of m b ≡ Some x)
      old = block_some b value is

      after_is : (k : ℕ) → block_of m2 k ≡ cond (eqb k b) None (block_of m k)
      after_is k = ap (λ x. block_of x k) took ∙ block_of-with_block m b k old.0 None old.1

      kept : (t : ℕ) → (value2 : Node K V) × (value_at m2 (blocks.table t) ≡ Some value2) → block_of m2 (blocks.table t) ≡ block_of m (blocks.table t)
      kept t some = by (eqb (blocks.table t) b) (after_is (blocks.table t))
        where
          by : (q : Bool) → block_of m2 (blocks.table t) ≡ cond q None (block_of m (blocks.table t)) → block_of m2 (blocks.table t) ≡ block_of m (blocks.table t)
          by false e = e
          by true e = absurd (let v = some.1 in cc (v))
