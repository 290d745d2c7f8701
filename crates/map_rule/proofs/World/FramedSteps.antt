-- Operations that leave what a map shows: a write elsewhere, a block that is made, and one that is taken.
use Rattle.std.specs.Prelude.{Some, None, Ok, IsSome, ◌&&◌, slice_get}
use Rattle.std.proofs.Common.{◌≡◌, ◌≢◌, ℕ, ◌<◌, Bool, true, false, cond, eqb, refl, ap, sym, ◌∙◌}
use Rattle.std.proofs.lemmas.Bool.{ne_eqb, eqb-true}
use Rattle.map_machines.specs.Given.SeizeWordsOp.{Make, Made}
use Rattle.map_machines.specs.Given.SeizeWordsDeclared.at.At.{At}
use Rattle.map_machines.specs.Given.SeizeWordsDeclared.at.At.TheVariants.{Root, Used, Slot, Entry, Word}
use Rattle.map_machines.specs.Given.SeizeWordsMem.{Mem, block_of, value_in, word_in, value_at, word_at, with_word, with_block, IsFreeNumber, fresh, after}
use Rattle.map_machines.proofs.Given.SeizeWordsOneOwner.AfterWrites.{block_of-with_block, block_of-made, word_at-with_word, value_at-with_word}
use Rattle.seize_rule.proofs.Given.SeizeMemoryWords.Named.{block_there}
use Rattle.map_machines.specs.Given.TablesDeclared.node.Node.{Node}
use Rattle.map_machines.specs.Given.TablesDeclared.table_words.TheConstants.{DEFERRED}
use Rattle.map_rule.specs.Chart.{Chart}
use Rattle.map_rule.specs.Words.{Blocks, Represents}
use Rattle.map_rule.proofs.World.Framed.{Frames}
use Rattle.map_rule.proofs.Words.BlocksApart.{new_apart}

module _ {K : Type 0} where
  -- a block is neither that of a known table nor that of a known pair
  pub record IsOutside (c : Chart K) (blocks : Blocks) (b : ℕ) : Type 0 where
    pub tables : (t : ℕ) → t < c.past → blocks.table_known t ≡ true → blocks.table t ≢ b
    pub pairs : (p : ℕ) → p < c.stored → blocks.pair_known p ≡ true → blocks.pair p ≢ b

  -- a word that shows nothing of the map: of a known table it is the head of its list of deferred pairs
  abbrev pub IsBeside : Chart K → Blocks → ℕ → At → Type 0
  IsBeside c blocks root (Root r) = r ≢ root
  IsBeside c blocks root (Word b d) = (t : ℕ) → t < c.past → blocks.table_known t ≡ true → blocks.table t ≡ b → d ≡ DEFERRED
  IsBeside c blocks root at = Unit {0}

module _ {K V : Type 0} (hash : K → ℕ) (m : Mem (Node K V)) (c : Chart K) (blocks : Blocks) (root : ℕ) where
  pub frames_written : (at : At) (w : ℕ) → IsSome (word_at m at) → IsBeside c blocks root at → Frames m (with_word m at w) c blocks root
  frames_written at w some beside = record {
    root_word = root_kept at some beside;
    table_values = λ t made known. value_at-with_word m at w (blocks.table t) some;
    pair_values = λ p made known. value_at-with_word m at w (blocks.pair p) some;
    words = λ t d made known other. word_kept at some beside t d made known other;
  }
    where
      root_kept : (at : At) → IsSome (word_at m at) → IsBeside c blocks root at → word_at (with_word m at w) (Root root) ≡ word_at m (Root root)
      root_kept (Root r) some other = word_at-with_word m (Root r) w (Root root) some ∙ ap (λ q. cond q (Some w) (word_at m (Root root))) (ne_eqb root r (λ e. other (sym e)))
      root_kept (Used r) some other = refl
      root_kept (Slot s i) some other = refl
      root_kept (Entry b i) some other = refl
      root_kept (Word b i) some other = refl

      word_kept : (at : At) → IsSome (word_at m at) → IsBeside c blocks root at → (t d : ℕ) → t < c.past → blocks.table_known t ≡ true → d ≢ DEFERRED
          → word_at (with_word m at w) (Word (blocks.table t) d) ≡ word_at m (Word (blocks.table t) d)
      word_kept (Root r) some other t d made known apart = refl
      word_kept (Used r) some other t d made known apart = refl
      word_kept (Slot s i) some other t d made known apart = refl
      word_kept (Entry b i) some other t d made known apart = word_at-with_word m (Entry b i) w (Word (blocks.table t) d) some
      word_kept (Word b i) some other t d made known apart =
          word_at-with_word m (Word b i) w (Word (blocks.table t) d) some ∙ one (eqb (blocks.table t) b) (eqb d i) (eqb-true (blocks.table t) b) (eqb-true d i)
        where
          one : (p q : Bool) → (p ≡ true → blocks.table t ≡ b) → (q ≡ true → d ≡ i)
              → cond (p && q) (Some w) (word_at m (Word (blocks.table t) d)) ≡ word_at m (Word (blocks.table t) d)
          one true true same_block same_word = absurd (apart (same_word refl ∙ other t made known (same_block refl)))
          one true false same_block same_word = refl
          one false q same_block same_word = refl

  -- one block alone is another one, or there no more
  frames_but : (n : Mem (Node K V)) (b : ℕ) → n.roots ≡ m.roots → ((a : ℕ) → a ≢ b → block_of n a ≡ block_of m a) → IsOutside c blocks b → Frames m n c blocks root
  frames_but n b roots rest outside = record {
    root_word = ap (λ l. slice_get l root) roots;
    table_values = λ t made known. ap value_in (rest (blocks.table t) (outside.tables t made known));
    pair_values = λ p made known. ap value_in (rest (blocks.pair p) (outside.pairs p made known));
    words = λ t d made known other. ap (λ o. word_in o d) (rest (blocks.table t) (outside.tables t made known));
  }

  -- a free number is no known block's
  pub new_outside : Represents hash m c blocks root → (b : ℕ) → IsFreeNumber m b → IsOutside c blocks b
  new_outside s b free = record {
    tables = λ t made known. new_apart m (blocks.table t) b _ (s.tables t made known).value free;
    pairs = λ p made known. let q = s.pairs p made known in new_apart m (blocks.pair p) b _ q.2 free;
  }

  pub frames_made : Represents hash m c blocks root → (value : Node K V) (words b : ℕ) → IsFreeNumber m b
      → Frames m (after m (Make value words) (Made (Ok b))) c blocks root
  frames_made s value words b is =
      frames_but (after m (Make value words) (Made (Ok b))) b refl (λ a ne. block_of-made m value words b a is ∙ ap (λ q. cond q (Some (fresh value words)) (block_of m a)) (ne_eqb a b ne))
      (new_outside s b is)

  pub frames_taken : (b : ℕ) → IsSome (value_at m b) → IsOutside c blocks b → Frames m (with_block m b None) c blocks root
  frames_taken b some outside =
      let x = block_there m b some in
      frames_but (with_block m b None) b refl (λ a ne. block_of-with_block m b a x.0 None x.1 ∙ ap (λ q. cond q None (block_of m a)) (ne_eqb a b ne)) outside
