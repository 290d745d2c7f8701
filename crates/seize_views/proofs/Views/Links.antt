-- The link of a block is as it was where another block is made, taken away, given another value, or given another link.
use Rattle.std.specs.Prelude.{◌≢◌, ◌<◌, ◌==◌, ◌&&◌, Option, Some, None, IsSome, Ok, slice_get, replicate, if◌then◌else◌}
use Rattle.std.proofs.Common.{◌≡◌, ℕ, zero, suc, Bool, refl, ap, ◌∙◌, arith}
use Rattle.std.proofs.lemmas.Bool.{eq-eqb, ne_eqb}
use Rattle.seize_words.specs.OneMemory.Mem.{Mem, block_of, word_in, value_at, word_at, with_word, with_block, fresh, IsFreeNumber, after}
use Rattle.seize_words.specs.OneMemory.Op.{Make, Rewrite, Made, Taken}
use Rattle.seize_words.specs.declared.at.At.TheVariants.{Word}
use Rattle.seize_words.specs.declared.block.Block.{Block}
use Rattle.seize_words.proofs.OneMemory.OneOwner.AfterWrites.{block_of-made, block_of-with_block, word_at-with_value, word_at-with_word}
use Rattle.seize_acts.proofs.Given.SeizeMemoryWords.Named.{block_there}
use Rattle.seize_views.specs.declared.view.TheConstants.{LINK}

module _ {T : Type 0} (m m2 : Mem T) (b : ℕ) where
  pub made_beside : (value : T) (words c : ℕ) → IsFreeNumber m b → m2 ≡ after m (Make value words) (Made (Ok b)) → c ≢ b
      → word_at m2 (Word c LINK) ≡ word_at m (Word c LINK)
  made_beside value words c free is ne =
      ap (λ (x : Mem T). word_at x (Word c LINK)) is ∙ ap (λ (o : Option (Block T)). word_in o LINK) (block_of-made m value words b c free)
      ∙ ap (λ (t : Bool). word_in (if t then Some (fresh value words) else block_of m c) LINK) (ne_eqb c b ne)

  zero_first : (words i : ℕ) → i < words → slice_get {X = ℕ} (replicate words 0) i ≡ Some 0
  zero_first zero i lt = absurd (omega (arith, lt))
  zero_first (suc words) zero lt = refl
  zero_first (suc words) (suc i) lt = zero_first words i (omega (arith, lt))

  -- a new block's names none
  pub made_link : (value : T) (words : ℕ) → IsFreeNumber m b → m2 ≡ after m (Make value words) (Made (Ok b)) → LINK < words → word_at m2 (Word b LINK) ≡ Some 0
  made_link value words free is lt =
      ap (λ (x : Mem T). word_at x (Word b LINK)) is ∙ ap (λ (o : Option (Block T)). word_in o LINK) (block_of-made m value words b b free)
      ∙ ap (λ (t : Bool). word_in (if t then Some (fresh value words) else block_of m b) LINK) (eq-eqb b b refl) ∙ zero_first words LINK lt

  pub taken_beside : (c : ℕ) → IsSome (value_at m b) → m2 ≡ with_block m b None → c ≢ b → word_at m2 (Word c LINK) ≡ word_at m (Word c LINK)
  taken_beside c some is ne =
      let x = block_there m b some in
      ap (λ (y : Mem T). word_at y (Word c LINK)) is ∙ ap (λ (o : Option (Block T)). word_in o LINK) (block_of-with_block m b c x.0 None x.1)
      ∙ ap (λ (t : Bool). word_in (if t then None else block_of m c) LINK) (ne_eqb c b ne)

  pub rewritten_link : (value x : T) (c : ℕ) → IsSome (value_at m b) → m2 ≡ after m (Rewrite b value) (Taken x) → word_at m2 (Word c LINK) ≡ word_at m (Word c LINK)
  rewritten_link value x c some is = ap (λ (y : Mem T). word_at y (Word c LINK)) is ∙ word_at-with_value m b value (Word c LINK) some

  -- the link of this one is written
  pub stored_beside : (word c : ℕ) → IsSome (word_at m (Word b LINK)) → m2 ≡ with_word m (Word b LINK) word → c ≢ b
      → word_at m2 (Word c LINK) ≡ word_at m (Word c LINK)
  stored_beside word c some is ne =
      ap (λ (y : Mem T). word_at y (Word c LINK)) is ∙ word_at-with_word m (Word b LINK) word (Word c LINK) some
      ∙ ap (λ (t : Bool). if t && (LINK == LINK) then Some word else word_at m (Word c LINK)) (ne_eqb c b ne)

  pub stored_link : (word : ℕ) → IsSome (word_at m (Word b LINK)) → m2 ≡ with_word m (Word b LINK) word → word_at m2 (Word b LINK) ≡ Some word
  stored_link word some is =
      ap (λ (y : Mem T). word_at y (Word b LINK)) is ∙ word_at-with_word m (Word b LINK) word (Word b LINK) some
      ∙ ap (λ (t : Bool). if t && (LINK == LINK) then Some word else word_at m (Word b LINK)) (eq-eqb b b refl)
