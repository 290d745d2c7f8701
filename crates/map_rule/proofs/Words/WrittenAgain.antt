-- A word that is written as it is leaves the memory as it is.
use Rattle.std.specs.Prelude.{Option, Some, None, List, [], ◌∷◌, length, slice_set, slice_index_or, if◌then◌else◌, ◌-◌}
use Rattle.std.proofs.Common.{◌≡◌, ℕ, zero, suc, ◌<◌, refl, ap, sym, ◌∙◌, arith}
use Rattle.std.proofs.lemmas.Bool.{ne_eqb}
use Rattle.map_machines.specs.Given.SeizeWordsDeclared.at.At.TheVariants.{Word}
use Rattle.map_machines.specs.Given.SeizeWordsDeclared.block.Block.{Block}
use Rattle.map_machines.specs.Given.SeizeWordsMem.{Mem, block_of, word_in, with_word_in, word_at, with_word}
use Rattle.map_machines.proofs.Given.SeizeWordsOneOwner.AfterWrites.{placed}
use Rattle.map_machines.proofs.Given.General.{set_same as set_found}

set_same : {X : Type 0} (xs : List X) (i : ℕ) (x d : X) → i < length xs → slice_index_or xs i d ≡ x → slice_set xs i x ≡ xs
set_same [] i x d inside is = absurd (omega arith)
set_same (y ∷ ys) zero x d inside is = cc
set_same (y ∷ ys) (suc i) x d inside is = ap (λ zs. y ∷ zs) (set_same ys i x d (omega (arith, inside)) is)

module _ {T : Type 0} (m : Mem T) (b i w : ℕ) where
  pub written_again : word_at m (Word b i) ≡ Some w → with_word m (Word b i) w ≡ m
  written_again is = by_block (block_of m b) refl is
    where
      by_block : (o : Option (Block T)) → block_of m b ≡ o → word_in o i ≡ Some w
          → record { roots = m.roots; used = m.used; slots = m.slots; blocks = slice_set m.blocks (b - 1) (with_word_in (block_of m b) i w); choices = m.choices } ≡ m
      by_block None e there = absurd (cc there)
      by_block (Some x) e there =
          let at = placed m b x e in
          let words : with_word_in (block_of m b) i w ≡ Some x = ap (λ o. with_word_in o i w) e
          ∙ ap (λ (ws : List ℕ). Some record { value = x.value; entry = x.entry; words = ws }) (set_found x.words i w there) in
          let stands : slice_index_or m.blocks (b - 1) None ≡ Some x = sym (ap (λ t. if t then None else slice_index_or m.blocks (b - 1) None) (ne_eqb b 0 (omega (arith, at.0)))) ∙ e in
          ap (λ (o : Option (Block T)). record { roots = m.roots; used = m.used; slots = m.slots; blocks = slice_set m.blocks (b - 1) o; choices = m.choices }) words
          ∙ ap (λ (bs : List (Option (Block T))). record { roots = m.roots; used = m.used; slots = m.slots; blocks = bs; choices = m.choices })
          (set_same m.blocks (b - 1) (Some x) None at.1 stands)
