-- A list of blocks that are there stands in the memory, as its chain of entries shows it.
use Rattle.std.specs.Prelude.{Option, Some, None, IsSome}
use Rattle.std.proofs.Common.{◌≡◌, ℕ, List, [], ◌∷◌, refl, arith, subst}
use Rattle.seize.specs.Given.SeizeWordsDeclared.at.At.TheVariants.{Entry}
use Rattle.seize.specs.Given.SeizeWordsMem.{Mem, word_at}
use Rattle.seize.specs.declared.states.TheConstants.{NEXT}
use Rattle.seize.specs.Further.{ListFrom}
use Rattle.seize_moves.specs.Waiting.Held.{count}
use Rattle.seize_moves.proofs.Moves.State.Ghost.{Life, IsDeferred, is_deferred}
use Rattle.seize_moves.proofs.Memory.Words.Chains.{Chain}

pub some_word : (o : Option ℕ) → IsSome o → (a : ℕ) × (o ≡ Some a)
some_word None h = absurd (cc h)
some_word (Some a) h = (a, refl)

pub list_from : {T : Type 0} (m : Mem T) (nexts : ℕ → ℕ) (word : ℕ) (l : List ℕ) → ((b w : ℕ) → word_at m (Entry b NEXT) ≡ Some w → nexts b ≡ w)
    → ((b : ℕ) → (count b l ≡ 0 → ⊥) → IsSome (word_at m (Entry b NEXT))) → Chain 0 nexts word l → ListFrom m word l
list_from m nexts word [] same there h = h
list_from m nexts word (b ∷ l) same there h =
    let a = some_word (word_at m (Entry b NEXT)) (there b (λ e. grind (arith, e))) in
    let next : nexts b ≡ a.0 = same b a.0 a.1 in
    (a.0, h.0, h.1, a.1, list_from m nexts a.0 l same (λ c ne. there c (λ e. ne (grind (arith, e)))) (subst (λ (w : ℕ). Chain 0 nexts w l) next h.2))

pub deferred_of : (b : ℕ) (l : Life) → (is_deferred b l ≡ 0 → ⊥) → l ≡ IsDeferred b
deferred_of b l ne = grind (arith, ne)
