-- Two blocks that stand in a chain, one above the other; and one that is linked there and stands nowhere, so that this is no chain.
use Rattle.std.specs.Prelude.{◌<◌, Option, Some, None}
use Rattle.std.proofs.Common.{◌≡◌, ℕ, zero, suc, List, [], ◌∷◌, refl, subst, ◌∙◌, arith}
use Rattle.seize_words.specs.OneMemory.Mem.{Mem, word_at}
use Rattle.seize_words.specs.OneMemory.Word.{block_in, link_to}
use Rattle.seize_words.specs.declared.at.At.TheVariants.{Word}
use Rattle.seize.specs.World.{Hand, times}
use Rattle.seize.specs.World as world
use Rattle.seize_views.specs.Views.Chains.{Chain, HasLink, StandBelow}
use Rattle.seize_views.proofs.Views.Chains.{apart_times}
use Rattle.seize_words.proofs.General.{same_some}

-- values put nothing off
abbrev plain : ℕ → Option ℕ
plain value = None

-- the root names block 2, whose link names block 1; the links of blocks 1 and 3 name none
abbrev pile : Mem ℕ
pile = record {
  roots = link_to 2 ∷ [];
  used = [];
  slots = [];
  blocks = Some record { value = 7; entry = []; words = 0 ∷ [] } ∷ Some record { value = 8; entry = []; words = link_to 1 ∷ [] } ∷ Some record { value = 9; entry = []; words = 0 ∷ [] } ∷ [];
  choices = [];
}

-- blocks 1 and 2 are linked there, and block 3 is in this hand
abbrev hands : Hand → ℕ → Hand
hands third (suc zero) = world.InUse 0
hands third (suc (suc zero)) = world.InUse 0
hands third (suc (suc (suc zero))) = third
hands third _ = world.NoBlock

has_first : HasLink plain pile 2
has_first = ((8, refl, λ e. cc e), refl)

has_second : HasLink plain pile 1
has_second = ((7, refl, λ e. cc e), refl)

is_chain : Chain plain pile (hands world.NoBlock) 0
is_chain = record {
  word = link_to 2;
  at = refl;
  blocks = 2 ∷ 1 ∷ [];
  stand = (refl, has_first, (1, (link_to 1, refl, refl), (refl, has_second, (0, (0, refl, refl), refl))));
  once = once;
  linked = linked;
}
  where
    once : (b : ℕ) → hands world.NoBlock b ≡ world.InUse 0 → times b (2 ∷ 1 ∷ []) ≡ 1
    once (suc zero) e = refl
    once (suc (suc zero)) e = refl
    once (suc (suc (suc zero))) e = absurd (cc e)
    once _ e = absurd (cc e)

    linked : (b : ℕ) → 0 < times b (2 ∷ 1 ∷ []) → hands world.NoBlock b ≡ world.InUse 0
    linked (suc zero) some = refl
    linked (suc (suc zero)) some = refl
    linked zero some = absurd (omega (arith, some))
    linked (suc (suc (suc k))) some =
        let b : ℕ = suc (suc (suc k)) in let none = apart_times b 2 (1 ∷ []) (λ e. omega (arith, e)) ∙ apart_times b 1 [] (λ e. omega (arith, e)) in
        absurd (omega (arith, some, none))

-- below block 2 stand no others than these two
down : (b word : ℕ) → b < 3 → word_at pile (Word b 0) ≡ Some word → block_in word < 3
down zero word lt at = absurd (cc at)
down (suc zero) word lt at = subst (λ (k : ℕ). block_in k < 3) (same_some 0 word at) (omega arith)
down (suc (suc zero)) word lt at = subst (λ (k : ℕ). block_in k < 3) (same_some (link_to 1) word at) (omega arith)
down (suc (suc (suc k))) word lt at = absurd (omega (arith, lt))

not_third : (blocks : List ℕ) (c : ℕ) → c < 3 → StandBelow plain pile c blocks → times 3 blocks ≡ 0
not_third [] c lt stand = refl
not_third (b ∷ blocks) c lt stand =
    let less : b < 3 = omega (arith, lt, stand.0) in let link = stand.2.1 in
    let next : stand.2.0 < 3 = subst (λ (k : ℕ). k < 3) link.2 (down b link.0 less link.1) in
    apart_times 3 b blocks (λ e. omega (arith, less, e)) ∙ not_third blocks stand.2.0 next stand.2.2

-- so block 3 can't be linked at that root
not_linked : Chain plain pile (hands (world.InUse 0)) 0 → ⊥
not_linked c =
    let first : block_in c.word < 3 = subst (λ (k : ℕ). block_in k < 3) (same_some (link_to 2) c.word c.at) (omega arith) in
    let none = not_third c.blocks (block_in c.word) first c.stand in let one = c.once 3 refl in omega (arith, none, one)
