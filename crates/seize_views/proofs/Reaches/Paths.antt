-- Words that lead to a block: one that names it, one of a block that is led to, and a list of blocks from the word that it begins with.
use Rattle.std.specs.Prelude.{Option, Some, None}
use Rattle.std.proofs.Common.{◌≡◌, ℕ, ◌<◌, List, [], ◌∷◌, ◌⊎◌, inl, inr, refl, arith, sym, subst, ◌∙◌}
use Rattle.std.proofs.lemmas.Bool.{cases_eq}
use Rattle.seize_words.specs.OneMemory.Mem.{Mem, word_at}
use Rattle.seize_words.specs.OneMemory.Word.{block_in}
use Rattle.seize_words.specs.declared.at.At.{At}
use Rattle.seize_words.specs.declared.at.At.TheVariants.{Entry}
use Rattle.seize_acts.specs.Given.SeizeWaitingHeld.{count}
use Rattle.seize_acts.proofs.Given.SeizeMemoryWords.Named.{link, or_zero, words_of}
use Rattle.seize_acts.proofs.Given.SeizeMemoryWords.Chains.{Chain}
use Rattle.seize_views.specs.Reaches.Reached.{IsWordIn, LeadsBy, LeadsTo}

pub block_of_link : (b : ℕ) → block_in (link b) ≡ b
block_of_link b = omega arith

-- a word that is not 0 is there
pub some_there : (o : Option ℕ) → (or_zero o ≡ 0 → ⊥) → o ≡ Some (or_zero o)
some_there None ne = absurd (ne refl)
some_there (Some w) ne = refl

module _ {T : Type 0} (m : Mem T) where
  -- the name is of a word of a block of the same number
  same_in : (b c : ℕ) → b ≡ c → (name : At) → IsWordIn b name → IsWordIn c name
  same_in b c e name is = subst (λ (d : ℕ). IsWordIn d name) e is

  -- another word leads on that names the same block
  pub leads_alike : (b word other : ℕ) → block_in word ≡ block_in other → LeadsTo m b word → LeadsTo m b other
  leads_alike b word other e ([], way) = ([], (way.0, sym e ∙ way.1))
  leads_alike b word other e (name ∷ names, way) = (name ∷ names, (same_in (block_in word) (block_in other) e name way.0, way.1))

  -- a block is led to by its link
  pub leads_here : (b : ℕ) → 0 < b → LeadsTo m b (link b)
  leads_here b some = ([], (some, block_of_link b))

  -- and what one of its words leads to is
  pub leads_on : (c field word b : ℕ) → word_at m (Entry c field) ≡ Some word → LeadsTo m b word → LeadsTo m b (link c)
  leads_on c field word b there way = (Entry c field ∷ way.0, (sym (block_of_link c), (word, there, way.1)))

  -- from a block that is led to it goes on
  leads_then : (b c word : ℕ) (names : List At) → LeadsBy m word names c → LeadsTo m b (link c) → LeadsTo m b word
  leads_then b c word [] way on = leads_alike b (link c) word (block_of_link c ∙ sym way.1) on
  leads_then b c word (name ∷ names) way on =
      let k = leads_then b c way.1.0 names way.1.2 on in (name ∷ k.0, (way.0, (way.1.0, way.1.1, k.1)))

  pub leads_further : (b c word : ℕ) → LeadsTo m c word → LeadsTo m b (link c) → LeadsTo m b word
  leads_further b c word way on = leads_then b c word way.0 way.1 on

  -- a list of blocks, of each of which this word is there, leads to each of them
  pub leads_along : (field e word : ℕ) (l : List ℕ) → Chain e (λ c. words_of m (Entry c field)) word l
      → ((c : ℕ) → (count c l ≡ 0 → ⊥) → word_at m (Entry c field) ≡ Some (words_of m (Entry c field))) → (b : ℕ) → (count b l ≡ 0 → ⊥) → LeadsTo m b word
  leads_along field e word [] chain there b ne = absurd (ne refl)
  leads_along field e word (c ∷ l) chain there b ne =
      subst (λ (w : ℕ). LeadsTo m b w) (sym chain.1)
      (by (cases_eq b c) (leads_along field e (words_of m (Entry c field)) l chain.2 (λ d some. there d (rest_in d some)) b))
    where
      first_in : count c (c ∷ l) ≡ 0 → ⊥
      first_in z = grind (arith, z)

      rest_in : (d : ℕ) → (count d l ≡ 0 → ⊥) → count d (c ∷ l) ≡ 0 → ⊥
      rest_in d some z = some (grind (arith, z))

      in_rest : (b ≡ c → ⊥) → count b l ≡ 0 → ⊥
      in_rest other z = ne (grind (arith, z, other))

      by : (b ≡ c) ⊎ (b ≡ c → ⊥) → ((count b l ≡ 0 → ⊥) → LeadsTo m b (words_of m (Entry c field))) → LeadsTo m b (link c)
      by (inl is) further = subst (λ (d : ℕ). LeadsTo m d (link c)) (sym is) (leads_here c chain.0)
      by (inr other) further = leads_on c field (words_of m (Entry c field)) b (there c first_in) (further (in_rest other))
