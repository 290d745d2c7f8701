-- Chains: blocks that stand one below the other at a root. Each one's link names the next one, and the last one's names none.
use Rattle.std.specs.Prelude.{◌≡◌, ◌≤◌, ◌<◌, ◌+◌, ◌⊎◌, ℕ, zero, suc, true, List, [], ◌∷◌, Option, Some, None, IsSome}
use Rattle.seize_words.specs.OneMemory.Mem.{Mem, word_at}
use Rattle.seize_words.specs.OneMemory.Word.{block_in}
use Rattle.seize_words.specs.declared.at.At.TheVariants.{Root, Word}
use Rattle.seize.specs.Law.{holds}
use Rattle.seize.specs.World.{World, Hand, IsOwn, times}
use Rattle.seize.specs.World as world
use Rattle.seize_views.specs.declared.view.TheConstants.{LINK}
use Rattle.seize_views.specs.declared.view.Fixed.{Fixed}

-- how many roots there are, of single blocks and of chains
abbrev pub all_roots : Fixed → ℕ
all_roots fixed = fixed.roots + fixed.chains

-- the root is one at which a chain stands
abbrev pub IsChainRoot : Fixed → ℕ → Type 0
IsChainRoot fixed r = (fixed.roots ≤ r) × (r < all_roots fixed)

module _ {T : Type 0} where
  -- the link of the first block names the second one, 0 for none
  abbrev pub LinksTo : Mem T → ℕ → ℕ → Type 0
  LinksTo m b c = (word : ℕ) × (word_at m (Word b LINK) ≡ Some word) × (block_in word ≡ c)

  -- so many links down from the first block one comes to the second one
  abbrev pub IsBelow : Mem T → ℕ → ℕ → ℕ → Type 0
  IsBelow m zero b c = b ≡ c
  IsBelow m (suc n) b c = (next : ℕ) × LinksTo m b next × IsBelow m n next c

  -- this was seen of the link of a block, if it was looked at
  abbrev pub IsLinkSeen : Mem T → ℕ → Option ℕ → Type 0
  IsLinkSeen m b None = Unit {0}
  IsLinkSeen m b (Some c) = LinksTo m b c

module _ {T : Type 0} (defers : T → Option ℕ) where
  -- the block has a link, at which no list of further values begins
  abbrev pub HasLink : Mem T → ℕ → Type 0
  HasLink m b = IsOwn defers m (Word b LINK) × IsSome (word_at m (Word b LINK))

  -- the section of this slot holds the block, and all that stands below it
  abbrev pub HoldsAllBelow : World T → ℕ → ℕ → Type 0
  HoldsAllBelow w t b = (n c : ℕ) → IsBelow w.memory n b c → (c ≡ 0) ⊎ ((holds t c w.log ≡ true) × HasLink w.memory c)

  -- these blocks stand one below the other, from this one on
  abbrev pub StandBelow : Mem T → ℕ → List ℕ → Type 0
  StandBelow m c [] = c ≡ 0
  StandBelow m c (b ∷ blocks) = (c ≡ b) × HasLink m b × ((next : ℕ) × LinksTo m b next × StandBelow m next blocks)

  -- The blocks of the chain at a root: from the one that the root names on, they stand one below the other. They are those that are linked there, each once.
  pub record Chain (m : Mem T) (hand : ℕ → Hand) (r : ℕ) : Type 0 where
    pub word : ℕ
    pub at : word_at m (Root r) ≡ Some word
    pub blocks : List ℕ
    pub stand : StandBelow m (block_in word) blocks
    pub once : (b : ℕ) → hand b ≡ world.InUse r → times b blocks ≡ 1
    pub linked : (b : ℕ) → 0 < times b blocks → hand b ≡ world.InUse r
